use Rattle.std.proofs.Common.{◌≡◌, ◌+◌, ◌∷◌, length, None, sym, refl, ◌∙◌, subst, ap₂, arith}
use Rattle.encoding.specs.Reading.{Reads}
use Rattle.encoding.specs.Requests.{offer, text, look_up, print_out}
use Rattle.encoding.proofs.Heads.{head_by, no_offer}
use Rattle.encoding.proofs.read.read_kind.Goals as goal

pub returns-in_err-frame_in-in-1 : goal.returns-in_err-frame_in-in-1
returns-in_err-frame_in-in-1 c =
    let t = c.args.rest.now in
    subst (Reads (c.args.kind ∷ t)) (sym c.from_residual.ensures) (subst (λ k. Reads (k ∷ t) None) (sym c.in-1.is) (no_offer t c.in_err-frame_in-in-1.ensures))

pub returns-in_ok-frame_in-in-1 : goal.returns-in_ok-frame_in-in-1
returns-in_ok-frame_in-in-1 c =
    let b = c.in_ok-frame_in-in-1.ensures in
    let q = offer c.in_ok-frame_in-in-1.field-0 in
    let r = c.silent.ensures in
    (q, head_by (c.args.kind ∷ c.args.rest.now) c.silent.result q b.0 r.call r.length r.room b.1 (ap₂ (λ k t. k ∷ t) c.in-1.is b.2))

pub returns-in_ok-text-in-2 : goal.returns-in_ok-text-in-2
returns-in_ok-text-in-2 c =
    let b = c.in_ok-text-in-2.ensures in
    let q = text c.in_ok-text-in-2.text.now in
    let r = c.silent-in-2.ensures in
    let more : 5 + length c.in_ok-text-in-2.text.now ≡ length (2 ∷ 0 ∷ 0 ∷ 0 ∷ 0 ∷ c.in_ok-text-in-2.text.now) = omega arith in
    (q, head_by (c.args.kind ∷ c.args.rest.now) c.silent-in-2.result q b.0 r.call (r.length ∙ more) r.room b.1 (ap₂ (λ k t. k ∷ t) c.in-2.is b.2))

pub returns-in_ok-u32_in-in-3 : goal.returns-in_ok-u32_in-in-3
returns-in_ok-u32_in-in-3 c =
    let b = c.in_ok-u32_in-in-3.ensures in
    let q = look_up c.in_ok-u32_in-in-3.field-0 in
    let r = c.silent-in-3.ensures in
    (q, head_by (c.args.kind ∷ c.args.rest.now) c.silent-in-3.result q b.0 r.call r.length r.room b.1 (ap₂ (λ k t. k ∷ t) c.in-3.is b.2))

pub returns-in_ok-u32_in-in-5 : goal.returns-in_ok-u32_in-in-5
returns-in_ok-u32_in-in-5 c =
    let b = c.in_ok-u32_in-in-5.ensures in
    let q = print_out c.in_ok-u32_in-in-5.field-0 in
    (q, head_by (c.args.kind ∷ c.args.rest.now) _ q b.0 refl refl refl b.1 (ap₂ (λ k t. k ∷ t) c.in-5.is b.2))
