-- Bytes at the front of a buffer that has room for them. Assumes nothing.
use Rattle.std.proofs.Common.{◌≡◌, ℕ, ◌+◌, ◌<◌, ◌≤◌, Bool, true, cond, leb, Bor, List, ◌++◌, length, get_or, take, drop, sym, ap, ◌∙◌, ap₂, arith}
use borrow.Rule.Slice.PartMut.{put_mid}
use Rattle.std.specs.List.{flat_map}
use Rattle.std.proofs.lemmas.Bool.{le-leb}
use Rattle.std.proofs.lemmas.List.{append_assoc, at_drop_more, drop_all, drop-drop, length-append, length-drop, length-take-le, take-append-drop}
use Rattle.std.proofs.lemmas.Slice.{drop-put_mid, take-put_mid}
use Rattle.records.specs.Sheets.{over}
use Rattle.report.proofs.Pieces.{over_append}
use Rattle.encoding.specs.Answers.{placed}

pub placed_by : (t s : List ℕ) (b : Bool) → b ≡ leb (length t) (length s) → placed t s ≡ cond b (over t s) s
unfolding placed
placed_by t s b e = ap (λ b. cond b (over t s) s) (sym e)

pub placed_fits : (t s : List ℕ) → length t ≤ length s → placed t s ≡ over t s
placed_fits t s h = placed_by t s true (sym (le-leb (length t) (length s) h))

-- the parts, one behind the other
abbrev pub joined : List (Bor (List ℕ)) → List ℕ
joined ps = flat_map (λ p. p.now) ps

-- the bytes before `at` are written, and the rest put behind them makes `whole` over `before`
pub record Left (whole rest : List ℕ) (at : ℕ) (out before : List ℕ) : Type 0 where
  pub within : at + length rest ≤ length out
  pub same : take at out ++ over rest (drop at out) ≡ over whole before

pub left_more : (whole r t rest : List ℕ) (at n : ℕ) (out before : List ℕ) → r ≡ t ++ rest → n ≡ length t → Left whole r at out before → Left whole rest (at + n) (put_mid at n out t) before
left_more whole r t rest at n out before e is l =
    let ys = drop at out in
    let all = put_mid at n out t in
    let split : length r ≡ length t + length rest = ap length e ∙ length-append t rest in
    let room : at + n ≤ length out = omega (arith, l.within) in
    let fronts : take (at + n) all ≡ take at out ++ t = take-put_mid at n out t (at + n) (omega arith) (omega arith) in
    let backs : drop (at + n) all ≡ drop (length t) ys = drop-put_mid at n out t (at + n) (omega arith) (omega arith) (sym is) ∙ sym (drop-drop n at out) ∙ ap (λ k. drop k ys) is in
    let long : length all ≡ length out = omega (arith, length-append (take at out) (t ++ drop n ys), length-append t (drop n ys), length-take-le at out (omega arith), length-drop n ys, length-drop at out) in
    record {
      within = omega (arith, long, l.within);
      same =
          ap₂ (λ s u. s ++ over rest u) fronts backs
          ∙ append_assoc (take at out) t (over rest (drop (length t) ys))
          ∙ ap (λ s. take at out ++ s) (over_append t rest ys ∙ ap (λ s. over s ys) (sym e))
          ∙ l.same;
    }

module _ (parts : List (Bor (List ℕ))) (i : ℕ) (d : Bor (List ℕ)) (h : i < length parts) where
  -- part i stands before those behind it
  part_first : joined (drop i parts) ≡ (get_or parts i d).now ++ joined (drop (i + 1) parts)
  part_first = at_drop_more joined parts i d h

  pub part_long : length (get_or parts i d).now ≤ length (joined (drop i parts))
  part_long = omega (arith, ap length part_first, length-append (get_or parts i d).now (joined (drop (i + 1) parts)))

  pub part_put : (at n : ℕ) (t out before : List ℕ) → t ≡ (get_or parts i d).now → n ≡ length t → Left (joined parts) (joined (drop i parts)) at out before → Left (joined parts) (joined (drop (i + 1) parts)) (at + n) (put_mid at n out t) before
  part_put at n t out before is long l = left_more (joined parts) (joined (drop i parts)) t (joined (drop (i + 1) parts)) at n out before (part_first ∙ ap (λ t. t ++ joined (drop (i + 1) parts)) (sym is)) long l

-- nothing is left to be put
pub left_none : (parts : List (Bor (List ℕ))) (i at : ℕ) (out before : List ℕ) → length parts ≤ i → Left (joined parts) (joined (drop i parts)) at out before → out ≡ over (joined parts) before
left_none parts i at out before h l =
    sym (take-append-drop at out) ∙ ap (λ ps. take at out ++ over (joined ps) (drop at out)) (sym (drop_all i parts h)) ∙ l.same
