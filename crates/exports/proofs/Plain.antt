-- What an exported call comes to, by its number alone. Assumes nothing.
use Rattle.std.proofs.Common.{◌≡◌, ◌≢◌, ℕ, ◌+◌, ◌*◌, ◌%◌, ◌≤◌, min, Bool, true, false, cond, leb, List, [], length, Some, None, Ok, Err, Option, Result, ap, ◌∙◌, arith}
use Rattle.frames.specs.Refusals.{number_of}
use Rattle.frames.specs.declared.frame.Frame.{Frame}
use Rattle.frames.specs.declared.refusal.Refusal.{Refusal}
use Rattle.encoding.specs.Requests.{Requested, Encodes}
use Rattle.serving.specs.declared.refusal.RunRefusal.{RunRefusal}
use Rattle.serving.specs.declared.refusal.RunRefusal.TheVariants.{BadCalls, ShortAnswers}
use Rattle.serving.specs.Serving.{Decodes, due_all, answered_all, ran_of, Served}
use Rattle.exports.specs.Piles.{served_as}
use Rattle.exports.specs.Plain.{ExportedStands}
use Rattle.exports.proofs.Served.{served_told}

-- refusals have the numbers 1 to 12
few_numbers : (x : Refusal) → (1 ≤ number_of x) × (number_of x ≤ 12)
few_numbers x = (grind arith, grind arith)

-- so a refused argument is told by a number whose low bits are not all 0
low_bits : (a b c : ℕ) → 1 ≤ a → a ≤ 12 → (a + 256 * b + 65536 * c) % 65536 ≢ 0
low_bits a b c h k e = omega arith

module _ (f : List Frame → ℕ) (adm : List Frame → Bool) (n : ℕ) (bytes before : List ℕ) where
  -- a run that is not refused had room for its answers, and its bytes are calls
  ran_if : (b : Bool) (due : ℕ) (cs : List Requested) (after : List ℕ) → Encodes cs bytes → ◌≡◌ {A = Result ℕ RunRefusal × List ℕ} (Ok due, after) (cond b (Ok (due_all cs), answered_all f adm n [] cs before) (Err ShortAnswers, before))
      → (cs : List Requested) × Encodes cs bytes × (65536 * due ≡ 65536 * due_all cs) × (after ≡ answered_all f adm n [] cs before)
  ran_if true due cs after e is = let told : ◌≡◌ {A = Result ℕ RunRefusal} (Ok due) (Ok (due_all cs)) = ap (λ x. x.0) is in (cs, e, cc, ap (λ x. x.1) is)
  ran_if false due cs after e is = let apart : ◌≡◌ {A = Result ℕ RunRefusal} (Ok due) (Err ShortAnswers) = ap (λ x. x.0) is in absurd cc

  ran_calls : (o : Option (List Requested)) (due : ℕ) (after : List ℕ) → Decodes bytes o → (Ok due, after) ≡ ran_of f adm n o before
      → (cs : List Requested) × Encodes cs bytes × (65536 * due ≡ 65536 * due_all cs) × (after ≡ answered_all f adm n [] cs before)
  unfolding ran_of
  ran_calls None due after d is = let apart : ◌≡◌ {A = Result ℕ RunRefusal} (Ok due) (Err BadCalls) = ap (λ x. x.0) is in absurd cc
  ran_calls (Some cs) due after d is = ran_if (leb (due_all cs) (min (length before) 281474976710655)) due cs after d is

  ran_plain : (r : ℕ) (after : List ℕ) (a : Result ℕ RunRefusal) → r ≡ served_as a → Served f adm n bytes before a after → (r % 65536 ≢ 0 → after ≡ before) × (r % 65536 ≡ 0 → (cs : List Requested) × Encodes cs bytes × (r ≡ 65536 * due_all cs) × (after ≡ answered_all f adm n [] cs before))
  ran_plain r after (Ok due) is s = (λ h. absurd (h (omega arith)), λ h. let b = ran_calls s.calls due after s.decodes s.ran in (b.0, b.1, is ∙ b.2, b.3))
  ran_plain r after (Err BadCalls) is s = (λ h. served_told f adm n bytes before (Err BadCalls) after s, λ h. absurd (omega arith))
  ran_plain r after (Err ShortAnswers) is s = (λ h. served_told f adm n bytes before (Err ShortAnswers) after s, λ h. absurd (omega arith))

pub exported_stands : ExportedStands
exported_stands (Some e) f adm n bytes before r after (is, same) =
    let few = few_numbers e.fault.refusal in
    let low = low_bits (number_of e.fault.refusal) e.place (e.fault.index % 281474976710656) few.0 few.1 in
    record { refused = λ h. same; served = λ h. absurd (low cc); promise = λ h. absurd (low cc) }
exported_stands None f adm n bytes before r after ran =
    let both = ran_plain f adm n bytes before r after ran.answer ran.number ran.served in
    record { refused = both.0; served = both.1; promise = λ h. ran.promise }
