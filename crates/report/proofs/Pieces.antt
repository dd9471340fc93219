-- Texts written one after another at the front of a buffer. Assumes nothing.
use Rattle.std.proofs.Common.{◌≡◌, ℕ, ◌+◌, ◌-◌, ◌≤◌, List, ◌++◌, length, take, drop, sym, ap, ◌∙◌, arith}
use borrow.Rule.Slice.PartMut.{put_mid}
use Rattle.std.proofs.lemmas.List.{append_assoc, append-nil, length-append, length-drop, length-take-le, take_at, take_rest, drop_at, drop-drop, drop_all}
use Rattle.records.specs.Sheets.{over}

-- t behind s
pub over_append : (s t xs : List ℕ) → s ++ over t (drop (length s) xs) ≡ over (s ++ t) xs
over_append s t xs = simp (append_assoc, length-append, drop-drop)

-- the first `at` bytes of `out` are written, and `rest` put behind them makes `whole` over `before`
pub record Left (whole rest : List ℕ) (at : ℕ) (out before : List ℕ) : Type 0 where
  pub long : length out ≡ length before
  pub within : at ≤ length out
  pub left : at + length rest ≡ length whole
  pub same : take at out ++ over rest (drop at out) ≡ over whole before

-- what is put in the rest of the buffer ends it
put_rest : (at : ℕ) (out part : List ℕ) → put_mid at (length out - at) out part ≡ take at out ++ part
put_rest at out part =
    let ys = drop at out in
    let n = length out - at in
    let short : length ys ≤ n = omega (arith, length-drop at out) in
    ap (λ zs. take at out ++ zs) (ap (λ zs. part ++ zs) (drop_all n ys short) ∙ append-nil part)

-- how long the rest of the buffer is
rest_long : (at : ℕ) (out : List ℕ) → length (take (length out - at) (drop at out)) ≡ length out - at
rest_long at out = ap length (take_rest out at) ∙ length-drop at out

-- t put behind s
pub both_put : (s t : List ℕ) (at : ℕ) (out part before : List ℕ) → at ≡ length s → length s ≤ length before → out ≡ over s before
    → part ≡ over t (take (length out - at) (drop at out)) → put_mid at (length out - at) out part ≡ over (s ++ t) before
both_put s t at out part before is room first second =
    let back = drop (length s) before in
    let front : take at out ≡ s = ap (take at) first ∙ take_at s back at (sym is) in
    let rest : drop at out ≡ back = ap (drop at) first ∙ drop_at s back at (sym is) in
    let some : part ≡ over t back = second ∙ ap (over t) (take_rest out at ∙ rest) in
    put_rest at out part ∙ ap (λ zs. zs ++ part) front ∙ ap (λ zs. s ++ zs) some ∙ over_append s t before

-- one more text
pub left_more : (whole r t rest : List ℕ) (at n : ℕ) (out part before : List ℕ) → r ≡ t ++ rest → Left whole r at out before
    → n ≡ length t → length t ≤ length (take (length out - at) (drop at out)) → part ≡ over t (take (length out - at) (drop at out))
    → Left whole rest (at + n) (put_mid at (length out - at) out part) before
left_more whole r t rest at n out part before e l is room p =
    let ys = drop at out in
    let split : length r ≡ length t + length rest = ap length e ∙ length-append t rest in
    let fits : at + length t ≤ length out = omega (arith, rest_long at out, l.within) in
    let front = take at out ++ t in
    let back = drop (length t) ys in
    let all = put_mid at (length out - at) out part in
    let some : part ≡ t ++ back = p ∙ ap (over t) (take_rest out at) in
    let parts : all ≡ front ++ back = put_rest at out part ∙ ap (λ zs. take at out ++ zs) some ∙ sym (append_assoc (take at out) t back) in
    let long : length front ≡ at + n = omega (arith, length-append (take at out) t, length-take-le at out l.within) in
    let all_long : length all ≡ length out = omega (arith, ap length parts, length-append front back, length-drop (length t) ys, length-drop at out) in
    let fronts : take (at + n) all ≡ front = ap (take (at + n)) parts ∙ take_at front back (at + n) long in
    let backs : drop (at + n) all ≡ back = ap (drop (at + n)) parts ∙ drop_at front back (at + n) long in
    record {
      long = all_long ∙ l.long;
      within = omega (arith, all_long, fits);
      left = omega arith;
      same =
          ap (λ zs. zs ++ over rest (drop (at + n) all)) fronts ∙ ap (λ zs. front ++ over rest zs) backs
          ∙ append_assoc (take at out) t (over rest back)
          ∙ ap (λ zs. take at out ++ zs) (over_append t rest ys ∙ ap (λ zs. over zs ys) (sym e))
          ∙ l.same;
    }
