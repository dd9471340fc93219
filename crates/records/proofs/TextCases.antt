-- The records at the front of a text.
use Rattle.std.proofs.Common.{◌≡◌, ℕ, zero, suc, ◌+◌, ◌<◌, ◌≤◌, true, ◌⊎◌, List, [], ◌∷◌, ◌++◌, length, is_err, Ok, Err, Result, sym, refl, ap, ◌∙◌, subst, inl, inr, ⊎_elim, append_assoc, arith, length-append}
use Rattle.std.specs.List.{flat_map}
use Rattle.frames.specs.declared.frame.Frame.{Frame}
use Rattle.records.specs.Format.{shown}
use Rattle.records.specs.Reading.{Wrong, read_record, frames_up_to, left_up_to, frames_in, left_in}
use Rattle.records.specs.Claims.{Split}
use Rattle.std.proofs.lemmas.Bool.{false≢true}
use Rattle.records.proofs.Roundtrip.{read_shown, record_shown}

-- a record has a byte or more
pub shown-some : (x : Frame) → 0 < length (shown x)
shown-some x = omega arith

-- a record that was read leaves less of the text
pub record_shortens : (s : List ℕ) (x : Frame) (rest : List ℕ) → read_record s ≡ Ok (x, rest) → length s ≡ length (shown x) + length rest
record_shortens s x rest e = ap length (record_shown s x rest e).1 ∙ length-append (shown x) rest

-- one record, and then the others
up_to_more : (n : ℕ) (s : List ℕ) (x : Frame) (rest : List ℕ) → read_record s ≡ Ok (x, rest) → (frames_up_to (suc n) s ≡ x ∷ frames_up_to n rest) × (left_up_to (suc n) s ≡ left_up_to n rest)
up_to_more n s x rest e = (rw (e, frames_up_to), rw (e, left_up_to))

up_to_none : (n : ℕ) (s : List ℕ) (w : Wrong) → read_record s ≡ Err w → (frames_up_to n s ≡ []) × (left_up_to n s ≡ s)
up_to_none zero s w e = (refl, refl)
up_to_none (suc n) s w e = (rw (e, frames_up_to), rw (e, left_up_to))

-- either a record was read or not
pub read_or : (s : List ℕ) → ((x : Frame) × (rest : List ℕ) × (read_record s ≡ Ok (x, rest))) ⊎ ((w : Wrong) × (read_record s ≡ Err w))
read_or s = way (read_record s) refl
  where
    way : (r : Result (Frame × List ℕ) Wrong) → read_record s ≡ r → ((x : Frame) × (rest : List ℕ) × (read_record s ≡ Ok (x, rest))) ⊎ ((w : Wrong) × (read_record s ≡ Err w))
    way (Ok p) e = inl (p.0, p.1, e)
    way (Err w) e = inr (w, e)

-- no record is empty
pub no_bytes : (s : List ℕ) (x : Frame) (rest : List ℕ) → read_record s ≡ Ok (x, rest) → length rest < length s
no_bytes s x rest e = omega (arith, record_shortens s x rest e, shown-some x)

-- as many turns as there are bytes suffice
abbrev Same : ℕ → ℕ → List ℕ → Type 0
Same n m s = (frames_up_to n s ≡ frames_up_to m s) × (left_up_to n s ≡ left_up_to m s)

same_none : (n m : ℕ) (s : List ℕ) → (w : Wrong) × (read_record s ≡ Err w) → Same n m s
same_none n m s h =
    let a = up_to_none n s h.0 h.1 in
    let b = up_to_none m s h.0 h.1 in
    (a.0 ∙ sym b.0, a.1 ∙ sym b.1)

same_more : (n m : ℕ) (s : List ℕ) → length s ≤ suc n → length s ≤ m → ((m : ℕ) (s : List ℕ) → length s ≤ n → length s ≤ m → Same n m s) → (x : Frame) × (rest : List ℕ) × (read_record s ≡ Ok (x, rest)) → Same (suc n) m s
same_more n zero s p q ih h = absurd (omega (arith, no_bytes s h.0 h.1 h.2))
same_more n (suc m) s p q ih h =
    let l = no_bytes s h.0 h.1 h.2 in
    let t = ih m h.1 (omega (arith, l)) (omega (arith, l)) in
    let a = up_to_more n s h.0 h.1 h.2 in
    let b = up_to_more m s h.0 h.1 h.2 in
    (a.0 ∙ (ap (λ (fs : List Frame). h.0 ∷ fs) t.0 ∙ sym b.0), a.1 ∙ (t.1 ∙ sym b.1))

turns : (n m : ℕ) (s : List ℕ) → length s ≤ n → length s ≤ m → Same n m s
turns zero m s p q = ⊎_elim (λ (h : (x : Frame) × (rest : List ℕ) × (read_record s ≡ Ok (x, rest))). absurd (omega (arith, no_bytes s h.0 h.1 h.2))) (same_none zero m s) (read_or s)
turns (suc n) m s p q = ⊎_elim (same_more n m s p q (turns n)) (same_none (suc n) m s) (read_or s)

-- a record at the front of a text is the first of its frames
pub frames_more : (s : List ℕ) (x : Frame) (rest : List ℕ) → read_record s ≡ Ok (x, rest) → frames_in s ≡ x ∷ frames_in rest
unfolding frames_in
frames_more s x rest e =
    (turns (length s) (suc (length s)) s (omega arith) (omega arith)).0
    ∙ ((up_to_more (length s) s x rest e).0 ∙ ap (λ (fs : List Frame). x ∷ fs) (turns (length s) (length rest) rest (omega (arith, no_bytes s x rest e)) (omega arith)).0)

pub left_more : (s : List ℕ) (x : Frame) (rest : List ℕ) → read_record s ≡ Ok (x, rest) → left_in s ≡ left_in rest
unfolding left_in
left_more s x rest e =
    (turns (length s) (suc (length s)) s (omega arith) (omega arith)).1
    ∙ ((up_to_more (length s) s x rest e).1 ∙ (turns (length s) (length rest) rest (omega (arith, no_bytes s x rest e)) (omega arith)).1)

-- where no record can be read there are no frames, and all is left
pub frames_none : (s : List ℕ) (w : Wrong) → read_record s ≡ Err w → frames_in s ≡ []
unfolding frames_in
frames_none s w e = (up_to_none (length s) s w e).0

pub left_none : (s : List ℕ) (w : Wrong) → read_record s ≡ Err w → left_in s ≡ s
unfolding left_in
left_none s w e = (up_to_none (length s) s w e).1

stopped : (s : List ℕ) → is_err (read_record s) ≡ true → (w : Wrong) × (read_record s ≡ Err w)
stopped s h =
    ⊎_elim
    (λ (r : (x : Frame) × (rest : List ℕ) × (read_record s ≡ Ok (x, rest))). absurd (false≢true (sym (ap is_err r.2) ∙ h)))
    (λ (r : (w : Wrong) × (read_record s ≡ Err w)). r)
    (read_or s)

abbrev Splits : List ℕ → Type 0
Splits s = Split s (frames_in s) (left_in s)

split_none : (s : List ℕ) → (w : Wrong) × (read_record s ≡ Err w) → Splits s
split_none s h =
    subst (λ (fs : List Frame). Split s fs (left_in s)) (sym (frames_none s h.0 h.1)) (subst (λ (t : List ℕ). Split s [] t) (sym (left_none s h.0 h.1)) (record { printed = refl; range = tt; stops = ap is_err h.1 }))

split_more : (s : List ℕ) (x : Frame) (rest : List ℕ) → read_record s ≡ Ok (x, rest) → Splits rest → Splits s
split_more s x rest e t =
    let q = record_shown s x rest e in
    let whole : s ≡ (shown x ++ flat_map shown (frames_in rest)) ++ left_in rest = q.1 ∙ (ap (λ (t : List ℕ). shown x ++ t) t.printed ∙ sym (append_assoc (shown x) (flat_map shown (frames_in rest)) (left_in rest))) in
    subst (λ (fs : List Frame). Split s fs (left_in s)) (sym (frames_more s x rest e)) (subst (λ (t : List ℕ). Split s (x ∷ frames_in rest) t) (sym (left_more s x rest e)) (record { printed = whole; range = (q.0, t.range); stops = t.stops }))

split_up_to : (n : ℕ) (s : List ℕ) → length s ≤ n → Splits s
split_up_to zero s p = ⊎_elim (λ (h : (x : Frame) × (rest : List ℕ) × (read_record s ≡ Ok (x, rest))). absurd (omega (arith, no_bytes s h.0 h.1 h.2))) (split_none s) (read_or s)
split_up_to (suc n) s p =
    ⊎_elim
    (λ (h : (x : Frame) × (rest : List ℕ) × (read_record s ≡ Ok (x, rest))). split_more s h.0 h.1 h.2 (split_up_to n h.1 (omega (arith, no_bytes s h.0 h.1 h.2))))
    (split_none s)
    (read_or s)

-- a text is the records of its frames, and what is left
pub text_splits : (s : List ℕ) → Split s (frames_in s) (left_in s)
text_splits s = split_up_to (length s) s (omega arith)

-- and in no other way
pub split_unique : (fs : List Frame) (s rest : List ℕ) → Split s fs rest → (fs ≡ frames_in s) × (rest ≡ left_in s)
split_unique [] s rest h =
    let w = stopped rest h.stops in
    let e = h.printed in
    (sym (ap frames_in e ∙ frames_none rest w.0 w.1), sym (ap left_in e ∙ left_none rest w.0 w.1))
split_unique (x ∷ fs) s rest h =
    let e : s ≡ shown x ++ (flat_map shown fs ++ rest) = h.printed ∙ append_assoc (shown x) (flat_map shown fs) rest in
    let r : read_record s ≡ Ok (x, flat_map shown fs ++ rest) = ap read_record e ∙ read_shown x h.range.0 (flat_map shown fs ++ rest) in
    let t = split_unique fs (flat_map shown fs ++ rest) rest (record { printed = refl; range = h.range.1; stops = h.stops }) in
    (ap (λ (gs : List Frame). x ∷ gs) t.0 ∙ sym (frames_more s x (flat_map shown fs ++ rest) r), t.1 ∙ sym (left_more s x (flat_map shown fs ++ rest) r))
