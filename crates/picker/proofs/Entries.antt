-- Kept frames and their gains, as the code changes them. Assumes nothing.
use Rattle.std.proofs.Common.{◌≡◌, ℕ, zero, suc, ◌+◌, ◌<◌, ◌≤◌, true, cond, ◌&&◌, ltb, leb, List, [], ◌∷◌, ◌++◌, map, length, get_or, set, refl, ap, ◌∙◌, arith}
use Rattle.std.proofs.lemmas.List.{map_push, map-set, length-map, length-set, length_push, get_or-map}
use Rattle.std.proofs.lemmas.List.Sums.{sum_by_push, sum_by-set, get_or-le-sum_by}
use Rattle.std.proofs.lemmas.Bool.{le-leb, leb-true, lt-ltb, and_from, and_parts, cond-true}
use Rattle.frames.specs.declared.frame.Frame.{Frame}
use Rattle.frames.specs.declared.entry.Entry.{Entry}
use Rattle.frames.specs.Frames.{InRange, in_range}
use Rattle.kept.specs.Tables.{held, no_frame, gain_at}
use Rattle.picker.specs.Entries.{sound, total}

abbrev pub entry : Frame → ℕ → Entry
entry x g = record { frame = x; gain = g }

pub in_range_test : (x : Frame) → InRange x → in_range x ≡ true
in_range_test x h =
    and_from _ _ (and_from _ _ (and_from _ _ (and_from _ _ (and_from _ _ (and_from _ _ (le-leb _ _ h.number) (le-leb _ _ h.marks)) (le-leb _ _ h.look)) (le-leb _ _ h.lane)) (le-leb _ _ h.tail)) (le-leb _ _ h.head)) (le-leb _ _ h.side)

module _ (x : Frame) (g : ℕ) (r : InRange x) (l : g ≤ 4294967295) where
  here : (in_range x && leb g 4294967295) ≡ true
  here = and_from _ _ (in_range_test x r) (le-leb g 4294967295 l)

  pub sound_push : (es : List (Frame × ℕ)) → sound es ≡ true → sound (es ++ ((x, g) ∷ [])) ≡ true
  sound_push [] h = and_from _ _ here refl
  sound_push (e ∷ es) h = let two = and_parts _ (sound es) h in and_from _ _ two.0 (sound_push es two.1)

  pub sound-set : (es : List (Frame × ℕ)) (p : ℕ) → sound es ≡ true → sound (set es p (x, g)) ≡ true
  sound-set [] p h = h
  sound-set (e ∷ es) zero h = let two = and_parts (in_range e.0 && leb e.1 4294967295) (sound es) h in and_from _ _ here two.1
  sound-set (e ∷ es) (suc p) h = let two = and_parts (in_range e.0 && leb e.1 4294967295) (sound es) h in and_from _ _ two.0 (sound-set es p two.1)

as_pair : Entry → Frame × ℕ
as_pair e = (e.frame, e.gain)

module _ (es fs : List Entry) (x : Frame) (g : ℕ) where
  pub held_push : length (held es) < 48 → fs ≡ cond (ltb (length es) 48) (es ++ entry x g ∷ []) es → held fs ≡ held es ++ ((x, g) ∷ [])
  unfolding as_pair
  held_push l h =
      let few : length es < 48 = omega (arith, length-map es as_pair) in
      ap (map as_pair) (h ∙ cond-true _ _ _ (lt-ltb _ _ few)) ∙ map_push as_pair es (entry x g)

  pub held-set : (p : ℕ) → fs ≡ set es p (entry x g) → held fs ≡ set (held es) p (x, g)
  unfolding as_pair
  held-set p h = ap (map as_pair) h ∙ map-set as_pair es p (entry x g)

module _ (es : List (Frame × ℕ)) (x : Frame) (g : ℕ) where
  pub total_push : total (es ++ ((x, g) ∷ [])) ≡ total es + g
  total_push = sum_by_push (λ (e : Frame × ℕ). e.1) es (x, g)

  -- a place's gain leaves the sum, and g comes to it
  pub total-set : (p : ℕ) → p < length es → (gain_at es p ≤ total es) × (total (set es p (x, g)) + gain_at es p ≡ total es + g)
  total-set p l =
      let d : Frame × ℕ = (no_frame, 0) in
      let here : gain_at es p ≡ (get_or es p d).1 = get_or-map (λ (e : Frame × ℕ). e.1) es p d 0 l in
      (omega (arith, get_or-le-sum_by (λ (e : Frame × ℕ). e.1) es p d l), omega (arith, sum_by-set (λ (e : Frame × ℕ). e.1) es p (x, g) d l))

-- the kept entries once there is one more, or another at a place: how many, that all are sound, and the sum of their gains
module _ (x : Frame) (g : ℕ) (r : InRange x) (l : g ≤ 4294967295) (es fs : List Entry) (good : sound (held es) ≡ true) where
  pub pushed : length (held es) < 48 → fs ≡ cond (ltb (length es) 48) (es ++ entry x g ∷ []) es → (length (held fs) ≡ length (held es) + 1) × (sound (held fs) ≡ true) × (total (held fs) ≡ total (held es) + g)
  pushed few h =
      let e = held_push es fs x g few h in
      (ap length e ∙ length_push (held es) (x, g), ap sound e ∙ sound_push x g r l (held es) good, ap total e ∙ total_push (held es) x g)

  pub replaced : (p : ℕ) → p < length (held es) → fs ≡ set es p (entry x g) → (length (held fs) ≡ length (held es)) × (sound (held fs) ≡ true) × (gain_at (held es) p ≤ total (held es)) × (total (held fs) + gain_at (held es) p ≡ total (held es) + g)
  replaced p k h =
      let e = held-set es fs x g p h in
      let moved = total-set (held es) x g p k in
      (ap length e ∙ length-set (held es) p (x, g), ap sound e ∙ sound-set x g r l (held es) p good, moved.0, omega (arith, ap total e, moved.1))

pub in_range_lem : (x : Frame) → in_range x ≡ true → InRange x
in_range_lem x h =
    let a = and_parts _ _ h in
    let b = and_parts _ _ a.0 in
    let c = and_parts _ _ b.0 in
    let d = and_parts _ _ c.0 in
    let e = and_parts _ _ d.0 in
    let f = and_parts (leb x.number 4294967295) (leb x.marks 18446744073709551615) e.0 in
    record {
      number = leb-true _ _ f.0;
      marks = leb-true _ _ f.1;
      look = leb-true _ _ e.1;
      lane = leb-true _ _ d.1;
      tail = leb-true _ _ c.1;
      head = leb-true _ _ b.1;
      side = leb-true _ _ a.1;
    }

-- each kept entry is a frame that a record can hold, with a gain of 32 bits
pub sound_at : (es : List Entry) (i : ℕ) (d : Entry) → sound (held es) ≡ true → i < length es → InRange (get_or es i d).frame × ((get_or es i d).gain ≤ 4294967295)
sound_at [] i d h l = absurd (omega arith)
sound_at (e ∷ es) zero d h l =
    let two = and_parts (in_range e.frame && leb e.gain 4294967295) (sound (held es)) h in
    let here = and_parts (in_range e.frame) (leb e.gain 4294967295) two.0 in
    (in_range_lem e.frame here.0, leb-true e.gain 4294967295 here.1)
sound_at (e ∷ es) (suc i) d h l =
    let two = and_parts (in_range e.frame && leb e.gain 4294967295) (sound (held es)) h in
    sound_at es i d two.1 (omega arith)
