-- Distinct places of the arrivals, and the bag of what stands there. Assumes nothing.
use Rattle.std.proofs.Common.{◌≡◌, ℕ, zero, suc, ◌+◌, ◌<◌, ◌≤◌, Bool, ◌≢◌, List, [], ◌∷◌, ◌++◌, map, length, set, Some, None, Option, sym, refl, ap, ◌∙◌, ap₂, arith, if◌then◌else◌}
use Rattle.std.specs.List.{AllByRecursion, slice_get}
use Rattle.std.proofs.ByRecursion.{All-weaker, All-push, All-set}
use Rattle.std.proofs.lemmas.List.{map_push, map-set, length-map}
use Rattle.theory.specs.Bag.{count, Distinct, Drawn}
use Rattle.theory.proofs.Bags.{Within, count_cons}

-- how often z stands in what was found
abbrev found : {A : Type 0} → (A → A → Bool) → A → Option A → ℕ
found same z None = 0
found same z (Some y) = if same z y then 1 else 0

abbrev hits : {A : Type 0} → (A → A → Bool) → A → List A → List ℕ → ℕ
hits same z arrivals [] = 0
hits same z arrivals (p ∷ ps) = found same z (slice_get arrivals p) + hits same z arrivals ps

-- the places past the first, each one lower
abbrev downs : List ℕ → List ℕ
downs [] = []
downs (zero ∷ ps) = downs ps
downs (suc p ∷ ps) = p ∷ downs ps

downs_apart : (p : ℕ) (ps : List ℕ) → AllByRecursion (λ q. q ≢ suc p) ps → AllByRecursion (λ q. q ≢ p) (downs ps)
downs_apart p [] h = tt
downs_apart p (zero ∷ ps) h = downs_apart p ps h.1
downs_apart p (suc q ∷ ps) h = (λ e. h.0 (ap suc e), downs_apart p ps h.1)

downs_distinct : (ps : List ℕ) → Distinct ps → Distinct (downs ps)
downs_distinct [] h = tt
downs_distinct (zero ∷ ps) h = downs_distinct ps h.1
downs_distinct (suc p ∷ ps) h = (downs_apart p ps h.0, downs_distinct ps h.1)

module _ {A : Type 0} (same : A → A → Bool) (z : A) where
  hits_none : (ps : List ℕ) → hits same z [] ps ≡ 0
  hits_none [] = refl
  hits_none (p ∷ ps) = omega (arith, hits_none ps)

  hits_past : (y : A) (ys : List A) (ps : List ℕ) → AllByRecursion (λ q. q ≢ 0) ps → hits same z (y ∷ ys) ps ≡ hits same z ys (downs ps)
  hits_past y ys [] h = refl
  hits_past y ys (zero ∷ ps) h = absurd (h.0 refl)
  hits_past y ys (suc p ∷ ps) h = omega (arith, hits_past y ys ps h.1)

  hits_down : (y : A) (ys : List A) (ps : List ℕ) → Distinct ps → hits same z (y ∷ ys) ps ≤ (if same z y then 1 else 0) + hits same z ys (downs ps)
  hits_down y ys [] h = omega arith
  hits_down y ys (zero ∷ ps) h = omega (arith, hits_past y ys ps h.0)
  hits_down y ys (suc p ∷ ps) h = omega (arith, hits_down y ys ps h.1)

  hits_le : (arrivals : List A) (ps : List ℕ) → Distinct ps → hits same z arrivals ps ≤ count same z arrivals
  hits_le [] ps h = omega (arith, hits_none ps)
  hits_le (y ∷ ys) ps h = omega (arith, count_cons, hits_down y ys ps h, hits_le ys (downs ps) (downs_distinct ps h))

  hits_are : (arrivals : List A) (ps : List ℕ) (c : List A) → map (slice_get arrivals) ps ≡ map Some c → count same z c ≡ hits same z arrivals ps
  hits_are arrivals [] [] e = refl
  hits_are arrivals [] (x ∷ c) e = cc
  hits_are arrivals (p ∷ ps) [] e = cc
  hits_are arrivals (p ∷ ps) (x ∷ c) e =
      let head : slice_get arrivals p ≡ Some x = cc in
      let tail : map (slice_get arrivals) ps ≡ map Some c = cc in
      omega (arith, count_cons, ap (found same z) head, hits_are arrivals ps c tail)

module _ {A : Type 0} where
  -- what is drawn lies in the arrivals
  pub drawn_within : (same : A → A → Bool) (arrivals : List A) (ps : List ℕ) (c : List A) → Drawn arrivals ps c → Within same c arrivals
  drawn_within same arrivals ps c d z = omega (arith, hits_are same z arrivals ps c d.1, hits_le same z arrivals ps d.0)

  pub length_drawn : (arrivals : List A) (ps : List ℕ) (c : List A) → map (slice_get arrivals) ps ≡ map Some c → length ps ≡ length c
  length_drawn arrivals ps c e = omega (arith, ap length e, length-map ps (slice_get arrivals), length-map c Some)

  nth_push : (s : List A) (y : A) (p : ℕ) → p < length s → slice_get (s ++ (y ∷ [])) p ≡ slice_get s p
  nth_push [] y p h = absurd (omega arith)
  nth_push (x ∷ s) y zero h = refl
  nth_push (x ∷ s) y (suc p) h = nth_push s y p (omega arith)

  nth_last : (s : List A) (y : A) → slice_get (s ++ (y ∷ [])) (length s) ≡ Some y
  nth_last [] y = refl
  nth_last (x ∷ s) y = nth_last s y

  nths_push : (s : List A) (y : A) (ps : List ℕ) → AllByRecursion (λ p. p < length s) ps → map (slice_get (s ++ (y ∷ []))) ps ≡ map (slice_get s) ps
  nths_push s y [] h = refl
  nths_push s y (p ∷ ps) h = ap₂ ◌∷◌ (nth_push s y p h.0) (nths_push s y ps h.1)

distinct_push : (i : ℕ) (ps : List ℕ) → AllByRecursion (λ p. p < i) ps → Distinct ps → Distinct (ps ++ (i ∷ []))
distinct_push i [] b h = (tt, tt)
distinct_push i (p ∷ ps) b h = (All-push (λ q. q ≢ p) ps i h.0 (omega (arith, b.0)), distinct_push i ps b.1 h.1)

distinct_set : (i : ℕ) (ps : List ℕ) (k : ℕ) → AllByRecursion (λ p. p < i) ps → Distinct ps → Distinct (set ps k i)
distinct_set i [] k b h = tt
distinct_set i (p ∷ ps) zero b h = (All-weaker (λ q. q < i) (λ q. q ≢ i) (λ q l. omega arith) ps b.1, h.1)
distinct_set i (p ∷ ps) (suc k) b h = (All-set (λ q. q ≢ p) ps k i (omega (arith, b.0)) h.0, distinct_set i ps k b.1 h.1)

-- the elements of s stand in the arrivals seen so far, at distinct places
pub record Sourced {A : Type 0} (seen s : List A) : Type 0 where
  pub places : List ℕ
  pub below : AllByRecursion (λ p. p < length seen) places
  pub drawn : Drawn seen places s

module _ {A : Type 0} (seen : List A) (x : A) where
  more_below : (ps : List ℕ) → AllByRecursion (λ p. p < length seen) ps → AllByRecursion (λ p. p < length (seen ++ (x ∷ []))) ps
  more_below ps h = All-weaker (λ p. p < length seen) (λ p. p < length (seen ++ (x ∷ []))) (λ p l. omega (arith, lib.ListN.length-append seen (x ∷ []))) ps h

  pub sourced_more : (s : List A) → Sourced seen s → Sourced (seen ++ (x ∷ [])) s
  sourced_more s h = record { places = h.places; below = more_below h.places h.below; drawn = (h.drawn.0, nths_push seen x h.places h.below ∙ h.drawn.1) }

  pub sourced_push : (s : List A) → Sourced seen s → Sourced (seen ++ (x ∷ [])) (s ++ (x ∷ []))
  sourced_push s h =
      let ps = h.places in
      let i = length seen in
      let there : map (slice_get (seen ++ (x ∷ []))) ps ≡ map Some s = nths_push seen x ps h.below ∙ h.drawn.1 in
      record {
        places = ps ++ (i ∷ []);
        below = All-push (λ p. p < length (seen ++ (x ∷ []))) ps i (more_below ps h.below) (omega (arith, lib.ListN.length-append seen (x ∷ [])));
        drawn = (distinct_push i ps h.below h.drawn.0, map_push (slice_get (seen ++ (x ∷ []))) ps i ∙ ap₂ (λ u v. u ++ (v ∷ [])) there (nth_last seen x) ∙ sym (map_push Some s x));
      }

  pub sourced_set : (s : List A) (k : ℕ) → Sourced seen s → Sourced (seen ++ (x ∷ [])) (set s k x)
  sourced_set s k h =
      let ps = h.places in
      let i = length seen in
      let there : map (slice_get (seen ++ (x ∷ []))) ps ≡ map Some s = nths_push seen x ps h.below ∙ h.drawn.1 in
      record {
        places = set ps k i;
        below = All-set (λ p. p < length (seen ++ (x ∷ []))) ps k i (omega (arith, lib.ListN.length-append seen (x ∷ []))) (more_below ps h.below);
        drawn = (distinct_set i ps k h.below h.drawn.0, map-set (slice_get (seen ++ (x ∷ []))) ps k i ∙ ap₂ (λ u v. set u k v) there (nth_last seen x) ∙ sym (map-set Some s k x));
      }
