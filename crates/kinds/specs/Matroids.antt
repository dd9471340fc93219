-- Which bags of frames are independent, by kind. Assumes nothing.
use Rattle.std.specs.Prelude.{◌≡◌, ℕ, zero, suc, ◌<◌, ◌≤◌, Bool, true, not, ◌&&◌, ◌||◌, ◌⊎◌, List, length, count_by, filter, ◌==◌, nat_eq, nat_le, nat_lt, slice_index, slice_index_or}

-- at most c frames pass p
abbrev pub few : {A : Type 0} → (A → Bool) → ℕ → List A → Bool
few p c s = nat_le (count_by p s) c

-- no box below n has more frames than its cap
abbrev pub under_caps : {A : Type 0} → (ℕ → A → Bool) → (ℕ → ℕ) → ℕ → List A → Bool
under_caps box cap zero s = true
under_caps box cap (suc j) s = under_caps box cap j s && few (box j) (cap j) s

-- no frame is of a lane above 63, and no box below n has more frames than its cap
abbrev pub in_lanes : {A : Type 0} → (A → ℕ) → (ℕ → A → Bool) → List ℕ → ℕ → List A → Bool
in_lanes lane box caps n s = few (λ x. nat_lt 63 (lane x)) 0 s && under_caps box (λ j. slice_index caps j) n s

-- no lane has more frames than its cap
unfoldable pub partition : {A : Type 0} → (A → ℕ) → List ℕ → List A → Bool
partition lane caps s = in_lanes lane (λ l x. nat_eq (lane x) l) caps 64 s

-- the box that box b lies in; 255 where there is none
abbrev pub parent_of : List ℕ → ℕ → ℕ
parent_of parents b = slice_index_or parents b 255

-- box b is j, or its parent is, and so on, k times up
abbrev pub reaches : List ℕ → ℕ → ℕ → ℕ → Bool
reaches parents zero b j = b == j
reaches parents (suc k) b j = b == j || reaches parents k (parent_of parents b) j

-- box b is j or lies in it: as many times up as there are boxes
unfoldable pub lies_in : List ℕ → ℕ → ℕ → Bool
lies_in parents b j = reaches parents 96 b j

-- no box has more frames than its cap; the first 64 boxes are the lanes
unfoldable pub laminar : {A : Type 0} → (A → ℕ) → List ℕ → List ℕ → List A → Bool
laminar lane parents caps s = in_lanes lane (λ j x. lies_in parents (lane x) j) caps 96 s

-- box b may have the parent p: none, or a box from 64 to 95 with a number above b
abbrev pub may_hold : ℕ → ℕ → Bool
may_hold b p = p == 255 || (nat_lt b p && (nat_lt 63 p && nat_lt p 96))

-- a box has no parent, or one of the boxes from 64 to 95, which stands above it
abbrev pub Parents : List ℕ → Type 0
Parents parents = (length parents ≡ 96) × ((b : ℕ) → b < 96 → (parent_of parents b ≡ 255) ⊎ ((b < parent_of parents b) × (64 ≤ parent_of parents b) × (parent_of parents b < 96)))

-- adm may be asked of the frames that pass p and of the others apart
abbrev pub Splits : {A : Type 0} → (A → Bool) → (List A → Bool) → Type 0
Splits {A} p adm = (s : List A) → adm s ≡ (adm (filter p s) && adm (filter (λ x. not (p x)) s))

-- at most k frames
abbrev pub truncated : {A : Type 0} → (List A → Bool) → ℕ → List A → Bool
truncated adm k s = adm s && nat_le (length s) k

-- the frames of side 0 are independent in the first, the others in the second
abbrev pub direct_sum : {A : Type 0} → (A → ℕ) → (List A → Bool) → (List A → Bool) → List A → Bool
direct_sum side adm other s = adm (filter (λ x. nat_eq (side x) 0) s) && other (filter (λ x. not (side x == 0)) s)
