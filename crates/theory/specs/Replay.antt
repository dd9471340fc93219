-- The replay: each frame of the arrivals is offered once, and is kept, takes a kept frame's place, or is passed. Assumes nothing.
use Rattle.std.specs.Prelude.{ℕ, suc, ◌-◌, ◌*◌, Bool, ◌&&◌, List, [], ◌∷◌, ◌++◌, map, length, Some, None, fold, Option, if◌then◌else◌, ◌==◌, nat_le, nat_lt, slice_index, slice_set}
use Rattle.std.specs.List.{remove}

-- each kept frame with its gain, by place, and all frames that were ever accepted
pub record State (A : Type 0) : Type 0 where
  pub kept : List (A × ℕ)
  pub accepted : List A

abbrev pub frames : {A : Type 0} → List (A × ℕ) → List A
frames es = map (λ e. e.0) es

abbrev pub gains : {A : Type 0} → List (A × ℕ) → List ℕ
gains es = map (λ e. e.1) es

-- the place that counts and has the least gain, the lowest on a tie
abbrev pub lighter : Bool → ℕ → List ℕ → Option ℕ → Option ℕ
lighter here g gs None = if here then Some 0 else None
lighter here g gs (Some q) = if here && nat_le g (slice_index gs q) then Some 0 else Some (suc q)

abbrev pub lightest : (ℕ → Bool) → List ℕ → Option ℕ
lightest counts [] = None
lightest counts (g ∷ gs) = lighter (counts 0) g gs (lightest (λ p. counts (suc p)) gs)

-- what x adds to the value of what was accepted
abbrev pub gain_of : {A : Type 0} → (List A → ℕ) → State A → A → ℕ
gain_of f st x = f (x ∷ st.accepted) - f st.accepted

abbrev pub keep : {A : Type 0} → State A → A → ℕ → State A
keep st x g = record { kept = st.kept ++ ((x, g) ∷ []); accepted = x ∷ st.accepted }

abbrev pub swap : {A : Type 0} → State A → ℕ → A → ℕ → State A
swap st p x g = record { kept = slice_set st.kept p (x, g); accepted = x ∷ st.accepted }

-- x takes the place where its gain is at least twice the gain there
abbrev pub offer : {A : Type 0} → State A → A → ℕ → Option ℕ → State A
offer st x g None = st
offer st x g (Some p) = if nat_le (2 * slice_index (gains st.kept) p) g then swap st p x g else st

-- a place counts if x is independent with the kept frames but for the one there
abbrev pub may_take : {A : Type 0} → (List A → Bool) → List (A × ℕ) → A → ℕ → Bool
may_take adm es x p = adm (x ∷ remove (frames es) p)

-- fewer than n are kept, and x is independent with them
abbrev pub has_room : {A : Type 0} → (List A → Bool) → ℕ → List (A × ℕ) → A → Bool
has_room adm n es x = nat_lt (length es) n && adm (x ∷ frames es)

abbrev pub step : {A : Type 0} → (List A → ℕ) → (List A → Bool) → ℕ → State A → A → State A
step f adm n st x =
    let g = gain_of f st x in
    if g == 0
    then st
    else (if has_room adm n st.kept x then keep st x g else offer st x g (lightest (may_take adm st.kept x) (gains st.kept)))

abbrev pub start : {A : Type 0} → State A
start = record { kept = []; accepted = [] }

abbrev pub replay : {A : Type 0} → (List A → ℕ) → (List A → Bool) → ℕ → List A → State A
replay f adm n arrivals = fold (step f adm n) start arrivals
