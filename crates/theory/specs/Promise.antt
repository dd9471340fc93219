-- What a replay promises, whatever the arrivals. Assumes nothing.
use Rattle.std.specs.Prelude.{◌≡◌, ℕ, ◌+◌, ◌-◌, ◌*◌, ◌≤◌, Bool, true, List, [], ◌∷◌, length, sum_by}
use Rattle.theory.specs.Bag.{Same, Drawn, Choice}
use Rattle.theory.specs.Laws.{Submodular, MatroidLaws}
use Rattle.theory.specs.Digits.{binary_length}
use Rattle.theory.specs.Replay.{State, frames, replay}

-- the gains of all that was accepted, newest first
abbrev pub told : {A : Type 0} → (List A → ℕ) → List A → ℕ
told f [] = 0
told f (x ∷ s) = (f (x ∷ s) - f s) + told f s

-- the gains of what is kept
abbrev pub gain : {A : Type 0} → State A → ℕ
gain st = sum_by (λ e. e.1) st.kept

pub record Promised {A : Type 0} (f : List A → ℕ) (adm : List A → Bool) (n : ℕ) (arrivals : List A) (st : State A) : Type 0 where
  pub admitted : adm (frames st.kept) ≡ true
  pub few : length st.kept ≤ n
  pub drawn : (ps : List ℕ) × Drawn arrivals ps (frames st.kept)
  -- no independent choice of at most n places has more than four times the value of what is kept
  pub quarter : (c : List A) → Choice arrivals n c → adm c ≡ true → f c ≤ 4 * f (frames st.kept)
  pub took : length st.accepted ≤ sum_by (λ e. binary_length e.1) st.kept
  pub tells : told f st.accepted ≡ f st.accepted
  pub bound : (c : List A) → Choice arrivals n c → adm c ≡ true → f c ≤ told f st.accepted + 2 * gain st
  pub twice : told f st.accepted ≤ 2 * gain st
  pub earned : gain st ≤ f (frames st.kept)

abbrev pub Stands : Type 0 → Type 0
Stands A = (same : A → A → Bool) (f : List A → ℕ) (adm : List A → Bool) (n : ℕ) → Same same → Submodular f → MatroidLaws same adm → (arrivals : List A) → Promised f adm n arrivals (replay f adm n arrivals)
