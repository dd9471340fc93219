-- What an offer answers, and what it makes of a picker. Assumes nothing.
use Rattle.std.specs.Prelude.{◌≡◌, ℕ, ◌+◌, ◌-◌, Bool, if◌then◌else◌, List, [], ◌∷◌, ◌++◌, length, Some, None, Ok, Err, fold, Option, Result, ◌==◌}
use Rattle.theory.specs.Replay.{State, step}
use Rattle.theory.specs.Promise.{told}
use Rattle.frames.specs.declared.frame.Frame.{Frame}
use Rattle.frames.specs.declared.refusal.Refusal.{Refusal}
use Rattle.frames.specs.declared.refusal.Refusal.TheVariants.{Over, ShiftFull}
use Rattle.exchange.specs.declared.outcome.Outcome.{Outcome}
use Rattle.exchange.specs.Outcomes.{outcome_of}
use Rattle.kept.specs.Tables.{held}
use Rattle.picker.specs.declared.picker.Picker.{Picker}
use Rattle.picker.specs.Arrivals.{too_high}
use Rattle.picker.specs.Entries.{total}
use Rattle.objectives.specs.declared.objective.Objective.{Ghosts as Objective}
use Rattle.matroids.specs.declared.matroid.Matroid.{Ghosts as Matroid}

-- why a frame is not taken in: its lane or side is too high, or the shift is full
abbrev pub refusal_of : Frame → ℕ → Option Refusal
refusal_of x seen = if too_high x then Some Over else (if seen == 1000000 then Some ShiftFull else None)

-- what a picker keeps and has counted
pub record Standing : Type 0 where
  pub kept : List (Frame × ℕ)
  pub took : ℕ
  pub seen : ℕ
  pub tells : ℕ

abbrev pub standing : {W R : Type 0} → Picker W R → Standing
standing p = record { kept = held p.table; took = p.took; seen = p.seen; tells = p.told }

-- the exchange steps along xs, from what is kept, for the objective f: what is kept then, and what was accepted on the way
abbrev pub along : (List Frame → ℕ) → (List Frame → Bool) → ℕ → List (Frame × ℕ) → List Frame → State Frame
along f adm n es xs = fold (step f adm n) (record { kept = es; accepted = [] }) xs

-- q stands where the frames xs lead, one after the other, from `before`, for the objective f, the matroid m and the size n
pub record After {W R : Type 0} (O : Objective W) (M : Matroid R) (f : List Frame → ℕ) (m : R) (n : ℕ) (before : Standing) (xs : List Frame) (q : Picker W R) : Type 0 where
  pub kept : held q.table ≡ (along f (M.admits m) n before.kept xs).kept
  pub took : q.took ≡ before.took + length (along f (M.admits m) n before.kept xs).accepted
  pub seen : q.seen ≡ before.seen + length xs
  pub gain : q.gain ≡ total (along f (M.admits m) n before.kept xs).kept
  pub tells : q.told ≡ before.tells + told f (along f (M.admits m) n before.kept xs).accepted
  pub size : q.size.n ≡ n
  pub matroid : q.matroid ≡ m
  -- what is left to gain is what the accepted frames leave of f
  pub left : (s : List Frame) → O.residual q.objective s ≡ f ((along f (M.admits m) n before.kept xs).accepted ++ s) - f (along f (M.admits m) n before.kept xs).accepted

module _ {W R : Type 0} (O : Objective W) (M : Matroid R) where
  -- q is p with the frames xs taken in, one after the other
  pub record Advanced (p : Picker W R) (xs : List Frame) (q : Picker W R) : Type 0 where
    pub stands : After O M (O.residual p.objective) p.matroid p.size.n (standing p) xs q
    pub whole : (s : List Frame) → O.value q.objective s ≡ O.value p.objective s

  -- what becomes of x at p
  abbrev pub verdict : Picker W R → Frame → Outcome
  verdict p x = outcome_of (M.admits p.matroid) p.size.n (held p.table) x (O.residual p.objective (x ∷ []))

  -- r answers an offer of x at p, which is q then
  abbrev pub Answered : Picker W R → Frame → Result Outcome Refusal → Picker W R → Option Refusal → Type 0
  Answered p x r q None = (r ≡ Ok (verdict p x)) × Advanced p (x ∷ []) q
  Answered p x r q (Some e) = (r ≡ Err e) × (q ≡ p)

  abbrev pub Offered : Picker W R → Frame → Result Outcome Refusal → Picker W R → Type 0
  Offered p x r q = Answered p x r q (refusal_of x p.seen)

-- q was opened with the settings of p: the size, the matroid, and what a list of frames is worth
pub record SameSettings {W R : Type 0} (O : Objective W) (p q : Picker W R) : Type 0 where
  pub size : q.size.n ≡ p.size.n
  pub matroid : q.matroid ≡ p.matroid
  pub value : (s : List Frame) → O.value q.objective s ≡ O.value p.objective s

-- r is a new picker: nothing is kept or counted, and all of the objective's value is to be gained
pub record Opened {W R : Type 0} (O : Objective W) (n : ℕ) (objective : W) (matroid : R) (r : Picker W R) : Type 0 where
  pub kept : held r.table ≡ []
  pub took : r.took ≡ 0
  pub seen : r.seen ≡ 0
  pub gain : r.gain ≡ 0
  pub tells : r.told ≡ 0
  pub size : r.size.n ≡ n
  pub rule : r.matroid ≡ matroid
  pub whole : (s : List Frame) → O.value r.objective s ≡ O.value objective s
  pub left : (s : List Frame) → O.residual r.objective s ≡ O.value objective s

-- q is p after a clear: nothing is kept or counted, and all of the objective's value is to be gained again
pub record Emptied {W R : Type 0} (O : Objective W) (p q : Picker W R) : Type 0 where
  pub kept : held q.table ≡ []
  pub took : q.took ≡ 0
  pub seen : q.seen ≡ 0
  pub gain : q.gain ≡ 0
  pub tells : q.told ≡ 0
  pub settings : SameSettings O p q
  pub left : (s : List Frame) → O.residual q.objective s ≡ O.value p.objective s
