-- From one frame's outcome to the replay's step. Assumes nothing.
use Rattle.std.proofs.Common.{◌≡◌, ℕ, ◌+◌, ◌-◌, List, [], ◌∷◌, ◌++◌, length, sym, ap, ◌∙◌, arith}
use Rattle.theory.specs.Replay.{State}
use Rattle.theory.specs.Promise.{told}
use Rattle.frames.specs.declared.frame.Frame.{Frame}
use Rattle.exchange.specs.declared.outcome.Outcome.{Outcome}
use Rattle.exchange.specs.Outcomes.{outcome_of}
use Rattle.kept.specs.Tables.{held}
use Rattle.exchange.proofs.Outcomes.{settled, step_outcome}
use Rattle.picker.specs.declared.picker.Picker.{Picker}
use Rattle.picker.specs.Entries.{total}
use Rattle.picker.specs.Offers.{along, Advanced, verdict}
use Rattle.picker.specs.Settling.{Accepting}
use Rattle.objectives.specs.declared.objective.Objective.{Ghosts as Objective}
use Rattle.matroids.specs.declared.matroid.Matroid.{Ghosts as Matroid}

-- q is p with one frame more seen
pub record Seen {W R : Type 0} (p q : Picker W R) : Type 0 where
  pub kept : held q.table ≡ held p.table
  pub took : q.took ≡ p.took
  pub seen : q.seen ≡ p.seen + 1
  pub gain : q.gain ≡ p.gain
  pub tells : q.told ≡ p.told
  pub size : q.size.n ≡ p.size.n
  pub matroid : q.matroid ≡ p.matroid
  pub objective : q.objective ≡ p.objective

-- what p keeps, with nothing accepted yet
abbrev pub begun : {W R : Type 0} → Picker W R → State Frame
begun p = record { kept = held p.table; accepted = [] }

module _ {W R : Type 0} (O : Objective W) (M : Matroid R) (p q : Picker W R) (x : Frame) where
  none : O.residual p.objective [] ≡ 0
  none = (O.laws p.objective).left.submodular.nothing

  steps : State Frame
  steps = along (O.residual p.objective) (M.admits p.matroid) p.size.n (held p.table) (x ∷ [])

  -- the step along x is by its verdict
  stepped : (o : Outcome) → o ≡ verdict O M p x → steps ≡ settled (begun p) x o
  unfolding steps
  stepped o e =
      step_outcome (O.residual p.objective) (M.admits p.matroid) p.size.n (begun p) x
      ∙ ap (λ g. settled (begun p) x (outcome_of (M.admits p.matroid) p.size.n (held p.table) x g)) (omega (arith, none))
      ∙ ap (settled (begun p) x) (sym e)

  -- what the picker has to be, where the step leaves st
  leaves : (st : State Frame) → steps ≡ st
      → held q.table ≡ st.kept → q.took ≡ p.took + length st.accepted → q.seen ≡ p.seen + 1 → q.gain ≡ total st.kept
      → q.told ≡ p.told + told (O.residual p.objective) st.accepted → q.size.n ≡ p.size.n → q.matroid ≡ p.matroid
      → ((s : List Frame) → O.value q.objective s ≡ O.value p.objective s)
      → ((s : List Frame) → O.residual q.objective s ≡ O.residual p.objective (st.accepted ++ s) - O.residual p.objective st.accepted)
      → Advanced O M p (x ∷ []) q
  unfolding steps
  leaves st e k t n g d z m w l =
      let back = sym e in record {
        stands = record {
          kept = k ∙ ap (λ s. s.kept) back;
          took = t ∙ ap (λ s. p.took + length s.accepted) back;
          seen = n;
          gain = g ∙ ap (λ s. total s.kept) back;
          tells = d ∙ ap (λ s. p.told + told (O.residual p.objective) s.accepted) back;
          size = z;
          matroid = m;
          left = λ s. l s ∙ ap (λ t. O.residual p.objective (t.accepted ++ s) - O.residual p.objective t.accepted) back;
        };
        whole = w;
      }

  -- a passed frame leaves what is kept
  pub advance_passed : (o : Outcome) → o ≡ verdict O M p x → settled (begun p) x o ≡ begun p → Seen p q → Advanced O M p (x ∷ []) q
  advance_passed o e same h =
      leaves (begun p) (stepped o e ∙ same) h.kept (h.took ∙ omega arith) h.seen (h.gain ∙ p.gains) (h.tells ∙ omega arith) h.size h.matroid (λ s. ap (λ w. O.value w s) h.objective)
      (λ s. ap (λ w. O.residual w s) h.objective ∙ omega (arith, none))

  -- an accepted frame is the first that is accepted
  pub advance_accepted : (o : Outcome) (g : ℕ) (es : List (Frame × ℕ)) (m : Picker W R) → o ≡ verdict O M p x → g ≡ O.residual p.objective (x ∷ []) → settled (begun p) x o ≡ record { kept = es; accepted = x ∷ [] } → Seen p m → Accepting O x g es m q → Advanced O M p (x ∷ []) q
  advance_accepted o g es m e eg is k h =
      leaves (record { kept = es; accepted = x ∷ [] }) (stepped o e ∙ is) h.kept (omega (arith, h.took, k.took)) (h.seen ∙ k.seen) h.gain (omega (arith, h.tells, k.tells, none)) (h.settings.size ∙ k.size) (h.settings.matroid ∙ k.matroid)
      (λ s. h.settings.value s ∙ ap (λ w. O.value w s) k.objective)
      (λ s. h.left s ∙ ap (λ w. O.residual w (x ∷ s) - O.residual w (x ∷ [])) k.objective)
