-- What a pile of objectives is worth. Assumes nothing.
use Rattle.std.specs.Prelude.{ℕ, List}
use Rattle.frames.specs.declared.frame.Frame.{Frame}
use Rattle.kinds.specs.Objectives.{facility, capped, joint}

-- facility location under a cap, and the objectives f and g
abbrev pub pile_value : List ℕ → ℕ → (List Frame → ℕ) → (List Frame → ℕ) → List Frame → ℕ
pile_value table cap f g s = joint 4294967295 (capped cap (facility (λ x. x.look) table)) (joint 4294967295 f g) s
