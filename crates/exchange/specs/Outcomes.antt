-- What becomes of an offered frame, and what is kept then. Assumes nothing.
use Rattle.std.specs.Prelude.{◌≡◌, ℕ, ◌*◌, Bool, if◌then◌else◌, List, length, Some, None, Option, ◌==◌, nat_le}
use Rattle.theory.specs.Lightest.{LightestIs}
use Rattle.theory.specs.Replay.{gains, lightest, may_take, has_room}
use Rattle.frames.specs.declared.frame.Frame.{Frame}
use Rattle.kept.specs.Tables.{frame_at, gain_at}
use Rattle.exchange.specs.declared.outcome.Outcome.{Outcome}
use Rattle.exchange.specs.declared.outcome.Outcome.TheVariants.{Empty, Kept, Swapped, Light, Barred}

-- a frame of gain g takes the lightest place that counts if its gain is at least twice the gain there
abbrev pub displaced : List (Frame × ℕ) → ℕ → Option ℕ → Outcome
displaced es g None = Barred g
displaced es g (Some p) = if nat_le (2 * gain_at es p) g then Swapped p g (frame_at es p) else Light p g (gain_at es p)

-- what becomes of x, of gain g, where es are kept, at most n of them
abbrev pub outcome_of : (List Frame → Bool) → ℕ → List (Frame × ℕ) → Frame → ℕ → Outcome
outcome_of adm n es x g =
    if g == 0 then Empty else (if has_room adm n es x then Kept (length es) g else displaced es g (lightest (may_take adm es x) (gains es)))

-- the place of an outcome: the next one for a kept frame, and else the lightest that counts, the lowest on a tie
abbrev pub PlaceStands : (List Frame → Bool) → List (Frame × ℕ) → Frame → Outcome → Type 0
PlaceStands adm es x Empty = Unit {0}
PlaceStands adm es x (Kept p g) = p ≡ length es
PlaceStands adm es x (Swapped p g l) = LightestIs (may_take adm es x) (gains es) (Some p)
PlaceStands adm es x (Light p g l) = LightestIs (may_take adm es x) (gains es) (Some p)
PlaceStands adm es x (Barred g) = LightestIs (may_take adm es x) (gains es) None
