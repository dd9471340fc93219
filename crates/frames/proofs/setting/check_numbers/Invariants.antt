use Rattle.std.proofs.Common.{◌≡◌, drop}
use Rattle.frames.specs.Settings.{first_over}
use Rattle.frames.proofs.setting.check_numbers.Given as goal

abbrev pub invariant-loop-i : goal.invariant-loop-i
invariant-loop-i l = first_over l.highest l.i (drop l.i l.numbers) ≡ first_over l.highest 0 l.numbers
