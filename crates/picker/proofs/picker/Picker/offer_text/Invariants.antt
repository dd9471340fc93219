use Rattle.std.proofs.Common.{◌≡◌, ◌-◌, length}
use Rattle.picker.proofs.Texts.{SoFar}
use Rattle.picker.proofs.picker.Picker.offer_text.Given as goal

abbrev pub invariant-loop-x : goal.invariant-loop-x
invariant-loop-x g l = (l.records.text.now ≡ l.initial.records.text.now) × SoFar g.W.Objective g.R.Matroid l.initial.self l.initial.records.text.now l.records.at l.records.count l.self

abbrev pub decreases-loop-x : goal.decreases-loop-x
decreases-loop-x g l = length l.records.text.now - l.records.at
