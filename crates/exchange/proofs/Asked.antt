-- What a question about a row asks. Assumes nothing.
use Rattle.std.proofs.Common.{◌≡◌, ℕ, suc, ◌+◌, ◌-◌, ◌^◌, ◌<◌, Bool, List, ◌∷◌, length, ap, ◌∙◌, ap₂, arith}
use Rattle.std.specs.List.{remove}
use Rattle.theory.specs.Replay.{frames, may_take}
use Rattle.frames.specs.declared.frame.Frame.{Frame}
use Rattle.matroids.specs.Chosen.{chosen}
use Rattle.frames.specs.declared.entry.Entry.{Entry}
use Rattle.kept.specs.Tables.{held}
use Rattle.kept.proofs.Tables.{length-frames}
use Rattle.exchange.proofs.Chosen.{chosen-all, chosen_but}

-- a row of n frames is x and the kept ones behind it, and the answer is of that row and a set
module _ (adm : List Frame → Bool) (es : List Entry) (x : Frame) (row : List Frame) (lined : row ≡ x ∷ frames (held es)) (n : ℕ) (whole : n ≡ length row) (asked : List Frame) (shown : asked ≡ row) (set : ℕ) (answer : Bool) (answers : answer ≡ adm (chosen asked set)) where
  pub asked_all : set ≡ 2 ^ n - 1 → answer ≡ adm (x ∷ frames (held es))
  asked_all e = answers ∙ ap adm (ap₂ chosen shown e ∙ ap (λ n. chosen row (2 ^ n - 1)) whole ∙ chosen-all row ∙ lined)

  pub asked_but : (p : ℕ) → p < length es → set ≡ 2 ^ n - 1 - 2 ^ (p + 1) → answer ≡ may_take adm (held es) x p
  asked_but p h e =
      let l : p + 1 < length row = omega (arith, ap length lined, length-frames es) in
      let s : p + 1 ≡ suc p = omega arith in
      answers ∙ ap adm (ap₂ chosen shown e ∙ ap (λ n. chosen row (2 ^ n - 1 - 2 ^ (p + 1))) whole ∙ chosen_but row (p + 1) l ∙ ap (λ r. remove r (p + 1)) lined ∙ ap (λ q. remove (x ∷ frames (held es)) q) s)
