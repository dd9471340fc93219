use Rattle.std.proofs.Common.{ap, ◌∙◌}
use Rattle.cycles.specs.Labels.{joins, root}
use Rattle.cycles.proofs.Roots.{joins_roots}
use Rattle.cycles.proofs.Theorem.{graphic_labels}
use Rattle.matroids.specs.Chosen.{chosen}
use Rattle.graphic.proofs.graphic.GraphicMatroidMatroid.independent.Goals as goal

pub returns : goal.returns
returns c =
    let all = chosen c.args.frames.now c.args.places in
    c.takes_chosen.ensures
    ∙ ap (λ ls. joins (λ x. x.tail) (λ x. x.head) (root ls) all) c.new.ensures
    ∙ joins_roots (λ x. x.tail) (λ x. x.head) 256 all
    ∙ graphic_labels (λ x. x.tail) (λ x. x.head) 256 all
