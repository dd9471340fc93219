-- Each kind keeps its promise. Assumes nothing.
use Rattle.kinds.specs.Objectives.{steps_of}
use Rattle.kinds.specs.Claims.{ObjectivesStand, MatroidsStand}
use Rattle.kinds.proofs.Objectives.{coverage_lawful, coverage_small, get_or_le, facility_keeps, capped_lawful, capped_small, joint_lawful, joint_small}
use Rattle.kinds.proofs.Stepped.{steps_lane, concave_keeps}
use Rattle.kinds.proofs.Told.{residual_lawful, residual_small, told-residual, told-capped}
use Rattle.kinds.proofs.Parts.{direct_sum_matroid}
use Rattle.kinds.proofs.Boxes.{box_matroid, truncated_matroid}
use Rattle.kinds.proofs.Lanes.{partition_matroid, laminar_matroid}

pub objectives_stand : (A : Type 0) → ObjectivesStand A
objectives_stand A = record {
  covers = λ marks weights h. record { submodular = coverage_lawful marks weights; bounded = coverage_small marks weights h };
  likens = facility_keeps;
  climbs = λ lane steps h k. concave_keeps lane (steps_of steps) (λ l m. steps_lane steps l (λ i. get_or_le 8388607 steps i h) (λ j n. k l j m n));
  caps = λ c f h w. record { submodular = capped_lawful c f w; bounded = capped_small c f h };
  joins = λ m f g h w v. record { submodular = joint_lawful m f g w v; bounded = joint_small m f g h };
  leaves = λ f a h. record { submodular = residual_lawful h.submodular a; bounded = residual_small f h.bounded a };
  tells = λ f w. told-residual w;
  fills = λ room f x s. told-capped x s room f;
}

pub matroids_stand : (A : Type 0) → MatroidsStand A
matroids_stand A same eq = record {
  boxed = λ p c adm m splits. box_matroid eq m p splits c;
  lanes = partition_matroid eq;
  nested = laminar_matroid eq;
  shortened = λ k adm m. truncated_matroid eq m k;
  sided = λ side adm other m n. direct_sum_matroid eq m n side;
}
