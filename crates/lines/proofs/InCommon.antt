-- What two texts have in common, as the pairs of equal bytes at their front.
use Rattle.std.proofs.Common.{◌≡◌, ℕ, ◌+◌, cond, eqb, List, [], ◌∷◌, refl, ap}
use Rattle.std.specs.List.{zip, prefix_len, common_prefix_len}

pub common_by_pairs : (a b : List ℕ) → prefix_len (λ (p : ℕ × ℕ). eqb p.0 p.1) (zip a b) ≡ common_prefix_len eqb a b
common_by_pairs [] b = refl
common_by_pairs (x ∷ a) [] = refl
common_by_pairs (x ∷ a) (y ∷ b) = ap (λ (n : ℕ). cond (eqb x y) (1 + n) 0) (common_by_pairs a b)
