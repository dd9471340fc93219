-- Small cases, computed. Assumes nothing.
use Rattle.std.proofs.Common.{◌≡◌, ℕ, true, false, List, [], ◌∷◌, ◌++◌, replicate, refl}
use Rattle.kinds.specs.Objectives.{coverage, facility, facility_above, steps_of, steps_left, concave}
use Rattle.kinds.specs.Matroids.{partition, lies_in, laminar}

-- a frame is its set of classes: 3 shows 0 and 1, 2 shows 1; class 2 is shown by none
covered : coverage (λ x. x) (5 ∷ 7 ∷ 9 ∷ []) (3 ∷ 2 ∷ []) ≡ 12
unfolding coverage
covered = refl

-- look 0 is like view 0 by 4 and view 1 by 6; look 1 is like view 0 by 8
liked : facility (λ x. x) (4 ∷ 6 ∷ replicate 62 0 ++ (8 ∷ [])) (0 ∷ 1 ∷ []) ≡ 14
unfolding facility
liked = refl

-- 16 bits hold no more than 65,535
clipped : facility (λ x. x) (70000 ∷ []) (0 ∷ []) ≡ 65535
unfolding facility
clipped = refl

-- view 0 has 5 and view 1 has 1 already
liked_more : facility_above (λ x. x) (4 ∷ 6 ∷ replicate 62 0 ++ (8 ∷ [])) (5 ∷ 1 ∷ []) (0 ∷ 1 ∷ []) ≡ 8
unfolding facility_above
liked_more = refl

-- two frames of lane 1, one of lane 0, and one of a lane that adds nothing
stepped : concave (λ x. x) (steps_of (9 ∷ replicate 7 0 ++ (6 ∷ 5 ∷ 4 ∷ []))) (1 ∷ 0 ∷ 70 ∷ 1 ∷ []) ≡ 20
unfolding concave
stepped = refl

-- one frame of lane 1 is added already
stepped_on : concave (λ x. x) (steps_left (0 ∷ 1 ∷ []) (9 ∷ replicate 7 0 ++ (6 ∷ 5 ∷ 4 ∷ []))) (1 ∷ 0 ∷ 1 ∷ []) ≡ 18
unfolding concave
stepped_on = refl

-- nine frames have the value of eight steps
filled : concave (λ x. x) (steps_of (replicate 512 1)) (replicate 9 3) ≡ 8
unfolding concave
filled = refl

abbrev pairs : List ℕ
pairs = 64 ∷ 64 ∷ replicate 94 255

-- lanes 0 and 1 stand in box 64, whose cap is two; a lane above 63 may have no frame
abbrev room : List ℕ
room = replicate 64 2 ++ (2 ∷ [])

fits : laminar (λ x. x) pairs room (0 ∷ 1 ∷ 5 ∷ []) ≡ true
unfolding laminar lies_in
fits = refl

full : laminar (λ x. x) pairs room (0 ∷ 1 ∷ 0 ∷ []) ≡ false
unfolding laminar lies_in
full = refl

above : laminar (λ x. x) pairs room (64 ∷ []) ≡ false
unfolding laminar lies_in
above = refl

parted : partition (λ x. x) room (0 ∷ 1 ∷ 0 ∷ []) ≡ true
unfolding partition
parted = refl

over : partition (λ x. x) room (0 ∷ 0 ∷ 0 ∷ []) ≡ false
unfolding partition
over = refl
