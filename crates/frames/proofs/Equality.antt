-- The test of equality tells equal frames from others. Assumes nothing.
use Rattle.std.proofs.Common.{◌≡◌, ℕ, Bool, true, ◌&&◌, eqb, refl}
use Rattle.std.proofs.lemmas.Bool.{eqb-true, eq-eqb, and_parts, and_from}
use Rattle.theory.specs.Bag.{Same}
use Rattle.frames.specs.declared.frame.Frame.{Frame}
use Rattle.frames.specs.Frames.{same}

-- one number more is equal
also : (b : Bool) (m n : ℕ) → (b && eqb m n) ≡ true → (b ≡ true) × (m ≡ n)
also b m n h = let k = and_parts b (eqb m n) h in (k.0, eqb-true m n k.1)

also_self : (b : Bool) (n : ℕ) → b ≡ true → (b && eqb n n) ≡ true
also_self b n h = and_from b (eqb n n) h (eq-eqb n n refl)

equal : (x y : Frame) → same x y ≡ true → x ≡ y
equal x y e =
    let side = also _ x.side y.side e in
    let head = also _ x.head y.head side.0 in
    let tail = also _ x.tail y.tail head.0 in
    let lane = also _ x.lane y.lane tail.0 in
    let look = also _ x.look y.look lane.0 in
    let marks = also _ x.marks y.marks look.0 in
    let number = eqb-true x.number y.number marks.0 in
    λ i. record { number = number i; marks = marks.1 i; look = look.1 i; lane = lane.1 i; tail = tail.1 i; head = head.1 i; side = side.1 i }

pub same-frames : Same same
same-frames = record {
  tells = equal;
  self = λ x. also_self _ x.side (also_self _ x.head (also_self _ x.tail (also_self _ x.lane (also_self _ x.look (also_self _ x.marks (eq-eqb x.number x.number refl))))));
}
