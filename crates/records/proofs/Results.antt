-- A result has one value. Assumes nothing.
use Rattle.std.proofs.Common.{◌≡◌, Ok, Result}

pub same_ok : {X Y : Type 0} (r : Result X Y) (x y : X) → r ≡ Ok x → r ≡ Ok y → x ≡ y
same_ok r x y p q = cc
