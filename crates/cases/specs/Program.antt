-- The settings of the program. Assumes nothing.
use Rattle.std.specs.Prelude.{ℕ, List, replicate}
use Rattle.std.specs.List.{range_with_len}

abbrev pub places : ℕ
places = 2

-- class i has the weight i + 1
unfoldable pub weights : List ℕ
weights = range_with_len 1 64

-- each lane may have one frame
unfoldable pub caps : List ℕ
caps = replicate 64 1
