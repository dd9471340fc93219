-- How a frame is written as text: seven lines, each a key, `=`, the value and a line feed. Assumes nothing.
use Rattle.std.specs.Prelude.{ℕ, zero, suc, ◌+◌, ◌/◌, ◌%◌, if◌then◌else◌, List, [], ◌∷◌, ◌++◌, codes, decimal, nat_lt}
use Rattle.std.specs.List.{flat_map}
use Rattle.frames.specs.declared.frame.Frame.{Frame}
use Rattle.records.specs.declared.key.Key.{Key}
use Rattle.records.specs.declared.key.Key.TheVariants.{Number, Marks, Look, Lane, Tail, Head, Side}

-- the seven keys in their order
abbrev pub keys : List Key
keys = Number ∷ Marks ∷ Look ∷ Lane ∷ Tail ∷ Head ∷ Side ∷ []

-- the bytes before the value
abbrev pub key_bytes : Key → List ℕ
key_bytes Number = codes "frame="
key_bytes Marks = codes "marks="
key_bytes Look = codes "look="
key_bytes Lane = codes "lane="
key_bytes Tail = codes "tail="
key_bytes Head = codes "head="
key_bytes Side = codes "side="

-- how many bytes the longest value has
abbrev pub longest : Key → ℕ
longest Number = 10
longest Marks = 16
longest Look = 3
longest Lane = 2
longest Tail = 3
longest Head = 3
longest Side = 1

-- the highest value
abbrev pub highest : Key → ℕ
highest Number = 4294967295
highest Marks = 18446744073709551615
highest Look = 255
highest Lane = 63
highest Tail = 255
highest Head = 255
highest Side = 1

-- 0 to 9, then a to f
abbrev pub hex_digit : ℕ → ℕ
hex_digit d = if nat_lt d 10 then 48 + d else 87 + d

-- the last k hexadecimal digits of n
abbrev pub hex_digits : ℕ → ℕ → List ℕ
hex_digits zero n = []
hex_digits (suc k) n = hex_digits k (n / 16) ++ (hex_digit (n % 16) ∷ [])

-- sixteen lower-case hexadecimal digits
unfoldable pub hexadecimal : ℕ → List ℕ
hexadecimal n = hex_digits 16 n

-- how a value is written: sixteen hexadecimal digits, or the shortest decimal digits
abbrev pub shown_value : Key → ℕ → List ℕ
shown_value Number v = decimal v
shown_value Marks v = hexadecimal v
shown_value Look v = decimal v
shown_value Lane v = decimal v
shown_value Tail v = decimal v
shown_value Head v = decimal v
shown_value Side v = decimal v

abbrev pub shown_line : Key → ℕ → List ℕ
shown_line k v = key_bytes k ++ (shown_value k v ++ (10 ∷ []))

-- what a frame has under a key
abbrev pub value_of : Key → Frame → ℕ
value_of Number x = x.number
value_of Marks x = x.marks
value_of Look x = x.look
value_of Lane x = x.lane
value_of Tail x = x.tail
value_of Head x = x.head
value_of Side x = x.side

-- the record of a frame
abbrev pub shown : Frame → List ℕ
shown x = flat_map (λ k. shown_line k (value_of k x)) keys
