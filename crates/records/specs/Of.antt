-- What a line that was found has. Assumes nothing.
use Rattle.std.specs.Prelude.{ℕ, ◌+◌, length}
use Rattle.records.specs.declared.digits.Digits.{Digits}
use Rattle.records.specs.declared.key.Key.{Key}
use Rattle.records.specs.declared.key.Key.TheVariants as keys
use Rattle.records.specs.declared.line.Line.{Line}
use Rattle.records.specs.declared.line.Line.TheVariants.{Number, Marks, Look, Lane, Tail, Head, Side}

-- the key of a line
abbrev pub key_of : Line → Key
key_of (Number d) = keys.Number
key_of (Marks d) = keys.Marks
key_of (Look d) = keys.Look
key_of (Lane d) = keys.Lane
key_of (Tail d) = keys.Tail
key_of (Head d) = keys.Head
key_of (Side d) = keys.Side

-- the value of a line
abbrev pub digits_of : Line → Digits
digits_of (Number d) = d
digits_of (Marks d) = d
digits_of (Look d) = d
digits_of (Lane d) = d
digits_of (Tail d) = d
digits_of (Head d) = d
digits_of (Side d) = d

-- where the text goes on behind the line feed
abbrev pub behind : Digits → ℕ
behind d = d.at + length d.bytes.now + 1
