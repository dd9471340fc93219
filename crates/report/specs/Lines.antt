-- Lines as the print-outs make them. Assumes nothing.
use Rattle.std.specs.Prelude.{ℕ, List, [], ◌∷◌, ◌++◌, decimal}
use Rattle.std.specs.List.{flat_map}
use Rattle.records.specs.Format.{hexadecimal}
use Rattle.report.specs.declared.line.Line.{Line}
use Rattle.report.specs.declared.value.Value.{Value}
use Rattle.report.specs.declared.value.Value.TheVariants.{Decimal, Hexadecimal}

abbrev pub written : Value → List ℕ
written (Decimal n) = decimal n
written (Hexadecimal n) = hexadecimal n

-- a value and the line feed behind it
abbrev pub value_text : Value → List ℕ
value_text v = written v ++ (10 ∷ [])

abbrev pub line_text : Line → List ℕ
line_text l = l.key.now ++ value_text l.value

-- one line after another
abbrev pub lines_text : List Line → List ℕ
lines_text ls = flat_map line_text ls
