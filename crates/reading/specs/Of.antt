-- How far the reading of a text has come. Assumes nothing.
use Rattle.std.specs.Prelude.{ℕ, List}
use Rattle.reading.specs.declared.reader.Records.{Records}

abbrev pub text_of : Records → List ℕ
text_of r = r.text.now

-- the byte where the next record starts
abbrev pub start_of : Records → ℕ
start_of r = r.at

-- how many records were read
abbrev pub count_of : Records → ℕ
count_of r = r.count
