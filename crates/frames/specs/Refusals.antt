-- Why a call is declined, each with the number that users know it by, and with its text. Assumes nothing.
use Rattle.std.specs.Prelude.{ℕ, ◌++◌, List, codes}
use Rattle.std.specs.Fmt.{decimal}
use Rattle.frames.specs.declared.refusal.Refusal.{Refusal}
use Rattle.frames.specs.declared.refusal.Refusal.TheVariants.{BadSize, ShiftFull, NoPlace, ShortSheet, WrongKey, BadForm, Over, Cut, LongText, Miscount, Rising, BadParent}
use Rattle.frames.specs.declared.setting.SettingFault.{SettingFault}

abbrev pub number_of : Refusal → ℕ
-- a size of 0 or above 48
number_of BadSize = 1
-- 1,000,000 frames are taken in since the last clear
number_of ShiftFull = 2
-- a look-up at or past the kept count
number_of NoPlace = 3
-- a buffer shorter than the lines due
number_of ShortSheet = 4
-- a byte that differs from the key due
number_of WrongKey = 5
-- a value that is not written as it should be
number_of BadForm = 6
-- a number above its highest value
number_of Over = 7
-- a text that ends within a line
number_of Cut = 8
-- a text above 65,536 bytes
number_of LongText = 9
-- a settings list not of the stated length
number_of Miscount = 10
-- a step above the one before it in its lane
number_of Rising = 11
-- a parent not allowed to its box
number_of BadParent = 12

-- what a refusal says to a reader
abbrev pub text_of : Refusal → List ℕ
text_of BadSize = codes "the size is 0 or above 48"
text_of ShiftFull = codes "1,000,000 frames are taken in since the last clear"
text_of NoPlace = codes "the place is at or past the kept count"
text_of ShortSheet = codes "the buffer is shorter than the lines due"
text_of WrongKey = codes "a byte differs from the key due"
text_of BadForm = codes "a value is not written as it should be"
text_of Over = codes "a number is above its highest value"
text_of Cut = codes "the text ends within a record"
text_of LongText = codes "the text is above 65,536 bytes"
text_of Miscount = codes "the settings are not of the stated length"
text_of Rising = codes "a step is above the one before it in its lane"
text_of BadParent = codes "a parent is not allowed to its box"

-- what refused settings say: the refusal, and the index of the number at fault
abbrev pub fault_text : SettingFault → List ℕ
fault_text e = text_of e.refusal ++ codes ", at index " ++ decimal e.index
