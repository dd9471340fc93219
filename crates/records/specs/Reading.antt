-- How a text is read: a line, a record, and the records at the front of a text. Assumes nothing.
use Rattle.std.specs.Prelude.{◌≡◌, ℕ, zero, suc, ◌+◌, ◌-◌, ◌<◌, Bool, true, if◌then◌else◌, not, ◌&&◌, ◌||◌, List, [], ◌∷◌, map, length, take, drop, Ok, Err, Option, Result, ◌==◌, nat_eq, nat_le, nat_lt, slice_index}
use Rattle.std.specs.Option as options
use Rattle.std.specs.Int.{is_in_range}
use Rattle.std.specs.List.{common_prefix_len, position_or_len}
use Rattle.std.specs.Int.Digits.{number_from_digits}
use Rattle.frames.specs.declared.frame.Frame.{Frame}
use Rattle.spots.specs.Faults.{spot}
use Rattle.records.specs.Format.{key_bytes, longest, highest}
use Rattle.spots.specs.declared.fault.Spot.{Spot}
use Rattle.spots.specs.declared.fault.LineFault.{LineFault}
use Rattle.spots.specs.declared.fault.LineFault.TheVariants.{WrongKey, BadForm, Over, Cut}
use Rattle.records.specs.declared.key.Key.{Key}
use Rattle.records.specs.declared.key.Key.TheVariants.{Number, Marks, Look, Lane, Tail, Head, Side}

-- why a line cannot be read
pub data Why : Type 0 where
  wrong_key : Why
  bad_form : Why
  over : Why
  cut : Why

-- what is wrong with a line, and how many bytes behind the line's start; 0 for a cut line
pub record Amiss : Type 0 where
  pub why : Why
  pub byte : ℕ

abbrev pub amiss : Why → ℕ → Amiss
amiss w n = record { why = w; byte = n }

-- what a byte writes as a digit: 0 to 9, a to f; 16 for any other byte
abbrev pub digit : ℕ → ℕ
digit c = if is_in_range 48 57 c then c - 48 else (if is_in_range 97 102 c then c - 87 else 16)

-- digits of a base, and nothing else
abbrev pub digits_in : ℕ → List ℕ → Bool
digits_in base [] = true
digits_in base (c ∷ cs) = nat_lt (digit c) base && digits_in base cs

-- the number that digits write
abbrev pub number_in : ℕ → List ℕ → ℕ
number_in base ds = number_from_digits base (map digit ds)

-- decimal digits, at least one, and the first is no 0 unless it stands alone
abbrev pub shortest : List ℕ → Bool
shortest ds = digits_in 10 ds && nat_lt 0 (length ds) && (length ds == 1 || not (slice_index ds 0 == 48))

-- sixteen lower-case hexadecimal digits
abbrev pub sixteen : List ℕ → Bool
sixteen ds = digits_in 16 ds && length ds == 16

-- what is due in a line: the bytes before the value, how many bytes the longest value has, the highest value, and how
-- values are written
pub record Due : Type 0 where
  pub key : List ℕ
  pub longest : ℕ
  pub highest : ℕ
  pub base : ℕ
  pub formed : List ℕ → Bool

-- a line whose value is written in shortest decimal digits
abbrev pub decimal_due : List ℕ → ℕ → ℕ → Due
decimal_due k most high = record { key = k; longest = most; highest = high; base = 10; formed = shortest }

-- marks are written in hexadecimal, all else in decimal
abbrev pub base_of : Key → ℕ
base_of Number = 10
base_of Marks = 16
base_of Look = 10
base_of Lane = 10
base_of Tail = 10
base_of Head = 10
base_of Side = 10

abbrev pub form_of : Key → List ℕ → Bool
form_of Number = shortest
form_of Marks = sixteen
form_of Look = shortest
form_of Lane = shortest
form_of Tail = shortest
form_of Head = shortest
form_of Side = shortest

abbrev pub due : Key → Due
due k = record { key = key_bytes k; longest = longest k; highest = highest k; base = base_of k; formed = form_of k }

-- the key is not there: the text ends within it, or a byte differs
abbrev pub key_amiss : List ℕ → List ℕ → Amiss
key_amiss key s =
    let n = common_prefix_len nat_eq key s in
    if n == length s then amiss cut 0 else amiss wrong_key n

-- how many bytes stand before the first line feed
abbrev pub before_feed : List ℕ → ℕ
before_feed s = position_or_len (λ c. c == 10) s

-- r is the place of the first line feed, if there is one
abbrev pub Fed : List ℕ → Option ℕ → Type 0
Fed s r = options.MatchOption r (before_feed s ≡ length s) (λ i. (i ≡ before_feed s) × (i < length s))

-- no line feed stands among the first bytes behind the key, one more than the longest value has
abbrev pub end_amiss : Due → List ℕ → Amiss
end_amiss d s = if nat_le (length s) d.longest then amiss cut 0 else amiss bad_form (length d.key)

-- the bytes of a value are judged by their form, and then by the range
abbrev pub judged : Due → List ℕ → List ℕ → Result (ℕ × List ℕ) Amiss
judged d ds rest =
    let v = number_in d.base ds in
    if d.formed ds then (if nat_le v d.highest then Ok (v, rest) else Err (amiss over (length d.key))) else Err (amiss bad_form (length d.key))

-- the text behind the key is read: up to the first line feed stands the value, and the line feed stands within one byte
-- more than the longest value has
abbrev pub read_value : Due → List ℕ → Result (ℕ × List ℕ) Amiss
read_value d s =
    let window = take (d.longest + 1) s in
    let n = before_feed window in
    if nat_lt n (length window) then judged d (take n s) (drop (n + 1) s) else Err (end_amiss d s)

-- a text is read as a line: the value, and the text behind the line
abbrev pub read_due : Due → List ℕ → Result (ℕ × List ℕ) Amiss
read_due d s =
    if common_prefix_len nat_eq d.key s == length d.key then read_value d (drop (length d.key) s) else Err (key_amiss d.key s)

-- a line of any key with a value in shortest decimal digits
unfoldable pub read_decimal_line : List ℕ → ℕ → ℕ → List ℕ → Result (ℕ × List ℕ) Amiss
read_decimal_line key most high s = read_due (decimal_due key most high) s

unfoldable pub read_line : Key → List ℕ → Result (ℕ × List ℕ) Amiss
read_line k s = read_due (due k) s

-- which line of a record a key is due in, from 1
abbrev pub line_of : Key → ℕ
line_of Number = 1
line_of Marks = 2
line_of Look = 3
line_of Lane = 4
line_of Tail = 5
line_of Head = 6
line_of Side = 7

-- what is wrong with a record: why a line of it cannot be read, the line, from 1, and how many bytes behind the record's
-- start; 0 for a cut line
pub record Wrong : Type 0 where
  pub why : Why
  pub line : ℕ
  pub byte : ℕ

-- the byte that a fault tells: for a cut line the record's start
abbrev pub told : Why → ℕ → ℕ → ℕ
told wrong_key start byte = byte
told bad_form start byte = byte
told over start byte = byte
told cut start byte = start

-- what is wrong with the line of k that starts where s does, in a record that starts `whole` bytes before the text's end
abbrev pub wrong_in : Key → ℕ → List ℕ → Amiss → Wrong
wrong_in k whole s a = record { why = a.why; line = line_of k; byte = told a.why 0 (whole - length s + a.byte) }

-- goes on with the value that was read, and the text behind it
abbrev pub go_on : {X : Type 0} → (Amiss → Wrong) → Result (ℕ × List ℕ) Amiss → (ℕ → List ℕ → Result X Wrong) → Result X Wrong
go_on w (Ok p) f = f p.0 p.1
go_on w (Err a) f = Err (w a)

-- reads the line of k at the front of s
abbrev pub under : {X : Type 0} → Key → ℕ → List ℕ → (ℕ → List ℕ → Result X Wrong) → Result X Wrong
under k whole s f = go_on (wrong_in k whole s) (read_line k s) f

-- a text is read as a record: seven lines in their order
unfoldable pub read_record : List ℕ → Result (Frame × List ℕ) Wrong
read_record s =
    under Number (length s) s
    (λ a s₁. under Marks (length s) s₁
    (λ b s₂. under Look (length s) s₂
    (λ c s₃. under Lane (length s) s₃
    (λ d s₄. under Tail (length s) s₄
    (λ e s₅. under Head (length s) s₅
    (λ f s₆. under Side (length s) s₆
    (λ g rest. Ok (record { number = a; marks = b; look = c; lane = d; tail = e; head = f; side = g }, rest))))))))

abbrev pub fault : Why → Spot → LineFault
fault wrong_key s = WrongKey s
fault bad_form s = BadForm s
fault over s = Over s
fault cut s = Cut s

-- the fault of a record that starts at a byte of a text
abbrev pub fault_at : ℕ → ℕ → Wrong → LineFault
fault_at r start w = fault w.why (spot r w.line (start + w.byte))

-- the fault of the line of k that starts at a byte of a text, in a record that starts at another
abbrev pub line_fault_at : ℕ → ℕ → Key → ℕ → Amiss → LineFault
line_fault_at r start k at a = fault a.why (spot r (line_of k) (told a.why start (at + a.byte)))

-- the frames of the first records of a text, at most n, up to the first that cannot be read
abbrev pub frames_up_to : ℕ → List ℕ → List Frame
frames_up_to zero s = []
frames_up_to (suc n) s = elim (read_record s) [ Ok p ↦ p.0 ∷ frames_up_to n p.1 | Err w ↦ [] ]

-- what is left of the text behind them
abbrev pub left_up_to : ℕ → List ℕ → List ℕ
left_up_to zero s = s
left_up_to (suc n) s = elim (read_record s) [ Ok p ↦ left_up_to n p.1 | Err w ↦ s ]

-- the frames of the records at the front of a text, up to the first that cannot be read; each has a byte or more
unfoldable pub frames_in : List ℕ → List Frame
frames_in s = frames_up_to (length s) s

unfoldable pub left_in : List ℕ → List ℕ
left_in s = left_up_to (length s) s
