-- What is told of one line. Assumes nothing.
use Rattle.std.specs.Prelude.{◌≡◌, ℕ, ◌+◌, ◌<◌, ◌≤◌, Bool, true, false, List, ◌∷◌, ◌++◌, length, take, drop, Ok, Err, Some, Option, Result, MatchBool, ◌≢◌, nat_eq, nat_le, slice_index}
use Rattle.std.specs.Borrow.{Bor}
use Rattle.std.specs.Option as options
use Rattle.std.specs.Result as results
use Rattle.std.specs.List.{common_prefix_len}
use Rattle.records.specs.Format.{key_bytes, longest, highest, shown_value, shown_line}
use Rattle.records.specs.Of.{key_of, digits_of, behind}
use Rattle.records.specs.Reading.{Amiss, digit, digits_in, before_feed, number_in, read_line, line_fault_at, base_of, form_of}
use Rattle.spots.specs.declared.fault.LineFault.{LineFault}
use Rattle.spots.specs.declared.fault.LineFault.TheVariants.{BadForm, Over}
use Rattle.spots.specs.declared.fault.Spot.{Spot}
use Rattle.records.specs.declared.key.Key.{Key}
use Rattle.records.specs.declared.line.Line.{Line}

-- r is what follows a key at the front of s, if the key is there
abbrev pub Begun : List ℕ → List ℕ → Option (Bor (List ℕ)) → Type 0
Begun key s r = options.MatchOption r (common_prefix_len nat_eq key s < length key) (λ rest. (common_prefix_len nat_eq key s ≡ length key) × (rest.now ≡ drop (length key) s))

-- r is the number that the bytes write, if they are digits of a base
abbrev pub Numbered : Bool → ℕ → List ℕ → Option ℕ → Type 0
Numbered good base ds r = options.MatchOption r (good ≡ false) (λ n. (good ≡ true) × (n ≡ number_in base ds))

-- r is how many digits of a base the bytes begin with, and the number that those write
pub record Leading (base : ℕ) (bytes : List ℕ) (r : ℕ × ℕ) : Type 0 where
  pub within : r.0 ≤ length bytes
  pub digits : digits_in base (take r.0 bytes) ≡ true
  pub number : r.1 ≡ number_in base (take r.0 bytes)
  pub stops : r.0 < length bytes → base ≤ digit (slice_index bytes r.0)

-- r is how many bytes of s stand before a line feed within one more than `most`, and the number of a base that they write,
-- if they are of a form
abbrev pub Fronted : (List ℕ → Bool) → ℕ → ℕ → List ℕ → Option (ℕ × ℕ) → Type 0
Fronted good base most s r =
    let window = take (most + 1) s in
    let n = before_feed window in
    options.MatchOption r (n < length window → good (take n s) ≡ false) (λ p. (p.0 ≡ n) × (p.0 < length window) × (good (take p.0 s) ≡ true) × (p.1 ≡ number_in base (take p.0 s)))

-- r is how many bytes of s, which follows the key k, stand before the line feed, and the number that they write
abbrev pub Ended : Key → List ℕ → Option (ℕ × Option ℕ) → Type 0
Ended k s r =
    let window = take (longest k + 1) s in
    let n = before_feed window in
    options.MatchOption r (n ≡ length window) (λ p. (p.0 ≡ n) × (p.0 < length window) × Numbered (form_of k (take p.0 s)) (base_of k) (take p.0 s) p.1)

-- the line of k with these bytes, which start at a place of the text
pub record Taken (k : Key) (ds : List ℕ) (place : ℕ) (l : Line) : Type 0 where
  pub kind : key_of l ≡ k
  pub at : (digits_of l).at ≡ place
  pub bytes : (digits_of l).bytes.now ≡ ds
  pub number : Numbered (form_of k ds) (base_of k) ds (digits_of l).number

-- r judges the value of a line, which stands at a spot: its form, and then its range
abbrev pub Judged : Line → Spot → Result Line LineFault → Type 0
Judged l at r =
    options.MatchOption (digits_of l).number (r ≡ Err (BadForm at)) (λ v. MatchBool (nat_le v (highest (key_of l))) (r ≡ Ok l) (r ≡ Err (Over at)))

-- the line of k that starts at a byte of a text was read, with the value v: its bytes are a part of the text, and the
-- text goes on behind it
pub record PassedAs (k : Key) (text : List ℕ) (start v : ℕ) (l : Line) : Type 0 where
  pub kind : key_of l ≡ k
  pub at : (digits_of l).at ≡ start + length (key_bytes k)
  pub shows : drop start text ≡ key_bytes k ++ ((digits_of l).bytes.now ++ (10 ∷ drop (behind (digits_of l)) text))
  pub number : (digits_of l).number ≡ Some v
  pub range : v ≤ highest k
  pub reads : read_line k (drop start text) ≡ Ok (v, drop (behind (digits_of l)) text)
  pub within : behind (digits_of l) ≤ length text

-- the same, whatever the value
abbrev pub Passed : Key → List ℕ → ℕ → Line → Type 0
Passed k text start l = (v : ℕ) × PassedAs k text start v l

-- no line of k starts at a byte of a text: f is its fault, in the record of that number and start
abbrev pub Unread : Key → List ℕ → ℕ → ℕ → ℕ → LineFault → Type 0
Unread k text at number start f = (a : Amiss) × (read_line k (drop at text) ≡ Err a) × (f ≡ line_fault_at number start k at a)

-- r answers the reading of the line of k that starts at byte `at` of a text, in the record of that number and start
abbrev pub LineRead : Key → List ℕ → ℕ → ℕ → ℕ → Result Line LineFault → Type 0
LineRead k text at number start r = results.MatchResult r (λ l. Passed k text at l) (λ f. Unread k text at number start f)

-- the same in the format's words: the text goes on with the line that is printed of the value, and the line's digits are
-- those that the value is printed with; or the text goes on with no such line
abbrev pub LineMeans : Key → List ℕ → ℕ → Result Line LineFault → Type 0
LineMeans k text at r =
    results.MatchResult r (λ l. (v : ℕ) × ((digits_of l).number ≡ Some v) × ((digits_of l).bytes.now ≡ shown_value k v) × (v ≤ highest k) × (drop at text ≡ shown_line k v ++ drop (behind (digits_of l)) text)) (λ _. (v : ℕ) (rest : List ℕ) → v ≤ highest k → drop at text ≢ shown_line k v ++ rest)

-- the line of k that starts at a byte of a text has the value v, and the text goes on at another byte
pub record Valued (k : Key) (text : List ℕ) (at v next : ℕ) : Type 0 where
  pub reads : read_line k (drop at text) ≡ Ok (v, drop next text)
  pub range : v ≤ highest k
  pub grows : at ≤ next
  pub within : next ≤ length text
