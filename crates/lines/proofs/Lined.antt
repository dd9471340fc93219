-- A line of a text that was read step by step: the key, the line feed, the value.
use Rattle.std.proofs.Common.{◌≡◌, ℕ, ◌+◌, ◌<◌, ◌≤◌, min, true, false, eqb, List, ◌∷◌, ◌++◌, length, take, drop, Some, None, Ok, Err, Option, Result, MatchOption, MatchBool, refl, sym, ap, ◌∙◌, subst, ⊎_elim, arith, length-drop, length-take, nat_le}
use Rattle.std.proofs.lemmas.Bool.{MatchBool-at_true, MatchBool-at_false, le-leb, lt-leb, cases_lt}
use Rattle.std.proofs.lemmas.List.Prefix.{front_fits}
use Rattle.std.proofs.lemmas.List.{drop-drop, length-take-le, append_cancel_left, append_cancel_right}
use Rattle.std.specs.List.{common_prefix_len}
use Rattle.spots.specs.Faults.{spot}
use Rattle.records.specs.Format.{key_bytes, longest, highest, shown_value}
use Rattle.records.specs.Of.{key_of, digits_of, behind}
use Rattle.lines.specs.Lines.{Numbered, Taken, Judged, PassedAs, LineRead, LineMeans}
use Rattle.records.specs.Reading.{amiss, bad_form, over, due, line_of, key_amiss, end_amiss, before_feed, number_in, base_of, form_of, judged, read_value, read_line}
use Rattle.spots.specs.declared.fault.LineFault.{LineFault}
use Rattle.spots.specs.declared.fault.LineFault.TheVariants.{BadForm, Over}
use Rattle.spots.specs.declared.fault.Spot.{Spot}
use Rattle.records.specs.declared.key.Key.{Key}
use Rattle.records.specs.declared.line.Line.{Line}
use Rattle.records.proofs.Keys.{front_common}
use Rattle.records.proofs.Feeds.{feed_splits}
use Rattle.records.proofs.Roundtrip.{line_joined, line_shown, read_line_shown}
use Rattle.records.proofs.LineCases.{no_key, key_there, no_end, end_there, no_form, too_high, all_well}

pub key_some : (k : Key) → 0 < length (key_bytes k)
key_some k = grind arith

pub longest_le : (k : Key) → longest k ≤ 16
longest_le k = grind arith

pub line_no_key : (k : Key) (s : List ℕ) → common_prefix_len eqb (key_bytes k) s < length (key_bytes k) → read_line k s ≡ Err (key_amiss (key_bytes k) s)
unfolding read_line
line_no_key k s h = no_key (due k) s h

module _ (k : Key) (s rest : List ℕ) (there : common_prefix_len eqb (key_bytes k) s ≡ length (key_bytes k)) (after : rest ≡ drop (length (key_bytes k)) s) where
  pub line_no_end : before_feed (take (longest k + 1) rest) ≡ length (take (longest k + 1) rest) → read_line k s ≡ Err (end_amiss (due k) rest)
  unfolding read_line
  line_no_end h = key_there (due k) s there ∙ subst (λ (t : List ℕ). read_value (due k) t ≡ Err (end_amiss (due k) rest)) after (no_end (due k) rest h)

  pub line_judged : (n : ℕ) → n ≡ before_feed (take (longest k + 1) rest) → n < length (take (longest k + 1) rest) → read_line k s ≡ judged (due k) (take n rest) (drop (n + 1) rest)
  unfolding read_line
  line_judged n e h = key_there (due k) s there ∙ subst (λ (t : List ℕ). read_value (due k) t ≡ judged (due k) (take n rest) (drop (n + 1) rest)) after (end_there (due k) rest n e h)

  -- the value stands behind the key
  pub value_place : (text : List ℕ) (at : ℕ) → s ≡ drop at text → length rest + (at + length (key_bytes k)) ≡ length text
  value_place text at from =
      let f = front_fits s (key_bytes k) _ (front_common (key_bytes k) s there) in
      omega (arith, f, key_some k, ap length after, length-drop (length (key_bytes k)) s, ap length from, length-drop at text)

-- the line feed stands within the window, and so within the text
pub feed_within : (k : Key) (rest : List ℕ) (n : ℕ) → n < length (take (longest k + 1) rest) → (n ≤ 16) × (n < length rest)
feed_within k rest n h = let m : n < min (longest k + 1) (length rest) = rw length-take at h in (omega (arith, m, longest_le k), omega (arith, m))

module _ (k : Key) (text : List ℕ) (at n : ℕ) (s rest : List ℕ) (from : s ≡ drop at text) (there : common_prefix_len eqb (key_bytes k) s ≡ length (key_bytes k)) (after : rest ≡ drop (length (key_bytes k)) s) (fed : n ≡ before_feed (take (longest k + 1) rest)) (in_window : n < length (take (longest k + 1) rest)) (l : Line) (t : Taken k (take n rest) (at + length (key_bytes k)) l) where
  bytes_long : length (digits_of l).bytes.now ≡ n
  bytes_long = ap length t.bytes ∙ length-take-le n rest (omega (arith, (feed_within k rest n in_window).1))

  behind_is : behind (digits_of l) ≡ at + length (key_bytes k) + (n + 1)
  behind_is = omega (arith, bytes_long, t.at)

  goes_on : drop (n + 1) rest ≡ drop (behind (digits_of l)) text
  goes_on =
      let a = drop-drop (length (key_bytes k)) at text in
      let b = drop-drop (n + 1) (at + length (key_bytes k)) text in
      let c = behind_is in
      cc

  reads_as : read_line k (drop at text) ≡ judged (due k) (take n rest) (drop (n + 1) rest)
  reads_as = ap (read_line k) (sym from) ∙ line_judged k s rest there after n fed in_window

  -- the number of the value, and its form
  written : (v : ℕ) → (digits_of l).number ≡ Some v → (form_of k (take n rest) ≡ true) × (v ≡ number_in (base_of k) (take n rest))
  written v e = subst (λ (o : Option ℕ). Numbered (form_of k (take n rest)) (base_of k) (take n rest) o) e t.number

  unwritten : (digits_of l).number ≡ None → form_of k (take n rest) ≡ false
  unwritten e = subst (λ (o : Option ℕ). Numbered (form_of k (take n rest)) (base_of k) (take n rest) o) e t.number

  line_passed : (v : ℕ) → (digits_of l).number ≡ Some v → v ≤ highest k → PassedAs k text at v l
  line_passed v number low =
      let good = written v number in
      let split = front_common (key_bytes k) s there in
      let window = feed_splits (longest k + 1) rest (subst (λ (m : ℕ). m < length (take (longest k + 1) rest)) fed in_window) in
      let g = goes_on in
      let b = t.bytes in
      let e = good.1 in
      let w = all_well (due k) (take n rest) (drop (n + 1) rest) good.0 (subst (λ (m : ℕ). m ≤ highest k) e low) in
      let ra = reads_as in
      record {
        kind = t.kind;
        at = t.at;
        shows = cc;
        number = number;
        range = low;
        reads = cc;
        within = omega (arith, behind_is, value_place k s rest there after text at from, (feed_within k rest n in_window).1);
      }

  module _ (rec start : ℕ) (r : Result Line LineFault) where
    abbrev spot_here : Spot
    spot_here = spot rec (line_of k) (at + length (key_bytes k))

    line_ranged : (v : ℕ) → (digits_of l).number ≡ Some v → MatchBool (nat_le v (highest (key_of l))) (r ≡ Ok l) (r ≡ Err (Over spot_here)) → LineRead k text at rec start r
    line_ranged v number j =
        let kind = ap highest t.kind in
        ⊎_elim
        (λ (h : highest k < v).
        let e = MatchBool-at_false _ _ (lt-leb v (highest (key_of l)) (omega (arith, kind, h))) j in
        let good = written v number in
        subst (λ r. LineRead k text at rec start r) (sym e) (amiss over (length (key_bytes k)), reads_as ∙ too_high (due k) (take n rest) (drop (n + 1) rest) good.0 (subst (λ (m : ℕ). highest k < m) good.1 h), refl))
        (λ (h : v ≤ highest k).
        let e = MatchBool-at_true _ _ (le-leb v (highest (key_of l)) (omega (arith, kind, h))) j in
        subst (λ r. LineRead k text at rec start r) (sym e) (v, line_passed v number h))
        (cases_lt (highest k) v)

    line_numbered : (o : Option ℕ) → (digits_of l).number ≡ o → MatchOption o (r ≡ Err (BadForm spot_here)) (λ v. MatchBool (nat_le v (highest (key_of l))) (r ≡ Ok l) (r ≡ Err (Over spot_here))) → LineRead k text at rec start r
    line_numbered None number e =
        subst (λ r. LineRead k text at rec start r) (sym e) (amiss bad_form (length (key_bytes k)), reads_as ∙ no_form (due k) (take n rest) (drop (n + 1) rest) (unwritten number), refl)
    line_numbered (Some v) number j = line_ranged v number j

    pub line_read : Judged l spot_here r → LineRead k text at rec start r
    line_read j = line_numbered (digits_of l).number refl j

-- the digits of a line that was read are those that its value is printed with
digits_printed : (k : Key) (text : List ℕ) (at v : ℕ) (l : Line) → PassedAs k text at v l → (digits_of l).bytes.now ≡ shown_value k v
digits_printed k text at v l p =
    let rest = drop (behind (digits_of l)) text in
    let bytes = (digits_of l).bytes.now in
    let value = shown_value k v in
    let printed = (line_shown k (drop at text) v rest p.reads).1 ∙ line_joined (key_bytes k) value rest in
    append_cancel_right bytes value (10 ∷ rest) (append_cancel_left (key_bytes k) (bytes ++ (10 ∷ rest)) (value ++ (10 ∷ rest)) (sym p.shows ∙ printed))

-- a line was read just where it is printed so
pub line_means : (k : Key) (text : List ℕ) (at number start : ℕ) (r : Result Line LineFault) → LineRead k text at number start r → LineMeans k text at r
line_means k text at number start (Ok l) p =
    let h = line_shown k (drop at text) p.0 (drop (behind (digits_of l)) text) p.1.reads in
    (p.0, p.1.number, digits_printed k text at p.0 l p.1, h.0, h.1)
line_means k text at number start (Err f) p =
    λ v rest low e. let no : ⊥ = cc (ap (read_line k) e ∙ read_line_shown k v rest low, p.1) in no
