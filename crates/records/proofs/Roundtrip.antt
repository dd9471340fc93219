-- What is printed reads back, and what was read is what is printed.
use Rattle.std.proofs.Common.{◌≡◌, ℕ, ◌^◌, ◌<◌, ◌≤◌, List, [], ◌∷◌, ◌++◌, Ok, Err, decimal, Result, sym, refl, ap, ◌∙◌, subst, append_assoc, append-nil, arith}
use Rattle.frames.specs.Frames.{InRange}
use Rattle.frames.specs.declared.frame.Frame.{Frame}
use Rattle.records.specs.Format.{key_bytes, highest, shown_value, shown_line, shown}
use Rattle.records.specs.Reading.{Amiss, Wrong, decimal_due, due, go_on, read_decimal_line, read_line, read_record}
use Rattle.records.specs.declared.key.Key.{Key}
use Rattle.records.specs.declared.key.Key.TheVariants.{Number, Marks, Look, Lane, Tail, Head, Side}
use Rattle.records.proofs.Decimals.{decimals}
use Rattle.records.proofs.Hexadecimals.{hexadecimals}
use Rattle.records.proofs.Notation.{Notation, reads_written, written_reads}
use Rattle.records.proofs.RecordCases.{seven_lines}

-- the line of a value, with the text behind it
pub line_joined : (key value rest : List ℕ) → (key ++ (value ++ (10 ∷ []))) ++ rest ≡ key ++ (value ++ (10 ∷ rest))
line_joined key value rest = append_assoc key (value ++ (10 ∷ [])) rest ∙ ap (λ (t : List ℕ). key ++ t) (append_assoc value (10 ∷ []) rest)

-- a line of any key in shortest decimal digits
module _ (key : List ℕ) (most high : ℕ) (some : 0 < most) (fits : high < 10 ^ most) (small : high < 2 ^ 64) where
  pub read_decimal : (v : ℕ) (rest : List ℕ) → v ≤ high → read_decimal_line key most high ((key ++ (decimal v ++ (10 ∷ []))) ++ rest) ≡ Ok (v, rest)
  unfolding read_decimal_line
  read_decimal v rest low =
      ap (read_decimal_line key most high) (line_joined key (decimal v) rest) ∙ reads_written (decimal_due key most high) decimal (decimals key most high some fits small) v rest low

  pub decimal_read : (s : List ℕ) (v : ℕ) (rest : List ℕ) → read_decimal_line key most high s ≡ Ok (v, rest) → (v ≤ high) × (s ≡ (key ++ (decimal v ++ (10 ∷ []))) ++ rest)
  unfolding read_decimal_line
  decimal_read s v rest ok =
      let p = written_reads (decimal_due key most high) decimal (decimals key most high some fits small) s v rest ok in
      (p.0, p.1 ∙ sym (line_joined key (decimal v) rest))

-- how the values of each line are written
notation : (k : Key) → Notation (due k) (shown_value k)
notation Number = decimals (key_bytes Number) 10 4294967295 (omega arith) (omega arith) (omega arith)
notation Marks = hexadecimals (key_bytes Marks)
notation Look = decimals (key_bytes Look) 3 255 (omega arith) (omega arith) (omega arith)
notation Lane = decimals (key_bytes Lane) 2 63 (omega arith) (omega arith) (omega arith)
notation Tail = decimals (key_bytes Tail) 3 255 (omega arith) (omega arith) (omega arith)
notation Head = decimals (key_bytes Head) 3 255 (omega arith) (omega arith) (omega arith)
notation Side = decimals (key_bytes Side) 1 1 (omega arith) (omega arith) (omega arith)

-- a line that is printed reads back
pub read_line_shown : (k : Key) (v : ℕ) (rest : List ℕ) → v ≤ highest k → read_line k (shown_line k v ++ rest) ≡ Ok (v, rest)
unfolding read_line
read_line_shown k v rest low = ap (read_line k) (line_joined (key_bytes k) (shown_value k v) rest) ∙ reads_written (due k) (shown_value k) (notation k) v rest low

-- a line that was read is what is printed
pub line_shown : (k : Key) (s : List ℕ) (v : ℕ) (rest : List ℕ) → read_line k s ≡ Ok (v, rest) → (v ≤ highest k) × (s ≡ shown_line k v ++ rest)
unfolding read_line
line_shown k s v rest ok =
    let p = written_reads (due k) (shown_value k) (notation k) s v rest ok in
    (p.0, p.1 ∙ sym (line_joined (key_bytes k) (shown_value k v) rest))

-- seven lines, one after the other
seven_joined : (a b c d e f g rest : List ℕ) → (a ++ (b ++ (c ++ (d ++ (e ++ (f ++ (g ++ []))))))) ++ rest ≡ a ++ (b ++ (c ++ (d ++ (e ++ (f ++ (g ++ rest))))))
seven_joined a b c d e f g rest = simp (append_assoc, append-nil)

-- a record that is printed reads back as its frame, and the text behind it is untouched
pub read_shown : (x : Frame) → InRange x → (rest : List ℕ) → read_record (shown x ++ rest) ≡ Ok (x, rest)
read_shown x i rest =
    let a = shown_line Number x.number in
    let b = shown_line Marks x.marks in
    let c = shown_line Look x.look in
    let d = shown_line Lane x.lane in
    let e = shown_line Tail x.tail in
    let f = shown_line Head x.head in
    let g = shown_line Side x.side in
    ap read_record (seven_joined a b c d e f g rest)
    ∙ seven_lines _ x.number _ (read_line_shown Number x.number (b ++ (c ++ (d ++ (e ++ (f ++ (g ++ rest)))))) i.number) x.marks _
    (read_line_shown Marks x.marks (c ++ (d ++ (e ++ (f ++ (g ++ rest))))) i.marks) x.look _
    (read_line_shown Look x.look (d ++ (e ++ (f ++ (g ++ rest)))) i.look) x.lane _
    (read_line_shown Lane x.lane (e ++ (f ++ (g ++ rest))) i.lane) x.tail _
    (read_line_shown Tail x.tail (f ++ (g ++ rest)) i.tail) x.head _
    (read_line_shown Head x.head (g ++ rest) i.head) x.side rest
    (read_line_shown Side x.side rest i.side)

-- a line that lets the reading go on was read
went_on : {X C : Type 0} (w : Amiss → Wrong) (r : Result (ℕ × List ℕ) Amiss) (f : ℕ → List ℕ → Result X Wrong) (x : X) → go_on w r f ≡ Ok x → ((v : ℕ) (rest : List ℕ) → r ≡ Ok (v, rest) → f v rest ≡ Ok x → C) → C
went_on w (Ok p) f x ok go = go p.0 p.1 refl ok
went_on w (Err a) f x ok go = cc

-- seven lines that each begin what is left
seven_fronts : (a b c d e f g s s₁ s₂ s₃ s₄ s₅ s₆ rest : List ℕ) → s ≡ a ++ s₁ → s₁ ≡ b ++ s₂ → s₂ ≡ c ++ s₃ → s₃ ≡ d ++ s₄ → s₄ ≡ e ++ s₅ → s₅ ≡ f ++ s₆ → s₆ ≡ g ++ rest → s ≡ (a ++ (b ++ (c ++ (d ++ (e ++ (f ++ (g ++ []))))))) ++ rest
seven_fronts a b c d e f g s s₁ s₂ s₃ s₄ s₅ s₆ rest p₁ p₂ p₃ p₄ p₅ p₆ p₇ = let j = seven_joined a b c d e f g rest in cc

lines_shown : (s s₁ s₂ s₃ s₄ s₅ s₆ s₇ : List ℕ) (a b c d e f g : ℕ) → read_line Number s ≡ Ok (a, s₁) → read_line Marks s₁ ≡ Ok (b, s₂) → read_line Look s₂ ≡ Ok (c, s₃) → read_line Lane s₃ ≡ Ok (d, s₄) → read_line Tail s₄ ≡ Ok (e, s₅) → read_line Head s₅ ≡ Ok (f, s₆) → read_line Side s₆ ≡ Ok (g, s₇) → InRange (record { number = a; marks = b; look = c; lane = d; tail = e; head = f; side = g }) × (s ≡ shown (record { number = a; marks = b; look = c; lane = d; tail = e; head = f; side = g }) ++ s₇)
lines_shown s s₁ s₂ s₃ s₄ s₅ s₆ s₇ a b c d e f g e₁ e₂ e₃ e₄ e₅ e₆ e₇ =
    let q₁ = line_shown Number s a s₁ e₁ in
    let q₂ = line_shown Marks s₁ b s₂ e₂ in
    let q₃ = line_shown Look s₂ c s₃ e₃ in
    let q₄ = line_shown Lane s₃ d s₄ e₄ in
    let q₅ = line_shown Tail s₄ e s₅ e₅ in
    let q₆ = line_shown Head s₅ f s₆ e₆ in
    let q₇ = line_shown Side s₆ g s₇ e₇ in
    (record { number = q₁.0; marks = q₂.0; look = q₃.0; lane = q₄.0; tail = q₅.0; head = q₆.0; side = q₇.0 }, seven_fronts (shown_line Number a) (shown_line Marks b) (shown_line Look c) (shown_line Lane d) (shown_line Tail e) (shown_line Head f) (shown_line Side g) s s₁ s₂ s₃ s₄ s₅ s₆ s₇ q₁.1 q₂.1 q₃.1 q₄.1 q₅.1 q₆.1 q₇.1)

-- a record that was read is what is printed of its frame, which is in range
pub record_shown : (s : List ℕ) (x : Frame) (rest : List ℕ) → read_record s ≡ Ok (x, rest) → InRange x × (s ≡ shown x ++ rest)
unfolding read_record
record_shown s x rest ok =
    went_on _ (read_line Number s) _ (x, rest) ok (λ a s₁ e₁ o₁.
    went_on _ (read_line Marks s₁) _ (x, rest) o₁ (λ b s₂ e₂ o₂.
    went_on _ (read_line Look s₂) _ (x, rest) o₂ (λ c s₃ e₃ o₃.
    went_on _ (read_line Lane s₃) _ (x, rest) o₃ (λ d s₄ e₄ o₄.
    went_on _ (read_line Tail s₄) _ (x, rest) o₄ (λ e s₅ e₅ o₅.
    went_on _ (read_line Head s₅) _ (x, rest) o₅ (λ f s₆ e₆ o₆.
    went_on _ (read_line Side s₆) _ (x, rest) o₆ (λ g s₇ e₇ o₇.
    subst (λ (y : Frame × List ℕ). InRange y.0 × (s ≡ shown y.0 ++ y.1)) (cc o₇)
    (lines_shown s s₁ s₂ s₃ s₄ s₅ s₆ s₇ a b c d e f g e₁ e₂ e₃ e₄ e₅ e₆ e₇))))))))
