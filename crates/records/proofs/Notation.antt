-- Ways to write a value, such that a line reads as it was written, and what was read is what is written.
use Rattle.std.proofs.Common.{◌≡◌, ℕ, ◌+◌, ◌<◌, ◌≤◌, Bool, ◌==◌, true, false, not, eqb, ltb, List, [], ◌∷◌, ◌++◌, length, take, drop, Ok, sym, refl, ap, ◌∙◌, subst, ⊎_elim, arith, length-append, length-take}
use Rattle.std.proofs.lemmas.List.{take_at, drop_at, drop-drop, get_or-take}
use Rattle.std.proofs.lemmas.List.Sums.{prefix_len-le-length, common_prefix_len-le, position_or_len_is, fails_before_first, passes_at_first}
use Rattle.std.proofs.lemmas.Bool.{cases_eq, cases_lt, cases_Bool, ne_eqb, cond-true, and_parts, ltb-true}
use Rattle.std.specs.List.{common_prefix_len}
use Rattle.records.specs.Reading.{Due, digit, digits_in, before_feed, number_in, judged, read_value, read_due}
use Rattle.records.proofs.Feeds.{feed_splits}
use Rattle.records.proofs.Keys.{common_front, front_common}
use Rattle.records.proofs.LineCases.{no_key, key_there, no_end, end_there, no_form, too_high, all_well}

-- `write` writes the values of a line
pub record Notation (d : Due) (write : ℕ → List ℕ) : Type 0 where
  pub formed : (v : ℕ) → v ≤ d.highest → d.formed (write v) ≡ true
  pub valued : (v : ℕ) → v ≤ d.highest → number_in d.base (write v) ≡ v
  pub short : (v : ℕ) → v ≤ d.highest → length (write v) ≤ d.longest
  pub unique : (ds : List ℕ) → d.formed ds ≡ true → number_in d.base ds ≤ d.highest → write (number_in d.base ds) ≡ ds
  pub plain : (ds rest : List ℕ) → d.formed ds ≡ true → before_feed (ds ++ (10 ∷ rest)) ≡ length ds

-- a shorter part has the same first line feed
pub before-take : (m : ℕ) (s : List ℕ) → before_feed s < m → before_feed (take m s) ≡ before_feed s
before-take m s h =
    let feed : ℕ → Bool = λ c. c == 10 in
    let n = before_feed s in
    position_or_len_is feed (take m s) n 0 (omega (arith, length-take m s, prefix_len-le-length (λ c. not (eqb c 10)) s, h))
    (λ k l. ap feed (get_or-take m s k 0 (omega (arith, l, h))) ∙ fails_before_first feed s k 0 l)
    (λ l. ap feed (get_or-take m s n 0 h) ∙ passes_at_first feed s 0 (omega (arith, l, length-take m s)))

-- digits have no line feed among them
pub digits_plain : (base : ℕ) → base ≤ 16 → (ds rest : List ℕ) → digits_in base ds ≡ true → before_feed (ds ++ (10 ∷ rest)) ≡ length ds
digits_plain base low [] rest h = refl
digits_plain base low (c ∷ ds) rest h =
    let p = and_parts (ltb (digit c) base) (digits_in base ds) h in
    let l = ltb-true (digit c) base p.0 in
    let n : eqb c 10 ≡ false = ne_eqb c 10 (λ e. let z : digit c ≡ 16 = ap digit e in omega (arith, z, l)) in
    cond-true (not (eqb c 10)) _ 0 (ap not n) ∙ omega (arith, digits_plain base low ds rest p.1)

module _ (d : Due) (write : ℕ → List ℕ) (w : Notation d write) where
  -- what is written reads back
  pub reads_written : (v : ℕ) (rest : List ℕ) → v ≤ d.highest → read_due d (d.key ++ (write v ++ (10 ∷ rest))) ≡ Ok (v, rest)
  reads_written v rest low =
      let s : List ℕ = write v ++ (10 ∷ rest) in
      let n : ℕ = length (write v) in
      let f = w.plain (write v) rest (w.formed v low) in
      let b = before-take (d.longest + 1) s (omega (arith, f, w.short v low)) in
      let l : n < length (take (d.longest + 1) s) = simp (length-take, length-append) (omega (arith, w.short v low)) in
      let k = key_there d (d.key ++ s) (common_front d.key s) in
      let r = drop_at d.key s (length d.key) refl in
      let e = end_there d s n (sym (b ∙ f)) l in
      let t = take_at (write v) (10 ∷ rest) n refl in
      let u : drop (n + 1) s ≡ rest = sym (drop-drop 1 n s) ∙ ap (drop 1) (drop_at (write v) (10 ∷ rest) n refl) in
      let j = all_well d (write v) rest (w.formed v low) (subst (λ (m : ℕ). m ≤ d.highest) (sym (w.valued v low)) low) in
      let q = w.valued v low in
      cc

  -- what was judged as a value is what is written of it
  judged-written : (ds rest : List ℕ) (v : ℕ) (rest' : List ℕ) → judged d ds rest ≡ Ok (v, rest') → (v ≤ d.highest) × (ds ≡ write v) × (rest ≡ rest')
  judged-written ds rest v rest' ok =
      ⊎_elim
      (λ (f : d.formed ds ≡ true).
      ⊎_elim
      (λ (h : d.highest < number_in d.base ds). cc (ok, too_high d ds rest f h))
      (λ (h : number_in d.base ds ≤ d.highest).
      let a : ◌≡◌ {A = ℕ × List ℕ} (number_in d.base ds, rest) (v, rest') = cc (ok, all_well d ds rest f h) in
      let e = ap (λ p. p.0) a in
      (omega arith, sym (w.unique ds f h) ∙ ap write e, ap (λ p. p.1) a))
      (cases_lt d.highest (number_in d.base ds)))
      (λ (f : d.formed ds ≡ false). cc (ok, no_form d ds rest f))
      (cases_Bool (d.formed ds))

  value_written : (s : List ℕ) (v : ℕ) (rest : List ℕ) → read_value d s ≡ Ok (v, rest) → (v ≤ d.highest) × (s ≡ write v ++ (10 ∷ rest))
  value_written s v rest ok =
      let window : List ℕ = take (d.longest + 1) s in
      ⊎_elim
      (λ (l : before_feed window < length window).
      let e = end_there d s (before_feed window) refl l in
      let j = judged-written (take (before_feed window) s) (drop (before_feed window + 1) s) v rest (sym e ∙ ok) in
      let f = feed_splits (d.longest + 1) s l in
      let p = j.1 in
      let q = j.2 in
      (j.0, cc))
      (λ (l : length window ≤ before_feed window). cc (ok, no_end d s (omega (arith, l, prefix_len-le-length (λ c. not (eqb c 10)) window))))
      (cases_lt (before_feed window) (length window))

  -- what was read is what is written
  pub written_reads : (s : List ℕ) (v : ℕ) (rest : List ℕ) → read_due d s ≡ Ok (v, rest) → (v ≤ d.highest) × (s ≡ d.key ++ (write v ++ (10 ∷ rest)))
  written_reads s v rest ok =
      ⊎_elim
      (λ (e : common_prefix_len eqb d.key s ≡ length d.key).
      let p = value_written (drop (length d.key) s) v rest (sym (key_there d s e) ∙ ok) in
      (p.0, front_common d.key s e ∙ ap (λ (t : List ℕ). d.key ++ t) p.1))
      (λ (e : common_prefix_len eqb d.key s ≡ length d.key → ⊥). cc (ok, no_key d s (omega (arith, e, common_prefix_len-le eqb d.key s))))
      (cases_eq (common_prefix_len eqb d.key s) (length d.key))
