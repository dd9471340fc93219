-- What `read_due` answers, case by case.
use Rattle.std.proofs.Common.{◌≡◌, ℕ, ◌+◌, ◌<◌, ◌≤◌, true, false, eqb, List, length, take, drop, Ok, Err, sym, ap, ◌∙◌, arith}
use Rattle.std.proofs.lemmas.Bool.{eq-eqb, ne_eqb, lt-ltb, le-ltb, le-leb, lt-leb, cond-true, cond-false}
use Rattle.std.specs.List.{common_prefix_len}
use Rattle.records.specs.Reading.{Due, amiss, over, bad_form, key_amiss, end_amiss, before_feed, number_in, judged, read_value, read_due}

module _ (d : Due) (s : List ℕ) where
  pub no_key : common_prefix_len eqb d.key s < length d.key → read_due d s ≡ Err (key_amiss d.key s)
  no_key h = cond-false _ _ _ (ne_eqb (common_prefix_len eqb d.key s) (length d.key) (λ e. omega arith))

  pub key_there : common_prefix_len eqb d.key s ≡ length d.key → read_due d s ≡ read_value d (drop (length d.key) s)
  key_there h = cond-true _ _ _ (eq-eqb (common_prefix_len eqb d.key s) (length d.key) h)

  pub no_end : before_feed (take (d.longest + 1) s) ≡ length (take (d.longest + 1) s) → read_value d s ≡ Err (end_amiss d s)
  no_end h = cond-false _ _ _ (le-ltb (before_feed (take (d.longest + 1) s)) (length (take (d.longest + 1) s)) (omega arith))

  pub end_there : (n : ℕ) → n ≡ before_feed (take (d.longest + 1) s) → n < length (take (d.longest + 1) s) → read_value d s ≡ judged d (take n s) (drop (n + 1) s)
  end_there n e h =
      cond-true _ _ _ (lt-ltb (before_feed (take (d.longest + 1) s)) (length (take (d.longest + 1) s)) (rw e at h)) ∙ ap (λ (m : ℕ). judged d (take m s) (drop (m + 1) s)) (sym e)

module _ (d : Due) (ds rest : List ℕ) where
  pub no_form : d.formed ds ≡ false → judged d ds rest ≡ Err (amiss bad_form (length d.key))
  no_form h = cond-false _ _ _ h

  pub too_high : d.formed ds ≡ true → d.highest < number_in d.base ds → judged d ds rest ≡ Err (amiss over (length d.key))
  too_high h l = cond-true _ _ _ h ∙ cond-false _ _ _ (lt-leb (number_in d.base ds) d.highest l)

  pub all_well : d.formed ds ≡ true → number_in d.base ds ≤ d.highest → judged d ds rest ≡ Ok (number_in d.base ds, rest)
  all_well h l = cond-true _ _ _ h ∙ cond-true _ _ _ (le-leb (number_in d.base ds) d.highest l)
