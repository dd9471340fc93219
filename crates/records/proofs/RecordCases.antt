-- What `read_record` answers, line by line.
use Rattle.std.proofs.Common.{◌≡◌, ℕ, ◌+◌, ◌-◌, ◌≤◌, List, length, drop, Ok, Err, sym, ap, ◌∙◌, arith, length-drop}
use Rattle.spots.specs.Faults.{spot}
use Rattle.records.specs.Reading.{Why, wrong_key, bad_form, over, cut, Amiss, told, fault, line_of, read_line, wrong_in, read_record, fault_at, line_fault_at}
use Rattle.records.specs.declared.key.Key.{Key}
use Rattle.records.specs.declared.key.Key.TheVariants.{Number, Marks, Look, Lane, Tail, Head, Side}

module _ (s : List ℕ) where
  pub stops_1 : (x : Amiss) → read_line Number s ≡ Err x → read_record s ≡ Err (wrong_in Number (length s) s x)
  unfolding read_record
  stops_1 x e = rw e

  module _ (a : ℕ) (s₁ : List ℕ) (e₁ : read_line Number s ≡ Ok (a, s₁)) where
    pub stops_2 : (x : Amiss) → read_line Marks s₁ ≡ Err x → read_record s ≡ Err (wrong_in Marks (length s) s₁ x)
    unfolding read_record
    stops_2 x e = rw (e₁, e)

    module _ (b : ℕ) (s₂ : List ℕ) (e₂ : read_line Marks s₁ ≡ Ok (b, s₂)) where
      pub stops_3 : (x : Amiss) → read_line Look s₂ ≡ Err x → read_record s ≡ Err (wrong_in Look (length s) s₂ x)
      unfolding read_record
      stops_3 x e = rw (e₁, e₂, e)

      module _ (c : ℕ) (s₃ : List ℕ) (e₃ : read_line Look s₂ ≡ Ok (c, s₃)) where
        pub stops_4 : (x : Amiss) → read_line Lane s₃ ≡ Err x → read_record s ≡ Err (wrong_in Lane (length s) s₃ x)
        unfolding read_record
        stops_4 x e = rw (e₁, e₂, e₃, e)

        module _ (d : ℕ) (s₄ : List ℕ) (e₄ : read_line Lane s₃ ≡ Ok (d, s₄)) where
          pub stops_5 : (x : Amiss) → read_line Tail s₄ ≡ Err x → read_record s ≡ Err (wrong_in Tail (length s) s₄ x)
          unfolding read_record
          stops_5 x e = rw (e₁, e₂, e₃, e₄, e)

          module _ (t : ℕ) (s₅ : List ℕ) (e₅ : read_line Tail s₄ ≡ Ok (t, s₅)) where
            pub stops_6 : (x : Amiss) → read_line Head s₅ ≡ Err x → read_record s ≡ Err (wrong_in Head (length s) s₅ x)
            unfolding read_record
            stops_6 x e = rw (e₁, e₂, e₃, e₄, e₅, e)

            module _ (h : ℕ) (s₆ : List ℕ) (e₆ : read_line Head s₅ ≡ Ok (h, s₆)) where
              pub stops_7 : (x : Amiss) → read_line Side s₆ ≡ Err x → read_record s ≡ Err (wrong_in Side (length s) s₆ x)
              unfolding read_record
              stops_7 x e = rw (e₁, e₂, e₃, e₄, e₅, e₆, e)

              pub seven_lines : (g : ℕ) (rest : List ℕ) → read_line Side s₆ ≡ Ok (g, rest) → read_record s ≡ Ok (record { number = a; marks = b; look = c; lane = d; tail = t; head = h; side = g }, rest)
              unfolding read_record
              seven_lines g rest e = rw (e₁, e₂, e₃, e₄, e₅, e₆, e)

-- a line's fault is that of its record
told_from : (w : Why) (start at byte : ℕ) → start ≤ at → told w start (at + byte) ≡ start + told w 0 (at - start + byte)
told_from wrong_key start at byte h = omega arith
told_from bad_form start at byte h = omega arith
told_from over start at byte h = omega arith
told_from cut start at byte h = omega arith

pub same-fault : (number : ℕ) (text : List ℕ) (start at : ℕ) (k : Key) (a : Amiss) → start ≤ at → (length text - start) - (length text - at) ≡ at - start → line_fault_at number start k at a ≡ fault_at number start (wrong_in k (length (drop start text)) (drop at text) a)
same-fault number text start at k a le far =
    let w = a.why in
    let e : length (drop start text) - length (drop at text) ≡ at - start = omega (arith, length-drop start text, length-drop at text) in
    ap (λ (n : ℕ). fault w (spot number (line_of k) n)) (told_from w start at a.byte le ∙ ap (λ (m : ℕ). start + told w 0 (m + a.byte)) (sym e))
