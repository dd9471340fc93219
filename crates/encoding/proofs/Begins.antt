-- The number, the frame and the text that bytes begin with. Assumes nothing.
use Rattle.std.proofs.Common.{◌≡◌, ℕ, suc, zero, ◌+◌, ◌-◌, ◌^◌, ◌<◌, ◌≤◌, List, [], ◌∷◌, ◌++◌, length, get_or, take, drop, Some, None, Option, sym, ap, ◌∙◌, subst, ap₂, arith, Bor, ◌⊎◌}
use Rattle.std.specs.Int.{w32, w64, from_le_bytes}
use Rattle.std.specs.List.{slice_range}
use Rattle.std.specs.Option.{MatchOption, option_copied}
use Rattle.std.proofs.lemmas.List.{drop_all, drop_more, get_or-drop, length-append, length-take-le, take-append-drop}
use Rattle.std.proofs.lemmas.Nat.{from_le_bytes-to_le_bytes_4, le_bytes_4, le_bytes_8}
use Rattle.encoding.specs.Words.{word4, word8}
use Rattle.encoding.specs.Reading.{Framed, Texted}

abbrev pub Bytes : List ℕ → Type 0
Bytes s = (i : ℕ) → get_or s i 0 < 256

bytes_take : (n : ℕ) (s : List ℕ) → Bytes s → Bytes (take n s)
bytes_take zero s h i = omega arith
bytes_take (suc n) [] h i = omega arith
bytes_take (suc n) (x ∷ s) h zero = h 0
bytes_take (suc n) (x ∷ s) h (suc i) = bytes_take n s (λ i. h (suc i)) i

bytes_drop : (n : ℕ) (s : List ℕ) → Bytes s → Bytes (drop n s)
bytes_drop n s h i = subst (λ k. k < 256) (sym (get_or-drop n s i 0)) (h (n + i))

-- w are the first four bytes, and t those behind them
pub word_is : (s w t : List ℕ) (n : ℕ) → Bytes s → 4 ≤ length s → w ≡ take 4 s → t ≡ drop 4 s → n ≡ from_le_bytes w32 w → s ≡ word4 n ++ t
word_is s w t n bytes h e f is =
    let writes : word4 n ≡ take 4 s = le_bytes_4 (take 4 s) n (length-take-le 4 s h) (bytes_take 4 s bytes) (is ∙ ap (from_le_bytes w32) e) in
    sym (take-append-drop 4 s) ∙ ap₂ (λ u v. u ++ v) (sym writes) (sym f)

-- the same of eight
long_word_is : (s w t : List ℕ) (n : ℕ) → Bytes s → 8 ≤ length s → w ≡ take 8 s → t ≡ drop 8 s → n ≡ from_le_bytes w64 w → s ≡ word8 n ++ t
long_word_is s w t n bytes h e f is =
    let writes : word8 n ≡ take 8 s = le_bytes_8 (take 8 s) n (length-take-le 8 s h) (bytes_take 8 s bytes) (is ∙ ap (from_le_bytes w64) e) in
    sym (take-append-drop 8 s) ∙ ap₂ (λ u v. u ++ v) (sym writes) (sym f)

five : (z : List ℕ) → length z ≡ 5 → z ≡ get_or z 0 0 ∷ get_or z 1 0 ∷ get_or z 2 0 ∷ get_or z 3 0 ∷ get_or z 4 0 ∷ []
five z h =
    let a = drop_more z 0 0 (omega arith) in
    let b = drop_more z 1 0 (omega arith) in
    let c = drop_more z 2 0 (omega arith) in
    let d = drop_more z 3 0 (omega arith) in
    let e = drop_more z 4 0 (omega arith) in
    let f = drop_all 5 z (omega arith) in
    cc

-- the number, the marks and the last five bytes, one behind the other
pub frame_is : (s w t v u z : List ℕ) (n m : ℕ) → Bytes s → w ≡ take 4 s → t ≡ drop 4 s → length t + 4 ≡ length s → v ≡ take 8 t → u ≡ drop 8 t → length u + 8 ≡ length t → z ≡ take 5 u → 5 ≤ length u → n ≡ from_le_bytes w32 w → m ≡ from_le_bytes w64 v → n < 2 ^ 32 → m < 2 ^ 64
    → Framed s (Some (record { number = n; marks = m; look = get_or z 0 0; lane = get_or z 1 0; tail = get_or z 2 0; head = get_or z 3 0; side = get_or z 4 0 }))
frame_is s w t v u z n m bytes ew et long ev eu longer ez h en em fn fm =
    let behind : Bytes t = subst Bytes (sym et) (bytes_drop 4 s bytes) in
    let last : Bytes z = subst Bytes (sym ez) (bytes_take 5 u (subst Bytes (sym eu) (bytes_drop 8 t behind))) in
    let first = word_is s w t n bytes (omega arith) ew et en in
    let second = long_word_is t v u m behind (omega arith) ev eu em in
    let third : u ≡ z ++ drop 5 u = sym (take-append-drop 5 u) ∙ ap (λ z. z ++ drop 5 u) (sym ez) in
    let fifth = five z (ap length ez ∙ length-take-le 5 u h) in (
      drop 5 u,
      record { number = fn; marks = fm; look = last 0; lane = last 1; tail = last 2; head = last 3; side = last 4 },
      first ∙ ap (λ t. word4 n ++ t) (second ∙ ap (λ u. word8 m ++ u) (third ∙ ap (λ z. z ++ drop 5 u) fifth)),
    )

module _ (s t : List ℕ) (n : ℕ) (fits : n < 2 ^ 32) (e : s ≡ word4 n ++ t) where
  no_text : length t < n → Texted s None
  no_text short u rest h is =
      let both : word4 n ++ t ≡ word4 (length u) ++ (u ++ rest) = sym e ∙ is in
      let long : n ≡ length u = sym (from_le_bytes-to_le_bytes_4 n fits) ∙ ap (from_le_bytes w32) both ∙ from_le_bytes-to_le_bytes_4 (length u) h in
      omega (arith, ap (λ s. length (drop 4 s)) both, length-append u rest)

  some_text : (u : List ℕ) → n ≤ length t → u ≡ take n t → Texted s (Some u)
  some_text u h is =
      let long : length u ≡ n = ap length is ∙ length-take-le n t h in (
        drop n t,
        subst (λ k. k < 2 ^ 32) (sym long) fits,
        e ∙ ap (λ t. word4 n ++ t) (sym (take-append-drop n t) ∙ ap (λ u. u ++ drop n t) (sym is)) ∙ ap (λ k. word4 k ++ (u ++ drop n t)) (sym long),
      )

  pub text_is : (r : Option (Bor (List ℕ))) → MatchOption r ((n < 0) ⊎ (length t < n)) (λ u. (0 ≤ n) × (n ≤ length t) × (u.now ≡ slice_range t 0 n) × (length u.now + 0 ≡ n)) → Texted s (option_copied r)
  text_is None h = no_text (omega (arith, h))
  text_is (Some u) h = let all : n - 0 ≡ n = omega arith in some_text u.now h.1 (h.2 ∙ ap (λ k. take k t) all)
