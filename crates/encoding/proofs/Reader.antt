-- A reader of calls that reads each call's bytes back, so that no bytes are two calls. Assumes nothing.
use Rattle.std.proofs.Common.{◌≡◌, ℕ, ◌-◌, ◌^◌, ◌<◌, ◌≤◌, cond, eqb, leb, List, [], ◌∷◌, ◌++◌, length, get_or, take, drop, Some, None, Option, sym, refl, ap, ◌∙◌, ap₂, arith}
use Rattle.std.specs.Int.{w32, w64, from_le_bytes}
use Rattle.std.specs.List.{flat_map}
use Rattle.std.specs.Option.{option_map}
use Rattle.std.proofs.lemmas.Bool.{le-leb}
use Rattle.std.proofs.lemmas.List.{append_cancel_left, length-append, take_at}
use Rattle.std.proofs.lemmas.Nat.{from_le_bytes-to_le_bytes_4, from_le_bytes-to_le_bytes_8}
use Rattle.frames.specs.declared.frame.Frame.{Frame}
use Rattle.encoding.specs.Words.{word4}
use Rattle.encoding.specs.Requests.{Requested, offer, text, look_up, counts, print_out, clear, FrameFits, frame_bytes, bytes_of, Fits, OneReading}

abbrev frame_in : List ℕ → Frame
frame_in s =
    record { number = from_le_bytes w32 s; marks = from_le_bytes w64 (drop 4 s); look = get_or s 12 0; lane = get_or s 13 0; tail = get_or s 14 0; head = get_or s 15 0; side = get_or s 16 0 }

-- the text that a length and as many bytes are
abbrev text_in : List ℕ → Option (List ℕ)
text_in s =
    let n = from_le_bytes w32 s in
    cond (leb 4 (length s)) (cond (leb n (length s - 4)) (Some (take n (drop 4 s))) None) None

-- the call that the byte k and the bytes s behind it begin with
abbrev pub read_by : ℕ → List ℕ → Option Requested
read_by k s =
    cond (eqb k 1) (cond (leb 17 (length s)) (Some (offer (frame_in s))) None)
    (cond (eqb k 2) (option_map text (text_in s))
    (cond (eqb k 3) (cond (leb 4 (length s)) (Some (look_up (from_le_bytes w32 s))) None)
    (cond (eqb k 4) (Some counts)
    (cond (eqb k 5) (cond (leb 4 (length s)) (Some (print_out (from_le_bytes w32 s))) None)
    (cond (eqb k 6) (Some clear) None)))))

abbrev pub head_of : List ℕ → Option Requested
head_of [] = None
head_of (k ∷ s) = read_by k s

frame_read : (x : Frame) (rest : List ℕ) → FrameFits x → frame_in (frame_bytes x ++ rest) ≡ x
frame_read x rest h =
    let made : ℕ → ℕ → Frame = λ n m. record { number = n; marks = m; look = x.look; lane = x.lane; tail = x.tail; head = x.head; side = x.side } in
    ap₂ made (from_le_bytes-to_le_bytes_4 x.number h.number) (from_le_bytes-to_le_bytes_8 x.marks h.marks)

pub text_read : (t rest : List ℕ) → length t < 2 ^ 32 → text_in (word4 (length t) ++ (t ++ rest)) ≡ Some t
text_read t rest h =
    let s = word4 (length t) ++ (t ++ rest) in
    let n = from_le_bytes w32 s in
    let is : n ≡ length t = from_le_bytes-to_le_bytes_4 (length t) h in
    ap (λ b. cond b (cond (leb n (length s - 4)) (Some (take n (drop 4 s))) None) None) (le-leb 4 (length s) (omega arith))
    ∙ ap (λ b. cond b (Some (take n (drop 4 s))) None) (le-leb n (length s - 4) (omega (arith, length-append t rest)))
    ∙ ap (λ k. Some (take k (t ++ rest))) is
    ∙ ap Some (take_at t rest (length t) refl)

word_read : (f : ℕ → Requested) (n : ℕ) (rest : List ℕ) → n < 2 ^ 32 → cond (leb 4 (length (word4 n ++ rest))) (Some (f (from_le_bytes w32 (word4 n ++ rest)))) None ≡ Some (f n)
word_read f n rest h =
    ap (λ b. cond b (Some (f (from_le_bytes w32 (word4 n ++ rest)))) None) (le-leb 4 (length (word4 n ++ rest)) (omega arith)) ∙ ap (λ k. Some (f k)) (from_le_bytes-to_le_bytes_4 n h)

-- a call's bytes read as the call
pub read_back : (q : Requested) (rest : List ℕ) → Fits q → head_of (bytes_of q ++ rest) ≡ Some q
read_back (offer x) rest h =
    ap (λ b. cond b (Some (offer (frame_in (frame_bytes x ++ rest)))) None) (le-leb 17 (length (frame_bytes x ++ rest)) (omega arith)) ∙ ap (λ x. Some (offer x)) (frame_read x rest h)
read_back (text t) rest h = ap (option_map text) (text_read t rest h)
read_back (look_up i) rest h = word_read look_up i rest h
read_back counts rest h = refl
read_back (print_out n) rest h = word_read print_out n rest h
read_back clear rest h = refl

-- bytes that begin with two calls begin with one
pub one_head : (p q : Requested) (s t : List ℕ) → Fits p → Fits q → bytes_of p ++ s ≡ bytes_of q ++ t → (p ≡ q) × (s ≡ t)
one_head p q s t f g e =
    let one = sym (read_back p s f) ∙ ap head_of e ∙ read_back q t g in
    let same : p ≡ q = cc in
    (same, append_cancel_left (bytes_of q) s t (ap (λ p. bytes_of p ++ s) (sym same) ∙ e))

-- a call takes a byte or more
pub some_bytes : (q : Requested) → 1 ≤ length (bytes_of q)
some_bytes (offer x) = omega arith
some_bytes (text t) = omega arith
some_bytes (look_up i) = omega arith
some_bytes counts = omega arith
some_bytes (print_out n) = omega arith
some_bytes clear = omega arith

pub one_reading : OneReading
one_reading bytes [] [] a b = refl
one_reading bytes [] (d ∷ ds) a b = absurd (omega (arith, ap length (a.joins ∙ sym b.joins), length-append (bytes_of d) (flat_map bytes_of ds), some_bytes d))
one_reading bytes (c ∷ cs) [] a b = absurd (omega (arith, ap length (b.joins ∙ sym a.joins), length-append (bytes_of c) (flat_map bytes_of cs), some_bytes c))
one_reading bytes (c ∷ cs) (d ∷ ds) a b =
    let one = one_head c d (flat_map bytes_of cs) (flat_map bytes_of ds) a.fit.0 b.fit.0 (a.joins ∙ sym b.joins) in
    ap₂ (λ c cs. c ∷ cs) one.0 (one_reading (flat_map bytes_of ds) cs ds (record { joins = one.1; fit = a.fit.1 }) (record { joins = refl; fit = b.fit.1 }))
