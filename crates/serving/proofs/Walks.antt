-- Bytes read call by call. Assumes nothing.
use Rattle.std.proofs.Common.{◌≡◌, ℕ, ◌+◌, ◌*◌, ◌^◌, ◌<◌, ◌≤◌, ◌==◌, Bool, true, false, List, [], ◌∷◌, ◌++◌, length, drop, Some, None, sym, refl, ap, ◌∙◌, ap₂, arith}
use Rattle.std.specs.Bool.{then_some}
use Rattle.std.specs.List.{flat_map}
use Rattle.std.proofs.lemmas.Bool.{eqb-true}
use Rattle.std.proofs.lemmas.List.{length-append, length-drop, nil_from_length}
use Rattle.runs.specs.Runs.{called}
use Rattle.encoding.specs.Answers.{fixed_of}
use Rattle.encoding.specs.Reading.{Head, Reads}
use Rattle.encoding.specs.Requests.{Requested, offer, text, look_up, counts, print_out, clear, called_of, room_of, bytes_of, Fits, Encodes}
use Rattle.encoding.specs.declared.request.Request.{Request}
use Rattle.encoding.proofs.Lengths.{few_fixed}
use Rattle.encoding.proofs.Reader.{some_bytes}
use Rattle.serving.specs.Serving.{due_of, due_all, Due}

pub small_room : (q : Requested) → Fits q → room_of q < 2 ^ 32
small_room (offer x) h = omega arith
small_room (text t) h = omega arith
small_room (look_up i) h = omega arith
small_room counts h = omega arith
small_room (print_out n) h = h
small_room clear h = omega arith

-- bytes that begin with no call are the calls of no list but the empty one
pub no_calls : (ds : List Requested) (t : List ℕ) → Reads t None → Encodes ds t → ds ≡ []
no_calls [] t none e = refl
no_calls (d ∷ ds) t none e = absurd (none d (flat_map bytes_of ds) e.fit.0 (sym e.joins))

-- what is behind the first call
pub record Behind (t : List ℕ) (len : ℕ) (q : Requested) (ds : List Requested) : Type 0 where
  pub rest : List Requested
  pub first : ds ≡ q ∷ rest
  pub encodes : Encodes rest (drop len t)

pub behind : (t : List ℕ) (x : Request) (q : Requested) (ds : List Requested) → Head t x q → Encodes ds t → Behind t x.length q ds
behind t x q [] k e = absurd (omega (arith, ap length (e.joins ∙ k.back), length-append (bytes_of q) (drop x.length t), some_bytes q))
behind t x q (d ∷ ds) k e =
    let is = k.only d (flat_map bytes_of ds) e.fit.0 (sym e.joins) in
    record { rest = ds; first = ap (λ d. d ∷ ds) is.0; encodes = record { joins = is.1; fit = e.fit.1 } }

pub before : (t : List ℕ) (x : Request) (q : Requested) (ds : List Requested) → Head t x q → Encodes ds (drop x.length t) → Encodes (q ∷ ds) t
before t x q ds k e = record { joins = ap (λ u. bytes_of q ++ u) e.joins ∙ sym k.back; fit = (k.fits, e.fit) }

pub head_long : (t : List ℕ) (x : Request) (q : Requested) → Head t x q → x.length ≤ length t
head_long t x q k = omega (arith, k.length, length-append (bytes_of q) (drop x.length t), ap length k.back)

pub head_due : (t : List ℕ) (x : Request) (q : Requested) → Head t x q → fixed_of (called x.call) + x.room ≡ due_of q
head_due t x q k = ap₂ (λ c n. fixed_of c + n) k.call k.room

pub due_is : (n : ℕ) (t : List ℕ) (x : Request) (q : Requested) → n ≡ fixed_of (called x.call) + x.room → Head t x q → n ≡ due_of q
due_is n t x q e k = e ∙ head_due t x q k

module _ (s : List ℕ) where
  -- the calls before the bytes t take `due` bytes of answers, and t are calls just where all the bytes are
  pub record Walk (t : List ℕ) (due : ℕ) : Type 0 where
    pub small : due + 2 ^ 33 * length t ≤ 2 ^ 33 * length s
    pub back : (ds : List Requested) → Encodes ds t → (cs : List Requested) × Encodes cs s × (due + due_all ds ≡ due_all cs)
    pub on : (cs : List Requested) → Encodes cs s → (ds : List Requested) × Encodes ds t

  pub walk_more : (t : List ℕ) (due : ℕ) (x : Request) → Walk t due → (q : Requested) × Head t x q → Walk (drop x.length t) (due + (fixed_of (called x.call) + x.room))
  walk_more t due x w (q, k) =
      let is = head_due t x q k in
      record {
        small = omega (arith, w.small, is, few_fixed (called_of q), small_room q k.fits, k.length, some_bytes q, head_long t x q k, length-drop x.length t);
        back = λ ds e.
            let b = w.back (q ∷ ds) (before t x q ds k e) in
            (b.0, b.1, omega (arith, is, b.2));
        on = λ cs e.
            let b = w.on cs e in
            let r = behind t x q b.0 k b.1 in
            (r.rest, r.encodes);
      }

  pub walk_stopped : (t : List ℕ) (due : ℕ) → 0 < length t → Walk t due → Reads t None → Due s None
  walk_stopped t due some w none cs k =
      let b = w.on cs k in
      let ended = no_calls b.0 t none b.1 in
      omega (arith, ap length (sym (ap (flat_map bytes_of) ended) ∙ b.1.joins))

  walk_all : (t : List ℕ) (due : ℕ) → length t ≡ 0 → Walk t due → Due s (Some due)
  walk_all t due none w =
      let b = w.back [] (record { joins = sym (nil_from_length t none); fit = tt }) in
      (b.0, b.1, omega (arith, b.2))

  -- what is behind begins with no call: the whole is calls just where nothing is behind
  pub walk_ended : (t : List ℕ) (due : ℕ) (b : Bool) → b ≡ (length t == 0) → Walk t due → Reads t None → Due s (then_some b due)
  walk_ended t due true e w none = walk_all t due (eqb-true (length t) 0 (sym e)) w
  walk_ended t due false e w none = let some : 0 < length t = grind arith in walk_stopped t due some w none
