-- The call that bytes begin with. Assumes nothing.
use Rattle.std.proofs.Common.{◌≡◌, ℕ, List, ◌∷◌, ◌++◌, length, get_or, drop, Some, None, sym, ap, ◌∙◌, arith}
use Rattle.std.proofs.lemmas.List.{drop_at}
use Rattle.runs.specs.Runs.{called}
use Rattle.encoding.specs.declared.request.Request.{Request}
use Rattle.encoding.specs.Requests.{Requested, offer, text, look_up, counts, print_out, clear, called_of, room_of, bytes_of, Fits}
use Rattle.encoding.specs.Reading.{Head, Reads, Framed}
use Rattle.encoding.proofs.Reader.{head_of, one_head, read_back}

-- the bytes s are those of the call q and the others, so they begin with no other call
pub head_by : (s : List ℕ) (x : Request) (q : Requested) (rest : List ℕ) → called x.call ≡ called_of q → x.length ≡ length (bytes_of q) → x.room ≡ room_of q → Fits q → s ≡ bytes_of q ++ rest → Head s x q
head_by s x q rest call long room fits e =
    let behind : drop x.length s ≡ rest = ap (drop x.length) e ∙ drop_at (bytes_of q) rest x.length (sym long) in
    let back : s ≡ bytes_of q ++ drop x.length s = e ∙ ap (λ t. bytes_of q ++ t) (sym behind) in
    record { call = call; length = long; room = room; fits = fits; back = back; only = λ p t h is. one_head p q t (drop x.length s) h fits (sym is ∙ back) }

-- bytes that read as no call
pub reads_none : (s : List ℕ) → head_of s ≡ None → Reads s None
reads_none s e p rest h is = let some = ap head_of is ∙ read_back p rest h in let z : ◌≡◌ {A = ℕ} 0 1 = cc in omega arith

-- bytes that read as q
pub reads_some : (s : List ℕ) (x : Request) (q : Requested) → head_of s ≡ Some q → called x.call ≡ called_of q → x.length ≡ length (bytes_of q) → x.room ≡ room_of q → Fits q → s ≡ bytes_of q ++ drop x.length s → Head s x q
reads_some s x q e call long room fits back = head_by s x q (drop x.length s) call long room fits back

first : {s t : List ℕ} → s ≡ t → get_or s 0 0 ≡ get_or t 0 0
first e = ap (λ u. get_or u 0 0) e

-- what is behind the byte 1 is no frame
pub no_offer : (t : List ℕ) → Framed t None → Reads (1 ∷ t) None
no_offer t none (offer x) rest h e = none x rest h (ap (drop 1) e)
no_offer t none (text u) rest h e = omega (arith, first e)
no_offer t none (look_up i) rest h e = omega (arith, first e)
no_offer t none counts rest h e = omega (arith, first e)
no_offer t none (print_out n) rest h e = omega (arith, first e)
no_offer t none clear rest h e = omega (arith, first e)
