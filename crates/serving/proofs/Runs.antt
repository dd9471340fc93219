-- The answers to one call after the other. Assumes nothing.
use Rattle.std.proofs.Common.{◌≡◌, ℕ, ◌+◌, ◌-◌, ◌<◌, ◌≤◌, List, [], ◌∷◌, ◌++◌, length, take, drop, None, sym, refl, ap, ◌∙◌, subst, ap₂, arith}
use mathlib.Core.Path.{fun_ext}
use borrow.Rule.Slice.PartMut.{put_mid}
use Rattle.std.proofs.lemmas.List.{append_assoc, drop-drop, length-append, length-drop, length-take-le, take-append-drop}
use Rattle.std.proofs.lemmas.Slice.{take-put_mid, drop-put_mid}
use Rattle.picker.specs.Calls.{Called}
use Rattle.picker.specs.Met.{Met}
use Rattle.picker.specs.Offers.{SameSettings}
use Rattle.picker.proofs.Settings.{settings_same, settings_on}
use Rattle.picker.specs.declared.picker.Picker.{Picker}
use Rattle.runs.specs.Runs.{called}
use Rattle.encoding.specs.Reading.{Head, Reads}
use Rattle.encoding.specs.Requests.{Requested, called_of, Encodes}
use Rattle.encoding.specs.declared.request.Request.{Request}
use Rattle.serving.specs.Answering.{Answered}
use Rattle.serving.specs.Serving.{due_of, due_all, answered, answered_all}
use Rattle.serving.proofs.Walks.{behind, no_calls}
use Rattle.objectives.specs.declared.objective.Objective.{Ghosts as Objective}
use Rattle.matroids.specs.declared.matroid.Matroid.{Ghosts as Matroid}

put_long : (a k : ℕ) (xs ys : List ℕ) → length ys ≡ k → a + k ≤ length xs → length (put_mid a k xs ys) ≡ length xs
put_long a k xs ys e h =
    omega (arith, length-append (take a xs) (ys ++ drop k (drop a xs)), length-append ys (drop k (drop a xs)), length-take-le a xs (omega arith), length-drop k (drop a xs), length-drop a xs)

-- the bytes that an answer takes the place of
pub window_long : (to m : ℕ) (out : List ℕ) → m ≤ length out - to → to ≤ length out → length (take (to + m - to) (drop to out)) ≡ m
window_long to m out h k =
    let same : to + m - to ≡ m = omega arith in
    ap (λ n. length (take n (drop to out))) same ∙ length-take-le m (drop to out) (omega (arith, length-drop to out))

module _ {W R : Type 0} (O : Objective W) (M : Matroid R) (p₀ : Picker W R) (calls before : List ℕ) where
  abbrev on₀ : List Called → List Requested → List ℕ → List ℕ
  on₀ h ds s = answered_all (O.value p₀.objective) (M.admits p₀.matroid) p₀.size.n h ds s

  -- the calls cs led to p, up to the bytes t; the answers to the others, behind byte `to`, make all the answers
  pub record Onward (cs : List Requested) (t : List ℕ) (to : ℕ) (p : Picker W R) (out : List ℕ) : Type 0 where
    pub history : List Called
    pub rest : List Requested
    pub encodes : Encodes rest t
    pub met : Met O M history p
    pub fits : to + due_all rest ≤ length out
    pub left : take to out ++ on₀ history rest (drop to out) ≡ on₀ [] cs before

  -- the same of whatever calls the bytes are
  pub record Led (t : List ℕ) (to : ℕ) (p : Picker W R) (out : List ℕ) : Type 0 where
    pub room : to ≤ length out
    pub settings : SameSettings O p₀ p
    pub onward : (cs : List Requested) → Encodes cs calls → due_all cs ≤ length before → Onward cs t to p out

  pub led_none : Met O M [] p₀ → Led calls 0 p₀ before
  led_none met =
      record {
        room = omega arith;
        settings = settings_same O p₀;
        onward = λ cs e d. record { history = []; rest = cs; encodes = e; met = met; fits = omega arith; left = refl };
      }

  -- the answer to a call, by what the picker was opened with
  answer_is : (p r : Picker W R) (w v : List ℕ) (h : List Called) (c d : Called) → c ≡ d → SameSettings O p₀ p → Met O M h p → Answered O M c p w r v → v ≡ answered (O.value p₀.objective) (M.admits p₀.matroid) p₀.size.n h d w
  answer_is p r w v h c d is same met a =
      a.window h met
      ∙ ap₂ (λ f m. answered f (M.admits m) p.size.n h c w) (fun_ext same.value) same.matroid
      ∙ ap₂ (λ n c. answered (O.value p₀.objective) (M.admits p₀.matroid) n h c w) same.size is

  module _ (t : List ℕ) (to m : ℕ) (x : Request) (q : Requested) (p r : Picker W R) (out v : List ℕ) (k : Head t x q) (is : m ≡ due_of q) (room : m ≤ length out - to) (long : length v ≡ m) (a : Answered O M (called x.call) p (take m (drop to out)) r v) (led : Led t to p out) where
    onward_more : (cs : List Requested) → Encodes cs calls → due_all cs ≤ length before → Onward cs (drop x.length t) (to + m) r (put_mid to m out v)
    onward_more cs e d =
        let o = led.onward cs e d in
        let b = behind t x q o.rest k o.encodes in
        let all = put_mid to m out v in
        let history = o.history ++ called_of q ∷ [] in
        let within : to ≤ length out = led.room in
        let sum : due_all o.rest ≡ due_of q + due_all b.rest = ap due_all b.first in
        let fronts : take (to + m) all ≡ take to out ++ v = take-put_mid to m out v (to + m) (omega arith) within in
        let backs : drop (to + m) all ≡ drop (due_of q) (drop to out) = drop-put_mid to m out v (to + m) (omega arith) within long ∙ sym (drop-drop m to out) ∙ ap (λ m. drop m (drop to out)) is in
        let said : v ≡ answered (O.value p₀.objective) (M.admits p₀.matroid) p₀.size.n o.history (called_of q) (take (due_of q) (drop to out)) =
        answer_is p r (take m (drop to out)) v o.history (called x.call) (called_of q) k.call led.settings o.met a
        ∙ ap (λ m. answered (O.value p₀.objective) (M.admits p₀.matroid) p₀.size.n o.history (called_of q) (take m (drop to out))) is in
        record {
          history = history;
          rest = b.rest;
          encodes = b.encodes;
          met = subst (λ c. Met O M (o.history ++ c ∷ []) r) k.call (a.carries o.history o.met);
          fits = omega (arith, put_long to m out v long (omega arith), o.fits, sum, is);
          left =
              ap₂ (λ s u. s ++ on₀ history b.rest u) fronts backs
              ∙ append_assoc (take to out) v (on₀ history b.rest (drop (due_of q) (drop to out)))
              ∙ ap (λ v. take to out ++ (v ++ on₀ history b.rest (drop (due_of q) (drop to out)))) said
              ∙ ap (λ ds. take to out ++ on₀ o.history ds (drop to out)) (sym b.first)
              ∙ o.left;
        }

    pub led_more : Led (drop x.length t) (to + m) r (put_mid to m out v)
    led_more =
        let put = put_long to m out v long (omega (arith, room, led.room)) in
        record {
          room = omega (arith, put, room, led.room);
          settings = settings_on O led.settings a.settings;
          onward = onward_more;
        }

  -- all calls are answered: no other begins behind them
  pub led_all : (t : List ℕ) (to : ℕ) (p : Picker W R) (out : List ℕ) → Reads t None → Led t to p out → (cs : List Requested) → Encodes cs calls → due_all cs ≤ length before → out ≡ on₀ [] cs before
  led_all t to p out none led cs e d =
      let o = led.onward cs e d in
      sym (take-append-drop to out) ∙ ap (λ ds. take to out ++ on₀ o.history ds (drop to out)) (sym (no_calls o.rest t none o.encodes)) ∙ o.left

  -- the answers that are due have room
  pub led_short : (t : List ℕ) (to m : ℕ) (x : Request) (q : Requested) (p : Picker W R) (out : List ℕ) → Head t x q → m ≡ due_of q → length out - to < m → Led t to p out → (cs : List Requested) → Encodes cs calls → due_all cs ≤ length before → out ≡ on₀ [] cs before
  led_short t to m x q p out k is short led cs e d =
      let o = led.onward cs e d in
      let b = behind t x q o.rest k o.encodes in
      absurd (omega (arith, o.fits, ap due_all b.first, is, short))
