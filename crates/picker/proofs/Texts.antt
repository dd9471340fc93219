-- How a text offer goes on, and how it ends. Assumes nothing.
use Rattle.std.proofs.Common.{◌≡◌, ℕ, ◌+◌, ◌-◌, ◌<◌, ◌≤◌, Bool, true, false, eqb, ltb, List, [], ◌∷◌, ◌++◌, length, take, drop, Ok, Err, MatchBool, Result, sym, refl, ap, ◌∙◌, subst, ap₂, arith}
use Rattle.std.specs.List.{flat_map}
use Rattle.std.proofs.lemmas.List.{append_assoc, append-nil, length-append, take_all, take_at, flat_map_more}
use Rattle.std.proofs.lemmas.Bool.{lt-ltb, le-ltb, le-leb, eqb-true, cond-true, cond-false}
use Rattle.frames.specs.declared.frame.Frame.{Frame}
use Rattle.faults.specs.declared.fault.RecordFault.{RecordFault}
use Rattle.faults.specs.declared.fault.RecordFault.TheVariants.{Line, ShiftFull}
use Rattle.faults.specs.declared.fault.TextFault.{TextFault}
use Rattle.faults.specs.declared.fault.TextFault.TheVariants.{Record, LongText}
use Rattle.records.specs.Format.{shown}
use Rattle.records.specs.Reading.{Wrong, read_record, fault_at, frames_in, left_in}
use Rattle.parsing.specs.Records.{Stands, Refused}
use Rattle.records.proofs.TextCases.{frames_more, left_more, frames_none, left_none}
use Rattle.picker.specs.declared.picker.Picker.{Picker}
use Rattle.picker.specs.Offers.{Advanced}
use Rattle.picker.specs.Texts.{taken_in, ending, text_answer, TextOffered, RecordOffered}
use Rattle.picker.proofs.Onward.{advanced_more, advanced_none}
use Rattle.objectives.specs.declared.objective.Objective.{Ghosts as Objective}
use Rattle.matroids.specs.declared.matroid.Matroid.{Ghosts as Matroid}

-- the frames xs were read, up to byte `at`, and taken in, from p to q
pub record SoFar {W R : Type 0} (O : Objective W) (M : Matroid R) (p : Picker W R) (text : List ℕ) (at count : ℕ) (q : Picker W R) : Type 0 where
  pub xs : List Frame
  pub frames : frames_in text ≡ xs ++ frames_in (drop at text)
  pub left : left_in text ≡ left_in (drop at text)
  pub place : at ≡ length (flat_map shown xs)
  pub number : count ≡ length xs
  pub advanced : Advanced O M p xs q

-- what a text offer answers and takes in
abbrev pub Done : {W R : Type 0} → Objective W → Matroid R → Picker W R → List ℕ → Result ℕ TextFault → Picker W R → Type 0
Done O M p text r q = (r ≡ text_answer p.seen text) × Advanced O M p (taken_in p.seen text) q

-- what the answer of one record's offer tells
module _ {W R : Type 0} (O : Objective W) (M : Matroid R) (p : Picker W R) (x : Frame) (number start : ℕ) (q : Picker W R) where
  pub recorded_ok : (u : Unit {0}) → RecordOffered O M p x number start (Ok u) q → Advanced O M p (x ∷ []) q
  recorded_ok u h = go (eqb p.seen 1000000) h
    where
      go : (b : Bool) → MatchBool b ((◌≡◌ {A = Result (Unit {0}) RecordFault} (Ok u) (Err (ShiftFull number start))) × (q ≡ p)) ((◌≡◌ {A = Result (Unit {0}) RecordFault} (Ok u) (Ok tt)) × Advanced O M p (x ∷ []) q) → Advanced O M p (x ∷ []) q
      go true a = let e = a.0 in absurd (let z : ◌≡◌ {A = ℕ} 0 1 = cc in omega arith)
      go false a = a.1

  pub recorded_err : (f : RecordFault) → RecordOffered O M p x number start (Err f) q → (p.seen ≡ 1000000) × (f ≡ ShiftFull number start) × (q ≡ p)
  recorded_err f h = go (eqb p.seen 1000000) refl h
    where
      go : (b : Bool) → eqb p.seen 1000000 ≡ b → MatchBool b ((◌≡◌ {A = Result (Unit {0}) RecordFault} (Err f) (Err (ShiftFull number start))) × (q ≡ p)) ((◌≡◌ {A = Result (Unit {0}) RecordFault} (Err f) (Ok tt)) × Advanced O M p (x ∷ []) q) → (p.seen ≡ 1000000) × (f ≡ ShiftFull number start) × (q ≡ p)
      go true e a = let k = a.0 in let same : f ≡ ShiftFull number start = cc in (eqb-true p.seen 1000000 e, same, a.1)
      go false e a = let k = a.0 in absurd (let z : ◌≡◌ {A = ℕ} 0 1 = cc in omega arith)

-- a text that is not too long
pub text_offered : {W R : Type 0} (O : Objective W) (M : Matroid R) (p : Picker W R) (t text : List ℕ) (r r' : Result ℕ TextFault) (q : Picker W R) → t ≡ text → r ≡ r' → length text ≤ 65536 → Done O M p t r' q → TextOffered O M p text r q
text_offered O M p t text r r' q e k l d =
    subst (λ b. MatchBool b (Done O M p text r q) ((r ≡ Err LongText) × (q ≡ p))) (sym (le-leb (length text) 65536 l))
    (subst (λ t. Done O M p t r q) e (subst (λ r. Done O M p t r q) (sym k) d))

-- the answer where xs are the frames that are taken in
answer_whole : (seen : ℕ) (text : List ℕ) (xs : List Frame) → frames_in text ≡ xs → length xs ≤ 1000000 - seen → (taken_in seen text ≡ xs) × (text_answer seen text ≡ ending (length xs) (length (flat_map shown xs)) (left_in text))
answer_whole seen text xs e l =
    let taken : taken_in seen text ≡ xs = ap (take (1000000 - seen)) e ∙ take_all (1000000 - seen) xs l in
    let even : ltb (length (taken_in seen text)) (length (frames_in text)) ≡ false = ap₂ (λ (a b : List Frame). ltb (length a) (length b)) taken e ∙ le-ltb (length xs) (length xs) (omega arith) in
    (taken, cond-false _ _ _ even ∙ ap (λ (a : List Frame). ending (length a) (length (flat_map shown a)) (left_in text)) taken)

answer_full : (seen : ℕ) (text : List ℕ) (xs ys : List Frame) (y : Frame) → frames_in text ≡ xs ++ (y ∷ ys) → length xs ≡ 1000000 - seen → (taken_in seen text ≡ xs) × (text_answer seen text ≡ Err (Record (ShiftFull (length xs + 1) (length (flat_map shown xs)))))
answer_full seen text xs ys y e l =
    let taken : taken_in seen text ≡ xs = ap (take (1000000 - seen)) e ∙ take_at xs (y ∷ ys) (1000000 - seen) l in
    let more : length xs < length (xs ++ (y ∷ ys)) = omega (arith, length-append xs (y ∷ ys)) in
    let less : ltb (length (taken_in seen text)) (length (frames_in text)) ≡ true = ap₂ (λ (a b : List Frame). ltb (length a) (length b)) taken e ∙ lt-ltb _ _ more in
    (taken, cond-true _ _ _ less ∙ ap (λ (a : List Frame). Err (Record (ShiftFull (length a + 1) (length (flat_map shown a))))) taken)

no_frames : frames_in [] ≡ []
unfolding frames_in
no_frames = refl

none_left : left_in [] ≡ []
unfolding left_in
none_left = refl

-- the end of a text, and a record that cannot be read
ending_none : (n at : ℕ) (s : List ℕ) → s ≡ [] → ending n at s ≡ Ok n
ending_none n at s e = ap (ending n at) e

ending_fault : (n at : ℕ) (s : List ℕ) (w : Wrong) → (s ≡ [] → ⊥) → read_record s ≡ Err w → ending n at s ≡ Err (Record (Line (fault_at (n + 1) at w)))
ending_fault n at [] w some e = absurd (some refl)
ending_fault n at (c ∷ cs) w some e = go (read_record (c ∷ cs)) e
  where
    go : (r : Result (Frame × List ℕ) Wrong) → r ≡ Err w → elim r as (λ _. Result ℕ TextFault) [ Ok p ↦ Ok n | Err w ↦ Err (Record (Line (fault_at (n + 1) at w))) ] ≡ Err (Record (Line (fault_at (n + 1) at w)))
    go (Ok p) e = absurd (let z : ◌≡◌ {A = ℕ} 0 1 = cc in omega arith)
    go (Err v) e = let same : v ≡ w = cc in ap (λ (w : Wrong). Err (Record (Line (fault_at (n + 1) at w)))) same

module _ {W R : Type 0} (O : Objective W) (M : Matroid R) (p : Picker W R) (text : List ℕ) where
  -- nothing was read yet
  pub so_far_none : SoFar O M p text 0 0 p
  so_far_none = record { xs = []; frames = refl; left = refl; place = refl; number = refl; advanced = advanced_none O M p }

  module _ (at count : ℕ) (q : Picker W R) (s : SoFar O M p text at count q) where
    room : length s.xs ≤ 1000000 - p.seen
    room = omega (arith, s.advanced.stands.seen, q.bound)

    -- one record more
    pub so_far_more : (x : Frame) (at' count' : ℕ) (q' : Picker W R) → Stands text at x at' → count' ≡ count + 1 → Advanced O M q (x ∷ []) q' → SoFar O M p text at' count' q'
    so_far_more x at' count' q' h e k =
        let joins = flat_map_more shown [] s.xs x in record {
          xs = s.xs ++ x ∷ [];
          frames = s.frames ∙ ap (λ (ys : List Frame). s.xs ++ ys) (frames_more (drop at text) x (drop at' text) h.reads) ∙ sym (append_assoc s.xs (x ∷ []) (frames_in (drop at' text)));
          left = s.left ∙ left_more (drop at text) x (drop at' text) h.reads;
          place = omega (arith, h.grows, s.place, ap length joins, length-append (flat_map shown s.xs) (shown x));
          number = omega (arith, e, s.number, length-append s.xs (x ∷ []));
          advanced = advanced_more O M p q q' s.xs (x ∷ []) s.advanced k;
        }

    done : (r : Result ℕ TextFault) → taken_in p.seen text ≡ s.xs → r ≡ text_answer p.seen text → Done O M p text r q
    done r e k = (k, subst (λ xs. Advanced O M p xs q) (sym e) s.advanced)

    -- the frames of the text are those that were read
    whole : frames_in (drop at text) ≡ [] → frames_in text ≡ s.xs
    whole e = s.frames ∙ ap (λ (ys : List Frame). s.xs ++ ys) e ∙ append-nil s.xs

    pub done_ended : drop at text ≡ [] → Done O M p text (Ok count) q
    done_ended e =
        let a = answer_whole p.seen text s.xs (whole (ap frames_in e ∙ no_frames)) room in
        let left : left_in text ≡ [] = s.left ∙ ap left_in e ∙ none_left in
        done (Ok count) a.0 (ap Ok s.number ∙ sym (a.1 ∙ ending_none (length s.xs) (length (flat_map shown s.xs)) (left_in text) left))

    pub done_refused : (f : RecordFault) → (drop at text ≡ [] → ⊥) → Refused text at (count + 1) f → Done O M p text (Err (Record f)) q
    done_refused f some h =
        let w = h.0 in
        let a = answer_whole p.seen text s.xs (whole (frames_none (drop at text) w h.1)) room in
        let left : left_in text ≡ drop at text = s.left ∙ left_none (drop at text) w h.1 in
        let fault : ending (length s.xs) (length (flat_map shown s.xs)) (drop at text) ≡ Err (Record f) =
        ending_fault (length s.xs) (length (flat_map shown s.xs)) (drop at text) w some h.1
        ∙ ap₂ (λ n at. Err (Record (Line (fault_at (n + 1) at w)))) (sym s.number) (sym s.place) ∙ ap (λ f. Err (Record f)) (sym h.2) in
        done (Err (Record f)) a.0 (sym (a.1 ∙ ap (ending (length s.xs) (length (flat_map shown s.xs))) left ∙ fault))

    pub done_full : (x : Frame) (at' : ℕ) → Stands text at x at' → q.seen ≡ 1000000 → Done O M p text (Err (Record (ShiftFull (count + 1) at))) q
    done_full x at' h e =
        let next : frames_in text ≡ s.xs ++ (x ∷ frames_in (drop at' text)) = s.frames ∙ ap (λ (ys : List Frame). s.xs ++ ys) (frames_more (drop at text) x (drop at' text) h.reads) in
        let a = answer_full p.seen text s.xs (frames_in (drop at' text)) x next (omega (arith, s.advanced.stands.seen)) in
        done (Err (Record (ShiftFull (count + 1) at))) a.0 (ap₂ (λ n at. Err (Record (ShiftFull (n + 1) at))) s.number s.place ∙ sym a.1)
