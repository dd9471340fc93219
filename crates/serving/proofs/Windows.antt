-- An answer in its place. Assumes nothing.
use Rattle.std.proofs.Common.{◌≡◌, ℕ, ◌-◌, ◌≤◌, List, [], ◌++◌, length, take, drop, sym, ap, ◌∙◌, ap₂, arith}
use borrow.Rule.Slice.PartMut.{put_mid}
use Rattle.std.proofs.lemmas.List.{append-nil, drop_all, drop_at, length-append, length-drop, length-take-le, take_rest}
use Rattle.picker.specs.Calls.{Called}
use Rattle.picker.specs.Met.{Met}
use Rattle.picker.specs.declared.picker.Picker.{Picker}
use Rattle.runs.specs.Carried.{Carried}
use Rattle.runs.specs.Runs.{answer_after, sheet_after}
use Rattle.runs.specs.declared.call.Answer.{Answer}
use Rattle.encoding.specs.Answers.{answer_bytes, fixed_of, placed}
use Rattle.encoding.proofs.Lengths.{fixed_long}
use Rattle.encoding.proofs.Placing.{placed_fits}
use Rattle.serving.specs.Answering.{Answered}
use Rattle.serving.specs.Serving.{answered}
use Rattle.objectives.specs.declared.objective.Objective.{Ghosts as Objective}
use Rattle.matroids.specs.declared.matroid.Matroid.{Ghosts as Matroid}

-- b in front of t, which stands behind the first k bytes
in_front : (k : ℕ) (w t b : List ℕ) → length b ≡ k → k ≤ length w → placed b (put_mid k (length w - k) w t) ≡ b ++ t
in_front k w t b e h =
    let m = length w - k in
    let front = take k w in
    let none : drop m (drop k w) ≡ [] = drop_all m (drop k w) (omega (arith, length-drop k w)) in
    let all : put_mid k m w t ≡ front ++ t = ap (λ u. front ++ (t ++ u)) none ∙ ap (λ u. front ++ u) (append-nil t) in
    let long : length front ≡ k = length-take-le k w h in
    let room : length b ≤ length (front ++ t) = omega (arith, length-append front t) in
    ap (placed b) all ∙ placed_fits b (front ++ t) room ∙ ap (λ u. b ++ u) (drop_at front t (length b) (long ∙ sym e))

module _ {W R : Type 0} (O : Objective W) (M : Matroid R) where
  pub answered_in : (c : Called) (p q : Picker W R) (w t v : List ℕ) (a : Answer) (k : ℕ) → k ≡ fixed_of c → k ≤ length w → Carried O M c p (take (length w - k) (drop k w)) a q t → v ≡ placed (answer_bytes a) (put_mid k (length w - k) w t) → Answered O M c p w q v
  unfolding answered
  answered_in c p q w t v a k is h y e =
      record {
        settings = y.settings;
        carries = y.carries;
        window = window;
      }
    where
      window : (h : List Called) → Met O M h p → v ≡ answered (O.value p.objective) (M.admits p.matroid) p.size.n h c w
      window i met =
          let n = p.size.n in
          let s = take (length w - k) (drop k w) in
          let sheet : s ≡ drop (fixed_of c) w = take_rest w k ∙ ap (λ k. drop k w) is in
          let said : a ≡ answer_after (O.value p.objective) (M.admits p.matroid) n i s c = y.answer i met in
          let long : length (answer_bytes a) ≡ k = ap (λ a. length (answer_bytes a)) said ∙ fixed_long (O.value p.objective) (M.admits p.matroid) n i s c ∙ sym is in
          e ∙ in_front k w t (answer_bytes a) long h
          ∙ ap₂ (λ a t. answer_bytes a ++ t) said (y.sheet i met)
          ∙ ap (λ s. answer_bytes (answer_after (O.value p.objective) (M.admits p.matroid) n i s c) ++ sheet_after (O.value p.objective) (M.admits p.matroid) n i s c) sheet
