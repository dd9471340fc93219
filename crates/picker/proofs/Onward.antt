-- What some frames lead to, and then more. Assumes nothing.
use Rattle.std.proofs.Common.{◌≡◌, ℕ, ◌+◌, ◌-◌, List, [], ◌++◌, length, sym, refl, ap, ◌∙◌, ap₂, arith}
use mathlib.Core.Path.{fun_ext}
use Rattle.std.proofs.lemmas.List.{length-append}
use Rattle.std.proofs.lemmas.List.Sums.{fold-append}
use Rattle.theory.specs.Laws.{Submodular}
use Rattle.theory.specs.Replay.{State, step}
use Rattle.theory.specs.Promise.{told}
use Rattle.theory.proofs.Later.{rest, behind, told_later, rest_later, replay_later}
use Rattle.frames.specs.declared.frame.Frame.{Frame}
use Rattle.kept.specs.Tables.{held}
use Rattle.picker.specs.declared.picker.Picker.{Picker}
use Rattle.picker.specs.Entries.{total}
use Rattle.picker.specs.Offers.{Standing, standing, along, After, Advanced}
use Rattle.objectives.specs.declared.objective.Objective.{Ghosts as Objective}
use Rattle.matroids.specs.declared.matroid.Matroid.{Ghosts as Matroid}

module _ {W R : Type 0} (O : Objective W) (M : Matroid R) (f : List Frame → ℕ) (w : Submodular f) (m : R) (n : ℕ) (before : Standing) (xs ys : List Frame) (p q : Picker W R) where
  -- after xs, and then ys, a picker stands where xs and ys lead
  pub after_more : After O M f m n before xs p → Advanced O M p ys q → After O M f m n before (xs ++ ys) q
  after_more h k =
      let st = along f (M.admits m) n before.kept xs in
      let a = st.accepted in
      let on = along (rest w a) (M.admits m) n st.kept ys in
      let same : along (O.residual p.objective) (M.admits p.matroid) p.size.n (held p.table) ys ≡ on =
      ap (λ r. along r (M.admits p.matroid) p.size.n (held p.table) ys) (fun_ext h.left)
      ∙ ap (λ r. along (rest w a) (M.admits r) p.size.n (held p.table) ys) h.matroid
      ∙ ap₂ (λ z es. along (rest w a) (M.admits m) z es ys) h.size h.kept in
      let whole : along f (M.admits m) n before.kept (xs ++ ys) ≡ behind w a on =
      fold-append (step f (M.admits m) n) (record { kept = before.kept; accepted = [] }) xs ys ∙ replay_later w a (M.admits m) n (record { kept = st.kept; accepted = [] }) ys in
      let more = k.stands in
      let b = on.accepted in
      let back = sym whole in
      let took : q.took ≡ before.took + length (b ++ a) = omega (arith, more.took, h.took, ap (λ (s : State Frame). length s.accepted) same, length-append b a) in
      let tells : q.told ≡ before.tells + told f (b ++ a) = omega (arith, more.tells, h.tells, ap₂ (λ r (s : State Frame). told r s.accepted) (fun_ext h.left) same, told_later w a b) in
      let left : (s : List Frame) → O.residual q.objective s ≡ f ((b ++ a) ++ s) - f (b ++ a) = λ s.
      more.left s ∙ ap₂ (λ r (t : State Frame). r (t.accepted ++ s) - r t.accepted) (fun_ext h.left) same ∙ rest_later w a b s in
      record {
        kept = more.kept ∙ ap (λ (s : State Frame). s.kept) same ∙ ap (λ (s : State Frame). s.kept) back;
        took = took ∙ ap (λ (s : State Frame). before.took + length s.accepted) back;
        seen = omega (arith, more.seen, h.seen, length-append xs ys);
        gain = more.gain ∙ ap (λ (s : State Frame). total s.kept) same ∙ ap (λ (s : State Frame). total s.kept) back;
        tells = tells ∙ ap (λ (s : State Frame). before.tells + told f s.accepted) back;
        size = more.size ∙ h.size;
        matroid = more.matroid ∙ h.matroid;
        left = λ s. left s ∙ ap (λ (t : State Frame). f (t.accepted ++ s) - f t.accepted) back;
      }

module _ {W R : Type 0} (O : Objective W) (M : Matroid R) where
  pub advanced_more : (p m q : Picker W R) (xs ys : List Frame) → Advanced O M p xs m → Advanced O M m ys q → Advanced O M p (xs ++ ys) q
  advanced_more p m q xs ys h k = record {
    stands = after_more O M (O.residual p.objective) (O.laws p.objective).left.submodular p.matroid p.size.n (standing p) xs ys m q h.stands k;
    whole = λ s. k.whole s ∙ h.whole s;
  }

  -- nothing was taken in
  pub advanced_none : (p : Picker W R) → Advanced O M p [] p
  advanced_none p = record {
    stands = record {
      kept = refl;
      took = omega arith;
      seen = omega arith;
      gain = p.gains;
      tells = omega arith;
      size = refl;
      matroid = refl;
      left = λ s. omega (arith, (O.laws p.objective).left.submodular.nothing);
    };
    whole = λ s. refl;
  }
