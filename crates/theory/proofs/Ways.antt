-- What a step gives, by the tests that code makes. Assumes nothing.
use Rattle.std.proofs.Common.{◌≡◌, ℕ, ◌*◌, ◌<◌, ◌≤◌, Bool, true, false, cond, List, get_or, Some, None, Option, refl, ap, ◌∙◌, ⊎_elim, arith, if◌then◌else◌, slice_index}
use Rattle.std.proofs.lemmas.Bool.{cases_order, le-leb, lt-leb, eq-eqb, ne_eqb}
use Rattle.theory.specs.Replay.{State, gains, lightest, gain_of, keep, swap, offer, may_take, has_room, step}
use Rattle.theory.specs.Lightest.{LightestIs}
use Rattle.theory.proofs.Lightest.{lightest_is}

-- there is one lightest place at most
pub lightest_one : (counts : ℕ → Bool) (gs : List ℕ) (o r : Option ℕ) → LightestIs counts gs o → LightestIs counts gs r → o ≡ r
lightest_one counts gs None None h k = refl
lightest_one counts gs None (Some p) h k = absurd (h p k.0 k.1)
lightest_one counts gs (Some p) None h k = absurd (k p h.0 h.1)
lightest_one counts gs (Some p) (Some q) h k =
    ⊎_elim (λ e. ap Some e) (⊎_elim (λ l. absurd (omega (arith, k.3 p l h.1, h.2 q k.0 k.1))) (λ l. absurd (omega (arith, h.3 q l k.1, k.2 p h.0 h.1)))) (cases_order p q)

pub lightest_from : (counts : ℕ → Bool) (gs : List ℕ) (o : Option ℕ) → LightestIs counts gs o → lightest counts gs ≡ o
lightest_from counts gs o h = lightest_one counts gs (lightest counts gs) o (lightest_is counts gs) h

module _ {A : Type 0} (f : List A → ℕ) (adm : List A → Bool) (n : ℕ) (st : State A) (x : A) where
  pub step_empty : gain_of f st x ≡ 0 → step f adm n st x ≡ st
  step_empty e = ap (λ b. cond b st (cond (has_room adm n st.kept x) (keep st x (gain_of f st x)) (offer st x (gain_of f st x) (lightest (may_take adm st.kept x) (gains st.kept))))) (eq-eqb (gain_of f st x) 0 e)

  some-gain : 0 < gain_of f st x → step f adm n st x ≡ (if has_room adm n st.kept x then keep st x (gain_of f st x) else offer st x (gain_of f st x) (lightest (may_take adm st.kept x) (gains st.kept)))
  some-gain pos = ap (λ b. cond b st (cond (has_room adm n st.kept x) (keep st x (gain_of f st x)) (offer st x (gain_of f st x) (lightest (may_take adm st.kept x) (gains st.kept))))) (ne_eqb (gain_of f st x) 0 (omega arith))

  pub step-keep : 0 < gain_of f st x → has_room adm n st.kept x ≡ true → step f adm n st x ≡ keep st x (gain_of f st x)
  step-keep pos room = some-gain pos ∙ ap (λ b. cond b (keep st x (gain_of f st x)) (offer st x (gain_of f st x) (lightest (may_take adm st.kept x) (gains st.kept)))) room

  pub step-offer : 0 < gain_of f st x → has_room adm n st.kept x ≡ false → (o : Option ℕ) → LightestIs (may_take adm st.kept x) (gains st.kept) o → step f adm n st x ≡ offer st x (gain_of f st x) o
  step-offer pos room o is =
      some-gain pos ∙ ap (λ b. cond b (keep st x (gain_of f st x)) (offer st x (gain_of f st x) (lightest (may_take adm st.kept x) (gains st.kept)))) room
      ∙ ap (offer st x (gain_of f st x)) (lightest_from (may_take adm st.kept x) (gains st.kept) o is)

  pub offer_swaps : (g p : ℕ) → 2 * slice_index (gains st.kept) p ≤ g → offer st x g (Some p) ≡ swap st p x g
  offer_swaps g p h = ap (λ b. cond b (swap st p x g) st) (le-leb (2 * get_or (gains st.kept) p 0) g h)

  pub offer_passes : (g p : ℕ) → g < 2 * slice_index (gains st.kept) p → offer st x g (Some p) ≡ st
  offer_passes g p h = ap (λ b. cond b (swap st p x g) st) (lt-leb (2 * get_or (gains st.kept) p 0) g h)
