-- What the reading of a record ends with.
use Rattle.std.proofs.Common.{◌≡◌, ℕ, ◌+◌, ◌-◌, ◌≤◌, List, ◌++◌, length, drop, IsErrAnd, Ok, Err, Result, refl, ap, ◌∙◌, subst, arith, length-drop}
use Rattle.std.proofs.lemmas.Result.{err_from_is_err_and}
use Rattle.frames.specs.Frames.{InRange}
use Rattle.frames.specs.declared.frame.Frame.{Frame}
use Rattle.records.specs.Format.{shown}
use Rattle.records.specs.Reading.{Amiss, Wrong, read_line, read_record, wrong_in}
use Rattle.parsing.specs.Records.{LinePassed, RecordRead, RecordMeans, Stands}
use Rattle.parsing.specs.declared.read_record.Lines.{Lines}
use Rattle.spots.specs.declared.fault.LineFault.{LineFault}
use Rattle.faults.specs.declared.fault.RecordFault.{RecordFault}
use Rattle.faults.specs.declared.fault.RecordFault.TheVariants.{Line}
use Rattle.records.specs.declared.key.Key.{Key}
use Rattle.records.specs.declared.key.Key.TheVariants.{Number, Marks, Look, Lane, Tail, Head, Side}
use Rattle.lines.specs.Lines.{Unread, Valued}
use Rattle.records.proofs.RecordCases.{stops_1, stops_2, stops_3, stops_4, stops_5, stops_6, stops_7, seven_lines, same-fault}
use Rattle.records.proofs.Roundtrip.{read_shown, record_shown}
use Rattle.records.proofs.TextCases.{record_shortens}

-- a record was read just where it is printed so
record_means : (text : List ℕ) (at number : ℕ) (r : Result (Frame × ℕ) RecordFault) → RecordRead text at number r → RecordMeans text at r
record_means text at number (Ok p) h = record_shown (drop at text) p.0 (drop p.1 text) h.reads
record_means text at number (Err f) h =
    λ x rest i e. cc (ap read_record e ∙ read_shown x i rest, h.1)

-- the lines before that of k were read from l₀ on, and l stands behind them
pub record Reached (l₀ : Lines) (k : Key) (l : Lines) : Type 0 where
  pub text : l.text ≡ l₀.text
  pub place : l.place ≡ l₀.place
  pub stops : (a : Amiss) → read_line k (drop l.at l₀.text.now) ≡ Err a → read_record (drop l₀.at l₀.text.now) ≡ Err (wrong_in k (length (drop l₀.at l₀.text.now)) (drop l.at l₀.text.now) a)
  pub grows : l₀.at ≤ l.at
  pub far : (length l₀.text.now - l₀.at) - (length l₀.text.now - l.at) ≡ l.at - l₀.at

-- what the exit of a `?` returns: the fault of the line that is due
pub refused : {l₀ l : Lines} {f : LineFault} {k : Key} (r : Result (Frame × ℕ) RecordFault) → Reached l₀ k l → l₀.place.start ≡ l₀.at → Unread k l.text.now l.at l.place.«record» l.place.start f → IsErrAnd r (λ y. y ≡ Line f) → RecordRead l₀.text.now l₀.at l₀.place.«record» r × RecordMeans l₀.text.now l₀.at r
refused {l₀} {l} {f} {k} r h begins unread by =
    let text = l₀.text.now in
    let start = l₀.at in
    let number = l₀.place.«record» in
    let q = err_from_is_err_and r by in
    let here = subst (λ t. Unread k t.now l.at l.place.«record» l.place.start f) h.text unread in
    let there = subst (λ p. Unread k text l.at p.«record» p.start f) h.place here in
    let u = subst (λ s. Unread k text l.at number s f) begins there in
    let w : Wrong = wrong_in k (length (drop start text)) (drop l.at text) u.0 in
    let p : RecordRead text start number r = rw q.1 (w, h.stops u.0 u.1, q.2 ∙ ap Line (u.2 ∙ same-fault number text start l.at k u.0 h.grows h.far)) in
    (p, record_means text start number r p)

-- a record that was read stands there
pub stands : (text : List ℕ) (at : ℕ) (x : Frame) (behind : ℕ) → read_record (drop at text) ≡ Ok (x, drop behind text) → at ≤ behind → behind ≤ length text → Stands text at x behind × (InRange x × (drop at text ≡ shown x ++ drop behind text))
stands text at x behind e grows within =
    let g : behind ≡ at + length (shown x) = omega (arith, record_shortens (drop at text) x (drop behind text) e, length-drop at text, length-drop behind text) in
    (record { reads = e; grows = g; within = within }, record_shown (drop at text) x (drop behind text) e)

-- one line more, told of the first cursor's text
told : {l₀ l m : Lines} {k : Key} {v : ℕ} → Reached l₀ k l → LinePassed k l v m → Valued k l₀.text.now l.at v m.at
told {l₀} {l} {m} {k} {v} h p = subst (λ t. Valued k t.now l.at v m.at) h.text p.valued

further : {l₀ l m : Lines} {k due : Key} {v : ℕ} → Reached l₀ k l → LinePassed k l v m → ((a : Amiss) → read_line due (drop m.at l₀.text.now) ≡ Err a → read_record (drop l₀.at l₀.text.now) ≡ Err (wrong_in due (length (drop l₀.at l₀.text.now)) (drop m.at l₀.text.now) a)) → Reached l₀ due m
further h p stops =
    let q = told h p in
    record { text = p.text ∙ h.text; place = p.place ∙ h.place; stops = stops; grows = omega (arith, h.grows, q.grows); far = omega (arith, h.grows, q.grows, q.within) }

-- line by line
module _ {l₀ : Lines} where
  pub reached_1 : Reached l₀ Number l₀
  reached_1 = record { text = refl; place = refl; stops = stops_1 (drop l₀.at l₀.text.now); grows = omega arith; far = omega arith }

  module _ {v₁ : ℕ} {l₁ : Lines} (p₁ : LinePassed Number l₀ v₁ l₁) where
    q₁ : Valued Number l₀.text.now l₀.at v₁ l₁.at
    q₁ = told reached_1 p₁

    pub reached_2 : Reached l₀ Marks l₁
    reached_2 = further reached_1 p₁ (stops_2 (drop l₀.at l₀.text.now) _ _ q₁.reads)

    module _ {v₂ : ℕ} {l₂ : Lines} (p₂ : LinePassed Marks l₁ v₂ l₂) where
      q₂ : Valued Marks l₀.text.now l₁.at v₂ l₂.at
      q₂ = told reached_2 p₂

      pub reached_3 : Reached l₀ Look l₂
      reached_3 = further reached_2 p₂ (stops_3 (drop l₀.at l₀.text.now) _ _ q₁.reads _ _ q₂.reads)

      module _ {v₃ : ℕ} {l₃ : Lines} (p₃ : LinePassed Look l₂ v₃ l₃) where
        q₃ : Valued Look l₀.text.now l₂.at v₃ l₃.at
        q₃ = told reached_3 p₃

        pub reached_4 : Reached l₀ Lane l₃
        reached_4 = further reached_3 p₃ (stops_4 (drop l₀.at l₀.text.now) _ _ q₁.reads _ _ q₂.reads _ _ q₃.reads)

        module _ {v₄ : ℕ} {l₄ : Lines} (p₄ : LinePassed Lane l₃ v₄ l₄) where
          q₄ : Valued Lane l₀.text.now l₃.at v₄ l₄.at
          q₄ = told reached_4 p₄

          pub reached_5 : Reached l₀ Tail l₄
          reached_5 = further reached_4 p₄ (stops_5 (drop l₀.at l₀.text.now) _ _ q₁.reads _ _ q₂.reads _ _ q₃.reads _ _ q₄.reads)

          module _ {v₅ : ℕ} {l₅ : Lines} (p₅ : LinePassed Tail l₄ v₅ l₅) where
            q₅ : Valued Tail l₀.text.now l₄.at v₅ l₅.at
            q₅ = told reached_5 p₅

            pub reached_6 : Reached l₀ Head l₅
            reached_6 = further reached_5 p₅ (stops_6 (drop l₀.at l₀.text.now) _ _ q₁.reads _ _ q₂.reads _ _ q₃.reads _ _ q₄.reads _ _ q₅.reads)

            module _ {v₆ : ℕ} {l₆ : Lines} (p₆ : LinePassed Head l₅ v₆ l₆) where
              q₆ : Valued Head l₀.text.now l₅.at v₆ l₆.at
              q₆ = told reached_6 p₆

              pub reached_7 : Reached l₀ Side l₆
              reached_7 = further reached_6 p₆ (stops_7 (drop l₀.at l₀.text.now) _ _ q₁.reads _ _ q₂.reads _ _ q₃.reads _ _ q₄.reads _ _ q₅.reads _ _ q₆.reads)

              module _ {v₇ : ℕ} {l₇ : Lines} (p₇ : LinePassed Side l₆ v₇ l₇) where
                q₇ : Valued Side l₀.text.now l₆.at v₇ l₇.at
                q₇ = told reached_7 p₇

                abbrev frame : Frame
                frame = record { number = v₁; marks = v₂; look = v₃; lane = v₄; tail = v₅; head = v₆; side = v₇ }

                pub all_read : Stands l₀.text.now l₀.at frame l₇.at × (InRange frame × (drop l₀.at l₀.text.now ≡ shown frame ++ drop l₇.at l₀.text.now))
                all_read = stands l₀.text.now l₀.at frame l₇.at (seven_lines (drop l₀.at l₀.text.now) _ _ q₁.reads _ _ q₂.reads _ _ q₃.reads _ _ q₄.reads _ _ q₅.reads _ _ q₆.reads _ _ q₇.reads) (omega (arith, reached_7.grows, q₇.grows)) q₇.within
