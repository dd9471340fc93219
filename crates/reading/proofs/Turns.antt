-- What one call for the next record tells, by its answer and by the text.
use Rattle.std.proofs.Common.{◌≡◌, ℕ, ◌+◌, ◌<◌, List, [], length, drop, IsErrAnd, Some, None, Ok, Err, Option, Result, sym, refl, ap, ◌∙◌, subst, arith, length-drop}
use Rattle.std.proofs.lemmas.Result.{err_from_is_err_and}
use Rattle.frames.specs.declared.frame.Frame.{Frame}
use Rattle.records.specs.Format.{shown}
use Rattle.records.specs.Reading.{Wrong, read_record, fault_at}
use Rattle.parsing.specs.Records.{Refused}
use Rattle.reading.specs.Texts.{NextRead, Next}
use Rattle.faults.specs.declared.fault.RecordFault.{RecordFault}
use Rattle.faults.specs.declared.fault.RecordFault.TheVariants.{Line}
use Rattle.records.proofs.TextCases.{no_bytes}

-- no record can be read at the end
nothing_left : (s : List ℕ) (x : Frame) (rest : List ℕ) → s ≡ [] → read_record s ≡ Ok (x, rest) → ⊥
nothing_left s x rest e ok = omega (arith, no_bytes s x rest ok, ap length e)

pub next_by_text : (text : List ℕ) (at count at' count' : ℕ) (r : Result (Option Frame) RecordFault) → NextRead text at count at' count' r → Next text at count at' count' r
next_by_text text at count at' count' (Ok None) h =
    record {
      ended = λ e. (refl, h.1, h.2);
      read = λ x rest ok. absurd (nothing_left (drop at text) x rest h.0 ok);
      refused = λ w some e. absurd (some h.0);
    }
next_by_text text at count at' count' (Ok (Some x)) h =
    record {
      ended = λ e. absurd (nothing_left (drop at text) x (drop at' text) e h.0.reads);
      read = λ y rest ok.
          let e : ◌≡◌ {A = Frame × List ℕ} (x, drop at' text) (y, rest) = cc (h.0.reads, ok) in
          let f = ap (λ (p : Frame × List ℕ). p.0) e in
          (ap (λ (z : Frame). Ok (Some z)) f, ap (λ (p : Frame × List ℕ). p.1) e, h.0.grows ∙ ap (λ (z : Frame). at + length (shown z)) f, h.1);
      refused = λ w some e. cc (h.0.reads, e);
    }
next_by_text text at count at' count' (Err f) h =
    record {
      ended = λ e. absurd (h.0 e);
      read = λ x rest ok. cc (ok, h.1.1);
      refused = λ w some e.
          let v : h.1.0 ≡ w = cc (h.1.1, e) in
          (ap Err (h.1.2 ∙ ap (λ (w : Wrong). Line (fault_at (count + 1) at w)) v), h.2, h.3);
    }

-- what the exit of a `?` returns
pub next_refused : (text : List ℕ) (at count : ℕ) (r : Result (Option Frame) RecordFault) (f : RecordFault) → at < length text → Refused text at (count + 1) f → IsErrAnd r (λ y. y ≡ f) → NextRead text at count at count r
next_refused text at count r f l h by =
    let q = err_from_is_err_and r by in
    let some : drop at text ≡ [] → ⊥ = λ e. omega (arith, ap length e, length-drop at text) in
    subst (NextRead text at count at count) (sym (q.1 ∙ ap Err q.2)) (some, h, refl, refl)
