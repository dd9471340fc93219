use Rattle.std.proofs.Common.{◌≡◌, ℕ, ◌+◌, ◌-◌, length, take, Err, sym, ap, ◌∙◌, subst, arith, Option}
use Rattle.records.specs.Format.{key_bytes}
use Rattle.records.specs.declared.digits.Digits.{Digits}
use Rattle.lines.specs.Lines.{Numbered, Taken, Judged, LineRead}
use Rattle.spots.specs.Faults.{spot}
use Rattle.spots.specs.declared.fault.Spot.{Spot}
use Rattle.records.specs.Reading.{due, key_amiss, end_amiss, read_line, line_of, form_of, base_of}
use Rattle.lines.proofs.Lined.{line_no_key, line_no_end, value_place, line_read, line_means}
use Rattle.lines.proofs.read_line.read_line.Goals as goal

pub returns-in_default : goal.returns-in_default
returns-in_default c =
    let s = c.text_from-s.result.now in
    let p : LineRead c.args.key c.args.text.now c.args.at c.args.place.«record» c.args.place.start (Err c.key_fault.result) = (key_amiss (key_bytes c.args.key) s, ap (read_line c.args.key) (sym c.text_from-s.ensures) ∙ line_no_key c.args.key s c.in_default.ensures, c.key_fault.ensures) in
    record { reads = p; means = line_means c.args.key c.args.text.now c.args.at c.args.place.«record» c.args.place.start (Err c.key_fault.result) p }

pub returns-in_default-value : goal.returns-in_default-value
returns-in_default-value c =
    let k = c.args.key in
    let rest = c.in-Some.rest.now in
    let h = c.in-Some.ensures in
    let p : LineRead c.args.key c.args.text.now c.args.at c.args.place.«record» c.args.place.start (Err c.end_fault.result) = (end_amiss (due k) rest, ap (read_line k) (sym c.text_from-s.ensures) ∙ line_no_end k c.text_from-s.result.now rest h.0 h.1 c.in_default-value.ensures, c.end_fault.ensures) in
    record { reads = p; means = line_means c.args.key c.args.text.now c.args.at c.args.place.«record» c.args.place.start (Err c.end_fault.result) p }

pub returns : goal.returns
returns c =
    let k = c.args.key in
    let text = c.args.text.now in
    let at = c.args.at in
    let s = c.text_from-s.result.now in
    let rest = c.in-Some.rest.now in
    let h = c.in-Some.ensures in
    let v = c.in-Some-value.ensures in
    let l = c.taken.result in
    let there : length text - length rest ≡ at + length (key_bytes k) = omega (arith, value_place k s rest h.0 h.1 text at c.text_from-s.ensures) in
    let n = c.in-Some-value.n in
    let d = c.taken.ensures.digits in
    let t : Taken k (take n rest) (at + length (key_bytes k)) l =
    record {
      kind = c.taken.ensures.kind;
      at = ap (λ (d : Digits). d.at) d ∙ there;
      bytes = ap (λ (d : Digits). d.bytes.now) d;
      number = subst (λ (o : Option ℕ). Numbered (form_of k (take n rest)) (base_of k) (take n rest) o) (sym (ap (λ (d : Digits). d.number) d)) v.2;
    } in
    let j = subst (λ (at : Spot). Judged l at c.judge.result) (c.spot.ensures ∙ ap (λ (v : ℕ). spot c.args.place.«record» (line_of k) v) there) c.judge.ensures in
    let p : LineRead c.args.key c.args.text.now c.args.at c.args.place.«record» c.args.place.start c.judge.result = line_read k text at n s rest c.text_from-s.ensures h.0 h.1 v.0 v.1 l t c.args.place.«record» c.args.place.start c.judge.result j in
    record { reads = p; means = line_means c.args.key c.args.text.now c.args.at c.args.place.«record» c.args.place.start c.judge.result p }
