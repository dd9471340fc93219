-- Where a kept frame stands in the digest. Assumes nothing.
use Rattle.std.proofs.Common.{◌≡◌, ℕ, zero, suc, ◌+◌, ◌^◌, ◌<◌, List, [], ◌∷◌, ◌++◌, length, get_or, take, drop, codes, sym, refl, ap, ◌∙◌, add-zero, zero-add, arith}
use Rattle.std.proofs.lemmas.List.{append_assoc, at_drop_more}
use Rattle.records.specs.Format.{shown}
use Rattle.records.proofs.Roundtrip.{read_decimal, read_shown}
use Rattle.report.specs.declared.counts.Counts.{Counts}
use Rattle.frames.specs.declared.entry.Entry.{Entry}
use Rattle.frames.specs.declared.frame.Frame.{Frame}
use Rattle.report.specs.Digest.{decimal_line, count_lines, place_lines, places_from, digest, RecordBack, ReadsBack}

places_split : (es : List Entry) (j i : ℕ) → places_from j es ≡ places_from j (take i es) ++ places_from (j + i) (drop i es)
places_split es j zero = ap (λ k. places_from k es) (sym (add-zero j))
places_split [] j (suc i) = refl
places_split (e ∷ es) j (suc i) =
    let k : j + 1 + i ≡ j + suc i = omega arith in
    ap (λ t. place_lines j e ++ t) (places_split es (j + 1) i ∙ ap (λ n. places_from (j + 1) (take i es) ++ places_from n (drop i es)) k)
    ∙ sym (append_assoc (place_lines j e) (places_from (j + 1) (take i es)) (places_from (j + suc i) (drop i es)))

place_parts : (i : ℕ) (e : Entry) (back : List ℕ)
    → place_lines i e ++ back ≡ decimal_line (codes "place=") i ++ (decimal_line (codes "worth=") e.gain ++ (shown e.frame ++ back))
unfolding place_lines
place_parts i e back =
    let place = decimal_line (codes "place=") i in
    let worth = decimal_line (codes "worth=") e.gain in
    append_assoc place (worth ++ shown e.frame) back ∙ ap (λ t. place ++ t) (append_assoc worth (shown e.frame) back)

record_back : (x : Frame) → RecordBack x
record_back x range rest = read_shown x range rest

pub reads_back : (c : Counts) (es : List Entry) → length es < 2 ^ 64 → ReadsBack c es
unfolding digest
reads_back c es few i d h low range =
    let e = get_or es i d in
    let front = places_from 0 (take i es) in
    let back = places_from (i + 1) (drop (i + 1) es) in
    let worth = decimal_line (codes "worth=") e.gain ++ (shown e.frame ++ back) in
    let split : places_from 0 es ≡ front ++ places_from i (drop i es) = places_split es 0 i ∙ ap (λ k. front ++ places_from k (drop i es)) (zero-add i) in
    let next : places_from i (drop i es) ≡ place_lines i e ++ back = at_drop_more (places_from i) es i d h in
    record {
      behind = decimal_line (codes "place=") i ++ worth;
      worth = worth;
      record_at = shown e.frame ++ back;
      back = back;
      parts = ap (λ t. count_lines c ++ t) (split ∙ ap (λ t. front ++ t) (next ∙ place_parts i e back)) ∙ sym (append_assoc (count_lines c) front _);
      place_reads = read_decimal (codes "place=") 20 18446744073709551615 (omega arith) (omega arith) (omega arith) i worth (omega arith);
      worth_reads = read_decimal (codes "worth=") 10 4294967295 (omega arith) (omega arith) (omega arith) e.gain (shown e.frame ++ back) low;
      frame_reads = record_back e.frame range back;
    }
