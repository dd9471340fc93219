-- The entries of a table as frames and gains. Assumes nothing.
use Rattle.std.proofs.Common.{◌≡◌, ℕ, ◌<◌, List, [], ◌∷◌, map, length, get_or, sym, refl, ap, ◌∙◌}
use Rattle.std.proofs.lemmas.List.{length-map, get_or-map}
use Rattle.theory.specs.Replay.{frames, gains}
use Rattle.frames.specs.declared.entry.Entry.{Entry}
use Rattle.kept.specs.Tables.{held, no_frame, frame_at}

unfoldable pub no_entry : Entry
no_entry = record { frame = no_frame; gain = 0 }

pub length-held : (es : List Entry) → length (held es) ≡ length es
length-held es = length-map es (λ e. (e.frame, e.gain))

pub length-gains : (es : List Entry) → length (gains (held es)) ≡ length es
length-gains es = length-map (held es) (λ e. e.1) ∙ length-held es

pub length-frames : (es : List Entry) → length (frames (held es)) ≡ length es
length-frames es = length-map (held es) (λ e. e.0) ∙ length-held es

-- the frames of entries
pub frames-held : (es : List Entry) → frames (held es) ≡ map (λ e. e.frame) es
frames-held [] = refl
frames-held (e ∷ es) = ap (λ xs. e.frame ∷ xs) (frames-held es)

pub entry_frame : (es : List Entry) (p : ℕ) → p < length es → (d : Entry) → (get_or es p d).frame ≡ frame_at (held es) p
entry_frame es p h d = sym (get_or-map (λ e. e.frame) es p d no_frame h) ∙ ap (λ xs. get_or xs p no_frame) (sym (frames-held es))
