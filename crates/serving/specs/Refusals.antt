-- What a refused run says. Assumes nothing.
use Rattle.std.specs.Prelude.{ℕ, List, codes}
use Rattle.serving.specs.declared.refusal.RunRefusal.{RunRefusal}
use Rattle.serving.specs.declared.refusal.RunRefusal.TheVariants.{BadCalls, ShortAnswers}

-- the text of a refusal
abbrev pub run_text : RunRefusal → List ℕ
run_text BadCalls = codes "the bytes are not calls"
run_text ShortAnswers = codes "the buffer is shorter than the answers due, or these are 2^48 bytes or more"
