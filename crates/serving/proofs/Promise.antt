-- The promise at any point of a run. Assumes nothing.
use Rattle.std.proofs.Common.{ℕ, Bool, List, refl, arith}
use Rattle.std.proofs.lemmas.List.{length-map}
use Rattle.theory.specs.Laws.{MatroidLaws}
use Rattle.theory.specs.Promise.{Promised}
use Rattle.theory.specs.Replay.{frames}
use Rattle.theory.proofs.Places.{length_drawn}
use Rattle.theory.proofs.Theorem.{promised, took_few}
use Rattle.frames.specs.Frames.{same}
use Rattle.frames.specs.declared.frame.Frame.{Frame}
use Rattle.frames.proofs.Equality.{same-frames}
use Rattle.objectives.specs.Meanings.{ObjectiveLaws}
use Rattle.picker.specs.Calls.{Called, arrivals}
use Rattle.runs.specs.Histories.{after}
use Rattle.serving.specs.Promise.{Promises}

pub kept_promise : (f g : List Frame → ℕ) (adm : List Frame → Bool) (n : ℕ) → ObjectiveLaws f g → MatroidLaws same adm → Promises f adm n
kept_promise f g adm n laws rules =
    let theorem : (h : List Called) → Promised f adm n (arrivals h) (after f adm n h) = λ h. promised same-frames laws.whole.submodular rules n (arrivals h) in
    record {
      label = λ h. let t = theorem h in record {
        kept = refl;
        accepted = refl;
        admitted = t.admitted;
        arrived = record {
          places = t.drawn.0;
          drawn = t.drawn.1;
          few = omega (arith, t.few, length-map (after f adm n h).kept (λ e. e.0), length_drawn (arrivals h) t.drawn.0 (frames (after f adm n h).kept) t.drawn.1.1);
        };
        quarter = t.quarter;
        few = t.took;
      };
      bounds = λ h. let t = theorem h in record {
        tells = t.tells;
        twice = t.twice;
        earned = t.earned;
        most = took_few same-frames laws.whole.submodular rules n laws.whole.bounded (arrivals h) (after f adm n h) t;
      };
    }
