-- The status of a run of main is that of what it came to.
use Rattle.std.proofs.Common.{◌≡◌, ◌≢◌, ℕ, Bool, List, Option, refl, sym, ap, subst, ◌∙◌, arith}
use Rattle.som_model.specs.declared.key.ClassKey.{ClassKey}
use Rattle.som_model.specs.declared.syntax.Block.{Block}
use Rattle.som_model.specs.Class.{Class}
use Rattle.som_semantics.specs.Means.{means_in}
use Rattle.som_semantics.specs.Runs.{Ran}
use Rattle.som_semantics.specs.RunText.{run_status, run_text}
use Rattle.som_semantics.specs.World.{World}
use Rattle.som_io.specs.Outside.{ShowsAll, ShowsFront}
use Rattle.som_io.proofs.ShownLaws.{front_none}
use Rattle.som_interp_task.specs.Run.{Counts, EndsSo, IfRan}
use Rattle.som_interp_task.specs.declared.outcome.Outcome.{Outcome}
use Rattle.som_interp_task.specs.declared.outcome.Outcome.TheVariants as outcomes
use Rattle.som_exec.specs.Runs.{RunsMain}
use Rattle.som_cmd_main.specs.Mains.{EndsMain, RunsTraced, outcome_status}

-- where the sink didn't fail and memory lasted, it is that of the meaning's end
ended_so : (m : Ran (Unit {0})) (outcome : Outcome) → EndsSo m outcome → outcome_status outcome ≢ 8 → outcome_status outcome ≢ 10 → outcome_status outcome ≡ run_status m
ended_so m outcomes.Done e not8 not10 = sym (ap (λ (r : Ran (Unit {0})). run_status r) e.1)
ended_so m (outcomes.SourceFault fault at) e not8 not10 = sym (ap (λ (r : Ran (Unit {0})). run_status r) e.2)
ended_so m outcomes.Spent e not8 not10 = sym (ap (λ (r : Ran (Unit {0})). run_status r) e.1)
ended_so m outcomes.SinkFailed e not8 not10 = absurd (not8 refl)
ended_so m outcomes.NoMemory e not8 not10 = absurd (not10 refl)

-- and all of the text was written
told_so : (outcome : Outcome) (P : Type 0) → IfRan outcome P → outcome_status outcome ≢ 8 → outcome_status outcome ≢ 10 → P
told_so outcomes.Done P p not8 not10 = p
told_so (outcomes.SourceFault fault at) P p not8 not10 = p
told_so outcomes.Spent P p not8 not10 = p
told_so outcomes.SinkFailed P p not8 not10 = absurd (not8 refl)
told_so outcomes.NoMemory P p not8 not10 = absurd (not10 refl)

-- 8 is the status of a sink that failed
failed_so : (outcome : Outcome) → outcome_status outcome ≡ 8 → outcome ≡ outcomes.SinkFailed
failed_so outcomes.Done e = absurd (omega (arith, e))
failed_so (outcomes.SourceFault fault at) e = absurd (omega (arith, e))
failed_so outcomes.Spent e = absurd (omega (arith, e))
failed_so outcomes.SinkFailed e = refl
failed_so outcomes.NoMemory e = absurd (omega (arith, e))

ends_so : (w : World) (main : Block) (fuel : ℕ) (shows : List ℕ → Bool) (before now : ℕ) (old new : Option (List ℕ)) (outcome : Outcome) → RunsTraced w main fuel shows before now old new outcome
    → EndsMain w main fuel shows before now old new (outcome_status outcome)
ends_so w main fuel shows before now old new outcome r = record {
  ended = ended_so (means_in w main fuel) outcome r.ended;
  text = told_so outcome (ShowsAll old new (run_text shows (means_in w main fuel))) r.text;
  front = r.front;
  cause = λ e. r.cause (failed_so outcome e);
}

pub ends_by : (w : World) (main : Block) (fuel : ℕ) (shows : List ℕ → Bool) (before now : ℕ) (old new : Option (List ℕ)) (outcome : Outcome) (status : ℕ) → RunsTraced w main fuel shows before now old new outcome → status ≡ outcome_status outcome
    → EndsMain w main fuel shows before now old new status
ends_by w main fuel shows before now old new outcome status r is = subst (EndsMain w main fuel shows before now old new) (sym is) (ends_so w main fuel shows before now old new outcome r)

-- a sink that didn't fail has another status
pub calmly : (outcome : Outcome) (status : ℕ) → status ≡ outcome_status outcome → outcome ≢ outcomes.SinkFailed → status ≢ 8
calmly outcome status is fine e = fine (failed_so outcome (sym is ∙ e))

-- ---- what a runner comes to

pub runs_so : (w : World) (main : Block) (fuel : ℕ) (shows : List ℕ → Bool) (before now : ℕ) (old new : Option (List ℕ)) (all : List Class) (made made' : ClassKey → Bool) (outcome : Outcome)
    → RunsMain w main fuel shows old new all made made' outcome → Counts before now outcome → RunsTraced w main fuel shows before now old new outcome
runs_so w main fuel shows before now old new all made made' outcome r counts = record { ended = r.ended; text = r.text; front = r.front; cause = counts.cause }

-- ---- where there was no memory to begin

pub not_begun : (w : World) (main : Block) (fuel : ℕ) (shows : List ℕ → Bool) (before now : ℕ) (old new : Option (List ℕ)) → new ≡ old → EndsMain w main fuel shows before now old new 10
not_begun w main fuel shows before now old new same = record {
  ended = λ not8 not10. absurd (not10 refl);
  text = λ not8 not10. absurd (not10 refl);
  front = subst (λ (x : Option (List ℕ)). ShowsFront old x (run_text shows (means_in w main fuel))) (sym same) (front_none old (run_text shows (means_in w main fuel)));
  cause = λ e. absurd (omega (arith, e));
}
