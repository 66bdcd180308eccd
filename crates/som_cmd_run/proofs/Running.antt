-- What a run comes to is its answer: what is refused, and what main means.
use Rattle.std.proofs.Common.{◌≡◌, ◌≢◌, ℕ, Bool, List, Option, Some, None, Ok, Err, refl, sym, ap, subst, ◌∙◌, inl}
use Rattle.som_model.specs.declared.syntax.Block.{Block}
use Rattle.som_model.specs.Bytes.{Files}
use Rattle.som_model.specs.Class.{Class}
use Rattle.som_model.specs.Classes.{classes}
use Rattle.som_semantics.specs.Means.{means, means_in}
use Rattle.som_semantics.specs.Runs.{Ran}
use Rattle.som_semantics.specs.RunText.{run_status, run_text}
use Rattle.som_semantics.specs.World.{World, world}
use Rattle.som_classmgr.specs.Asking.{answers_of}
use Rattle.som_class_kernel.specs.Linked.{Linkage}
use Rattle.som_io.specs.Outside.{ShowsAll, ShowsFront}
use Rattle.som_cmd_steps.specs.declared.stop.CommandStop.{CommandStop}
use Rattle.som_cmd_steps.specs.declared.stop.CommandStop.TheVariants as stops
use Rattle.som_cmd_steps.specs.Answering.{StopAnswers}
use Rattle.som_cmd_steps.specs.Cause.{StopHasCause}
use Rattle.som_cmd_steps.specs.Endings.{Ending}
use Rattle.som_cmd_steps.specs.Outcomes.{EndsAsTold, ShowsSome}
use Rattle.som_cmd_steps.specs.Saying.{StopSaysAll, StopSaysFront}
use Rattle.som_cmd_steps.specs.Steps.{Stops}
use Rattle.som_cmd_steps.proofs.Printed.{stop_ends, stop_fronts}
use Rattle.som_cmd_link.specs.declared.pair.Pair.{Pair}
use Rattle.som_cmd_link.specs.Cause.{FailsRunning}
use Rattle.som_cmd_link.specs.Kernels.{IsKernelOf, LinksTold}
use Rattle.som_cmd_link.specs.Pairs.{linked_in}
use Rattle.som_cmd_main.specs.Mains.{EndsMain}
use Rattle.som_cmd_run.specs.RunAnswer.{IsRunAnswer, ending_by, ran, run_ending}

-- a kernel answers what its classes do
world_is : (cs : List Class) → answers_of cs ≡ world cs
unfolding world
world_is cs = refl

-- what the main of a kernel means is what its program means on its release
pub means_so : (fuel : ℕ) (pair : Pair) (k : Linkage) → IsKernelOf pair k → means_in (answers_of k.classes.classes) k.main fuel ≡ means pair.release pair.program fuel
means_so fuel pair k is =
    ap (λ (w : World). means_in w k.main fuel) (world_is k.classes.classes)
    ∙ ap (λ (cs : List Class). means_in (world cs) k.main fuel) is.classes
    ∙ ap (λ (main : Block). means_in (world (classes pair.release pair.program)) main fuel) is.main

-- a main that runs over a kernel
abbrev pub EndsOver : Linkage → ℕ → (List ℕ → Bool) → ℕ → ℕ → Option (List ℕ) → Option (List ℕ) → ℕ → Type 0
EndsOver k fuel shows before now old new status = EndsMain (answers_of k.classes.classes) k.main fuel shows before now old new status

module _ (c l : List ℕ) (fuel : ℕ) (shows : List ℕ → Bool) where
  some : (before : Files) → (e : Ending) × IsRunAnswer c l fuel shows before e
  some before = (run_ending c l fuel shows before, refl)

  -- ---- a run that is refused

  stops_answer : (told : Files) (stop : CommandStop) → Stops {A = Pair} stop (linked_in c l told) → StopAnswers (IsRunAnswer c l fuel shows told) told stop
  stops_answer told (stops.Refused r) f = ap (ending_by fuel shows told) (sym f)
  stops_answer told (stops.StoreFailed line) f = tt
  stops_answer told stops.NoMemory f = tt

  pub refused_ends : (files : Option Files) (stop : CommandStop) → LinksTold files c l (Err stop) → (status : ℕ) (new_files : Option Files) → new_files ≡ files → (old new : Option (List ℕ)) → StopSaysAll stop status old new
      → EndsAsTold (IsRunAnswer c l fuel shows) files status new_files old new
  refused_ends None stop f status new_files same old new says = tt
  refused_ends (Some told) stop f status new_files same old new says = stop_ends (IsRunAnswer c l fuel shows told) told stop (stops_answer told stop f) status new_files same old new says

  pub refused_fronts : (files : Option Files) (stop : CommandStop) → LinksTold files c l (Err stop) → (count now : ℕ) → StopHasCause (FailsRunning files c l) count now stop → (old new : Option (List ℕ)) → StopSaysFront stop old new
      → ShowsSome (IsRunAnswer c l fuel shows) (FailsRunning files c l) files count now old new
  refused_fronts None stop f count now cause old new says = tt
  refused_fronts (Some told) stop f count now cause old new says =
      stop_fronts (IsRunAnswer c l fuel shows) (FailsRunning (Some told) c l) some told stop (stops_answer told stop f) count now cause old new says

  -- ---- a main that runs

  ran_answer : (told : Files) (pair : Pair) → linked_in c l told ≡ Ok pair → IsRunAnswer c l fuel shows told (ran shows told (means pair.release pair.program fuel))
  ran_answer told pair e = ap (ending_by fuel shows told) (sym e)

  pub ran_ends : (files : Option Files) (k : Linkage) → LinksTold files c l (Ok k) → (before now : ℕ) (old new : Option (List ℕ)) (status : ℕ) → EndsOver k fuel shows before now old new status → status ≢ 8 → status ≢ 10
      → (new_files : Option Files) → new_files ≡ files → EndsAsTold (IsRunAnswer c l fuel shows) files status new_files old new
  ran_ends None k f before now old new status e not8 not10 new_files same = tt
  ran_ends (Some told) k f before now old new status e not8 not10 new_files same =
      let m = means_so fuel f.0 k f.2 in
      record {
        told = ran shows told (means f.0.release f.0.program fuel);
        is_answer = ran_answer told f.0 f.1;
        status_is = e.ended not8 not10 ∙ ap (λ (x : Ran (Unit {0})). run_status x) m;
        text_is = subst (λ (x : Ran (Unit {0})). ShowsAll old new (run_text shows x)) m (e.text not8 not10);
        files_are = same;
      }

  pub ran_fronts : (files : Option Files) (k : Linkage) → LinksTold files c l (Ok k) → (before now : ℕ) (old new : Option (List ℕ)) (status : ℕ) → EndsOver k fuel shows before now old new status → (count later : ℕ)
      → ShowsSome (IsRunAnswer c l fuel shows) (FailsRunning files c l) files count later old new
  ran_fronts None k f before now old new status e count later = tt
  ran_fronts (Some told) k f before now old new status e count later =
      inl (ran shows told (means f.0.release f.0.program fuel), ran_answer told f.0 f.1, subst (λ (x : Ran (Unit {0})). ShowsFront old new (run_text shows x)) (means_so fuel f.0 k f.2) e.front)
