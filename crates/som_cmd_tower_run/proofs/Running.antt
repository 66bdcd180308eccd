-- What a run of a tower comes to is its answer: what is refused, and what the client means.
use Rattle.std.proofs.Common.{◌≡◌, ◌≢◌, ◌++◌, ◌∷◌, ℕ, List, Option, Some, None, Ok, Err, refl, sym, ap, subst, ◌∙◌, inl, inr}
use Rattle.som_model.specs.declared.syntax.Block.{Block}
use Rattle.som_model.specs.Bytes.{Files}
use Rattle.som_model.specs.Class.{Class}
use Rattle.som_model.specs.Kernel.{kernel}
use Rattle.som_semantics.specs.Means.{means_in}
use Rattle.som_semantics.specs.Runs.{Ran}
use Rattle.som_semantics.specs.RunText.{no_trace, run_status, run_text}
use Rattle.som_semantics.specs.World.{World, world}
use Rattle.som_classmgr.specs.Asking.{answers_of}
use Rattle.som_class_kernel.specs.Linked.{Linkage}
use Rattle.som_tower.specs.Towers.{tower_classes}
use Rattle.som_io.specs.Outside.{ShowsAll, ShowsFront}
use Rattle.som_cmd_steps.specs.declared.stop.Refusal.{Refusal}
use Rattle.som_cmd_steps.specs.declared.stop.CommandStop.{CommandStop}
use Rattle.som_cmd_steps.specs.declared.stop.CommandStop.TheVariants as stops
use Rattle.som_cmd_steps.specs.Answering.{StopAnswers}
use Rattle.som_cmd_steps.specs.Cause.{StopHasCause}
use Rattle.som_cmd_steps.specs.Endings.{Ending}
use Rattle.som_cmd_steps.specs.Getting.{FailsGetting}
use Rattle.som_cmd_steps.specs.Outcomes.{EndsAsTold, ShowsSome}
use Rattle.som_cmd_steps.specs.Refusing.{HasStatusIn, StopRefusesAs}
use Rattle.som_cmd_steps.specs.Saying.{StopSaysAll, StopSaysFront}
use Rattle.som_cmd_steps.specs.Steps.{Stops}
use Rattle.som_cmd_steps.proofs.Printed.{stop_ends, stop_fronts}
use Rattle.som_cmd_run.specs.RunAnswer.{ran, run_statuses}
use Rattle.som_cmd_run.proofs.Running.{EndsOver}
use Rattle.som_cmd_run.proofs.RunStatuses.{stop_in as run_stop_in}
use Rattle.som_cmd_tower_run.specs.declared.tower.Tower.{Tower}
use Rattle.som_cmd_tower_run.specs.Kernels.{IsKernelOf, LaysTold}
use Rattle.som_cmd_tower_run.specs.Refusals.{IsTowerRefusal}
use Rattle.som_cmd_tower_run.specs.Steps.{laid_in}
use Rattle.som_cmd_tower_run.specs.TowerRunAnswer.{IsTowerRunAnswer, ending_by, tower_means, tower_run_ending}

-- a kernel answers what its classes do
world_is : (cs : List Class) → answers_of cs ≡ world cs
unfolding world
world_is cs = refl

-- what the client of a tower means
abbrev pub meant : Tower → ℕ → Ran (Unit {0})
meant t fuel = tower_means t.levels.base t.levels.uppers t.client fuel

-- the main of a kernel means that
means_so : (fuel : ℕ) (t : Tower) (k : Linkage) → IsKernelOf t k → means_in (answers_of k.classes.classes) k.main fuel ≡ meant t fuel
means_so fuel t k is =
    ap (λ (w : World). means_in w k.main fuel) (world_is k.classes.classes)
    ∙ ap (λ (cs : List Class). means_in (world cs) k.main fuel) is.classes
    ∙ ap (λ (main : Block). means_in (world (kernel ++ tower_classes t.levels.base t.levels.uppers t.client)) main fuel) is.main

module _ (c : List ℕ) (below : List (List ℕ)) (fuel : ℕ) where
  some : (before : Files) → (e : Ending) × IsTowerRunAnswer c below fuel before e
  some before = (tower_run_ending c below fuel before, refl)

  -- ---- a run that is refused

  stops_answer : (told : Files) (stop : CommandStop) → Stops {A = Tower} stop (laid_in c below told) → StopAnswers (IsTowerRunAnswer c below fuel told) told stop
  stops_answer told (stops.Refused r) f = ap (ending_by fuel told) (sym f)
  stops_answer told (stops.StoreFailed line) f = tt
  stops_answer told stops.NoMemory f = tt

  pub refused_ends : (files : Option Files) (stop : CommandStop) → LaysTold files c below (Err stop) → (status : ℕ) (new_files : Option Files) → new_files ≡ files → (old new : Option (List ℕ)) → StopSaysAll stop status old new
      → EndsAsTold (IsTowerRunAnswer c below fuel) files status new_files old new
  refused_ends None stop f status new_files same old new says = tt
  refused_ends (Some told) stop f status new_files same old new says = stop_ends (IsTowerRunAnswer c below fuel told) told stop (stops_answer told stop f) status new_files same old new says

  pub refused_fronts : (files : Option Files) (stop : CommandStop) → LaysTold files c below (Err stop) → (count now : ℕ) → StopHasCause (FailsGetting files (c ∷ below)) count now stop → (old new : Option (List ℕ)) → StopSaysFront stop old new
      → ShowsSome (IsTowerRunAnswer c below fuel) (FailsGetting files (c ∷ below)) files count now old new
  refused_fronts None stop f count now cause old new says = tt
  refused_fronts (Some told) stop f count now cause old new says =
      stop_fronts (IsTowerRunAnswer c below fuel) (FailsGetting (Some told) (c ∷ below)) some told stop (stops_answer told stop f) count now cause old new says

  -- ---- a client that runs

  ran_answer : (told : Files) (t : Tower) → laid_in c below told ≡ Ok t → IsTowerRunAnswer c below fuel told (ran no_trace told (meant t fuel))
  ran_answer told t e = ap (ending_by fuel told) (sym e)

  pub ran_ends : (files : Option Files) (k : Linkage) → LaysTold files c below (Ok k) → (before now : ℕ) (old new : Option (List ℕ)) (status : ℕ) → EndsOver k fuel no_trace before now old new status → status ≢ 8 → status ≢ 10
      → (new_files : Option Files) → new_files ≡ files → EndsAsTold (IsTowerRunAnswer c below fuel) files status new_files old new
  ran_ends None k f before now old new status e not8 not10 new_files same = tt
  ran_ends (Some told) k f before now old new status e not8 not10 new_files same =
      let m = means_so fuel f.0 k f.2 in
      record {
        told = ran no_trace told (meant f.0 fuel);
        is_answer = ran_answer told f.0 f.1;
        status_is = e.ended not8 not10 ∙ ap (λ (x : Ran (Unit {0})). run_status x) m;
        text_is = subst (λ (x : Ran (Unit {0})). ShowsAll old new (run_text no_trace x)) m (e.text not8 not10);
        files_are = same;
      }

  pub ran_fronts : (files : Option Files) (k : Linkage) → LaysTold files c below (Ok k) → (before now : ℕ) (old new : Option (List ℕ)) (status : ℕ) → EndsOver k fuel no_trace before now old new status → (count later : ℕ)
      → ShowsSome (IsTowerRunAnswer c below fuel) (FailsGetting files (c ∷ below)) files count later old new
  ran_fronts None k f before now old new status e count later = tt
  ran_fronts (Some told) k f before now old new status e count later =
      inl (ran no_trace told (meant f.0 fuel), ran_answer told f.0 f.1, subst (λ (x : Ran (Unit {0})). ShowsFront old new (run_text no_trace x)) (means_so fuel f.0 k f.2) e.front)

-- ---- the statuses of what is refused

refusal_in : (c : List ℕ) (below : List (List ℕ)) (r : Refusal) → IsTowerRefusal c below r → HasStatusIn run_statuses r
refusal_in c below r (inl (name, m, is)) = run_stop_in name name (stops.Refused r) (inl is)
refusal_in c below r (inr (name, m, b, is)) = run_stop_in name name (stops.Refused r) (inr (inr (b, is)))

pub stop_in : (c : List ℕ) (below : List (List ℕ)) (stop : CommandStop) → StopRefusesAs (IsTowerRefusal c below) stop → StopRefusesAs (HasStatusIn run_statuses) stop
stop_in c below (stops.Refused r) is = refusal_in c below r is
stop_in c below (stops.StoreFailed line) is = tt
stop_in c below stops.NoMemory is = tt
