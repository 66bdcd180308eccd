-- A call that goes no further before anything is told.
use Rattle.std.proofs.Common.{◌≡◌, ◌≢◌, ℕ, ◌==◌, List, [], ◌∷◌, Option, Some, None, Result, Ok, Err, refl, sym, ◌∙◌, inl, arith}
use Rattle.som_model.specs.Bytes.{Files}
use Rattle.som_cmd_steps.specs.declared.stop.Refusal.{Refusal}
use Rattle.som_cmd_steps.specs.declared.stop.Why.{Why}
use Rattle.som_cmd_steps.specs.declared.stop.Why.TheVariants as why
use Rattle.som_cmd_steps.specs.declared.stop.CommandStop.{CommandStop}
use Rattle.som_cmd_steps.specs.declared.stop.CommandStop.TheVariants as stops
use Rattle.som_cmd_steps.specs.Answering.{StopAnswers}
use Rattle.som_cmd_steps.specs.Cause.{StopHasCause}
use Rattle.som_cmd_steps.specs.Endings.{Ending}
use Rattle.som_cmd_steps.specs.Getting.{FailsGetting}
use Rattle.som_cmd_steps.specs.Outcomes.{EndsAsTold, ShowsSome, StoreFails}
use Rattle.som_cmd_steps.specs.Saying.{StopSaysAll, StopSaysFailure, StopSaysFront}
use Rattle.som_cmd_steps.specs.Status.{status_of}
use Rattle.som_cmd_steps.specs.Steps.{FollowsTold}
use Rattle.som_cmd_steps.proofs.Printed.{stop_ends, stop_fails, stop_fronts}
use Rattle.som_cmd_witness.specs.declared.releases.Releases.{Releases}
use Rattle.som_cmd_witness.specs.Cause.{FailsWitness}
use Rattle.som_cmd_witness.specs.Releases.{releases_in}
use Rattle.som_cmd_witness.specs.WitnessAnswer.{IsWitnessAnswer, refuses}
use Rattle.som_cmd_witness.specs.WitnessEnds.{LeavesFiles, LeavesFilesTold, as_they_were}
use Rattle.som_cmd_witness.proofs.WitnessLaws.{some_witness_answer}

module _ (out old new : List ℕ) where
  -- what refuses is the answer
  stop_answers : (before : Files) (stop : CommandStop) → FollowsTold {A = Releases} (Some before) (Err stop) (releases_in old new) → StopAnswers (IsWitnessAnswer out old new before) before stop
  stop_answers before (stops.Refused r) f = refuses r f
  stop_answers before (stops.StoreFailed line) f = tt
  stop_answers before stops.NoMemory f = tt

  stop_cause : (files : Option Files) (count now : ℕ) (stop : CommandStop) → StopHasCause (FailsGetting files (old ∷ new ∷ [])) count now stop → StopHasCause (FailsWitness files out old new) count now stop
  stop_cause files count now (stops.Refused r) cause = tt
  stop_cause files count now (stops.StoreFailed line) cause = (cause.0, inl cause.1)
  stop_cause files count now stops.NoMemory cause = tt

  pub stopped_ends : (files : Option Files) (stop : CommandStop) → FollowsTold {A = Releases} files (Err stop) (releases_in old new) → (status : ℕ) (new_files : Option Files) → new_files ≡ files → (was is : Option (List ℕ)) → StopSaysAll stop status was is
      → EndsAsTold (IsWitnessAnswer out old new) files status new_files was is
  stopped_ends None stop f status new_files same was is says = tt
  stopped_ends (Some before) stop f status new_files same was is says = stop_ends (IsWitnessAnswer out old new before) before stop (stop_answers before stop f) status new_files same was is says

  pub stopped_fails : (files : Option Files) (stop : CommandStop) (count now : ℕ) → StopHasCause (FailsGetting files (old ∷ new ∷ [])) count now stop → (was is : Option (List ℕ)) → StopSaysFailure stop was is
      → StoreFails (FailsWitness files out old new) count now was is
  stopped_fails files stop count now cause was is says = stop_fails (FailsWitness files out old new) stop count now (stop_cause files count now stop cause) was is says

  pub stopped_fronts : (files : Option Files) (stop : CommandStop) → FollowsTold {A = Releases} files (Err stop) (releases_in old new) → (count now : ℕ) → StopHasCause (FailsGetting files (old ∷ new ∷ [])) count now stop
      → (was is : Option (List ℕ)) → StopSaysFront stop was is → ShowsSome (IsWitnessAnswer out old new) (FailsWitness files out old new) files count now was is
  stopped_fronts None stop f count now cause was is says = tt
  stopped_fronts (Some before) stop f count now cause was is says =
      stop_fronts (IsWitnessAnswer out old new) (FailsWitness (Some before) out old new) (λ files. some_witness_answer files out old new) before stop (stop_answers before stop f) count now (stop_cause (Some before) count now stop cause) was is says

  -- no refusal has the status of what is done
  refusal_apart : (w : Why) → status_of w ≢ 0
  refusal_apart why.Texts = λ e. omega (arith, e)
  refusal_apart why.Incompatible = λ e. omega (arith, e)
  refusal_apart why.Image = λ e. omega (arith, e)
  refusal_apart why.Absent = λ e. omega (arith, e)
  refusal_apart why.Limit = λ e. omega (arith, e)

  zero_apart : (status n : ℕ) → status ≡ 0 → n ≢ 0 → status ≢ n
  zero_apart status n zero other e = other (sym e ∙ zero)

  not_done : (stop : CommandStop) (status : ℕ) (was is : Option (List ℕ)) → (status ≢ 6 → status ≢ 8 → status ≢ 10 → StopSaysAll stop status was is) → status ≢ 0
  not_done (stops.Refused r) status was is says zero =
      refusal_apart r.why (sym (says (zero_apart status 6 zero (λ e. omega (arith, e))) (zero_apart status 8 zero (λ e. omega (arith, e))) (zero_apart status 10 zero (λ e. omega (arith, e)))).0 ∙ zero)
  not_done (stops.StoreFailed line) status was is says zero = says (zero_apart status 6 zero (λ e. omega (arith, e))) (zero_apart status 8 zero (λ e. omega (arith, e))) (zero_apart status 10 zero (λ e. omega (arith, e)))
  not_done stops.NoMemory status was is says zero = says (zero_apart status 6 zero (λ e. omega (arith, e))) (zero_apart status 8 zero (λ e. omega (arith, e))) (zero_apart status 10 zero (λ e. omega (arith, e)))

  pub stopped_files : (files : Option Files) (stop : CommandStop) (status count now : ℕ) (new_files : Option Files) → new_files ≡ files → (was is : Option (List ℕ)) → (status ≢ 6 → status ≢ 8 → status ≢ 10 → StopSaysAll stop status was is)
      → LeavesFilesTold files out old new count now status new_files was is
  stopped_files None stop status count now new_files same was is says = tt
  stopped_files (Some before) stop status count now new_files same was is says = as_they_were (not_done stop status was is says) same
