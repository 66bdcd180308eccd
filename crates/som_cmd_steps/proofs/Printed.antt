-- Where the answer is made before any of it is printed, and where a command goes no further, the call comes to what its outcome is said to be.
use Rattle.std.proofs.Common.{◌≡◌, ℕ, List, [], Option, Some, None, Result, Ok, Err, refl, sym, ap, subst, inl, inr}
use Rattle.std.proofs.lemmas.List.{append-nil}
use Rattle.som_model.specs.Bytes.{Files}
use Rattle.som_io.specs.Outside.{ShowsFront}
use Rattle.som_cmd_steps.specs.declared.output.Output.{Output}
use Rattle.som_cmd_steps.specs.declared.stop.CommandStop.{CommandStop}
use Rattle.som_cmd_steps.specs.Endings.{Ending, refusing}
use Rattle.som_cmd_steps.specs.Cause.{HasCause, StopHasCause}
use Rattle.som_cmd_steps.specs.Answering.{printed, AnswersTold, Answering, StopAnswers}
use Rattle.som_cmd_steps.specs.Saying.{SaysAll, SaysFailure, SaysFront, StopSaysAll, StopSaysFailure, StopSaysFront}
use Rattle.som_cmd_steps.specs.Outcomes.{EndsAs, EndsAsTold, StoreFails, ShowsSome}
use Rattle.som_cmd_steps.specs.declared.stop.CommandStop.TheVariants as stops

pub shows_nothing : (written : Option (List ℕ)) (text : List ℕ) → ShowsFront written written text
shows_nothing None text = (text, tt)
shows_nothing (Some old) text = (text, ([], refl, ap (λ (t : List ℕ). Some t) (sym (append-nil old))))

-- where nothing was written, a front of the answer's text was
pub nothing_written : (IsAnswer : Answering) (is_line : List ℕ → Type 0) → ((before : Files) → (e : Ending) × IsAnswer before e) → (files : Option Files) (count now : ℕ) (written : Option (List ℕ))
    → ShowsSome IsAnswer is_line files count now written written
nothing_written IsAnswer is_line some None count now written = tt
nothing_written IsAnswer is_line some (Some before) count now written = let a = some before in inl (a.0, a.1, shows_nothing written a.0.text)

-- ---- a command that goes no further

-- where its line was printed, the call ends as the answer says
pub stop_ends : (IsAnswer : Ending → Type 0) (before : Files) (stop : CommandStop) → StopAnswers IsAnswer before stop → (status : ℕ) (new_files : Option Files) → new_files ≡ Some before → (old new : Option (List ℕ)) → StopSaysAll stop status old new
    → EndsAs IsAnswer status new_files old new
stop_ends IsAnswer before (stops.Refused r) f status new_files same old new says = record { told = refusing before r; is_answer = f; status_is = says.0; text_is = says.1; files_are = same }
stop_ends IsAnswer before (stops.StoreFailed line) f status new_files same old new says = absurd says
stop_ends IsAnswer before stops.NoMemory f status new_files same old new says = absurd says

-- a front of its line was written
pub stop_fronts : (IsAnswer : Answering) (is_line : List ℕ → Type 0) → ((before : Files) → (e : Ending) × IsAnswer before e) → (before : Files) (stop : CommandStop) → StopAnswers (IsAnswer before) before stop → (count now : ℕ) → StopHasCause is_line count now stop
    → (old new : Option (List ℕ)) → StopSaysFront stop old new → ShowsSome IsAnswer is_line (Some before) count now old new
stop_fronts IsAnswer is_line some before (stops.Refused r) f count now cause old new says = inl (refusing before r, f, says)
stop_fronts IsAnswer is_line some before (stops.StoreFailed line) f count now cause old new says = inr (cause.0, line, cause.1, says)
stop_fronts IsAnswer is_line some before stops.NoMemory f count now cause old new says =
    subst (λ (x : Option (List ℕ)). ShowsSome IsAnswer is_line (Some before) count now old x) (sym says) (nothing_written IsAnswer is_line some (Some before) count now old)

-- the line that says that the store failed was written
pub stop_fails : (is_line : List ℕ → Type 0) (stop : CommandStop) (count now : ℕ) → StopHasCause is_line count now stop → (old new : Option (List ℕ)) → StopSaysFailure stop old new → StoreFails is_line count now old new
stop_fails is_line (stops.Refused r) count now cause old new says = absurd says
stop_fails is_line (stops.StoreFailed line) count now cause old new says = record { rose = cause.0; line = line; is_line = cause.1; written = says }
stop_fails is_line stops.NoMemory count now cause old new says = absurd says

-- ---- a command that makes its answer and then prints it

-- where all of it was printed, the call ends as the answer says
pub ends : (IsAnswer : Answering) (files : Option Files) (outcome : Result Output CommandStop) → AnswersTold IsAnswer files outcome → (status : ℕ) (new_files : Option Files) → new_files ≡ files → (old new : Option (List ℕ))
    → SaysAll outcome status old new → EndsAsTold IsAnswer files status new_files old new
ends IsAnswer None outcome f status new_files same old new says = tt
ends IsAnswer (Some before) (Ok o) f status new_files same old new says = record { told = printed before o; is_answer = f; status_is = says.0; text_is = says.1; files_are = same }
ends IsAnswer (Some before) (Err stop) f status new_files same old new says = stop_ends (IsAnswer before) before stop f status new_files same old new says

-- a front of what there is to print was written
pub fronts : (IsAnswer : Answering) (is_line : List ℕ → Type 0) → ((before : Files) → (e : Ending) × IsAnswer before e) → (files : Option Files) (outcome : Result Output CommandStop) → AnswersTold IsAnswer files outcome → (count now : ℕ)
    → HasCause is_line count now outcome → (old new : Option (List ℕ)) → SaysFront outcome old new → ShowsSome IsAnswer is_line files count now old new
fronts IsAnswer is_line some None outcome f count now cause old new says = tt
fronts IsAnswer is_line some (Some before) (Ok o) f count now cause old new says = inl (printed before o, f, says)
fronts IsAnswer is_line some (Some before) (Err stop) f count now cause old new says = stop_fronts IsAnswer is_line some before stop f count now cause old new says

-- the line that says that the store failed was written
pub fails : (is_line : List ℕ → Type 0) (outcome : Result Output CommandStop) (count now : ℕ) → HasCause is_line count now outcome → (old new : Option (List ℕ)) → SaysFailure outcome old new → StoreFails is_line count now old new
fails is_line (Ok o) count now cause old new says = absurd says
fails is_line (Err stop) count now cause old new says = stop_fails is_line stop count now cause old new says
