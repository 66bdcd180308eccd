-- What a call of `tasks` comes to is its answer: what is refused, and the turns of the clients.
use Rattle.std.proofs.Common.{◌≡◌, ◌≢◌, ℕ, zero, suc, ◌==◌, Bool, true, false, List, [], ◌∷◌, length, slice_get, Option, Some, None, Ok, Err, refl, sym, ap, subst, ◌∙◌, inl, inr}
use Rattle.std.proofs.Math.Path.{fun_ext}
use Rattle.std.proofs.lemmas.Bool.{eqb-true}
use Rattle.som_model.specs.declared.program.ClientProgram.{ClientProgram}
use Rattle.som_model.specs.declared.program.Release.{Release}
use Rattle.som_model.specs.declared.syntax.Block.{Block}
use Rattle.som_model.specs.Bytes.{Files}
use Rattle.som_model.specs.Lists.{Mem}
use Rattle.som_semantics.specs.World.{World}
use Rattle.som_turn_laws.specs.Turns.{Clients}
use Rattle.som_class_kernel.specs.Linked.{Linkage}
use Rattle.som_classmgr.specs.Asking.{answers_of}
use Rattle.som_io.specs.Outside.{ShowsAll, ShowsFront}
use Rattle.som_tasks.specs.Taken.{client_at, clients_of}
use Rattle.som_cmd_steps.specs.declared.stop.Refusal.{Refusal}
use Rattle.som_cmd_steps.specs.declared.stop.CommandStop.{CommandStop}
use Rattle.som_cmd_steps.specs.declared.stop.CommandStop.TheVariants as stops
use Rattle.som_cmd_steps.specs.Answering.{StopAnswers}
use Rattle.som_cmd_steps.specs.Cause.{StopHasCause}
use Rattle.som_cmd_steps.specs.Endings.{Ending}
use Rattle.som_cmd_steps.specs.Getting.{FailsGetting}
use Rattle.som_cmd_steps.specs.Outcomes.{EndsAsTold, ShowsSome}
use Rattle.som_cmd_steps.specs.Refusing.{HasStatusIn, StopRefusesAs}
use Rattle.som_cmd_steps.specs.Saying.{StopSaysAll, StopSaysFront}
use Rattle.som_cmd_steps.specs.Steps.{Stops}
use Rattle.som_cmd_steps.proofs.Printed.{stop_ends, stop_fronts}
use Rattle.som_cmd_steps.proofs.Statuses.{differs}
use Rattle.som_cmd_link.specs.Refusals.{IsImageRefusal}
use Rattle.som_cmd_run.proofs.Running.{means_so}
use Rattle.som_cmd_run.proofs.RunStatuses.{main_statuses}
use Rattle.som_cmd_tasks.specs.declared.group.Group.{Group}
use Rattle.som_cmd_tasks.specs.Ends.{EndsTurns, tasks_text}
use Rattle.som_cmd_tasks.specs.Groups.{group_in}
use Rattle.som_cmd_tasks.specs.Kernels.{AreKernelsOf, LinksAllTold}
use Rattle.som_cmd_tasks.specs.Refusals.{IsTasksRefusal}
use Rattle.som_cmd_tasks.specs.TasksAnswer.{IsTasksAnswer, clients_on, ending_by, program_client, tasks_ending, tasks_statuses}

-- ---- clients by kernels are clients by programs

abbrev world_of : Linkage → World
world_of k = answers_of k.classes.classes

abbrev main_of : Linkage → Block
main_of k = k.main

-- the clients of these kernels
abbrev pub kernel_clients : List Linkage → Clients
kernel_clients ks = clients_of world_of main_of ks

client_same : (r : Release) (ps : List ClientProgram) (ks : List Linkage) → AreKernelsOf r ps ks → (i : ℕ) → client_at world_of main_of (slice_get ks i) ≡ program_client r (slice_get ps i)
client_same r [] [] are i = refl
client_same r [] (k ∷ ks) are i = absurd are
client_same r (p ∷ ps) [] are i = absurd are
client_same r (p ∷ ps) (k ∷ ks) are zero = fun_ext (λ units. means_so units (record { program = p; release = r }) k are.0)
client_same r (p ∷ ps) (k ∷ ks) are (suc i) = client_same r ps ks are.1 i

clients_same : (r : Release) (ps : List ClientProgram) (ks : List Linkage) → AreKernelsOf r ps ks → kernel_clients ks ≡ clients_on r ps
clients_same r ps ks are = fun_ext (λ i. client_same r ps ks are i)

long_same : (r : Release) (ps : List ClientProgram) (ks : List Linkage) → AreKernelsOf r ps ks → length ks ≡ length ps
long_same r [] [] are = refl
long_same r [] (k ∷ ks) are = absurd are
long_same r (p ∷ ps) [] are = absurd are
long_same r (p ∷ ps) (k ∷ ks) are = ap suc (long_same r ps ks are.1)

text_same : (r : Release) (ps : List ClientProgram) (ks : List Linkage) (turns : List ℕ) → AreKernelsOf r ps ks → tasks_text (kernel_clients ks) turns (length ks) ≡ tasks_text (clients_on r ps) turns (length ps)
text_same r ps ks turns are = ap (λ (cs : Clients). tasks_text cs turns (length ks)) (clients_same r ps ks are) ∙ ap (λ (n : ℕ). tasks_text (clients_on r ps) turns n) (long_same r ps ks are)

module _ (l : List ℕ) (turns : List ℕ) (cs : List (List ℕ)) where
  some : (before : Files) → (e : Ending) × IsTasksAnswer l turns cs before e
  some before = (tasks_ending l turns cs before, refl)

  -- ---- a call that is refused

  stops_answer : (told : Files) (stop : CommandStop) → Stops {A = Group} stop (group_in l cs told) → StopAnswers (IsTasksAnswer l turns cs told) told stop
  stops_answer told (stops.Refused r) f = ap (ending_by turns told) (sym f)
  stops_answer told (stops.StoreFailed line) f = tt
  stops_answer told stops.NoMemory f = tt

  pub refused_ends : (files : Option Files) (stop : CommandStop) → LinksAllTold files l cs (Err stop) → (status : ℕ) (new_files : Option Files) → new_files ≡ files → (old new : Option (List ℕ)) → StopSaysAll stop status old new
      → EndsAsTold (IsTasksAnswer l turns cs) files status new_files old new
  refused_ends None stop f status new_files same old new says = tt
  refused_ends (Some told) stop f status new_files same old new says = stop_ends (IsTasksAnswer l turns cs told) told stop (stops_answer told stop f) status new_files same old new says

  pub refused_fronts : (files : Option Files) (stop : CommandStop) → LinksAllTold files l cs (Err stop) → (count now : ℕ) → StopHasCause (FailsGetting files (l ∷ cs)) count now stop → (old new : Option (List ℕ)) → StopSaysFront stop old new
      → ShowsSome (IsTasksAnswer l turns cs) (FailsGetting files (l ∷ cs)) files count now old new
  refused_fronts None stop f count now cause old new says = tt
  refused_fronts (Some told) stop f count now cause old new says =
      stop_fronts (IsTasksAnswer l turns cs) (FailsGetting (Some told) (l ∷ cs)) some told stop (stops_answer told stop f) count now cause old new says

  -- ---- turns that are taken

  abbrev EndsOver : List Linkage → ℕ → ℕ → Option (List ℕ) → Option (List ℕ) → ℕ → Type 0
  EndsOver ks before now old new status = EndsTurns (kernel_clients ks) turns (length ks) before now old new status

  taken_answer : (told : Files) (g : Group) → group_in l cs told ≡ Ok g → IsTasksAnswer l turns cs told (ending_by turns told (Ok g))
  taken_answer told g e = ap (ending_by turns told) (sym e)

  pub taken_ends : (files : Option Files) (ks : List Linkage) → LinksAllTold files l cs (Ok ks) → (before now : ℕ) (old new : Option (List ℕ)) (status : ℕ) → EndsOver ks before now old new status → status ≢ 8 → status ≢ 10
      → (new_files : Option Files) → new_files ≡ files → EndsAsTold (IsTasksAnswer l turns cs) files status new_files old new
  taken_ends None ks f before now old new status e not8 not10 new_files same = tt
  taken_ends (Some told) ks f before now old new status e not8 not10 new_files same = record {
    told = ending_by turns told (Ok f.0);
    is_answer = taken_answer told f.0 f.1;
    status_is = e.ended not8 not10;
    text_is = subst (λ (t : List ℕ). ShowsAll old new t) (text_same f.0.release f.0.programs ks turns f.2) (e.text not8 not10);
    files_are = same;
  }

  pub taken_fronts : (files : Option Files) (ks : List Linkage) → LinksAllTold files l cs (Ok ks) → (before now : ℕ) (old new : Option (List ℕ)) (status : ℕ) → EndsOver ks before now old new status → (count later : ℕ)
      → ShowsSome (IsTasksAnswer l turns cs) (FailsGetting files (l ∷ cs)) files count later old new
  taken_fronts None ks f before now old new status e count later = tt
  taken_fronts (Some told) ks f before now old new status e count later =
      inl (ending_by turns told (Ok f.0), taken_answer told f.0 f.1, subst (λ (t : List ℕ). ShowsFront old new t) (text_same f.0.release f.0.programs ks turns f.2) e.front)

-- ---- statuses

four : Mem 4 tasks_statuses
four = inr (inl refl)

five : Mem 5 tasks_statuses
five = inr (inr (inl refl))

seven : Mem 7 tasks_statuses
seven = inr (inr (inr (inl refl)))

image_in : (name : List ℕ) (r : Refusal) → IsImageRefusal name r → HasStatusIn tasks_statuses r
image_in name r (inl is) = subst (HasStatusIn tasks_statuses) (sym is) seven
image_in name r (inr (inl (fault, named, is))) = subst (HasStatusIn tasks_statuses) (sym is) five
image_in name r (inr (inr (b, is))) = subst (HasStatusIn tasks_statuses) (sym is) five

refusal_in : (l : List ℕ) (cs : List (List ℕ)) (r : Refusal) → IsTasksRefusal l cs r → HasStatusIn tasks_statuses r
refusal_in l cs r (inl is) = image_in l r is
refusal_in l cs r (inr (inl (c, m, is))) = image_in c r is
refusal_in l cs r (inr (inr (b, is))) = subst (HasStatusIn tasks_statuses) (sym is) four

pub stop_in : (l : List ℕ) (cs : List (List ℕ)) (stop : CommandStop) → StopRefusesAs (IsTasksRefusal l cs) stop → StopRefusesAs (HasStatusIn tasks_statuses) stop
stop_in l cs (stops.Refused r) is = refusal_in l cs r is
stop_in l cs (stops.StoreFailed line) is = tt
stop_in l cs stops.NoMemory is = tt

by_failures : (status : ℕ) → (status ≢ 8 → status ≢ 10 → status ≡ 0) → (a b : Bool) → (status == 8) ≡ a → (status == 10) ≡ b → Mem status main_statuses
by_failures status is true b e f = inr (inr (inr (inl (eqb-true status 8 e))))
by_failures status is false true e f = inr (inr (inr (inr (inl (eqb-true status 10 f)))))
by_failures status is false false e f = inl (is (differs status 8 e) (differs status 10 f))

-- turns end with one of the statuses of a main
pub turns_status : {clients : Clients} {turns : List ℕ} {count before now : ℕ} {old new : Option (List ℕ)} {status : ℕ} → EndsTurns clients turns count before now old new status → Mem status main_statuses
turns_status {clients} {turns} {count} {before} {now} {old} {new} {status} e = by_failures status e.ended (status == 8) (status == 10) refl refl

taken_by : (status : ℕ) → (status ≢ 8 → status ≢ 10 → status ≡ 0) → (a b : Bool) → (status == 8) ≡ a → (status == 10) ≡ b → Mem status tasks_statuses
taken_by status is true b e f = inr (inr (inr (inr (inr (inl (eqb-true status 8 e))))))
taken_by status is false true e f = inr (inr (inr (inr (inr (inr (inl (eqb-true status 10 f)))))))
taken_by status is false false e f = inl (is (differs status 8 e) (differs status 10 f))

pub taken_in : {clients : Clients} {turns : List ℕ} {count before now : ℕ} {old new : Option (List ℕ)} {status : ℕ} → EndsTurns clients turns count before now old new status → Mem status tasks_statuses
taken_in {clients} {turns} {count} {before} {now} {old} {new} {status} e = taken_by status e.ended (status == 8) (status == 10) refl refl
