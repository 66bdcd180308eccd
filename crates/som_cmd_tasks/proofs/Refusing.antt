-- What is refused, whatever the store tells.
use Rattle.std.proofs.Common.{◌≡◌, ℕ, List, [], ◌∷◌, Option, Some, None, Result, Ok, Err, refl, sym, subst, inl, inr}
use Rattle.som_model.specs.declared.program.ClientProgram.{ClientProgram}
use Rattle.som_model.specs.declared.program.Interface.{Interface}
use Rattle.som_model.specs.declared.program.Release.{Release}
use Rattle.som_model.specs.Class.{interface_of}
use Rattle.som_model.specs.Compatible.{CompatBreach, first_break}
use Rattle.som_model.specs.Conforming.{program_breach, release_breach}
use Rattle.som_model.specs.Lists.{Mem}
use Rattle.som_model.specs.Rules.{RuleBreach}
use Rattle.som_model.specs.Steps.{◌>>=◌}
use Rattle.som_image_fields.specs.declared.fault.ImageFault.TheVariants as faults
use Rattle.som_libimage.specs.Libraries.{library_at}
use Rattle.som_cliimage.specs.Programs.{client_at}
use Rattle.som_class_kernel.specs.Linked.{Linkage}
use Rattle.som_cmd_steps.specs.declared.stop.Refusal.{Refusal}
use Rattle.som_cmd_steps.specs.declared.stop.CommandStop.{CommandStop}
use Rattle.som_cmd_steps.specs.declared.stop.CommandStop.TheVariants as stops
use Rattle.som_cmd_steps.specs.Getting.{IsAbsentOf}
use Rattle.som_cmd_steps.specs.ImageSteps.{are_bytes, client_in, kept_or, library_in, program_in, program_rules_kept, release_in, rules_kept}
use Rattle.som_cmd_steps.specs.Lines.{absent}
use Rattle.som_cmd_steps.specs.Refusing.{RefusesAs}
use Rattle.som_cmd_steps.proofs.Statuses.{Only, stops_only, then_only}
use Rattle.som_cmd_link.specs.Refusals.{IsImageRefusal}
use Rattle.som_cmd_link.proofs.Refusals.{of_bytes, only_as, read_only}
use Rattle.som_cmd_tasks.specs.declared.group.Group.{Group}
use Rattle.som_cmd_tasks.specs.Groups.{each_kept, group_of, kept_or as base_kept, programs_in, programs_kept}
use Rattle.som_cmd_tasks.specs.Kernels.{LinksAll}
use Rattle.som_cmd_tasks.specs.Refusals.{IsTasksRefusal}
use Rattle.som_cmd_tasks.proofs.Reading.{fitted, group, looked, programmed, ruled}

-- ---- an image isn't there

pub library_absent : (l : List ℕ) (cs : List (List ℕ)) (stop : CommandStop) → RefusesAs {A = List ℕ} (λ r. r ≡ absent l) (Err stop) → RefusesAs {A = List Linkage} (IsTasksRefusal l cs) (Err stop)
library_absent l cs (stops.Refused r) is = inl (inl is)
library_absent l cs (stops.StoreFailed line) is = tt
library_absent l cs stops.NoMemory is = tt

pub clients_absent : (l : List ℕ) (cs : List (List ℕ)) (stop : CommandStop) → RefusesAs {A = List (List ℕ)} (IsAbsentOf cs) (Err stop) → RefusesAs {A = List Linkage} (IsTasksRefusal l cs) (Err stop)
clients_absent l cs (stops.Refused r) is = inr (inl (is.0, is.1, inl is.2))
clients_absent l cs (stops.StoreFailed line) is = tt
clients_absent l cs stops.NoMemory is = tt

-- ---- the images are refused

broken_only : (name : List ℕ) (o : Option RuleBreach) → Only (IsImageRefusal name) (kept_or name o)
broken_only name None = tt
broken_only name (Some b) = inr (inr (b, refl))

module _ (l : List ℕ) (cs : List (List ℕ)) where
  abbrev IsOne : Refusal → Type 0
  IsOne r = IsTasksRefusal l cs r

  of_library : (r : Refusal) → IsImageRefusal l r → IsOne r
  of_library r is = inl is

  of_client : (c : List ℕ) → Mem c cs → (r : Refusal) → IsImageRefusal c r → IsOne r
  of_client c m r is = inr (inl (c, m, is))

  programs_only : ((bytes : List ℕ) → client_at bytes ≡ Err faults.NoMemory → ⊥) → (ns bs : List (List ℕ)) → ((n : List ℕ) → Mem n ns → Mem n cs) → Only IsOne (programs_in ns bs)
  programs_only none [] bs among = tt
  programs_only none (n ∷ ns) [] among = tt
  programs_only none (n ∷ ns) (b ∷ bs) among =
      let more = programs_only none ns bs (λ m is. among m (inr is)) in
      then_only IsOne (program_in n b) (λ (p : ClientProgram). programs_in ns bs >>= λ ps. Ok (p ∷ ps))
      (only_as (IsImageRefusal n) IsOne (of_client n (among n (inl refl))) (program_in n b) (read_only n (client_in b) (of_bytes (client_at b) (none b) (are_bytes b))))
      (λ p. then_only IsOne (programs_in ns bs) (λ (ps : List ClientProgram). Ok (p ∷ ps)) more (λ ps. tt))

  each_only : (ns : List (List ℕ)) (ps : List ClientProgram) → ((n : List ℕ) → Mem n ns → Mem n cs) → Only IsOne (programs_kept ns ps)
  each_only [] ps among = tt
  each_only (n ∷ ns) [] among = tt
  each_only (n ∷ ns) (p ∷ ps) among =
      let more = each_only ns ps (λ m is. among m (inr is)) in
      then_only IsOne (program_rules_kept n p) (λ (u : Unit {0}). programs_kept ns ps)
      (only_as (IsImageRefusal n) IsOne (of_client n (among n (inl refl))) (program_rules_kept n p) (broken_only n (program_breach p))) (λ u. more)

  base_only : (o : Option CompatBreach) → Only IsOne (base_kept l o)
  base_only None = tt
  base_only (Some b) = inr (inr (b, refl))

  bases_only : (shown : Interface) (ps : List ClientProgram) → Only IsOne (each_kept l shown ps)
  bases_only shown [] = tt
  bases_only shown (p ∷ ps) =
      let more = bases_only shown ps in
      then_only IsOne (base_kept l (first_break p.base shown)) (λ (u : Unit {0}). each_kept l shown ps) (base_only (first_break p.base shown)) (λ u. more)

  group_only : ((bytes : List ℕ) → library_at bytes ≡ Err faults.NoMemory → ⊥) → ((bytes : List ℕ) → client_at bytes ≡ Err faults.NoMemory → ⊥) → (lb : List ℕ) (cbs : List (List ℕ)) → Only IsOne (group_of l cs lb cbs)
  group_only none none_of lb cbs =
      then_only IsOne (release_in l lb) (programmed l cs cbs)
      (only_as (IsImageRefusal l) IsOne of_library (release_in l lb) (read_only l (library_in lb) (of_bytes (library_at lb) (none lb) (are_bytes lb))))
      (λ r. then_only IsOne (programs_in cs cbs) (looked l cs r) (programs_only none_of cs cbs (λ n m. m))
      (λ ps. then_only IsOne (rules_kept l r) (λ (u : Unit {0}). ruled l cs r ps) (only_as (IsImageRefusal l) IsOne of_library (rules_kept l r) (broken_only l (release_breach r)))
      (λ u. then_only IsOne (programs_kept cs ps) (λ (v : Unit {0}). fitted l r ps) (each_only cs ps (λ n m. m))
      (λ v. then_only IsOne (each_kept l (interface_of r) ps) (λ (w : Unit {0}). Ok (group r ps)) (bases_only (interface_of r) ps) (λ w. tt)))))

-- so linking refuses for nothing else
pub linking_refuses : ((bytes : List ℕ) → library_at bytes ≡ Err faults.NoMemory → ⊥) → ((bytes : List ℕ) → client_at bytes ≡ Err faults.NoMemory → ⊥)
    → (l : List ℕ) (cs : List (List ℕ)) (lb : List ℕ) (cbs : List (List ℕ)) (result : Result (List Linkage) CommandStop) → LinksAll (group_of l cs lb cbs) result → RefusesAs (IsTasksRefusal l cs) result
linking_refuses none none_of l cs lb cbs (Ok ks) links = tt
linking_refuses none none_of l cs lb cbs (Err stop) links = stops_only (IsTasksRefusal l cs) (group_of l cs lb cbs) (group_only l cs none none_of lb cbs) stop links
