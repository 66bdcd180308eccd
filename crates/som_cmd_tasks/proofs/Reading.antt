-- A library and clients that are read, looked at and compared, step by step.
use Rattle.std.proofs.Common.{◌≡◌, ℕ, ◌<◌, List, length, Result, Ok, Err, sym, ap, subst, ◌∙◌, get_or, arith}
use Rattle.std.specs.Prelude.{All}
use Rattle.som_model.specs.declared.program.ClientProgram.{ClientProgram}
use Rattle.som_model.specs.declared.program.Release.{Release}
use Rattle.som_model.specs.Class.{interface_of}
use Rattle.som_model.specs.Conforming.{ProgramOk, ReleaseOk}
use Rattle.som_model.specs.Steps.{◌>>=◌}
use Rattle.som_cliimage.specs.Limits as clients_within
use Rattle.som_libimage.specs.Limits as libraries_within
use Rattle.som_link_check.proofs.Pairs.{passes}
use Rattle.som_link_limits.proofs.Classes.{program_counts, release_counts}
use Rattle.som_cmd_steps.specs.declared.stop.Refusal.{Refusal}
use Rattle.som_cmd_steps.specs.declared.stop.CommandStop.{CommandStop}
use Rattle.som_cmd_steps.specs.ImageSteps.{program_rules_kept, release_in, rules_kept}
use Rattle.som_cmd_steps.specs.Steps.{Follows, Stops}
use Rattle.som_cmd_steps.proofs.ImageLaws.{stops_first}
use Rattle.som_cmd_steps.proofs.InTurn.{HavePassed, passed_stops}
use Rattle.som_cmd_tasks.specs.declared.group.Group.{Group}
use Rattle.som_cmd_tasks.specs.Groups.{AllKept, AllLoad, each_kept, group_of, programs_in, programs_kept}

abbrev pub group : Release → List ClientProgram → Group
group r ps = record { release = r; programs = ps }

abbrev Read : Type 0
Read = Result Group Refusal

abbrev Passed : Type 0
Passed = Result (Unit {0}) Refusal

-- what is left after some steps
abbrev pub fitted : List ℕ → Release → List ClientProgram → Read
fitted l r ps = each_kept l (interface_of r) ps >>= λ fit. Ok (group r ps)

abbrev pub ruled : List ℕ → List (List ℕ) → Release → List ClientProgram → Read
ruled l cs r ps = programs_kept cs ps >>= λ each. fitted l r ps

abbrev pub looked : List ℕ → List (List ℕ) → Release → List ClientProgram → Read
looked l cs r ps = rules_kept l r >>= λ kept. ruled l cs r ps

abbrev pub programmed : List ℕ → List (List ℕ) → List (List ℕ) → Release → Read
programmed l cs cbs r = programs_in cs cbs >>= looked l cs r

module _ (l : List ℕ) (cs : List (List ℕ)) (lb : List ℕ) (cbs : List (List ℕ)) where
  pub with_release : (r : Release) → release_in l lb ≡ Ok r → programmed l cs cbs r ≡ group_of l cs lb cbs
  with_release r f = ap (λ (x : Result Release Refusal). x >>= programmed l cs cbs) (sym f)

  pub with_programs : (r : Release) (ps : List ClientProgram) → release_in l lb ≡ Ok r → programs_in cs cbs ≡ Ok ps → looked l cs r ps ≡ group_of l cs lb cbs
  with_programs r ps f g = ap (λ (x : Result (List ClientProgram) Refusal). x >>= looked l cs r) (sym g) ∙ with_release r f

  pub with_rules : (r : Release) (ps : List ClientProgram) (u : Unit {0}) → release_in l lb ≡ Ok r → programs_in cs cbs ≡ Ok ps → rules_kept l r ≡ Ok u → ruled l cs r ps ≡ group_of l cs lb cbs
  with_rules r ps u f g h = ap (λ (x : Passed). x >>= λ kept. ruled l cs r ps) (sym h) ∙ with_programs r ps f g

  pub with_each : (r : Release) (ps : List ClientProgram) (u v : Unit {0}) → release_in l lb ≡ Ok r → programs_in cs cbs ≡ Ok ps → rules_kept l r ≡ Ok u → programs_kept cs ps ≡ Ok v → fitted l r ps ≡ group_of l cs lb cbs
  with_each r ps u v f g h i = ap (λ (x : Passed). x >>= λ each. fitted l r ps) (sym i) ∙ with_rules r ps u f g h

-- the library can't be read
pub library_unread : (l : List ℕ) (cs : List (List ℕ)) (lb : List ℕ) (cbs : List (List ℕ)) (stop : CommandStop) → Follows {A = Release} (Err stop) (release_in l lb) → Follows {A = Group} (Err stop) (group_of l cs lb cbs)
library_unread l cs lb cbs stop f = stops_first stop (release_in l lb) (programmed l cs cbs) f

-- a client can't
pub client_unread : (l : List ℕ) (cs : List (List ℕ)) (lb : List ℕ) (cbs : List (List ℕ)) (r : Release) (stop : CommandStop) → Follows (Ok r) (release_in l lb) → Follows {A = List ClientProgram} (Err stop) (programs_in cs cbs)
    → Follows {A = Group} (Err stop) (group_of l cs lb cbs)
client_unread l cs lb cbs r stop f g = subst (Stops stop) (with_release l cs lb cbs r f) (stops_first stop (programs_in cs cbs) (looked l cs r) g)

-- the library breaks a rule
pub library_broken : (l : List ℕ) (cs : List (List ℕ)) (lb : List ℕ) (cbs : List (List ℕ)) (r : Release) (ps : List ClientProgram) (stop : CommandStop) → Follows (Ok r) (release_in l lb) → Follows (Ok ps) (programs_in cs cbs)
    → Follows {A = Unit {0}} (Err stop) (rules_kept l r) → Follows {A = Group} (Err stop) (group_of l cs lb cbs)
library_broken l cs lb cbs r ps stop f g h = subst (Stops stop) (with_programs l cs lb cbs r ps f g) (stops_first stop (rules_kept l r) (λ kept. ruled l cs r ps) h)

-- a client does
pub client_broken : (l : List ℕ) (cs : List (List ℕ)) (lb : List ℕ) (cbs : List (List ℕ)) (r : Release) (ps : List ClientProgram) (u : Unit {0}) (stop : CommandStop) → Follows (Ok r) (release_in l lb) → Follows (Ok ps) (programs_in cs cbs)
    → Follows (Ok u) (rules_kept l r) → Follows {A = Unit {0}} (Err stop) (programs_kept cs ps) → Follows {A = Group} (Err stop) (group_of l cs lb cbs)
client_broken l cs lb cbs r ps u stop f g h i = subst (Stops stop) (with_rules l cs lb cbs r ps u f g h) (stops_first stop (programs_kept cs ps) (λ each. fitted l r ps) i)

-- the library doesn't keep something
pub not_fitted : (l : List ℕ) (cs : List (List ℕ)) (lb : List ℕ) (cbs : List (List ℕ)) (r : Release) (ps : List ClientProgram) (u v : Unit {0}) (stop : CommandStop) → Follows (Ok r) (release_in l lb) → Follows (Ok ps) (programs_in cs cbs)
    → Follows (Ok u) (rules_kept l r) → Follows (Ok v) (programs_kept cs ps) → Follows {A = Unit {0}} (Err stop) (each_kept l (interface_of r) ps) → Follows {A = Group} (Err stop) (group_of l cs lb cbs)
not_fitted l cs lb cbs r ps u v stop f g h i j = subst (Stops stop) (with_each l cs lb cbs r ps u v f g h i) (stops_first stop (each_kept l (interface_of r) ps) (λ fit. Ok (group r ps)) j)

-- nothing is in the way
pub all_fitted : (l : List ℕ) (cs : List (List ℕ)) (lb : List ℕ) (cbs : List (List ℕ)) (r : Release) (ps : List ClientProgram) (u v w : Unit {0}) → Follows (Ok r) (release_in l lb) → Follows (Ok ps) (programs_in cs cbs)
    → Follows (Ok u) (rules_kept l r) → Follows (Ok v) (programs_kept cs ps) → Follows (Ok w) (each_kept l (interface_of r) ps) → Follows (Ok (group r ps)) (group_of l cs lb cbs)
all_fitted l cs lb cbs r ps u v w f g h i j = sym (with_each l cs lb cbs r ps u v f g h i) ∙ ap (λ (x : Passed). x >>= λ fit. Ok (group r ps)) j

-- so each client can be loaded with the library
pub all_load : (r : Release) (ps : List ClientProgram) → libraries_within.IsWithinLimits r → All (λ (p : ClientProgram). clients_within.IsWithinLimits p) ps → ReleaseOk r → All (λ (p : ClientProgram). ProgramOk p) ps → AllKept (interface_of r) ps
    → AllLoad r ps
all_load r ps within each ok conform kept k d lt =
    (passes r (get_or ps k d) (release_counts r within) (program_counts (get_or ps k d) (each k d lt)) ok (conform k d lt) (kept k d lt)).1

-- a client program breaks a rule
pub programs_stop : (names : List (List ℕ)) (ps : List ClientProgram) (i : ℕ) (name : List ℕ) (p : ClientProgram) (stop : CommandStop) → length ps ≡ length names → i < length names → name ≡ get_or names i name → p ≡ get_or ps i p
    → HavePassed program_rules_kept names ps i → Follows {A = Unit {0}} (Err stop) (program_rules_kept name p) → Follows {A = Unit {0}} (Err stop) (programs_kept names ps)
programs_stop names ps i name p stop long lt name_is program_is so f = passed_stops program_rules_kept names ps i name p lt name_is (omega (arith, long, lt)) program_is stop so f
