-- What is refused, whatever the store tells.
use Rattle.std.proofs.Common.{◌≡◌, ℕ, Bool, List, Option, Some, None, Result, Ok, Err, true, false, refl, sym, subst, inl, inr}
use Rattle.som_model.specs.declared.program.ClientProgram.{ClientProgram}
use Rattle.som_model.specs.declared.program.Release.{Release}
use Rattle.som_image_fields.specs.declared.fault.ImageFault.{ImageFault}
use Rattle.som_image_fields.specs.declared.fault.ImageFault.TheVariants as faults
use Rattle.som_libimage.specs.Libraries.{library_at}
use Rattle.som_cliimage.specs.Programs.{client_at}
use Rattle.som_link_check.specs.Pairs.{Obstacle, Breaks, DoesntKeep, obstacle}
use Rattle.som_cmd_steps.specs.declared.stop.Refusal.{Refusal}
use Rattle.som_cmd_steps.specs.declared.stop.CommandStop.{CommandStop}
use Rattle.som_cmd_steps.specs.ImageSteps.{are_bytes, client_in, library_in, program_in, read_if, read_or, release_in}
use Rattle.som_cmd_steps.specs.Lines.{absent}
use Rattle.som_cmd_steps.specs.Refusing.{RefusesAs, StopRefusesAs}
use Rattle.som_cmd_steps.specs.Steps.{Follows}
use Rattle.som_cmd_steps.proofs.Statuses.{Only, stops_only, then_only}
use Rattle.som_cmd_steps.specs.declared.stop.CommandStop.TheVariants as stops
use Rattle.som_cmd_link.specs.declared.pair.Pair.{Pair}
use Rattle.som_cmd_link.specs.Pairs.{clear_or, kept_pair}
use Rattle.som_cmd_link.specs.Refusals.{IsImageRefusal, IsRunRefusal}

-- ---- an image isn't there

absent_by : (IsOne : Refusal → Type 0) (name : List ℕ) → IsOne (absent name) → (stop : CommandStop) → StopRefusesAs (λ r. r ≡ absent name) stop → StopRefusesAs IsOne stop
absent_by IsOne name one (stops.Refused r) is = subst IsOne (sym is) one
absent_by IsOne name one (stops.StoreFailed line) is = tt
absent_by IsOne name one stops.NoMemory is = tt

pub client_absent : (c l : List ℕ) (stop : CommandStop) → RefusesAs {A = List ℕ} (λ r. r ≡ absent c) (Err stop) → RefusesAs {A = Pair} (IsRunRefusal c l) (Err stop)
client_absent c l stop is = absent_by (IsRunRefusal c l) c (inl (inl refl)) stop is

pub library_absent : (c l : List ℕ) (stop : CommandStop) → RefusesAs {A = List ℕ} (λ r. r ≡ absent l) (Err stop) → RefusesAs {A = Pair} (IsRunRefusal c l) (Err stop)
library_absent c l stop is = absent_by (IsRunRefusal c l) l (inr (inl (inl refl))) stop is

-- ---- it can't be read

-- numbers that aren't bytes are no image for a fault of theirs, and what is read of bytes has one of its own
pub of_bytes : {A : Type 0} (read : Result A ImageFault) → (read ≡ Err faults.NoMemory → ⊥) → (all : Bool) → read_if all read ≡ Err faults.NoMemory → ⊥
of_bytes read none true e = none e
of_bytes read none false e = cc

pub read_only : {A : Type 0} (name : List ℕ) (read : Result A ImageFault) → (read ≡ Err faults.NoMemory → ⊥) → Only (IsImageRefusal name) (read_or name read)
read_only name (Ok x) none = tt
read_only name (Err fault) none = inr (inl (fault, λ e. none cc, refl))

of_client : (c l : List ℕ) (r : Refusal) → IsImageRefusal c r → IsRunRefusal c l r
of_client c l r is = inl is

of_library : (c l : List ℕ) (r : Refusal) → IsImageRefusal l r → IsRunRefusal c l r
of_library c l r is = inr (inl is)

pub only_as : {A : Type 0} (IsOne IsOther : Refusal → Type 0) → ((r : Refusal) → IsOne r → IsOther r) → (steps : Result A Refusal) → Only IsOne steps → Only IsOther steps
only_as IsOne IsOther into (Ok x) one = tt
only_as IsOne IsOther into (Err r) one = into r one

pub client_refused : ((bytes : List ℕ) → client_at bytes ≡ Err faults.NoMemory → ⊥) → (c l cb : List ℕ) (stop : CommandStop) → Follows {A = ClientProgram} (Err stop) (program_in c cb) → RefusesAs {A = Pair} (IsRunRefusal c l) (Err stop)
client_refused none c l cb stop f =
    stops_only (IsRunRefusal c l) (program_in c cb) (only_as (IsImageRefusal c) (IsRunRefusal c l) (of_client c l) (program_in c cb) (read_only c (client_in cb) (of_bytes (client_at cb) (none cb) (are_bytes cb)))) stop f

pub library_refused : ((bytes : List ℕ) → library_at bytes ≡ Err faults.NoMemory → ⊥) → (c l lb : List ℕ) (stop : CommandStop) → Follows {A = Release} (Err stop) (release_in l lb) → RefusesAs {A = Pair} (IsRunRefusal c l) (Err stop)
library_refused none c l lb stop f =
    stops_only (IsRunRefusal c l) (release_in l lb) (only_as (IsImageRefusal l) (IsRunRefusal c l) (of_library c l) (release_in l lb) (read_only l (library_in lb) (of_bytes (library_at lb) (none lb) (are_bytes lb)))) stop f

-- ---- something is in the way of linking

clear_only : (c l : List ℕ) (o : Option Obstacle) → Only (IsRunRefusal c l) (clear_or c l o)
clear_only c l None = tt
clear_only c l (Some (Breaks true b)) = inl (inr (inr (b, refl)))
clear_only c l (Some (Breaks false b)) = inr (inl (inr (inr (b, refl))))
clear_only c l (Some (DoesntKeep b)) = inr (inr (b, refl))

pub kept_only : (c l : List ℕ) (pair : Pair) → Only (IsRunRefusal c l) (kept_pair c l pair)
kept_only c l pair = then_only (IsRunRefusal c l) (clear_or c l (obstacle pair.release pair.program)) (λ clear. Ok pair) (clear_only c l (obstacle pair.release pair.program)) (λ clear. tt)
