-- A pair that is linked, or what is in the way of it.
use Rattle.std.proofs.Common.{◌≡◌, ℕ, List, Option, Some, None, Result, Ok, Err, true, false, sym, ap, subst, ◌∙◌}
use Rattle.som_model.specs.Bytes.{Files}
use Rattle.som_model.specs.Classes.{classes as all_classes}
use Rattle.som_model.specs.Compatible.{CompatBreach}
use Rattle.som_model.specs.Steps.{◌>>=◌}
use Rattle.som_verify_classes.specs.Told.{told}
use Rattle.som_class_kernel.specs.Linked.{Linkage}
use Rattle.som_link_check.specs.declared.fault.LinkFault.{LinkFault}
use Rattle.som_link_check.specs.declared.fault.LinkFault.TheVariants as faults
use Rattle.som_link_check.specs.Pairs.{Obstacle, obstacle}
use Rattle.som_link_check.specs.Told.{Tells, TellsKept}
use Rattle.som_cmd_steps.specs.declared.stop.Refusal.{Refusal}
use Rattle.som_cmd_steps.specs.declared.stop.CommandStop.{CommandStop}
use Rattle.som_cmd_steps.specs.Cause.{IsQuietStop}
use Rattle.som_cmd_steps.specs.Lines.{broken, incompatible, not_kept, or_dash}
use Rattle.som_cmd_steps.specs.Refusing.{RefusesAs}
use Rattle.som_cmd_steps.specs.Steps.{Stops, FollowsTold}
use Rattle.som_cmd_steps.proofs.ImageLaws.{stops_first}
use Rattle.som_cmd_steps.proofs.Statuses.{stops_only}
use Rattle.som_cmd_steps.specs.declared.stop.CommandStop.TheVariants as stops
use Rattle.som_cmd_link.specs.declared.pair.Pair.{Pair}
use Rattle.som_cmd_link.specs.Faults.{Refuses, fault_told}
use Rattle.som_cmd_link.specs.Kernels.{Links, LinksTold}
use Rattle.som_cmd_link.specs.Pairs.{clear_or, kept_pair, pair_in}
use Rattle.som_cmd_link.specs.Refusals.{IsRunRefusal}
use Rattle.som_cmd_link.proofs.Refusals.{kept_only}

-- ---- what is in the way

abbrev Clear : Type 0
Clear = Result (Unit {0}) Refusal

some_is : (q r : Refusal) → Some q ≡ Some r → q ≡ r
some_is q r e = cc

kept_so : (l : List ℕ) (rule : ℕ) (class name : List ℕ) (place : ℕ) (b : CompatBreach) → TellsKept rule class name place b → incompatible l rule class name place ≡ not_kept l b
kept_so l rule class name place b t =
    ap (λ (n : ℕ). incompatible l n class name place) t.rule_is
    ∙ ap (λ (x : List ℕ). incompatible l b.rule x name place) t.class_is
    ∙ ap (λ (x : List ℕ). incompatible l b.rule b.class x place) t.name_is
    ∙ ap (λ (n : ℕ). incompatible l b.rule b.class (or_dash b.name) n) t.place_is

refused_as : (c l : List ℕ) (A : Type 0) (o : Option Obstacle) (fault : LinkFault) (r : Refusal) → Tells {A = A} o (Err fault) → fault_told c l fault ≡ Some r → clear_or c l o ≡ Err r
refused_as c l A o (faults.NotConforming true rule) r tells is =
    ap (clear_or c l) tells ∙ ap (λ (x : Refusal). Err x) (some_is (broken c (told rule)) r is)
refused_as c l A o (faults.NotConforming false rule) r tells is =
    ap (clear_or c l) tells ∙ ap (λ (x : Refusal). Err x) (some_is (broken l (told rule)) r is)
refused_as c l A o (faults.Incompatible rule class name place) r tells is =
    ap (clear_or c l) tells.1 ∙ ap (λ (x : Refusal). Err x) (sym (kept_so l rule class name place tells.0 tells.2) ∙ some_is (incompatible l rule class name place) r is)
refused_as c l A o faults.NoMemory r tells is = absurd cc

stopped_as : (c l : List ℕ) (A : Type 0) (o : Option Obstacle) (fault : LinkFault) (stop : CommandStop) → Tells {A = A} o (Err fault) → Refuses (fault_told c l fault) stop → Stops stop (clear_or c l o)
stopped_as c l A o fault (stops.Refused r) tells is = refused_as c l A o fault r tells is
stopped_as c l A o fault (stops.StoreFailed line) tells is = absurd is
stopped_as c l A o fault stops.NoMemory tells is = tt

pub not_linked : (c l : List ℕ) (A : Type 0) (pair : Pair) (fault : LinkFault) (stop : CommandStop) → Tells {A = A} (obstacle pair.release pair.program) (Err fault) → Refuses (fault_told c l fault) stop → Links (kept_pair c l pair) (Err stop)
not_linked c l A pair fault stop tells is =
    stops_first stop (clear_or c l (obstacle pair.release pair.program)) (λ clear. Ok pair) (stopped_as c l A (obstacle pair.release pair.program) fault stop tells is)

pub quietly : (told : Option Refusal) (stop : CommandStop) → Refuses told stop → IsQuietStop stop
quietly told (stops.Refused r) is = tt
quietly told (stops.StoreFailed line) is = absurd is
quietly told stops.NoMemory is = tt

-- ---- nothing is

pub linked : (c l : List ℕ) (pair : Pair) (k : Linkage) → obstacle pair.release pair.program ≡ None → k.classes.classes ≡ all_classes pair.release pair.program → k.main ≡ pair.program.main → Links (kept_pair c l pair) (Ok k)
linked c l pair k none classes main = (pair, ap (λ (o : Option Obstacle). clear_or c l o >>= λ clear. Ok pair) none, record { classes = classes; main = main })

-- ---- after both were got and read

-- they weren't
pub not_read : (files : Option Files) (c l : List ℕ) (stop : CommandStop) → FollowsTold {A = Pair} files (Err stop) (pair_in c l) → LinksTold files c l (Err stop)
not_read None c l stop f = tt
not_read (Some told) c l stop f = stops_first stop (pair_in c l told) (kept_pair c l) f

-- they were
pub then_linked : (files : Option Files) (c l : List ℕ) (pair : Pair) (result : Result Linkage CommandStop) → FollowsTold files (Ok pair) (pair_in c l) → Links (kept_pair c l pair) result → LinksTold files c l result
then_linked None c l pair result f g = tt
then_linked (Some told) c l pair result f g = subst (λ (steps : Result Pair Refusal). Links steps result) (ap (λ (x : Result Pair Refusal). x >>= kept_pair c l) (sym f)) g

-- and nothing else is refused
pub linking_refuses : (c l : List ℕ) (pair : Pair) (result : Result Linkage CommandStop) → Links (kept_pair c l pair) result → RefusesAs (IsRunRefusal c l) result
linking_refuses c l pair (Ok k) f = tt
linking_refuses c l pair (Err stop) f = stops_only (IsRunRefusal c l) (kept_pair c l pair) (kept_only c l pair) stop f
