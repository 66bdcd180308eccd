-- A tower that is laid out, or what is in the way of it.
use Rattle.std.proofs.Common.{◌≡◌, ◌+◌, ◌<◌, ◌++◌, ℕ, zero, suc, List, [], ◌∷◌, length, Option, Some, None, Result, Ok, Err, refl, sym, ap, subst, ◌∙◌, inl, inr, arith}
use Rattle.som_model.specs.Bytes.{Files}
use Rattle.som_model.specs.Kernel.{kernel}
use Rattle.som_model.specs.Lists.{Mem}
use Rattle.som_model.specs.Steps.{◌>>=◌}
use Rattle.som_level_programs.specs.ByLevels.{main_by_level}
use Rattle.som_class_kernel.specs.Linked.{Linkage}
use Rattle.som_order.specs.Names.{name_at}
use Rattle.som_compat_levels.specs.declared.breach.LevelFault.{LevelFault}
use Rattle.som_compat_levels.specs.declared.breach.LevelFault.TheVariants as faults
use Rattle.som_tower.specs.Towers.{IsTowerOf, TellsTower, tower_classes}
use Rattle.som_cmd_steps.specs.declared.stop.Refusal.{Refusal}
use Rattle.som_cmd_steps.specs.declared.stop.CommandStop.{CommandStop}
use Rattle.som_cmd_steps.specs.Fetching.{file_of}
use Rattle.som_cmd_steps.specs.Getting.{images_in}
use Rattle.som_cmd_steps.specs.Refusing.{StopRefusesAs}
use Rattle.som_cmd_steps.specs.Steps.{Follows, FollowsTold, Stops}
use Rattle.som_cmd_steps.proofs.ImageLaws.{stops_first}
use Rattle.som_cmd_steps.proofs.Statuses.{stops_only}
use Rattle.som_cmd_levels.specs.Comparing.{level_kept_or}
use Rattle.som_cmd_levels.specs.Refusals.{IsKeptRefusal}
use Rattle.som_cmd_tower_run.specs.declared.tower.Tower.{Tower}
use Rattle.som_cmd_tower_run.specs.Faults.{StopsFor}
use Rattle.som_cmd_tower_run.specs.Kernels.{Lays, LaysTold}
use Rattle.som_cmd_tower_run.specs.Steps.{first_broken, kept_tower, laid_of, tower_in, tower_of}
use Rattle.som_cmd_tower_run.proofs.Breaking.{BreachesAtLevels, Found, found_low}

abbrev Read : Type 0
Read = Result Tower Refusal

-- ---- what a level doesn't keep

stops_so : (below : List (List ℕ)) (o : Option Found) (found : Found) (stop : CommandStop) → o ≡ Some found → Stops stop (level_kept_or below (Some found)) → Stops stop (level_kept_or below o)
stops_so below o found stop e is = subst (λ (x : Option Found). Stops stop (level_kept_or below x)) (sym e) is

pub not_laid : (A : Type 0) (below : List (List ℕ)) (t : Tower) (fault : LevelFault) (stop : CommandStop) → TellsTower {A = A} (first_broken t) (Err fault) → StopsFor below fault stop → Lays (kept_tower below t) (Err stop)
not_laid A below t (faults.Breach b) stop tells is = stops_first stop (level_kept_or below (first_broken t)) (λ (u : Unit {0}). Ok t) (stops_so below (first_broken t) tells.0 stop tells.1 (is tells.0 tells.2))
not_laid A below t faults.NoMemory stop tells is = subst (λ (s : CommandStop). Lays (kept_tower below t) (Err s)) (sym is) tt

name_in : (names : List (List ℕ)) (i : ℕ) → i < length names → Mem (name_at names i) names
name_in [] i lt = absurd (omega (arith, lt))
name_in (n ∷ ns) zero lt = inl refl
name_in (n ∷ ns) (suc i) lt = inr (name_in ns i (omega (arith, lt)))

pub fault_refused : BreachesAtLevels → (A : Type 0) (below : List (List ℕ)) (t : Tower) (fault : LevelFault) (stop : CommandStop) → IsTowerOf t.levels.base t.levels.uppers t.client → length t.levels.uppers + 1 ≡ length below
    → TellsTower {A = A} (first_broken t) (Err fault) → StopsFor below fault stop → StopRefusesAs (IsKeptRefusal below) stop
fault_refused law A below t (faults.Breach b) stop is many tells stopped =
    let found : Found = tells.0 in
    stops_only (IsKeptRefusal below) (level_kept_or below (Some found)) (name_at below found.0, name_in below found.0 (found_low below t is many law found tells.1), found.1, refl) stop (stopped found tells.2)
fault_refused law A below t faults.NoMemory stop is many tells stopped = subst (λ (s : CommandStop). StopRefusesAs (IsKeptRefusal below) s) (sym stopped) tt

-- ---- a tower that is laid out

pub laid : (below : List (List ℕ)) (t : Tower) (k : Linkage) → first_broken t ≡ None → k.classes.classes ≡ kernel ++ tower_classes t.levels.base t.levels.uppers t.client → k.main ≡ main_by_level t.client.sizes t.client.client t.client.program
    → Lays (kept_tower below t) (Ok k)
laid below t k none classes main = (t, ap (λ (o : Option Found). level_kept_or below o >>= λ kept. Ok t) none, record { classes = classes; main = main })

-- ---- of bytes

pub not_checked : (c : List ℕ) (below : List (List ℕ)) (cb : List ℕ) (bs : List (List ℕ)) (stop : CommandStop) → Follows {A = Tower} (Err stop) (tower_of c below cb bs) → Lays (laid_of c below cb bs) (Err stop)
not_checked c below cb bs stop f = stops_first stop (tower_of c below cb bs) (kept_tower below) f

pub then_laid : (c : List ℕ) (below : List (List ℕ)) (cb : List ℕ) (bs : List (List ℕ)) (t : Tower) (result : Result Linkage CommandStop) → Follows (Ok t) (tower_of c below cb bs) → Lays (kept_tower below t) result
    → Lays (laid_of c below cb bs) result
then_laid c below cb bs t result f lays = subst (λ (steps : Read). Lays steps result) (ap (λ (x : Read). x >>= kept_tower below) (sym f)) lays

-- ---- of what a store has

abbrev after_client : List ℕ → List (List ℕ) → Files → List ℕ → Read
after_client c below told cb = images_in below told >>= tower_of c below cb

module _ (told : Files) (c : List ℕ) (below : List (List ℕ)) (cb : List ℕ) where
  with_client : file_of c told ≡ Ok cb → after_client c below told cb ≡ tower_in c below told
  with_client f = ap (λ (x : Result (List ℕ) Refusal). x >>= after_client c below told) (sym f)

  pub with_images : (bs : List (List ℕ)) → file_of c told ≡ Ok cb → images_in below told ≡ Ok bs → tower_of c below cb bs ≡ tower_in c below told
  with_images bs f g = ap (λ (x : Result (List (List ℕ)) Refusal). x >>= tower_of c below cb) (sym g) ∙ with_client f

-- the client isn't there
pub client_missing : (files : Option Files) (c : List ℕ) (below : List (List ℕ)) (stop : CommandStop) → FollowsTold {A = List ℕ} files (Err stop) (file_of c) → LaysTold files c below (Err stop)
client_missing None c below stop f = tt
client_missing (Some told) c below stop f = stops_first stop (tower_in c below told) (kept_tower below) (stops_first stop (file_of c told) (after_client c below told) f)

-- a level isn't
pub level_missing : (files now : Option Files) (c : List ℕ) (below : List (List ℕ)) (cb : List ℕ) (stop : CommandStop) → now ≡ files → FollowsTold files (Ok cb) (file_of c) → FollowsTold {A = List (List ℕ)} now (Err stop) (images_in below)
    → LaysTold files c below (Err stop)
level_missing None now c below cb stop same f g = tt
level_missing (Some told) now c below cb stop same f g =
    stops_first stop (tower_in c below told) (kept_tower below)
    (subst (Stops stop) (with_client told c below cb f) (stops_first stop (images_in below told) (tower_of c below cb) (subst (λ (x : Option Files). FollowsTold {A = List (List ℕ)} x (Err stop) (images_in below)) same g)))

-- all are
pub all_laid : (files now : Option Files) (c : List ℕ) (below : List (List ℕ)) (cb : List ℕ) (bs : List (List ℕ)) (result : Result Linkage CommandStop) → now ≡ files → FollowsTold files (Ok cb) (file_of c)
    → FollowsTold now (Ok bs) (images_in below) → Lays (laid_of c below cb bs) result → LaysTold files c below result
all_laid None now c below cb bs result same f g lays = tt
all_laid (Some told) now c below cb bs result same f g lays =
    subst (λ (steps : Read). Lays steps result)
    (ap (λ (x : Read). x >>= kept_tower below) (with_images told c below cb bs f (subst (λ (x : Option Files). FollowsTold x (Ok bs) (images_in below)) same g))) lays
