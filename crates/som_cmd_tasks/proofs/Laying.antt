-- Clients that are linked with a library, or what is in the way of it.
use Rattle.std.proofs.Common.{◌≡◌, ℕ, ◌+◌, ◌<◌, ◌≤◌, List, [], ◌∷◌, ◌++◌, length, take, get_or, Option, Some, None, Result, Ok, Err, sym, ap, subst, ◌∙◌}
use Rattle.std.proofs.lemmas.List.{take_all, take_more}
use Rattle.som_model.specs.declared.program.ClientProgram.{ClientProgram}
use Rattle.som_model.specs.declared.program.Release.{Release}
use Rattle.som_model.specs.Bytes.{Files}
use Rattle.som_model.specs.Steps.{◌>>=◌}
use Rattle.som_class_kernel.specs.Linked.{Linkage}
use Rattle.som_cmd_steps.specs.declared.stop.Refusal.{Refusal}
use Rattle.som_cmd_steps.specs.declared.stop.CommandStop.{CommandStop}
use Rattle.som_cmd_steps.specs.Fetching.{file_of}
use Rattle.som_cmd_steps.specs.Getting.{images_in}
use Rattle.som_cmd_steps.specs.Steps.{Follows, FollowsTold, Stops}
use Rattle.som_cmd_steps.proofs.ImageLaws.{stops_first}
use Rattle.som_cmd_link.specs.Kernels.{IsKernelOf}
use Rattle.som_cmd_tasks.specs.declared.group.Group.{Group}
use Rattle.som_cmd_tasks.specs.Groups.{group_in, group_of}
use Rattle.som_cmd_tasks.specs.Kernels.{AreKernelsOf, LinksAll, LinksAllTold}

-- ---- one kernel after the other

kernels_more : (r : Release) (ps : List ClientProgram) (ks : List Linkage) (p : ClientProgram) (k : Linkage) → AreKernelsOf r ps ks → IsKernelOf (record { program = p; release = r }) k → AreKernelsOf r (ps ++ p ∷ []) (ks ++ k ∷ [])
kernels_more r [] [] p k are one = (one, tt)
kernels_more r [] (x ∷ ks) p k are one = absurd are
kernels_more r (q ∷ ps) [] p k are one = absurd are
kernels_more r (q ∷ ps) (x ∷ ks) p k are one = (are.0, kernels_more r ps ks p k are.1 one)

pub one_kernel_more : (r : Release) (ps : List ClientProgram) (ks : List Linkage) (i : ℕ) (p : ClientProgram) (k : Linkage) → i < length ps → p ≡ get_or ps i p → AreKernelsOf r (take i ps) ks → IsKernelOf (record { program = p; release = r }) k
    → AreKernelsOf r (take (i + 1) ps) (ks ++ k ∷ [])
one_kernel_more r ps ks i p k lt is are one =
    subst (λ (qs : List ClientProgram). AreKernelsOf r qs (ks ++ k ∷ [])) (sym (take_more ps i p lt ∙ ap (λ (q : ClientProgram). take i ps ++ q ∷ []) (sym is))) (kernels_more r (take i ps) ks p k are one)

pub all_kernels : (r : Release) (ps : List ClientProgram) (ks : List Linkage) (i : ℕ) → length ps ≤ i → AreKernelsOf r (take i ps) ks → AreKernelsOf r ps ks
all_kernels r ps ks i over are = subst (λ (qs : List ClientProgram). AreKernelsOf r qs ks) (take_all i ps over) are

-- ---- of bytes

pub not_checked : (l : List ℕ) (cs : List (List ℕ)) (lb : List ℕ) (cbs : List (List ℕ)) (stop : CommandStop) → Follows {A = Group} (Err stop) (group_of l cs lb cbs) → LinksAll (group_of l cs lb cbs) (Err stop)
not_checked l cs lb cbs stop f = f

pub all_linked : (l : List ℕ) (cs : List (List ℕ)) (lb : List ℕ) (cbs : List (List ℕ)) (g : Group) (ks : List Linkage) → Follows (Ok g) (group_of l cs lb cbs) → AreKernelsOf g.release g.programs ks → LinksAll (group_of l cs lb cbs) (Ok ks)
all_linked l cs lb cbs g ks f are = (g, f, are)

-- ---- of what a store has

abbrev Read : Type 0
Read = Result Group Refusal

abbrev after_library : List ℕ → List (List ℕ) → Files → List ℕ → Read
after_library l cs told lb = images_in cs told >>= group_of l cs lb

module _ (told : Files) (l : List ℕ) (cs : List (List ℕ)) (lb : List ℕ) where
  with_library : file_of l told ≡ Ok lb → after_library l cs told lb ≡ group_in l cs told
  with_library f = ap (λ (x : Result (List ℕ) Refusal). x >>= after_library l cs told) (sym f)

  pub with_images : (cbs : List (List ℕ)) → file_of l told ≡ Ok lb → images_in cs told ≡ Ok cbs → group_of l cs lb cbs ≡ group_in l cs told
  with_images cbs f g = ap (λ (x : Result (List (List ℕ)) Refusal). x >>= group_of l cs lb) (sym g) ∙ with_library f

-- the library isn't there
pub library_missing : (files : Option Files) (l : List ℕ) (cs : List (List ℕ)) (stop : CommandStop) → FollowsTold {A = List ℕ} files (Err stop) (file_of l) → LinksAllTold files l cs (Err stop)
library_missing None l cs stop f = tt
library_missing (Some told) l cs stop f = stops_first stop (file_of l told) (after_library l cs told) f

-- a client isn't
pub clients_missing : (files now : Option Files) (l : List ℕ) (cs : List (List ℕ)) (lb : List ℕ) (stop : CommandStop) → now ≡ files → FollowsTold files (Ok lb) (file_of l) → FollowsTold {A = List (List ℕ)} now (Err stop) (images_in cs)
    → LinksAllTold files l cs (Err stop)
clients_missing None now l cs lb stop same f g = tt
clients_missing (Some told) now l cs lb stop same f g =
    subst (Stops stop) (with_library told l cs lb f) (stops_first stop (images_in cs told) (group_of l cs lb) (subst (λ (x : Option Files). FollowsTold {A = List (List ℕ)} x (Err stop) (images_in cs)) same g))

-- all are
pub then_linked : (files now : Option Files) (l : List ℕ) (cs : List (List ℕ)) (lb : List ℕ) (cbs : List (List ℕ)) (result : Result (List Linkage) CommandStop) → now ≡ files → FollowsTold files (Ok lb) (file_of l)
    → FollowsTold now (Ok cbs) (images_in cs) → LinksAll (group_of l cs lb cbs) result → LinksAllTold files l cs result
then_linked None now l cs lb cbs result same f g links = tt
then_linked (Some told) now l cs lb cbs result same f g links =
    subst (λ (steps : Read). LinksAll steps result) (with_images told l cs lb cbs f (subst (λ (x : Option Files). FollowsTold x (Ok cbs) (images_in cs)) same g)) links
