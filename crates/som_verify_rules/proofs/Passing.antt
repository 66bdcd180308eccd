-- A pass over classes whose names differ, whatever it answers where no rule is broken.
use Rattle.std.proofs.Common.{◌≡◌, ℕ, List, None, Result, Ok, Err}
use Rattle.som_model.specs.Class.{Class}
use Rattle.som_model.specs.Conforming.{each_after}
use Rattle.som_model.specs.Kernel.{kernel}
use Rattle.som_model.specs.Lists.{first, or_else}
use Rattle.som_model.specs.Rules.{s1}
use Rattle.som_verify_classes.specs.declared.types.VerifyFault.{VerifyFault}
use Rattle.som_verify_classes.specs.declared.types.VerifyFault.TheVariants as faults
use Rattle.som_verify_classes.specs.Faces.{classes_breach, placed_breach, standing_breach}
use Rattle.som_verify_classes.specs.Told.{Tells}
use Rattle.som_verify_classes.proofs.Conformity.{names_pass}

pub names_pass_with : {A : Type 0} (n : ℕ) (cs : List Class) (r : Result A VerifyFault) → first (each_after s1 kernel cs) ≡ None
    → Tells (or_else (standing_breach cs) (placed_breach n cs)) r → Tells (classes_breach n cs) r
names_pass_with n cs (Ok a) none t = names_pass n cs (Ok tt) none t
names_pass_with n cs (Err (faults.Rule b)) none t = names_pass n cs (Err (faults.Rule b)) none t
names_pass_with n cs (Err faults.NoMemory) none t = tt
