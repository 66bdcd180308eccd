-- Passes over classes that break no rule.
use Rattle.std.proofs.Common.{◌≡◌, List, flat_map, Option, None, Result, Ok, Err, IfErr, refl, sym, ◌∙◌, subst}
use Rattle.som_model.specs.Lists.{first, or_else}
use Rattle.som_model.specs.Class.{Class}
use Rattle.som_model.specs.Conforming.{each_after, first_of_names}
use Rattle.som_model.specs.Kernel.{kernel}
use Rattle.som_model.specs.Rules.{RuleBreach, s1, s2, s3, s4}
use Rattle.som_verify_classes.specs.declared.types.VerifyFault.{VerifyFault}
use Rattle.som_verify_classes.specs.declared.types.VerifyFault.TheVariants as faults
use Rattle.som_verify_classes.specs.Faces.{standing_breach}
use Rattle.som_verify_classes.specs.Places.{with_kernel}
use Rattle.som_verify_classes.specs.Told.{Tells}
use Rattle.som_verify_classes.proofs.Conformity.{both_none, or_none}

-- where a rule has no breach, a fault of its pass is want of memory
pub no_breach : (o : Option RuleBreach) (e : VerifyFault) → o ≡ None → Tells {A = Unit {0}} o (Err e) → e ≡ faults.NoMemory
no_breach o (faults.Rule b) none t = absurd (let both : None ≡ _ = sym none ∙ t in cc)
no_breach o faults.NoMemory none t = refl

-- a fault that is want of memory tells nothing
pub wants_memory : (o : Option RuleBreach) (e : VerifyFault) → e ≡ faults.NoMemory → Tells {A = Unit {0}} o (Err e)
wants_memory o e is = subst (λ (z : VerifyFault). Tells {A = Unit {0}} o (Err z)) (sym is) tt

pub names_apart : (cs : List Class) → first_of_names kernel cs ≡ None → first (each_after s1 kernel cs) ≡ None
names_apart cs e = (or_none (first (each_after s1 kernel cs)) (or_else (first (each_after s2 kernel cs)) (or_else (first (flat_map s3 cs)) (first (flat_map (s4 (with_kernel cs)) cs)))) e).0

pub parents_apart : (cs : List Class) → first_of_names kernel cs ≡ None → standing_breach cs ≡ None
parents_apart cs e =
    let later = (or_none (first (each_after s1 kernel cs)) (or_else (first (each_after s2 kernel cs)) (or_else (first (flat_map s3 cs)) (first (flat_map (s4 (with_kernel cs)) cs)))) e).1 in
    let two = or_none (first (each_after s2 kernel cs)) (or_else (first (flat_map s3 cs)) (first (flat_map (s4 (with_kernel cs)) cs))) later in
    both_none (first (each_after s2 kernel cs)) (first (flat_map s3 cs)) two.0 (or_none (first (flat_map s3 cs)) (first (flat_map (s4 (with_kernel cs)) cs)) two.1).0

-- where there is no breach, a pass fails for want of memory alone
pub only_memory : {A : Type 0} (o : Option RuleBreach) (r : Result A VerifyFault) → o ≡ None → Tells o r → IfErr r (λ e. e ≡ faults.NoMemory)
only_memory o (Ok x) none t = tt
only_memory o (Err e) none t = no_breach o e none t
