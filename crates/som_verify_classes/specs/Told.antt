-- What a pass tells of the breaches that it looks for.
use Rattle.std.specs.Prelude.{◌≡◌, List, map, Option, Some, None, Result, Ok, Err}
use Rattle.som_model.specs.Rules.{RuleBreach}
use Rattle.som_model.specs.declared.key.Module.TheVariants as modules
use Rattle.som_model.specs.declared.class.ClassDecl.{ClassDecl}
use Rattle.som_model.specs.Class.{Class, class_in}
use Rattle.som_verify_classes.specs.declared.types.Broken.{Broken}
use Rattle.som_verify_classes.specs.declared.types.VerifyFault.{VerifyFault}
use Rattle.som_verify_classes.specs.declared.types.VerifyFault.TheVariants as faults

-- the breach that is told
abbrev pub told : Broken → RuleBreach
told b = record { rule = b.rule; class = b.class; member = b.member }

-- all is well exactly where there is no breach, and a breach that is told is that one; want of memory says nothing
abbrev pub Tells : {A : Type 0} → Option RuleBreach → Result A VerifyFault → Type 0
Tells breach (Ok _) = breach ≡ None
Tells breach (Err (faults.Rule b)) = breach ≡ Some (told b)
Tells breach (Err faults.NoMemory) = Unit {0}

-- the declared class of a release
abbrev pub of_library : ClassDecl → Class
of_library d = class_in modules.Library d

-- the declared classes of a release
abbrev pub of_release : List ClassDecl → List Class
of_release ds = map of_library ds

-- the fault of a pass that found this breach
abbrev pub Refuses : RuleBreach → VerifyFault → Type 0
Refuses found e = (breach : Option RuleBreach) → breach ≡ Some found → Tells {A = Unit {0}} breach (Err e)
