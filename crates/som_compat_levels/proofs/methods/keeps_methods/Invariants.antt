use Rattle.som_verify_classes.specs.Places.{class_of_place}
use Rattle.som_compat_levels.specs.Tables.{classes_in}
use Rattle.som_compat_levels.proofs.KeptMethods.{KeptTo}
use Rattle.som_compat_levels.proofs.methods.keeps_methods.Given as goal

abbrev pub invariant-loop-number : goal.invariant-loop-number
invariant-loop-number l = KeptTo (classes_in l.old) (classes_in l.new) (class_of_place (classes_in l.old) l.place) l.number
