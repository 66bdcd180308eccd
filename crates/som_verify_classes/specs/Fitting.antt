-- Bodies and their signatures.
use Rattle.std.specs.Prelude.{Bool, false, ◌&&◌, List, [], ◌∷◌, ◌++◌}
use Rattle.som_model.specs.Same.{same_type}
use Rattle.som_model.specs.Class.{Class}
use Rattle.som_model.specs.Rules.{RuleBreach, demand_of, body_fits, is_void}
use Rattle.som_model.specs.declared.key.ValueType.{ValueType}
use Rattle.som_model.specs.declared.class.Sig.{Sig}
use Rattle.som_model.specs.declared.class.Entry.{Entry}
use Rattle.som_model.specs.declared.class.Entry.TheVariants as entries
use Rattle.som_model.specs.declared.class.Body.{Body}

-- the bodies that don't fit, one for each introduced entry
abbrev pub bodies_from : Class → List Entry → List Body → List RuleBreach
bodies_from c [] bs = []
bodies_from c (entries.Moved name to ∷ es) bs = bodies_from c es bs
bodies_from c (entries.Introduced name sig way ∷ es) [] = []
bodies_from c (entries.Introduced name sig way ∷ es) (b ∷ bs) = demand_of 14 c name (body_fits c.decl.variables sig b) ++ bodies_from c es bs

abbrev one_of : ValueType → List ValueType → Bool
one_of kind (t ∷ []) = same_type t kind
one_of kind _ = false

-- a method of the signature takes a value of the type, and answers nothing
abbrev pub takes : ValueType → Sig → Bool
takes kind sig = is_void sig.result && one_of kind sig.params
