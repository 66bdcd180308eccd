-- Types of signatures and variables.
use Rattle.std.specs.Prelude.{Bool, ◌&&◌, List, []}
use Rattle.som_model.specs.Lists.{every}
use Rattle.som_model.specs.Class.{Class}
use Rattle.som_model.specs.Rules.{RuleBreach, demand_of, is_known, is_value_type}
use Rattle.som_model.specs.declared.class.Sig.{Sig}
use Rattle.som_model.specs.declared.class.Entry.{Entry}
use Rattle.som_model.specs.declared.class.Entry.TheVariants as entries
use Rattle.som_model.specs.declared.class.Variable.{Variable}

-- the result is known, and each parameter is of a value
abbrev pub sig_types : List Class → Sig → Bool
sig_types known sig = is_known known sig.result && every (is_value_type known) sig.params

-- the entry, if its signature has another type
abbrev pub entry_types : List Class → Class → Entry → List RuleBreach
entry_types known c (entries.Introduced name sig way) = demand_of 5 c name (sig_types known sig)
entry_types known c (entries.Moved name to) = []

-- the variable, if it isn't of a value
abbrev pub variable_types : List Class → Class → Variable → List RuleBreach
variable_types known c v = demand_of 5 c v.name (is_value_type known v.kind)
