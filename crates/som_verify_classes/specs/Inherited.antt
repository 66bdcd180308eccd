-- Methods that come from proper ancestors.
use Rattle.std.specs.Prelude.{ℕ, Bool, not, ◌&&◌, List, [], ◌∷◌, ◌++◌, map, slice_get, Option, Some, None}
use Rattle.som_model.specs.Lists.{some}
use Rattle.som_model.specs.Keys.{same_key, same_method}
use Rattle.som_model.specs.Class.{Class}
use Rattle.som_model.specs.Classes.{is_a}
use Rattle.som_model.specs.Owner.{owner, introduces}
use Rattle.som_model.specs.Rules.{RuleBreach, demand_of, is_parent_below}
use Rattle.som_model.specs.declared.key.ClassKey.{ClassKey}
use Rattle.som_model.specs.declared.key.MethodRef.{MethodRef}
use Rattle.som_model.specs.declared.class.Entry.{Entry}
use Rattle.som_model.specs.declared.class.Entry.TheVariants as entries
use Rattle.som_model.specs.declared.class.Override.{Override}
use Rattle.som_model.specs.declared.class.Select.{Select}
use Rattle.som_verify_classes.specs.declared.methods.Method.{Method}

-- whether a class has a proper ancestor that introduces the name
abbrev pub inherits : List Class → ClassKey → ClassKey → List ℕ → Bool
inherits cs k from name = (not (same_key from k) && is_a cs k from) && introduces cs name from

-- the entry, if it was moved and the class, by its key, has no such ancestor
abbrev pub moved_entry : List Class → ClassKey → Class → Entry → List RuleBreach
moved_entry cs k c (entries.Introduced name sig way) = []
moved_entry cs k c (entries.Moved name to) = demand_of 9 c name (inherits cs k to name)

-- to where an entry was moved
abbrev pub moved_to : Option Entry → Option ClassKey
moved_to None = None
moved_to (Some (entries.Introduced name sig way)) = None
moved_to (Some (entries.Moved name to)) = Some to

-- the method of a borrowed class and name
abbrev pub method_of : Method → MethodRef
method_of m = record { class = m.class.now; name = m.name.now }

-- whether a class, by its key, may override a method that it didn't override before
abbrev pub may_override : List Class → ClassKey → List MethodRef → MethodRef → Bool
may_override cs k before r = inherits cs k r.class r.name && not (some (same_method r) before)

-- the overrides, by their owners, that may not stand after those before
abbrev pub overrides_from : List Class → ClassKey → Class → List MethodRef → List Override → List RuleBreach
overrides_from cs k c before [] = []
overrides_from cs k c before (o ∷ os) = let r = owner cs o.method in demand_of 10 c o.method.name (may_override cs k before r) ++ overrides_from cs k c (before ++ r ∷ []) os

-- the owners of the methods that are overridden
abbrev pub overridden : List Class → List Override → List MethodRef
overridden cs os = map (λ (o : Override). owner cs o.method) os

-- whether a class, by its key, may take a method from that parent
abbrev pub may_select : List Class → ClassKey → List MethodRef → MethodRef → Option ClassKey → Bool
may_select cs k before r parent = may_override cs k before r && is_parent_below cs r.class parent

-- the selects, by their owners, that may not stand after those before
abbrev pub selects_from : List Class → ClassKey → Class → List MethodRef → List Select → List RuleBreach
selects_from cs k c before [] = []
selects_from cs k c before (s ∷ ss) = let r = owner cs s.method in demand_of 10 c s.method.name (may_select cs k before r (slice_get c.decl.face.parents s.parent)) ++ selects_from cs k c (before ++ r ∷ []) ss

-- the overrides and then the selects of a class, by its key, that may not stand
abbrev pub replaced_from : List Class → ClassKey → Class → List RuleBreach
replaced_from cs k c = overrides_from cs k c [] c.decl.overrides ++ selects_from cs k c (overridden cs c.decl.overrides) c.decl.selects
