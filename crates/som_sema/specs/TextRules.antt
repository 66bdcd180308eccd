-- The rules that texts have in a form of their own and that ask for other classes, each as the list of what breaks it.
use Rattle.std.specs.Prelude.{ℕ, suc, Bool, true, not, ◌&&◌, ◌||◌, List, [], ◌∷◌, ◌++◌, flat_map, take, codes, is_some}
use Rattle.som_model.specs.declared.key.Module.{Module}
use Rattle.som_model.specs.declared.key.ClassKey.{ClassKey}
use Rattle.som_model.specs.Lists.{among}
use Rattle.som_model.specs.Keys.{same_key}
use Rattle.som_model.specs.Class.{Class}
use Rattle.som_model.specs.Classes.{class_at, is_a}
use Rattle.som_model.specs.Kernel.{som_class}
use Rattle.som_model.specs.Rules.{RuleBreach}
use Rattle.som_ast.specs.declared.interface.IdlInterface.{IdlInterface}
use Rattle.som_ast.specs.declared.interface.Modifier.{Modifier}
use Rattle.som_ast.specs.declared.interface.Modifier.TheVariants as modifiers
use Rattle.som_sema_scope.specs.ClassNames.{key_of}
use Rattle.som_verify_classes.specs.Places.{key_at}
use Rattle.som_sema_drafts.specs.Items.{Given, given, metaclass_names, or_object, selecting}
use Rattle.som_sema_drafts.specs.Drafts.{InterfaceDraft}
use Rattle.som_sema_drafts.specs.Demands.{text_demand}
use Rattle.som_sema_decls.specs.Finished.{introducer}

-- the names of the parents, and then of the metaclass items
abbrev pub bases : IdlInterface → List (List ℕ)
bases i = or_object i.parents ++ metaclass_names i.items

-- S2: each parent and each metaclass item names a class that stands before
abbrev pub base_stands : (List ℕ → Module) → List Class → InterfaceDraft → List ℕ → List RuleBreach
base_stands module_of before d name = text_demand 2 d name (is_some (class_at before (key_of module_of name)))

abbrev pub text_s2 : (List ℕ → Module) → List Class → InterfaceDraft → List RuleBreach
text_s2 module_of before d = flat_map (base_stands module_of before d) (bases d.text)

-- S2 of each class in order, the first of them at that place
abbrev pub text_s2_from : (List ℕ → Module) → List Class → ℕ → List InterfaceDraft → List RuleBreach
text_s2_from module_of cs place [] = []
text_s2_from module_of cs place (d ∷ ds) = text_s2 module_of (take place cs) d ++ text_s2_from module_of cs (suc place) ds

-- S4: each metaclass item names a class that descends from SOMClass
abbrev pub makes_classes : (List ℕ → Module) → List Class → InterfaceDraft → List ℕ → List RuleBreach
makes_classes module_of cs d name = text_demand 4 d (codes "-") (is_a cs (key_of module_of name) som_class)

abbrev pub text_s4 : (List ℕ → Module) → List Class → InterfaceDraft → List RuleBreach
text_s4 module_of cs d = flat_map (makes_classes module_of cs d) (metaclass_names d.text.items)

-- whether a proper ancestor introduces a method: the first ancestor that does is another class
abbrev pub is_inherited : List Class → ClassKey → List ℕ → Bool
is_inherited cs k name = not (same_key (introducer cs k name) k)

-- whether a class may take a method from what is named: that class descends from the proper ancestor which introduces the method
abbrev pub may_take : (List ℕ → Module) → List Class → ClassKey → List ℕ → List ℕ → Bool
may_take module_of cs k name parent = is_inherited cs k name && is_a cs (key_of module_of parent) (introducer cs k name)

-- whether a modifier replaces what a class inherits, if it replaces anything; a method with `select` counts as that alone
abbrev pub replaces : (List ℕ → Module) → List Class → ClassKey → List (List ℕ) → List (List ℕ) → List ℕ → Modifier → Bool
replaces module_of cs k parents selecting name modifiers.Override = among name selecting || is_inherited cs k name
replaces module_of cs k parents selecting name modifiers.NameLookup = true
replaces module_of cs k parents selecting name modifiers.Offset = true
replaces module_of cs k parents selecting name (modifiers.Select parent) = among parent.text parents && may_take module_of cs k name parent.text

-- S10: each method with `override` or `select` is introduced by a proper ancestor; what is selected is a parent that descends from that ancestor
abbrev pub replaces_inherited : (List ℕ → Module) → List Class → ClassKey → InterfaceDraft → Given → List RuleBreach
replaces_inherited module_of cs k d g = text_demand 10 d g.method (replaces module_of cs k (or_object d.text.parents) (selecting d.text.items) g.method g.modifier)

abbrev pub text_s10 : (List ℕ → Module) → List Class → ClassKey → InterfaceDraft → List RuleBreach
text_s10 module_of cs k d = flat_map (replaces_inherited module_of cs k d) (given d.text.items)

-- S10 of each class in order, the first of them at that place
abbrev pub text_s10_from : (List ℕ → Module) → List Class → ℕ → List InterfaceDraft → List RuleBreach
text_s10_from module_of cs place [] = []
text_s10_from module_of cs place (d ∷ ds) = text_s10 module_of cs (key_at cs place) d ++ text_s10_from module_of cs (suc place) ds
