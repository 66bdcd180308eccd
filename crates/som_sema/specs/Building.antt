-- The declarations that texts stand for, and what is told of them.
use Rattle.std.specs.Prelude.{◌≡◌, ℕ, ◌<◌, ◌≤◌, List, map, flat_map, length, codes, Option, None, Some, Result, Ok, Err}
use Rattle.som_model.specs.declared.key.Module.{Module}
use Rattle.som_model.specs.declared.key.Module.TheVariants as modules
use Rattle.som_model.specs.declared.class.ClassDecl.{ClassDecl}
use Rattle.som_model.specs.declared.program.Interface.{Interface}
use Rattle.som_model.specs.declared.limits.TheConstants.{MAX_CLIENT_CLASSES, MAX_LIBRARY_CLASSES}
use Rattle.som_model.specs.Lists.{first, or_else}
use Rattle.som_model.specs.Class.{Class, class_in}
use Rattle.som_model.specs.Classes.{interface_classes}
use Rattle.som_model.specs.Conforming.{each_after}
use Rattle.som_model.specs.Rules.{RuleBreach, s1, s3, s5, s7, s8, s9}
use Rattle.som_ast.specs.declared.interface.IdlInterface.{IdlInterface}
use Rattle.som_verify_classes.specs.Places.{with_kernel}
use Rattle.som_verify_classes.specs.Told.{told}
use Rattle.som_sema_drafts.specs.declared.types.Refused.{Refused}
use Rattle.som_sema_drafts.specs.declared.types.Refused.TheVariants as faults
use Rattle.som_sema_scope.specs.Words.{interface_names, once}
use Rattle.som_sema_scope.specs.ClassNames.{face_names, kernel_names, module_by_names}
use Rattle.som_sema_drafts.specs.Drafts.{InterfaceDraft, draft_of, draft_classes}
use Rattle.som_sema_decls.specs.Known.{after_base}
use Rattle.som_sema_decls.specs.Finished.{declare, declare_selecting}
use Rattle.som_sema_local.specs.OwnRules.{text_s6, text_s11, text_s12}
use Rattle.som_sema.specs.TextRules.{text_s2_from, text_s4, text_s10_from}

-- where the names in the texts of a module lead, which is compiled against a base
abbrev pub module_over : Module → Interface → List IdlInterface → List ℕ → Module
module_over m base is = module_by_names m (once (interface_names is)) (once (face_names base.classes)) kernel_names

-- the declarations that go with these drafts
abbrev pub declared_all : Module → List Class → List InterfaceDraft → List ClassDecl
declared_all m base ds = map (declare (with_kernel (after_base m base (draft_classes ds))) m) ds

-- the first breach of the rules S4 to S7: of all classes, the own ones, and their texts
abbrev pub members_breach : (List ℕ → Module) → List Class → List Class → List InterfaceDraft → Option RuleBreach
members_breach module_of cs own ds =
    or_else (first (flat_map (text_s4 module_of (with_kernel cs)) ds))
    (or_else (first (flat_map (s5 (with_kernel cs)) own))
    (or_else (first (flat_map text_s6 ds))
    (first (flat_map s7 own))))

-- the first breach of the rules S2 to S7, where the own classes stand after those of the base
abbrev pub named_breach : (List ℕ → Module) → List Class → List Class → List Class → List InterfaceDraft → Option RuleBreach
named_breach module_of cs base own ds =
    or_else (first (text_s2_from module_of (with_kernel cs) (length (with_kernel base)) ds))
    (or_else (first (flat_map s3 own))
    (members_breach module_of cs own ds))

-- the first breach of the rules S1 to S7, which look at no other class's entries: of all classes, those of the base, the own ones, and their texts
abbrev pub draft_breach : (List ℕ → Module) → List Class → List Class → List Class → List InterfaceDraft → Option RuleBreach
draft_breach module_of cs base own ds = or_else (first (each_after s1 (with_kernel base) own)) (named_breach module_of cs base own ds)

-- the first breach of the rules S8 and S9
abbrev pub moved_breach : List Class → List Class → Option RuleBreach
moved_breach cs own = or_else (first (flat_map (s8 (with_kernel cs)) own)) (first (flat_map (s9 (with_kernel cs)) own))

-- the first breach of the rules S10 to S12, which look at the modifiers and the items of texts
abbrev pub items_breach : (List ℕ → Module) → List Class → List Class → List InterfaceDraft → Option RuleBreach
items_breach module_of cs base ds =
    or_else (first (text_s10_from module_of (with_kernel cs) (length (with_kernel base)) ds))
    (or_else (first (flat_map text_s11 ds))
    (first (flat_map text_s12 ds)))

-- the first breach of the rules S8 to S12
abbrev pub finished_breach : (List ℕ → Module) → Module → List Class → List InterfaceDraft → List ClassDecl → Option RuleBreach
finished_breach module_of m base ds declared =
    or_else (moved_breach (after_base m base declared) (map (class_in m) declared))
    (items_breach module_of (after_base m base (draft_classes ds)) base ds)

-- the first breach of the rules S1 to S12: the lowest rule, its first class, and there the first member
abbrev pub draft_rules_breach : (List ℕ → Module) → Module → List Class → List InterfaceDraft → Option RuleBreach
draft_rules_breach module_of m base ds =
    or_else (draft_breach module_of (after_base m base (draft_classes ds)) base (map (class_in m) (draft_classes ds)) ds)
    (finished_breach module_of m base ds (declared_all m base ds))

-- what the texts declare
abbrev pub declarations : Module → Interface → List IdlInterface → List ClassDecl
declarations m base is = declared_all m (interface_classes base) (map (draft_of (module_over m base is)) is)

-- what the texts declare, with what they select
abbrev pub declared_selecting : Module → List Class → List InterfaceDraft → List ClassDecl
declared_selecting m base ds = map (declare_selecting (with_kernel (after_base m base (draft_classes ds))) (with_kernel (after_base m base (declared_all m base ds))) m) ds

abbrev pub selecting_declarations : Module → Interface → List IdlInterface → List ClassDecl
selecting_declarations m base is = declared_selecting m (interface_classes base) (map (draft_of (module_over m base is)) is)

-- the first rule that they break
abbrev pub texts_breach : Module → Interface → List IdlInterface → Option RuleBreach
texts_breach m base is = draft_rules_breach (module_over m base is) m (interface_classes base) (map (draft_of (module_over m base is)) is)

-- how many classes a module may have
abbrev pub most_classes : Module → ℕ
most_classes modules.Kernel = MAX_LIBRARY_CLASSES
most_classes modules.Library = MAX_LIBRARY_CLASSES
most_classes modules.Client = MAX_CLIENT_CLASSES
most_classes (modules.Upper level) = MAX_CLIENT_CLASSES

-- the declarations exactly where the limit of classes and the rules hold, and else the first of these that fails; want of memory says nothing
abbrev pub FacesTold : Module → Interface → List IdlInterface → Result (List ClassDecl) Refused → Type 0
FacesTold m base is (Ok ds) = (length is ≤ most_classes m) × (texts_breach m base is ≡ None) × (ds ≡ declarations m base is)
FacesTold m base is (Err (faults.Rule b)) = (length is ≤ most_classes m) × (texts_breach m base is ≡ Some (told b))
FacesTold m base is (Err (faults.Limit quantity number)) = (most_classes m < length is) × (quantity ≡ codes "classes") × (number ≡ most_classes m)
FacesTold m base is (Err faults.NoMemory) = Unit {0}
