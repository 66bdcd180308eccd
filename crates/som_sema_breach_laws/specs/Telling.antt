-- Which rule, which interface and which member is told where the texts of a module break one of the rules S1 to S12.
use Rattle.std.specs.Prelude.{◌≡◌, ℕ, ◌+◌, ◌<◌, List, [], ◌∷◌, ◌++◌, length, map, take, slice_get, Some}
use Rattle.som_model.specs.declared.key.Module.{Module}
use Rattle.som_model.specs.declared.program.Interface.{Interface}
use Rattle.som_model.specs.Lists.{first}
use Rattle.som_model.specs.Class.{Class, class_in}
use Rattle.som_model.specs.Classes.{interface_classes}
use Rattle.som_model.specs.Rules.{RuleBreach, s1, s3, s5, s7, s8, s9}
use Rattle.som_ast.specs.declared.interface.IdlInterface.{IdlInterface}
use Rattle.som_verify_classes.specs.Places.{key_at, with_kernel}
use Rattle.som_sema_drafts.specs.Drafts.{InterfaceDraft, draft_classes, draft_of}
use Rattle.som_sema_decls.specs.Known.{after_base}
use Rattle.som_sema_decls.specs.Finished.{declare}
use Rattle.som_sema_local.specs.OwnRules.{text_s6, text_s11, text_s12}
use Rattle.som_sema.specs.TextRules.{text_s2, text_s4, text_s10}
use Rattle.som_sema.specs.Building.{declared_all, module_over}

module _ (m : Module) (base : Interface) (is : List IdlInterface) where
  -- an interface with the class that it declares by itself, and that class
  abbrev pub draft : IdlInterface → InterfaceDraft
  draft i = draft_of (module_over m base is) i

  abbrev pub own_class : IdlInterface → Class
  own_class i = class_in m (draft i).class

  -- the kernel's classes and those of the base, and then those that the interfaces declare by themselves
  abbrev pub earlier_classes : List Class
  earlier_classes = with_kernel (interface_classes base)

  abbrev pub known : List Class
  known = with_kernel (after_base m (interface_classes base) (draft_classes (map draft is)))

  -- all these with their entries in the release order, and one of them
  abbrev pub finished : List Class
  finished = with_kernel (after_base m (interface_classes base) (declared_all m (interface_classes base) (map draft is)))

  abbrev pub finished_class : IdlInterface → Class
  finished_class i = class_in m (declare known m (draft i))

  -- the rules S1 to S12: of each, what an interface that stands behind others breaks, member by member in the order of its text
  abbrev pub text_rules : List (List IdlInterface → IdlInterface → List RuleBreach)
  text_rules =
      (λ before i. s1 (earlier_classes ++ map own_class before) (own_class i))
      ∷ (λ before i. text_s2 (module_over m base is) (take (length earlier_classes + length before) known) (draft i))
      ∷ (λ before i. s3 (own_class i))
      ∷ (λ before i. text_s4 (module_over m base is) known (draft i))
      ∷ (λ before i. s5 known (own_class i))
      ∷ (λ before i. text_s6 (draft i))
      ∷ (λ before i. s7 (own_class i))
      ∷ (λ before i. s8 finished (finished_class i))
      ∷ (λ before i. s9 finished (finished_class i))
      ∷ (λ before i. text_s10 (module_over m base is) known (key_at known (length earlier_classes + length before)) (draft i))
      ∷ (λ before i. text_s11 (draft i))
      ∷ (λ before i. text_s12 (draft i))
      ∷ []

-- none of these interfaces breaks the rule
abbrev pub NoneBreaks : (List IdlInterface → IdlInterface → List RuleBreach) → List IdlInterface → Type 0
NoneBreaks rule is = (before : List IdlInterface) (i : IdlInterface) (after : List IdlInterface) → is ≡ before ++ i ∷ after → rule before i ≡ []

-- the breach is of the first rule that an interface breaks, of the first interface that breaks it, and of the first of its members that does
pub record IsFirstTold (m : Module) (base : Interface) (is : List IdlInterface) (b : RuleBreach) : Type 0 where
  -- the rule is the one with the number that is told, and no interface breaks one before it
  pub place : ℕ
  pub rule : List IdlInterface → IdlInterface → List RuleBreach
  pub is_rule : slice_get (text_rules m base is) place ≡ Some rule
  pub numbered : b.rule ≡ 1 + place
  pub lower : (j : ℕ) (r : List IdlInterface → IdlInterface → List RuleBreach) → j < place → slice_get (text_rules m base is) j ≡ Some r → NoneBreaks r is
  -- the interface has the name that is told, and none before it breaks the rule
  pub before : List IdlInterface
  pub interface : IdlInterface
  pub after : List IdlInterface
  pub parts : is ≡ before ++ interface ∷ after
  pub earlier : NoneBreaks rule before
  pub named : b.class ≡ interface.name.text
  -- and what is told is the first of what it breaks
  pub member : first (rule before interface) ≡ Some b
