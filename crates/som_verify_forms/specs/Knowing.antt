-- What is known of classes that break no rule on faces.
use Rattle.std.specs.Prelude.{◌≡◌, ℕ, ◌<◌, Bool, true, ◌&&◌, List, map, flat_map, length, slice_get, Some, None, is_some}
use Rattle.som_model.specs.declared.key.ClassKey.{ClassKey}
use Rattle.som_model.specs.declared.key.ValueType.{ValueType}
use Rattle.som_model.specs.declared.syntax.Expr.{Expr}
use Rattle.som_model.specs.declared.class.Sig.{Sig}
use Rattle.som_model.specs.Lists.{Mem, first, every}
use Rattle.som_model.specs.Class.{Class, entry_of, introduced_sig}
use Rattle.som_model.specs.Classes.{class_at}
use Rattle.som_model.specs.Kernel.{kernel_interface}
use Rattle.som_model.specs.Rules.{is_known, s9}
use Rattle.som_model.specs.Typing.{ClassFacts, CodePlace, Typed, class_facts, expr_type}
use Rattle.som_order.specs.Names.{texts}
use Rattle.som_verify_forms.specs.declared.kind.Kind.{Kind}
use Rattle.som_verify_forms.specs.declared.code_place.CodePlace.{CodePlace as Place}
use Rattle.som_verify_forms.specs.declared.knowledge.Knowledge.{Knowledge}
use Rattle.som_verify_classes.specs.Modules.{classes_of}
use Rattle.som_verify_classes.specs.Places.{IsTable, class_of_place, face_at, with_kernel}
use Rattle.som_verify_classes.specs.Walk.{AreLists}
use Rattle.som_verify_forms.specs.Kinds.{AreTypes, PlaceStands, code_at, type_at}

-- the kernel's classes and the declared ones
abbrev pub all_of : Knowledge → List Class
all_of known = with_kernel (classes_of known.classes.now)

abbrev pub facts_of : Knowledge → ClassFacts
facts_of known = class_facts (all_of known)

-- the types of a signature name classes that are known
abbrev pub sig_is_known : List Class → Sig → Bool
sig_is_known cs sig = is_known cs sig.result && every (is_known cs) sig.params

-- the classes that are named by classes are known
pub record NamesKnown (cs : List Class) : Type 0 where
  pub signatures : (place : ℕ) (name : List ℕ) (sig : Sig) → place < length cs → introduced_sig (entry_of (face_at cs place).entries name) ≡ Some sig → sig_is_known cs sig ≡ true
  pub variables : (place n : ℕ) (kind : ValueType) → place < length cs → slice_get (map (λ v. v.kind) (class_of_place cs place).decl.variables) n ≡ Some kind → is_known cs kind ≡ true
  pub parents : (place : ℕ) (k : ClassKey) → place < length cs → Mem k (face_at cs place).parents → is_some (class_at cs k) ≡ true
  pub metaclasses : (place : ℕ) (k : ClassKey) → place < length cs → (face_at cs place).metaclass ≡ Some k → is_some (class_at cs k) ≡ true

-- classes by name and by place, with the ancestors of each, where moved entries lead to their introducers and whatever is named is known
pub record IsKnowledge (known : Knowledge) : Type 0 where
  pub table : IsTable (classes_of known.classes.now) (texts known.table.now.keys)
  pub kernel : known.kernel.now ≡ kernel_interface.classes
  pub lists : AreLists (all_of known) known.lists.now
  pub moved : first (flat_map (s9 (all_of known)) (classes_of known.classes.now)) ≡ None
  pub names : NamesKnown (all_of known)

-- the type of an expression at a place of code, where locals are of these kinds
abbrev pub typed_by : Knowledge → Place → List Kind → Expr → Typed
typed_by known at scope e = expr_type (facts_of known) (code_at (all_of known) at) (map (type_at (all_of known)) scope) e
