-- When the texts of a module conform, said of every interface and every body.
use Rattle.std.specs.Prelude.{◌≡◌, ◌≤◌, ℕ, List, [], length, slice_get, Option, Some, None, Ok}
use Rattle.som_model.specs.declared.class.Entry.TheVariants as entries
use Rattle.som_model.specs.declared.class.Override.{Override}
use Rattle.som_model.specs.declared.class.Sig.{Sig}
use Rattle.som_model.specs.declared.class.Way.{Way}
use Rattle.som_model.specs.declared.key.Module.{Module}
use Rattle.som_model.specs.declared.key.Module.TheVariants as modules
use Rattle.som_model.specs.declared.program.Interface.{Interface}
use Rattle.som_model.specs.declared.syntax.Block.{Block}
use Rattle.som_model.specs.Class.{Class, class_in}
use Rattle.som_model.specs.Lists.{Mem}
use Rattle.som_model.specs.Owner.{owner, sig_of}
use Rattle.som_model.specs.Typing.{in_main}
use Rattle.som_ast.specs.declared.interface.IdlInterface.{IdlInterface}
use Rattle.som_ast.specs.declared.body.BlockText.{BlockText}
use Rattle.som_ast.specs.declared.body.BodyText.{BodyText}
use Rattle.som_sema.specs.Building.{most_classes}
use Rattle.som_sema_drafts.specs.Drafts.{InterfaceDraft}
use Rattle.som_elab_body.specs.Expressions.{Among}
use Rattle.som_elab_body.specs.MethodBody.{elaborated_body}
use Rattle.som_elab_body.specs.Statements.{elaborated_block}
use Rattle.som_elab_methods.specs.Accessors.{body_of}
use Rattle.som_elab.specs.Elaboration.{classes_over, drafts_over, among_over, nothing_before}
use Rattle.som_elab_methods.specs.Bodies.{operations}
use Rattle.som_elab_methods.specs.PlainLimits.{LimitsKept}
use Rattle.som_elab_laws.specs.Keeping.{TextsKeep}

-- a method of which a class has a body in the texts, and its signature: the class introduces it by an operation, or overrides it without `select`
pub data HasBody (cs : List Class) (d : InterfaceDraft) (name : List ℕ) : Option Sig → Type 0 where
  by_operation : {sig : Sig} (way : Way) → Mem name (operations d.text) → Mem (entries.Introduced name sig way) d.class.face.entries → HasBody cs d name (Some sig)
  by_override : {sig : Option Sig} (o : Override) → Mem o d.class.overrides → o.method.name ≡ name → sig_of cs (owner cs o.method) ≡ sig → HasBody cs d name sig

-- a body is of a class of the texts and of such a method, and has as many parameters as the method's signature
pub record IsNamed (cs : List Class) (ds : List InterfaceDraft) (b : BodyText) : Type 0 where
  pub draft : InterfaceDraft
  pub there : Mem draft ds
  pub of_class : draft.class.face.name ≡ b.class.text
  pub sig : Sig
  pub of_method : HasBody cs draft b.method.text (Some sig)
  pub long : length b.params ≡ length sig.params

-- a body is of a method of this name of the class
pub record IsOfMethod (d : InterfaceDraft) (name : List ℕ) (b : BodyText) : Type 0 where
  pub of_class : b.class.text ≡ d.class.face.name
  pub of_method : b.method.text ≡ name

-- one of the bodies is of the method, and at no other place stands one
pub record HasOneBody (bs : List BodyText) (d : InterfaceDraft) (name : List ℕ) : Type 0 where
  pub body : BodyText
  pub there : Mem body bs
  pub is_of : IsOfMethod d name body
  pub once : (i j : ℕ) (x y : BodyText) → slice_get bs i ≡ Some x → slice_get bs j ≡ Some y → IsOfMethod d name x → IsOfMethod d name y → i ≡ j

-- S13: each body is one of those; S14: each of these methods has exactly one body
pub record BodiesStand (cs : List Class) (ds : List InterfaceDraft) (bs : List BodyText) : Type 0 where
  pub named : (b : BodyText) → Mem b bs → IsNamed cs ds b
  pub once : (d : InterfaceDraft) (name : List ℕ) (sig : Option Sig) → Mem d ds → HasBody cs d name sig → HasOneBody bs d name

-- S15 to S20, and the limit of locals: each body stands for a block, of the methods that a class introduces but for accessors, and of those that it overrides
pub record BlocksStand (a : Among) (m : Module) (ds : List InterfaceDraft) (bs : List BodyText) : Type 0 where
  pub introduced : (d : InterfaceDraft) (name : List ℕ) (sig : Sig) (way : Way) (b : BodyText) → Mem d ds → Mem (entries.Introduced name sig way) d.class.face.entries → body_of d name ≡ None
      → Mem b bs → IsOfMethod d name b → (block : Block) × (elaborated_body a (class_in m d.class) sig b ≡ Ok block)
  pub overridden : (d : InterfaceDraft) (o : Override) (sig : Sig) (b : BodyText) → Mem d ds → Mem o d.class.overrides → sig_of a.classes (owner a.classes o.method) ≡ Some sig
      → Mem b bs → IsOfMethod d o.method.name b → (block : Block) × (elaborated_body a (class_in m d.class) sig b ≡ Ok block)

-- the texts of a module conform: it has no more classes than it may have, its interfaces and bodies keep the rules, and no other limit is passed
pub record ModuleConforms (m : Module) (base : Interface) (is : List IdlInterface) (bs : List BodyText) : Type 0 where
  pub few_classes : length is ≤ most_classes m
  pub rules : TextsKeep m base is
  pub bodies : BodiesStand (classes_over m base is) (drafts_over m base is) bs
  pub limits : LimitsKept (drafts_over m base is)
  pub blocks : BlocksStand (among_over m base is) m (drafts_over m base is) bs

-- the texts of a library conform
abbrev pub LibraryConforms : List IdlInterface → List BodyText → Type 0
LibraryConforms is bs = ModuleConforms modules.Library nothing_before is bs

-- the texts of a client conform against a base: those of its classes, and main
pub record ClientConforms (base : Interface) (is : List IdlInterface) (bs : List BodyText) (main : BlockText) : Type 0 where
  pub classes : ModuleConforms modules.Client base is bs
  pub main_stands : (block : Block) × (elaborated_block (among_over modules.Client base is) in_main main [] ≡ Ok block)
