-- Which refusal is told of texts that declare classes well, or don't: of which rule or limit, which class and which member.
use Rattle.std.specs.Prelude.{◌≡◌, ℕ, List, [], ◌∷◌, ◌++◌, flat_map, codes, Option, Some, None, Ok, Err}
use Rattle.som_model.specs.declared.key.Module.{Module}
use Rattle.som_model.specs.declared.key.Module.TheVariants as modules
use Rattle.som_model.specs.declared.syntax.Block.{Block}
use Rattle.som_model.specs.declared.class.Sig.{Sig}
use Rattle.som_model.specs.declared.class.Entry.{Entry}
use Rattle.som_model.specs.declared.class.Entry.TheVariants as entries
use Rattle.som_model.specs.declared.class.Body.{Body}
use Rattle.som_model.specs.declared.class.Override.{Override}
use Rattle.som_model.specs.declared.program.Interface.{Interface}
use Rattle.som_model.specs.Lists.{Mem, first}
use Rattle.som_model.specs.Class.{Class, class_in}
use Rattle.som_model.specs.Owner.{owner, sig_of}
use Rattle.som_model.specs.Rules.{RuleBreach}
use Rattle.som_model.specs.Typing.{in_main}
use Rattle.som_ast.specs.declared.interface.IdlInterface.{IdlInterface}
use Rattle.som_ast.specs.declared.body.BodyText.{BodyText}
use Rattle.som_ast.specs.declared.body.BlockText.{BlockText}
use Rattle.som_sema_drafts.specs.Drafts.{InterfaceDraft}
use Rattle.som_sema.specs.Building.{texts_breach}
use Rattle.som_elab_methods.specs.Accessors.{body_of}
use Rattle.som_elab_methods.specs.Bodies.{text_s13, text_s14, texts_for}
use Rattle.som_elab_methods.specs.Limits.{Passed, class_limits}
use Rattle.som_elab_body.specs.Expressions.{Among}
use Rattle.som_elab_body.specs.MethodBody.{elaborated_body}
use Rattle.som_elab_body.specs.Statements.{BodyBreach, Told, elaborated_block}
use Rattle.som_elab.specs.Blocks.{Limit, Refusal, Rule, refusal}
use Rattle.som_elab.specs.Elaboration.{among_over, classes_over, classes_passed, drafts_over}

-- none of these breaks a rule
abbrev pub NoneBreaks : {A B : Type 0} → (A → List B) → List A → Type 0
NoneBreaks {A} {B} rule xs = (x : A) → Mem x xs → rule x ≡ []

-- the first of these that breaks a rule, and the first of what it breaks
pub record IsFirstOf {A B : Type 0} (rule : A → List B) (xs : List A) (b : B) : Type 0 where
  pub before : List A
  pub item : A
  pub after : List A
  pub parts : xs ≡ before ++ item ∷ after
  pub earlier : NoneBreaks rule before
  pub begins : first (rule item) ≡ Some b

-- ---- the methods of a class whose bodies texts have

pub record Member : Type 0 where
  pub name : List ℕ
  pub sig : Sig

-- an accessor has a body of its own, and each other introduced method is a member
abbrev pub unless_own : List ℕ → Sig → Option Body → List Member
unless_own name sig (Some body) = []
unless_own name sig None = record { name = name; sig = sig } ∷ []

abbrev pub introduced_member : InterfaceDraft → Entry → List Member
introduced_member d (entries.Introduced name sig way) = unless_own name sig (body_of d name)
introduced_member d (entries.Moved name to) = []

-- a method that is overridden is one, with its owner's signature
abbrev pub if_signed : List ℕ → Option Sig → List Member
if_signed name None = []
if_signed name (Some sig) = record { name = name; sig = sig } ∷ []

abbrev pub overridden_member : List Class → Override → List Member
overridden_member cs o = if_signed o.method.name (sig_of cs (owner cs o.method))

-- those of a class: the introduced ones in its release order, and then the overridden ones in the order of the text
abbrev pub members : List Class → InterfaceDraft → List Member
members cs d = flat_map (introduced_member d) d.class.face.entries ++ flat_map (overridden_member cs) d.class.overrides

-- ---- what they break

abbrev pub if_refused : List ℕ → List ℕ → Told Block → List Refusal
if_refused class member (Ok block) = []
if_refused class member (Err breach) = refusal class member breach ∷ []

abbrev pub text_refusals : Among → Class → Member → List BodyText → List Refusal
text_refusals a c x [] = []
text_refusals a c x (b ∷ more) = if_refused c.decl.face.name x.name (elaborated_body a c x.sig b)

-- what is wrong with the body of a member
abbrev pub member_refusals : Among → Module → List BodyText → InterfaceDraft → Member → List Refusal
member_refusals a m bs d x = text_refusals a (class_in m d.class) x (texts_for bs d.class.face.name x.name)

-- what is wrong with the bodies of a class, member by member
abbrev pub class_refusals : Among → Module → List BodyText → InterfaceDraft → List Refusal
class_refusals a m bs d = flat_map (member_refusals a m bs d) (members a.classes d)

-- the refusal is of the first class with a wrong body, and of its first member that has one
pub record IsFirstBody (a : Among) (m : Module) (bs : List BodyText) (ds : List InterfaceDraft) (r : Refusal) : Type 0 where
  pub class : IsFirstOf (class_refusals a m bs) ds r
  pub member : IsFirstOf (member_refusals a m bs class.item) (members a.classes class.item) r

-- ---- what is told

module _ (m : Module) (base : Interface) (is : List IdlInterface) (bs : List BodyText) where
  abbrev pub drafts : List InterfaceDraft
  drafts = drafts_over m base is

  abbrev pub s13_of : BodyText → List RuleBreach
  s13_of = text_s13 (classes_over m base is) drafts

  -- the classes are not too many, and keep S1 to S12
  pub record AreDeclaredWell : Type 0 where
    pub few : classes_passed m is ≡ None
    pub rules : texts_breach m base is ≡ None

  -- and S13 and S14 are kept too
  pub record HaveBodies : Type 0 where
    pub declared : AreDeclaredWell
    pub s13 : NoneBreaks s13_of bs
    pub s14 : NoneBreaks (text_s14 bs) drafts

-- the refusal that is told of the classes of texts: each case is one where those before it don't hold
pub data IsFirstTold (m : Module) (base : Interface) (is : List IdlInterface) (bs : List BodyText) : Refusal → Type 0 where
  -- the limit of classes is passed
  of_count : (p : Passed) → classes_passed m is ≡ Some p → IsFirstTold m base is bs (Limit p)
  -- a rule of S1 to S12 is broken
  of_declarations : (b : RuleBreach) → classes_passed m is ≡ None → texts_breach m base is ≡ Some b → IsFirstTold m base is bs (Rule b)
  -- S13: the first body, in the order of the texts, that is no method's
  of_text : (b : RuleBreach) → AreDeclaredWell m base is bs → IsFirstOf (s13_of m base is bs) bs b → IsFirstTold m base is bs (Rule b)
  -- S14: the first class with a method that hasn't one body, and the first such method
  of_method : (b : RuleBreach) → AreDeclaredWell m base is bs → NoneBreaks (s13_of m base is bs) bs → IsFirstOf (text_s14 bs) (drafts m base is bs) b → IsFirstTold m base is bs (Rule b)
  -- the first class that passes another limit, and the first of these
  of_limit : (p : Passed) → HaveBodies m base is bs → IsFirstOf class_limits (drafts m base is bs) p → IsFirstTold m base is bs (Limit p)
  -- what the first wrong body breaks
  of_body : (r : Refusal) → HaveBodies m base is bs → NoneBreaks class_limits (drafts m base is bs) → IsFirstBody (among_over m base is) m bs (drafts m base is bs) r → IsFirstTold m base is bs r

-- the refusal that is told of a client's texts: that of its classes, or else that of main
pub data IsFirstToldOfProgram (base : Interface) (is : List IdlInterface) (bs : List BodyText) (main : BlockText) : Refusal → Type 0 where
  of_classes : (r : Refusal) → IsFirstTold modules.Client base is bs r → IsFirstToldOfProgram base is bs main r
  of_main : (breach : BodyBreach) → ((r : Refusal) → IsFirstTold modules.Client base is bs r → ⊥) → elaborated_block (among_over modules.Client base is) in_main main [] ≡ Err breach
      → IsFirstToldOfProgram base is bs main (refusal (codes "main") (codes "-") breach)
