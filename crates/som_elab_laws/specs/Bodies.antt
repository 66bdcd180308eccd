-- What the texts of bodies say of the methods of a class.
use Rattle.std.specs.Prelude.{◌≡◌, ℕ, Bool, false, List, [], ◌∷◌, ◌++◌, slice_get, Some}
use Rattle.som_model.specs.declared.key.ClassKey.{ClassKey}
use Rattle.som_model.specs.declared.syntax.Block.{Block}
use Rattle.som_model.specs.declared.class.Body.{Body}
use Rattle.som_model.specs.declared.class.Body.TheVariants as bodies
use Rattle.som_model.specs.declared.class.Entry.{Entry}
use Rattle.som_model.specs.declared.class.Entry.TheVariants as entries
use Rattle.som_model.specs.declared.class.Override.{Override}
use Rattle.som_model.specs.declared.class.Select.{Select}
use Rattle.som_model.specs.declared.class.Sig.{Sig}
use Rattle.som_model.specs.declared.class.Way.{Way}
use Rattle.som_model.specs.Class.{Class}
use Rattle.som_model.specs.Lists.{Mem}
use Rattle.som_model.specs.Typing.{in_body}
use Rattle.som_ast.specs.declared.words.TypeName.{TypeName}
use Rattle.som_ast.specs.declared.words.Word.{Word}
use Rattle.som_ast.specs.declared.interface.Export.TheVariants as exports
use Rattle.som_ast.specs.declared.interface.IdlInterface.{IdlInterface}
use Rattle.som_ast.specs.declared.body.BodyText.{BodyText}
use Rattle.som_sema_scope.specs.Words.{words}
use Rattle.som_sema_drafts.specs.Drafts.{getter, setter}
use Rattle.som_sema_drafts.specs.Items.{Chosen}
use Rattle.som_elab_body.specs.Expressions.{Among, class_named}
use Rattle.som_elab_body.specs.Locals.{Names, kinds_of, names_of}
use Rattle.som_elab_methods.specs.Bodies.{operations}
use Rattle.som_elab_laws.specs.Named.{HasMethod, HasVariable}
use Rattle.som_elab_laws.specs.Statements.{BlockSays}

-- the text of a body says a block: its parameters, with the types of the signature, are the first names in scope
pub record BodySays (a : Among) (c : Class) (sig : Sig) (b : BodyText) (block : Block) : Type 0 where
  pub scope : Names
  pub names : names_of scope ≡ words b.params
  pub kinds : kinds_of scope ≡ sig.params
  pub says : BlockSays a (in_body c sig.result) scope b.block block

-- an interface has an attribute of this name
pub record HasAttribute (i : IdlInterface) (readonly : Bool) (name : List ℕ) : Type 0 where
  pub kind : TypeName
  pub names : List Word
  pub word : Word
  pub export : Mem (exports.Attribute readonly kind names) (i.before ++ i.after)
  pub there : Mem word names
  pub named : word.text ≡ name

module _ (a : Among) (bs : List BodyText) (c : Class) where
  -- the text of the method of this name of the class says this block
  pub record TextSays (name : List ℕ) (sig : Sig) (block : Block) : Type 0 where
    pub text : BodyText
    pub there : Mem text bs
    pub of_class : text.class.text ≡ c.decl.face.name
    pub of_method : text.method.text ≡ name
    pub says : BodySays a c sig text block

  -- the body of a method that an interface introduces: an accessor reads or writes the variable of its attribute, and an operation has the block of its text
  pub data MethodSays (i : IdlInterface) : List ℕ → Sig → Body → Type 0 where
    a_getter : {name : List ℕ} {sig : Sig} {n : ℕ} (readonly : Bool) → HasAttribute i readonly name → HasVariable c name n → MethodSays i (getter name) sig (bodies.Get n)
    a_setter : {name : List ℕ} {sig : Sig} {n : ℕ} → HasAttribute i false name → HasVariable c name n → MethodSays i (setter name) sig (bodies.Set n)
    an_operation : {name : List ℕ} {sig : Sig} {block : Block} → Mem name (operations i) → TextSays name sig block → MethodSays i name sig (bodies.User block)

  -- a body for each method that the class introduces, in the order of its entries
  pub data EntriesSay (i : IdlInterface) : List Entry → List Body → Type 0 where
    no_entry : EntriesSay i [] []
    a_moved_entry : {name : List ℕ} {to : ClassKey} {es : List Entry} {made : List Body} → EntriesSay i es made → EntriesSay i (entries.Moved name to ∷ es) made
    an_introduced_entry : {name : List ℕ} {sig : Sig} {way : Way} {es : List Entry} {b : Body} {made : List Body} → MethodSays i name sig b → EntriesSay i es made
        → EntriesSay i (entries.Introduced name sig way ∷ es) (b ∷ made)

  -- an override is of the method of that name that the class has, with the block of its text
  pub record OverrideSays (name : List ℕ) (made : Override) : Type 0 where
    pub sig : Sig
    pub way : Way
    pub method : HasMethod a.classes c.key name made.method sig way
    pub text : TextSays name sig made.block

  -- one for each method that is overridden, in their order
  pub data OverridesSay : List (List ℕ) → List Override → Type 0 where
    no_override : OverridesSay [] []
    one_override : {name : List ℕ} {o : Override} {names : List (List ℕ)} {os : List Override} → OverrideSays name o → OverridesSay names os → OverridesSay (name ∷ names) (o ∷ os)

-- a select is of the method of that name that the class has, and of the parent that is named
pub record SelectSays (a : Among) (c : Class) (s : Chosen) (made : Select) : Type 0 where
  pub sig : Sig
  pub way : Way
  pub method : HasMethod a.classes c.key s.method made.method sig way
  pub parent : slice_get c.decl.face.parents made.parent ≡ Some (class_named a s.parent)

-- one for each that the text chooses, in their order
pub data SelectsSay (a : Among) (c : Class) : List Chosen → List Select → Type 0 where
  no_select : SelectsSay a c [] []
  one_select : {s : Chosen} {made : Select} {ss : List Chosen} {all : List Select} → SelectSays a c s made → SelectsSay a c ss all → SelectsSay a c (s ∷ ss) (made ∷ all)
