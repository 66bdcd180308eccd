-- What an interface says of the methods that its class takes from its ancestors, by cases on its items.
use Rattle.std.specs.Prelude.{◌≡◌, ℕ, List, [], ◌∷◌, slice_get, Some}
use Rattle.som_model.specs.declared.key.Module.{Module}
use Rattle.som_model.specs.declared.key.ClassKey.{ClassKey}
use Rattle.som_model.specs.declared.key.MethodRef.{MethodRef}
use Rattle.som_model.specs.declared.class.ClassDecl.{ClassDecl}
use Rattle.som_model.specs.declared.class.Override.{Override}
use Rattle.som_model.specs.declared.class.Select.{Select}
use Rattle.som_model.specs.Class.{Class}
use Rattle.som_model.specs.Classes.{hierarchy}
use Rattle.som_model.specs.Lists.{Mem}
use Rattle.som_model.specs.Owner.{introduces}
use Rattle.som_model.specs.Resolution.{byname}
use Rattle.som_ast.specs.declared.words.Word.{Word}
use Rattle.som_ast.specs.declared.interface.IdlInterface.{IdlInterface}
use Rattle.som_ast.specs.declared.interface.Item.{Item}
use Rattle.som_ast.specs.declared.interface.Item.TheVariants as items
use Rattle.som_ast.specs.declared.interface.Modifier.{Modifier}
use Rattle.som_ast.specs.declared.interface.Modifier.TheVariants as modifiers
use Rattle.som_sema_laws.specs.Faces.{FaceSays, Gives, VariablesSay, class_of}

-- an item gives a modifier to the method of this word
pub record ItemGives (x : Item) (method : Word) (m : Modifier) : Type 0 where
  pub modifiers : List Modifier
  pub is : x ≡ items.Method method modifiers
  pub given : Mem m modifiers

-- an item overrides the method of this word: it gives `override`, and no item selects a parent for that method
pub record ItemOverrides (all : List Item) (x : Item) (method : Word) : Type 0 where
  pub gives : ItemGives x method modifiers.Override
  pub unselected : (parent : Word) → Gives all method.text (modifiers.Select parent) → ⊥

module _ (module_of : List ℕ → Module) (cs : List Class) (i : IdlInterface) where
  -- the method of this name, of the first of the ancestors that introduces it
  pub record IsInherited (name : List ℕ) (method : MethodRef) : Type 0 where
    pub named : method.name ≡ name
    pub first : byname (hierarchy cs) (introduces cs name) (class_of module_of i.name) ≡ Some method.class

  -- an override for each item that overrides, in the order of the text
  pub data OverridesSay : List Item → List Override → Type 0 where
    no_items : OverridesSay [] []
    an_override : {x : Item} {is : List Item} {o : Override} {os : List Override} (w : Word) → ItemOverrides i.items x w → IsInherited w.text o.method → OverridesSay is os → OverridesSay (x ∷ is) (o ∷ os)
    not_an_override : {x : Item} {is : List Item} {os : List Override} → ((w : Word) → ItemOverrides i.items x w → ⊥) → OverridesSay is os → OverridesSay (x ∷ is) os

  -- a select for each item that selects, of the parent that it names, in the order of the text
  pub data SelectsSay (parents : List ClassKey) : List Item → List Select → Type 0 where
    no_selects : SelectsSay parents [] []
    a_select : {x : Item} {is : List Item} {s : Select} {ss : List Select} (w parent : Word) → ItemGives x w (modifiers.Select parent) → IsInherited w.text s.method
        → slice_get parents s.parent ≡ Some (class_of module_of parent) → SelectsSay parents is ss → SelectsSay parents (x ∷ is) (s ∷ ss)
    not_a_select : {x : Item} {is : List Item} {ss : List Select} → ((w parent : Word) → ItemGives x w (modifiers.Select parent) → ⊥) → SelectsSay parents is ss → SelectsSay parents (x ∷ is) ss

  -- a class is what its interface says: its face, its variables, and what it overrides and selects
  pub record InterfaceSays (c : ClassDecl) : Type 0 where
    pub face : FaceSays module_of cs i c.face
    pub variables : VariablesSay module_of i c.variables
    pub overrides : OverridesSay i.items c.overrides
    pub selects : SelectsSay c.face.parents i.items c.selects

-- a class for each interface, in their order
pub data ClassesSay (module_of : List ℕ → Module) (cs : List Class) : List IdlInterface → List ClassDecl → Type 0 where
  no_class : ClassesSay module_of cs [] []
  one_class : {i : IdlInterface} {is : List IdlInterface} {c : ClassDecl} {ds : List ClassDecl} → InterfaceSays module_of cs i c → ClassesSay module_of cs is ds → ClassesSay module_of cs (i ∷ is) (c ∷ ds)
