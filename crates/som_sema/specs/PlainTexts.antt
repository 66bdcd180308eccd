-- The rules that texts have in a form of their own, said of every interface and what it says.
use Rattle.std.specs.Prelude.{◌≡◌, ℕ, ◌+◌, List, [], take, slice_get, Some, codes}
use Rattle.som_model.specs.declared.key.Module.{Module}
use Rattle.som_model.specs.declared.key.ClassKey.{ClassKey}
use Rattle.som_model.specs.Lists.{Mem, among}
use Rattle.som_model.specs.Ancestors.{Descends}
use Rattle.som_model.specs.Class.{Class, introduced}
use Rattle.som_model.specs.Classes.{ancestors, hierarchy}
use Rattle.som_model.specs.Owner.{introduced_by}
use Rattle.som_model.specs.Kernel.{som_class}
use Rattle.som_model_laws.specs.First.{IsFirst}
use Rattle.som_ast.specs.declared.words.Word.{Word}
use Rattle.som_ast.specs.declared.interface.Item.TheVariants as items
use Rattle.som_verify_classes.specs.Places.{key_at}
use Rattle.som_verify_classes.specs.Plainly.{Differ, IsAmong}
use Rattle.som_sema_scope.specs.ClassNames.{key_of}
use Rattle.som_sema_drafts.specs.Items.{Chosen, chosen, given, is_call, is_override, is_select, item_words, listed, or_object, overridden, with_modifier}
use Rattle.som_sema_drafts.specs.Drafts.{InterfaceDraft}

-- S2: each parent, SOMObject where none is named, and each metaclass item names a class that stands before; the first interface's class stands at place n
pub record BasesStand (module_of : List ℕ → Module) (cs : List Class) (n : ℕ) (ds : List InterfaceDraft) : Type 0 where
  pub parents : (i : ℕ) (d : InterfaceDraft) (w : Word) → slice_get ds i ≡ Some d → Mem w d.text.parents → IsAmong (take (i + n) cs) (key_of module_of w.text)
  pub object : (i : ℕ) (d : InterfaceDraft) → slice_get ds i ≡ Some d → d.text.parents ≡ [] → IsAmong (take (i + n) cs) (key_of module_of (codes "SOMObject"))
  pub metaclasses : (i : ℕ) (d : InterfaceDraft) (w : Word) → slice_get ds i ≡ Some d → Mem (items.Metaclass w) d.text.items → IsAmong (take (i + n) cs) (key_of module_of w.text)

-- S4: each metaclass item names a class that descends from SOMClass
pub record MetaclassesDescend (module_of : List ℕ → Module) (cs : List Class) (ds : List InterfaceDraft) : Type 0 where
  pub by : (d : InterfaceDraft) (w : Word) → Mem d ds → Mem (items.Metaclass w) d.text.items → Descends (hierarchy cs) (key_of module_of w.text) som_class

-- S6: no name is introduced twice by a class, or stands twice in its release order
pub record NamesDiffer (ds : List InterfaceDraft) : Type 0 where
  pub introduced : (d : InterfaceDraft) → Mem d ds → Differ (λ (name : List ℕ). name) (introduced d.class.face.entries)
  pub listed : (d : InterfaceDraft) → Mem d ds → Differ (λ (name : List ℕ). name) (listed d.text.items)

-- a class takes a method from a proper ancestor: the first ancestor that introduces it is another class
pub record Inherits (cs : List Class) (k a : ClassKey) (name : List ℕ) : Type 0 where
  pub first : IsFirst (λ b. among name (introduced_by cs b)) (ancestors cs k) a
  pub other : a ≡ k → ⊥

-- S10: a method with `override` and without `select` is inherited; so is a method with `select`, and what is selected is a parent that descends
-- from the method's class; the first interface's class stands at place n
pub record ReplacedInherited (module_of : List ℕ → Module) (cs : List Class) (n : ℕ) (ds : List InterfaceDraft) : Type 0 where
  pub overridden : (i : ℕ) (d : InterfaceDraft) (name : List ℕ) → slice_get ds i ≡ Some d → Mem name (overridden d.text.items) → (a : ClassKey) × Inherits cs (key_at cs (i + n)) a name
  pub selected : (i : ℕ) (d : InterfaceDraft) (s : Chosen) → slice_get ds i ≡ Some d → Mem s (chosen d.text.items)
      → (a : ClassKey) × Inherits cs (key_at cs (i + n)) a s.method × Mem s.parent (or_object d.text.parents) × Descends (hierarchy cs) (key_of module_of s.parent) a

-- S11: `override` stands once on a method; `namelookup` or `offset` stands once on a method, which the class introduces; `select` stands once on
-- a method, which has `override`
pub record ModifiersStand (ds : List InterfaceDraft) : Type 0 where
  pub overridden : (d : InterfaceDraft) → Mem d ds → Differ (λ (name : List ℕ). name) (with_modifier is_override (given d.text.items))
  pub called : (d : InterfaceDraft) → Mem d ds → Differ (λ (name : List ℕ). name) (with_modifier is_call (given d.text.items))
  pub own : (d : InterfaceDraft) (name : List ℕ) → Mem d ds → Mem name (with_modifier is_call (given d.text.items)) → Mem name (introduced d.class.face.entries)
  pub selecting : (d : InterfaceDraft) → Mem d ds → Differ (λ (name : List ℕ). name) (with_modifier is_select (given d.text.items))
  pub replaced : (d : InterfaceDraft) (name : List ℕ) → Mem d ds → Mem name (with_modifier is_select (given d.text.items)) → Mem name (with_modifier is_override (given d.text.items))

-- S12: the release order, the metaclass and each version are said once
pub record ItemsDiffer (ds : List InterfaceDraft) : Type 0 where
  pub by : (d : InterfaceDraft) → Mem d ds → Differ (λ (word : List ℕ). word) (item_words d.text.items)
