-- What a newer interface keeps of each class of an older one, and what the first breach says in words.
use Rattle.std.specs.Prelude.{◌≡◌, ◌≤◌, ◌<◌, ℕ, List, Option, Some, None, slice_get}
use Rattle.som_model.specs.declared.key.ClassKey.{ClassKey}
use Rattle.som_model.specs.declared.class.Sig.{Sig}
use Rattle.som_model.specs.declared.class.Way.{Way}
use Rattle.som_model.specs.declared.class.Entry.TheVariants as entries
use Rattle.som_model.specs.declared.program.Interface.{Interface}
use Rattle.som_model.specs.Lists.{Mem}
use Rattle.som_model.specs.Ancestors.{Descends}
use Rattle.som_model.specs.Class.{Class}
use Rattle.som_model.specs.Classes.{ancestors, hierarchy, interface_classes}
use Rattle.som_model.specs.Metaclass.{meta}
use Rattle.som_model.specs.Compatible.{CompatBreach, declared_name, incompatible, order_of, release_of, signature}
use Rattle.som_breach_laws.specs.Firsts.{HoldsOfEach, IsFirstAt}

-- K1: n is the new interface's class of c's name
pub record IsNew (new : Interface) (c n : Class) : Type 0 where
  pub there : Mem n (interface_classes new)
  pub named : n.decl.face.name ≡ c.decl.face.name

-- K2: n has the major version of c, and no lower minor one
pub record KeepsVersion (c n : Class) : Type 0 where
  pub major : c.decl.face.major ≡ n.decl.face.major
  pub minor : c.decl.face.minor ≤ n.decl.face.minor

-- K3: c descends from a in the new interface
abbrev pub KeepsAncestor : Interface → Class → ℕ → ClassKey → Type 0
KeepsAncestor new c place a = Descends (hierarchy (release_of new)) c.key a

-- K4: the name stands at this place of n's release order
abbrev pub KeepsPlace : Class → ℕ → List ℕ → Type 0
KeepsPlace n place name = slice_get (order_of n) place ≡ Some name

-- K5: the method of this name that c has is of one signature in both, in each through its owner there
abbrev pub KeepsSignature : Interface → Interface → Class → ℕ → List ℕ → Type 0
KeepsSignature old new c place name = signature (release_of old) c.key name ≡ signature (release_of new) c.key name

-- K6: c's metaclass in the new interface descends from m
abbrev pub KeepsMetaclass : Interface → Class → ClassKey → Type 0
KeepsMetaclass new c m = Descends (hierarchy (release_of new)) (meta (release_of new) c.key) m

-- c, of which n is the new one, keeps each of K2 to K6 that has a lower number than this
pub record KeepsBelow (old new : Interface) (c n : Class) (rule : ℕ) : Type 0 where
  pub version : 2 < rule → KeepsVersion c n
  pub descent : 3 < rule → HoldsOfEach (KeepsAncestor new c) (ancestors (release_of old) c.key)
  pub places : 4 < rule → HoldsOfEach (KeepsPlace n) (order_of c)
  pub signatures : 5 < rule → HoldsOfEach (KeepsSignature old new c) (order_of c)
  pub metaclass : 6 < rule → (m : ClassKey) → c.decl.face.metaclass ≡ Some m → KeepsMetaclass new c m

-- the new interface keeps all of K1 to K6 of c
pub record KeepsAll (old new : Interface) (c : Class) : Type 0 where
  pub counterpart : Class
  pub is_new : IsNew new c counterpart
  pub rules : KeepsBelow old new c counterpart 7

-- what the first rule that c breaks says of it
pub data Breaks (old new : Interface) (c : Class) (b : CompatBreach) : Type 0 where
  -- K1: the new interface has no class of its name
  lost : b ≡ incompatible 1 c None 0 → ((n : Class) → IsNew new c n → ⊥) → Breaks old new c b
  -- K2: the class of its name has another major version, or a lower minor one
  older : (n : Class) → IsNew new c n → KeepsBelow old new c n 2 → b ≡ incompatible 2 c None 0 → (KeepsVersion c n → ⊥) → Breaks old new c b
  -- K3: a is the first of its ancestors from which it doesn't descend in the new interface
  loses_ancestor : (n : Class) → IsNew new c n → KeepsBelow old new c n 3 → (place : ℕ) (a : ClassKey) → b ≡ incompatible 3 c (declared_name a) place
      → IsFirstAt (KeepsAncestor new c) (ancestors (release_of old) c.key) place a → Breaks old new c b
  -- K4: the name is the first of its release order that doesn't stand at its place in the new one
  moves_slot : (n : Class) → IsNew new c n → KeepsBelow old new c n 4 → (place : ℕ) (name : List ℕ) → b ≡ incompatible 4 c (Some name) place
      → IsFirstAt (KeepsPlace n) (order_of c) place name → Breaks old new c b
  -- K5: the name is the first of its release order whose signature isn't the same
  changes_signature : (n : Class) → IsNew new c n → KeepsBelow old new c n 5 → (place : ℕ) (name : List ℕ) → b ≡ incompatible 5 c (Some name) place
      → IsFirstAt (KeepsSignature old new c) (order_of c) place name → Breaks old new c b
  -- K6: m is the metaclass that it declares, and its new metaclass doesn't descend from that
  loses_metaclass : (n : Class) → IsNew new c n → KeepsBelow old new c n 6 → (m : ClassKey) → b ≡ incompatible 6 c (declared_name m) 0
      → c.decl.face.metaclass ≡ Some m → (KeepsMetaclass new c m → ⊥) → Breaks old new c b

-- the breach is of a class of the old interface, each class before which keeps all, and says the first rule that this one breaks
pub record IsFirstBreach (old new : Interface) (b : CompatBreach) : Type 0 where
  pub number : ℕ
  pub class : Class
  pub there : slice_get (interface_classes old) number ≡ Some class
  pub before : (i : ℕ) (c : Class) → i < number → slice_get (interface_classes old) i ≡ Some c → KeepsAll old new c
  pub breaks : Breaks old new class b

-- the class introduces the method of this name at this place of its release order
pub record IntroducesAt (c : Class) (place : ℕ) (name : List ℕ) : Type 0 where
  pub sig : Sig
  pub way : Way
  pub entry : slice_get c.decl.face.entries place ≡ Some (entries.Introduced name sig way)
