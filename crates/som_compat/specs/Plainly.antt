-- What compatibility asks, said of each class and member.
use Rattle.std.specs.Prelude.{◌≡◌, ◌≤◌, ℕ, List, Some, slice_get}
use Rattle.som_model.specs.declared.key.ClassKey.{ClassKey}
use Rattle.som_model.specs.declared.program.Interface.{Interface}
use Rattle.som_model.specs.Lists.{Mem}
use Rattle.som_model.specs.Ancestors.{Descends}
use Rattle.som_model.specs.Class.{Class}
use Rattle.som_model.specs.Classes.{hierarchy, interface_classes}
use Rattle.som_model.specs.Metaclass.{meta}
use Rattle.som_model.specs.Compatible.{release_of, order_of, signature}
use Rattle.som_verify_classes.specs.Plainly.{IsAmong}

-- a class of the old, and that of the same name in the new
pub record IsPair (old new : Interface) (c n : Class) : Type 0 where
  pub old_one : Mem c (interface_classes old)
  pub new_one : Mem n (interface_classes new)
  pub same : n.key ≡ c.key

pub record Keeps (old new : Interface) : Type 0 where
  -- K1: each class of the old is in the new
  pub classes : (c : Class) → Mem c (interface_classes old) → IsAmong (interface_classes new) c.key
  -- K2: with the same major version, and with a minor one that isn't lower
  pub major : (c n : Class) → IsPair old new c n → c.decl.face.major ≡ n.decl.face.major
  pub minor : (c n : Class) → IsPair old new c n → c.decl.face.minor ≤ n.decl.face.minor
  -- K3: what it descends from in the old, it descends from in the new
  pub ancestors : (c : Class) (a : ClassKey) → Mem c (interface_classes old) → Descends (hierarchy (release_of old)) c.key a → Descends (hierarchy (release_of new)) c.key a
  -- K4: each name of its release order stands at the same place in the new
  pub places : (c n : Class) (place : ℕ) (name : List ℕ) → IsPair old new c n → slice_get (order_of c) place ≡ Some name → slice_get (order_of n) place ≡ Some name
  -- K5: each name of its release order has one signature in the old and the new
  pub signatures : (c : Class) (name : List ℕ) → Mem c (interface_classes old) → Mem name (order_of c) → signature (release_of old) c.key name ≡ signature (release_of new) c.key name
  -- K6: the new metaclass descends from the metaclass that the old declares
  pub metaclasses : (c : Class) (m : ClassKey) → Mem c (interface_classes old) → c.decl.face.metaclass ≡ Some m → Descends (hierarchy (release_of new)) (meta (release_of new) c.key) m
