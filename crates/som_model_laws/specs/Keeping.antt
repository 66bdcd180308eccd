-- What compatibility asks of lists of classes, said of each class and member.
use Rattle.std.specs.Prelude.{◌≡◌, ◌≤◌, ℕ, List, ◌++◌, Some, slice_get}
use Rattle.som_model.specs.declared.key.ClassKey.{ClassKey}
use Rattle.som_model.specs.Lists.{Mem}
use Rattle.som_model.specs.Ancestors.{Descends}
use Rattle.som_model.specs.Class.{Class}
use Rattle.som_model.specs.Classes.{hierarchy}
use Rattle.som_model.specs.Kernel.{kernel}
use Rattle.som_model.specs.Metaclass.{meta}
use Rattle.som_model.specs.Compatible.{order_of, signature}
use Rattle.som_model.specs.Loads.{keys_of}

-- a class of the old, and that of the same key in the new
pub record IsPair (olds news : List Class) (c n : Class) : Type 0 where
  pub old_one : Mem c olds
  pub new_one : Mem n news
  pub same : n.key ≡ c.key

pub record ClassesKeep (olds news : List Class) : Type 0 where
  -- K1: each class of the old is in the new
  pub classes : (c : Class) → Mem c olds → Mem c.key (keys_of news)
  -- K2: with the same major version, and with a minor one that isn't lower
  pub major : (c n : Class) → IsPair olds news c n → c.decl.face.major ≡ n.decl.face.major
  pub minor : (c n : Class) → IsPair olds news c n → c.decl.face.minor ≤ n.decl.face.minor
  -- K3: what it descends from in the old, it descends from in the new
  pub ancestors : (c : Class) (a : ClassKey) → Mem c olds → Descends (hierarchy (kernel ++ olds)) c.key a → Descends (hierarchy (kernel ++ news)) c.key a
  -- K4: each name of its release order stands at the same place in the new
  pub places : (c n : Class) (place : ℕ) (name : List ℕ) → IsPair olds news c n → slice_get (order_of c) place ≡ Some name → slice_get (order_of n) place ≡ Some name
  -- K5: and has the same signature
  pub signatures : (c : Class) (name : List ℕ) → Mem c olds → Mem name (order_of c) → signature (kernel ++ olds) c.key name ≡ signature (kernel ++ news) c.key name
  -- K6: the new metaclass descends from the metaclass that the old declares
  pub metaclasses : (c : Class) (m : ClassKey) → Mem c olds → c.decl.face.metaclass ≡ Some m → Descends (hierarchy (kernel ++ news)) (meta (kernel ++ news) c.key) m
