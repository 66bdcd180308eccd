-- A release, and classes that were compiled against one, as lists of classes.
use Rattle.std.specs.Prelude.{◌≡◌, ◌≤◌, ℕ, true, List, [], ◌∷◌, ◌++◌, length}
use Rattle.som_model.specs.declared.key.ClassKey.{ClassKey}
use Rattle.som_model.specs.declared.syntax.Block.{Block}
use Rattle.som_model.specs.Lists.{Mem}
use Rattle.som_model.specs.Ancestors.{Descends}
use Rattle.som_model.specs.Class.{Class}
use Rattle.som_model.specs.Classes.{hierarchy}
use Rattle.som_model.specs.Kernel.{kernel}
use Rattle.som_model.specs.Compatible.{order_of}
use Rattle.som_model.specs.Owner.{introduces, owner}
use Rattle.som_model.specs.Rules.{s10, s14}
use Rattle.som_model.specs.Typing.{running_facts}
use Rattle.som_model.specs.Conforming.{class_typed, class_typed_by, main_typed}
use Rattle.som_model.specs.Loads.{FacesLoad}
use Rattle.som_model_laws.specs.Keeping.{ClassesKeep}

-- no two ancestors of one of these classes introduce one name
abbrev pub Once : List Class → List Class → Type 0
Once all cs = (c : Class) (a b : ClassKey) (name : List ℕ) → Mem c cs → Descends (hierarchy all) c.key a → Descends (hierarchy all) c.key b → introduces all name a ≡ true → introduces all name b ≡ true → a ≡ b

-- each class has a parent
abbrev pub HaveParents : List Class → Type 0
HaveParents cs = (c : Class) → Mem c cs → 1 ≤ length c.decl.face.parents

-- the new owner of each entry of the old is the new owner of its old owner
abbrev pub OwnersAreKept : List Class → List Class → Type 0
OwnersAreKept olds news = (c : Class) (name : List ℕ) → Mem c olds → Mem name (order_of c) → owner (kernel ++ news) (record { class = c.key; name = name }) ≡ owner (kernel ++ news) (owner (kernel ++ olds) (record { class = c.key; name = name }))

-- the classes of a release keep the rules but S8, and each has a parent
pub record IsReleased (news : List Class) : Type 0 where
  pub faces : FacesLoad news
  pub parents : HaveParents news
  pub inherited : (c : Class) → Mem c news → s10 (kernel ++ news) c ≡ []
  pub bodies : (c : Class) → Mem c news → s14 c ≡ []
  pub typed : (c : Class) → Mem c news → class_typed (kernel ++ news) c ≡ []

-- classes can be loaded, however many they are: faces stand together, overrides and selects are of proper ancestors, and bodies fit and are well typed where the type of a class object is its metaclass
pub record AreLoadable (news : List Class) : Type 0 where
  pub faces : FacesLoad news
  pub inherited : (c : Class) → Mem c news → s10 (kernel ++ news) c ≡ []
  pub bodies : (c : Class) → Mem c news → s14 c ≡ []
  pub typed : (c : Class) → Mem c news → class_typed_by (running_facts (kernel ++ news)) (kernel ++ news) c ≡ []

-- classes and a main keep the rules above the faces of an older release
pub record IsCompiled (olds own : List Class) (block : Block) : Type 0 where
  pub faces : FacesLoad (olds ++ own)
  pub parents : HaveParents (olds ++ own)
  pub once : Once (kernel ++ (olds ++ own)) own
  pub inherited : (c : Class) → Mem c own → s10 (kernel ++ (olds ++ own)) c ≡ []
  pub bodies : (c : Class) → Mem c own → s14 c ≡ []
  pub typed : (c : Class) → Mem c own → class_typed (kernel ++ (olds ++ own)) c ≡ []
  pub main : main_typed (kernel ++ (olds ++ own)) block ≡ []

-- newer classes keep what older ones promised, and the owners of their entries
abbrev pub AreKept : List Class → List Class → Type 0
AreKept olds news = ClassesKeep olds news × OwnersAreKept olds news

-- no class of the first list has the key of one of the second
abbrev pub HaveOtherKeys : List Class → List Class → Type 0
HaveOtherKeys news own = (c d : Class) → Mem c news → Mem d own → c.key ≡ d.key → ⊥

-- a library above others: the faces against which it was compiled, its own classes, and a main
pub record Level : Type 0 where
  pub olds : List Class
  pub own : List Class
  pub main : Block

-- the classes of these levels above others, the lowest level first
abbrev pub stacked : List Class → List Level → List Class
stacked news [] = news
stacked news (l ∷ ls) = stacked (news ++ l.own) ls

-- each level was compiled against classes that all below it keep
abbrev pub IsTower : List Class → List Level → Type 0
IsTower news [] = Unit {0}
IsTower news (l ∷ ls) = (IsCompiled l.olds l.own l.main × AreKept l.olds news × HaveOtherKeys news l.own) × IsTower (news ++ l.own) ls
