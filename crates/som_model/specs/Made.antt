-- Which classes are made, and where no call of a run searches.
use Rattle.std.specs.Prelude.{◌≡◌, Bool, true, false, List, [], ◌∷◌, ◌++◌, map, flat_map, codes}
use Rattle.som_model.specs.declared.key.ClassKey.{ClassKey}
use Rattle.som_model.specs.declared.key.ClassKey.TheVariants as keys
use Rattle.som_model.specs.declared.key.MethodRef.{MethodRef}
use Rattle.som_model.specs.declared.syntax.Expr.TheOpen.{Expr-F}
use Rattle.som_model.specs.declared.syntax.Block.{Block}
use Rattle.som_model.specs.declared.class.Body.{Body}
use Rattle.som_model.specs.declared.class.Body.TheVariants as bodies
use Rattle.som_model.specs.Lists.{Mem, some}
use Rattle.som_model.specs.Keys.{same_method}
use Rattle.som_model.specs.Class.{Class}
use Rattle.som_model.specs.Kernel.{som_object, som_class}
use Rattle.som_model.specs.Classes.{parents_of}
use Rattle.som_model.specs.Owner.{owner}
use Rattle.som_model.specs.Metaclass.{meta, hooks}
use Rattle.som_model.specs.Parts.{given_in}

abbrev block_in : Body → List Block
block_in (bodies.User b) = b ∷ []
block_in (bodies.Get n) = []
block_in (bodies.Set n) = []

-- the blocks of a class: its bodies', and then its overrides'
abbrev pub blocks_of_class : Class → List Block
blocks_of_class c = flat_map block_in c.decl.bodies ++ map (λ o. o.block) c.decl.overrides

-- the blocks that may run: those of the classes, and main
abbrev pub blocks_of : List Class → Block → List Block
blocks_of cs main = flat_map blocks_of_class cs ++ main ∷ []

-- ---- the classes that are made

abbrev proxy_of_form : Expr-F (List ClassKey) → List ClassKey
proxy_of_form (Expr-F.Proxy k e) = keys.Proxy k ∷ []
proxy_of_form _ = []

-- the classes of the proxies that a block names
abbrev pub proxies_in : Block → List ClassKey
proxies_in b = given_in proxy_of_form b

-- these classes, and with each class its parents and its metaclass
pub data ComesOf (cs : List Class) (roots : List ClassKey) : ClassKey → Type 0 where
  root : (k : ClassKey) → Mem k roots → ComesOf cs roots k
  parent : (k p : ClassKey) → ComesOf cs roots k → Mem p (parents_of cs k) → ComesOf cs roots p
  metaclass : (k : ClassKey) → ComesOf cs roots k → ComesOf cs roots (meta cs k)

-- the classes, the kernel's among them, and those of the proxies that a block names
abbrev pub all_roots : List Class → Block → List ClassKey
all_roots cs main = map (λ (c : Class). c.key) cs ++ flat_map proxies_in (blocks_of cs main)

-- the classes that are made for a run among these classes
abbrev pub IsMade : List Class → Block → ClassKey → Type 0
IsMade cs main k = ComesOf cs (all_roots cs main) k

-- ---- where no call searches

-- the methods that ask whether a class has a method of some name
abbrev pub asking_methods : List MethodRef
asking_methods = record { class = som_object; name = codes "somRespondsTo" } ∷ record { class = som_class; name = codes "somSupportsMethod" } ∷ []

abbrev asks_names : List Class → MethodRef → Bool
asks_names cs r = some (same_method (owner cs r)) asking_methods

abbrev search_of_form : List Class → Expr-F (List Bool) → List Bool
search_of_form cs (Expr-F.OffsetCall method e args) = asks_names cs method ∷ []
search_of_form cs (Expr-F.Lookup wanted name e args) = true ∷ []
search_of_form cs (Expr-F.Dispatch wanted name e args) = true ∷ []
search_of_form cs (Expr-F.ParentCall n method args) = asks_names cs method ∷ []
search_of_form cs (Expr-F.ParentsCall method args) = asks_names cs method ∷ []
search_of_form cs _ = []

-- whether a block calls by name, or calls a method that asks for names
abbrev pub has_search : List Class → Block → Bool
has_search cs b = some (λ s. s) (given_in (search_of_form cs) b)

-- no block that may run searches for a name, and no class that is made has hooks: then a call needs two look-ups at most, one for its token and one for its body
pub record IsWithoutSearch (cs : List Class) (main : Block) : Type 0 where
  pub no_names : some (has_search cs) (blocks_of cs main) ≡ false
  pub no_hooks : (k : ClassKey) → IsMade cs main k → hooks cs (meta cs k) ≡ []
