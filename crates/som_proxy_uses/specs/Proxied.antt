-- The classes of which blocks name proxies.
use Rattle.std.specs.Prelude.{◌≡◌, List, map, flat_map}
use Rattle.som_model.specs.declared.key.ClassKey.{ClassKey}
use Rattle.som_model.specs.declared.key.ClassKey.TheVariants as keys
use Rattle.som_model.specs.declared.syntax.Block.{Block}
use Rattle.som_model.specs.declared.class.ClassDecl.{ClassDecl}
use Rattle.som_model.specs.Class.{Class}
use Rattle.som_model.specs.Kernel.{som_object}
use Rattle.som_model.specs.Made.{blocks_of, blocks_of_class, proxies_in}

-- the proxies of these classes
abbrev pub proxies_of : List ClassKey → List ClassKey
proxies_of ks = map keys.Proxy ks

-- the declarations of classes, without their keys
abbrev pub declarations : List Class → List ClassDecl
declarations cs = map (λ (c : Class). c.decl) cs

-- the proxies that the blocks of a class name: those of its bodies, and then of its overrides; its key plays no part, so it is any
abbrev pub decl_proxies : ClassDecl → List ClassKey
decl_proxies d = flat_map proxies_in (blocks_of_class (record { key = som_object; decl = d }))

-- the proxies of these classes are those that main and the blocks of classes with these declarations name, in the order of the text, as often as they do
abbrev pub AreProxied : List ClassDecl → Block → List ClassKey → Type 0
AreProxied ds main ks = (cs : List Class) → declarations cs ≡ ds → proxies_of ks ≡ flat_map proxies_in (blocks_of cs main)
