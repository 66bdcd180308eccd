-- The classes of a release and of a client program, and the hierarchy that they make.
use Rattle.std.specs.Prelude.{ℕ, zero, suc, ◌+◌, max, Bool, List, [], ◌∷◌, ◌++◌, map, Option, Some, None, unwrap_or}
use Rattle.som_model.specs.declared.key.Module.TheVariants as modules
use Rattle.som_model.specs.declared.key.ClassKey.{ClassKey, fold-ClassKey, out-ClassKey}
use Rattle.som_model.specs.declared.key.ClassKey.TheVariants as keys
use Rattle.som_model.specs.declared.key.ClassKey.TheOpen.{ClassKey-F}
use Rattle.som_model.specs.declared.key.ValueType.{ValueType}
use Rattle.som_model.specs.declared.key.ValueType.TheVariants as types
use Rattle.som_model.specs.declared.class.Variable.{Variable}
use Rattle.som_model.specs.declared.program.Release.{Release}
use Rattle.som_model.specs.declared.program.Interface.{Interface}
use Rattle.som_model.specs.declared.program.ClientProgram.{ClientProgram}
use Rattle.som_model.specs.Lists.{find, place_from}
use Rattle.som_model.specs.Keys.{same_key}
use Rattle.som_model.specs.Hierarchy.{Hierarchy}
use Rattle.som_model.specs.Ancestors.{anc, descends}
use Rattle.som_model.specs.Class.{Class, class_in, bare}
use Rattle.som_model.specs.Kernel.{kernel}

-- the classes of a release, in the library
abbrev pub library_classes : Release → List Class
library_classes r = map (class_in modules.Library) r.classes

-- the classes of an interface, of which the faces alone are known
abbrev pub interface_classes : Interface → List Class
interface_classes i = map (λ f. class_in modules.Library (bare f)) i.classes

-- the classes of a client's own
abbrev pub client_classes : ClientProgram → List Class
client_classes p = map (class_in modules.Client) p.classes

-- H(r, p): the kernel's classes, the release's and then the client's, each after its parents
abbrev pub classes : Release → ClientProgram → List Class
classes r p = kernel ++ library_classes r ++ client_classes p

-- the class of a key
abbrev pub class_at : List Class → ClassKey → Option Class
class_at cs k = find (λ (c : Class). same_key c.key k) cs

abbrev pub parents_in : Option Class → List ClassKey
parents_in (Some c) = c.decl.face.parents
parents_in None = []

-- the parents of Derived of a list are that list, and the parent of Proxy of a class is that class
abbrev pub parents_by : List Class → ClassKey-F ClassKey → ClassKey → List ClassKey
parents_by cs (ClassKey-F.Named m name) k = parents_in (class_at cs k)
parents_by cs (ClassKey-F.Derived ks) k = ks
parents_by cs (ClassKey-F.Proxy of) k = of ∷ []

abbrev pub parents_of : List Class → ClassKey → List ClassKey
parents_of cs k = parents_by cs (out-ClassKey k) k

-- the place of a class in the list, counted from n, and 0 where it isn't there
abbrev pub place_of : ℕ → List Class → ClassKey → ℕ
place_of n cs k = unwrap_or (place_from n (λ (c : Class). same_key c.key k) cs) 0

abbrev pub greatest : List ℕ → ℕ
greatest [] = 0
greatest (n ∷ ns) = max n (greatest ns)

-- a declared class is as high as its place, and a made one is higher than what it is made of
abbrev pub height_step : List Class → ClassKey-F ℕ → ℕ
height_step cs (ClassKey-F.Named m name) = place_of 1 cs (keys.Named m name)
height_step cs (ClassKey-F.Derived hs) = greatest hs + 1
height_step cs (ClassKey-F.Proxy h) = h + 1

-- the hierarchy of these classes
unfoldable pub hierarchy : List Class → Hierarchy ClassKey
hierarchy cs = record { parents = parents_of cs; height = fold-ClassKey ℕ (height_step cs); same = same_key }

-- a class, and its ancestors
abbrev pub ancestors : List Class → ClassKey → List ClassKey
ancestors cs k = anc (hierarchy cs) k

-- whether a class descends from another
abbrev pub is_a : List Class → ClassKey → ClassKey → Bool
is_a cs k a = descends (hierarchy cs) k a

abbrev type_at : List Variable → ℕ → ValueType
type_at [] n = types.Void
type_at (v ∷ vs) zero = v.kind
type_at (v ∷ vs) (suc n) = type_at vs n

abbrev type_in : Option Class → ℕ → ValueType
type_in None n = types.Void
type_in (Some c) n = type_at c.decl.variables n

-- the type of variable n of a class
abbrev pub variable_type : List Class → ClassKey → ℕ → ValueType
variable_type cs k n = type_in (class_at cs k) n

abbrev version_in : Option Class → ℕ × ℕ
version_in None = (0, 0)
version_in (Some c) = (c.decl.face.major, c.decl.face.minor)

-- the major and minor version of a class; a made class has 0.0
abbrev pub version_of : List Class → ClassKey → ℕ × ℕ
version_of cs k = version_in (class_at cs k)
