-- When a newer interface is compatible with an older one: what breaks each rule, in order.
use Rattle.std.specs.Prelude.{◌≡◌, ℕ, ◌+◌, ◌==◌, nat_le, Bool, ◌&&◌, if◌then◌else◌, List, [], ◌∷◌, ◌++◌, map, flat_map, Option, Some, None}
use Rattle.std.specs.Str.{bytes_eq}
use Rattle.som_model.specs.declared.key.ClassKey.{ClassKey, out-ClassKey}
use Rattle.som_model.specs.declared.key.ClassKey.TheOpen.{ClassKey-F}
use Rattle.som_model.specs.declared.class.Sig.{Sig}
use Rattle.som_model.specs.declared.program.Interface.{Interface}
use Rattle.som_model.specs.declared.program.Release.{Release}
use Rattle.som_model.specs.Lists.{Mem, first, option_list}
use Rattle.som_model.specs.Same.{same_option, same_sig}
use Rattle.som_model.specs.Class.{Class, entry_name, interface_of}
use Rattle.som_model.specs.Kernel.{kernel}
use Rattle.som_model.specs.Classes.{class_at, interface_classes, ancestors, is_a}
use Rattle.som_model.specs.Owner.{owner, sig_of}
use Rattle.som_model.specs.Metaclass.{meta}
use Rattle.som_model.specs.Conforming.{ReleaseOk}

-- the classes of a release that has this interface, the kernel's first
abbrev pub release_of : Interface → List Class
release_of i = kernel ++ interface_classes i

-- a rule that is broken, the old class, the name of what is lost or changed, where it has one, and its place in the old
pub record CompatBreach : Type 0 where
  pub rule : ℕ
  pub class : List ℕ
  pub name : Option (List ℕ)
  pub place : ℕ

abbrev pub incompatible : ℕ → Class → Option (List ℕ) → ℕ → CompatBreach
incompatible rule c name place = record { rule = rule; class = c.decl.face.name; name = name; place = place }

abbrev pub layer_name : ClassKey-F ClassKey → Option (List ℕ)
layer_name (ClassKey-F.Named m name) = Some name
layer_name (ClassKey-F.Derived ks) = None
layer_name (ClassKey-F.Proxy of) = None

-- the name of a declared class; a made one has none
abbrev pub declared_name : ClassKey → Option (List ℕ)
declared_name k = layer_name (out-ClassKey k)

-- the names of a class's release order
abbrev pub order_of : Class → List (List ℕ)
order_of c = map entry_name c.decl.face.entries

-- those that fail the test, with their places counted from n
abbrev pub failing : {A : Type 0} → (A → Bool) → ℕ → List A → List (A × ℕ)
failing test n [] = []
failing test n (x ∷ xs) = if test x then failing test (n + 1) xs else (x, n) ∷ failing test (n + 1) xs

-- the first of the old names that doesn't stand at its place in the new, with that place, counted from n
abbrev pub first_changed : ℕ → List (List ℕ) → List (List ℕ) → List (List ℕ × ℕ)
first_changed n [] news = []
first_changed n (x ∷ olds) [] = (x, n) ∷ []
first_changed n (x ∷ olds) (y ∷ news) = if bytes_eq x y then first_changed (n + 1) olds news else (x, n) ∷ []

-- the signature of a class's entry, through its owner
abbrev pub signature : List Class → ClassKey → List ℕ → Option Sig
signature cs k name = sig_of cs (owner cs (record { class = k; name = name }))

-- K2: the major version is the same, and the new minor one isn't lower
abbrev pub k2 : Class → Class → List CompatBreach
k2 c n = if (c.decl.face.major == n.decl.face.major) && nat_le c.decl.face.minor n.decl.face.minor then [] else incompatible 2 c None 0 ∷ []

-- K3: each old ancestor is one in the new
abbrev pub k3 : List Class → List Class → Class → List CompatBreach
k3 olds news c = map (λ p. incompatible 3 c (declared_name p.0) p.1) (failing (is_a news c.key) 0 (ancestors olds c.key))

-- K4: the old release order begins the new one
abbrev pub k4 : Class → Class → List CompatBreach
k4 c n = map (λ p. incompatible 4 c (Some p.0) p.1) (first_changed 0 (order_of c) (order_of n))

-- K5: each old entry has the same signature in the old and in the new, in each through its owner there
abbrev pub k5 : List Class → List Class → Class → List CompatBreach
k5 olds news c = map (λ p. incompatible 5 c (Some p.0) p.1) (failing (λ name. same_option same_sig (signature olds c.key name) (signature news c.key name)) 0 (order_of c))

-- K6: the new metaclass descends from the one that the old class declares
abbrev pub k6 : List Class → Class → List CompatBreach
k6 news c = map (λ p. incompatible 6 c (declared_name p.0) p.1) (failing (is_a news (meta news c.key)) 0 (option_list c.decl.face.metaclass))

-- K1: the new has the class; only then are the other rules asked of it
abbrev pub class_breaks : List Class → List Class → Class → List CompatBreach
class_breaks olds news c = elim (class_at news c.key) [
  | None ↦ incompatible 1 c None 0 ∷ []
  | Some n ↦ k2 c n ++ (k3 olds news c ++ (k4 c n ++ (k5 olds news c ++ k6 news c)))
]

-- all that breaks a rule: by the old's class order, then by rule, then by place
abbrev pub breaks : Interface → Interface → List CompatBreach
breaks old new = flat_map (class_breaks (release_of old) (release_of new)) (interface_classes old)

-- the first that breaks a rule
abbrev pub first_break : Interface → Interface → Option CompatBreach
first_break old new = first (breaks old new)

-- nothing breaks a rule
abbrev pub Compatible : Interface → Interface → Type 0
Compatible old new = first_break old new ≡ None

-- what breaks a rule between each and the next, with the number of the newer one
abbrev pub list_breaks : ℕ → List Interface → List (ℕ × CompatBreach)
list_breaks n [] = []
list_breaks n (old ∷ []) = []
list_breaks n (old ∷ new ∷ rest) = map (λ b. (n, b)) (breaks old new) ++ list_breaks (n + 1) (new ∷ rest)

-- each with the next
abbrev pub EachNext : {A : Type 0} → (A → A → Type 0) → List A → Type 0
EachNext R [] = Unit {0}
EachNext R (a ∷ []) = Unit {0}
EachNext R (a ∷ b ∷ rest) = R a b × EachNext R (b ∷ rest)

-- each with every later one
abbrev pub EachLater : {A : Type 0} → (A → A → Type 0) → List A → Type 0
EachLater R [] = Unit {0}
EachLater {A} R (a ∷ rest) = ((b : A) → Mem b rest → R a b) × EachLater R rest

-- releases, at least one, that conform, each accepted against the one before
pub record Accepted (rs : List Release) : Type 0 where
  pub some : rs ≡ [] → ⊥
  pub conform : (r : Release) → Mem r rs → ReleaseOk r
  pub next : EachNext (λ r s. Compatible (interface_of r) (interface_of s)) rs
