-- The classes of a run and their methods, as laying sees them.
use Rattle.std.specs.Prelude.{◌≡◌, ℕ, ◌≤◌, List, [], ◌++◌, length}
use Rattle.som_model.specs.declared.key.ClassKey.{ClassKey}
use Rattle.som_model.specs.declared.key.ClassKey.TheVariants as keys
use Rattle.som_model.specs.Lists.{Mem}
use Rattle.som_model.specs.Class.{Class}
use Rattle.som_model.specs.Classes.{hierarchy}
use Rattle.som_model.specs.Implementation.{has_body, selected}
use Rattle.som_model.specs.Kernel.{kernel}
use Rattle.som_model.specs.Loads.{FacesLoad}
use Rattle.som_model.specs.Rules.{s10, s14}
use Rattle.som_meta.specs.Numbering.{AreApart, IsNumbered, Numbering, key_at, method_at, names_of}
use Rattle.som_class_layout_laws.specs.Laying.{Method, Scheme}

-- these classes after the kernel's, and what each number stands for
abbrev pub numbered : List Class → List ClassKey → Numbering
numbered cs ks = record { classes = kernel ++ cs; keys = ks }

-- what counts of the method of a token
abbrev pub method_seen : Numbering → ℕ × ℕ → Method ClassKey
method_seen k t = record { class = (method_at k t).class; has_body = has_body k.classes (method_at k t); chosen = selected k.classes (method_at k t) }

-- the numbered classes and the methods that they introduce
abbrev pub scheme_of : Numbering → Scheme ClassKey
scheme_of k = record { classes = hierarchy k.classes; count = length k.keys; key = key_at k; introduced = λ n. length (names_of k n); method = method_seen k }

-- what laying asks of the classes and their numbers
pub record CanBeLaid (cs : List Class) (ks : List ClassKey) : Type 0 where
  -- the faces can stand together, and each class has a parent
  pub faces : FacesLoad cs
  pub some_parent : (c : Class) → Mem c cs → 1 ≤ length c.decl.face.parents
  -- each override and each select is of a method of a proper ancestor, and there is a body for each introduced entry
  pub inherited : (c : Class) → Mem c cs → s10 (kernel ++ cs) c ≡ []
  pub bodies : (c : Class) → Mem c cs → s14 c ≡ []
  -- no two numbers stand for one class, and proxies are those of declared classes
  pub apart : AreApart (numbered cs ks)
  pub proxies : (n : ℕ) (of : ClassKey) → IsNumbered (numbered cs ks) n → key_at (numbered cs ks) n ≡ keys.Proxy of → (c : Class) × Mem c (kernel ++ cs) × (c.key ≡ of)
