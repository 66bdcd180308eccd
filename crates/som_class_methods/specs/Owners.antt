-- The tokens of the methods that entries name, read through their owners.
use Rattle.std.specs.Prelude.{◌≡◌, ℕ, ◌<◌, ◌≤◌, List, [], ◌∷◌, ◌++◌, length, slice_get, slice_index_or, take, Some}
use Rattle.som_model.specs.declared.key.ClassKey.{ClassKey}
use Rattle.som_model.specs.declared.key.MethodRef.{MethodRef}
use Rattle.som_model.specs.declared.class.Entry.{Entry}
use Rattle.som_model.specs.declared.limits.TheConstants.{MAX_ENTRIES}
use Rattle.som_model.specs.Lists.{Mem}
use Rattle.som_model.specs.Class.{Class, entry_name, introduced}
use Rattle.som_model.specs.Kernel.{kernel}
use Rattle.som_model.specs.Loads.{FacesLoad}
use Rattle.som_model.specs.Owner.{owner}
use Rattle.som_meta.specs.Numbering.{IsToken, Numbering, method_at}

-- the kernel's classes, and after them others whose faces can stand together; none has too many entries
pub record AreFaces (all : List Class) : Type 0 where
  pub others : List Class
  pub is : all ≡ kernel ++ others
  pub load : FacesLoad others
  pub counted : (c : Class) → Mem c all → length c.decl.face.entries ≤ MAX_ENTRIES

abbrev pub ref : ClassKey → List ℕ → MethodRef
ref k name = record { class = k; name = name }

-- the token is that of this method
pub record IsTokenOf (k : Numbering) (t : ℕ × ℕ) (r : MethodRef) : Type 0 where
  pub token : IsToken k t
  pub method : method_at k t ≡ r

-- the tokens are those of the owners of these entries of a class
abbrev pub HaveOwners : Numbering → ClassKey → List Entry → List (ℕ × ℕ) → Type 0
HaveOwners k c [] [] = Unit {0}
HaveOwners k c (e ∷ es) (t ∷ ts) = IsTokenOf k t (owner k.classes (ref c (entry_name e))) × HaveOwners k c es ts
HaveOwners k c [] (t ∷ ts) = ⊥
HaveOwners k c (e ∷ es) [] = ⊥

-- so it is of each of the first classes
pub record AreOwned (k : Numbering) (tokens : List (List (ℕ × ℕ))) : Type 0 where
  pub within : length tokens ≤ length k.classes
  pub each : (n : ℕ) (c : Class) → n < length tokens → slice_get k.classes n ≡ Some c → HaveOwners k c.key c.decl.face.entries (slice_index_or tokens n [])

-- a declared class of a lower number has this key
pub record IsBefore (k : Numbering) (m : ℕ) (key : ClassKey) : Type 0 where
  pub number : ℕ
  pub class : Class
  pub lower : number < m
  pub there : slice_get k.classes number ≡ Some class
  pub is : class.key ≡ key

-- an entry of a declared class, with how many methods the entries before it introduce
pub record IsEntry (k : Numbering) (n : ℕ) (e : Entry) (own : ℕ) : Type 0 where
  pub class : Class
  pub there : slice_get k.classes n ≡ Some class
  pub place : ℕ
  pub at_place : slice_get class.decl.face.entries place ≡ Some e
  pub own_is : own ≡ length (introduced (take place class.decl.face.entries))

-- these are the entries of a declared class
pub record HasEntries (k : Numbering) (n : ℕ) (es : List Entry) : Type 0 where
  pub class : Class
  pub there : slice_get k.classes n ≡ Some class
  pub is : class.decl.face.entries ≡ es
