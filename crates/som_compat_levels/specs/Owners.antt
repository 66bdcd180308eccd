-- Entries by their numbers, and where their owners stand.
use Rattle.std.specs.Prelude.{◌≡◌, ◌<◌, ◌≤◌, ℕ, List, [], length, map, slice_get, slice_index_or, Option, Some, None, IsSome}
use Rattle.som_model.specs.declared.key.ClassKey.{ClassKey}
use Rattle.som_model.specs.declared.key.MethodRef.{MethodRef}
use Rattle.som_model.specs.declared.class.Entry.{Entry}
use Rattle.som_model.specs.declared.class.Entry.TheVariants as entries
use Rattle.som_model.specs.Class.{Class, entry_name, entry_of}
use Rattle.som_model.specs.Owner.{owner}
use Rattle.som_order.specs.Names.{name_at}
use Rattle.som_verify_classes.specs.Places.{face_at, key_at}
use Rattle.som_compat_levels.specs.declared.owners.Slot.{Slot}

-- the entry of that number has the name
pub record IsEntryAt (es : List Entry) (name : List ℕ) (number : ℕ) : Type 0 where
  pub within : number < length es
  pub named : name_at (map entry_name es) number ≡ name

-- the number of an entry that has the name, and none where no entry has it
abbrev pub FindsEntry : List Entry → List ℕ → Option ℕ → Type 0
FindsEntry es name (Some n) = IsEntryAt es name n
FindsEntry es name None = (n : ℕ) → IsEntryAt es name n → ⊥

-- the method of the class at a place
abbrev pub method_at : List Class → ℕ → List ℕ → MethodRef
method_at cs p name = record { class = key_at cs p; name = name }

-- a class before the place has the key, and an entry of the name
pub record IsTarget (cs : List Class) (place : ℕ) (name : List ℕ) (to : ClassKey) : Type 0 where
  pub target : ℕ
  pub before : target < place
  pub is : key_at cs target ≡ to
  pub there : IsSome (entry_of (face_at cs target).entries name)
  pub number : ℕ
  pub moved : slice_get (face_at cs place).entries number ≡ Some (entries.Moved name to)

-- where an entry's owner stands: a class no later, with an entry of that name
pub record IsOwner (cs : List Class) (p : ℕ) (e : Entry) (s : Slot) : Type 0 where
  pub low : s.class ≤ p
  pub entry : IsEntryAt (face_at cs s.class).entries (entry_name e) s.entry
  pub owns : owner cs (method_at cs p (entry_name e)) ≡ method_at cs s.class (entry_name e)

-- where the owners of a class's entries stand, in their order
pub record HasOwners (cs : List Class) (p : ℕ) (slots : List Slot) : Type 0 where
  pub long : length slots ≡ length (face_at cs p).entries
  pub by : (i : ℕ) (e : Entry) (d : Slot) → slice_get (face_at cs p).entries i ≡ Some e → IsOwner cs p e (slice_index_or slots i d)

-- where the owners of the entries of the first n classes stand
pub record AreOwners (cs : List Class) (n : ℕ) (all : List (List Slot)) : Type 0 where
  pub long : length all ≡ n
  pub by : (p : ℕ) → p < n → HasOwners cs p (slice_index_or all p [])

-- a slot of one of the classes and of one of its entries
pub record IsSlot (cs : List Class) (s : Slot) : Type 0 where
  pub class : s.class < length cs
  pub entry : s.entry < length (face_at cs s.class).entries
