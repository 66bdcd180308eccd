-- Classes by their names.
use Rattle.std.specs.Prelude.{◌≡◌, ℕ, ◌<◌, ◌≤◌, List, [], map, length, Option, Some, None, slice_index_or}
use Rattle.std.specs.BTreeMap.{get}
use Rattle.std.specs.Cmp.Lexicographic.{slice_cmp}
use Rattle.std.specs.Ordering.{nat_cmp}
use Rattle.som_class_ids.specs.declared.keyed.Keyed.{Keyed}
use Rattle.som_class_ids.specs.declared.names.Names.{Names}

-- the names of the classes' faces
abbrev pub face_names : List Keyed → List (List ℕ)
face_names ks = map (λ (k : Keyed). k.decl.face.name) ks

-- the last class of a name
abbrev pub last_of : Names → List ℕ → Option ℕ
last_of t name = get (slice_cmp nat_cmp) t.last name

-- the name at a place
abbrev pub name_at : List (List ℕ) → ℕ → List ℕ
name_at names n = slice_index_or names n []

-- from the last class of a name one comes to all of that name, and to no other, each time to one that stands before
pub record AreNoted (names : List (List ℕ)) (t : Names) : Type 0 where
  pub long : length t.earlier ≡ length names
  pub last_is : (name : List ℕ) (h : ℕ) → last_of t name ≡ Some h → (h < length names) × (name_at names h ≡ name)
  pub last : (n : ℕ) → n < length names → (h : ℕ) × (last_of t (name_at names n) ≡ Some h) × (n ≤ h)
  pub earlier_is : (h e : ℕ) → h < length names → slice_index_or t.earlier h None ≡ Some e → (e < h) × (name_at names e ≡ name_at names h)
  pub earlier : (n h : ℕ) → n < h → h < length names → name_at names n ≡ name_at names h → (e : ℕ) × (slice_index_or t.earlier h None ≡ Some e) × (n ≤ e)
