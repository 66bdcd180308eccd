-- The only ancestor that introduces a name, by marks of ancestors.
use Rattle.std.specs.Prelude.{◌≡◌, ℕ, ◌<◌, ◌==◌, Bool, true, false, not, if◌then◌else◌, List, [], length, slice_index_or}
use Rattle.som_model.specs.Class.{Class}
use Rattle.som_model.specs.Lists.{Mem}
use Rattle.som_sema_names.specs.Introducers.{AreIntroducers, introduces, stands}
use Rattle.som_sema_names.specs.declared.search.MethodSearch.{MethodSearch}

-- whether a place is marked in a row, which may be short
abbrev pub is_marked : List Bool → ℕ → Bool
is_marked row place = slice_index_or row place false

-- a row marks the places on a list and no others
abbrev pub IsRow : List ℕ → List Bool → Type 0
IsRow list row = (place : ℕ) → is_marked row place ≡ stands place list

-- each list has a row
pub record AreRows (lists : List (List ℕ)) (rows : List (List Bool)) : Type 0 where
  pub long : length rows ≡ length lists
  pub by : (i : ℕ) → i < length lists → IsRow (slice_index_or lists i []) (slice_index_or rows i [])

-- whether a place other than this is marked
abbrev pub is_other : List Bool → ℕ → ℕ → Bool
is_other row place p = if is_marked row p then not (p == place) else false

-- the classes that introduce each name, and a row for each list of ancestors
pub record IsSearch (cs : List Class) (lists : List (List ℕ)) (s : MethodSearch) : Type 0 where
  pub introducers : AreIntroducers cs s.introducers.now
  pub rows : AreRows lists s.rows.now
  pub low : (i p : ℕ) → Mem p (slice_index_or lists i []) → p < length cs

-- a place on a list, where no class at another place introduces the name
pub record IsOnly (cs : List Class) (list : List ℕ) (name : List ℕ) (place : ℕ) : Type 0 where
  pub on : Mem place list
  pub only : (p : ℕ) → Mem p list → introduces cs name p ≡ true → p ≡ place
