-- Names with places, of which the first counts.
use Rattle.std.specs.Prelude.{◌≡◌, ℕ, suc, ◌<◌, if◌then◌else◌, List, [], ◌∷◌, map, length, slice_index_or, Option, Some, None, is_some}
use Rattle.std.specs.Str.{bytes_eq}
use Rattle.som_model.specs.Lists.{among}
use Rattle.som_model.specs.Class.{entry_name}
use Rattle.som_model.specs.declared.class.Entry.{Entry}
use Rattle.som_order.specs.Names.{name_at, texts}
use Rattle.som_sema_names.specs.declared.places.Noted.{Noted}
use Rattle.som_sema_names.specs.declared.places.Places.{Places}

-- a name beside a place, as the list has it
pub record At : Type 0 where
  pub name : List ℕ
  pub place : ℕ

abbrev pub at : Noted → At
at n = record { name = n.name.now; place = n.place }

abbrev pub all_at : List Noted → List At
all_at ns = map at ns

-- the first place of a name
abbrev pub first_place : List At → List ℕ → Option ℕ
first_place [] name = None
first_place (p ∷ ps) name = if bytes_eq name p.name then Some p.place else first_place ps name

-- the tables know the first place of each name
pub record Know (ps : List At) (names : List (List ℕ)) (places : List ℕ) : Type 0 where
  pub long : length places ≡ length names
  pub found : (i : ℕ) → i < length names → first_place ps (name_at names i) ≡ Some (slice_index_or places i 0)
  pub same : (name : List ℕ) → among name names ≡ is_some (first_place ps name)

abbrev pub IsKnown : List At → Places → Type 0
IsKnown ps t = Know ps (texts t.names.keys) t.places.items

-- entries at their places, counted from n
abbrev pub counted : ℕ → List Entry → List At
counted n [] = []
counted n (e ∷ es) = record { name = entry_name e; place = n } ∷ counted (suc n) es
