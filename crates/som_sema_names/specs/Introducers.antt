-- The classes that introduce each name, by their places.
use Rattle.std.specs.Prelude.{◌≡◌, ℕ, zero, suc, ◌<◌, ◌==◌, Bool, false, if◌then◌else◌, List, [], ◌∷◌, ◌++◌, map, length, slice_index_or, Option}
use Rattle.std.specs.Str.{bytes_eq}
use Rattle.som_model.specs.Class.{Class}
use Rattle.som_model.specs.Lists.{Mem, among, find, some}
use Rattle.som_order.specs.Names.{name_at, texts}
use Rattle.som_verify_classes.specs.Along.{introduced_at}
use Rattle.som_sema_names.specs.declared.introducers.Introducers.{Introducers}

-- whether the class at a place introduces a name
abbrev pub introduces : List Class → List ℕ → ℕ → Bool
introduces cs name place = among name (introduced_at cs place)

-- the first place on a list whose class introduces a name
abbrev pub first_introducer : List Class → List ℕ → List ℕ → Option ℕ
first_introducer cs list name = find (introduces cs name) list

-- whether a place is one of these
abbrev pub stands : ℕ → List ℕ → Bool
stands place places = some (λ p. place == p) places

-- each name that a class introduces has a list of places, and there stand the classes that introduce it and no others
pub record AreGathered (cs : List Class) (names : List (List ℕ)) (places : List (List ℕ)) : Type 0 where
  pub long : length places ≡ length names
  pub low : (i p : ℕ) → i < length names → Mem p (slice_index_or places i []) → p < length cs
  pub found : (i p : ℕ) → i < length names → p < length cs → stands p (slice_index_or places i []) ≡ introduces cs (name_at names i) p
  pub other : (name : List ℕ) (p : ℕ) → among name names ≡ false → p < length cs → introduces cs name p ≡ false

abbrev pub AreIntroducers : List Class → Introducers → Type 0
AreIntroducers cs w = AreGathered cs (texts w.names.keys) w.places.items

-- ---- as they are gathered

-- a name beside the place of a class that introduces it
pub record At : Type 0 where
  pub name : List ℕ
  pub place : ℕ

-- these names at one place
abbrev pub at_one : ℕ → List (List ℕ) → List At
at_one place names = map (λ name. record { name = name; place = place }) names

-- what the first n classes introduce
abbrev pub at_first : List Class → ℕ → List At
at_first cs zero = []
at_first cs (suc n) = at_first cs n ++ at_one n (introduced_at cs n)

-- the places of a name
abbrev pub places_of : List At → List ℕ → List ℕ
places_of [] name = []
places_of (a ∷ others) name = if bytes_eq a.name name then a.place ∷ places_of others name else places_of others name

-- each name that was seen stands once, with its places in order
pub record AreSeen (seen : List At) (names : List (List ℕ)) (places : List (List ℕ)) : Type 0 where
  pub long : length places ≡ length names
  pub apart : (i j : ℕ) → i < length names → j < length names → name_at names i ≡ name_at names j → i ≡ j
  pub found : (i : ℕ) → i < length names → slice_index_or places i [] ≡ places_of seen (name_at names i)
  pub other : (name : List ℕ) → among name names ≡ false → places_of seen name ≡ []
