-- What the numbers of classes stand for.
use Rattle.std.specs.Prelude.{Bool, ◌≡◌, ◌≢◌, if◌then◌else◌, ℕ, ◌+◌, ◌<◌, ◌≤◌, List, [], ◌∷◌, ◌++◌, map, length, drop, get_or, slice_get, slice_index_or, Some}
use Rattle.som_model.specs.declared.key.ClassKey.{ClassKey}
use Rattle.som_model.specs.declared.key.ClassKey.TheVariants as keys
use Rattle.som_model.specs.Lists.{some}
use Rattle.som_model.specs.Keys.{same_key}
use Rattle.som_model.specs.Class.{Class}
use Rattle.som_model.specs.Classes.{hierarchy}
use Rattle.som_model.specs.Kernel.{som_object}
use Rattle.som_model.specs.Loads.{keys_of}
use Rattle.som_model.specs.Metaclass.{rank}
use Rattle.som_model_laws.specs.Rows.{AreAncestors, AreMarks, AreLow}
use Rattle.som_meta.specs.Numbering.{AreApart, IsNumbered, Numbering, key_at}
use Rattle.som_class_ids.specs.declared.keyed.Keyed.{Keyed}
use Rattle.som_class_ids.specs.declared.position.Kind.{Kind}
use Rattle.som_class_ids.specs.declared.position.Kind.TheVariants as kinds
use Rattle.som_class_ids.specs.declared.position.Position.{Position}
use Rattle.som_class_ids.specs.Classes.{AreDeclared, classes_of}
use Rattle.som_class_ids.specs.declared.names.Names.{Names}
use Rattle.som_class_ids.specs.Names.{AreNoted, face_names}
use Rattle.som_class_ids.specs.declared.made_table.MadeTable.{MadeTable}
use Rattle.som_class_ids.specs.Levels.{highest_of}
use Rattle.som_class_ids.specs.Made.{AreListed}
use Rattle.som_class_ids.specs.Positions.{lists, rows}

-- the key that a number stands for
abbrev pub at : List ClassKey → ℕ → ClassKey
at ks n = get_or ks n som_object

abbrev pub first_key : List ClassKey → ClassKey
first_key [] = som_object
first_key (k ∷ ks) = k

-- the key of a class that is made of these
abbrev pub made_key : Kind → List ClassKey → ClassKey
made_key kinds.Declared ks = som_object
made_key kinds.Derived ks = keys.Derived ks
made_key kinds.Proxy ks = keys.Proxy (first_key ks)

-- the key of a class by the numbers of its parents
abbrev pub position_key : List ClassKey → Position → ClassKey
position_key ks p = made_key p.kind (map (at ks) p.parents)

-- these keys, and then those of made classes, each by the keys before it
abbrev pub keys_with : List ClassKey → List Position → List ClassKey
keys_with ks [] = ks
keys_with ks (p ∷ ps) = keys_with (ks ++ position_key ks p ∷ []) ps

-- the keys of the declared classes, and then those of the made ones
abbrev pub keys_by : List Class → List Position → List ClassKey
keys_by cs ps = keys_with (keys_of cs) (drop (length cs) ps)

-- the classes, and what each number stands for
abbrev pub numbering_of : List Keyed → List Position → Numbering
numbering_of ks ps = record { classes = classes_of ks; keys = keys_by (classes_of ks) ps }

-- the first numbers have positions: parents have lower numbers and are those of the hierarchy, ancestors are listed in order, those of declared classes told by marks, and ranks are those of the definition
pub record ArePlaced (cs : List Class) (ks : List ClassKey) (ps : List Position) : Type 0 where
  pub within : length ps ≤ length ks
  pub low : AreLow (rows ps)
  pub parents : (n : ℕ) → n < length ps → map (at ks) (slice_index_or (rows ps) n []) ≡ (hierarchy cs).parents (at ks n)
  pub ancestors : AreAncestors (rows ps) (length ps) (lists ps)
  pub marks : (n : ℕ) (p : Position) → slice_get ps n ≡ Some p → p.kind ≡ kinds.Declared → AreMarks p.marks p.ancestors × (length p.marks ≡ n + 1)
  pub ranks : (n : ℕ) (p : Position) → slice_get ps n ≡ Some p → p.rank ≡ rank cs (at ks n)

-- each number has a position, no two numbers stand for one class, and the made ones are what they are made of
pub record IsNumbers (cs : List Class) (ps : List Position) : Type 0 where
  pub declared : AreDeclared cs
  pub few : length ps < 4294967296
  pub first : length cs ≤ length ps
  pub each : length ps ≡ length (keys_by cs ps)
  pub placed : ArePlaced cs (keys_by cs ps) ps
  pub apart : AreApart (record { classes = cs; keys = keys_by cs ps })
  pub made : (n : ℕ) (p : Position) → length cs ≤ n → slice_get ps n ≡ Some p → (p.kind ≢ kinds.Declared) × (at (keys_by cs ps) n ≡ position_key (keys_by cs ps) p)

-- the classes have numbers; the declared ones are found by their names, and the made ones by what they are made of; no class is marked
pub record AreKept (ks : List Keyed) (ps : List Position) (names : Names) (highest : ℕ) (table : MadeTable) (marks : List Bool) : Type 0 where
  pub numbers : IsNumbers (classes_of ks) ps
  pub noted : AreNoted (face_names ks) names
  pub highest_is : highest ≡ highest_of (classes_of ks)
  pub listed : AreListed (length ks) ps table
  pub unmarked : AreMarks marks []

-- the numbers where the class of a key has one: its own, or the one that comes next
unfoldable pub with_key : Numbering → ClassKey → Numbering
with_key k key = if some (same_key key) k.keys then k else record { classes = k.classes; keys = k.keys ++ key ∷ [] }

-- the declared classes have the first numbers
pub record AreFirst (k : Numbering) : Type 0 where
  pub numbered : (n : ℕ) (c : Class) → slice_get k.classes n ≡ Some c → IsNumbered k n
  pub key : (n : ℕ) (c : Class) → slice_get k.classes n ≡ Some c → key_at k n ≡ c.key

-- the class is that of the proxies of its one parent
pub record IsProxy (k : Numbering) (n : ℕ) : Type 0 where
  pub of : ClassKey
  pub parents : (hierarchy k.classes).parents (key_at k n) ≡ of ∷ []
  pub key : key_at k n ≡ keys.Proxy of
