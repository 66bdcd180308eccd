-- The values of the meaning that cells stand for.
use Rattle.std.specs.Prelude.{◌≡◌, ℕ, suc, ◌==◌, ◌<◌, if◌then◌else◌, List, [], ◌∷◌, length, map, get_or, Option, Some, None}
use Rattle.som_model.specs.declared.key.ClassKey.{ClassKey}
use Rattle.som_model.specs.Kernel.{som_object}
use Rattle.som_semantics.specs.State.{Value, Long, Boolean, Str, Nil, To, Ref, Object, ClassObject, Manager}
use Rattle.som_objects.specs.declared.cell.Cell.{Cell}
use Rattle.som_objects.specs.declared.cell.Cell.TheVariants as cells
use Rattle.som_values.specs.declared.reference.Reference.{Reference}
use Rattle.som_values.specs.declared.reference.Reference.TheVariants as references

-- how cells are shown as values: the key of each class number, and the serials of a task's objects, in the order in which it made them
pub record Showing : Type 0 where
  pub keys : List ClassKey
  pub serials : List ℕ

-- the key that a class number stands for
abbrev pub key_of : List ClassKey → ℕ → ClassKey
key_of keys n = get_or keys n som_object

-- the place of a serial among the task's; their number, where it isn't among them
abbrev pub place_of : List ℕ → ℕ → ℕ
place_of [] n = 0
place_of (x ∷ xs) n = if x == n then 0 else suc (place_of xs n)

-- the reference of the meaning that a reference stands for
abbrev pub shown_ref : Showing → Reference → Ref
shown_ref s (references.Object r) = Object (place_of s.serials r.serial)
shown_ref s (references.Class n) = ClassObject (key_of s.keys n)
shown_ref s references.Manager = Manager

-- the value of the meaning that a cell stands for
abbrev pub shown : Showing → Cell → Value
shown s (cells.Long z) = Long z
shown s (cells.Boolean b) = Boolean b
shown s (cells.Str t) = Str t
shown s cells.EmptyStr = Str []
shown s cells.Nil = Nil
shown s (cells.Object r) = To (Object (place_of s.serials r.serial))
shown s (cells.Class n) = To (ClassObject (key_of s.keys n))
shown s cells.Manager = To Manager

-- the values of cells, one by one
abbrev pub all_shown : Showing → List Cell → List Value
all_shown s cs = map (shown s) cs

-- a class has the number
abbrev pub IsNumbered : List ClassKey → ℕ → Type 0
IsNumbered keys n = n < length keys

-- a class has the key
abbrev pub IsKey : List ClassKey → ClassKey → Type 0
IsKey keys k = (n : ℕ) × IsNumbered keys n × (key_of keys n ≡ k)

-- the serial is that of one of the task's objects
abbrev pub IsMade : List ℕ → ℕ → Type 0
IsMade serials n = place_of serials n < length serials

-- what a cell names is known: an object is one of the task's, and a class has the number
abbrev pub IsSeen : Showing → Cell → Type 0
IsSeen s (cells.Object r) = IsMade s.serials r.serial
IsSeen s (cells.Class n) = IsNumbered s.keys n
IsSeen s _ = Unit {0}

abbrev pub IsSeenRef : Showing → Reference → Type 0
IsSeenRef s (references.Object r) = IsMade s.serials r.serial
IsSeenRef s (references.Class n) = IsNumbered s.keys n
IsSeenRef s references.Manager = Unit {0}

-- no two numbers stand for one class
abbrev pub AreApart : List ClassKey → Type 0
AreApart keys = (m n : ℕ) → IsNumbered keys m → IsNumbered keys n → key_of keys m ≡ key_of keys n → m ≡ n

-- the reference that a cell holds
abbrev pub reference_in : Cell → Option Reference
reference_in (cells.Object r) = Some (references.Object r)
reference_in (cells.Class n) = Some (references.Class n)
reference_in cells.Manager = Some references.Manager
reference_in _ = None

-- the cell that holds a reference
abbrev pub cell_of : Reference → Cell
cell_of (references.Object r) = cells.Object r
cell_of (references.Class n) = cells.Class n
cell_of references.Manager = cells.Manager

-- cells are shown so where classes have these numbers
abbrev pub showing : List ClassKey → List ℕ → Showing
showing keys serials = record { keys = keys; serials = serials }
