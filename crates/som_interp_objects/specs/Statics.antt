-- The variables of class objects, in their cells.
use Rattle.std.specs.Prelude.{◌≡◌, ◌≢◌, ℕ, ◌<◌, List, length, Option, Some, None, slice_get, slice_set}
use Rattle.std.specs.Option.{option_flatten}
use Rattle.som_model.specs.declared.key.ClassKey.{ClassKey}
use Rattle.som_semantics.specs.State.{zeros}
use Rattle.som_objects.specs.declared.cell.Cell.{Cell}
use Rattle.som_interp_state.specs.Settings.{Linked}
use Rattle.som_interp_objects.specs.Cells.{IsAt, IsPlain, AreZero}

-- the cells of each class object, by the numbers of the classes
abbrev pub Statics : Type 0
Statics = List (Option (List Cell))

-- the cells of the class object of this class; it has none as long as it wasn't written
abbrev pub cells_of : Statics → ℕ → Option (List Cell)
cells_of statics n = option_flatten (slice_get statics n)

-- each class object has the same cells
abbrev pub AreAlike : Statics → Statics → Type 0
AreAlike old new = (i : ℕ) → cells_of new i ≡ cells_of old i

-- each class object but this one has the same cells
abbrev pub AreAlikeElse : ℕ → Statics → Statics → Type 0
AreAlikeElse n old new = (i : ℕ) → i ≢ n → cells_of new i ≡ cells_of old i

-- the cells of a class object, where it has any, have one for each variable that has a place
abbrev pub IsWholeClass : Linked → Statics → ℕ → Type 0
IsWholeClass l statics of = (cs : List Cell) (c : ClassKey) (n p : ℕ) → cells_of statics of ≡ Some cs → l.statics of c n ≡ Some p → p < length cs

-- what a class object has for a variable: what its cell has, or the zero value
abbrev pub IsOfCells : Linked → Option (List Cell) → ℕ → ClassKey → ℕ → Cell → Type 0
IsOfCells l (Some cs) of c n cell = IsAt (l.statics of c n) cs (zeros l.world c n) cell
IsOfCells l None of c n cell = IsPlain cell (zeros l.world c n)

abbrev pub IsOfClassObject : Linked → Statics → ℕ → ClassKey → ℕ → Cell → Type 0
IsOfClassObject l statics of c n cell = IsOfCells l (cells_of statics of) of c n cell

-- the cells with which a class object goes on: those that it has, or those of zero values
abbrev pub GoesOnWith : Linked → ℕ → Option (List Cell) → List Cell → Type 0
GoesOnWith l of (Some ds) cs = ds ≡ cs
GoesOnWith l of None cs = AreZero l (l.statics of) cs

-- the class object has cells, which are those that it had or of zero values, and the others' stay
abbrev pub IsBegun : Linked → ℕ → Statics → Statics → Type 0
IsBegun l of old new = (cs : List Cell) × (cells_of new of ≡ Some cs) × GoesOnWith l of (cells_of old of) cs × AreAlikeElse of old new

-- the cell at the variable's place has changed, and the others' stay
abbrev pub IsPut : Linked → Statics → Statics → ℕ → ClassKey → ℕ → Cell → Type 0
IsPut l old new of c n cell =
    (cs : List Cell) × (p : ℕ) × (l.statics of c n ≡ Some p) × GoesOnWith l of (cells_of old of) cs
    × (cells_of new of ≡ Some (slice_set cs p cell)) × AreAlikeElse of old new
