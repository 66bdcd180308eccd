-- The first argument, as a cell and as a value.
use Rattle.std.proofs.Common.{◌≡◌, ℕ, ℤ, List, [], ◌∷◌, Option, Some, None, slice_get, refl, sym, ap, ◌∙◌}
use Rattle.std.specs.List.{All}
use Rattle.std.specs.Option.{is_some, IfSome, IfNone}
use Rattle.som_model.specs.declared.key.MethodRef.{MethodRef}
use Rattle.som_semantics.specs.World.{World}
use Rattle.som_semantics.specs.State.{Long, Str}
use Rattle.som_semantics.specs.Values.{text_of, number_of}
use Rattle.som_semantics.specs.Invoked.{first_argument, further_arguments, class_found, version_fits}
use Rattle.som_objects.specs.declared.cell.Cell.{Cell}
use Rattle.som_objects.specs.declared.cell.Cell.TheVariants as cells
use Rattle.som_values.specs.Shown.{Showing, shown, all_shown}
use Rattle.som_values.proofs.Keeping.{no_some, same_some}
use Rattle.som_interp_state.proofs.Lists.{all_head}
use Rattle.som_interp_builtins.specs.Arguments.{first_cell, further_cells}

pub first_value : (s : Showing) (cs : List Cell) → first_argument (all_shown s cs) ≡ shown s (first_cell cs)
first_value s [] = refl
first_value s (c ∷ cs) = refl

pub further_values : (s : Showing) (cs : List Cell) → further_arguments (all_shown s cs) ≡ all_shown s (further_cells cs)
further_values s [] = refl
further_values s (c ∷ cs) = refl

pub first_there : (cs : List Cell) (c : Cell) → slice_get cs 0 ≡ Some c → first_cell cs ≡ c
first_there [] c e = absurd (no_some e)
first_there (d ∷ cs) c e = same_some e

pub none_there : (cs : List Cell) → slice_get cs 0 ≡ None → first_cell cs ≡ cells.Nil
none_there [] e = refl
none_there (d ∷ cs) e = absurd (no_some (sym e))

-- what holds of all arguments, and of nil, holds of the first
pub first_holds : (P : Cell → Type 0) (cs : List Cell) → P cells.Nil → All P cs → P (first_cell cs)
first_holds P [] nil all = nil
first_holds P (c ∷ cs) nil all = all_head P c cs all

-- the number after the first argument
pub next_number : (s : Showing) (cs ds : List Cell) (z : ℤ) → ds ≡ further_cells cs → z ≡ number_of (first_argument (all_shown s ds)) → z ≡ number_of (first_argument (further_arguments (all_shown s cs)))
next_number s cs ds z e is = is ∙ ap (λ l. number_of (first_argument (all_shown s l))) e ∙ ap (λ l. number_of (first_argument l)) (sym (further_values s cs))

-- a class is found by the first argument's text and the numbers of the two after it
pub found_by : (w : World) (s : Showing) (cs ds es : List Cell) (name : List ℕ) (major minor : ℤ) → name ≡ text_of (first_argument (all_shown s cs))
    → ds ≡ further_cells cs → major ≡ number_of (first_argument (all_shown s ds)) → es ≡ further_cells ds → minor ≡ number_of (first_argument (all_shown s es))
    → class_found w (Str name ∷ Long major ∷ Long minor ∷ []) ≡ class_found w (all_shown s cs)
found_by w s cs ds es name major minor n d a e i =
    let vs = all_shown s cs in
    let second : major ≡ number_of (first_argument (further_arguments vs)) = next_number s cs ds major d a in
    let third : minor ≡ number_of (first_argument (further_arguments (further_arguments vs))) =
    next_number s ds es minor e i ∙ ap (λ l. number_of (first_argument (further_arguments (all_shown s l)))) d ∙ ap (λ l. number_of (first_argument (further_arguments l))) (sym (further_values s cs)) in
    ap (λ t. class_found w (Str t ∷ Long major ∷ Long minor ∷ [])) n
    ∙ ap (λ z. class_found w (Str (text_of (first_argument vs)) ∷ Long z ∷ Long minor ∷ [])) second
    ∙ ap (λ z. class_found w (Str (text_of (first_argument vs)) ∷ Long (number_of (first_argument (further_arguments vs))) ∷ Long z ∷ [])) third

-- a version is compared with the numbers of the first two arguments
pub version_by : (s : Showing) (cs ds : List Cell) (given meant : ℕ × ℕ) (major minor : ℤ) → given ≡ meant → major ≡ number_of (first_argument (all_shown s cs)) → ds ≡ further_cells cs → minor ≡ number_of (first_argument (all_shown s ds))
    → version_fits given major minor ≡ version_fits meant (number_of (first_argument (all_shown s cs))) (number_of (first_argument (further_arguments (all_shown s cs))))
version_by s cs ds given meant major minor v a d b =
    ap (λ x. version_fits x major minor) v
    ∙ ap (λ z. version_fits meant z minor) a
    ∙ ap (λ z. version_fits meant (number_of (first_argument (all_shown s cs))) z) (next_number s cs ds minor d b)

-- a method is found where there is one
pub found_is : (T : ℕ × ℕ → Type 0) (method : ℕ × ℕ → MethodRef) (found : Option (ℕ × ℕ)) (meant : Option MethodRef) → IfSome found (λ t. T t × (meant ≡ Some (method t))) → IfNone found (meant ≡ None) → is_some found ≡ is_some meant
found_is T method (Some t) meant some none = ap (λ o. is_some o) (sym some.1)
found_is T method None meant some none = ap (λ o. is_some o) (sym none)
