-- Bodies that are put together by classes.
use Rattle.std.specs.Prelude.{◌≡◌, ℕ, zero, suc, ◌<◌, false, List, [], ◌∷◌, ◌++◌, length, map, slice_index_or}
use Rattle.std.specs.Borrow.{Bor}
use Rattle.som_model.specs.Lists.{among}
use Rattle.som_order.specs.Names.{name_at}
use Rattle.som_ast.specs.declared.body.BodyText.{BodyText}
use Rattle.som_elab_methods.specs.Texts.{given, of_class}

-- the bodies of each group
abbrev pub groups_of : List (List (Bor BodyText)) → List (List BodyText)
groups_of gs = map given gs

-- each class that has bodies has a place, no class has two, and there its bodies stand in order
pub record AreGrouped (bs : List BodyText) (names : List (List ℕ)) (groups : List (List BodyText)) : Type 0 where
  pub long : length groups ≡ length names
  pub apart : (i j : ℕ) → i < length names → j < length names → name_at names i ≡ name_at names j → i ≡ j
  pub found : (i : ℕ) → i < length names → slice_index_or groups i [] ≡ of_class bs (name_at names i)
  pub other : (name : List ℕ) → among name names ≡ false → of_class bs name ≡ []

-- one body more at the end of the group at a place
abbrev pub more_at : List (List BodyText) → ℕ → BodyText → List (List BodyText)
more_at [] place b = []
more_at (g ∷ gs) zero b = (g ++ b ∷ []) ∷ gs
more_at (g ∷ gs) (suc place) b = g ∷ more_at gs place b
