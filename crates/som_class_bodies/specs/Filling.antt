-- That what was found out of a class makes its row.
use Rattle.std.specs.Prelude.{◌≡◌, ◌≤◌, ℕ, List, ◌++◌, length, Option, Some, slice_set}
use Rattle.som_tables.specs.Rows.{Added, AreDistinct, AreInherited, GivesTokens, HaveRowsBelow, IsDeclared, KeepsOtherRows, class_with}
use Rattle.som_meta.specs.Numbering.{Numbering}
use Rattle.som_class_bodies.specs.declared.bodies.Draft.{Draft}
use Rattle.som_class_bodies.specs.declared.body.BodyAt.{BodyAt}
use Rattle.som_class_bodies.specs.Bodies.{AreBodies, AreSourced, rows_with}
use Rattle.som_class_bodies.specs.Adding.{AreOthers, AreOwn, AreSelected, cells_from, numbers_from}

-- what a class has of its own for its methods and for those of other classes, and what it selects
pub record IsDraft (k : Numbering) (rows : List (Option (Added ℕ))) (n : ℕ) (d : Draft) : Type 0 where
  pub own : AreOwn k n d.own
  pub others : AreOthers k n d.others
  pub selected : AreSelected k rows n d.selected

-- the row of a class with these parents, whose bodies are added to those before
abbrev pub row_of : List BodyAt → List ℕ → Draft → Added ℕ
row_of before parents d = class_with parents (numbers_from (length before) (length d.own)) (d.selected ++ cells_from (length (before ++ d.own)) d.others)

-- with this row and these bodies the rows are those of the classes again
pub record IsFilling (k : Numbering) (rows : List (Option (Added ℕ))) (before : List BodyAt) (n : ℕ) (parents : List ℕ) (d : Draft) : Type 0 where
  pub few : length (numbers_from (length before) (length d.own)) ≤ 65535
  pub below : HaveRowsBelow n rows parents
  pub above : AreInherited rows parents (d.selected ++ cells_from (length (before ++ d.own)) d.others)
  pub distinct : AreDistinct (d.selected ++ cells_from (length (before ++ d.own)) d.others)
  pub first : AreSourced k (before ++ d.own)
  pub second : AreSourced k (before ++ d.own ++ d.others)
  pub filled : IsDeclared rows n → (now : List (Option (Added ℕ))) → now ≡ slice_set rows n (Some (row_of before parents d)) → KeepsOtherRows rows now n
      → GivesTokens rows now n (row_of before parents d) → AreBodies k (rows_with now (before ++ d.own ++ d.others))
