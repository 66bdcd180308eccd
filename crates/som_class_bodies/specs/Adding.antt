-- What the row of one class is made of.
use Rattle.std.specs.Prelude.{if◌then◌else◌, ◌≡◌, ◌≢◌, ℕ, zero, suc, true, false, List, [], ◌∷◌, map, Option, Some, IsSome}
use Rattle.som_model.specs.declared.key.ClassKey.{ClassKey}
use Rattle.som_model.specs.Lists.{Mem}
use Rattle.som_model.specs.Implementation.{forwards, has_body, is_kernel, selected}
use Rattle.som_model_laws.proofs.Members.{Apart}
use Rattle.som_tables.specs.Rows.{Added, HasRow, HasToken, inherited}
use Rattle.som_meta.specs.Numbering.{AreTokens, IsNumbered, IsToken, Numbering, key_at, method_at, tokens_of}
use Rattle.som_class_bodies.specs.declared.adding.Way.{Way}
use Rattle.som_class_bodies.specs.declared.adding.Way.TheVariants as ways
use Rattle.som_class_bodies.specs.declared.body.Source.{Source}
use Rattle.som_class_bodies.specs.declared.body.Source.TheVariants as sources
use Rattle.som_class_bodies.specs.declared.body.BodyAt.{BodyAt}
use Rattle.som_class_bodies.specs.Bodies.{IsSourced}

-- the source of the body for a method, which stands at a place among others that stand so
abbrev pub source_of : Way → ℕ × ℕ → ℕ → Source
source_of ways.Introduced t i = sources.Introduced t.1
source_of ways.Overriding t i = sources.Overriding i
source_of ways.Kernel t i = sources.Kernel
source_of ways.Forward t i = sources.Forward
source_of ways.Nothing t i = sources.Nothing

-- the first two methods of SOMObject, which begin and end an object
abbrev pub life : List (ℕ × ℕ)
life = (0, 0) ∷ (0, 1) ∷ []

-- how the bodies stand that a class has for the methods that it introduces
abbrev pub own_way_of : Numbering → ℕ → Way
own_way_of k n = if is_kernel (key_at k n) then ways.Kernel else ways.Introduced

abbrev pub body_at : ℕ → ℕ × ℕ → Source → BodyAt
body_at n t source = record { class = n; method = t; source = source }

-- the bodies of a class for these methods, which stand so in it, the first of them at a place
abbrev pub bodies_from : ℕ → Way → ℕ → List (ℕ × ℕ) → List BodyAt
bodies_from n way i [] = []
bodies_from n way i (t ∷ ts) = body_at n t (source_of way t i) ∷ bodies_from n way (suc i) ts

-- the methods of these bodies
abbrev pub methods_of : List BodyAt → List (ℕ × ℕ)
methods_of xs = map (λ (x : BodyAt). x.method) xs

-- each is a body of the class
abbrev pub AreOfClass : Numbering → ℕ → List BodyAt → Type 0
AreOfClass k n xs = (x : BodyAt) → Mem x xs → (x.class ≡ n) × IsSourced k x

-- the bodies of a class for the methods that it introduces, in their order
pub record AreOwn (k : Numbering) (n : ℕ) (xs : List BodyAt) : Type 0 where
  pub methods : methods_of xs ≡ tokens_of k n
  pub each : AreOfClass k n xs

-- the bodies of a class for methods of other classes: for each for which it has one, once
pub record AreOthers (k : Numbering) (n : ℕ) (xs : List BodyAt) : Type 0 where
  pub each : AreOfClass k n xs
  pub other : (x : BodyAt) → Mem x xs → x.method.0 ≢ n
  pub all : (t : ℕ × ℕ) → IsToken k t → t.0 ≢ n → has_body k.classes (method_at k t) (key_at k n) ≡ true → Mem t (methods_of xs)
  pub apart : Apart (methods_of xs)

-- the tokens of these bodies' methods, each with the body's number, where the first has this number
abbrev pub cells_from : ℕ → List BodyAt → List ((ℕ × ℕ) × ℕ)
cells_from first [] = []
cells_from first (x ∷ xs) = (x.method, first) ∷ cells_from (suc first) xs

-- the numbers from one on, so many
abbrev pub numbers_from : ℕ → ℕ → List ℕ
numbers_from first zero = []
numbers_from first (suc count) = first ∷ numbers_from (suc first) count

-- the parent that a class selects for a method has the method's token in its row
abbrev pub HaveChosen : Numbering → List (Option (Added ℕ)) → ℕ → Type 0
HaveChosen k rows n = (t : ℕ × ℕ) (p : ℕ) → IsToken k t → IsNumbered k p → selected k.classes (method_at k t) (key_at k n) ≡ Some (key_at k p) → HasToken rows p t

-- the cell of a method in the row of the parent that a class selects for it
pub record IsChosenCell (k : Numbering) (rows : List (Option (Added ℕ))) (n : ℕ) (t : ℕ × ℕ) (cell : ℕ) : Type 0 where
  pub parent : ℕ
  pub chosen : selected k.classes (method_at k t) (key_at k n) ≡ Some (key_at k parent)
  pub has_row : HasRow rows parent
  pub is : Some cell ≡ inherited rows parent t

-- the tokens of these cells, and each is such a cell
pub record AreChosen (k : Numbering) (rows : List (Option (Added ℕ))) (n : ℕ) (ts : List (ℕ × ℕ)) (rs : List ((ℕ × ℕ) × ℕ)) : Type 0 where
  pub tokens : map (λ (r : (ℕ × ℕ) × ℕ). r.0) rs ≡ ts
  pub each : (r : (ℕ × ℕ) × ℕ) → Mem r rs → IsChosenCell k rows n r.0 r.1

-- the bodies of a proxy of this class for what it forwards
pub record AreForwarded (k : Numbering) (n : ℕ) (of : ClassKey) (xs : List BodyAt) : Type 0 where
  pub tokens : List (ℕ × ℕ)
  pub are : AreTokens k tokens
  pub methods : map (method_at k) tokens ≡ forwards k.classes of
  pub is : xs ≡ bodies_from n ways.Forward 0 tokens

-- a token, and the cell that it has in the row of the parent which a class selects for it
pub record IsSelected (k : Numbering) (rows : List (Option (Added ℕ))) (n : ℕ) (r : (ℕ × ℕ) × ℕ) : Type 0 where
  pub token : IsToken k r.0
  pub other : r.0.0 ≢ n
  pub no_body : has_body k.classes (method_at k r.0) (key_at k n) ≡ false
  pub cell : IsChosenCell k rows n r.0 r.1

-- so it is of each method for which the class selects a parent, once
pub record AreSelected (k : Numbering) (rows : List (Option (Added ℕ))) (n : ℕ) (rs : List ((ℕ × ℕ) × ℕ)) : Type 0 where
  pub each : (r : (ℕ × ℕ) × ℕ) → Mem r rs → IsSelected k rows n r
  pub all : (t : ℕ × ℕ) → IsToken k t → IsSome (selected k.classes (method_at k t) (key_at k n)) → Mem t (map (λ (r : (ℕ × ℕ) × ℕ). r.0) rs)
  pub apart : Apart (map (λ (r : (ℕ × ℕ) × ℕ). r.0) rs)
