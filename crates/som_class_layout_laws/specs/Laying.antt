-- Rows of methods that are filled class by class, over any names of classes.
use Rattle.std.specs.Prelude.{◌≡◌, ◌≢◌, ℕ, ◌<◌, Bool, true, false, List, map, Option, Some, None, slice_get}
use Rattle.som_model.specs.Hierarchy.{Hierarchy, Falls, Tells}
use Rattle.som_model.specs.Ancestors.{Descends}
use Rattle.som_model.specs.Resolution.{Chooses, answer}
use Rattle.som_tables.specs.Rows.{Added, HasRow, HaveRowsBelow, ParentsComeFirst, inherited, replaced_at}

-- what counts of a method: the class that introduces it, which classes have a body of their own for it, and which parent a class chose for it
pub record Method (K : Type 0) : Type 0 where
  pub class : K
  pub has_body : K → Bool
  pub chosen : K → Option K

-- the class that introduces it has a body, and who chooses, chooses a parent that descends from that class
pub record IsMethod {K : Type 0} (h : Hierarchy K) (m : Method K) : Type 0 where
  pub own : m.has_body m.class ≡ true
  pub picks : Chooses h m.chosen m.class

-- the class whose body a class has for a method; none where it doesn't descend from the one that introduces it
abbrev pub answerer : {K : Type 0} → Hierarchy K → Method K → K → Option K
answerer h m x = answer h m.has_body m.chosen m.class x

-- classes with numbers, and the methods of their tokens: a token is a class and a place among the methods that it introduces
pub record Scheme (K : Type 0) : Type 0 where
  pub classes : Hierarchy K
  -- how many have a number, and which class a number stands for
  pub count : ℕ
  pub key : ℕ → K
  -- how many methods each introduces, and which method is that of a token
  pub introduced : ℕ → ℕ
  pub method : ℕ × ℕ → Method K

abbrev pub IsToken : {K : Type 0} → Scheme K → ℕ × ℕ → Type 0
IsToken s t = (t.0 < s.count) × (t.1 < s.introduced t.0)

-- parents stand lower, no two numbers stand for one class, and the class of a token introduces its method
pub record IsScheme {K : Type 0} (s : Scheme K) : Type 0 where
  pub falls : Falls s.classes
  pub tells : Tells s.classes
  pub apart : (m n : ℕ) → m < s.count → n < s.count → s.key m ≡ s.key n → m ≡ n
  pub methods : (t : ℕ × ℕ) → IsToken s t → IsMethod s.classes (s.method t)
  pub introducer : (t : ℕ × ℕ) → IsToken s t → (s.method t).class ≡ s.key t.0
  -- a numbered class that has a body descends from the one that introduces the method
  pub below : (t : ℕ × ℕ) (n : ℕ) → IsToken s t → n < s.count → (s.method t).has_body (s.key n) ≡ true → Descends s.classes (s.key n) (s.method t).class

-- what the cells are: a cell is the body of a class for a token
abbrev pub Bodies : Type 0 → Type 0
Bodies K = ℕ → Option (K × (ℕ × ℕ))

abbrev pub IsBody : {K : Type 0} → Bodies K → ℕ → K → ℕ × ℕ → Type 0
IsBody bodies b y t = bodies b ≡ Some (y, t)

-- the cell is the body of the class that answers, or there is neither
abbrev pub Answers : {K : Type 0} → Bodies K → ℕ × ℕ → Option ℕ → Option K → Type 0
Answers bodies t None None = Unit {0}
Answers bodies t (Some b) (Some y) = IsBody bodies b y t
Answers bodies t None (Some y) = ⊥
Answers bodies t (Some b) None = ⊥

-- each row has for each token the body of the class that answers, and has no cell where none does
pub record IsLaid {K : Type 0} (s : Scheme K) (bodies : Bodies K) (rows : List (Option (Added ℕ))) : Type 0 where
  pub order : ParentsComeFirst rows
  pub numbered : (n : ℕ) → HasRow rows n → n < s.count
  pub cells : (n : ℕ) (t : ℕ × ℕ) → HasRow rows n → IsToken s t → Answers bodies t (inherited rows n t) (answerer s.classes (s.method t) (s.key n))

-- what replaces the cell of a token in the row of class n
pub record Replaces {K : Type 0} (s : Scheme K) (bodies : Bodies K) (rows : List (Option (Added ℕ))) (n : ℕ) (t : ℕ × ℕ) (cell : Option ℕ) : Type 0 where
  -- a body of the class's own for a method of another class
  pub body : t.0 ≢ n → (s.method t).has_body (s.key n) ≡ true → (b : ℕ) × (cell ≡ Some b) × IsBody bodies b (s.key n) t
  -- or else what the parent that it chose has
  pub chosen : (p : K) → (s.method t).has_body (s.key n) ≡ false → (s.method t).chosen (s.key n) ≡ Some p → (q : ℕ) × (s.key q ≡ p) × HasRow rows q × (cell ≡ inherited rows q t)
  -- or else nothing
  pub nothing : (s.method t).has_body (s.key n) ≡ false → (s.method t).chosen (s.key n) ≡ None → cell ≡ None
  pub own : t.0 ≡ n → cell ≡ None

-- what the row of class n is made of
pub record IsRow {K : Type 0} (s : Scheme K) (bodies : Bodies K) (rows : List (Option (Added ℕ))) (n : ℕ) (a : Added ℕ) : Type 0 where
  pub numbered : n < s.count
  -- its parents, from left to right, have rows
  pub parents : map s.key a.parents ≡ s.classes.parents (s.key n)
  pub below : HaveRowsBelow n rows a.parents
  -- its own cells are its bodies for the methods that it introduces
  pub own : (i : ℕ) → i < s.introduced n → (b : ℕ) × (slice_get a.introduced i ≡ Some b) × IsBody bodies b (s.key n) (n, i)
  pub replaced : (t : ℕ × ℕ) → IsToken s t → Replaces s bodies rows n t (replaced_at a.replaced t)
