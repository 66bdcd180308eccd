-- A sample of classes: two metaclasses with hooks, and a ladder of two diamonds below classes that have them.
--
--   SOMObject ── SOMClass ── SOMMBeforeAfter ── F, S ── Derived(F, S)
--       └── X (of F), Y (of S) ── D, E ── G
use Rattle.std.specs.Prelude.{◌≡◌, ℕ, List, [], ◌∷◌, codes, Option, Some, None, map}
use Rattle.som_model.specs.declared.key.Module.TheVariants as modules
use Rattle.som_model.specs.declared.key.ClassKey.{ClassKey}
use Rattle.som_model.specs.declared.key.ClassKey.TheVariants as keys
use Rattle.som_model.specs.declared.key.MethodRef.{MethodRef}
use Rattle.som_model.specs.declared.key.ValueType.TheVariants as types
use Rattle.som_model.specs.declared.class.Entry.{Entry}
use Rattle.som_model.specs.declared.class.Entry.TheVariants as entries
use Rattle.som_model.specs.declared.class.Way.TheVariants as ways
use Rattle.som_model.specs.declared.class.Body.TheVariants as bodies
use Rattle.som_model.specs.Class.{Class}
use Rattle.som_model.specs.Kernel.{som_object, som_class, before_after, before_method, after_method}
use Rattle.som_meta.specs.Numbering.{Numbering}

abbrev pub library_key : List ℕ → ClassKey
library_key name = keys.Named modules.Library name

abbrev pub first_meta : ClassKey
first_meta = library_key (codes "F")

abbrev pub second_meta : ClassKey
second_meta = library_key (codes "S")

abbrev pub left : ClassKey
left = library_key (codes "X")

abbrev pub right : ClassKey
right = library_key (codes "Y")

abbrev pub lower : ClassKey
lower = library_key (codes "D")

abbrev pub lower_too : ClassKey
lower_too = library_key (codes "E")

abbrev pub lowest : ClassKey
lowest = library_key (codes "G")

-- the metaclass that is made of both
abbrev pub both : ClassKey
both = keys.Derived (first_meta ∷ second_meta ∷ [])

-- the method of a class by its name
abbrev pub library_method : ClassKey → List ℕ → MethodRef
library_method k name = record { class = k; name = name }

-- a method without parameters
abbrev pub method : List ℕ → Entry
method name = entries.Introduced name (record { result = types.Void; params = [] }) ways.Offset

-- a class with these parents, metaclass, introduced methods, each with a body, and overrides with empty bodies
abbrev pub class : ClassKey → List ℕ → List ClassKey → Option ClassKey → List (List ℕ) → List MethodRef → Class
class key name parents metaclass introduced overridden = record {
  key = key;
  decl = record {
    face = record { name = name; major = 0; minor = 0; parents = parents; metaclass = metaclass; entries = map method introduced };
    variables = [];
    bodies = map (λ n. bodies.Get 0) introduced;
    overrides = map (λ m. record { method = m; block = record { statements = [] } }) overridden;
    selects = [];
  };
}

-- the classes that are declared
abbrev pub classes : List Class
classes =
    class som_object (codes "SOMObject") [] None [] [] ∷
    class som_class (codes "SOMClass") (som_object ∷ []) None [] [] ∷
    class before_after (codes "SOMMBeforeAfter") (som_class ∷ []) None (before_method.name ∷ after_method.name ∷ []) [] ∷
    class first_meta (codes "F") (before_after ∷ []) None [] (before_method ∷ []) ∷
    class second_meta (codes "S") (before_after ∷ []) None [] (after_method ∷ []) ∷
    class left (codes "X") (som_object ∷ []) (Some first_meta) (codes "f" ∷ []) [] ∷
    class right (codes "Y") (som_object ∷ []) (Some second_meta) (codes "g" ∷ []) [] ∷
    class lower (codes "D") (left ∷ right ∷ []) None [] [] ∷
    class lower_too (codes "E") (left ∷ right ∷ []) None (codes "h" ∷ []) [] ∷
    class lowest (codes "G") (lower ∷ lower_too ∷ []) None [] [] ∷
    []

-- the classes by number: the declared ones, and the one that is made
abbrev pub sample : Numbering
sample = record { classes = classes; keys = som_object ∷ som_class ∷ before_after ∷ first_meta ∷ second_meta ∷ left ∷ right ∷ lower ∷ lower_too ∷ lowest ∷ both ∷ [] }

-- the ancestors of each class by number
abbrev pub ancestor_rows : List (List ℕ)
ancestor_rows =
    (0 ∷ []) ∷
    (1 ∷ 0 ∷ []) ∷
    (2 ∷ 1 ∷ 0 ∷ []) ∷
    (3 ∷ 2 ∷ 1 ∷ 0 ∷ []) ∷
    (4 ∷ 2 ∷ 1 ∷ 0 ∷ []) ∷
    (5 ∷ 0 ∷ []) ∷
    (6 ∷ 0 ∷ []) ∷
    (7 ∷ 5 ∷ 0 ∷ 6 ∷ []) ∷
    (8 ∷ 5 ∷ 0 ∷ 6 ∷ []) ∷
    (9 ∷ 7 ∷ 5 ∷ 0 ∷ 6 ∷ 8 ∷ []) ∷
    (10 ∷ 3 ∷ 2 ∷ 1 ∷ 0 ∷ 4 ∷ []) ∷
    []

-- the methods by number that each class has a body of its own for
abbrev pub body_rows : List (List (ℕ × ℕ))
body_rows =
    [] ∷
    [] ∷
    ((2, 0) ∷ (2, 1) ∷ []) ∷
    ((2, 0) ∷ []) ∷
    ((2, 1) ∷ []) ∷
    ((5, 0) ∷ []) ∷
    ((6, 0) ∷ []) ∷
    [] ∷
    ((8, 0) ∷ []) ∷
    [] ∷
    [] ∷
    []

-- the methods by number that each class introduces
abbrev pub token_rows : List (List (ℕ × ℕ))
token_rows =
    [] ∷
    [] ∷
    ((2, 0) ∷ (2, 1) ∷ []) ∷
    [] ∷
    [] ∷
    ((5, 0) ∷ []) ∷
    ((6, 0) ∷ []) ∷
    [] ∷
    ((8, 0) ∷ []) ∷
    [] ∷
    [] ∷
    []

-- the lists are those of the sample
pub record IsSample (ancestors : List (List ℕ)) (introduced bodies : List (List (ℕ × ℕ))) : Type 0 where
  pub ancestors_are : ancestors ≡ ancestor_rows
  pub introduced_are : introduced ≡ token_rows
  pub bodies_are : bodies ≡ body_rows
