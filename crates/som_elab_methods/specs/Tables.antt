-- The methods of an interface that may have bodies, and those that have some, in tables of names.
use Rattle.std.specs.Prelude.{◌≡◌, ℕ, suc, Bool, true, false, List, [], ◌∷◌}
use Rattle.som_model.specs.declared.class.Override.{Override}
use Rattle.som_model.specs.Lists.{among}
use Rattle.som_ast.specs.declared.body.BodyText.{BodyText}
use Rattle.som_sema_names.specs.Noted.{At}
use Rattle.som_elab_methods.specs.Accessors.{Access}
use Rattle.som_elab_methods.specs.Bodies.{texts_for}

-- a table has these names and no others
abbrev pub HaveNames : List (List ℕ) → List (List ℕ) → Type 0
HaveNames names table = (name : List ℕ) → among name table ≡ among name names

-- the names of overridden methods with their places, counted from n
abbrev pub replaced : ℕ → List Override → List At
replaced n [] = []
replaced n (o ∷ os) = record { name = o.method.name; place = n } ∷ replaced (suc n) os

-- the names of accessors with their places, counted from n
abbrev pub accessed : ℕ → List Access → List At
accessed n [] = []
accessed n (a ∷ xs) = record { name = a.name; place = n } ∷ accessed (suc n) xs

-- whether there is a body, and whether there are two or more
abbrev pub is_any : List BodyText → Bool
is_any [] = false
is_any (b ∷ bs) = true

abbrev pub are_two : List BodyText → Bool
are_two [] = false
are_two (b ∷ bs) = is_any bs

-- one table has the methods of a class that have bodies, the other those that have two or more
pub record AreCounted (bs : List BodyText) (class : List ℕ) (all repeated : List (List ℕ)) : Type 0 where
  pub any : (name : List ℕ) → among name all ≡ is_any (texts_for bs class name)
  pub two : (name : List ℕ) → among name repeated ≡ are_two (texts_for bs class name)
