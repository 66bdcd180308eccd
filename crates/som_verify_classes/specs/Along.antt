-- What classes introduce, by their places.
use Rattle.std.specs.Prelude.{ℕ, List, [], map, flat_map}
use Rattle.std.specs.Str.{bytes_eq}
use Rattle.som_model.specs.Lists.{doubles}
use Rattle.som_model.specs.Class.{Class, introduced}
use Rattle.som_model.specs.Rules.{RuleBreach, breach}
use Rattle.som_verify_classes.specs.Places.{face_at}

-- the names that the class at a place introduces
abbrev pub introduced_at : List Class → ℕ → List (List ℕ)
introduced_at cs place = introduced (face_at cs place).entries

-- what breaks S8, by the places of a class's ancestors
abbrev pub s8_at : List Class → List ℕ → Class → List RuleBreach
s8_at cs list c = map (breach 8 c) (doubles bytes_eq [] (flat_map (introduced_at cs) list))

-- what breaks a rule that names differ
abbrev pub doubles_breach : ℕ → Class → List (List ℕ) → List RuleBreach
doubles_breach rule c names = map (breach rule c) (doubles bytes_eq [] names)
