-- What levels break first, one level after the other.
use Rattle.std.proofs.Common.{◌≡◌, ℕ, ◌+◌, ◌<◌, List, [], ◌∷◌, ◌++◌, Option, Some, None, Result, Err, append_assoc, append-nil, drop, get_or, length, map, take, refl, sym, ap, ◌∙◌, subst}
use Rattle.std.proofs.lemmas.List.{drop_more, map-append, take-append-drop}
use Rattle.som_model.specs.declared.program.Interface.{Interface}
use Rattle.som_model.specs.Compatible.{CompatBreach}
use Rattle.som_model.specs.Lists.{or_else}
use Rattle.som_level_laws.specs.Levels.{first_level_break}
use Rattle.som_level_programs.specs.ByLevels.{levels_below}
use Rattle.som_level_programs.specs.Towers.{LevelProgram, own_interface}
use Rattle.som_compat_levels.specs.declared.breach.LevelFault.{LevelFault}
use Rattle.som_compat_levels.specs.declared.breach.LevelFault.TheVariants as faults
use Rattle.som_compat_levels.specs.Told.{TellsLevels}
use Rattle.som_towerimage.specs.declared.level.Level.{Level}
use Rattle.som_tower.specs.Towers.{TellsTower, plain, tower_break}

-- what a level breaks, by the levels below it
abbrev pub breaks_at : List Interface → Level → Option (ℕ × CompatBreach)
breaks_at is l = first_level_break (levels_below l.sizes l.client l.program.base) is

pub or_none : {A : Type 0} (a : Option A) → or_else a None ≡ a
or_none None = refl
or_none (Some x) = refl

or_assoc : {A : Type 0} (a b c : Option A) → or_else a (or_else b c) ≡ or_else (or_else a b) c
or_assoc None b c = refl
or_assoc (Some x) b c = refl

-- levels, and then others above them
pub break_append : (is : List Interface) (xs ys : List LevelProgram) → tower_break is (xs ++ ys) ≡ or_else (tower_break is xs) (tower_break (is ++ map own_interface xs) ys)
break_append is [] ys = ap (λ z. tower_break z ys) (sym (append-nil is))
break_append is (x ∷ xs) ys =
    let first = first_level_break (levels_below x.sizes x.client x.program.base) is in
    ap (or_else first) (break_append (is ++ own_interface x ∷ []) xs ys ∙ ap (λ z. or_else (tower_break (is ++ own_interface x ∷ []) xs) (tower_break z ys)) (append_assoc is (own_interface x ∷ []) (map own_interface xs)))
    ∙ or_assoc first (tower_break (is ++ own_interface x ∷ []) xs) (tower_break (is ++ map own_interface (x ∷ xs)) ys)

-- one level more, where those before it break nothing
pub break_next : (is : List Interface) (xs : List LevelProgram) (l : Level) (ys : List LevelProgram) → tower_break is xs ≡ None
    → tower_break is (xs ++ plain l ∷ ys) ≡ or_else (breaks_at (is ++ map own_interface xs) l) (tower_break ((is ++ map own_interface xs) ++ own_interface (plain l) ∷ []) ys)
break_next is xs l ys none = break_append is xs (plain l ∷ ys) ∙ ap (λ o. or_else o (tower_break (is ++ map own_interface xs) (plain l ∷ ys))) none

-- a level's answer is that of the whole tower, where it breaks something and those before it nothing
pub told_whole : (A : Type 0) (breach whole : Option (ℕ × CompatBreach)) (rest : Option (ℕ × CompatBreach)) (e : LevelFault) → whole ≡ or_else breach rest → TellsLevels breach (Err e) → TellsTower {A = A} whole (Err e)
told_whole A breach whole rest (faults.Breach b) is t = (t.0, is ∙ ap (λ o. or_else o rest) t.1, t.2)
told_whole A breach whole rest faults.NoMemory is t = tt

-- what levels break, told of more of them
told_more : (A B : Type 0) (breach whole : Option (ℕ × CompatBreach)) (rest : Option (ℕ × CompatBreach)) (e : LevelFault) → whole ≡ or_else breach rest → TellsTower {A = A} breach (Err e) → TellsTower {A = B} whole (Err e)
told_more A B breach whole rest (faults.Breach b) is t = (t.0, is ∙ ap (λ o. or_else o rest) t.1, t.2)
told_more A B breach whole rest faults.NoMemory is t = tt

-- and told by a result that is this one
pub told_result : (A : Type 0) {B : Type 0} (breach whole : Option (ℕ × CompatBreach)) (rest : Option (ℕ × CompatBreach)) (r : Result B LevelFault) (e : LevelFault) → r ≡ Err e → whole ≡ or_else breach rest → TellsTower {A = A} breach (Err e) → TellsTower whole r
told_result A {B} breach whole rest r e same is t = subst (TellsTower whole) (sym same) (told_more A B breach whole rest e is t)

-- the last level is all that is left where those before it break nothing
pub break_last : (is : List Interface) (xs : List LevelProgram) (l : Level) → tower_break is xs ≡ None → tower_break is (xs ++ plain l ∷ []) ≡ breaks_at (is ++ map own_interface xs) l
break_last is xs l none = break_next is xs l [] none ∙ or_none (breaks_at (is ++ map own_interface xs) l)

-- a level within a list is what is broken first, where those before it break nothing
pub break_within : (is : List Interface) (levels : List Level) (i : ℕ) (l : Level) → i < length levels → l ≡ get_or levels i l → tower_break is (map plain (take i levels)) ≡ None
    → tower_break is (map plain levels) ≡ or_else (breaks_at (is ++ map own_interface (map plain (take i levels))) l) (tower_break ((is ++ map own_interface (map plain (take i levels))) ++ own_interface (plain l) ∷ []) (map plain (drop (i + 1) levels)))
break_within is levels i l lt at none =
    let split : levels ≡ take i levels ++ l ∷ drop (i + 1) levels = sym (take-append-drop i levels) ∙ ap (λ z. take i levels ++ z) (drop_more levels i l lt) ∙ ap (λ z. take i levels ++ z ∷ drop (i + 1) levels) (sym at) in
    let plains : map plain levels ≡ map plain (take i levels) ++ plain l ∷ map plain (drop (i + 1) levels) = ap (map plain) split ∙ map-append plain (take i levels) (l ∷ drop (i + 1) levels) in
    ap (tower_break is) plains ∙ break_next is (map plain (take i levels)) l (map plain (drop (i + 1) levels)) none
