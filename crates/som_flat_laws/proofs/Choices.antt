-- Lists of chosen releases, taken apart at the last, and lists of which each is with the next.
use Rattle.std.proofs.Common.{◌≡◌, suc, List, [], ◌∷◌, ◌++◌, append-nil, append_assoc, length, map, refl, sym, ap, subst, arith}
use Rattle.std.proofs.lemmas.List.{length-append}
use Rattle.som_model.specs.declared.program.Interface.{Interface}
use Rattle.som_model.specs.Lists.{Mem}
use Rattle.som_model.specs.Compatible.{EachNext}
use Rattle.som_level_laws.specs.Levels.{CompatibleLevels}
use Rattle.som_level_programs.specs.Towers.{LevelProgram, own_interface}
use Rattle.som_flat_laws.specs.AcceptedTower.{AreMembers, AreStanding, embedded_levels}

-- members of lists, of which the last has the last
pub record HasLast (members : List LevelProgram) (below : List (List LevelProgram)) (rs : List LevelProgram) : Type 0 where
  pub before : List LevelProgram
  pub last : LevelProgram
  pub parts : members ≡ before ++ last ∷ []
  pub are : AreMembers before below
  pub there : Mem last rs

pub last_member : (members : List LevelProgram) (below : List (List LevelProgram)) (rs : List LevelProgram) → AreMembers members (below ++ rs ∷ []) → HasLast members below rs
last_member [] [] rs a = absurd a
last_member (m ∷ []) [] rs a = record { before = []; last = m; parts = refl; are = tt; there = a.0 }
last_member (m ∷ n ∷ ms) [] rs a = absurd a.1
last_member [] (b ∷ below) rs a = absurd a
last_member (m ∷ ms) (b ∷ below) rs a =
    let r = last_member ms below rs a.1 in
    record { before = m ∷ r.before; last = r.last; parts = ap (λ l. m ∷ l) r.parts; are = (a.0, r.are); there = r.there }

pub no_members : (members : List LevelProgram) → AreMembers members [] → members ≡ []
no_members [] a = refl
no_members (m ∷ ms) a = absurd a

pub last_stands : (base : List Interface) (ms : List LevelProgram) (x : LevelProgram) → AreStanding base (ms ++ x ∷ []) → AreStanding base ms × CompatibleLevels (embedded_levels x) (base ++ map own_interface ms)
last_stands base [] x s = (tt, subst (CompatibleLevels (embedded_levels x)) (sym (append-nil base)) s.0)
last_stands base (m ∷ ms) x s =
    let r = last_stands (base ++ own_interface m ∷ []) ms x s.1 in
    ((s.0, r.0), subst (CompatibleLevels (embedded_levels x)) (append_assoc base (own_interface m ∷ []) (map own_interface ms)) r.1)

-- each with the next, after a change of all
pub map_next : {A B : Type 0} (R : B → B → Type 0) (f : A → B) (xs : List A) → EachNext (λ a b. R (f a) (f b)) xs → EachNext R (map f xs)
map_next R f [] e = tt
map_next R f (x ∷ []) e = tt
map_next R f (x ∷ y ∷ xs) e = (e.0, map_next R f (y ∷ xs) e.1)

pub one_longer : {A : Type 0} (xs : List A) (x : A) → length (xs ++ x ∷ []) ≡ suc (length xs)
one_longer xs x = let e = length-append xs (x ∷ []) in omega (arith, e)
