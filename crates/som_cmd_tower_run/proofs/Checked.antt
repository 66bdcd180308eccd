-- A client and the levels below it that are read and looked at, step by step.
use Rattle.std.proofs.Common.{◌≡◌, ◌+◌, ◌≤◌, ℕ, Bool, true, false, List, length, Result, Ok, Err, sym, ap, subst, ◌∙◌, arith}
use Rattle.som_model.specs.Conforming.{ProgramOk}
use Rattle.som_model.specs.Steps.{◌>>=◌}
use Rattle.som_link_limits.proofs.Classes.{program_counts, release_counts}
use Rattle.som_towerimage.specs.declared.level.Level.{Level}
use Rattle.som_tower.specs.Towers.{AreLibraries, IsSound, IsTowerOf}
use Rattle.som_cmd_steps.specs.declared.stop.Refusal.{Refusal}
use Rattle.som_cmd_steps.specs.declared.stop.CommandStop.{CommandStop}
use Rattle.som_cmd_steps.specs.ImageSteps.{program_rules_kept}
use Rattle.som_cmd_steps.specs.Steps.{Follows, Stops}
use Rattle.som_cmd_steps.proofs.ImageLaws.{stops_first}
use Rattle.som_cmd_levels.specs.declared.levels.LevelsBelow.{LevelsBelow}
use Rattle.som_cmd_levels.specs.LevelImages.{level_read}
use Rattle.som_cmd_levels.specs.Levels.{AreLevelsOf, IsLevelAt, LevelsConform, levels_in, levels_rules_kept}
use Rattle.som_cmd_tower_run.specs.declared.tower.Tower.{Tower}
use Rattle.som_cmd_tower_run.specs.Steps.{tower_of}

abbrev pub tower : LevelsBelow → Level → Tower
tower ls t = record { levels = ls; client = t }

abbrev Read : Type 0
Read = Result Tower Refusal

abbrev Passed : Type 0
Passed = Result (Unit {0}) Refusal

-- what is left after some steps
abbrev pub finished : List ℕ → LevelsBelow → Level → Read
finished c ls t = program_rules_kept c t.program >>= λ own. Ok (tower ls t)

abbrev pub ruled : List ℕ → List (List ℕ) → Level → LevelsBelow → Read
ruled c below t ls = levels_rules_kept below ls >>= λ rules. finished c ls t

abbrev pub leveled : List ℕ → List (List ℕ) → List (List ℕ) → Level → Read
leveled c below bs t = levels_in below bs >>= ruled c below t

module _ (c : List ℕ) (below : List (List ℕ)) (cb : List ℕ) (bs : List (List ℕ)) where
  with_client : (t : Level) → level_read (length below) true c cb ≡ Ok t → leveled c below bs t ≡ tower_of c below cb bs
  with_client t f = ap (λ (x : Result Level Refusal). x >>= leveled c below bs) (sym f)

  with_levels : (t : Level) (ls : LevelsBelow) → level_read (length below) true c cb ≡ Ok t → levels_in below bs ≡ Ok ls → ruled c below t ls ≡ tower_of c below cb bs
  with_levels t ls f g = ap (λ (x : Result LevelsBelow Refusal). x >>= ruled c below t) (sym g) ∙ with_client t f

  with_rules : (t : Level) (ls : LevelsBelow) (u : Unit {0}) → level_read (length below) true c cb ≡ Ok t → levels_in below bs ≡ Ok ls → levels_rules_kept below ls ≡ Ok u → finished c ls t ≡ tower_of c below cb bs
  with_rules t ls u f g h = ap (λ (x : Passed). x >>= λ rules. finished c ls t) (sym h) ∙ with_levels t ls f g

-- the client can't be read, or stands at the wrong place
pub client_unread : (c : List ℕ) (below : List (List ℕ)) (cb : List ℕ) (bs : List (List ℕ)) (stop : CommandStop) → Follows {A = Level} (Err stop) (level_read (length below) true c cb) → Follows {A = Tower} (Err stop) (tower_of c below cb bs)
client_unread c below cb bs stop f = stops_first stop (level_read (length below) true c cb) (leveled c below bs) f

-- a level can't, or does
pub level_unread : (c : List ℕ) (below : List (List ℕ)) (cb : List ℕ) (bs : List (List ℕ)) (t : Level) (stop : CommandStop) → Follows (Ok t) (level_read (length below) true c cb) → Follows {A = LevelsBelow} (Err stop) (levels_in below bs)
    → Follows {A = Tower} (Err stop) (tower_of c below cb bs)
level_unread c below cb bs t stop f g = subst (Stops stop) (with_client c below cb bs t f) (stops_first stop (levels_in below bs) (ruled c below t) g)

-- a level breaks a rule
pub level_broken : (c : List ℕ) (below : List (List ℕ)) (cb : List ℕ) (bs : List (List ℕ)) (t : Level) (ls : LevelsBelow) (stop : CommandStop) → Follows (Ok t) (level_read (length below) true c cb) → Follows (Ok ls) (levels_in below bs)
    → Follows {A = Unit {0}} (Err stop) (levels_rules_kept below ls) → Follows {A = Tower} (Err stop) (tower_of c below cb bs)
level_broken c below cb bs t ls stop f g h = subst (Stops stop) (with_levels c below cb bs t ls f g) (stops_first stop (levels_rules_kept below ls) (λ (u : Unit {0}). finished c ls t) h)

-- the client does
pub client_broken : (c : List ℕ) (below : List (List ℕ)) (cb : List ℕ) (bs : List (List ℕ)) (t : Level) (ls : LevelsBelow) (u : Unit {0}) (stop : CommandStop) → Follows (Ok t) (level_read (length below) true c cb) → Follows (Ok ls) (levels_in below bs)
    → Follows (Ok u) (levels_rules_kept below ls) → Follows {A = Unit {0}} (Err stop) (program_rules_kept c t.program) → Follows {A = Tower} (Err stop) (tower_of c below cb bs)
client_broken c below cb bs t ls u stop f g h i = subst (Stops stop) (with_rules c below cb bs t ls u f g h) (stops_first stop (program_rules_kept c t.program) (λ (v : Unit {0}). Ok (tower ls t)) i)

-- nothing is in the way
pub all_checked : (c : List ℕ) (below : List (List ℕ)) (cb : List ℕ) (bs : List (List ℕ)) (t : Level) (ls : LevelsBelow) (u v : Unit {0}) → Follows (Ok t) (level_read (length below) true c cb) → Follows (Ok ls) (levels_in below bs)
    → Follows (Ok u) (levels_rules_kept below ls) → Follows (Ok v) (program_rules_kept c t.program) → Follows (Ok (tower ls t)) (tower_of c below cb bs)
all_checked c below cb bs t ls u v f g h i = sym (with_rules c below cb bs t ls u f g h) ∙ ap (λ (x : Passed). x >>= λ own. Ok (tower ls t)) i

-- ---- what was read and looked at is a tower

level_sound : (n : ℕ) (client : Bool) (l : Level) → IsLevelAt n client l → ProgramOk l.program → IsSound l
level_sound n client l at ok = record { conforms = ok; counted = program_counts l.program at.within; fits = at.fits }

libraries_are : (below : List (List ℕ)) (ls : LevelsBelow) → length below ≤ 8 → AreLevelsOf below ls → LevelsConform ls → AreLibraries ls.base ls.uppers
libraries_are below ls few of ok = record {
  base_ok = ok.base;
  base_counted = release_counts ls.base of.base;
  each = λ i l e. (let at = of.uppers i l e in let n = at.levels in record { sound = level_sound (1 + i) false l at (ok.uppers i l e); levels = omega (arith, n); library = at.kind });
  few = (let many = of.many in omega (arith, many, few));
}

pub is_tower : (below : List (List ℕ)) (ls : LevelsBelow) (t : Level) → length below ≤ 8 → AreLevelsOf below ls → LevelsConform ls → IsLevelAt (length below) true t → ProgramOk t.program → IsTowerOf ls.base ls.uppers t
is_tower below ls t few of ok at conforms = record {
  libraries = libraries_are below ls few of ok;
  sound = level_sound (length below) true t at conforms;
  is_client = at.kind;
  levels = (let n = at.levels in let many = of.many in omega (arith, n, many));
}
