-- The words name as many files with a main as what they ask for needs, no more classes than can be generated, and turns of the clients that they name.
use Rattle.std.proofs.Common.{◌≡◌, ℕ, suc, ◌+◌, ◌<◌, ◌≤◌, ◌==◌, Bool, true, false, not, ◌&&◌, if◌then◌else◌, List, [], ◌∷◌, length, take, drop, get_or, codes, Option, Some, None, refl, sym, ap, subst, ◌∙◌, arith}
use Rattle.std.specs.Prelude.{nat_le}
use Rattle.std.proofs.lemmas.Bool.{eqb-true, leb-true}
use Rattle.std.proofs.lemmas.List.{drop_more, drop_all}
use Rattle.std.specs.Str.{bytes_eq}
use Rattle.som_model.specs.declared.limits.TheConstants.{DEFAULT_FUEL}
use Rattle.som_model.specs.Lists.{every}
use Rattle.som_sources.specs.Sources.{is_main, mains_in}
use Rattle.som_cmd_tasks.specs.declared.limits.TheConstants.{MAX_PATTERN, MAX_ROUNDS}
use Rattle.som_cmd_tasks.specs.Patterns.{AreTurns, names_client}
use Rattle.som_cmd_tasks.proofs.Turning.{pattern_turns}
use Rattle.som_generator.specs.declared.limits.TheConstants.{MAX_CLASSES}
use Rattle.som_cmd.specs.Words.{Asked, Show, Check, Library, Client, Tasks, Witness, Generate, Tower, Bad, are_clients, are_files, asked, asked_of, client_asked, from_one_to, fuel_of, generate_asked, generate_with, is_file, is_name, library_asked, rounds_of, run_asked, run_with, tasks_asked, tower_asked, are_levels, are_texts, compare_asked, count_before, fuel_in, is_fuel_flag, make_asked, run_on_asked, run_on_with, trace_in, turns_with, witness_asked}
use Rattle.som_towerimage.specs.declared.level.TheConstants.{MAX_BELOW_CLIENT}
use Rattle.som_towerimage.specs.Spelling.{most_below}
use Rattle.som_cmd_tower_make.specs.TowerMakeAnswer.{has_main}
use Rattle.som_cmd_towers.specs.Asked.{IsFormed, Make, Compare, RunOn}

-- ---- one word after the other

-- so many mains are there before a place
pub record MainsSoFar (words : List (List ℕ)) (i count : ℕ) : Type 0 where
  pub counted : count + mains_in (drop i words) ≡ mains_in words
  pub few : count ≤ i

abbrev with_main : Bool → ℕ → ℕ
with_main b n = if b then suc n else n

module _ (words : List (List ℕ)) (i : ℕ) (w : List ℕ) (lt : i < length words) (at : w ≡ get_or words i w) where
  mains_from : (b : Bool) → is_main w ≡ b → mains_in (drop i words) ≡ with_main b (mains_in (drop (i + 1) words))
  mains_from b is =
      ap mains_in (drop_more words i w lt) ∙ ap (λ (x : List ℕ). mains_in (x ∷ drop (i + 1) words)) (sym at) ∙ ap (λ (x : Bool). with_main x (mains_in (drop (i + 1) words))) is

pub one_main : (words : List (List ℕ)) (i count : ℕ) (w : List ℕ) → i < length words → w ≡ get_or words i w → is_main w ≡ true → MainsSoFar words i count → MainsSoFar words (i + 1) (count + 1)
one_main words i count w lt at is so =
    let e = mains_from words i w lt at true is in
    let c = so.counted in
    let f = so.few in
    record { counted = omega (arith, e, c); few = omega (arith, f) }

pub no_main : (words : List (List ℕ)) (i count : ℕ) (w : List ℕ) → i < length words → w ≡ get_or words i w → is_main w ≡ false → MainsSoFar words i count → MainsSoFar words (i + 1) count
no_main words i count w lt at is so =
    let e = mains_from words i w lt at false is in
    let c = so.counted in
    let f = so.few in
    record { counted = omega (arith, e, c); few = omega (arith, f) }

pub none_counted : (words : List (List ℕ)) → MainsSoFar words 0 0
none_counted words = record { counted = omega arith; few = omega arith }

pub all_counted : (words : List (List ℕ)) (i count : ℕ) → length words ≤ i → MainsSoFar words i count → count ≡ mains_in words
all_counted words i count over so =
    let e : mains_in (drop i words) ≡ 0 = ap mains_in (drop_all i words over) in
    let c = so.counted in
    omega (arith, e, c)

-- ---- what is asked for

-- it has as many files with a main as it needs, none for a library and one for a client; or each turn is that of one of the clients, and none has too many; or so many classes can be generated; or so many levels can be below
abbrev pub IsAnswerable : Asked → Type 0
IsAnswerable (Library out files) = mains_in files ≡ 0
IsAnswerable (Client out library files) = mains_in files ≡ 1
IsAnswerable (Tasks library turns clients) = AreTurns (length clients) turns
IsAnswerable (Generate count) = count ≤ MAX_CLASSES
IsAnswerable (Tower what) = IsFormed what
IsAnswerable _ = Unit {0}

if_mains : (b : Bool) (x y : Asked) → IsAnswerable x → IsAnswerable y → IsAnswerable (if b then x else y)
if_mains true x y h k = h
if_mains false x y h k = k

second : (a b : Bool) → (a && b) ≡ true → b ≡ true
second true b e = e
second false b e = absurd cc

as_many : (n : ℕ) (files : List (List ℕ)) → are_files n files ≡ true → mains_in files ≡ n
as_many n files e = eqb-true (mains_in files) n (second (every is_file files) (mains_in files == n) e)

library_mains : (out : List ℕ) (files : List (List ℕ)) (a b : Bool) → are_files 0 files ≡ b → IsAnswerable (if a && b then Library out files else Bad)
library_mains out files true true e = as_many 0 files e
library_mains out files true false e = tt
library_mains out files false b e = tt

client_mains : (out library : List ℕ) (files : List (List ℕ)) (a b c : Bool) → are_files 1 files ≡ c → IsAnswerable (if a && b && c then Client out library files else Bad)
client_mains out library files true true true e = as_many 1 files e
client_mains out library files true true false e = tt
client_mains out library files true false c e = tt
client_mains out library files false b c e = tt

run_mains : (client library : List ℕ) (fuel : Option ℕ) (trace : Option (List ℕ → Bool)) → IsAnswerable (run_with client library fuel trace)
run_mains client library None trace = tt
run_mains client library (Some fuel) None = tt
run_mains client library (Some fuel) (Some calls) = tt

runs_mains : (client library : List ℕ) (rest : List (List ℕ)) → IsAnswerable (run_asked client library rest)
runs_mains client library [] = run_mains client library (Some DEFAULT_FUEL) (trace_in [])
runs_mains client library (flag ∷ []) = run_mains client library (Some DEFAULT_FUEL) (trace_in (flag ∷ []))
runs_mains client library (flag ∷ word ∷ rest) =
    if_mains (bytes_eq flag (codes "--fuel")) (run_with client library (fuel_of word) (trace_in rest)) (run_with client library (Some DEFAULT_FUEL) (trace_in (flag ∷ word ∷ rest)))
    (run_mains client library (fuel_of word) (trace_in rest)) (run_mains client library (Some DEFAULT_FUEL) (trace_in (flag ∷ word ∷ rest)))

few_counted : (n : ℕ) (a b : Bool) → nat_le n MAX_CLASSES ≡ b → IsAnswerable (generate_with (if a && b then Some n else None))
few_counted n true true e = leb-true n MAX_CLASSES e
few_counted n true false e = tt
few_counted n false b e = tt

generate_few : (o : Option ℕ) → IsAnswerable (generate_with (from_one_to MAX_CLASSES o))
generate_few None = tt
generate_few (Some n) = few_counted n (nat_le 1 n) (nat_le n MAX_CLASSES) refl

rounds_few : (library pattern : List ℕ) (clients : List (List ℕ)) → every (names_client (length clients)) pattern ≡ true → length pattern ≤ MAX_PATTERN → (n : ℕ) (a b : Bool) → nat_le n MAX_ROUNDS ≡ b
    → IsAnswerable (turns_with library pattern clients (if a && b then Some n else None))
rounds_few library pattern clients each short n true true e = pattern_turns (length clients) pattern n each short (leb-true n MAX_ROUNDS e)
rounds_few library pattern clients each short n true false e = tt
rounds_few library pattern clients each short n false b e = tt

turns_few : (library pattern : List ℕ) (clients : List (List ℕ)) → every (names_client (length clients)) pattern ≡ true → length pattern ≤ MAX_PATTERN → (o : Option ℕ) → IsAnswerable (turns_with library pattern clients (from_one_to MAX_ROUNDS o))
turns_few library pattern clients each short None = tt
turns_few library pattern clients each short (Some n) = rounds_few library pattern clients each short n (nat_le 1 n) (nat_le n MAX_ROUNDS) refl

pattern_few : (library pattern word : List ℕ) (clients : List (List ℕ)) (a b c d e : Bool) → nat_le (length pattern) MAX_PATTERN ≡ d → every (names_client (length clients)) pattern ≡ e
    → IsAnswerable (if a && b && (c && d && e) then turns_with library pattern clients (rounds_of word) else Bad)
pattern_few library pattern word clients true true true true true short each = turns_few library pattern clients each (leb-true (length pattern) MAX_PATTERN short) (fuel_of word)
pattern_few library pattern word clients true true true true false short each = tt
pattern_few library pattern word clients true true true false e short each = tt
pattern_few library pattern word clients true true false d e short each = tt
pattern_few library pattern word clients true false c d e short each = tt
pattern_few library pattern word clients false b c d e short each = tt

tasks_few : (library pattern : List ℕ) (rest : List (List ℕ)) → IsAnswerable (tasks_asked library pattern rest)
tasks_few library pattern [] = tt
tasks_few library pattern (word ∷ clients) =
    pattern_few library pattern word clients (is_name library) (are_clients clients) (nat_le 1 (length pattern)) (nat_le (length pattern) MAX_PATTERN) (every (names_client (length clients)) pattern) refl refl

witness_any : (out old : List ℕ) (rest : List (List ℕ)) → IsAnswerable (witness_asked out old rest)
witness_any out old [] = tt
witness_any out old (new ∷ []) = if_mains (is_name out && is_name old && is_name new) (Witness out old new) Bad tt tt
witness_any out old (new ∷ more ∷ rest) = tt

-- the parts of a conjunction of three
three : (a b c : Bool) → (a && b && c) ≡ true → (a ≡ true) × (b ≡ true) × (c ≡ true)
three true true c e = (refl, refl, e)
three true false c e = absurd cc
three false b c e = absurd cc

made_formed : (out : List ℕ) (below files : List (List ℕ)) (b : Bool) → (is_name out && are_levels (most_below (has_main files)) below && are_texts files) ≡ b → IsAnswerable (if b then Tower (Make out below files) else Bad)
made_formed out below files true e =
    let p = three (is_name out) (are_levels (most_below (has_main files)) below) (are_texts files) e in
    let levels = three (nat_le 1 (length below)) (nat_le (length below) (most_below (has_main files))) (every is_name below) p.1 in
    let texts = three (not (length files == 0)) (every is_file files) (nat_le (mains_in files) 1) p.2 in
    record { one_main = leb-true (mains_in files) 1 texts.2; some = leb-true 1 (length below) levels.0; few = leb-true (length below) (most_below (has_main files)) levels.1 }
made_formed out below files false e = tt

run_formed : (client : List ℕ) (below : List (List ℕ)) (fuel : ℕ) (b : Bool) → (is_name client && are_levels MAX_BELOW_CLIENT below) ≡ b → IsAnswerable (if b then Tower (RunOn client below fuel) else Bad)
run_formed client below fuel true e =
    let levels = three (nat_le 1 (length below)) (nat_le (length below) MAX_BELOW_CLIENT) (every is_name below) (second (is_name client) (are_levels MAX_BELOW_CLIENT below) e) in
    record { some = leb-true 1 (length below) levels.0; few = leb-true (length below) MAX_BELOW_CLIENT levels.1 }
run_formed client below fuel false e = tt

run_on_formed : (client : List ℕ) (below : List (List ℕ)) (fuel : Option ℕ) → IsAnswerable (run_on_with client below fuel)
run_on_formed client below None = tt
run_on_formed client below (Some fuel) = run_formed client below fuel (is_name client && are_levels MAX_BELOW_CLIENT below) refl

compared_formed : (old : List ℕ) (words : List (List ℕ)) → IsAnswerable (compare_asked old words)
compared_formed old [] = tt
compared_formed old (new ∷ []) = if_mains (is_name old && is_name new) (Tower (Compare old new)) Bad tt tt
compared_formed old (new ∷ more ∷ rest) = tt

tower_formed : (kind name : List ℕ) (words : List (List ℕ)) → IsAnswerable (tower_asked kind name words)
tower_formed kind name words =
    let levels = take (count_before is_file words) words in
    let files = drop (count_before is_file words) words in
    if_mains (bytes_eq kind (codes "make")) (make_asked name words) _ (made_formed name levels files (is_name name && are_levels (most_below (has_main files)) levels && are_texts files) refl)
    (if_mains (bytes_eq kind (codes "check")) (compare_asked name words) _ (compared_formed name words)
    (if_mains (bytes_eq kind (codes "run")) (run_on_asked name words) Bad
    (run_on_formed name (take (count_before is_fuel_flag words) words) (fuel_in (drop (count_before is_fuel_flag words) words))) tt))

pub asked_mains : (words : List (List ℕ)) → IsAnswerable (asked words)
asked_mains [] = tt
asked_mains (word ∷ []) = tt
asked_mains (word ∷ image ∷ []) = if_mains _ (Show image) _ tt (if_mains (bytes_eq word (codes "generate")) (generate_asked image) Bad (generate_few (fuel_of image)) tt)
asked_mains (word ∷ client ∷ library ∷ rest) =
    if_mains _ (run_asked client library rest) _ (runs_mains client library rest)
    (if_mains (bytes_eq word (codes "library")) (library_asked client (library ∷ rest)) _ (library_mains client (library ∷ rest) (is_name client) (are_files 0 (library ∷ rest)) refl)
    (if_mains (bytes_eq word (codes "client")) (client_asked client library rest) _ (client_mains client library rest (is_name client) (is_name library) (are_files 1 rest) refl)
    (if_mains (bytes_eq word (codes "tasks")) (tasks_asked client library rest) _ (tasks_few client library rest)
    (if_mains (bytes_eq word (codes "witness")) (witness_asked client library rest) _ (witness_any client library rest)
    (if_mains (bytes_eq word (codes "tower")) (tower_asked client library rest) (asked_of word (client ∷ library ∷ rest)) (tower_formed client library rest)
    (if_mains _ (Check (client ∷ library ∷ rest)) Bad tt tt))))))

pub mains_by : (words : List (List ℕ)) (by : Asked) → by ≡ asked words → IsAnswerable by
mains_by words by is = subst IsAnswerable (sym is) (asked_mains words)
