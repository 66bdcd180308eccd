-- The forms of the words.
use Rattle.std.specs.Prelude.{ℕ, suc, ◌+◌, ◌-◌, ◌*◌, List, [], ◌∷◌, ◌&&◌, ◌||◌, Bool, false, not, length, take, drop, codes, ◌==◌, nat_eq, nat_le, Option, Some, None, if◌then◌else◌}
use Rattle.std.specs.Str.{bytes_eq}
use Rattle.std.specs.List.{ends_with}
use Rattle.som_model.specs.declared.limits.TheConstants.{DEFAULT_FUEL, MAX_FUEL}
use Rattle.som_model.specs.Lists.{every}
use Rattle.som_semantics.specs.RunText.{calls_of, every_call, no_trace}
use Rattle.som_sources.specs.Sources.{is_bodies, is_main, mains_in}
use Rattle.som_generator.specs.declared.limits.TheConstants.{MAX_CLASSES}
use Rattle.som_cmd_main.specs.Traces.{shown_in}
use Rattle.som_cmd_tasks.specs.declared.limits.TheConstants.{MAX_CLIENTS, MAX_PATTERN, MAX_ROUNDS}
use Rattle.som_cmd_tasks.specs.Patterns.{names_client, turns_given}
use Rattle.som_towerimage.specs.declared.level.TheConstants.{MAX_BELOW_CLIENT}
use Rattle.som_towerimage.specs.Spelling.{most_below}
use Rattle.som_cmd_tower_make.specs.TowerMakeAnswer.{has_main}
use Rattle.som_cmd_towers.specs.Asked.{TowerAsked, Make, Compare, RunOn, tower_by}
use Rattle.som_cmd.specs.declared.words.Command.{Command}
use Rattle.som_cmd.specs.declared.words.Command.TheVariants as commands

-- what words ask for: to run a client image on a library image with so much fuel, and to show these calls, by the name of the class whose body it is; to show an image;
-- to check images; to compile texts to a library image, or to a client image against a library image; to give client images on a library image these turns;
-- to put under a name the image of the client that shows what one image doesn't keep of another; to generate so many classes; something of towers;
-- or they have no form
pub data Asked : Type 0 where
  Run : (client library : List ℕ) (fuel : ℕ) (shows : List ℕ → Bool) → Asked
  Show : (image : List ℕ) → Asked
  Check : (images : List (List ℕ)) → Asked
  Library : (out : List ℕ) (files : List (List ℕ)) → Asked
  Client : (out library : List ℕ) (files : List (List ℕ)) → Asked
  Tasks : (library turns : List ℕ) (clients : List (List ℕ)) → Asked
  Witness : (out old new : List ℕ) → Asked
  Generate : (count : ℕ) → Asked
  Tower : (what : TowerAsked) → Asked
  Bad : Asked

-- what a command of the code asks for
abbrev pub asked_by : Command → Asked
asked_by (commands.Run client library fuel trace) = Run client.now library.now fuel (shown_in trace)
asked_by (commands.Show image) = Show image.now
asked_by (commands.Check images) = Check images.now
asked_by (commands.Library out files) = Library out.now files.now
asked_by (commands.Client out library files) = Client out.now library.now files.now
asked_by (commands.Tasks library pattern rounds clients) = Tasks library.now (turns_given pattern.now rounds) clients.now
asked_by (commands.Witness out old new) = Witness out.now old.now new.now
asked_by (commands.Generate count) = Generate count
asked_by (commands.Tower tower) = Tower (tower_by tower)
asked_by commands.Bad = Bad

abbrev pub is_digit : ℕ → Bool
is_digit d = nat_le 48 d && nat_le d 57

-- the value of decimal digits that follow a number
abbrev pub value_after : ℕ → List ℕ → ℕ
value_after n [] = n
value_after n (d ∷ ds) = value_after (n * 10 + (d - 48)) ds

-- a zero before other digits
abbrev pub leads_with_zero : List ℕ → Bool
leads_with_zero [] = false
leads_with_zero (d ∷ ds) = (d == 48) && not (length ds == 0)

-- a number is some digits, with no zero before them
abbrev pub is_number : List ℕ → Bool
is_number word = not (length word == 0) && not (leads_with_zero word) && every is_digit word

-- the number of a word that is one, of at most as much fuel as may be asked for
abbrev pub fuel_of : List ℕ → Option ℕ
fuel_of word = if is_number word && nat_le (value_after 0 word) MAX_FUEL then Some (value_after 0 word) else None

-- a number that is at least one, and at most this
abbrev pub from_one_to : ℕ → Option ℕ → Option ℕ
from_one_to most (Some n) = if nat_le 1 n && nat_le n most then Some n else None
from_one_to most None = None

-- the count of a word that is a number, of at most as many classes as can be generated
abbrev pub count_of : List ℕ → Option ℕ
count_of word = from_one_to MAX_CLASSES (fuel_of word)

-- the rounds of a word that is a number, of at most as many as may be asked for
abbrev pub rounds_of : List ℕ → Option ℕ
rounds_of word = from_one_to MAX_ROUNDS (fuel_of word)

abbrev pub is_name : List ℕ → Bool
is_name word = not (length word == 0)

-- the calls that the words after the fuel ask to be shown: `--trace`, `--trace CLASS`, or nothing
abbrev pub trace_in : List (List ℕ) → Option (List ℕ → Bool)
trace_in [] = Some no_trace
trace_in (flag ∷ []) = if bytes_eq flag (codes "--trace") then Some every_call else None
trace_in (flag ∷ class ∷ []) = if bytes_eq flag (codes "--trace") && is_name class then Some (calls_of class) else None
trace_in _ = None

-- a run with this fuel and this trace, if there are both
abbrev pub run_with : List ℕ → List ℕ → Option ℕ → Option (List ℕ → Bool) → Asked
run_with client library (Some fuel) (Some shows) = Run client library fuel shows
run_with client library (Some fuel) None = Bad
run_with client library None trace = Bad

-- what the words after the names ask for: `--fuel N` or nothing, and then a trace
abbrev pub run_asked : List ℕ → List ℕ → List (List ℕ) → Asked
run_asked client library (flag ∷ word ∷ rest) =
    if bytes_eq flag (codes "--fuel") then run_with client library (fuel_of word) (trace_in rest) else run_with client library (Some DEFAULT_FUEL) (trace_in (flag ∷ word ∷ rest))
run_asked client library rest = run_with client library (Some DEFAULT_FUEL) (trace_in rest)

-- the name of a file of interfaces
abbrev pub is_idl : List ℕ → Bool
is_idl word = ends_with nat_eq word (codes ".idl")

-- what a word asks for with two or more names: `check`, where none is empty
abbrev pub asked_of : List ℕ → List (List ℕ) → Asked
asked_of word names = if bytes_eq word (codes "check") && every is_name names then Check names else Bad

-- the name of a file of any of the three kinds
abbrev pub is_file : List ℕ → Bool
is_file word = is_idl word || is_bodies word || is_main word

-- names of files, of which so many are those of mains
abbrev pub are_files : ℕ → List (List ℕ) → Bool
are_files mains files = every is_file files && (mains_in files == mains)

-- what `library` asks for with a name that isn't empty and files, none with a main
abbrev pub library_asked : List ℕ → List (List ℕ) → Asked
library_asked out files = if is_name out && are_files 0 files then Library out files else Bad

-- what `client` asks for with two names that aren't empty and files, one of them with a main
abbrev pub client_asked : List ℕ → List ℕ → List (List ℕ) → Asked
client_asked out library files = if is_name out && is_name library && are_files 1 files then Client out library files else Bad

-- one client or more, no more than may take turns, and none of their names empty
abbrev pub are_clients : List (List ℕ) → Bool
are_clients clients = nat_le 1 (length clients) && nat_le (length clients) MAX_CLIENTS && every is_name clients

-- digits, no more than may be asked for, each of which names one of so many clients
abbrev pub is_pattern : ℕ → List ℕ → Bool
is_pattern count pattern = nat_le 1 (length pattern) && nat_le (length pattern) MAX_PATTERN && every (names_client count) pattern

-- so many rounds of the turns of a pattern, if there is a number of rounds
abbrev pub turns_with : List ℕ → List ℕ → List (List ℕ) → Option ℕ → Asked
turns_with library pattern clients (Some rounds) = Tasks library (turns_given pattern rounds) clients
turns_with library pattern clients None = Bad

-- what `tasks` asks for with two words, and the words after these: a number of rounds and then clients
abbrev pub tasks_asked : List ℕ → List ℕ → List (List ℕ) → Asked
tasks_asked library pattern [] = Bad
tasks_asked library pattern (word ∷ clients) = if is_name library && are_clients clients && is_pattern (length clients) pattern then turns_with library pattern clients (rounds_of word) else Bad

-- what `witness` asks for with two words, and the words after these: one name more, where none of the three is empty
abbrev pub witness_asked : List ℕ → List ℕ → List (List ℕ) → Asked
witness_asked out old (new ∷ []) = if is_name out && is_name old && is_name new then Witness out old new else Bad
witness_asked out old _ = Bad

-- so many classes are generated, if there is a count
abbrev pub generate_with : Option ℕ → Asked
generate_with (Some count) = Generate count
generate_with None = Bad

-- what `generate` asks for with a word
abbrev pub generate_asked : List ℕ → Asked
generate_asked word = generate_with (count_of word)

-- how many words stand before the first that passes a test
abbrev pub count_before : (List ℕ → Bool) → List (List ℕ) → ℕ
count_before test [] = 0
count_before test (word ∷ words) = if test word then 0 else suc (count_before test words)

-- names of levels, one at least and so many at most, and none of them empty
abbrev pub are_levels : ℕ → List (List ℕ) → Bool
are_levels most below = nat_le 1 (length below) && nat_le (length below) most && every is_name below

-- files of texts, one at least, and at most one of them with a main
abbrev pub are_texts : List (List ℕ) → Bool
are_texts files = not (length files == 0) && every is_file files && nat_le (mains_in files) 1

-- what `tower make` asks for with a name, names of levels and files: a client, where there is a main, may have a level more below it
abbrev pub make_with : List ℕ → List (List ℕ) → List (List ℕ) → Asked
make_with out below files = if is_name out && are_levels (most_below (has_main files)) below && are_texts files then Tower (Make out below files) else Bad

-- what `tower make` asks for with a name and the words after it: files stand last
abbrev pub make_asked : List ℕ → List (List ℕ) → Asked
make_asked out words = make_with out (take (count_before is_file words) words) (drop (count_before is_file words) words)

-- what `tower check` asks for with a name and the words after it, which are one more
abbrev pub compare_asked : List ℕ → List (List ℕ) → Asked
compare_asked old (new ∷ []) = if is_name old && is_name new then Tower (Compare old new) else Bad
compare_asked old _ = Bad

-- the word before a number for the fuel
abbrev pub is_fuel_flag : List ℕ → Bool
is_fuel_flag word = bytes_eq word (codes "--fuel")

-- the fuel that words ask for: `--fuel N` or nothing
abbrev pub fuel_in : List (List ℕ) → Option ℕ
fuel_in [] = Some DEFAULT_FUEL
fuel_in (flag ∷ word ∷ []) = if is_fuel_flag flag then fuel_of word else None
fuel_in _ = None

-- a client on levels with this fuel, if there is one
abbrev pub run_on_with : List ℕ → List (List ℕ) → Option ℕ → Asked
run_on_with client below (Some fuel) = if is_name client && are_levels MAX_BELOW_CLIENT below then Tower (RunOn client below fuel) else Bad
run_on_with client below None = Bad

-- what `tower run` asks for with a name and the words after it: no level's name is `--fuel`
abbrev pub run_on_asked : List ℕ → List (List ℕ) → Asked
run_on_asked client words = run_on_with client (take (count_before is_fuel_flag words) words) (fuel_in (drop (count_before is_fuel_flag words) words))

-- what `tower` asks for with two words, and the words after these: `make OUT BELOW .. FILE ..`, `check OLD NEW` or `run CLIENT BELOW ..`
abbrev pub tower_asked : List ℕ → List ℕ → List (List ℕ) → Asked
tower_asked kind name words =
    if bytes_eq kind (codes "make") then make_asked name words else (
    if bytes_eq kind (codes "check") then compare_asked name words else (
    if bytes_eq kind (codes "run") then run_on_asked name words else Bad))

-- `show IMAGE`, `generate N`, `run CLIENT LIBRARY`, then `--fuel N` or not, then `--trace`, `--trace CLASS` or neither, `check IMAGE IMAGE ..`,
-- `library OUT FILE ..`, `client OUT LIBRARY FILE ..`, `tasks LIBRARY PATTERN ROUNDS CLIENT ..`, `witness OUT OLD NEW` or one of `tower`, where no name is empty
abbrev pub asked : List (List ℕ) → Asked
asked (word ∷ image ∷ []) =
    if bytes_eq word (codes "show") && not (length image == 0) then Show image else (if bytes_eq word (codes "generate") then generate_asked image else Bad)
asked (word ∷ client ∷ library ∷ rest) =
    if bytes_eq word (codes "run") && not (length client == 0) && not (length library == 0) then run_asked client library rest else (
    if bytes_eq word (codes "library") then library_asked client (library ∷ rest) else (
    if bytes_eq word (codes "client") then client_asked client library rest else (
    if bytes_eq word (codes "tasks") then tasks_asked client library rest else (
    if bytes_eq word (codes "witness") then witness_asked client library rest else (
    if bytes_eq word (codes "tower") then tower_asked client library rest else asked_of word (client ∷ library ∷ rest))))))
asked words = Bad
