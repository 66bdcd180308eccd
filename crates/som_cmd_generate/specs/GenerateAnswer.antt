-- What `generate` prints and answers: the first step that refuses, or what the client comes to on the second release.
use Rattle.std.specs.Prelude.{◌≡◌, ℕ, List, [], ◌∷◌, ◌++◌, Ok, Err, codes}
use Rattle.std.specs.Fmt.{decimal}
use Rattle.som_model.specs.declared.limits.TheConstants.{DEFAULT_FUEL}
use Rattle.som_model.specs.Bytes.{Files}
use Rattle.som_semantics.specs.Means.{means}
use Rattle.som_semantics.specs.Runs.{Ran, Goes, Ends}
use Rattle.som_semantics.specs.RunText.{no_trace, run_status, run_text}
use Rattle.som_cmd_steps.specs.declared.stop.Refusal.{Refusal}
use Rattle.som_cmd_steps.specs.Endings.{Ending, refusing}
use Rattle.som_cmd_steps.specs.Lines.{not_kept}
use Rattle.som_cmd_sources.specs.Texts.{text_refused}
use Rattle.som_generator.specs.declared.edition.Edition.TheVariants.{Second}
use Rattle.som_generator.specs.Generated.{release_number}
use Rattle.som_generator.specs.declared.fault.Unmade.{Unmade}
use Rattle.som_generator.specs.declared.fault.Unmade.TheVariants as unmade
use Rattle.som_generator.specs.declared.made.Made.{Made}
use Rattle.som_generator.specs.Making.{Makes, breach_of}

-- ---- lines

-- a front and a number, as a line
abbrev pub numbered_line : List ℕ → ℕ → List ℕ
numbered_line front n = front ++ decimal n ++ 10 ∷ []

-- how many classes there are
abbrev pub classes_line : ℕ → List ℕ
classes_line n = numbered_line (codes "classes ") n

-- how many units of fuel are left
abbrev pub left_line : ℕ → List ℕ
left_line n = numbered_line (codes "fuel left ") n

-- the last line of a run whose main is over; any other has none
abbrev pub left_text : Ran (Unit {0}) → List ℕ
left_text (Goes u s) = left_line s.fuel
left_text (Ends cut s) = []

-- ---- a step that refuses

-- texts that aren't compiled, as `library` and `client` tell it, and what the second release doesn't keep, as `check` tells it, where its image has the release's number as its name
abbrev pub unmade_told : Unmade → Refusal
unmade_told (unmade.Texts w) = text_refused w
unmade_told (unmade.NotKept lost) = not_kept (release_number Second) (breach_of lost)

-- ---- the client on the second release

-- what the client means there
abbrev pub client_run : Made → Ran (Unit {0})
client_run m = means m.second.release m.client.program DEFAULT_FUEL

-- what it prints, and then how much fuel is left
abbrev pub ran_text : Ran (Unit {0}) → List ℕ
ran_text run = run_text no_trace run ++ left_text run

-- all that is printed: how many classes there are comes first
abbrev pub generated_text : ℕ → Ran (Unit {0}) → List ℕ
generated_text n run = classes_line n ++ ran_text run

-- the ending by this run, with its status; no file is changed
abbrev pub generating : ℕ → Files → Ran (Unit {0}) → Ending
generating n files run = record { text = generated_text n run; status = run_status run; files = files }

-- The texts of so many classes are compiled, the client against the first release, and the second release is held against the first. The first
-- of these steps that refuses is told, and else the client runs on the second release.
pub data IsGenerateAnswer (n : ℕ) (files : Files) : Ending → Type 0 where
  refused : (u : Unmade) → Makes n (Err u) → IsGenerateAnswer n files (refusing files (unmade_told u))
  runs : (m : Made) → Makes n (Ok m) → IsGenerateAnswer n files (generating n files (client_run m))

-- the statuses of `generate`: the client came to its end or to a fault, texts can't be read or break a rule, the second release isn't accepted, the fuel was spent,
-- texts pass a limit, or the sink failed or memory ran out
abbrev pub generate_statuses : List ℕ
generate_statuses = 0 ∷ 1 ∷ 3 ∷ 4 ∷ 9 ∷ 11 ∷ 8 ∷ 10 ∷ []
