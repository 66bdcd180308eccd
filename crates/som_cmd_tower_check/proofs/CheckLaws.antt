-- What the steps of `tower check` come to is the ending that is asked.
use Rattle.std.proofs.Common.{◌≡◌, ℕ, List, [], ◌∷◌, Option, Some, None, Result, Ok, Err, refl, sym, ap, ◌∙◌}
use Rattle.std.proofs.lemmas.List.{append-nil}
use Rattle.som_model.specs.Bytes.{Files}
use Rattle.som_cmd_steps.specs.declared.output.End.TheVariants as the_end
use Rattle.som_cmd_steps.specs.declared.stop.CommandStop.{CommandStop}
use Rattle.som_cmd_steps.specs.declared.stop.CommandStop.TheVariants as stops
use Rattle.som_cmd_steps.specs.declared.stop.Refusal.{Refusal}
use Rattle.som_cmd_steps.specs.Answering.{Answers, AnswersTold}
use Rattle.som_cmd_steps.specs.Endings.{Ending}
use Rattle.som_cmd_steps.specs.Steps.{FollowsTold, Stops}
use Rattle.som_cmd_tower_check.specs.TowerCheckAnswer.{IsTowerCheckAnswer, line_ending, line_told}

ending_of : (files : Files) (steps told : Result (List ℕ) Refusal) → steps ≡ told → line_ending files told ≡ line_ending files steps
ending_of files steps told e = ap (line_ending files) (sym e)

refused : (files : Files) (old new : List ℕ) (stop : CommandStop) → Stops {A = List ℕ} stop (line_told old new files) → Answers (IsTowerCheckAnswer old new files) files (Err stop)
refused files old new (stops.Refused r) f = ending_of files (line_told old new files) (Err r) f
refused files old new (stops.StoreFailed line) f = tt
refused files old new stops.NoMemory f = tt

-- the line is that of a refusal
pub line_refused : (files : Option Files) (old new : List ℕ) (stop : CommandStop) → FollowsTold {A = List ℕ} files (Err stop) (line_told old new) → AnswersTold (IsTowerCheckAnswer old new) files (Err stop)
line_refused None old new stop f = tt
line_refused (Some files) old new stop f = refused files old new stop f

-- it accepts
pub line_printed : (files : Option Files) (old new line : List ℕ) → FollowsTold files (Ok line) (line_told old new) → AnswersTold (IsTowerCheckAnswer old new) files (Ok (record { lines = line ∷ []; end = the_end.Done }))
line_printed None old new line f = tt
line_printed (Some files) old new line f =
    ap (λ (t : List ℕ). let e : Ending = record { text = t; status = 0; files = files } in e) (append-nil line) ∙ ending_of files (line_told old new files) (Ok line) f

-- ---- there is one answer

pub some_tower_check_answer : (files : Files) (old new : List ℕ) → (e : Ending) × IsTowerCheckAnswer old new files e
some_tower_check_answer files old new = (line_ending files (line_told old new files), refl)

pub one_tower_check_answer : (files : Files) (old new : List ℕ) (a b : Ending) → IsTowerCheckAnswer old new files a → IsTowerCheckAnswer old new files b → a ≡ b
one_tower_check_answer files old new a b x y = x ∙ sym y
