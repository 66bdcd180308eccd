-- What the steps of showing an image answer is the ending of what is asked.
use Rattle.std.proofs.Common.{◌≡◌, ℕ, Bool, true, false, if◌then◌else◌, List, Option, Some, None, Result, Ok, Err, refl, sym, ap, subst, ◌∙◌}
use Rattle.std.specs.List.{concat}
use Rattle.std.specs.FinMap.{get}
use Rattle.som_model.specs.declared.program.Release.{Release}
use Rattle.som_model.specs.declared.program.ClientProgram.{ClientProgram}
use Rattle.som_model.specs.Bytes.{Files}
use Rattle.som_model.specs.Rules.{RuleBreach}
use Rattle.som_model.specs.Conforming.{program_breach, release_breach}
use Rattle.som_model.specs.Steps.{◌>>=◌}
use Rattle.som_image_fields.specs.declared.fault.ImageFault.{ImageFault}
use Rattle.som_verify.proofs.Conforming.{conforms_program, conforms_release, program_conforms, release_conforms}
use Rattle.som_show.specs.Shown.{client_lines, shown_lines}
use Rattle.som_cmd_steps.specs.declared.stop.Refusal.{Refusal}
use Rattle.som_cmd_steps.specs.declared.stop.CommandStop.{CommandStop}
use Rattle.som_cmd_steps.specs.Endings.{Ending, refusing}
use Rattle.som_cmd_steps.specs.Lines.{absent, unread, broken}
use Rattle.som_cmd_steps.specs.Fetching.{file_of}
use Rattle.som_cmd_steps.specs.Steps.{Follows, FollowsTold}
use Rattle.som_cmd_steps.specs.Answering.{Answers, AnswersTold}
use Rattle.som_cmd_steps.specs.ImageSteps.{client_in, kept_or, library_in, sound, sound_program, sound_release}
use Rattle.som_cmd_steps.proofs.ImageLaws.{stops_first}
use Rattle.som_cmd_steps.proofs.FileLaws.{missing_by, found_by}
use Rattle.som_cmd_steps.specs.declared.output.End.TheVariants as the_end
use Rattle.som_cmd_steps.specs.declared.stop.CommandStop.TheVariants as stops
use Rattle.som_cmd_check.specs.ShowAnswer.{image_absent, client_unread, client_broken, shows_client, is_client, IsShowAnswer, library_broken, library_unread, shows_library}
use Rattle.som_cmd_check.specs.ShowSteps.{lines_shown, program_lines, release_lines}

-- ---- the ending that showing an image comes to

abbrev pub Lines : Type 0
Lines = Result (List (List ℕ)) Refusal

abbrev pub shown_ending : Files → Lines → Ending
shown_ending files (Ok lines) = record { text = concat lines; status = 0; files = files }
shown_ending files (Err r) = refusing files r

-- what is read of one kind of image, looked at and shown
module _ (files : Files) (n : List ℕ) {A : Type 0} (breach : A → Option RuleBreach) (show : A → List (List ℕ)) where
  abbrev lines_of : Result A ImageFault → Lines
  lines_of read = sound breach n read >>= λ x. Ok (show x)

  abbrev ruled_lines : A → Option RuleBreach → Lines
  ruled_lines x o = (kept_or n o >>= λ kept. Ok x) >>= λ y. Ok (show y)

  module _ (read : Result A ImageFault) where
    -- it is an answer
    module _ (unread_is : (fault : ImageFault) → read ≡ Err fault → IsShowAnswer n files (refusing files (unread n fault)))
        (broken_is : (x : A) (b : RuleBreach) → read ≡ Ok x → breach x ≡ Some b → IsShowAnswer n files (refusing files (broken n b)))
        (shown_is : (x : A) → read ≡ Ok x → breach x ≡ None → IsShowAnswer n files (shown_ending files (Ok (show x)))) where
      by_rules : (x : A) → read ≡ Ok x → (o : Option RuleBreach) → breach x ≡ o → IsShowAnswer n files (shown_ending files (ruled_lines x o))
      by_rules x e None none = shown_is x e none
      by_rules x e (Some b) is = broken_is x b e is

      by_reading : (r : Result A ImageFault) → read ≡ r → IsShowAnswer n files (shown_ending files (lines_of r))
      by_reading (Ok x) e = by_rules x e (breach x) refl
      by_reading (Err fault) e = unread_is fault e

      lines_answer : IsShowAnswer n files (shown_ending files (lines_of read))
      lines_answer = by_reading read refl

    -- and the only one
    unread_so : (fault : ImageFault) → read ≡ Err fault → refusing files (unread n fault) ≡ shown_ending files (lines_of read)
    unread_so fault e = ap (λ (x : Result A ImageFault). shown_ending files (lines_of x)) (sym e)

    ruled_so : (x : A) (o : Option RuleBreach) → read ≡ Ok x → breach x ≡ o → shown_ending files (ruled_lines x o) ≡ shown_ending files (lines_of read)
    ruled_so x o e is = ap (λ (y : Option RuleBreach). shown_ending files (ruled_lines x y)) (sym is) ∙ ap (λ (y : Result A ImageFault). shown_ending files (lines_of y)) (sym e)

-- ---- both kinds

abbrev by_kind : List ℕ → List ℕ → Bool → Lines
by_kind n b c = if c then program_lines n b else release_lines n b

module _ (files : Files) (n b : List ℕ) (has : get files n ≡ Some b) where
  kind_answer : (c : Bool) → is_client b ≡ c → IsShowAnswer n files (shown_ending files (by_kind n b c))
  kind_answer true is = lines_answer files n program_breach client_lines (client_in b) (λ fault e. client_unread b fault has is e) (λ p x e f. client_broken b p x has is e f)
      (λ p e f. shows_client b p has is e (program_conforms p f))
  kind_answer false is = lines_answer files n release_breach shown_lines (library_in b) (λ fault e. library_unread b fault has is e) (λ r x e f. library_broken b r x has is e f)
      (λ r e f. shows_library b r has is e (release_conforms r f))

  -- what the steps come to is an answer
  bytes_answer : IsShowAnswer n files (shown_ending files (lines_shown n b))
  bytes_answer = kind_answer (is_client b) refl

-- the ending, by what the store has under the name
abbrev pub file_ending : Files → List ℕ → Option (List ℕ) → Ending
file_ending files n None = refusing files (absent n)
file_ending files n (Some b) = shown_ending files (lines_shown n b)

pub file_answer : (files : Files) (n : List ℕ) (o : Option (List ℕ)) → get files n ≡ o → IsShowAnswer n files (file_ending files n o)
file_answer files n None has = image_absent has
file_answer files n (Some b) has = bytes_answer files n b has

of_kind : (files : Files) (n b : List ℕ) → get files n ≡ Some b → (c : Bool) → is_client b ≡ c → shown_ending files (by_kind n b c) ≡ file_ending files n (get files n)
of_kind files n b has c kind = ap (λ (x : Bool). shown_ending files (by_kind n b x)) (sym kind) ∙ ap (file_ending files n) (sym has)

-- and each answer is it
pub one_shown : (files : Files) (n : List ℕ) (e : Ending) → IsShowAnswer n files e → e ≡ file_ending files n (get files n)
one_shown files n e (image_absent has) = ap (file_ending files n) (sym has)
one_shown files n e (library_unread b fault has kind is) = unread_so files n release_breach shown_lines (library_in b) fault is ∙ of_kind files n b has false kind
one_shown files n e (library_broken b r x has kind is breaks) = ruled_so files n release_breach shown_lines (library_in b) r (Some x) is breaks ∙ of_kind files n b has false kind
one_shown files n e (shows_library b r has kind is ok) = ruled_so files n release_breach shown_lines (library_in b) r None is (conforms_release r ok) ∙ of_kind files n b has false kind
one_shown files n e (client_unread b fault has kind is) = unread_so files n program_breach client_lines (client_in b) fault is ∙ of_kind files n b has true kind
one_shown files n e (client_broken b p x has kind is breaks) = ruled_so files n program_breach client_lines (client_in b) p (Some x) is breaks ∙ of_kind files n b has true kind
one_shown files n e (shows_client b p has kind is ok) = ruled_so files n program_breach client_lines (client_in b) p None is (conforms_program p ok) ∙ of_kind files n b has true kind

-- ---- what the code answers

-- there is nothing under the name
missing : (files : Files) (n : List ℕ) (stop : CommandStop) → FollowsTold {A = List ℕ} (Some files) (Err stop) (file_of n) → Answers (IsShowAnswer n files) files (Err stop)
missing files n (stops.Refused r) f = let m = missing_by (get files n) n r f in subst (λ (x : Refusal). IsShowAnswer n files (refusing files x)) (sym m.1) (image_absent m.0)
missing files n (stops.StoreFailed line) f = tt
missing files n stops.NoMemory f = tt

pub image_missing : (files : Option Files) (n : List ℕ) (stop : CommandStop) → FollowsTold {A = List ℕ} files (Err stop) (file_of n) → AnswersTold (IsShowAnswer n) files (Err stop)
image_missing None n stop f = tt
image_missing (Some files) n stop f = missing files n stop f

stopped : (files : Files) (n b : List ℕ) → get files n ≡ Some b → (stop : CommandStop) → Follows {A = List (List ℕ)} (Err stop) (lines_shown n b) → Answers (IsShowAnswer n files) files (Err stop)
stopped files n b has (stops.Refused r) f = subst (λ (x : Lines). IsShowAnswer n files (shown_ending files x)) f (bytes_answer files n b has)
stopped files n b has (stops.StoreFailed line) f = tt
stopped files n b has stops.NoMemory f = tt

-- the bytes under the name aren't shown
pub bytes_refused : (files : Option Files) (n b : List ℕ) (stop : CommandStop) → FollowsTold files (Ok b) (file_of n) → Follows {A = List (List ℕ)} (Err stop) (lines_shown n b) → AnswersTold (IsShowAnswer n) files (Err stop)
bytes_refused None n b stop f g = tt
bytes_refused (Some files) n b stop f g = stopped files n b (found_by (get files n) n b f) stop g

-- they are shown
pub bytes_shown : (files : Option Files) (n b : List ℕ) (lines : List (List ℕ)) → FollowsTold files (Ok b) (file_of n) → Follows (Ok lines) (lines_shown n b) → AnswersTold (IsShowAnswer n) files (Ok (record { lines = lines; end = the_end.Done }))
bytes_shown None n b lines f g = tt
bytes_shown (Some files) n b lines f g = subst (λ (x : Lines). IsShowAnswer n files (shown_ending files x)) g (bytes_answer files n b (found_by (get files n) n b f))

-- ---- one kind of image

abbrev pub release_shown : Release → Lines
release_shown r = Ok (shown_lines r)

abbrev pub program_shown : ClientProgram → Lines
program_shown p = Ok (client_lines p)

pub release_stops : (n b : List ℕ) (stop : CommandStop) → Follows {A = Release} (Err stop) (sound_release n b) → Follows {A = List (List ℕ)} (Err stop) (release_lines n b)
release_stops n b stop f = stops_first stop (sound_release n b) release_shown f

pub release_is_shown : (n b : List ℕ) (r : Release) (lines : List (List ℕ)) → Follows (Ok r) (sound_release n b) → lines ≡ shown_lines r → Follows (Ok lines) (release_lines n b)
release_is_shown n b r lines f is = ap (λ (x : Result Release Refusal). x >>= release_shown) f ∙ ap (λ (l : List (List ℕ)). Ok l) (sym is)

pub program_stops : (n b : List ℕ) (stop : CommandStop) → Follows {A = ClientProgram} (Err stop) (sound_program n b) → Follows {A = List (List ℕ)} (Err stop) (program_lines n b)
program_stops n b stop f = stops_first stop (sound_program n b) program_shown f

pub program_is_shown : (n b : List ℕ) (p : ClientProgram) (lines : List (List ℕ)) → Follows (Ok p) (sound_program n b) → lines ≡ client_lines p → Follows (Ok lines) (program_lines n b)
program_is_shown n b p lines f is = ap (λ (x : Result ClientProgram Refusal). x >>= program_shown) f ∙ ap (λ (l : List (List ℕ)). Ok l) (sym is)

-- ---- an image of either kind

pub as_client : (n b : List ℕ) (result : Result (List (List ℕ)) CommandStop) → is_client b ≡ true → Follows result (program_lines n b) → Follows result (lines_shown n b)
as_client n b result is f = subst (λ (c : Bool). Follows result (by_kind n b c)) (sym is) f

pub as_library : (n b : List ℕ) (result : Result (List (List ℕ)) CommandStop) → is_client b ≡ false → Follows result (release_lines n b) → Follows result (lines_shown n b)
as_library n b result is f = subst (λ (c : Bool). Follows result (by_kind n b c)) (sym is) f

-- ---- one answer

pub some_show_answer : (files : Files) (n : List ℕ) → (e : Ending) × IsShowAnswer n files e
some_show_answer files n = (file_ending files n (get files n), file_answer files n (get files n) refl)

pub one_show_answer : (files : Files) (n : List ℕ) (a b : Ending) → IsShowAnswer n files a → IsShowAnswer n files b → a ≡ b
one_show_answer files n a b x y = one_shown files n a x ∙ sym (one_shown files n b y)
