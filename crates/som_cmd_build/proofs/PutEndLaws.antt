-- How the ends of a call that compiles texts are those of its answer, and what it leaves.
use Rattle.std.proofs.Common.{◌≡◌, ◌≢◌, ℕ, ◌⊎◌, Bool, true, false, ◌==◌, List, Option, Some, None, Result, Ok, Err, refl, sym, ap, subst, ◌∙◌, inl, inr, arith}
use Rattle.std.proofs.lemmas.Bool.{eqb-true}
use Rattle.std.specs.FinMap.{get, insert}
use Rattle.som_model.specs.Images.{library_image, client_image}
use Rattle.som_io.specs.Outside.{ShowsAll, ShowsFront}
use Rattle.som_model.specs.declared.program.ClientProgram.{ClientProgram}
use Rattle.som_model.specs.declared.program.Release.{Release}
use Rattle.som_model.specs.Bytes.{AreBytes, Files}
use Rattle.som_model.specs.Class.{interface_of}
use Rattle.som_compile.proofs.ClientLaws.{client_stands_image}
use Rattle.som_compile.proofs.CompileLaws.{stands_image}
use Rattle.som_compile.specs.Compiling.{a_client_image, an_image}
use Rattle.som_libimage.proofs.Decoded.{image_within, library_again}
use Rattle.som_cmd_steps.proofs.OutcomeLaws.{text_of, status_is, files_of}
use Rattle.som_cmd_steps.proofs.Printed.{nothing_written}
use Rattle.som_cmd_steps.proofs.Statuses.{AllSaid, differs}
use Rattle.som_cmd_steps.specs.declared.output.Output.{Output}
use Rattle.som_cmd_steps.specs.declared.stop.Refusal.{Refusal}
use Rattle.som_cmd_steps.specs.declared.stop.Why.{Why}
use Rattle.som_cmd_steps.specs.declared.stop.CommandStop.{CommandStop}
use Rattle.som_cmd_steps.specs.Status.{status_of}
use Rattle.som_cmd_steps.specs.Endings.{Ending, refusing}
use Rattle.som_cmd_steps.specs.Cause.{HasCause}
use Rattle.som_cmd_steps.specs.Lines.{store_failed}
use Rattle.som_cmd_steps.specs.Saying.{SaysAll, SaysFailure, SaysFront}
use Rattle.som_cmd_steps.specs.Outcomes.{EndsAs, EndsAsTold, ShowsSome}
use Rattle.som_cmd_steps.proofs.FileLaws.{got_by}
use Rattle.som_cmd_steps.specs.declared.stop.Why.TheVariants as why
use Rattle.som_cmd_steps.specs.declared.stop.CommandStop.TheVariants as stops
use Rattle.som_cmd_sources.specs.declared.client_parts.ClientParts.{ClientParts}
use Rattle.som_cmd_sources.specs.PutAnswer.{Compiling, IsMade, IsPutAnswer, putting, puts}
use Rattle.som_cmd_sources.specs.Parts.{parts_in}
use Rattle.som_cmd_sources.proofs.PartLaws.{all_parts}
use Rattle.som_cmd_sources.proofs.TextLaws.{texts_known}
use Rattle.som_cmd_build.proofs.PutAnswered.{one_library_answer, one_client_answer}
use Rattle.som_cmd_build.specs.declared.putting.PutEnd.{PutEnd}
use Rattle.som_cmd_build.specs.declared.putting.PutEnd.TheVariants as ends
use Rattle.som_cmd_build.specs.Cause.{HaveImage}
use Rattle.som_cmd_build.specs.ClientAnswer.{IsClientAnswer, IsClientCompiled}
use Rattle.som_cmd_build.specs.PutEnds.{SaysPutFailed, LeavesFiles, as_they_were, with_image, put_failed, PutsImage, HoldsClientTexts, HoldsTexts, LeavesFilesTold}
use Rattle.som_cmd_build.specs.PutSteps.{EndHasCause, Puts, PutsTold, outcome_of}
use Rattle.som_cmd_build.proofs.PutFiles.{same_image}
use Rattle.som_cmd_build.proofs.BaseLaws.{base_under, shows_base}
use Rattle.som_cmd_build.specs.LibraryAnswer.{AreCompiled, IsLibraryAnswer}

module _ {A : Type 0} (Comes : Compiling A) (out : List ℕ) (got : Files → Result A Refusal) where
  -- what the command answers
  abbrev pub PutAnswers : Files → Ending → Type 0
  PutAnswers before e = IsPutAnswer Comes before out (got before) e

  -- where all of it was printed, the call ends as the answer says
  pub put_ends : (files : Option Files) (result : Result PutEnd CommandStop) (new_files : Option Files) → PutsTold Comes files out got result new_files → (status : ℕ) (old new : Option (List ℕ)) → SaysAll (outcome_of result) status old new
      → EndsAsTold PutAnswers files status new_files old new
  put_ends None result new_files f status old new says = tt
  put_ends (Some before) (Ok ends.Done) new_files f status old new says =
      record { told = putting before out f.0; is_answer = puts f.0 f.1; status_is = says.0; text_is = says.1; files_are = f.3 }
  put_ends (Some before) (Ok (ends.Failed put)) new_files f status old new says = absurd says
  put_ends (Some before) (Err (stops.Refused r)) new_files f status old new says =
      record { told = refusing before r; is_answer = f.0; status_is = says.0; text_is = says.1; files_are = f.1 }
  put_ends (Some before) (Err (stops.StoreFailed line)) new_files f status old new says = absurd says
  put_ends (Some before) (Err stops.NoMemory) new_files f status old new says = absurd says

  -- the line says that a get failed, or the put of what was compiled
  abbrev pub FailsPutting : (List ℕ → Type 0) → Option Files → List ℕ → Type 0
  FailsPutting is_get files line = is_get line ⊎ ((line ≡ store_failed out) × HaveImage files (λ told. IsMade Comes (got told)))

  pub has_cause : (is_get : List ℕ → Type 0) (files : Option Files) (result : Result PutEnd CommandStop) (new_files : Option Files) → PutsTold Comes files out got result new_files → (count now : ℕ) → EndHasCause is_get out count now result
      → HasCause (FailsPutting is_get files) count now (outcome_of result)
  has_cause is_get files (Ok ends.Done) new_files f count now cause = tt
  has_cause is_get None (Ok (ends.Failed put)) new_files f count now cause = (cause.0, inr (cause.1, tt))
  has_cause is_get (Some before) (Ok (ends.Failed put)) new_files f count now cause = (cause.0, inr (cause.1, (f.0, f.1)))
  has_cause is_get files (Err (stops.Refused r)) new_files f count now cause = tt
  has_cause is_get files (Err (stops.StoreFailed line)) new_files f count now cause = (cause.0, inl cause.1)
  has_cause is_get files (Err stops.NoMemory) new_files f count now cause = tt

  -- a front of what there is to print was written
  pub put_fronts : (is_get : List ℕ → Type 0) → ((before : Files) → (e : Ending) × PutAnswers before e) → (files : Option Files) (result : Result PutEnd CommandStop) (new_files : Option Files) → PutsTold Comes files out got result new_files
      → (count now : ℕ) → EndHasCause is_get out count now result → (old new : Option (List ℕ)) → SaysFront (outcome_of result) old new → ShowsSome PutAnswers (FailsPutting is_get files) files count now old new
  put_fronts is_get some None result new_files f count now cause old new says = tt
  put_fronts is_get some (Some before) (Ok ends.Done) new_files f count now cause old new says = inl (putting before out f.0, puts f.0 f.1, says)
  put_fronts is_get some (Some before) (Ok (ends.Failed put)) new_files f count now cause old new says = inr (cause.0, put.line, inr (cause.1, (f.0, f.1)), says)
  put_fronts is_get some (Some before) (Err (stops.Refused r)) new_files f count now cause old new says = inl (refusing before r, f.0, says)
  put_fronts is_get some (Some before) (Err (stops.StoreFailed line)) new_files f count now cause old new says = inr (cause.0, line, inl cause.1, says)
  put_fronts is_get some (Some before) (Err stops.NoMemory) new_files f count now cause old new says =
      subst (λ (x : Option (List ℕ)). ShowsSome PutAnswers (FailsPutting is_get (Some before)) (Some before) count now old x) (sym says) (nothing_written PutAnswers (FailsPutting is_get (Some before)) some (Some before) count now old)

  -- ---- files

  zero_apart : (status k : ℕ) → status ≡ 0 → 0 ≢ k → status ≢ k
  zero_apart status k e f g = f (sym e ∙ g)

  no_refusal_is_done : (w : Why) → status_of w ≢ 0
  no_refusal_is_done why.Texts e = omega arith
  no_refusal_is_done why.Incompatible e = omega arith
  no_refusal_is_done why.Image e = omega arith
  no_refusal_is_done why.Absent e = omega arith
  no_refusal_is_done why.Limit e = omega arith

  not_done : (r : Result Output CommandStop) (stop : CommandStop) → r ≡ Err stop → (status : ℕ) (old new : Option (List ℕ)) → AllSaid (Err stop) status old new → status ≢ 0
  not_done r (stops.Refused x) e status old new says zero =
      let said = says (zero_apart status 6 zero (λ h. omega arith)) (zero_apart status 8 zero (λ h. omega arith)) (zero_apart status 10 zero (λ h. omega arith)) in
      no_refusal_is_done x.why (sym said.0 ∙ zero)
  not_done r (stops.StoreFailed line) e status old new says zero = says (zero_apart status 6 zero (λ h. omega arith)) (zero_apart status 8 zero (λ h. omega arith)) (zero_apart status 10 zero (λ h. omega arith))
  not_done r stops.NoMemory e status old new says zero = says (zero_apart status 6 zero (λ h. omega arith)) (zero_apart status 8 zero (λ h. omega arith)) (zero_apart status 10 zero (λ h. omega arith))

  -- the line that says so was written whole or in part, or not at all
  failing : (line : List ℕ) → line ≡ store_failed out → (status : ℕ) (old new : Option (List ℕ)) → AllSaid (Err (stops.StoreFailed line)) status old new
      → (status ≡ 6 → SaysFailure (Err (stops.StoreFailed line)) old new) → SaysFront (Err (stops.StoreFailed line)) old new
      → (a b c : Bool) → (status == 6) ≡ a → (status == 8) ≡ b → (status == 10) ≡ c → SaysPutFailed out status old new
  failing line is status old new says fails front true b c e f g = let six = eqb-true status 6 e in inl (six, subst (ShowsAll old new) is (fails six))
  failing line is status old new says fails front false true c e f g = inr (inl (eqb-true status 8 f), subst (ShowsFront old new) is front)
  failing line is status old new says fails front false false true e f g = inr (inr (eqb-true status 10 g), subst (ShowsFront old new) is front)
  failing line is status old new says fails front false false false e f g = absurd (says (differs status 6 e) (differs status 8 f) (differs status 10 g))

  pub keeps : (is_get : List ℕ → Type 0) (files : Files) (result : Result PutEnd CommandStop) (new_files : Option Files) → Puts Comes files out (got files) result new_files → (count now status : ℕ) → EndHasCause is_get out count now result
      → (old new : Option (List ℕ)) → AllSaid (outcome_of result) status old new → (status ≡ 6 → SaysFailure (outcome_of result) old new) → SaysFront (outcome_of result) old new → (result ≡ Ok ends.Done → status ≡ 0)
      → LeavesFiles (IsMade Comes (got files)) files out count now status new_files old new
  keeps is_get files (Ok ends.Done) new_files f count now status cause old new says fails front done = with_image f.0 f.1 f.2 (done refl) f.3
  keeps is_get files (Ok (ends.Failed put)) new_files f count now status cause old new says fails front done =
      put_failed f.0 f.1 f.2 cause.0 (failing put.line cause.1 status old new says fails front (status == 6) (status == 8) (status == 10) refl refl refl) f.3
  keeps is_get files (Err (stops.Refused r)) new_files f count now status cause old new says fails front done = as_they_were (not_done (Err (stops.Refused r)) (stops.Refused r) refl status old new says) f.1
  keeps is_get files (Err (stops.StoreFailed line)) new_files f count now status cause old new says fails front done =
      as_they_were (not_done (Err (stops.StoreFailed line)) (stops.StoreFailed line) refl status old new says) f
  keeps is_get files (Err stops.NoMemory) new_files f count now status cause old new says fails front done = as_they_were (not_done (Err stops.NoMemory) stops.NoMemory refl status old new says) f

  -- the files that a put leaves in a store, where it told its files
  pub keeps_told : (is_get : List ℕ → Type 0) (files : Option Files) (result : Result PutEnd CommandStop) (new_files : Option Files) → PutsTold Comes files out got result new_files → (count now status : ℕ) → EndHasCause is_get out count now result
      → (old new : Option (List ℕ)) → AllSaid (outcome_of result) status old new → (status ≡ 6 → SaysFailure (outcome_of result) old new) → SaysFront (outcome_of result) old new → (result ≡ Ok ends.Done → status ≡ 0)
      → LeavesFilesTold (λ told. IsMade Comes (got told)) files out count now status new_files old new
  keeps_told is_get None result new_files f count now status cause old new says fails front done = tt
  keeps_told is_get (Some files) result new_files f count now status cause old new says fails front done = keeps is_get files result new_files f count now status cause old new says fails front done

-- ---- what was put

failed_apart : (out : List ℕ) (status : ℕ) (old new : Option (List ℕ)) → status ≡ 0 → SaysPutFailed out status old new → ⊥
failed_apart out status old new zero (inl says) = let six = says.0 in omega (arith, six, zero)
failed_apart out status old new zero (inr (inl eight, shown)) = omega (arith, eight, zero)
failed_apart out status old new zero (inr (inr ten, shown)) = omega (arith, ten, zero)

-- an image that was put is bytes
bytes_put : (IsImage : List ℕ → Type 0) (files : Files) (out : List ℕ) (count now status : ℕ) (new_files : Option Files) (old new : Option (List ℕ)) (image : List ℕ) → status ≡ 0 → new_files ≡ Some (insert files out image)
    → LeavesFiles IsImage files out count now status new_files old new → AreBytes image
bytes_put IsImage files out count now status new_files old new image zero put (as_they_were not0 same) = absurd (not0 zero)
bytes_put IsImage files out count now status new_files old new image zero put (with_image other is bytes done stands) =
    subst AreBytes (same_image files out other image (sym stands ∙ put)) bytes
bytes_put IsImage files out count now status new_files old new image zero put (put_failed other is bytes rose says fails) = absurd (failed_apart out status old new zero says)

-- ---- texts that stand for something

-- the image of an answer stands under the name
module _ (IsAnswer : Ending → Type 0) (one : (a b : Ending) → IsAnswer a → IsAnswer b → a ≡ b) (status : ℕ) (new_files : Option Files) (old new : Option (List ℕ)) (e : EndsAs IsAnswer status new_files old new) (files : Files)
    (out : List ℕ) (image_is : Option (List ℕ)) (image : List ℕ) (spelled : image_is ≡ Some image) (is : IsAnswer (putting files out image)) (IsImage : List ℕ → Type 0) (count now : ℕ)
    (left : LeavesFiles IsImage files out count now status new_files old new) where
  pub put_as : PutsImage image_is files out status new_files old new
  put_as = record {
    image = image;
    spelled = spelled;
    bytes_are = bytes_put IsImage files out count now status new_files old new image (status_is IsAnswer one status new_files old new e (putting files out image) is)
        (files_of IsAnswer one status new_files old new e (putting files out image) is) left;
    put = files_of IsAnswer one status new_files old new e (putting files out image) is;
    text = text_of IsAnswer one status new_files old new e (putting files out image) is;
    status_is = status_is IsAnswer one status new_files old new e (putting files out image) is;
  }

-- the image of the release that the texts stand for is put
pub puts_by : (out : List ℕ) (names : List (List ℕ)) (files : Files) (status : ℕ) (new_files : Option Files) (old new : Option (List ℕ)) (r : Release) → EndsAs (IsLibraryAnswer out names files) status new_files old new
    → (count now : ℕ) → LeavesFiles (AreCompiled files names) files out count now status new_files old new → HoldsTexts files names r → PutsImage (library_image r) files out status new_files old new
puts_by out names files status new_files old new r e count now left m =
    let image = stands_image m.texts r (texts_known names files m.texts m.texts_are).1 m.stand in
    put_as (IsLibraryAnswer out names files) (one_library_answer files out names) status new_files old new e files out (library_image r) image.0 image.1
    (puts image.0 (m.texts, m.texts_are, an_image r image.0 m.stand image.1)) (AreCompiled files names) count now left

-- and that of the client program
pub puts_client_by : (out library : List ℕ) (names : List (List ℕ)) (files : Files) (status : ℕ) (new_files : Option Files) (old new : Option (List ℕ)) (p : ClientProgram) → EndsAs (IsClientAnswer out library names files) status new_files old new
    → (count now : ℕ) → LeavesFiles (IsClientCompiled files library names) files out count now status new_files old new → HoldsClientTexts files library names p → PutsImage (client_image p) files out status new_files old new
puts_client_by out library names files status new_files old new p e count now left m =
    let u = m.under in
    let read = library_again u.bytes m.base u.spelled in
    let parts : ClientParts = record { base = m.base; texts = m.texts } in
    let there : parts_in library names files ≡ Ok parts =
    all_parts library names files u.bytes m.texts m.base (got_by (get files library) library u.bytes u.image_is) m.texts_are (base_under library u.bytes m.base u.bytes_are read u.conforms) in
    let image = client_stands_image (interface_of m.base) m.texts p (shows_base m.base u.conforms (image_within m.base u.bytes u.spelled)) (texts_known names files m.texts m.texts_are).1 m.stand in
    put_as (IsClientAnswer out library names files) (one_client_answer files out library names) status new_files old new e files out (client_image p) image.0 image.1
    (puts image.0 (parts, there, a_client_image p image.0 m.stand image.1)) (IsClientCompiled files library names) count now left
