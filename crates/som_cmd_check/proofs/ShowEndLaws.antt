-- How the end of a call that shows an image is that of its answer.
use Rattle.std.proofs.Common.{◌≡◌, ℕ, List, Option, Ok}
use Rattle.som_model.specs.declared.program.Release.{Release}
use Rattle.som_model.specs.declared.program.ClientProgram.{ClientProgram}
use Rattle.som_model.specs.Bytes.{Files}
use Rattle.som_libimage.proofs.Decoded.{library_again}
use Rattle.som_cliimage.proofs.Decoded.{client_again}
use Rattle.som_cmd_steps.proofs.ByteLaws.{client_read, library_read}
use Rattle.som_cmd_steps.proofs.OutcomeLaws.{text_of, status_is}
use Rattle.som_cmd_steps.specs.Endings.{Ending}
use Rattle.som_cmd_steps.specs.Outcomes.{EndsAs}
use Rattle.som_cmd_steps.specs.StoredImages.{IsClientUnder, IsUnder}
use Rattle.som_cmd_check.proofs.ShowLaws.{one_show_answer}
use Rattle.som_cmd_check.specs.ShowAnswer.{shows_client, showing, showing_client, IsShowAnswer, shows_library}
use Rattle.som_cmd_check.specs.ShowEnds.{ShowsProgram, ShowsRelease}
use Rattle.som_cmd_check.proofs.ImageKinds.{of_client, of_library}

module _ (n : List ℕ) (files : Files) (status : ℕ) (new_files : Option Files) (old new : Option (List ℕ)) (e : EndsAs (IsShowAnswer n files) status new_files old new) where
  abbrev one : (a b : Ending) → IsShowAnswer n files a → IsShowAnswer n files b → a ≡ b
  one a b x y = one_show_answer files n a b x y

  -- it is an end that shows the release
  pub shows_by : (r : Release) → IsUnder files n r → ShowsRelease r status old new
  shows_by r m =
      let is : IsShowAnswer n files (showing files r) = shows_library m.bytes r m.image_is (of_library r m.bytes m.spelled) (library_read m.bytes (Ok r) m.bytes_are (library_again m.bytes r m.spelled)) m.conforms in
      record {
        text = text_of (IsShowAnswer n files) one status new_files old new e (showing files r) is;
        status_is = status_is (IsShowAnswer n files) one status new_files old new e (showing files r) is;
      }

  -- it is an end that shows the client program
  pub shows_client_by : (p : ClientProgram) → IsClientUnder files n p → ShowsProgram p status old new
  shows_client_by p m =
      let is : IsShowAnswer n files (showing_client files p) = shows_client m.bytes p m.image_is (of_client p m.bytes m.spelled) (client_read m.bytes (Ok p) m.bytes_are (client_again m.bytes p m.spelled)) m.conforms in
      record {
        text = text_of (IsShowAnswer n files) one status new_files old new e (showing_client files p) is;
        status_is = status_is (IsShowAnswer n files) one status new_files old new e (showing_client files p) is;
      }
