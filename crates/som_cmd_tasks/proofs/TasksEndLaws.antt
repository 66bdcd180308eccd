-- How a call of `tasks` ends of images that a store holds.
use Rattle.std.proofs.Common.{◌≡◌, ℕ, List, [], ◌∷◌, length, map, slice_get, Option, Some, None, Result, Ok, refl, sym, ap, subst, ◌∙◌}
use Rattle.std.specs.FinMap.{get}
use Rattle.som_model.specs.declared.program.Release.{Release}
use Rattle.som_model.specs.declared.program.ClientProgram.{ClientProgram}
use Rattle.som_model.specs.Bytes.{Files}
use Rattle.som_model.specs.Class.{interface_of}
use Rattle.som_model.specs.Compatible.{CompatBreach, first_break}
use Rattle.som_model.specs.Rules.{RuleBreach}
use Rattle.som_model.specs.Steps.{◌>>=◌}
use Rattle.som_semantics.specs.Means.{means}
use Rattle.som_semantics.specs.RunText.{with_prefix}
use Rattle.som_turn_laws.specs.Clients.{Client, IsMain, end_after}
use Rattle.som_turn_laws.specs.Turns.{Clients, alone_lines, client_prefix, from_client, line_shown, turns_lines, turns_of}
use Rattle.som_image_fields.specs.declared.fault.ImageFault.{ImageFault}
use Rattle.som_libimage.proofs.Decoded.{library_again}
use Rattle.som_cliimage.proofs.Decoded.{client_again}
use Rattle.som_verify.proofs.Conforming.{conforms_program, conforms_release}
use Rattle.som_io.specs.Outside.{ShowsAll}
use Rattle.som_cmd_steps.specs.declared.stop.Refusal.{Refusal}
use Rattle.som_cmd_steps.specs.Endings.{Ending}
use Rattle.som_cmd_steps.specs.Fetching.{file_of}
use Rattle.som_cmd_steps.specs.Getting.{images_in}
use Rattle.som_cmd_steps.specs.ImageSteps.{kept_or, program_in, program_rules_kept, read_or, release_in, rules_kept}
use Rattle.som_cmd_steps.specs.Outcomes.{EndsAs}
use Rattle.som_cmd_steps.specs.StoredImages.{IsClientUnder}
use Rattle.som_cmd_steps.proofs.ByteLaws.{client_read, library_read}
use Rattle.som_cmd_steps.proofs.FileLaws.{got_by}
use Rattle.som_cmd_tasks.specs.declared.group.Group.{Group}
use Rattle.som_cmd_tasks.specs.Groups.{each_kept, group_in, group_of, kept_or as base_kept, programs_in, programs_kept}
use Rattle.som_cmd_tasks.specs.TasksAnswer.{IsTasksAnswer, clients_on, ending_by, program_client}
use Rattle.som_cmd_tasks.specs.TasksEnds.{AreClientsUnder, AreGroupUnder, KeepsAll, PrintsAlone, TellsTurns}
use Rattle.som_cmd_tasks.proofs.Reading.{all_fitted, group}
use Rattle.som_cmd_tasks.proofs.Laying.{with_images}

-- ---- a client among others

module _ (r : Release) (ps : List ClientProgram) (turns : List ℕ) (i : ℕ) (p : ClientProgram) (at : slice_get ps i ≡ Some p) where
  client_is : clients_on r ps i ≡ means r p
  client_is = ap (program_client r) at

  pub alone : ((q : Release) (c : ClientProgram) → IsMain (means q c))
      → ((clients : Clients) (j : ℕ) → IsMain (clients j) → (ts : List ℕ) → map line_shown (from_client j (turns_lines clients ts)) ≡ with_prefix (client_prefix j) (alone_lines (clients j) (turns_of j ts)))
      → PrintsAlone r p (clients_on r ps) turns i
  alone main law = record {
    lines = law (clients_on r ps) i (subst IsMain (sym client_is) (main r p)) turns ∙ ap (λ (c : Client). with_prefix (client_prefix i) (alone_lines c (turns_of i turns))) client_is;
    end = ap (λ (c : Client). end_after c (turns_of i turns)) client_is;
  }

-- ---- the images are got and read

module _ (files : Files) where
  -- the bytes of the clients' images
  abbrev bytes_of : (ns : List (List ℕ)) (ps : List ClientProgram) → AreClientsUnder files ns ps → List (List ℕ)
  bytes_of [] [] u = []
  bytes_of [] (p ∷ ps) u = absurd u
  bytes_of (n ∷ ns) [] u = absurd u
  bytes_of (n ∷ ns) (p ∷ ps) u = u.0.bytes ∷ bytes_of ns ps u.1

  images_there : (ns : List (List ℕ)) (ps : List ClientProgram) (u : AreClientsUnder files ns ps) → images_in ns files ≡ Ok (bytes_of ns ps u)
  images_there [] [] u = refl
  images_there [] (p ∷ ps) u = absurd u
  images_there (n ∷ ns) [] u = absurd u
  images_there (n ∷ ns) (p ∷ ps) u =
      ap (λ (x : Result (List ℕ) Refusal). x >>= λ b. images_in ns files >>= λ bs. Ok (b ∷ bs)) (got_by (get files n) n u.0.bytes u.0.image_is)
      ∙ ap (λ (x : Result (List (List ℕ)) Refusal). x >>= λ bs. Ok (u.0.bytes ∷ bs)) (images_there ns ps u.1)

  one_read : (n : List ℕ) (p : ClientProgram) (u : IsClientUnder files n p) → program_in n u.bytes ≡ Ok p
  one_read n p u = ap (λ (x : Result ClientProgram ImageFault). read_or n x) (client_read u.bytes (Ok p) u.bytes_are (client_again u.bytes p u.spelled))

  programs_read : (ns : List (List ℕ)) (ps : List ClientProgram) (u : AreClientsUnder files ns ps) → programs_in ns (bytes_of ns ps u) ≡ Ok ps
  programs_read [] [] u = refl
  programs_read [] (p ∷ ps) u = absurd u
  programs_read (n ∷ ns) [] u = absurd u
  programs_read (n ∷ ns) (p ∷ ps) u =
      ap (λ (x : Result ClientProgram Refusal). x >>= λ q. programs_in ns (bytes_of ns ps u.1) >>= λ qs. Ok (q ∷ qs)) (one_read n p u.0)
      ∙ ap (λ (x : Result (List ClientProgram) Refusal). x >>= λ qs. Ok (p ∷ qs)) (programs_read ns ps u.1)

  each_conforms : (ns : List (List ℕ)) (ps : List ClientProgram) (u : AreClientsUnder files ns ps) → programs_kept ns ps ≡ Ok tt
  each_conforms [] [] u = refl
  each_conforms [] (p ∷ ps) u = absurd u
  each_conforms (n ∷ ns) [] u = absurd u
  each_conforms (n ∷ ns) (p ∷ ps) u = ap (λ (o : Option RuleBreach). kept_or n o >>= λ passed. programs_kept ns ps) (conforms_program p u.0.conforms) ∙ each_conforms ns ps u.1

all_keep : (l : List ℕ) (r : Release) (ps : List ClientProgram) → KeepsAll r ps → each_kept l (interface_of r) ps ≡ Ok tt
all_keep l r [] keeps = refl
all_keep l r (p ∷ ps) keeps = ap (λ (o : Option CompatBreach). base_kept l o >>= λ kept. each_kept l (interface_of r) ps) keeps.0 ∙ all_keep l r ps keeps.1

module _ (files : Files) (l : List ℕ) (cs : List (List ℕ)) (r : Release) (ps : List ClientProgram) (u : AreGroupUnder files l cs r ps) (keeps : KeepsAll r ps) where
  abbrev images : List (List ℕ)
  images = bytes_of files cs ps u.programs

  release_read : release_in l u.release.bytes ≡ Ok r
  release_read = ap (λ (x : Result Release ImageFault). read_or l x) (library_read u.release.bytes (Ok r) u.release.bytes_are (library_again u.release.bytes r u.release.spelled))

  release_kept : rules_kept l r ≡ Ok tt
  release_kept = ap (λ (o : Option RuleBreach). kept_or l o) (conforms_release r u.release.conforms)

  of_bytes : group_of l cs u.release.bytes images ≡ Ok (group r ps)
  of_bytes = all_fitted l cs u.release.bytes images r ps tt tt tt release_read (programs_read files cs ps u.programs) release_kept (each_conforms files cs ps u.programs) (all_keep l r ps keeps)

  pub group_there : group_in l cs files ≡ Ok (group r ps)
  group_there = sym (with_images files l cs u.release.bytes images (got_by (get files l) l u.release.bytes u.release.image_is) (images_there files cs ps u.programs)) ∙ of_bytes

  -- ---- the end of the call

  -- it is that of the turns of the programs
  pub taken_so : (turns : List ℕ) (e : Ending) → IsTasksAnswer l turns cs files e → e ≡ ending_by turns files (Ok (group r ps))
  taken_so turns e is = is ∙ ap (ending_by turns files) group_there

  pub tells_by : (turns : List ℕ) (status : ℕ) (new_files : Option Files) (old new : Option (List ℕ)) → EndsAs (IsTasksAnswer l turns cs files) status new_files old new
      → ((i : ℕ) (p : ClientProgram) → slice_get ps i ≡ Some p → PrintsAlone r p (clients_on r ps) turns i) → TellsTurns r ps turns status old new
  tells_by turns status new_files old new e law =
      let same : e.told ≡ ending_by turns files (Ok (group r ps)) = taken_so turns e.told e.is_answer in
      record {
        text = subst (λ (x : Ending). ShowsAll old new x.text) same e.text_is;
        status_is = e.status_is ∙ ap (λ (x : Ending). x.status) same;
        alone = law;
      }
