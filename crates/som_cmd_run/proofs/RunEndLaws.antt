-- How a run ends of images that a store holds.
use Rattle.std.proofs.Common.{◌≡◌, ℕ, Bool, true, false, List, Option, Some, None, Result, Ok, ap, subst, ◌∙◌}
use Rattle.std.specs.FinMap.{get}
use Rattle.std.specs.Option.{option_map}
use Rattle.som_model.specs.declared.program.Release.{Release}
use Rattle.som_model.specs.declared.program.ClientProgram.{ClientProgram}
use Rattle.som_model.specs.Bytes.{Files}
use Rattle.som_model.specs.Class.{interface_of}
use Rattle.som_model.specs.Compatible.{CompatBreach, Compatible, first_break}
use Rattle.som_model.specs.Conforming.{program_breach}
use Rattle.som_model.specs.Lists.{or_else}
use Rattle.som_semantics.specs.Means.{means}
use Rattle.som_model.specs.Rules.{RuleBreach}
use Rattle.som_model.specs.Steps.{◌>>=◌}
use Rattle.som_image_fields.specs.declared.fault.ImageFault.{ImageFault}
use Rattle.som_libimage.proofs.Decoded.{library_again}
use Rattle.som_cliimage.proofs.Decoded.{client_again}
use Rattle.som_verify.proofs.Conforming.{conforms_program, conforms_release}
use Rattle.som_link_check.specs.Pairs.{Obstacle, Breaks, DoesntKeep, obstacle}
use Rattle.som_io.specs.Outside.{ShowsAll}
use Rattle.som_cmd_steps.specs.declared.stop.Refusal.{Refusal}
use Rattle.som_cmd_steps.specs.Endings.{Ending, refusing}
use Rattle.som_cmd_steps.specs.ImageSteps.{program_in, read_or, release_in}
use Rattle.som_cmd_steps.specs.Lines.{not_kept}
use Rattle.som_cmd_steps.specs.Outcomes.{EndsAs}
use Rattle.som_cmd_steps.proofs.ByteLaws.{client_read, library_read}
use Rattle.som_cmd_steps.proofs.FileLaws.{got_by}
use Rattle.som_cmd_link.specs.declared.pair.Pair.{Pair}
use Rattle.som_cmd_link.specs.Pairs.{clear_or, kept_pair, linked_in, pair_in}
use Rattle.som_cmd_link.proofs.Reading.{both, pair_of}
use Rattle.som_cmd_run.specs.RunAnswer.{IsRunAnswer, ending_by, ran}
use Rattle.som_cmd_run.specs.RunEnds.{AreUnder, RunsAs, TellsNotKept}

module _ (files : Files) (c l : List ℕ) (p : ClientProgram) (r : Release) (u : AreUnder files c l p r) where
  -- ---- they are got and read

  program_read : program_in c u.program.bytes ≡ Ok p
  program_read = ap (λ (x : Result ClientProgram ImageFault). read_or c x) (client_read u.program.bytes (Ok p) u.program.bytes_are (client_again u.program.bytes p u.program.spelled))

  release_read : release_in l u.release.bytes ≡ Ok r
  release_read = ap (λ (x : Result Release ImageFault). read_or l x) (library_read u.release.bytes (Ok r) u.release.bytes_are (library_again u.release.bytes r u.release.spelled))

  both_there : pair_in c l files ≡ Ok (pair_of p r)
  both_there =
      both c l files u.program.bytes u.release.bytes p r (got_by (get files c) c u.program.bytes u.program.image_is) (got_by (get files l) l u.release.bytes u.release.image_is) program_read release_read

  -- ---- nothing is in the way of linking, unless the library doesn't keep something

  abbrev unkept : Option CompatBreach → Option Obstacle
  unkept o = option_map DoesntKeep o

  obstacle_is : obstacle r p ≡ unkept (first_break p.base (interface_of r))
  obstacle_is =
      ap (λ (o : Option RuleBreach). or_else (option_map (Breaks false) o) (or_else (option_map (Breaks true) (program_breach p)) (unkept (first_break p.base (interface_of r))))) (conforms_release r u.release.conforms)
      ∙ ap (λ (o : Option RuleBreach). or_else (option_map (Breaks true) o) (unkept (first_break p.base (interface_of r)))) (conforms_program p u.program.conforms)

  abbrev kept_by : Option CompatBreach → Result Pair Refusal
  kept_by o = clear_or c l (unkept o) >>= λ clear. Ok (pair_of p r)

  linked_by : (o : Option CompatBreach) → first_break p.base (interface_of r) ≡ o → linked_in c l files ≡ kept_by o
  linked_by o e =
      ap (λ (x : Result Pair Refusal). x >>= kept_pair c l) both_there
      ∙ ap (λ (x : Option Obstacle). clear_or c l x >>= λ clear. Ok (pair_of p r)) obstacle_is
      ∙ ap kept_by e

  -- ---- the end of the call

  module _ (fuel : ℕ) (shows : List ℕ → Bool) (status : ℕ) (new_files : Option Files) (old new : Option (List ℕ)) (e : EndsAs (IsRunAnswer c l fuel shows files) status new_files old new) where
    ending_is : (o : Option CompatBreach) → first_break p.base (interface_of r) ≡ o → e.told ≡ ending_by fuel shows files (kept_by o)
    ending_is o is = e.is_answer ∙ ap (ending_by fuel shows files) (linked_by o is)

    -- it is that of what the client means
    pub means_by : Compatible p.base (interface_of r) → RunsAs p r fuel shows status old new
    means_by kept =
        let same : e.told ≡ ran shows files (means r p fuel) = ending_is None kept in
        record {
          text = subst (λ (x : Ending). ShowsAll old new x.text) same e.text_is;
          status_is = e.status_is ∙ ap (λ (x : Ending). x.status) same;
        }

    -- or tells what isn't kept
    pub unkept_by : (b : CompatBreach) → first_break p.base (interface_of r) ≡ Some b → TellsNotKept l b status old new
    unkept_by b is =
        let same : e.told ≡ refusing files (not_kept l b) = ending_is (Some b) is in
        record {
          text = subst (λ (x : Ending). ShowsAll old new x.text) same e.text_is;
          status_is = e.status_is ∙ ap (λ (x : Ending). x.status) same;
        }

  -- what was written before the call was cut short is a front of what the client means
  pub front_by : (fuel : ℕ) (shows : List ℕ → Bool) (e : Ending) → IsRunAnswer c l fuel shows files e → Compatible p.base (interface_of r) → e ≡ ran shows files (means r p fuel)
  front_by fuel shows e is kept = is ∙ ap (ending_by fuel shows files) (linked_by None kept)
