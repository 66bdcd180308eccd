-- A call in which neither the store nor the sink failed ends as its answer says, or wants memory.
use Rattle.std.proofs.Common.{◌≡◌, ◌≢◌, ◌⊎◌, ◌==◌, ℕ, Bool, true, false, List, Option, Some, None, refl, sym, ◌∙◌, inl, inr, arith}
use Rattle.std.proofs.lemmas.Bool.{eqb-true}
use Rattle.som_model.specs.Bytes.{Files}
use Rattle.som_io.specs.Outside.{Rose}
use Rattle.som_cmd_steps.proofs.Statuses.{differs}
use Rattle.som_cmd_build.specs.PutEnds.{LeavesFiles, as_they_were, with_image, put_failed}
use Rattle.som_cmd_witness.specs.WitnessEnds as witness
use Rattle.som_cmd_towers.specs.Asked.{Make, Compare, RunOn}
use Rattle.som_cmd.specs.Words.{Asked, Bad, Library, Run, Show, Check, Client, Tasks, Witness, Generate, Tower}
use Rattle.som_cmd.specs.Complete.{EndsOrWants, WantsMemory}
use Rattle.som_cmd.specs.Ends.{EndsAsTold, ShowsSome, StoreFails}
use Rattle.som_cmd.specs.PutEnds.{KeepsFiles}

ten_is_none : ◌≡◌ {A = ℕ} 10 0 → ⊥
ten_is_none e = omega arith

module _ (count now : ℕ) (steady : Rose count now → ⊥) where
  -- what compiles texts leaves the files as they were, at a status that isn't 0
  unchanged : (IsImage : List ℕ → Type 0) (files : Files) (out : List ℕ) (status : ℕ) (new_files : Option Files) (old new : Option (List ℕ)) → status ≡ 10
      → LeavesFiles IsImage files out count now status new_files old new → new_files ≡ Some files
  unchanged IsImage files out status new_files old new ten (as_they_were not0 same) = same
  unchanged IsImage files out status new_files old new ten (with_image image is bytes zero put) = absurd (ten_is_none (sym ten ∙ zero))
  unchanged IsImage files out status new_files old new ten (put_failed image is bytes rose says fails) = absurd (steady rose)

  -- so does a witness
  unwitnessed : (files : Files) (out older newer : List ℕ) (status : ℕ) (new_files : Option Files) (old new : Option (List ℕ)) → status ≡ 10
      → witness.LeavesFiles files out older newer count now status new_files old new → new_files ≡ Some files
  unwitnessed files out older newer status new_files old new ten (witness.as_they_were not0 same) = same
  unwitnessed files out older newer status new_files old new ten (witness.nothing_to_put none zero same) = same
  unwitnessed files out older newer status new_files old new ten (witness.with_image text image is zero all put) = absurd (ten_is_none (sym ten ∙ zero))
  unwitnessed files out older newer status new_files old new ten (witness.put_failed text image is rose says fails) = absurd (steady rose)

  -- so does every command
  kept : (asked : Asked) (files : Files) (status : ℕ) (new_files : Option Files) (old new : Option (List ℕ)) → status ≡ 10
      → KeepsFiles asked (Some files) count now status new_files old new → new_files ≡ Some files
  kept (Run client library fuel calls) files status new_files old new ten k = k
  kept (Show image) files status new_files old new ten k = k
  kept (Check images) files status new_files old new ten k = k
  kept (Library out names) files status new_files old new ten k = unchanged _ files out status new_files old new ten k
  kept (Client out library names) files status new_files old new ten k = unchanged _ files out status new_files old new ten k
  kept (Tasks library turns clients) files status new_files old new ten k = k
  kept (Witness out older newer) files status new_files old new ten k = unwitnessed files out older newer status new_files old new ten k
  kept (Generate count) files status new_files old new ten k = k
  kept (Tower (Make out below names)) files status new_files old new ten k = unchanged _ files out status new_files old new ten k
  kept (Tower (Compare older newer)) files status new_files old new ten k = k
  kept (Tower (RunOn client below fuel)) files status new_files old new ten k = k
  kept Bad files status new_files old new ten k = k

  wants : (asked : Asked) (files : Files) (status : ℕ) (new_files : Option Files) (old new : Option (List ℕ)) → status ≡ 10 → new_files ≡ Some files
      → ShowsSome asked (Some files) count now old new → WantsMemory files asked status new_files old new
  wants asked files status new_files old new ten same (inl (told, is, front)) = record { told = told; is_answer = is; status_is = ten; front = front; files_are = same }
  wants asked files status new_files old new ten same (inr (rose, line, is, front)) = absurd (steady rose)

  module _ (sink_before sink_now : ℕ) (quiet : Rose sink_before sink_now → ⊥) (asked : Asked) (status : ℕ) (new_files : Option Files) (old new : Option (List ℕ)) where
    by_status : (files : Files) → (status ≢ 6 → status ≢ 8 → status ≢ 10 → EndsAsTold asked (Some files) status new_files old new)
        → (status ≡ 6 → StoreFails asked (Some files) count now old new) → (status ≡ 8 → Rose sink_before sink_now)
        → ((status ≡ 8) ⊎ (status ≡ 10) → ShowsSome asked (Some files) count now old new) → KeepsFiles asked (Some files) count now status new_files old new
        → (ten : Bool) → (status == 10) ≡ ten → EndsOrWants asked (Some files) status new_files old new
    by_status files ends fails sink front keeps true e =
        let ten : status ≡ 10 = eqb-true status 10 e in
        inr (wants asked files status new_files old new ten (kept asked files status new_files old new ten keeps) (front (inr ten)))
    by_status files ends fails sink front keeps false e = inl (ends (λ six. steady (fails six).rose) (λ eight. quiet (sink eight)) (differs status 10 e))

    pub complete : (files : Option Files) → (status ≢ 6 → status ≢ 8 → status ≢ 10 → EndsAsTold asked files status new_files old new)
        → (status ≡ 6 → StoreFails asked files count now old new) → (status ≡ 8 → Rose sink_before sink_now)
        → ((status ≡ 8) ⊎ (status ≡ 10) → ShowsSome asked files count now old new) → KeepsFiles asked files count now status new_files old new
        → EndsOrWants asked files status new_files old new
    complete None ends fails sink front keeps = tt
    complete (Some files) ends fails sink front keeps = by_status files ends fails sink front keeps (status == 10) refl
