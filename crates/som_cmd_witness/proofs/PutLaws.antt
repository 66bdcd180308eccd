-- How printing what is told ends, and the put after it.
use Rattle.std.proofs.Common.{◌≡◌, ◌≢◌, ℕ, ◌≤◌, ◌==◌, Bool, true, false, List, Option, Some, None, Result, Ok, Err, refl, sym, ◌∙◌, subst, arith}
use Rattle.std.proofs.lemmas.Bool.{eqb-true}
use Rattle.som_io.specs.Outside.{Rose, ShowsAll, ShowsFront}
use Rattle.som_io.proofs.ShownLaws.{rose_earlier}
use Rattle.som_model.specs.Bytes.{AreBytes, Files}
use Rattle.som_cmd_steps.specs.declared.output.Output.{Output}
use Rattle.som_cmd_steps.specs.declared.stop.Refusal.{Refusal}
use Rattle.som_cmd_steps.specs.declared.stop.CommandStop.TheVariants as stops
use Rattle.som_cmd_steps.specs.Cause.{HasCause}
use Rattle.som_cmd_steps.specs.Lines.{store_failed}
use Rattle.som_cmd_steps.specs.Putting.{IsSilent, StoredTold}
use Rattle.som_cmd_steps.proofs.Statuses.{differs}
use Rattle.som_cmd_witness.specs.WitnessSteps.{EndsPut, EndsTold, NotPut, Put, done, failed, failed_said_in_part, failed_unsaid, no_memory, nothing_put, said_in_part, then_put, unsaid}

-- ---- the put

is_put : (files : Option Files) (out image : List ℕ) (o : Output) (new_files : Option Files) → StoredTold files out image (Ok o) new_files → Put files out image new_files
is_put None out image o new_files s = tt
is_put (Some before) out image o new_files s = s.1

not_put : (files : Option Files) (out image line : List ℕ) (new_files : Option Files) → StoredTold files out image (Err (stops.StoreFailed line)) new_files → NotPut files out image new_files
not_put None out image line new_files s = tt
not_put (Some before) out image line new_files s = s

module _ (files : Option Files) (out image : List ℕ) (before now sink_before sink_now : ℕ) (new_files : Option Files) (old new : Option (List ℕ)) where
  -- it is done
  pub ends_done : (o : Output) → StoredTold files out image (Ok o) new_files → EndsPut files out image before now sink_before sink_now 0 new_files old old
  ends_done o s = done refl refl (is_put files out image o new_files s)

  module _ (line : List ℕ) (status : ℕ) (s : StoredTold files out image (Err (stops.StoreFailed line)) new_files) (rose : Rose before now) (is : line ≡ store_failed out)
      (all : status ≢ 8 → status ≢ 10 → ShowsAll old new line) (six : status ≢ 8 → status ≢ 10 → status ≡ 6) (sink : status ≡ 8 → Rose sink_before sink_now) (front : ShowsFront old new line) where
    front_of : ShowsFront old new (store_failed out)
    front_of = subst (ShowsFront old new) is front

    by_status : (a b : Bool) → (status == 8) ≡ a → (status == 10) ≡ b → EndsPut files out image before now sink_before sink_now status new_files old new
    by_status true b e f = let eight = eqb-true status 8 e in failed_unsaid eight (sink eight) front_of rose (not_put files out image line new_files s)
    by_status false true e f = failed_said_in_part (eqb-true status 10 f) front_of rose (not_put files out image line new_files s)
    by_status false false e f =
        let not8 = differs status 8 e in
        let not10 = differs status 10 f in
        failed (six not8 not10) (subst (ShowsAll old new) is (all not8 not10)) rose (not_put files out image line new_files s)

    -- it failed, and that is said
    ends_by_status : EndsPut files out image before now sink_before sink_now status new_files old new
    ends_by_status = by_status (status == 8) (status == 10) refl refl

  pub ends_failed : (line : List ℕ) (status : ℕ) → StoredTold files out image (Err (stops.StoreFailed line)) new_files → HasCause {A = Output} (λ line. line ≡ store_failed out) before now (Err (stops.StoreFailed line))
      → (status ≢ 8 → status ≢ 10 → ShowsAll old new line) → (status ≢ 8 → status ≢ 10 → status ≡ 6) → (status ≡ 8 → Rose sink_before sink_now) → ShowsFront old new line
      → EndsPut files out image before now sink_before sink_now status new_files old new
  ends_failed line status s cause all six sink front = ends_by_status line status s cause.0 cause.1 all six sink front

-- nothing is refused
pub ends_refused : (files : Option Files) (out image : List ℕ) (before now sink_before sink_now status : ℕ) (new_files : Option Files) (old new : Option (List ℕ)) (r : Refusal) → IsSilent (Err (stops.Refused r))
    → EndsPut files out image before now sink_before sink_now status new_files old new
ends_refused files out image before now sink_before sink_now status new_files old new r silent = absurd silent

-- memory ran out before it
pub ends_nowhere : (files : Option Files) (out image : List ℕ) (before now sink_before sink_now : ℕ) (new_files : Option Files) (written : Option (List ℕ)) → StoredTold files out image (Err stops.NoMemory) new_files
    → EndsPut files out image before now sink_before sink_now 10 new_files written written
ends_nowhere None out image before now sink_before sink_now new_files written s = no_memory refl refl tt
ends_nowhere (Some told) out image before now sink_before sink_now new_files written s = no_memory refl refl s

-- ---- the lines before it

-- counts that rose in the put rose in the call
pub put_earlier : (files : Option Files) (out image : List ℕ) (before mid now sink_before sink_mid sink_now status : ℕ) (new_files : Option Files) (old new : Option (List ℕ)) → before ≤ mid → sink_before ≤ sink_mid
    → EndsPut files out image mid now sink_mid sink_now status new_files old new → EndsPut files out image before now sink_before sink_now status new_files old new
put_earlier files out image before mid now sink_before sink_mid sink_now status new_files old new le sink_le (done zero same put) = done zero same put
put_earlier files out image before mid now sink_before sink_mid sink_now status new_files old new le sink_le (failed six shows rose put) = failed six shows (rose_earlier before mid now le rose) put
put_earlier files out image before mid now sink_before sink_mid sink_now status new_files old new le sink_le (failed_unsaid eight sink front rose put) =
    failed_unsaid eight (rose_earlier sink_before sink_mid sink_now sink_le sink) front (rose_earlier before mid now le rose) put
put_earlier files out image before mid now sink_before sink_mid sink_now status new_files old new le sink_le (failed_said_in_part ten front rose put) = failed_said_in_part ten front (rose_earlier before mid now le rose) put
put_earlier files out image before mid now sink_before sink_mid sink_now status new_files old new le sink_le (no_memory ten same kept) = no_memory ten same kept

pub told_earlier : (text : List ℕ) (image : Option (List ℕ)) (files : Option Files) (out : List ℕ) (before mid now sink_before sink_now status : ℕ) (new_files : Option Files) (old new : Option (List ℕ)) → before ≤ mid
    → EndsTold text image files out mid now sink_before sink_now status new_files old new → EndsTold text image files out before now sink_before sink_now status new_files old new
told_earlier text image files out before mid now sink_before sink_now status new_files old new le (unsaid eight sink front same) = unsaid eight sink front same
told_earlier text image files out before mid now sink_before sink_now status new_files old new le (said_in_part ten front same) = said_in_part ten front same
told_earlier text image files out before mid now sink_before sink_now status new_files old new le (nothing_put none zero shows same) = nothing_put none zero shows same
told_earlier text image files out before mid now sink_before sink_now status new_files old new le (then_put bytes between is are shows ends) =
    then_put bytes between is are shows (put_earlier files out bytes before mid now sink_before sink_before sink_now status new_files between new le (omega arith) ends)

-- and what is put into the files that are as they were is put into those
pub over_same : (text : List ℕ) (image : Option (List ℕ)) (files told : Option Files) (out : List ℕ) (before mid now sink_before sink_now status : ℕ) (new_files : Option Files) (old new : Option (List ℕ)) → files ≡ told → before ≤ mid
    → EndsTold text image files out mid now sink_before sink_now status new_files old new → EndsTold text image told out before now sink_before sink_now status new_files old new
over_same text image files told out before mid now sink_before sink_now status new_files old new same le ends =
    subst (λ (x : Option Files). EndsTold text image x out before now sink_before sink_now status new_files old new) same
    (told_earlier text image files out before mid now sink_before sink_now status new_files old new le ends)

module _ (text : List ℕ) (image : Option (List ℕ)) (files : Option Files) (out : List ℕ) (before now sink_before : ℕ) where
  -- the lines aren't all written
  module _ (sink_now status : ℕ) (old new : Option (List ℕ)) (zero : status ≢ 8 → status ≢ 10 → status ≡ 0) (sink : status ≡ 8 → Rose sink_before sink_now) (front : ShowsFront old new text) (not0 : status ≢ 0) where
    not_said : (a b : Bool) → (status == 8) ≡ a → (status == 10) ≡ b → EndsTold text image files out before now sink_before sink_now status files old new
    not_said true b e f = let eight = eqb-true status 8 e in unsaid eight (sink eight) front refl
    not_said false true e f = said_in_part (eqb-true status 10 f) front refl
    not_said false false e f = absurd (not0 (zero (differs status 8 e) (differs status 10 f)))

    pub ends_unsaid : EndsTold text image files out before now sink_before sink_now status files old new
    ends_unsaid = not_said (status == 8) (status == 10) refl refl

  no_eight : (status : ℕ) → status ≡ 0 → status ≢ 8
  no_eight status e f = omega (arith, e, f)

  no_ten : (status : ℕ) → status ≡ 0 → status ≢ 10
  no_ten status e f = omega (arith, e, f)

  -- they are, and there is no image
  pub ends_without : (sink_now status : ℕ) (old new : Option (List ℕ)) → status ≡ 0 → (status ≢ 8 → status ≢ 10 → ShowsAll old new text) → image ≡ None → EndsTold text image files out before now sink_before sink_now 0 files old new
  ends_without sink_now status old new zero all none = nothing_put none refl (all (no_eight status zero) (no_ten status zero)) refl

  -- they are, and then the image is put
  pub ends_with : (bytes : List ℕ) (sink_mid sink_now status told : ℕ) (new_files : Option Files) (old between new : Option (List ℕ)) → told ≡ 0 → (told ≢ 8 → told ≢ 10 → ShowsAll old between text) → image ≡ Some bytes → AreBytes bytes
      → sink_before ≤ sink_mid → EndsPut files out bytes before now sink_mid sink_now status new_files between new → EndsTold text image files out before now sink_before sink_now status new_files old new
  ends_with bytes sink_mid sink_now status told new_files old between new zero all is are le ends =
      then_put bytes between is are (all (no_eight told zero) (no_ten told zero)) (put_earlier files out bytes before before now sink_before sink_mid sink_now status new_files between new (omega arith) le ends)
