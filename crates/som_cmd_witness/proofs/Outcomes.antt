-- What a call comes to that isn't refused, by how it ends.
use Rattle.std.proofs.Common.{◌≡◌, ◌≢◌, ℕ, ◌⊎◌, List, [], ◌∷◌, ◌++◌, Option, Some, None, Result, Ok, Err, refl, sym, ap, subst, ◌∙◌, inl, inr, arith}
use Rattle.std.specs.FinMap.{insert}
use Rattle.som_io.specs.Outside.{Rose, ShowsAll, ShowsFront}
use Rattle.som_io.proofs.ShownLaws.{front_all, front_both, shows_both}
use Rattle.som_model.specs.Bytes.{AreBytes, Files}
use Rattle.som_model.specs.Compatible.{CompatBreach}
use Rattle.som_model.specs.Lists.{Mem}
use Rattle.som_cmd_steps.specs.declared.stop.CommandStop.{CommandStop}
use Rattle.som_cmd_steps.specs.Endings.{Ending}
use Rattle.som_cmd_steps.specs.Lines.{store_failed}
use Rattle.som_cmd_steps.specs.Outcomes.{EndsAs, EndsAsTold, ShowsSome, StoreFails}
use Rattle.som_cmd_steps.specs.Steps.{FollowsTold}
use Rattle.som_cmd_witness.specs.declared.releases.Releases.{Releases}
use Rattle.som_cmd_witness.specs.Cause.{FailsPutting, FailsWitness}
use Rattle.som_cmd_witness.specs.Lines.{accepted_line, version_line}
use Rattle.som_cmd_witness.specs.Releases.{releases_in}
use Rattle.som_cmd_witness.specs.WitnessAnswer.{IsShown, IsWitnessAnswer, accepts, break_of, showing, shows, telling, tells_version, text_of, witness_statuses}
use Rattle.som_cmd_witness.specs.WitnessEnds.{IsNothingPut, IsPutOf, LeavesFiles, LeavesFilesTold, SaysPutFailed, as_they_were, nothing_to_put, put_failed, with_image}
use Rattle.som_cmd_witness.specs.WitnessSteps.{EndsPut, EndsTold, Kept, NotPut, done, failed, failed_said_in_part, failed_unsaid, no_memory, nothing_put, said_in_part, then_put, unsaid}
use Rattle.som_cmd_witness.proofs.Telling.{Comes, accepted, shown, version}

-- ---- statuses that are apart

no_eight : (status : ℕ) → status ≡ 0 → status ≡ 8 → ⊥
no_eight status e f = omega (arith, e, f)

no_ten : (status : ℕ) → status ≡ 0 → status ≡ 10 → ⊥
no_ten status e f = omega (arith, e, f)

no_six : (status : ℕ) → status ≡ 0 → status ≡ 6 → ⊥
no_six status e f = omega (arith, e, f)

eight_six : (status : ℕ) → status ≡ 8 → status ≡ 6 → ⊥
eight_six status e f = omega (arith, e, f)

ten_six : (status : ℕ) → status ≡ 10 → status ≡ 6 → ⊥
ten_six status e f = omega (arith, e, f)

ten_eight : (status : ℕ) → status ≡ 10 → status ≡ 8 → ⊥
ten_eight status e f = omega (arith, e, f)

-- neither 8 nor 10
neither : (status n : ℕ) → status ≡ n → n ≢ 8 → n ≢ 10 → (status ≡ 8) ⊎ (status ≡ 10) → ⊥
neither status n e not8 not10 (inl f) = not8 (sym e ∙ f)
neither status n e not8 not10 (inr f) = not10 (sym e ∙ f)

some_image : (image : Option (List ℕ)) (bytes : List ℕ) → image ≡ None → image ≡ Some bytes → ⊥
some_image image bytes e f = cc

same_files : (a b : Files) → Some a ≡ Some b → a ≡ b
same_files a b e = cc

same_bytes : (image : Option (List ℕ)) (a b : List ℕ) → image ≡ Some a → image ≡ Some b → a ≡ b
same_bytes image a b e f = cc

-- ---- what is shown, by the image

-- there is an image: it is that of the client that shows the first breach
record IsClientOf (rs : Releases) (text bytes : List ℕ) : Type 0 where
  breach : CompatBreach
  shown : IsShown rs breach bytes
  text_is : text ≡ text_of rs breach

one_break : {B : Type 0} (o : Option CompatBreach) (b : CompatBreach) → o ≡ None → o ≡ Some b → B
one_break o b e f = absurd cc

same_break : (o : Option CompatBreach) (b c : CompatBreach) → o ≡ Some b → o ≡ Some c → b ≡ c
same_break o b c e f = cc

client_by : (rs : Releases) (text : List ℕ) (image : Option (List ℕ)) (bytes : List ℕ) → image ≡ Some bytes → Comes rs text image → IsClientOf rs text bytes
client_by rs text image bytes has (accepted none e empty) = absurd (some_image image bytes empty has)
client_by rs text image bytes has (version b told two e empty) = absurd (some_image image bytes empty has)
client_by rs text image bytes has (shown b other s e there) = record { breach = b; shown = subst (IsShown rs b) (same_bytes image other bytes there has) s; text_is = e }

-- there is none: nothing is broken but by the version of a class
none_by : (rs : Releases) (text : List ℕ) (image : Option (List ℕ)) → image ≡ None → Comes rs text image → (b : CompatBreach) → break_of rs ≡ Some b → b.rule ≡ 2
none_by rs text image empty (accepted none e there) b told = one_break (break_of rs) b none told
none_by rs text image empty (version c says two e there) b told = ap (λ (x : CompatBreach). x.rule) (same_break (break_of rs) b c told says) ∙ two
none_by rs text image empty (shown c bytes s e there) b told = absurd (some_image image bytes empty there)

-- ---- statuses

statuses_of_put : (files : Option Files) (out image : List ℕ) (before now sink_before sink_now status : ℕ) (new_files : Option Files) (old new : Option (List ℕ)) → EndsPut files out image before now sink_before sink_now status new_files old new
    → Mem status witness_statuses
statuses_of_put files out image before now sink_before sink_now status new_files old new (done zero same put) = inl zero
statuses_of_put files out image before now sink_before sink_now status new_files old new (failed six says rose put) = inr (inr (inr (inl six)))
statuses_of_put files out image before now sink_before sink_now status new_files old new (failed_unsaid eight sink front rose put) = inr (inr (inr (inr (inl eight))))
statuses_of_put files out image before now sink_before sink_now status new_files old new (failed_said_in_part ten front rose put) = inr (inr (inr (inr (inr (inl ten)))))
statuses_of_put files out image before now sink_before sink_now status new_files old new (no_memory ten same kept) = inr (inr (inr (inr (inr (inl ten)))))

two_apart : (status : ℕ) → Mem status witness_statuses → status ≢ 2
two_apart status (inl e) f = omega (arith, e, f)
two_apart status (inr (inl e)) f = omega (arith, e, f)
two_apart status (inr (inr (inl e))) f = omega (arith, e, f)
two_apart status (inr (inr (inr (inl e)))) f = omega (arith, e, f)
two_apart status (inr (inr (inr (inr (inl e))))) f = omega (arith, e, f)
two_apart status (inr (inr (inr (inr (inr (inl e)))))) f = omega (arith, e, f)
two_apart status (inr (inr (inr (inr (inr (inr m)))))) f = m

module _ (text : List ℕ) (image : Option (List ℕ)) (files : Option Files) (out : List ℕ) (before now sink_before sink_now status : ℕ) (new_files : Option Files) (was is : Option (List ℕ)) where
  abbrev Ends : Type 0
  Ends = EndsTold text image files out before now sink_before sink_now status new_files was is

  pub told_statuses : Ends → Mem status witness_statuses
  told_statuses (unsaid eight sink front same) = inr (inr (inr (inr (inl eight))))
  told_statuses (said_in_part ten front same) = inr (inr (inr (inr (inr (inl ten)))))
  told_statuses (nothing_put none zero says same) = inl zero
  told_statuses (then_put bytes between has are says ends) = statuses_of_put files out bytes before now sink_before sink_now status new_files between is ends

  pub told_words : Ends → status ≢ 2
  told_words ends = two_apart status (told_statuses ends)

  -- the sink failed
  put_sink : (bytes : List ℕ) (between : Option (List ℕ)) → status ≡ 8 → EndsPut files out bytes before now sink_before sink_now status new_files between is → Rose sink_before sink_now
  put_sink bytes between eight (done zero same put) = absurd (no_eight status zero eight)
  put_sink bytes between eight (failed six says rose put) = absurd (eight_six status eight six)
  put_sink bytes between eight (failed_unsaid e sink front rose put) = sink
  put_sink bytes between eight (failed_said_in_part ten front rose put) = absurd (ten_eight status ten eight)
  put_sink bytes between eight (no_memory ten same kept) = absurd (ten_eight status ten eight)

  pub told_sink : status ≡ 8 → Ends → Rose sink_before sink_now
  told_sink eight (unsaid e sink front same) = sink
  told_sink eight (said_in_part ten front same) = absurd (ten_eight status ten eight)
  told_sink eight (nothing_put none zero says same) = absurd (no_eight status zero eight)
  told_sink eight (then_put bytes between has are says ends) = put_sink bytes between eight ends

  module _ (old new : List ℕ) (rs : Releases) (got : FollowsTold files (Ok rs) (releases_in old new)) (comes : Comes rs text image) where
    -- the text and that the put failed
    line_of : (bytes : List ℕ) → image ≡ Some bytes → FailsWitness files out old new (text ++ store_failed out)
    line_of bytes has =
        let c = client_by rs text image bytes has comes in
        inr (record { releases = rs; under = got; breach = c.breach; image = bytes; shown = c.shown; text_is = ap (λ (t : List ℕ). t ++ store_failed out) c.text_is })

    -- the store failed
    put_store : (bytes : List ℕ) (between : Option (List ℕ)) → image ≡ Some bytes → ShowsAll was between text → status ≡ 6 → EndsPut files out bytes before now sink_before sink_now status new_files between is
        → StoreFails (FailsWitness files out old new) before now was is
    put_store bytes between has says six (done zero same put) = absurd (no_six status zero six)
    put_store bytes between has says six (failed e after rose put) =
        record { rose = rose; line = text ++ store_failed out; is_line = line_of bytes has; written = shows_both was between is text (store_failed out) says after }
    put_store bytes between has says six (failed_unsaid eight sink front rose put) = absurd (eight_six status eight six)
    put_store bytes between has says six (failed_said_in_part ten front rose put) = absurd (ten_six status ten six)
    put_store bytes between has says six (no_memory ten same kept) = absurd (ten_six status ten six)

    pub told_store : status ≡ 6 → Ends → StoreFails (FailsWitness files out old new) before now was is
    told_store six (unsaid eight sink front same) = absurd (eight_six status eight six)
    told_store six (said_in_part ten front same) = absurd (ten_six status ten six)
    told_store six (nothing_put none zero says same) = absurd (no_six status zero six)
    told_store six (then_put bytes between has are says ends) = put_store bytes between has says six ends

    -- a front of the text was written, or of what says that the store failed
    module _ (some : (told : Files) → files ≡ Some told → (e : Ending) × IsWitnessAnswer out old new told e × (e.text ≡ text)) where
      abbrev Front : Type 0
      Front = ShowsSome (IsWitnessAnswer out old new) (FailsWitness files out old new) files before now was is

      front_by : (told : Option Files) → files ≡ told → ShowsFront was is text → ShowsSome (IsWitnessAnswer out old new) (FailsWitness files out old new) told before now was is
      front_by None e front = tt
      front_by (Some told) e front = let a = some told e in inl (a.0, a.1, subst (ShowsFront was is) (sym a.2) front)

      failed_by : (told : Option Files) → (bytes : List ℕ) (between : Option (List ℕ)) → image ≡ Some bytes → ShowsAll was between text → Rose before now → ShowsFront between is (store_failed out)
          → ShowsSome (IsWitnessAnswer out old new) (FailsWitness files out old new) told before now was is
      failed_by None bytes between has says rose front = tt
      failed_by (Some told) bytes between has says rose front = inr (rose, text ++ store_failed out, line_of bytes has, front_both was between is text (store_failed out) says front)

      put_front : (bytes : List ℕ) (between : Option (List ℕ)) → image ≡ Some bytes → ShowsAll was between text → (status ≡ 8) ⊎ (status ≡ 10)
          → EndsPut files out bytes before now sink_before sink_now status new_files between is → Front
      put_front bytes between has says which (done zero same put) = absurd (neither status 0 zero (λ h. omega (arith, h)) (λ h. omega (arith, h)) which)
      put_front bytes between has says which (failed six after rose put) = absurd (neither status 6 six (λ h. omega (arith, h)) (λ h. omega (arith, h)) which)
      put_front bytes between has says which (failed_unsaid eight sink front rose put) = failed_by files bytes between has says rose front
      put_front bytes between has says which (failed_said_in_part ten front rose put) = failed_by files bytes between has says rose front
      put_front bytes between has says which (no_memory ten same kept) = front_by files refl (front_all was is text (subst (λ (x : Option (List ℕ)). ShowsAll was x text) (sym same) says))

      pub told_front : (status ≡ 8) ⊎ (status ≡ 10) → Ends → Front
      told_front which (unsaid eight sink front same) = front_by files refl front
      told_front which (said_in_part ten front same) = front_by files refl front
      told_front which (nothing_put none zero says same) = absurd (neither status 0 zero (λ h. omega (arith, h)) (λ h. omega (arith, h)) which)
      told_front which (then_put bytes between has are says ends) = put_front bytes between has says which ends

-- ---- over a store that tells its files

module _ (text : List ℕ) (image : Option (List ℕ)) (files : Files) (out : List ℕ) (before now sink_before sink_now status : ℕ) (new_files : Option Files) (was is : Option (List ℕ)) (old new : List ℕ) (rs : Releases)
    (got : releases_in old new files ≡ Ok rs) where
  abbrev Answer : Ending → Type 0
  Answer e = IsWitnessAnswer out old new files e

  -- an answer with this text
  pub some_told : Comes rs text image → (e : Ending) × Answer e × (e.text ≡ text)
  some_told (accepted none e empty) = (telling files accepted_line, accepts rs got none, sym e)
  some_told (version b told two e empty) = (telling files (version_line b.class), tells_version rs b got told two, sym e)
  some_told (shown b bytes s e there) = (showing files out (text_of rs b) bytes, shows rs b bytes got s, sym e)

  -- it ends as the answer says
  nothing_ends : image ≡ None → status ≡ 0 → ShowsAll was is text → new_files ≡ Some files → Comes rs text image → EndsAs Answer status new_files was is
  nothing_ends empty zero says same (accepted none e there) =
      record { told = telling files accepted_line; is_answer = accepts rs got none; status_is = zero; text_is = subst (ShowsAll was is) e says; files_are = same }
  nothing_ends empty zero says same (version b told two e there) =
      record { told = telling files (version_line b.class); is_answer = tells_version rs b got told two; status_is = zero; text_is = subst (ShowsAll was is) e says; files_are = same }
  nothing_ends empty zero says same (shown b bytes s e there) = absurd (some_image image bytes empty there)

  image_ends : (bytes : List ℕ) → status ≡ 0 → ShowsAll was is text → new_files ≡ Some (insert files out bytes) → IsClientOf rs text bytes → EndsAs Answer status new_files was is
  image_ends bytes zero says put c =
      record { told = showing files out (text_of rs c.breach) bytes; is_answer = shows rs c.breach bytes got c.shown; status_is = zero; text_is = subst (ShowsAll was is) c.text_is says; files_are = put }

  put_ends : (bytes : List ℕ) (between : Option (List ℕ)) → image ≡ Some bytes → ShowsAll was between text → Comes rs text image → status ≢ 6 → status ≢ 8 → status ≢ 10
      → EndsPut (Some files) out bytes before now sink_before sink_now status new_files between is → EndsAs Answer status new_files was is
  put_ends bytes between has says comes not6 not8 not10 (done zero same put) =
      image_ends bytes zero (subst (λ (x : Option (List ℕ)). ShowsAll was x text) (sym same) says) put (client_by rs text image bytes has comes)
  put_ends bytes between has says comes not6 not8 not10 (failed six after rose put) = absurd (not6 six)
  put_ends bytes between has says comes not6 not8 not10 (failed_unsaid eight sink front rose put) = absurd (not8 eight)
  put_ends bytes between has says comes not6 not8 not10 (failed_said_in_part ten front rose put) = absurd (not10 ten)
  put_ends bytes between has says comes not6 not8 not10 (no_memory ten same kept) = absurd (not10 ten)

  told_ends : Comes rs text image → status ≢ 6 → status ≢ 8 → status ≢ 10 → EndsTold text image (Some files) out before now sink_before sink_now status new_files was is → EndsAs Answer status new_files was is
  told_ends comes not6 not8 not10 (unsaid eight sink front same) = absurd (not8 eight)
  told_ends comes not6 not8 not10 (said_in_part ten front same) = absurd (not10 ten)
  told_ends comes not6 not8 not10 (nothing_put none zero says same) = nothing_ends none zero says same comes
  told_ends comes not6 not8 not10 (then_put bytes between has are says ends) = put_ends bytes between has says comes not6 not8 not10 ends

  -- and leaves the files so
  abbrev Leaves : Type 0
  Leaves = LeavesFiles files out old new before now status new_files was is

  put_of : (bytes : List ℕ) → AreBytes bytes → IsClientOf rs text bytes → IsPutOf files old new text bytes
  put_of bytes are c = record { releases = rs; under = got; breach = c.breach; shown = c.shown; text_is = c.text_is; bytes_are = are }

  put_files : (bytes : List ℕ) (between : Option (List ℕ)) → AreBytes bytes → ShowsAll was between text → IsClientOf rs text bytes
      → EndsPut (Some files) out bytes before now sink_before sink_now status new_files between is → Leaves
  put_files bytes between are says c (done zero same put) = with_image text bytes (put_of bytes are c) zero (subst (λ (x : Option (List ℕ)). ShowsAll was x text) (sym same) says) put
  put_files bytes between are says c (failed six after rose put) = put_failed text bytes (put_of bytes are c) rose (record { between = between; told = says; says = inl (six, after) }) put
  put_files bytes between are says c (failed_unsaid eight sink front rose put) = put_failed text bytes (put_of bytes are c) rose (record { between = between; told = says; says = inr (inl eight, front) }) put
  put_files bytes between are says c (failed_said_in_part ten front rose put) = put_failed text bytes (put_of bytes are c) rose (record { between = between; told = says; says = inr (inr ten, front) }) put
  put_files bytes between are says c (no_memory ten same kept) = as_they_were (λ zero. no_ten status zero ten) kept

  told_files : Comes rs text image → EndsTold text image (Some files) out before now sink_before sink_now status new_files was is → Leaves
  told_files comes (unsaid eight sink front same) = as_they_were (λ zero. no_eight status zero eight) same
  told_files comes (said_in_part ten front same) = as_they_were (λ zero. no_ten status zero ten) same
  told_files comes (nothing_put none zero says same) = nothing_to_put (record { releases = rs; under = got; none = none_by rs text image none comes }) zero same
  told_files comes (then_put bytes between has are says ends) = put_files bytes between are says (client_by rs text image bytes has comes) ends

-- ---- over any store

module _ (text : List ℕ) (image : Option (List ℕ)) (out : List ℕ) (before now sink_before sink_now status : ℕ) (new_files : Option Files) (was is : Option (List ℕ)) (old new : List ℕ) (rs : Releases) where
  pub any_ends : (files : Option Files) → FollowsTold files (Ok rs) (releases_in old new) → Comes rs text image → EndsTold text image files out before now sink_before sink_now status new_files was is
      → status ≢ 6 → status ≢ 8 → status ≢ 10 → EndsAsTold (IsWitnessAnswer out old new) files status new_files was is
  any_ends None got comes ends not6 not8 not10 = tt
  any_ends (Some files) got comes ends not6 not8 not10 = told_ends text image files out before now sink_before sink_now status new_files was is old new rs got comes not6 not8 not10 ends

  pub any_files : (files : Option Files) → FollowsTold files (Ok rs) (releases_in old new) → Comes rs text image → EndsTold text image files out before now sink_before sink_now status new_files was is
      → LeavesFilesTold files out old new before now status new_files was is
  any_files None got comes ends = tt
  any_files (Some files) got comes ends = told_files text image files out before now sink_before sink_now status new_files was is old new rs got comes ends

  some_of : (files : Option Files) → FollowsTold files (Ok rs) (releases_in old new) → Comes rs text image → (told : Files) → files ≡ Some told → (e : Ending) × IsWitnessAnswer out old new told e × (e.text ≡ text)
  some_of None got comes told e = absurd cc
  some_of (Some files) got comes told e = subst (λ (f : Files). (a : Ending) × IsWitnessAnswer out old new f a × (a.text ≡ text)) (same_files files told e) (some_told text image files out before now sink_before sink_now status new_files was is old new rs got comes)

  pub any_front : (files : Option Files) → FollowsTold files (Ok rs) (releases_in old new) → Comes rs text image → EndsTold text image files out before now sink_before sink_now status new_files was is
      → (status ≡ 8) ⊎ (status ≡ 10) → ShowsSome (IsWitnessAnswer out old new) (FailsWitness files out old new) files before now was is
  any_front files got comes ends which =
      told_front text image files out before now sink_before sink_now status new_files was is old new rs got comes (some_of files got comes) which ends
