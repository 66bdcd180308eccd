-- Whatever the files are, there is one answer.
use Rattle.std.proofs.Common.{◌≡◌, ◌≢◌, ℕ, ◌==◌, Bool, true, false, List, Option, Some, None, Result, Ok, Err, refl, sym, ap, subst, ◌∙◌}
use Rattle.std.proofs.lemmas.Bool.{eqb-true}
use Rattle.som_model.specs.declared.program.ClientProgram.{ClientProgram}
use Rattle.som_model.specs.declared.program.Interface.{Interface}
use Rattle.som_model.specs.declared.program.Release.{Release}
use Rattle.som_model.specs.Bytes.{Files}
use Rattle.som_model.specs.Class.{interface_of}
use Rattle.som_model.specs.Compatible.{CompatBreach}
use Rattle.som_model.specs.Conforming.{ReleaseOk, release_breach}
use Rattle.som_model.specs.Images.{client_image}
use Rattle.som_model.specs.Rules.{RuleBreach}
use Rattle.som_model.specs.Steps.{◌>>=◌}
use Rattle.som_image_fields.specs.declared.fault.ImageFault.{ImageFault}
use Rattle.som_cliimage.proofs.Encoded.{image_there}
use Rattle.som_libimage.specs.Limits.{IsWithinLimits}
use Rattle.som_libimage.proofs.Decoded.{within}
use Rattle.som_verify.proofs.Conforming.{release_conforms}
use Rattle.som_cmd_steps.specs.declared.stop.Refusal.{Refusal}
use Rattle.som_cmd_steps.specs.Endings.{Ending, refusing}
use Rattle.som_cmd_steps.specs.Fetching.{file_of}
use Rattle.som_cmd_steps.specs.ImageSteps.{kept_or, library_in, read_or, release_in, rules_kept}
use Rattle.som_cmd_steps.proofs.ByteLaws.{library_bytes}
use Rattle.som_cmd_steps.proofs.Statuses.{differs}
use Rattle.som_witness.specs.Program.{witness_program}
use Rattle.som_cmd_witness.specs.declared.releases.Releases.{Releases}
use Rattle.som_cmd_witness.specs.Lines.{accepted_line, version_line}
use Rattle.som_cmd_witness.specs.Releases.{AreSound, releases_from, releases_in}
use Rattle.som_cmd_witness.specs.WitnessAnswer.{IsShown, IsWitnessAnswer, accepts, break_of, refuses, showing, shows, telling, tells_version, text_of}
use Rattle.som_cmd_witness.proofs.Comparing.{client_fits}
use Rattle.som_cmd_witness.proofs.Reading.{after_new, after_old, after_old_rules, after_older, after_reading, both}

-- ---- releases that come of the steps conform

abbrev pub Read : Type 0
Read = Result Releases Refusal

abbrev pub is_read : Releases → Read
is_read rs = Ok rs

pub same_releases : (a b : Releases) → is_read a ≡ is_read b → a ≡ b
same_releases a b e = cc

abbrev released : Release → Result Release ImageFault
released r = Ok r

-- what follows a step that was taken
after : {A B : Type 0} (s : Result A Refusal) (f : A → Result B Refusal) (y : B) → (s >>= f) ≡ Ok y → (x : A) × (s ≡ Ok x) × (f x ≡ Ok y)
after (Ok x) f y e = (x, refl, e)
after (Err r) f y e = absurd cc

read_by : (name : List ℕ) (x : Result Release ImageFault) (r : Release) → read_or name x ≡ Ok r → x ≡ Ok r
read_by name (Ok s) r e = let same : s ≡ r = cc in ap released same
read_by name (Err fault) r e = absurd cc

kept_by : (name : List ℕ) (o : Option RuleBreach) (x : Unit {0}) → kept_or name o ≡ Ok x → o ≡ None
kept_by name None x e = refl
kept_by name (Some b) x e = absurd cc

room_for : (name bytes : List ℕ) (r : Release) → release_in name bytes ≡ Ok r → IsWithinLimits r
room_for name bytes r e =
    let b = library_bytes bytes r (read_by name (library_in bytes) r e) in
    within bytes b.0 (Ok r) b.1

keeps : (name : List ℕ) (r : Release) (x : Unit {0}) → rules_kept name r ≡ Ok x → ReleaseOk r
keeps name r x e = release_conforms r (kept_by name (release_breach r) x e)

module _ (old new : List ℕ) (rs : Releases) where
  sound_from : (ob nb : List ℕ) → releases_from old new ob nb ≡ Ok rs → AreSound rs
  sound_from ob nb e =
      let o = after (release_in old ob) (after_older old new nb) rs e in
      let n = after (release_in new nb) (after_reading old new o.0) rs o.2 in
      let old_kept = after (rules_kept old o.0) (λ kept. after_old_rules old new o.0 n.0) rs n.2 in
      let new_kept = after (rules_kept new n.0) (λ kept. Ok (both o.0 n.0)) rs old_kept.2 in
      subst AreSound (same_releases (both o.0 n.0) rs new_kept.2) (record {
        older = keeps old o.0 old_kept.0 old_kept.1;
        older_within = room_for old ob o.0 o.1;
        newer = keeps new n.0 new_kept.0 new_kept.1;
        newer_within = room_for new nb n.0 n.1;
      })

  pub sound_in : (files : Files) → releases_in old new files ≡ Ok rs → AreSound rs
  sound_in files e =
      let ob = after (file_of old files) (after_old old new files) rs e in
      let nb = after (file_of new files) (after_new old new files ob.0) rs ob.2 in
      sound_from ob.0 nb.0 nb.2

-- ---- there is an answer

module _ (out old new : List ℕ) (files : Files) where
  abbrev Is : Ending → Type 0
  Is e = IsWitnessAnswer out old new files e

  abbrev Some_answer : Type 0
  Some_answer = (e : Ending) × Is e

  module _ (rs : Releases) (got : releases_in old new files ≡ Ok rs) where
    by_rule : (b : CompatBreach) → break_of rs ≡ Some b → (two : Bool) → (b.rule == 2) ≡ two → Some_answer
    by_rule b told true e = (telling files (version_line b.class), tells_version rs b got told (eqb-true b.rule 2 e))
    by_rule b told false e =
        let other = differs b.rule 2 e in
        let fits = client_fits rs (sound_in old new rs files got) b told other in
        let image = image_there (witness_program (interface_of rs.older) (interface_of rs.newer) b) fits.0 fits.1 in
        (showing files out (text_of rs b) image.0, shows rs b image.0 got (record { unkept = told; other = other; image_is = image.1 }))

    by_break : (o : Option CompatBreach) → break_of rs ≡ o → Some_answer
    by_break None told = (telling files accepted_line, accepts rs got told)
    by_break (Some b) told = by_rule b told (b.rule == 2) refl

  by_reading : (x : Read) → releases_in old new files ≡ x → Some_answer
  by_reading (Ok rs) got = by_break rs got (break_of rs) refl
  by_reading (Err r) got = (refusing files r, refuses r got)

pub some_witness_answer : (files : Files) (out old new : List ℕ) → (e : Ending) × IsWitnessAnswer out old new files e
some_witness_answer files out old new = by_reading out old new files (releases_in old new files) refl

-- ---- and no other

abbrev is_refused : Refusal → Read
is_refused r = Err r

same_refusal : (r s : Refusal) → is_refused r ≡ is_refused s → r ≡ s
same_refusal r s e = cc

read_or_not : {B : Type 0} (rs : Releases) (r : Refusal) → is_read rs ≡ is_refused r → B
read_or_not rs r e = absurd cc

one_breach : (o : Option CompatBreach) (b c : CompatBreach) → o ≡ Some b → o ≡ Some c → b ≡ c
one_breach o b c e f = cc

no_breach : {B : Type 0} (o : Option CompatBreach) (b : CompatBreach) → o ≡ None → o ≡ Some b → B
no_breach o b e f = absurd cc

one_bytes : (o : Option (List ℕ)) (a b : List ℕ) → o ≡ Some a → o ≡ Some b → a ≡ b
one_bytes o a b e f = cc

module _ (files : Files) (out : List ℕ) where
  -- an image of one breach is that of another that is the same
  one_image : (rs : Releases) (b c : CompatBreach) (image other : List ℕ) → IsShown rs b image → IsShown rs c other → showing files out (text_of rs b) image ≡ showing files out (text_of rs c) other
  one_image rs b c image other s t =
      let same = one_breach (break_of rs) b c s.unkept t.unkept in
      let spelled = one_bytes (client_image (witness_program (interface_of rs.older) (interface_of rs.newer) b)) image other s.image_is (subst (λ (x : CompatBreach). client_image (witness_program (interface_of rs.older) (interface_of rs.newer) x) ≡ Some other) (sym same) t.image_is) in
      ap (λ (x : List ℕ). showing files out (text_of rs b) x) spelled ∙ ap (λ (x : CompatBreach). showing files out (text_of rs x) other) same

  module _ (old new : List ℕ) where
    same_read : (a b : Releases) → releases_in old new files ≡ Ok a → releases_in old new files ≡ Ok b → a ≡ b
    same_read a b e f = same_releases a b (sym e ∙ f)

    not_read : {B : Type 0} (rs : Releases) (r : Refusal) → releases_in old new files ≡ Ok rs → releases_in old new files ≡ Err r → B
    not_read rs r e f = read_or_not rs r (sym e ∙ f)

    broken_at : (a b : Releases) (o : Option CompatBreach) → releases_in old new files ≡ Ok a → releases_in old new files ≡ Ok b → break_of b ≡ o → break_of a ≡ o
    broken_at a b o e f is = ap break_of (same_read a b e f) ∙ is

    shown_at : (a b : Releases) (c : CompatBreach) (image : List ℕ) → releases_in old new files ≡ Ok a → releases_in old new files ≡ Ok b → IsShown b c image → IsShown a c image
    shown_at a b c image e f s = subst (λ (x : Releases). IsShown x c image) (sym (same_read a b e f)) s

    pub one_witness : (a b : Ending) → IsWitnessAnswer out old new files a → IsWitnessAnswer out old new files b → a ≡ b
    one_witness a b (refuses r e) (refuses s f) = ap (refusing files) (same_refusal r s (sym e ∙ f))
    one_witness a b (refuses r e) (accepts rs f none) = not_read rs r f e
    one_witness a b (refuses r e) (tells_version rs c f told two) = not_read rs r f e
    one_witness a b (refuses r e) (shows rs c image f s) = not_read rs r f e
    one_witness a b (accepts rs e none) (refuses s f) = not_read rs s e f
    one_witness a b (accepts rs e none) (accepts ss f other) = refl
    one_witness a b (accepts rs e none) (tells_version ss c f told two) = no_breach (break_of rs) c none (broken_at rs ss (Some c) e f told)
    one_witness a b (accepts rs e none) (shows ss c image f s) = no_breach (break_of rs) c none (broken_at rs ss (Some c) e f s.unkept)
    one_witness a b (tells_version rs c e told two) (refuses s f) = not_read rs s e f
    one_witness a b (tells_version rs c e told two) (accepts ss f none) = no_breach (break_of rs) c (broken_at rs ss None e f none) told
    one_witness a b (tells_version rs c e told two) (tells_version ss d f says other) =
        ap (λ (x : CompatBreach). telling files (version_line x.class)) (one_breach (break_of rs) c d told (broken_at rs ss (Some d) e f says))
    one_witness a b (tells_version rs c e told two) (shows ss d image f s) =
        absurd (s.other (sym (ap (λ (x : CompatBreach). x.rule) (one_breach (break_of rs) c d told (broken_at rs ss (Some d) e f s.unkept))) ∙ two))
    one_witness a b (shows rs c image e s) (refuses t f) = not_read rs t e f
    one_witness a b (shows rs c image e s) (accepts ss f none) = no_breach (break_of rs) c (broken_at rs ss None e f none) s.unkept
    one_witness a b (shows rs c image e s) (tells_version ss d f told two) =
        absurd (s.other (ap (λ (x : CompatBreach). x.rule) (one_breach (break_of rs) c d s.unkept (broken_at rs ss (Some d) e f told)) ∙ two))
    one_witness a b (shows rs c image e s) (shows ss d other f t) =
        let there = shown_at rs ss d other e f t in
        one_image rs c d image other s there ∙ ap (λ (x : Releases). showing files out (text_of x d) other) (same_read rs ss e f)

pub one_witness_answer : (files : Files) (out old new : List ℕ) (a b : Ending) → IsWitnessAnswer out old new files a → IsWitnessAnswer out old new files b → a ≡ b
one_witness_answer files out old new a b x y = one_witness files out old new a b x y
