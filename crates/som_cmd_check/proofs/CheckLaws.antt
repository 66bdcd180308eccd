-- What the steps of checking images come to is the ending of what is asked.
use Rattle.std.proofs.Common.{◌≡◌, ℕ, inl, inr, List, [], ◌∷◌, ◌++◌, Option, Some, None, Result, Ok, Err, refl, sym, ap, subst, ◌∙◌}
use Rattle.std.proofs.lemmas.List.{append-nil}
use Rattle.som_model.specs.declared.program.Release.{Release}
use Rattle.som_model.specs.Bytes.{Files}
use Rattle.som_model.specs.Rules.{RuleBreach}
use Rattle.som_model.specs.Compatible.{CompatBreach}
use Rattle.som_model.specs.Conforming.{ReleaseOk, release_breach}
use Rattle.som_model.specs.Steps.{◌>>=◌}
use Rattle.som_image_fields.specs.declared.fault.ImageFault.{ImageFault}
use Rattle.som_verify.proofs.Conforming.{conforms_release, release_conforms}
use Rattle.som_cmd_steps.specs.declared.stop.Refusal.{Refusal}
use Rattle.som_cmd_steps.specs.declared.stop.CommandStop.{CommandStop}
use Rattle.som_cmd_steps.specs.Endings.{Ending, refusing}
use Rattle.som_cmd_steps.specs.Getting.{images_in}
use Rattle.som_cmd_steps.specs.ImageSteps.{library_in, read_or, kept_or, release_in, rules_kept}
use Rattle.som_cmd_steps.specs.Steps.{Stops, Follows, FollowsTold}
use Rattle.som_cmd_steps.specs.Answering.{Answers, AnswersTold}
use Rattle.som_cmd_steps.proofs.ImageLaws.{stops_first}
use Rattle.som_cmd_steps.specs.declared.output.End.TheVariants as the_end
use Rattle.som_cmd_steps.specs.declared.stop.CommandStop.TheVariants as stops
use Rattle.som_cmd_check.specs.CheckAnswer.{image_absent, IsCheckAnswer, image_unread, image_broken, refuses, accepts, releases_in, all_rules_kept, AllConform, first_not_kept}
use Rattle.som_cmd_check.specs.CheckSteps.{accepted_or, line_checked}

-- ---- what is read, and what conforms

read_by : (name : List ℕ) (x : Result Release ImageFault) (r : Release) → read_or name x ≡ Ok r → x ≡ Ok r
read_by name (Ok s) r e = let same : s ≡ r = cc in ap (λ (y : Release). Ok y) same
read_by name (Err fault) r e = absurd cc

kept_by : (name : List ℕ) (o : Option RuleBreach) (x : Unit {0}) → kept_or name o ≡ Ok x → o ≡ None
kept_by name None x e = refl
kept_by name (Some b) x e = absurd cc

-- what follows a step that was taken
after : {A B : Type 0} (s : Result A Refusal) (f : A → Result B Refusal) (y : B) → (s >>= f) ≡ Ok y → (x : A) × (s ≡ Ok x) × (f x ≡ Ok y)
after (Ok x) f y e = (x, refl, e)
after (Err r) f y e = absurd cc

abbrev releases : List Release → Result (List Release) Refusal
releases rs = Ok rs

same_head : (r s : Release) (rs ss : List Release) → releases (r ∷ rs) ≡ releases (s ∷ ss) → r ≡ s
same_head r s rs ss e = cc

same_tail : (r s : Release) (rs ss : List Release) → releases (r ∷ rs) ≡ releases (s ∷ ss) → rs ≡ ss
same_tail r s rs ss e = cc

none_in : (r : Release) (rs : List Release) → releases [] ≡ releases (r ∷ rs) → ⊥
none_in r rs e = cc

-- the releases that are read conform where none of them breaks a rule
pub all_conform : (names images : List (List ℕ)) (rs : List Release) → releases_in names images ≡ Ok rs → (x : Unit {0}) → all_rules_kept names rs ≡ Ok x → AllConform rs
all_conform names images [] e x kept r m = absurd m
all_conform [] images (s ∷ rs) e x kept r m = absurd (none_in s rs e)
all_conform (n ∷ ns) [] (s ∷ rs) e x kept r m = absurd (none_in s rs e)
all_conform (n ∷ ns) (b ∷ bs) (s ∷ rs) e x kept r m =
    let one = after (release_in n b) (λ r. releases_in ns bs >>= λ rs. Ok (r ∷ rs)) (s ∷ rs) e in
    let others = after (releases_in ns bs) (λ rs. Ok (one.0 ∷ rs)) (s ∷ rs) one.2 in
    let rules = after (rules_kept n s) (λ kept. all_rules_kept ns rs) x kept in
    let read : library_in b ≡ Ok s = read_by n (library_in b) one.0 one.1 ∙ ap (λ (y : Release). Ok y) (same_head one.0 s others.0 rs others.2) in
    let tail : releases_in ns bs ≡ Ok rs = others.1 ∙ ap (λ (l : List Release). Ok l) (same_tail one.0 s others.0 rs others.2) in
    elim m as (λ _. ReleaseOk r) [
      | inl is ↦ subst (λ (y : Release). ReleaseOk y) (sym is) (release_conforms s (kept_by n (release_breach s) rules.0 rules.1))
      | inr more ↦ all_conform ns bs rs tail x rules.2 r more
    ]

-- and where all conform, none of them breaks a rule
pub all_kept : (names : List (List ℕ)) (rs : List Release) → AllConform rs → all_rules_kept names rs ≡ Ok tt
all_kept [] rs ok = refl
all_kept (n ∷ ns) [] ok = refl
all_kept (n ∷ ns) (r ∷ rs) ok = ap (λ (o : Option RuleBreach). kept_or n o >>= λ kept. all_rules_kept ns rs) (conforms_release r (ok r (inl refl))) ∙ all_kept ns rs (λ s m. ok s (inr m))

-- ---- the ending that checking images comes to

abbrev pub line_ending : Files → Result (List ℕ) Refusal → Ending
line_ending files (Ok line) = record { text = line; status = 0; files = files }
line_ending files (Err r) = refusing files r

abbrev pub compared : List (List ℕ) → List Release → Result (List ℕ) Refusal
compared names rs = accepted_or names (first_not_kept rs)

abbrev after_rules : List (List ℕ) → List Release → Result (Unit {0}) Refusal → Result (List ℕ) Refusal
after_rules names rs kept = kept >>= λ x. compared names rs

abbrev after_reading : List (List ℕ) → Result (List Release) Refusal → Result (List ℕ) Refusal
after_reading names x = x >>= λ rs. all_rules_kept names rs >>= λ kept. compared names rs

abbrev pub check_ending : Files → List (List ℕ) → Ending
check_ending files names = line_ending files (images_in names files >>= λ images. line_checked names images)

module _ (files : Files) (names : List (List ℕ)) where
  abbrev Is : Result (List ℕ) Refusal → Type 0
  Is steps = IsCheckAnswer names files (line_ending files steps)

  compared_answer : (images : List (List ℕ)) (rs : List Release) → images_in names files ≡ Ok images → releases_in names images ≡ Ok rs → AllConform rs → (o : Option (ℕ × CompatBreach)) → first_not_kept rs ≡ o → Is (accepted_or names o)
  compared_answer images rs got read ok None e = accepts images rs got read ok e
  compared_answer images rs got read ok (Some told) e = refuses images rs told.0 told.1 got read ok e

  rules_answer : (images : List (List ℕ)) (rs : List Release) → images_in names files ≡ Ok images → releases_in names images ≡ Ok rs → (x : Result (Unit {0}) Refusal) → all_rules_kept names rs ≡ x → Is (after_rules names rs x)
  rules_answer images rs got read (Ok x) e = compared_answer images rs got read (all_conform names images rs read x e) (first_not_kept rs) refl
  rules_answer images rs got read (Err r) e = image_broken images rs r got read e

  reading_answer : (images : List (List ℕ)) → images_in names files ≡ Ok images → (x : Result (List Release) Refusal) → releases_in names images ≡ x → Is (after_reading names x)
  reading_answer images got (Ok rs) e = rules_answer images rs got e (all_rules_kept names rs) refl
  reading_answer images got (Err r) e = image_unread images r got e

  -- what the steps come to is an answer
  pub images_answer : (images : List (List ℕ)) → images_in names files ≡ Ok images → Is (line_checked names images)
  images_answer images got = reading_answer images got (releases_in names images) refl

  getting_answer : (x : Result (List (List ℕ)) Refusal) → images_in names files ≡ x → Is (x >>= λ images. line_checked names images)
  getting_answer (Ok images) e = images_answer images e
  getting_answer (Err r) e = image_absent r e

  pub check_answer : IsCheckAnswer names files (check_ending files names)
  check_answer = getting_answer (images_in names files) refl

  -- and each answer is it
  got_so : (x : Result (List (List ℕ)) Refusal) → images_in names files ≡ x → line_ending files (x >>= λ images. line_checked names images) ≡ check_ending files names
  got_so x e = ap (λ (y : Result (List (List ℕ)) Refusal). line_ending files (y >>= λ images. line_checked names images)) (sym e)

  read_so : (images : List (List ℕ)) → images_in names files ≡ Ok images → (x : Result (List Release) Refusal) → releases_in names images ≡ x → line_ending files (after_reading names x) ≡ check_ending files names
  read_so images got x e = ap (λ (y : Result (List Release) Refusal). line_ending files (after_reading names y)) (sym e) ∙ got_so (Ok images) got

  ruled_so : (images : List (List ℕ)) (rs : List Release) → images_in names files ≡ Ok images → releases_in names images ≡ Ok rs → (x : Result (Unit {0}) Refusal) → all_rules_kept names rs ≡ x
      → line_ending files (after_rules names rs x) ≡ check_ending files names
  ruled_so images rs got read x e = ap (λ (y : Result (Unit {0}) Refusal). line_ending files (after_rules names rs y)) (sym e) ∙ read_so images got (Ok rs) read

  compared_so : (images : List (List ℕ)) (rs : List Release) → images_in names files ≡ Ok images → releases_in names images ≡ Ok rs → AllConform rs → (o : Option (ℕ × CompatBreach)) → first_not_kept rs ≡ o
      → line_ending files (accepted_or names o) ≡ check_ending files names
  compared_so images rs got read ok o e = ap (λ (y : Option (ℕ × CompatBreach)). line_ending files (accepted_or names y)) (sym e) ∙ ruled_so images rs got read (Ok tt) (all_kept names rs ok)

  pub one_check : (e : Ending) → IsCheckAnswer names files e → e ≡ check_ending files names
  one_check e (image_absent r got) = got_so (Err r) got
  one_check e (image_unread images r got read) = read_so images got (Err r) read
  one_check e (image_broken images rs r got read kept) = ruled_so images rs got read (Err r) kept
  one_check e (refuses images rs number b got read ok told) = compared_so images rs got read ok (Some (number, b)) told
  one_check e (accepts images rs got read ok none) = compared_so images rs got read ok None none

-- ---- what the code answers

-- some image isn't there
no_image : (files : Files) (names : List (List ℕ)) (stop : CommandStop) → Stops {A = List (List ℕ)} stop (images_in names files) → Answers (IsCheckAnswer names files) files (Err stop)
no_image files names (stops.Refused r) f = image_absent r f
no_image files names (stops.StoreFailed line) f = tt
no_image files names stops.NoMemory f = tt

pub images_missing : (files : Option Files) (names : List (List ℕ)) (stop : CommandStop) → FollowsTold {A = List (List ℕ)} files (Err stop) (images_in names) → AnswersTold (IsCheckAnswer names) files (Err stop)
images_missing None names stop f = tt
images_missing (Some files) names stop f = no_image files names stop f

refused : (files : Files) (names images : List (List ℕ)) → images_in names files ≡ Ok images → (stop : CommandStop) → Follows {A = List ℕ} (Err stop) (line_checked names images) → Answers (IsCheckAnswer names files) files (Err stop)
refused files names images got (stops.Refused r) f = subst (λ (x : Result (List ℕ) Refusal). IsCheckAnswer names files (line_ending files x)) f (images_answer files names images got)
refused files names images got (stops.StoreFailed line) f = tt
refused files names images got stops.NoMemory f = tt

-- the images aren't accepted
pub images_refused : (files : Option Files) (names images : List (List ℕ)) (stop : CommandStop) → FollowsTold files (Ok images) (images_in names) → Follows {A = List ℕ} (Err stop) (line_checked names images) → AnswersTold (IsCheckAnswer names) files (Err stop)
images_refused None names images stop f g = tt
images_refused (Some files) names images stop f g = refused files names images f stop g

-- they are
accepted : (files : Files) (names images : List (List ℕ)) (line : List ℕ) → images_in names files ≡ Ok images → line_checked names images ≡ Ok line → Answers (IsCheckAnswer names files) files (Ok (record { lines = line ∷ []; end = the_end.Done }))
accepted files names images line f g =
    let same : record { text = line; status = 0; files = files } ≡ record { text = line ++ []; status = 0; files = files } = ap (λ (t : List ℕ). record { text = t; status = 0; files = files }) (sym (append-nil line)) in
    subst (λ (e : Ending). IsCheckAnswer names files e) same (subst (λ (x : Result (List ℕ) Refusal). IsCheckAnswer names files (line_ending files x)) g (images_answer files names images f))

pub images_accepted : (files : Option Files) (names images : List (List ℕ)) (line : List ℕ) → FollowsTold files (Ok images) (images_in names) → Follows (Ok line) (line_checked names images)
    → AnswersTold (IsCheckAnswer names) files (Ok (record { lines = line ∷ []; end = the_end.Done }))
images_accepted None names images line f g = tt
images_accepted (Some files) names images line f g = accepted files names images line f g

-- ---- one step after another

abbrev pub ruled : List (List ℕ) → List Release → Result (List ℕ) Refusal
ruled names rs = all_rules_kept names rs >>= λ kept. compared names rs

-- some image can't be read
pub unread_before : (names images : List (List ℕ)) (stop : CommandStop) → Follows {A = List Release} (Err stop) (releases_in names images) → Follows {A = List ℕ} (Err stop) (line_checked names images)
unread_before names images stop f = stops_first stop (releases_in names images) (ruled names) f

after_read : (names images : List (List ℕ)) (rs : List Release) → Follows (Ok rs) (releases_in names images) → ruled names rs ≡ line_checked names images
after_read names images rs f = ap (λ (x : Result (List Release) Refusal). x >>= ruled names) (sym f)

-- some rule is broken
pub broken_before : (names images : List (List ℕ)) (rs : List Release) (stop : CommandStop) → Follows (Ok rs) (releases_in names images) → Follows {A = Unit {0}} (Err stop) (all_rules_kept names rs)
    → Follows {A = List ℕ} (Err stop) (line_checked names images)
broken_before names images rs stop f g = subst (Stops stop) (after_read names images rs f) (stops_first stop (all_rules_kept names rs) (λ kept. compared names rs) g)

-- none is
pub then_compared : (names images : List (List ℕ)) (rs : List Release) (x : Unit {0}) (result : Result (List ℕ) CommandStop) → Follows (Ok rs) (releases_in names images) → Follows (Ok x) (all_rules_kept names rs)
    → Follows result (accepted_or names (first_not_kept rs)) → Follows result (line_checked names images)
then_compared names images rs x result f g h =
    subst (Follows result) (ap (λ (y : Result (Unit {0}) Refusal). y >>= λ kept. compared names rs) (sym g) ∙ after_read names images rs f) h

-- ---- one answer

pub some_check_answer : (files : Files) (names : List (List ℕ)) → (e : Ending) × IsCheckAnswer names files e
some_check_answer files names = (check_ending files names, check_answer files names)

pub one_check_answer : (files : Files) (names : List (List ℕ)) (a b : Ending) → IsCheckAnswer names files a → IsCheckAnswer names files b → a ≡ b
one_check_answer files names a b x y = one_check files names a x ∙ sym (one_check files names b y)
