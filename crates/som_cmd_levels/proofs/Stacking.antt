-- Libraries that are read one after the other, each above one more.
use Rattle.std.proofs.Common.{◌≡◌, ℕ, suc, ◌+◌, ◌<◌, ◌≤◌, false, List, [], ◌∷◌, ◌++◌, length, drop, get_or, Result, Ok, Err, refl, sym, ap, subst, ◌∙◌, append_assoc, arith}
use Rattle.std.proofs.lemmas.List.{append-nil, drop_all}
use Rattle.std.specs.Prelude.{IfOk}
use Rattle.som_model.specs.Conforming.{ReleaseOk}
use Rattle.som_model.specs.declared.program.Release.{Release}
use Rattle.som_model.specs.Steps.{◌>>=◌}
use Rattle.som_order.specs.Names.{name_at}
use Rattle.som_towerimage.specs.declared.level.Level.{Level}
use Rattle.som_cmd_steps.specs.declared.stop.Refusal.{Refusal}
use Rattle.som_cmd_steps.specs.declared.stop.CommandStop.{CommandStop}
use Rattle.som_cmd_steps.specs.declared.stop.CommandStop.TheVariants as stops
use Rattle.som_cmd_steps.specs.EachImage.{each_passes}
use Rattle.som_cmd_steps.specs.ImageSteps.{release_in, rules_kept}
use Rattle.som_cmd_steps.specs.Steps.{Follows, Stops}
use Rattle.som_cmd_steps.proofs.ImageLaws.{stops_first}
use Rattle.som_cmd_steps.proofs.InTurn.{next_of}
use Rattle.som_cmd_levels.specs.declared.levels.LevelsBelow.{LevelsBelow}
use Rattle.som_cmd_levels.specs.LevelImages.{level_read}
use Rattle.som_cmd_levels.specs.Levels.{AllConform, LevelsConform, level_rules_kept, levels_in, levels_rules_kept, uppers_in}

-- what is left after some were read
abbrev after : List Level → Result (List Level) Refusal → Result (List Level) Refusal
after done r = r >>= λ ls. Ok (done ++ ls)

-- one before what is left
abbrev one_before : Result Level Refusal → Result (List Level) Refusal → Result (List Level) Refusal
one_before s r = s >>= λ l. r >>= λ ls. Ok (l ∷ ls)

after_one : (done : List Level) (l : Level) (r : Result (List Level) Refusal) → after (done ++ l ∷ []) r ≡ after done (one_before (Ok l) r)
after_one done l (Ok ls) = ap (λ (x : List Level). Ok x) (append_assoc done (l ∷ []) ls)
after_one done l (Err e) = refl

stops_all : (done : List Level) (stop : CommandStop) (s : Result Level Refusal) (r : Result (List Level) Refusal) → Stops stop s → Stops stop (after done (one_before s r))
stops_all done (stops.Refused e) s r f = ap (λ (x : Result Level Refusal). after done (one_before x r)) f
stops_all done (stops.StoreFailed line) s r f = tt
stops_all done stops.NoMemory s r f = tt

none_done : (r : Result (List Level) Refusal) → after [] r ≡ r
none_done (Ok ls) = refl
none_done (Err e) = refl

module _ (names images : List (List ℕ)) where
  -- the images before a place were read
  abbrev pub HaveRead : ℕ → List Level → Type 0
  HaveRead i ls = after ls (uppers_in (i + 1) (drop i names) (drop i images)) ≡ uppers_in 1 names images

  pub read_none : HaveRead 0 []
  read_none = none_done (uppers_in 1 names images)

  -- all were read
  pub read_all : (i : ℕ) (ls : List Level) → length names ≤ i → HaveRead i ls → uppers_in 1 names images ≡ Ok ls
  read_all i ls over so = sym so ∙ ap (λ (ns : List (List ℕ)). after ls (uppers_in (i + 1) ns (drop i images))) (drop_all i names over) ∙ ap (λ (x : List Level). Ok x) (append-nil ls)

  module _ (i : ℕ) (name image : List ℕ) (lt : i < length names) (name_is : name ≡ get_or names i name) (within : i < length images) (image_is : image ≡ get_or images i image) where
    read_before : (ls : List Level) → HaveRead i ls → after ls (one_before (level_read (i + 1) false name image) (uppers_in ((i + 1) + 1) (drop (i + 1) names) (drop (i + 1) images))) ≡ uppers_in 1 names images
    read_before ls so =
        let n : (i + 1) + 1 ≡ suc (i + 1) = omega arith in
        ap (λ (k : ℕ). after ls (one_before (level_read (i + 1) false name image) (uppers_in k (drop (i + 1) names) (drop (i + 1) images)))) n
        ∙ ap (λ (bs : List (List ℕ)). after ls (uppers_in (i + 1) (name ∷ drop (i + 1) names) bs)) (sym (next_of images i image within image_is))
        ∙ ap (λ (ns : List (List ℕ)). after ls (uppers_in (i + 1) ns (drop i images))) (sym (next_of names i name lt name_is)) ∙ so

    -- one more
    pub read_more : (ls : List Level) (l : Level) → HaveRead i ls → level_read (i + 1) false name image ≡ Ok l → HaveRead (i + 1) (ls ++ l ∷ [])
    read_more ls l so f =
        after_one ls l (uppers_in ((i + 1) + 1) (drop (i + 1) names) (drop (i + 1) images))
        ∙ ap (λ (x : Result Level Refusal). after ls (one_before x (uppers_in ((i + 1) + 1) (drop (i + 1) names) (drop (i + 1) images)))) (sym f)
        ∙ read_before ls so

    -- one that is refused
    pub read_stops : (ls : List Level) (stop : CommandStop) → HaveRead i ls → Stops stop (level_read (i + 1) false name image) → Stops stop (uppers_in 1 names images)
    read_stops ls stop so f = subst (Stops stop) (read_before ls so) (stops_all ls stop (level_read (i + 1) false name image) (uppers_in ((i + 1) + 1) (drop (i + 1) names) (drop (i + 1) images)) f)

-- ---- the lowest, and then those above it

abbrev above : Release → Result (List Level) Refusal → Result LevelsBelow Refusal
above r steps = steps >>= λ ls. Ok (record { base = r; uppers = ls })

abbrev uppers_of : List (List ℕ) → List (List ℕ) → Result (List Level) Refusal
uppers_of names images = uppers_in 1 (drop 1 names) (drop 1 images)

lowest_read : (names images : List (List ℕ)) (r : Release) → release_in (name_at names 0) (name_at images 0) ≡ Ok r → above r (uppers_of names images) ≡ levels_in names images
lowest_read names images r e = ap (λ (x : Result Release Refusal). x >>= λ r. above r (uppers_of names images)) (sym e)

-- the lowest is refused
pub lowest_stops : (names images : List (List ℕ)) (n b : List ℕ) (stop : CommandStop) → n ≡ name_at names 0 → b ≡ name_at images 0 → Follows {A = Release} (Err stop) (release_in n b) → Follows {A = LevelsBelow} (Err stop) (levels_in names images)
lowest_stops names images n b stop n_is b_is f =
    stops_first stop (release_in (name_at names 0) (name_at images 0)) (λ r. above r (uppers_of names images)) (subst (λ (x : List ℕ). Stops stop (release_in (name_at names 0) x)) b_is (subst (λ (x : List ℕ). Stops stop (release_in x b)) n_is f))

lowest_is : (names images : List (List ℕ)) (n b : List ℕ) (r : Release) → n ≡ name_at names 0 → b ≡ name_at images 0 → release_in n b ≡ Ok r → release_in (name_at names 0) (name_at images 0) ≡ Ok r
lowest_is names images n b r n_is b_is f = subst (λ (x : List ℕ). release_in (name_at names 0) x ≡ Ok r) b_is (subst (λ (x : List ℕ). release_in x b ≡ Ok r) n_is f)

-- one above it is
pub upper_stops : (names images ns bs : List (List ℕ)) (n b : List ℕ) (r : Release) (stop : CommandStop) → n ≡ name_at names 0 → b ≡ name_at images 0 → ns ≡ drop 1 names → bs ≡ drop 1 images → Follows (Ok r) (release_in n b)
    → Follows {A = List Level} (Err stop) (uppers_in 1 ns bs) → Follows {A = LevelsBelow} (Err stop) (levels_in names images)
upper_stops names images ns bs n b r stop n_is b_is ns_are bs_are f g =
    let h : Stops stop (uppers_of names images) = subst (λ (x : List (List ℕ)). Stops stop (uppers_in 1 (drop 1 names) x)) bs_are (subst (λ (x : List (List ℕ)). Stops stop (uppers_in 1 x bs)) ns_are g) in
    subst (Stops stop) (lowest_read names images r (lowest_is names images n b r n_is b_is f)) (stops_first stop (uppers_of names images) (λ ls. Ok (record { base = r; uppers = ls })) h)

-- none is
pub levels_read : (names images ns bs : List (List ℕ)) (n b : List ℕ) (r : Release) (ls : List Level) → n ≡ name_at names 0 → b ≡ name_at images 0 → ns ≡ drop 1 names → bs ≡ drop 1 images → Follows (Ok r) (release_in n b)
    → Follows (Ok ls) (uppers_in 1 ns bs) → Follows (Ok (record { base = r; uppers = ls })) (levels_in names images)
levels_read names images ns bs n b r ls n_is b_is ns_are bs_are f g =
    let h : uppers_of names images ≡ Ok ls = subst (λ (x : List (List ℕ)). uppers_in 1 (drop 1 names) x ≡ Ok ls) bs_are (subst (λ (x : List (List ℕ)). uppers_in 1 x bs ≡ Ok ls) ns_are g) in
    sym (lowest_read names images r (lowest_is names images n b r n_is b_is f)) ∙ ap (above r) h

-- ---- rules

-- the lowest breaks one
pub lowest_broken : (names : List (List ℕ)) (n : List ℕ) (below : LevelsBelow) (stop : CommandStop) → n ≡ name_at names 0 → Follows {A = Unit {0}} (Err stop) (rules_kept n below.base) → Follows {A = Unit {0}} (Err stop) (levels_rules_kept names below)
lowest_broken names n below stop n_is f =
    stops_first stop (rules_kept (name_at names 0) below.base) (λ kept. each_passes level_rules_kept (drop 1 names) below.uppers) (subst (λ (x : List ℕ). Stops stop (rules_kept x below.base)) n_is f)

-- it breaks none, and so it goes as with the others
pub then_uppers : (names ns : List (List ℕ)) (n : List ℕ) (below : LevelsBelow) (ls : List Level) (u : Unit {0}) (result : Result (Unit {0}) CommandStop) → n ≡ name_at names 0 → ns ≡ drop 1 names → ls ≡ below.uppers → Follows (Ok u) (rules_kept n below.base)
    → Follows result (each_passes level_rules_kept ns ls) → Follows result (levels_rules_kept names below)
then_uppers names ns n below ls u result n_is ns_are ls_are f g =
    let first : rules_kept (name_at names 0) below.base ≡ Ok u = subst (λ (x : List ℕ). rules_kept x below.base ≡ Ok u) n_is f in
    let others : Follows result (each_passes level_rules_kept (drop 1 names) below.uppers) = subst (λ (x : List Level). Follows result (each_passes level_rules_kept (drop 1 names) x)) ls_are (subst (λ (x : List (List ℕ)). Follows result (each_passes level_rules_kept x ls)) ns_are g) in
    subst (Follows result) (ap (λ (x : Result (Unit {0}) Refusal). x >>= λ kept. each_passes level_rules_kept (drop 1 names) below.uppers) (sym first)) others

-- and all conform
pub all_conform : (below : LevelsBelow) (ls : List Level) (result : Result (Unit {0}) CommandStop) → ls ≡ below.uppers → ReleaseOk below.base → IfOk result (λ _. AllConform ls) → IfOk result (λ _. LevelsConform below)
all_conform below ls (Ok u) ls_are base uppers = record { base = base; uppers = subst (λ (x : List Level). AllConform x) ls_are uppers }
all_conform below ls (Err stop) ls_are base uppers = tt
