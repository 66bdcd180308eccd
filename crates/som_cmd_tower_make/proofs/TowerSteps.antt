-- The parts of a level: the images of the libraries below it and its texts, one after the other.
use Rattle.std.proofs.Common.{◌≡◌, ℕ, ◌≤◌, List, Option, Some, None, Result, Ok, Err, sym, ap, subst, ◌∙◌, inl, inr}
use Rattle.som_io.proofs.ShownLaws.{rose_earlier}
use Rattle.som_model.specs.Bytes.{Files}
use Rattle.som_model.specs.Steps.{◌>>=◌}
use Rattle.som_sources.specs.declared.source.Source.{Source}
use Rattle.som_cmd_steps.specs.declared.stop.Refusal.{Refusal}
use Rattle.som_cmd_steps.specs.declared.stop.CommandStop.{CommandStop}
use Rattle.som_cmd_steps.specs.declared.stop.CommandStop.TheVariants as stops
use Rattle.som_cmd_steps.specs.Cause.{HasCause, IsQuietStop}
use Rattle.som_cmd_steps.specs.Getting.{FailsGetting, images_in}
use Rattle.som_cmd_steps.specs.Steps.{Follows, FollowsTold, Stops}
use Rattle.som_cmd_steps.proofs.ImageLaws.{stops_first}
use Rattle.som_cmd_sources.specs.Getting.{FailsGettingTexts}
use Rattle.som_cmd_sources.specs.Texts.{texts_in}
use Rattle.som_cmd_tower_make.specs.declared.base.TowerBase.{TowerBase}
use Rattle.som_cmd_tower_make.specs.declared.parts.TowerParts.{TowerParts}
use Rattle.som_cmd_tower_make.specs.Cause.{FailsGettingTower, HaveAll}
use Rattle.som_cmd_tower_make.specs.TowerParts.{base_in, tower_in}

-- ---- what is got

abbrev parts_from : TowerBase → List Source → TowerParts
parts_from base texts = record { base = base; texts = texts }

module _ (below names : List (List ℕ)) (told : Files) where
  abbrev after_texts : List (List ℕ) → List Source → Result TowerParts Refusal
  after_texts images texts = base_in below images >>= λ base. Ok (parts_from base texts)

  abbrev after_images : List (List ℕ) → Result TowerParts Refusal
  after_images images = texts_in names told >>= after_texts images

  with_images : (images : List (List ℕ)) → images_in below told ≡ Ok images → after_images images ≡ tower_in below names told
  with_images images f = ap (λ (x : Result (List (List ℕ)) Refusal). x >>= after_images) (sym f)

  with_texts : (images : List (List ℕ)) (texts : List Source) → images_in below told ≡ Ok images → texts_in names told ≡ Ok texts → after_texts images texts ≡ tower_in below names told
  with_texts images texts f g = ap (λ (x : Result (List Source) Refusal). x >>= after_texts images) (sym g) ∙ with_images images f

  no_texts : (images : List (List ℕ)) (stop : CommandStop) → images_in below told ≡ Ok images → Stops stop (texts_in names told) → Stops stop (tower_in below names told)
  no_texts images stop f g = subst (Stops stop) (with_images images f) (stops_first stop (texts_in names told) (after_texts images) g)

  no_base : (images : List (List ℕ)) (texts : List Source) (stop : CommandStop) → images_in below told ≡ Ok images → texts_in names told ≡ Ok texts → Stops stop (base_in below images) → Stops stop (tower_in below names told)
  no_base images texts stop f g h = subst (Stops stop) (with_texts images texts f g) (stops_first stop (base_in below images) (λ base. Ok (parts_from base texts)) h)

  pub all_parts : (images : List (List ℕ)) (texts : List Source) (base : TowerBase) → images_in below told ≡ Ok images → texts_in names told ≡ Ok texts → base_in below images ≡ Ok base → tower_in below names told ≡ Ok (parts_from base texts)
  all_parts images texts base f g h = sym (with_texts images texts f g) ∙ ap (λ (x : Result TowerBase Refusal). x >>= λ b. Ok (parts_from b texts)) h

-- an image isn't there
pub images_missing : (files : Option Files) (below names : List (List ℕ)) (stop : CommandStop) → FollowsTold {A = List (List ℕ)} files (Err stop) (images_in below) → FollowsTold {A = TowerParts} files (Err stop) (tower_in below names)
images_missing None below names stop f = tt
images_missing (Some told) below names stop f = stops_first stop (images_in below told) (after_images below names told) f

-- a text isn't
pub texts_missing : (files now : Option Files) (below names : List (List ℕ)) (images : List (List ℕ)) (stop : CommandStop) → now ≡ files → FollowsTold files (Ok images) (images_in below)
    → FollowsTold {A = List Source} now (Err stop) (texts_in names) → FollowsTold {A = TowerParts} files (Err stop) (tower_in below names)
texts_missing None now below names images stop same f g = tt
texts_missing (Some told) now below names images stop same f g =
    no_texts below names told images stop f (subst (λ (x : Option Files). FollowsTold {A = List Source} x (Err stop) (texts_in names)) same g)

-- the libraries of the images are refused
pub base_refused : (files now : Option Files) (below names : List (List ℕ)) (images : List (List ℕ)) (texts : List Source) (stop : CommandStop) → now ≡ files → FollowsTold files (Ok images) (images_in below)
    → FollowsTold now (Ok texts) (texts_in names) → Follows {A = TowerBase} (Err stop) (base_in below images) → FollowsTold {A = TowerParts} files (Err stop) (tower_in below names)
base_refused None now below names images texts stop same f g h = tt
base_refused (Some told) now below names images texts stop same f g h =
    no_base below names told images texts stop f (subst (λ (x : Option Files). FollowsTold x (Ok texts) (texts_in names)) same g) h

-- all are there
pub all_there : (files now : Option Files) (below names : List (List ℕ)) (images : List (List ℕ)) (texts : List Source) (base : TowerBase) → now ≡ files → FollowsTold files (Ok images) (images_in below)
    → FollowsTold now (Ok texts) (texts_in names) → Follows (Ok base) (base_in below images) → FollowsTold files (Ok (parts_from base texts)) (tower_in below names)
all_there None now below names images texts base same f g h = tt
all_there (Some told) now below names images texts base same f g h =
    all_parts below names told images texts base f (subst (λ (x : Option Files). FollowsTold x (Ok texts) (texts_in names)) same g) h

-- ---- where the store failed

have_all : (files : Option Files) (below : List (List ℕ)) (images : List (List ℕ)) → FollowsTold files (Ok images) (images_in below) → HaveAll files below
have_all None below images f = tt
have_all (Some told) below images f = (images, f)

pub images_fail : (files : Option Files) (below names : List (List ℕ)) (count now : ℕ) (stop : CommandStop) → HasCause {A = List (List ℕ)} (FailsGetting files below) count now (Err stop)
    → HasCause {A = TowerParts} (FailsGettingTower files below names) count now (Err stop)
images_fail files below names count now (stops.StoreFailed line) cause = (cause.0, inl cause.1)
images_fail files below names count now (stops.Refused r) cause = tt
images_fail files below names count now stops.NoMemory cause = tt

pub texts_fail : (files later : Option Files) (below names : List (List ℕ)) (images : List (List ℕ)) (count mid now : ℕ) (stop : CommandStop) → later ≡ files → count ≤ mid → FollowsTold files (Ok images) (images_in below)
    → HasCause {A = List Source} (FailsGettingTexts later names) mid now (Err stop) → HasCause {A = TowerParts} (FailsGettingTower files below names) count now (Err stop)
texts_fail files later below names images count mid now (stops.StoreFailed line) same le f cause =
    (rose_earlier count mid now le cause.0, inr (have_all files below images f, subst (λ (x : Option Files). FailsGettingTexts x names line) same cause.1))
texts_fail files later below names images count mid now (stops.Refused r) same le f cause = tt
texts_fail files later below names images count mid now stops.NoMemory same le f cause = tt

-- reading takes nothing from the store
pub reading_fails : (files : Option Files) (below names : List (List ℕ)) (count now : ℕ) (stop : CommandStop) → IsQuietStop stop → HasCause {A = TowerParts} (FailsGettingTower files below names) count now (Err stop)
reading_fails files below names count now (stops.StoreFailed line) quiet = absurd quiet
reading_fails files below names count now (stops.Refused r) quiet = tt
reading_fails files below names count now stops.NoMemory quiet = tt
