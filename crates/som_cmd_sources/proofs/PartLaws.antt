-- The parts of a client: its library and its texts, one after the other.
use Rattle.std.proofs.Common.{◌≡◌, ℕ, ◌≤◌, List, Option, Some, None, Result, Ok, Err, sym, ap, subst, ◌∙◌, inl, inr}
use Rattle.som_io.proofs.ShownLaws.{rose_earlier}
use Rattle.som_model.specs.declared.program.Release.{Release}
use Rattle.som_model.specs.Bytes.{Files}
use Rattle.som_model.specs.Steps.{◌>>=◌}
use Rattle.som_sources.specs.declared.source.Source.{Source}
use Rattle.som_cmd_steps.specs.declared.stop.Refusal.{Refusal}
use Rattle.som_cmd_steps.specs.declared.stop.CommandStop.{CommandStop}
use Rattle.som_cmd_steps.specs.Fetching.{file_of}
use Rattle.som_cmd_steps.specs.ImageSteps.{sound_release}
use Rattle.som_cmd_steps.specs.Cause.{HasCause, IsQuietStop}
use Rattle.som_cmd_steps.specs.Lines.{store_failed}
use Rattle.som_cmd_steps.specs.Steps.{Stops, Follows, FollowsTold}
use Rattle.som_cmd_steps.proofs.ImageLaws.{stops_first}
use Rattle.som_cmd_steps.proofs.FileLaws.{has_bytes}
use Rattle.som_cmd_steps.specs.declared.stop.CommandStop.TheVariants as stops
use Rattle.som_cmd_sources.specs.declared.client_parts.ClientParts.{ClientParts}
use Rattle.som_cmd_sources.specs.Texts.{texts_in}
use Rattle.som_cmd_sources.specs.Parts.{parts_in}
use Rattle.som_cmd_sources.specs.Getting.{FailsGettingParts, FailsGettingTexts}

-- ---- what is got

abbrev Parts : Type 0
Parts = Result ClientParts Refusal

abbrev parts_from : Release → List Source → ClientParts
parts_from base texts = record { base = base; texts = texts }

module _ (library : List ℕ) (names : List (List ℕ)) (told : Files) where
  abbrev after_texts : List ℕ → List Source → Parts
  after_texts bytes texts = sound_release library bytes >>= λ base. Ok (parts_from base texts)

  abbrev after_library : List ℕ → Parts
  after_library bytes = texts_in names told >>= after_texts bytes

  with_library : (bytes : List ℕ) → file_of library told ≡ Ok bytes → after_library bytes ≡ parts_in library names told
  with_library bytes f = ap (λ (x : Result (List ℕ) Refusal). x >>= after_library) (sym f)

  with_texts : (bytes : List ℕ) (texts : List Source) → file_of library told ≡ Ok bytes → texts_in names told ≡ Ok texts → after_texts bytes texts ≡ parts_in library names told
  with_texts bytes texts f g = ap (λ (x : Result (List Source) Refusal). x >>= after_texts bytes) (sym g) ∙ with_library bytes f

  no_texts : (bytes : List ℕ) (stop : CommandStop) → file_of library told ≡ Ok bytes → Stops stop (texts_in names told) → Stops stop (parts_in library names told)
  no_texts bytes stop f g = subst (Stops stop) (with_library bytes f) (stops_first stop (texts_in names told) (after_texts bytes) g)

  no_base : (bytes : List ℕ) (texts : List Source) (stop : CommandStop) → file_of library told ≡ Ok bytes → texts_in names told ≡ Ok texts → Stops stop (sound_release library bytes) → Stops stop (parts_in library names told)
  no_base bytes texts stop f g h = subst (Stops stop) (with_texts bytes texts f g) (stops_first stop (sound_release library bytes) (λ base. Ok (parts_from base texts)) h)

  pub all_parts : (bytes : List ℕ) (texts : List Source) (base : Release) → file_of library told ≡ Ok bytes → texts_in names told ≡ Ok texts → sound_release library bytes ≡ Ok base
      → parts_in library names told ≡ Ok (parts_from base texts)
  all_parts bytes texts base f g h = sym (with_texts bytes texts f g) ∙ ap (λ (x : Result Release Refusal). x >>= λ r. Ok (parts_from r texts)) h

-- the library isn't there
pub library_missing : (files : Option Files) (library : List ℕ) (names : List (List ℕ)) (stop : CommandStop) → FollowsTold {A = List ℕ} files (Err stop) (file_of library) → FollowsTold {A = ClientParts} files (Err stop) (parts_in library names)
library_missing None library names stop f = tt
library_missing (Some told) library names stop f = stops_first stop (file_of library told) (after_library library names told) f

-- a text isn't
pub texts_missing : (files now : Option Files) (library : List ℕ) (names : List (List ℕ)) (bytes : List ℕ) (stop : CommandStop) → now ≡ files → FollowsTold files (Ok bytes) (file_of library)
    → FollowsTold {A = List Source} now (Err stop) (texts_in names) → FollowsTold {A = ClientParts} files (Err stop) (parts_in library names)
texts_missing None now library names bytes stop same f g = tt
texts_missing (Some told) now library names bytes stop same f g =
    no_texts library names told bytes stop f (subst (λ (x : Option Files). FollowsTold {A = List Source} x (Err stop) (texts_in names)) same g)

-- the library is no image, or breaks a rule
pub library_refused : (files now : Option Files) (library : List ℕ) (names : List (List ℕ)) (bytes : List ℕ) (texts : List Source) (stop : CommandStop) → now ≡ files → FollowsTold files (Ok bytes) (file_of library)
    → FollowsTold now (Ok texts) (texts_in names) → Follows {A = Release} (Err stop) (sound_release library bytes) → FollowsTold {A = ClientParts} files (Err stop) (parts_in library names)
library_refused None now library names bytes texts stop same f g h = tt
library_refused (Some told) now library names bytes texts stop same f g h =
    no_base library names told bytes texts stop f (subst (λ (x : Option Files). FollowsTold x (Ok texts) (texts_in names)) same g) h

-- all are there
pub all_there : (files now : Option Files) (library : List ℕ) (names : List (List ℕ)) (bytes : List ℕ) (texts : List Source) (base : Release) → now ≡ files → FollowsTold files (Ok bytes) (file_of library)
    → FollowsTold now (Ok texts) (texts_in names) → Follows (Ok base) (sound_release library bytes) → FollowsTold files (Ok (parts_from base texts)) (parts_in library names)
all_there None now library names bytes texts base same f g h = tt
all_there (Some told) now library names bytes texts base same f g h =
    all_parts library names told bytes texts base f (subst (λ (x : Option Files). FollowsTold x (Ok texts) (texts_in names)) same g) h

-- ---- where the store failed

pub library_fails : (files : Option Files) (library : List ℕ) (names : List (List ℕ)) (count now : ℕ) (stop : CommandStop) → HasCause {A = List ℕ} (λ line. line ≡ store_failed library) count now (Err stop)
    → HasCause {A = ClientParts} (FailsGettingParts files library names) count now (Err stop)
library_fails files library names count now (stops.StoreFailed line) cause = (cause.0, inl cause.1)
library_fails files library names count now (stops.Refused r) cause = tt
library_fails files library names count now stops.NoMemory cause = tt

pub texts_fail : (files later : Option Files) (library : List ℕ) (names : List (List ℕ)) (bytes : List ℕ) (count mid now : ℕ) (stop : CommandStop) → later ≡ files → count ≤ mid → FollowsTold files (Ok bytes) (file_of library)
    → HasCause {A = List Source} (FailsGettingTexts later names) mid now (Err stop) → HasCause {A = ClientParts} (FailsGettingParts files library names) count now (Err stop)
texts_fail files later library names bytes count mid now (stops.StoreFailed line) same le f cause =
    (rose_earlier count mid now le cause.0, inr (has_bytes files library bytes f, subst (λ (x : Option Files). FailsGettingTexts x names line) same cause.1))
texts_fail files later library names bytes count mid now (stops.Refused r) same le f cause = tt
texts_fail files later library names bytes count mid now stops.NoMemory same le f cause = tt

-- reading takes nothing from the store
pub reading_fails : (files : Option Files) (library : List ℕ) (names : List (List ℕ)) (count now : ℕ) (stop : CommandStop) → IsQuietStop stop → HasCause {A = ClientParts} (FailsGettingParts files library names) count now (Err stop)
reading_fails files library names count now (stops.StoreFailed line) quiet = absurd quiet
reading_fails files library names count now (stops.Refused r) quiet = tt
reading_fails files library names count now stops.NoMemory quiet = tt
