-- Two images that are got and read, step by step.
use Rattle.std.proofs.Common.{◌≡◌, ℕ, List, Option, Some, None, Result, Ok, Err, sym, ap, subst, ◌∙◌}
use Rattle.som_model.specs.declared.program.ClientProgram.{ClientProgram}
use Rattle.som_model.specs.declared.program.Release.{Release}
use Rattle.som_model.specs.Bytes.{Files}
use Rattle.som_model.specs.Steps.{◌>>=◌}
use Rattle.som_cmd_steps.specs.declared.stop.Refusal.{Refusal}
use Rattle.som_cmd_steps.specs.declared.stop.CommandStop.{CommandStop}
use Rattle.som_cmd_steps.specs.Fetching.{file_of}
use Rattle.som_cmd_steps.specs.ImageSteps.{program_in, release_in}
use Rattle.som_cmd_steps.specs.Steps.{Stops, Follows, FollowsTold}
use Rattle.som_cmd_steps.proofs.ImageLaws.{stops_first}
use Rattle.som_cmd_link.specs.declared.pair.Pair.{Pair}
use Rattle.som_cmd_link.specs.Pairs.{pair_in}

abbrev Read : Type 0
Read = Result Pair Refusal

abbrev pub pair_of : ClientProgram → Release → Pair
pair_of p r = record { program = p; release = r }

module _ (c l : List ℕ) (told : Files) where
  abbrev after_program : List ℕ → ClientProgram → Read
  after_program lb p = release_in l lb >>= λ r. Ok (pair_of p r)

  abbrev after_library : List ℕ → List ℕ → Read
  after_library cb lb = program_in c cb >>= after_program lb

  abbrev after_client : List ℕ → Read
  after_client cb = file_of l told >>= after_library cb

  with_client : (cb : List ℕ) → file_of c told ≡ Ok cb → after_client cb ≡ pair_in c l told
  with_client cb f = ap (λ (x : Result (List ℕ) Refusal). x >>= after_client) (sym f)

  with_library : (cb lb : List ℕ) → file_of c told ≡ Ok cb → file_of l told ≡ Ok lb → after_library cb lb ≡ pair_in c l told
  with_library cb lb f g = ap (λ (x : Result (List ℕ) Refusal). x >>= after_library cb) (sym g) ∙ with_client cb f

  with_program : (cb lb : List ℕ) (p : ClientProgram) → file_of c told ≡ Ok cb → file_of l told ≡ Ok lb → program_in c cb ≡ Ok p → after_program lb p ≡ pair_in c l told
  with_program cb lb p f g h = ap (λ (x : Result ClientProgram Refusal). x >>= after_program lb) (sym h) ∙ with_library cb lb f g

  no_library : (cb : List ℕ) (stop : CommandStop) → file_of c told ≡ Ok cb → Stops stop (file_of l told) → Stops stop (pair_in c l told)
  no_library cb stop f g = subst (Stops stop) (with_client cb f) (stops_first stop (file_of l told) (after_library cb) g)

  no_program : (cb lb : List ℕ) (stop : CommandStop) → file_of c told ≡ Ok cb → file_of l told ≡ Ok lb → Stops stop (program_in c cb) → Stops stop (pair_in c l told)
  no_program cb lb stop f g h = subst (Stops stop) (with_library cb lb f g) (stops_first stop (program_in c cb) (after_program lb) h)

  no_release : (cb lb : List ℕ) (p : ClientProgram) (stop : CommandStop) → file_of c told ≡ Ok cb → file_of l told ≡ Ok lb → program_in c cb ≡ Ok p → Stops stop (release_in l lb) → Stops stop (pair_in c l told)
  no_release cb lb p stop f g h i = subst (Stops stop) (with_program cb lb p f g h) (stops_first stop (release_in l lb) (λ r. Ok (pair_of p r)) i)

  pub both : (cb lb : List ℕ) (p : ClientProgram) (r : Release) → file_of c told ≡ Ok cb → file_of l told ≡ Ok lb → program_in c cb ≡ Ok p → release_in l lb ≡ Ok r → pair_in c l told ≡ Ok (pair_of p r)
  both cb lb p r f g h i = sym (with_program cb lb p f g h) ∙ ap (λ (x : Result Release Refusal). x >>= λ s. Ok (pair_of p s)) i

there : (told : Files) (now : Option Files) (l lb : List ℕ) → now ≡ Some told → FollowsTold now (Ok lb) (file_of l) → file_of l told ≡ Ok lb
there told now l lb same g = subst (λ (x : Option Files). FollowsTold x (Ok lb) (file_of l)) same g

-- the client isn't there
pub client_missing : (files : Option Files) (c l : List ℕ) (stop : CommandStop) → FollowsTold {A = List ℕ} files (Err stop) (file_of c) → FollowsTold {A = Pair} files (Err stop) (pair_in c l)
client_missing None c l stop f = tt
client_missing (Some told) c l stop f = stops_first stop (file_of c told) (after_client c l told) f

-- the library isn't
pub library_missing : (files now : Option Files) (c l cb : List ℕ) (stop : CommandStop) → now ≡ files → FollowsTold files (Ok cb) (file_of c) → FollowsTold {A = List ℕ} now (Err stop) (file_of l) → FollowsTold {A = Pair} files (Err stop) (pair_in c l)
library_missing None now c l cb stop same f g = tt
library_missing (Some told) now c l cb stop same f g = no_library c l told cb stop f (subst (λ (x : Option Files). FollowsTold {A = List ℕ} x (Err stop) (file_of l)) same g)

-- the client is no image
pub client_unread : (files now : Option Files) (c l cb lb : List ℕ) (stop : CommandStop) → now ≡ files → FollowsTold files (Ok cb) (file_of c) → FollowsTold now (Ok lb) (file_of l) → Follows {A = ClientProgram} (Err stop) (program_in c cb)
    → FollowsTold {A = Pair} files (Err stop) (pair_in c l)
client_unread None now c l cb lb stop same f g h = tt
client_unread (Some told) now c l cb lb stop same f g h = no_program c l told cb lb stop f (there told now l lb same g) h

-- the library is none
pub library_unread : (files now : Option Files) (c l cb lb : List ℕ) (p : ClientProgram) (stop : CommandStop) → now ≡ files → FollowsTold files (Ok cb) (file_of c) → FollowsTold now (Ok lb) (file_of l) → Follows (Ok p) (program_in c cb)
    → Follows {A = Release} (Err stop) (release_in l lb) → FollowsTold {A = Pair} files (Err stop) (pair_in c l)
library_unread None now c l cb lb p stop same f g h i = tt
library_unread (Some told) now c l cb lb p stop same f g h i = no_release c l told cb lb p stop f (there told now l lb same g) h i

-- both are read
pub both_read : (files now : Option Files) (c l cb lb : List ℕ) (p : ClientProgram) (r : Release) → now ≡ files → FollowsTold files (Ok cb) (file_of c) → FollowsTold now (Ok lb) (file_of l) → Follows (Ok p) (program_in c cb)
    → Follows (Ok r) (release_in l lb) → FollowsTold files (Ok (pair_of p r)) (pair_in c l)
both_read None now c l cb lb p r same f g h i = tt
both_read (Some told) now c l cb lb p r same f g h i = both c l told cb lb p r f (there told now l lb same g) h i
