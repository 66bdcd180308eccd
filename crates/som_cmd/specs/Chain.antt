-- From texts to a run: what calls of `library` and `client` have done that ended with 0.
use Rattle.std.specs.Prelude.{◌≡◌, ℕ, List, Option}
use Rattle.som_model.specs.declared.program.Release.{Release}
use Rattle.som_model.specs.declared.program.ClientProgram.{ClientProgram}
use Rattle.som_model.specs.Bytes.{Files}
use Rattle.som_cmd.specs.Words.{Asked}
use Rattle.som_cmd.specs.PutEnds.{AreClientTextsOf, AreTextsOf, PutsProgram, PutsRelease}

-- a call of `library` was on texts that stand for the release, and put its image
pub record LibraryPuts (files : Option Files) (out : List ℕ) (r : Release) (new_files : Option Files) : Type 0 where
  pub asked : Asked
  pub made : AreTextsOf asked files out r
  pub status : ℕ
  pub old : Option (List ℕ)
  pub new : Option (List ℕ)
  pub puts : PutsRelease files out r status new_files old new

-- a call of `client` was on texts that stand for the program against the release of the library under a name, and put its image
pub record ClientPuts (files : Option Files) (out library : List ℕ) (p : ClientProgram) (new_files : Option Files) : Type 0 where
  pub asked : Asked
  pub made : AreClientTextsOf asked files out p
  pub library_is : made.library ≡ library
  pub status : ℕ
  pub old : Option (List ℕ)
  pub new : Option (List ℕ)
  pub puts : PutsProgram files out p status new_files old new
