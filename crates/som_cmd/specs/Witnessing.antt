-- What `witness` tells and puts of two releases, and the files of the texts that it prints.
use Rattle.std.specs.Prelude.{◌≡◌, ◌≢◌, ℕ, List, Option, Some}
use Rattle.std.specs.FinMap.{get}
use Rattle.som_model.specs.declared.program.Release.{Release}
use Rattle.som_model.specs.Bytes.{Files}
use Rattle.som_model.specs.Class.{interface_of}
use Rattle.som_model.specs.Compatible.{CompatBreach, first_break}
use Rattle.som_model.specs.Lists.{Mem}
use Rattle.som_sources.specs.declared.source.Source.{Source}
use Rattle.som_witness.specs.declared.verdict.Texts.{Texts}
use Rattle.som_witness_texts.specs.Files.{files_of}
use Rattle.som_cmd_witness.specs.WitnessEnds.{AreUnder, TellsWitness}
use Rattle.som_cmd.specs.Words.{Asked, Witness}

-- a witness of an older and a newer image is asked for, and the store holds those of these releases, which conform
pub record AreWitnessed (asked : Asked) (files : Option Files) (out older newer : List ℕ) (o n : Release) : Type 0 where
  pub told : Files
  pub files_are : files ≡ Some told
  pub asked_is : asked ≡ Witness out older newer
  pub under : AreUnder told older newer o n

-- the store told its files, and of the two releases is told that the newer one is accepted; that a class has another version; or the breach and its client, whose image is put
pub record TellsWitnessed (o n : Release) (files : Option Files) (out : List ℕ) (status : ℕ) (new_files : Option Files) (old new : Option (List ℕ)) : Type 0 where
  pub told : Files
  pub files_are : files ≡ Some told
  pub tells : TellsWitness o n told out status new_files old new

-- a call of `witness` was on two releases, of which the newer one breaks this first, not by a version alone, and it ended as such a call does where nothing fails
pub record WitnessPuts (files : Option Files) (out older newer : List ℕ) (o n : Release) (b : CompatBreach) (new_files : Option Files) : Type 0 where
  pub asked : Asked
  pub made : AreWitnessed asked files out older newer o n
  pub unkept : first_break (interface_of o) (interface_of n) ≡ Some b
  pub other : b.rule ≢ 2
  pub status : ℕ
  pub old : Option (List ℕ)
  pub new : Option (List ℕ)
  pub told : TellsWitnessed o n files out status new_files old new

-- the store holds each text of a client under its name: w.idl, w.bod where there are bodies, and w.main
abbrev pub HoldsEach : Files → Texts → Type 0
HoldsEach files t = (s : Source) → Mem s (files_of t) → get files s.name ≡ Some s.bytes
