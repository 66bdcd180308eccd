-- What a store answers, and what a put leaves.
use Rattle.std.specs.Prelude.{◌≡◌, ℕ, ⊤, ◌⊎◌, List, Option, Some, None}
use Rattle.std.specs.FinMap.{get, insert, remove}
use Rattle.som_model.specs.Bytes.{Files}
use Rattle.som_io.specs.Outside.{Rose}
use Rattle.som_io.specs.declared.store.Got.{Got}
use Rattle.som_io.specs.declared.store.Got.TheVariants as gets
use Rattle.som_io.specs.declared.store.Put.{Put}
use Rattle.som_io.specs.declared.store.Put.TheVariants as puts

-- the files, where they are told, answer a get of the name so
abbrev pub Finds : Option Files → List ℕ → Got → Type 0
Finds None name answer = ⊤
Finds (Some files) name (gets.Bytes bytes) = get files name ≡ Some bytes
Finds (Some files) name gets.Absent = get files name ≡ None
Finds (Some files) name gets.Failed = ⊤
Finds (Some files) name gets.NoMemory = ⊤

-- a get fails only where the count of faults rose
abbrev pub GetHasCause : ℕ → ℕ → Got → Type 0
GetHasCause before now gets.Failed = Rose before now
GetHasCause before now answer = ⊤

-- the files, where they are told, after a put: the name has the bytes, and no other name changed;
-- after one that failed the name has the old bytes, the new ones or nothing
abbrev pub Holds : Option Files → Option Files → List ℕ → List ℕ → Put → Type 0
Holds None new name bytes answer = ⊤
Holds (Some files) new name bytes puts.Done = new ≡ Some (insert files name bytes)
Holds (Some files) new name bytes puts.Failed =
    (new ≡ Some files) ⊎ (new ≡ Some (insert files name bytes)) ⊎ (new ≡ Some (remove files name))
Holds (Some files) new name bytes puts.NoMemory = new ≡ Some files

-- a put fails only where the count of faults rose
abbrev pub PutHasCause : ℕ → ℕ → Put → Type 0
PutHasCause before now puts.Failed = Rose before now
PutHasCause before now answer = ⊤
