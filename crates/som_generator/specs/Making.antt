-- What comes of the generator's texts: the images of both releases and of the client, or the first step that refuses.
use Rattle.std.specs.Prelude.{◌≡◌, ℕ, List, [], ◌∷◌, Some, Result, Ok, Err}
use Rattle.som_model.specs.declared.program.Interface.{Interface}
use Rattle.som_model.specs.Class.{interface_of}
use Rattle.som_model.specs.Compatible.{Accepted, CompatBreach, first_break}
use Rattle.som_model.specs.Images.{client_image, library_image}
use Rattle.som_sources.specs.declared.fault.TextFault.{TextFault}
use Rattle.som_sources.specs.declared.source.Source.{Source}
use Rattle.som_compile.specs.Compiling.{Compiles, CompilesClient, StandFor, StandForClient}
use Rattle.som_generator.specs.declared.edition.Edition.TheVariants.{First, Second}
use Rattle.som_generator.specs.declared.fault.MakeFault.{MakeFault}
use Rattle.som_generator.specs.declared.fault.MakeFault.TheVariants as faults
use Rattle.som_generator.specs.declared.fault.NotKept.{NotKept}
use Rattle.som_generator.specs.declared.fault.Unmade.{Unmade}
use Rattle.som_generator.specs.declared.fault.Unmade.TheVariants as unmade
use Rattle.som_generator.specs.declared.made.Client.{Client}
use Rattle.som_generator.specs.declared.made.Library.{Library}
use Rattle.som_generator.specs.declared.made.Made.{Made}
use Rattle.som_generator.specs.Texts.{client_texts, library_texts}

-- the release that these texts stand for, with its image
pub record IsLibrary (ss : List Source) (l : Library) : Type 0 where
  pub stand : StandFor ss l.release
  pub image_is : library_image l.release ≡ Some l.image

-- the client program that these texts stand for against a base, with its image
pub record IsClient (base : Interface) (ss : List Source) (c : Client) : Type 0 where
  pub stand : StandForClient base ss c.program
  pub image_is : client_image c.program ≡ Some c.image

-- Both releases of so many classes and the client of the first, with their images; the second is accepted against the first.
pub record IsMade (n : ℕ) (m : Made) : Type 0 where
  pub first : IsLibrary (library_texts First n) m.first
  pub second : IsLibrary (library_texts Second n) m.second
  pub client : IsClient (interface_of m.first.release) (client_texts n) m.client
  pub accepted : Accepted (m.first.release ∷ m.second.release ∷ [])

-- what isn't kept, as the rules tell it
abbrev pub breach_of : NotKept → CompatBreach
breach_of b = record { rule = b.rule; class = b.class; name = b.name; place = b.place }

-- The steps in order: both releases are compiled, then the client against the first, and then the second is held against the first.
-- The first that refuses decides.
pub data Makes (n : ℕ) : Result Made Unmade → Type 0 where
  first_refused : (w : TextFault) → Compiles (library_texts First n) (Err w) → Makes n (Err (unmade.Texts w))
  second_refused : (a : Library) (w : TextFault) → IsLibrary (library_texts First n) a → Compiles (library_texts Second n) (Err w) → Makes n (Err (unmade.Texts w))
  client_refused : (a b : Library) (w : TextFault) → IsLibrary (library_texts First n) a → IsLibrary (library_texts Second n) b
      → CompilesClient (interface_of a.release) (client_texts n) (Err w) → Makes n (Err (unmade.Texts w))
  not_kept : (a b : Library) (c : Client) (k : NotKept) → IsLibrary (library_texts First n) a → IsLibrary (library_texts Second n) b
      → IsClient (interface_of a.release) (client_texts n) c → first_break (interface_of a.release) (interface_of b.release) ≡ Some (breach_of k) → Makes n (Err (unmade.NotKept k))
  made : (m : Made) → IsMade n m → Makes n (Ok m)

-- what the code answers is what the steps come to; want of memory says nothing
abbrev pub Answers : {A : Type 0} → (Result A Unmade → Type 0) → Result A MakeFault → Type 0
Answers Comes (Ok x) = Comes (Ok x)
Answers Comes (Err (faults.Unmade u)) = Comes (Err u)
Answers Comes (Err faults.NoMemory) = Unit {0}
