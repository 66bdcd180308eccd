-- What naming by levels is told of a flat program.
use Rattle.std.specs.Prelude.{◌≡◌, ◌<◌, ℕ, Bool, List, [], length, map, sum}
use Rattle.std.specs.Str.{bytes_eq}
use Rattle.som_model.specs.declared.class.ClassFace.{ClassFace}
use Rattle.som_model.specs.declared.program.Interface.{Interface}
use Rattle.som_model.specs.Lists.{doubles}

-- the sizes of the levels below, whether a client stands above them, and their classes one after the other
pub record Flat : Type 0 where
  pub sizes : List ℕ
  pub client : Bool
  pub base : Interface

-- the names of the classes of an interface, in order
abbrev pub names_of : Interface → List (List ℕ)
names_of i = map (λ (face : ClassFace). face.name) i.classes

-- few levels, which have together as many classes as the base, and these have names of their own
pub record IsFlat (sizes : List ℕ) (base : Interface) : Type 0 where
  pub few : length sizes < 256
  pub all : sum sizes ≡ length base.classes
  pub differ : doubles bytes_eq [] (names_of base) ≡ []
