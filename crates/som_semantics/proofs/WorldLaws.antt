-- What classes answer, written out, is their world.
use Rattle.std.proofs.Common.{◌≡◌, List, refl}
use Rattle.som_model.specs.Class.{Class}
use Rattle.som_semantics.specs.World.{answers_of, world}

pub answers_are : (cs : List Class) → answers_of cs ≡ world cs
unfolding world
answers_are cs = refl
