use Rattle.som_compat.specs.Views.{classes_of}
use Rattle.som_compat.proofs.Placed.{among_place}
use Rattle.som_compat.proofs.lookup.Lookup.known_place.Goals as goal

pub returns-in-None : goal.returns-in-None
returns-in-None c = let r = among_place (classes_of c.args.self.now.faces.now) c.args.key.now c.requires in absurd (c.in-None.ensures.finds r.0 r.1 r.1 r.2)
