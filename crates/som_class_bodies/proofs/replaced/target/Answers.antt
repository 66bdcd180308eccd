use Rattle.som_class_bodies.proofs.Answering.{one_parent}
use Rattle.som_class_bodies.proofs.replaced.target.Goals as goal

pub first_of-requires : goal.first_of-requires
first_of-requires c =
    rw c.as_slice.ensures (one_parent c.args.classes.now c.args.class c.requires.numbered c.parents.result.now c.parents.ensures.keys c.parents.ensures.lower c.requires.proxy).0

pub returns : goal.returns
returns c =
    let r = (one_parent c.args.classes.now c.args.class c.requires.numbered c.parents.result.now c.parents.ensures.keys c.parents.ensures.lower c.requires.proxy).1 c.first_of.result (rw c.as_slice.ensures at c.first_of.ensures) in
    record { numbered = r.0; key = r.1 }
