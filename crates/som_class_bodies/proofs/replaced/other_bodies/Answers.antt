use Rattle.som_class_bodies.proofs.Facts.{derived}
use Rattle.som_class_bodies.proofs.replaced.other_bodies.Goals as goal

pub returns-in-Derived : goal.returns-in-Derived
returns-in-Derived c = rw c.new.ensures (derived c.args.classes.now c.requires.loaded c.args.class _ (c.kind.ensures.derived c.in-Derived.is))
