use Rattle.som_class_bodies.proofs.bodies.drafted.Goals as goal

pub returns : goal.returns
returns c = record { own = c.in_ok-own.ensures; others = c.in_ok-others.ensures; selected = c.in_ok-selected.ensures }
