use Rattle.som_sema.proofs.bases.makes_classes.Goals as goal

pub returns : goal.returns
returns c = c.descends_from.ensures
