use Rattle.som_class_variables.proofs.places.Places.variables.Goals as goal

pub ancestors-requires : goal.ancestors-requires
ancestors-requires c = c.requires.places.placed.numbered c.args.class c.requires.row
