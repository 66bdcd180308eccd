use Rattle.som_cmd_witness.proofs.told.image_of.Goals as goal

pub encoded-requires : goal.encoded-requires
encoded-requires c = rw c.in-Shown.is at c.requires
