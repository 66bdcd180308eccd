use Rattle.som_cmd_witness.proofs.told.encoded.Goals as goal

pub encode-requires-clause-conforms : goal.encode-requires-clause-conforms
encode-requires-clause-conforms c = c.requires.0

pub encode-requires-clause-within : goal.encode-requires-clause-within
encode-requires-clause-within c = c.requires.1
