use Rattle.som_cmd_tower_check.proofs.check.compare_levels.Goals as goal

pub compare-requires-clause-old : goal.compare-requires-clause-old
compare-requires-clause-old c = record { read = c.requires.old; conforms = c.in_ok-look_at_program.ensures.conforms }

pub compare-requires-clause-new : goal.compare-requires-clause-new
compare-requires-clause-new c = record { read = c.requires.new; conforms = c.in_ok-look_at_program-2.ensures.conforms }
