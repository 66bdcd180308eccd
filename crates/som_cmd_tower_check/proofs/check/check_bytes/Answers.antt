use Rattle.som_cmd_tower_check.proofs.check.check_bytes.Goals as goal

pub compare_levels-requires-clause-old : goal.compare_levels-requires-clause-old
compare_levels-requires-clause-old c = record { fits = c.in_ok-old_level.ensures.fits; within = c.in_ok-old_level.ensures.within; library = c.in_ok-old_level.ensures.library }

pub compare_levels-requires-clause-new : goal.compare_levels-requires-clause-new
compare_levels-requires-clause-new c = record { fits = c.in_ok-new_level.ensures.at.fits; within = c.in_ok-new_level.ensures.at.within; library = c.in_ok-new_level.ensures.at.kind }
