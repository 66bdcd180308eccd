use Rattle.som_class_ids.proofs.named.+find_in_levels.Given as goal

abbrev pub decreases-find_in_levels : goal.decreases-find_in_levels
decreases-find_in_levels l = l.level
