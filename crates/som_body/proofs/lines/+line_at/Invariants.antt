use Rattle.som_body.proofs.lines.+line_at.Given as goal

abbrev pub decreases-line_at : goal.decreases-line_at
decreases-line_at l = l.depth
