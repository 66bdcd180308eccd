use Rattle.std.proofs.Common.{length}
use Rattle.som_test_naive.proofs.ancestry.+first_occurrences.Given as goal

abbrev pub decreases-first_occurrences : goal.decreases-first_occurrences
decreases-first_occurrences l = length l.classes.now
