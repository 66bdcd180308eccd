use Rattle.som_values.proofs.operators.on_numbers.Goals as goal

pub returns-in-Long-Long-clause-seen : goal.returns-in-Long-Long-clause-seen
returns-in-Long-Long-clause-seen c = λ s p. c.of_numbers.ensures.seen s

pub returns-in-Long-Long-clause-kept : goal.returns-in-Long-Long-clause-kept
returns-in-Long-Long-clause-kept c = λ os p. c.of_numbers.ensures.kept os

pub returns-in-Long-Long-clause-means : goal.returns-in-Long-Long-clause-means
returns-in-Long-Long-clause-means c = λ s. rw c.in-Long-Long.is-0 (rw c.in-Long-Long.is-1 (c.of_numbers.ensures.means s))
