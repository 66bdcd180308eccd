use Rattle.std.proofs.Common.{◌≡◌, ◌+◌, ◌*◌, None, drop}
use Rattle.som_model.specs.Resolution.{impl_within, inherits}
use Rattle.som_test_naive.specs.Rows.{hierarchy_of, body_at, choice_at}
use Rattle.som_test_naive.proofs.resolution.+answer.Given as goal

abbrev pub decreases-implementation_within : goal.decreases-implementation_within
decreases-implementation_within l = 2 * l.levels

abbrev pub decreases-first_implementation : goal.decreases-first_implementation
decreases-first_implementation l = 2 * l.levels + 1

abbrev pub invariant-first_implementation-loop-class : goal.invariant-first_implementation-loop-class
invariant-first_implementation-loop-class l =
    inherits (hierarchy_of l.rows) l.a (impl_within (hierarchy_of l.rows) (body_at l.has_body) (choice_at l.choices) l.a l.levels) None (drop l.class-index l.classes)
    ≡ inherits (hierarchy_of l.rows) l.a (impl_within (hierarchy_of l.rows) (body_at l.has_body) (choice_at l.choices) l.a l.levels) None l.classes
