use Rattle.std.proofs.Common.{◌≡◌, ◌+◌, ◌*◌, drop}
use Rattle.som_model.specs.Lists.{some}
use Rattle.som_model.specs.Ancestors.{anc_within, member}
use Rattle.som_test_naive.specs.Rows.{hierarchy_of}
use Rattle.som_test_naive.proofs.resolution.+descent.Given as goal

abbrev pub decreases-descends_within : goal.decreases-descends_within
decreases-descends_within l = 2 * l.levels

abbrev pub decreases-some_descends : goal.decreases-some_descends
decreases-some_descends l = 2 * l.levels + 1

abbrev pub invariant-some_descends-loop-class : goal.invariant-some_descends-loop-class
invariant-some_descends-loop-class l =
    some (λ p. member (hierarchy_of l.rows) l.a (anc_within (hierarchy_of l.rows) l.levels p)) (drop l.class-index l.classes)
    ≡ some (λ p. member (hierarchy_of l.rows) l.a (anc_within (hierarchy_of l.rows) l.levels p)) l.classes
