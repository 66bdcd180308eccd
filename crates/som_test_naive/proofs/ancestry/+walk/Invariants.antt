use Rattle.std.proofs.Common.{◌≡◌, ◌++◌, ◌*◌, ◌+◌, drop, map}
use Rattle.som_model.specs.Lists.{joined}
use Rattle.som_model.specs.Ancestors.{anc_within}
use Rattle.som_test_naive.specs.Rows.{hierarchy_of}
use Rattle.som_test_naive.proofs.ancestry.+walk.Given as goal

abbrev pub decreases-ancestors_within : goal.decreases-ancestors_within
decreases-ancestors_within l = 2 * l.levels

abbrev pub decreases-ancestors_of_all : goal.decreases-ancestors_of_all
decreases-ancestors_of_all l = 2 * l.levels + 1

abbrev pub invariant-ancestors_of_all-loop-class : goal.invariant-ancestors_of_all-loop-class
invariant-ancestors_of_all-loop-class l =
    l.all ++ joined (map (anc_within (hierarchy_of l.rows) l.levels) (drop l.class-index l.classes)) ≡ joined (map (anc_within (hierarchy_of l.rows) l.levels) l.classes)
