use Rattle.std.proofs.Common.{length, ◌*◌, ◌+◌, ◌≤◌}
use Rattle.som_test_format.proofs.expansion.Expansion.+texts.Given as goal

abbrev pub decreases-expand : goal.decreases-expand
decreases-expand l = 2 * length l.text.now

abbrev pub decreases-add_turns : goal.decreases-add_turns
decreases-add_turns l = 2 * length l.body.now + 1

abbrev pub invariant-expand-loop-form : goal.invariant-expand-loop-form
invariant-expand-loop-form l = length l.rest ≤ length l.text

abbrev pub decreases-expand-loop-form : goal.decreases-expand-loop-form
decreases-expand-loop-form l = length l.rest
