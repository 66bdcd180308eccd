use Rattle.std.proofs.Common.{◌≡◌}
use Rattle.som_test_report.proofs.report.Report.tell_difference.Given as goal

abbrev pub invariant-loop-variable : goal.invariant-loop-variable
invariant-loop-variable l = l.self.sums ≡ l.fn.self.sums
