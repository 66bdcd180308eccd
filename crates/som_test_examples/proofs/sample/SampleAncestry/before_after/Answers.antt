use Rattle.std.proofs.Common.{arith}
use Rattle.som_test_examples.proofs.Classes.{apart, two_methods, method_2_0, method_2_1}
use Rattle.som_test_examples.proofs.sample.SampleAncestry.before_after.Goals as goal

pub returns-clause-apart : goal.returns-clause-apart
returns-clause-apart c = apart

pub returns-clause-before : goal.returns-clause-before
returns-clause-before c = rw (c.new.ensures, two_methods) (omega arith, omega arith)

pub returns-clause-before_is : goal.returns-clause-before_is
returns-clause-before_is c = rw c.new.ensures method_2_0

pub returns-clause-after : goal.returns-clause-after
returns-clause-after c = rw (c.new.ensures, two_methods) (omega arith, omega arith)

pub returns-clause-after_is : goal.returns-clause-after_is
returns-clause-after_is c = rw c.new.ensures method_2_1
