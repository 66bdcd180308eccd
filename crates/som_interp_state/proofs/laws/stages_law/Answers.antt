use Rattle.som_interp_state.proofs.Stages.{first_stage, before_next, before_past, method_next, after_next, after_last}
use Rattle.som_interp_state.proofs.laws.stages_law.Goals as goal

pub returns-clause-first : goal.returns-clause-first
returns-clause-first c w x q = first_stage w x q

pub returns-clause-before : goal.returns-clause-before
returns-clause-before c w x q n k e = before_next w x q n k e

pub returns-clause-past : goal.returns-clause-past
returns-clause-past c w x q n le = before_past w x q n le

pub returns-clause-method : goal.returns-clause-method
returns-clause-method c w x q = method_next w x q

pub returns-clause-after : goal.returns-clause-after
returns-clause-after c w x q n k e = after_next w x q n k e

pub returns-clause-last : goal.returns-clause-last
returns-clause-last c w x q = after_last w x q
