use Rattle.som_interp_calls.proofs.Going.{body_resumes}
use Rattle.som_interp_calls.proofs.values.to_body.Goals as goal

pub returns : goal.returns
returns c = body_resumes c.args.body (record c.args.body { operands = c.push.new.operands }) c.args.value c.in_ok-push.ensures
