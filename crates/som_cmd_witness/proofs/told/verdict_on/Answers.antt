use Rattle.som_cmd_witness.proofs.Comparing.{may_be_compared, witness_so}
use Rattle.som_cmd_witness.proofs.told.verdict_on.Goals as goal

pub witness-requires-clause-old : goal.witness-requires-clause-old
witness-requires-clause-old c = may_be_compared c.in_ok-old.old c.args.releases.now.older c.in_ok-old.ensures c.requires.older c.requires.older_within

pub witness-requires-clause-new : goal.witness-requires-clause-new
witness-requires-clause-new c = may_be_compared c.in_ok-new.new c.args.releases.now.newer c.in_ok-new.ensures c.requires.newer c.requires.newer_within

pub returns : goal.returns
returns c = witness_so c.in_ok-old.old c.in_ok-new.new c.args.releases.now c.witness.result c.in_ok-old.ensures c.in_ok-new.ensures c.witness.ensures
