use Rattle.std.proofs.lemmas.Result.{IfOk-weaker}
use Rattle.som_compat.specs.Told.{told}
use Rattle.som_witness_programs.proofs.Concluding.{accepted_is, broken_is}
use Rattle.som_witness_programs.proofs.Counted.{conforms}
use Rattle.som_witness_programs.proofs.answering.witness.Goals as goal

pub compatible-requires-clause-old : goal.compatible-requires-clause-old
compatible-requires-clause-old c = conforms c.args.old.now c.requires.old

pub compatible-requires-clause-new : goal.compatible-requires-clause-new
compatible-requires-clause-new c = conforms c.args.new.now c.requires.new

pub returns-in-Ok : goal.returns-in-Ok
returns-in-Ok c = accepted_is c.args.old.now c.args.new.now c.in-Ok.ensures

pub returns-in-Err : goal.returns-in-Err
returns-in-Err c = IfOk-weaker c.verdict_on.result _ _ (λ v e. broken_is c.args.old.now c.args.new.now (told c.in-Err.breach) v c.in-Err.ensures e) c.verdict_on.ensures
