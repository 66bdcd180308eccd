use Rattle.std.proofs.lemmas.Result.{IfOk-weaker}
use Rattle.som_verify.proofs.Programs.{declared_are}
use Rattle.som_verify.proofs.program.declare_program.Goals as goal

pub returns : goal.returns
returns c = IfOk-weaker c.declare-2.result _ _ (λ all owns. declared_are c.args.program.now c.args.base.now c.as_slice.result.now c.new.result.items c.in_ok-known.known.items all.items
    c.requires c.as_slice.ensures c.new.ensures.items c.in_ok-known.ensures owns) c.declare-2.ensures
