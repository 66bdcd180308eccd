use Rattle.std.proofs.Common.{refl}
use Rattle.som_model.specs.declared.limits.TheConstants.{DEFAULT_FUEL}
use Rattle.som_semantics.specs.Means.{means}
use Rattle.som_cmd_generate.proofs.MainLaws.{client_prints, not_begun}
use Rattle.som_cmd_generate.proofs.running.run_client.Goals as goal

pub returns-in-Ok-clause-prints : goal.returns-in-Ok-clause-prints
returns-in-Ok-clause-prints g c =
    client_prints c.args.release.now c.args.program.now c.in-Ok.kernel (g.K.Sink.faults c.args.out.now) (g.K.Sink.faults c.run_kernel.new.out) (g.K.Sink.written c.args.out.now) (g.K.Sink.written c.run_kernel.new.out)
    c.run_kernel.result c.in-Ok.ensures.classes c.in-Ok.ensures.main c.run_kernel.ensures.prints

pub returns-in-Err-clause-prints : goal.returns-in-Err-clause-prints
returns-in-Err-clause-prints g c =
    let written = g.K.Sink.written c.args.out.now in
    not_begun (means c.args.release.now c.args.program.now DEFAULT_FUEL) (g.K.Sink.faults c.args.out.now) (g.K.Sink.faults c.args.out.now) written written refl
