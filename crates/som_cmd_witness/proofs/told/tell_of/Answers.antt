use Rattle.std.proofs.Common.{subst, sym}
use Rattle.som_witness.specs.declared.verdict.Verdict.{Verdict}
use Rattle.som_cmd_witness.specs.WitnessSteps.{MayBePut, program_in}
use Rattle.som_cmd_witness.proofs.Comparing.{verdict_fits}
use Rattle.som_cmd_witness.proofs.told.tell_of.Goals as goal

pub image_of-requires : goal.image_of-requires
image_of-requires c = subst (λ (v : Verdict). MayBePut (program_in v)) (sym c.in_ok-verdict.ensures) (verdict_fits c.args.releases.now c.requires)
