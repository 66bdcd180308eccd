use Rattle.std.proofs.Common.{◌∙◌}
use Rattle.som_compat.specs.KernelSigs.{sig_of_kernel}
use Rattle.som_compat.proofs.Signing.{sig_sym}
use Rattle.som_compat.proofs.kernel.is_sig_of.Goals as goal

pub returns : goal.returns
returns c = c.is_kernel_sig.ensures ∙ sig_sym c.args.sig.now (sig_of_kernel c.args.kernel)
