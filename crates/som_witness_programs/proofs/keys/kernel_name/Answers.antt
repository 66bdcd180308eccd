use Rattle.som_witness_programs.proofs.Entries.{kernel_key_at}
use Rattle.som_witness_programs.proofs.keys.kernel_name.Goals as goal

pub returns : goal.returns
returns c = λ cs. kernel_key_at c.args.known.now.kernel.now cs c.args.place c.index-known-place.result c.requires.known.kernel c.requires.place
