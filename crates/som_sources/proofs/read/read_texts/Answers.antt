use Rattle.som_sources.proofs.ReadLaws.{none_read}
use Rattle.som_sources.proofs.read.read_texts.Goals as goal

pub loop-source-init : goal.loop-source-init
loop-source-init c = none_read c.as_slice-sources.result.now c.new-trees.result c.new-trees.ensures
