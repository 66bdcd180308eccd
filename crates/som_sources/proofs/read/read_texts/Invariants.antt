use Rattle.std.proofs.Common.{Ok, take}
use Rattle.som_sources.specs.Reading.{ReadsAll}
use Rattle.som_sources.proofs.read.read_texts.Given as goal

abbrev pub invariant-loop-source : goal.invariant-loop-source
invariant-loop-source l = ReadsAll (take l.source-index l.sources) (Ok l.trees)
