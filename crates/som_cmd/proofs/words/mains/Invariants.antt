use Rattle.som_cmd.proofs.WordLaws.{MainsSoFar}
use Rattle.som_cmd.proofs.words.mains.Given as goal

abbrev pub invariant-loop-word : goal.invariant-loop-word
invariant-loop-word l = MainsSoFar l.words l.word-index l.count
