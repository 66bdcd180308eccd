use Rattle.som_cmd.specs.Words.{is_fuel_flag}
use Rattle.som_cmd.proofs.TowerWordLaws.{BeforeSoFar}
use Rattle.som_cmd.proofs.tower_words.count_before_fuel.Given as goal

abbrev pub invariant-loop-word : goal.invariant-loop-word
invariant-loop-word l = BeforeSoFar is_fuel_flag l.words l.word-index l.count
