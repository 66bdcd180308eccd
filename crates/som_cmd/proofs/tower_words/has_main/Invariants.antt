use Rattle.std.proofs.Common.{◌≡◌, drop}
use Rattle.som_cmd_tower_make.specs.TowerMakeAnswer.{has_main}
use Rattle.som_cmd.proofs.tower_words.has_main.Given as goal

abbrev pub invariant-loop-word : goal.invariant-loop-word
invariant-loop-word l = has_main (drop l.word-index l.words) ≡ has_main l.words
