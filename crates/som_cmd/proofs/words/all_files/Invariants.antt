use Rattle.std.proofs.Common.{◌≡◌, drop}
use Rattle.som_model.specs.Lists.{every}
use Rattle.som_cmd.specs.Words.{is_file}
use Rattle.som_cmd.proofs.words.all_files.Given as goal

abbrev pub invariant-loop-word : goal.invariant-loop-word
invariant-loop-word l = every is_file (drop l.word-index l.words) ≡ every is_file l.words
