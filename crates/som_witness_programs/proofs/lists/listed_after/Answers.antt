use Rattle.som_witness_programs.proofs.Joined.{words_all}
use Rattle.som_witness_programs.proofs.lists.listed_after.Goals as goal

pub returns : goal.returns
returns c = words_all c.args.first.now c.args.others.now c.loop-word.word-index c.loop-word.text.items c.loop-word-test.false c.loop-word.invariant
