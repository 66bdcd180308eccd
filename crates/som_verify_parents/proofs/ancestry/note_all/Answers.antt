use Rattle.std.proofs.Common.{arith}
use Rattle.som_model_laws.proofs.Listed.{mem_at}
use Rattle.som_verify_parents.proofs.ancestry.note_all.Goals as goal

pub note-requires-clause-class : goal.note-requires-clause-class
note-requires-clause-class c = let h = c.requires.others _ (mem_at c.args.others.now c.loop-other.other-index 0 c.loop-other-test.true) in omega (arith, h)
