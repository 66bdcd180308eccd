use Rattle.std.proofs.Common.{Bool, refl, arith}
use Rattle.std.proofs.lemmas.List.{length-set}
use Rattle.som_model_laws.proofs.Listed.{mem_at}
use Rattle.som_verify_parents.proofs.FirstParent.{mark_next}
use Rattle.som_verify_parents.proofs.ancestry.mark_all.Goals as goal

pub bounds-marks-class : goal.bounds-marks-class
bounds-marks-class c = let h = c.requires.list _ (mem_at c.args.list.now c.loop-class.class-index 0 c.loop-class-test.true) in omega (arith, h, c.loop-class.invariant.long)

pub loop-class-preserved : goal.loop-class-preserved
loop-class-preserved c =
    let h = c.requires.list _ (mem_at c.args.list.now c.loop-class.class-index 0 c.loop-class-test.true) in
    record {
      marks = mark_next c.loop-class.marks c.args.list.now c.loop-class.class-index _ c.loop-class-test.true refl (omega (arith, h, c.loop-class.invariant.long)) c.loop-class.invariant.marks;
      long = omega (arith, c.loop-class.invariant.long, length-set {A = Bool});
    }
