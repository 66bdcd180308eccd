use Rattle.std.proofs.Common.{arith, length}
use Rattle.som_meta.specs.Numbering.{key_at}
use Rattle.som_class_variables.specs.Variables.{own_variables}
use Rattle.som_class_variables.proofs.Filling.{bases_more, next_more, place_at_end}
use Rattle.som_class_variables.proofs.bases.bases_above.Goals as goal

pub loop-class-preserved : goal.loop-class-preserved
loop-class-preserved c =
    let k = c.args.classes.now in
    rw c.in_ok-note_base.ensures (record {
      bases = bases_more (λ n. length (own_variables k.classes (key_at k n))) c.args.shift c.args.place c.args.all.now c.loop-class.class-index c.class-item.result c.own_count-count.result c.loop-class.place c.loop-class.bases
          c.loop-class-test.true c.class-item.is c.own_count-count.ensures c.loop-class.invariant.bases c.loop-class.invariant.place;
      place = next_more (λ n. length (own_variables k.classes (key_at k n))) c.args.place c.args.all.now c.loop-class.class-index c.class-item.result c.own_count-count.result c.loop-class.place c.in-Some.next
          c.loop-class-test.true c.class-item.is c.own_count-count.ensures c.loop-class.invariant.place c.in-Some.ensures;
    })

pub returns-clause-end : goal.returns-clause-end
returns-clause-end c =
    let k = c.args.classes.now in
    place_at_end (own_variables k.classes) (key_at k) c.args.place c.args.all.now c.loop-class.class-index c.loop-class.place (omega (arith, c.loop-class-test.false)) c.loop-class.invariant.place
