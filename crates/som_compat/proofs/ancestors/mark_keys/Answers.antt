use Rattle.std.proofs.Common.{◌<◌, inl, inr, true, length, arith}
use Rattle.std.proofs.lemmas.List.{length-set}
use Rattle.som_compat.specs.Views.{classes_of}
use Rattle.som_compat.proofs.Marking.{marked_set}
use Rattle.som_compat.proofs.Placed.{mem_at}
use Rattle.som_compat.proofs.Viewing.{known_of}
use Rattle.som_compat.proofs.Fronts.{keys_more}
use Rattle.som_compat.proofs.ancestors.mark_keys.Goals as goal

pub known_place-requires : goal.known_place-requires
known_place-requires c = c.requires.known c.key-item.result (mem_at c.args.keys.now c.loop-key.key-index c.key-item.result c.loop-key-test.true c.key-item.is)

pub loop-key-preserved : goal.loop-key-preserved
loop-key-preserved c =
    let fs = c.args.lookup.now.faces.now in
    let i = c.loop-key.invariant in
    let p = c.known_place.result in
    let few = c.requires.conforms.classes in
    let below = c.known_place.ensures.below in
    let long = i.long in
    let was = c.requires.long in
    let lm : c.known_place.result < length c.loop-key.marks = omega (arith, few, below, long, was) in
    let h = length-set c.loop-key.marks c.known_place.result true in
    record {
      within = λ q lq. keys_more (classes_of fs) (known_of fs c.requires.conforms) c.loop-key.marks c.args.marks.now c.args.keys.now c.loop-key.key-index c.known_place.result q c.key-item.result
          lm c.known_place.ensures.within lq c.known_place.ensures.is c.loop-key-test.true c.key-item.is (i.within q lq);
      past = λ q ge m. elim ((marked_set c.loop-key.marks c.known_place.result q lm).0 m) [ inl n ↦ i.past q ge n | inr e ↦ (let w = c.known_place.ensures.within in absurd (omega (arith, e, w, ge))) ];
      long = omega (arith, h, long);
    }
