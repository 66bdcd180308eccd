use Rattle.std.proofs.Common.{ap, arith, length, refl, ◌∙◌, length-append, ◌∷◌, []}
use Rattle.std.proofs.lemmas.Option.{slice_get_read}
use Rattle.som_model.specs.Loads.{keys_of}
use Rattle.som_class_ids.specs.Classes.{class_of, classes_of}
use Rattle.som_class_ids.proofs.Declaring.{class_get, falls, parent_known, tells}
use Rattle.som_class_ids.proofs.Placing.{ancestors_low, none_placed}
use Rattle.som_class_ids.proofs.Numbered.{next_lower, next_placed}
use Rattle.som_class_ids.proofs.declared.declared_positions.Goals as goal

pub numbers_of-requires-clause-known : goal.numbers_of-requires-clause-known
numbers_of-requires-clause-known c = λ k m.
    let is = slice_get_read c.args.classes.now (length c.args.classes.now) c.loop-place.place c.index-classes-place.result refl c.loop-place-test.true c.index-classes-place.is in
    parent_known (classes_of c.args.classes.now) c.requires.declared c.loop-place.place (class_of c.index-classes-place.result) (class_get c.args.classes.now c.loop-place.place c.index-classes-place.result is) k (rw c.as_slice.ensures at m)

pub next_declared-requires-clause-few : goal.next_declared-requires-clause-few
next_declared-requires-clause-few c = omega (arith, ap length c.as_slice-in-loop-place.ensures, c.loop-place.invariant.each, c.loop-place-test.true, c.requires.few)

pub next_declared-requires-clause-parents : goal.next_declared-requires-clause-parents
next_declared-requires-clause-parents c = λ p m.
    let is = slice_get_read c.args.classes.now (length c.args.classes.now) c.loop-place.place c.index-classes-place.result refl c.loop-place-test.true c.index-classes-place.is in
    let lower = next_lower c.args.classes.now c.requires.declared c.loop-place.place c.index-classes-place.result is c.loop-place.positions c.loop-place.invariant.placed c.loop-place.invariant.each c.in_ok-parents.parents c.in_ok-parents.ensures.within
    (c.in_ok-parents.ensures.keys ∙ c.as_slice.ensures) p m in
    omega (arith, lower, ap length c.as_slice-in-loop-place.ensures)

pub next_declared-requires-clause-low : goal.next_declared-requires-clause-low
next_declared-requires-clause-low c = λ p a m.
    ancestors_low (classes_of c.args.classes.now) (falls (classes_of c.args.classes.now) c.requires.declared) (tells (classes_of c.args.classes.now) c.requires.declared) (keys_of (classes_of c.args.classes.now)) c.loop-place.positions c.loop-place.invariant.placed p a
    (rw c.as_slice-in-loop-place.ensures at m)

pub loop-place-preserved : goal.loop-place-preserved
loop-place-preserved c =
    let is = slice_get_read c.args.classes.now (length c.args.classes.now) c.loop-place.place c.index-classes-place.result refl c.loop-place-test.true c.index-classes-place.is in
    rw c.in_ok-push.ensures.ok (record {
      placed = next_placed c.args.classes.now c.requires.declared c.loop-place.place c.index-classes-place.result is c.loop-place.positions c.loop-place.invariant.placed c.loop-place.invariant.each c.in_ok-parents.parents c.in_ok-parents.ensures.within
          (c.in_ok-parents.ensures.keys ∙ c.as_slice.ensures) c.in_ok-position.position c.loop-place-test.true (rw c.as_slice-in-loop-place.ensures at c.in_ok-position.ensures);
      each = omega (arith, length-append c.loop-place.positions (c.in_ok-position.position ∷ []), c.loop-place.invariant.each);
    })

pub loop-place-init : goal.loop-place-init
loop-place-init c = rw c.new-positions.ensures (record { placed = none_placed (classes_of c.args.classes.now) (keys_of (classes_of c.args.classes.now)); each = refl })

pub returns-clause-each : goal.returns-clause-each
returns-clause-each c = omega (arith, c.loop-place.invariant.each, c.loop-place-test.false)
