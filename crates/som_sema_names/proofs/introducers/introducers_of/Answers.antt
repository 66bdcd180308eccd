use Rattle.std.proofs.Common.{◌≤◌, arith, length}
use Rattle.som_order.specs.Names.{texts}
use Rattle.som_verify_classes.specs.Modules.{classes_of}
use Rattle.som_verify_classes.specs.Places.{with_kernel}
use Rattle.som_verify_classes.proofs.DeclaredClasses.{known_number}
use Rattle.som_sema_names.specs.Introducers.{at_first}
use Rattle.som_sema_names.proofs.Seen.{class_more, gathered}
use Rattle.som_sema_names.proofs.introducers.introducers_of.Goals as goal

pub loop-place-preserved : goal.loop-place-preserved
loop-place-preserved c =
    let cs = with_kernel (classes_of c.args.classes.now) in
    class_more cs c.loop-place.place c.entries_at-entries.result.now (texts c.add_introduced.new.names.keys) c.add_introduced.new.places.items c.entries_at-entries.ensures
    (c.in_ok-add_introduced.ensures.seen (at_first cs c.loop-place.place) c.loop-place.invariant)

pub returns : goal.returns
returns c =
    let cs = with_kernel (classes_of c.args.classes.now) in
    let le : length cs ≤ c.loop-place.place = omega (arith, c.loop-place-test.false, known_number c.args.classes.now) in
    let within : c.loop-place.place ≤ length cs = omega (arith, c.loop-place.auto.place-end, known_number c.args.classes.now) in
    gathered cs c.loop-place.place (texts c.loop-place.names.keys) c.loop-place.places.items le within c.loop-place.invariant
