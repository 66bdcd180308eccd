use Rattle.std.proofs.Common.{◌<◌, ◌≤◌, length, arith}
use Rattle.som_order.specs.Names.{texts}
use Rattle.som_verify_classes.specs.Modules.{classes_of}
use Rattle.som_verify_classes.specs.Places.{with_kernel}
use Rattle.som_verify_classes.proofs.DeclaredClasses.{known_number}
use Rattle.som_verify_rules.proofs.SharedRows.{names_grow, names_end}
use Rattle.som_verify_rules.proofs.shared.all_introduced.Goals as goal

pub entries_at-requires-clause-place : goal.entries_at-requires-clause-place
entries_at-requires-clause-place c = omega (arith, c.loop-place-test.true, known_number c.args.classes.now)

pub loop-place-preserved : goal.loop-place-preserved
loop-place-preserved c =
    let cs = with_kernel (classes_of c.args.classes.now) in
    let lt : c.loop-place.place < length cs = omega (arith, c.loop-place-test.true, known_number c.args.classes.now) in
    names_grow cs c.loop-place.place (texts c.loop-place.names.items) (texts c.add_introduced.new.names.items) c.entries_at.result.now lt c.entries_at.ensures c.in_ok-add_introduced.ensures c.loop-place.invariant

pub returns : goal.returns
returns c =
    let cs = with_kernel (classes_of c.args.classes.now) in
    let le : length cs ≤ c.loop-place.place = omega (arith, c.loop-place-test.false, known_number c.args.classes.now) in
    names_end cs c.loop-place.place (texts c.loop-place.names.items) le c.loop-place.invariant
