use Rattle.std.proofs.Common.{◌<◌, ◌≤◌, length, arith}
use Rattle.som_order.specs.Names.{texts}
use Rattle.som_verify_classes.specs.Modules.{classes_of}
use Rattle.som_verify_classes.specs.Places.{with_kernel}
use Rattle.som_verify_classes.proofs.DeclaredClasses.{known_number}
use Rattle.som_verify_rules.proofs.SharedRows.{rows_grow, rows_end}
use Rattle.som_verify_rules.proofs.shared.rows_of_shared.Goals as goal

pub entries_at-requires-clause-place : goal.entries_at-requires-clause-place
entries_at-requires-clause-place c = omega (arith, c.loop-place-test.true, known_number c.args.classes.now)

pub loop-place-preserved : goal.loop-place-preserved
loop-place-preserved c =
    let cs = with_kernel (classes_of c.args.classes.now) in
    let lt : c.loop-place.place < length cs = omega (arith, c.loop-place-test.true, known_number c.args.classes.now) in
    rows_grow (texts c.args.shared.now.keys) cs c.loop-place.place c.loop-place.rows.items c.push.new.self.items c.in_ok-shared_of.field-0 c.entries_at.result.now lt c.entries_at.ensures c.in_ok-shared_of.ensures c.in_ok-push.ensures.items c.loop-place.invariant

pub returns : goal.returns
returns c =
    let cs = with_kernel (classes_of c.args.classes.now) in
    let le : length cs ≤ c.loop-place.place = omega (arith, c.loop-place-test.false, known_number c.args.classes.now) in
    record { shared = texts c.args.shared.now.keys; twice = c.requires.shared.1.twice; by = rows_end (texts c.args.shared.now.keys) cs c.loop-place.place c.loop-place.rows.items le c.loop-place.invariant }
