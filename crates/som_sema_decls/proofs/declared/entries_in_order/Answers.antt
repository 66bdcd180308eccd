use Rattle.std.proofs.Common.{ap, ◌∙◌}
use Rattle.som_model.specs.Class.{entry_of}
use Rattle.som_verify_classes.specs.Modules.{classes_of}
use Rattle.som_verify_classes.specs.Places.{key_at, with_kernel}
use Rattle.som_sema_decls.specs.Finished.{entry_for, entry_or_moved, introducer}
use Rattle.som_sema_scope.proofs.Going.{map_end, map_next}
use Rattle.som_sema_decls.proofs.declared.entries_in_order.Goals as goal

pub loop-name-preserved : goal.loop-name-preserved
loop-name-preserved c =
    let cs = with_kernel (classes_of c.args.classes.now) in
    let k = key_at cs c.args.place in
    map_next (entry_for cs k c.args.own.now) c.args.order.now c.loop-name.name-index _ _ _ _ _ c.loop-name-test.true c.in_ok-push.ensures.ok
    (c.in_ok-found_entry.ensures
    ∙ ap (entry_or_moved (introducer cs k c.name-item.result) c.name-item.result) (c.entry_named-found.ensures ∙ ap (entry_of c.args.own.now) c.as_slice.ensures)
    ∙ ap (entry_for cs k c.args.own.now) c.name-item.is) c.loop-name.invariant

pub returns : goal.returns
returns c =
    let f = entry_for (with_kernel (classes_of c.args.classes.now)) (key_at (with_kernel (classes_of c.args.classes.now)) c.args.place) c.args.own.now in
    map_end f c.args.order.now c.loop-name.name-index _ _ c.loop-name-test.false c.loop-name.invariant
