use Rattle.std.proofs.Common.{◌<◌, [], length, slice_index_or, sym, subst}
use Rattle.som_verify_classes.specs.Modules.{classes_of}
use Rattle.som_verify_classes.specs.Places.{with_kernel}
use Rattle.som_sema_scope.specs.ClassNames.{key_of, module_in_scope}
use Rattle.som_sema.proofs.Composing.{table_lists, table_names}
use Rattle.som_sema.proofs.Inheriting.{at_low, not_taken, taken_so}
use Rattle.som_sema.proofs.inherited.may_take.Goals as goal

pub introducer_place-at-requires : goal.introducer_place-at-requires
introducer_place-at-requires c = (with_kernel (classes_of c.args.classes.now), (slice_index_or c.args.ancestors.now.lists.items c.args.place [], c.requires.known))

pub descends_from-requires-clause-table : goal.descends_from-requires-clause-table
descends_from-requires-clause-table c = table_names (classes_of c.args.classes.now) c.args.ancestors.now c.requires.ancestors

pub descends_from-requires-clause-lists : goal.descends_from-requires-clause-lists
descends_from-requires-clause-lists c = table_lists (classes_of c.args.classes.now) c.args.ancestors.now c.as_slice-lists.result.now c.requires.ancestors c.as_slice-lists.ensures.value

pub descends_from-requires-clause-ancestor : goal.descends_from-requires-clause-ancestor
descends_from-requires-clause-ancestor c =
    subst (λ n. n < length (with_kernel (classes_of c.args.classes.now))) (sym (c.introducer_place-at.ensures _ _ c.requires.known))
    (at_low (classes_of c.args.classes.now) c.args.ancestors.now c.args.place c.args.above.now c.requires c.args.name.now)

pub returns-then-at-place : goal.returns-then-at-place
returns-then-at-place c =
    not_taken (classes_of c.args.classes.now) c.args.ancestors.now c.args.place c.args.above.now c.requires c.args.name.now c.introducer_place-at.result
    (key_of (module_in_scope c.args.scope.now) c.args.parent.now) (c.introducer_place-at.ensures _ _ c.requires.known) c.if-at-place.true

pub returns : goal.returns
returns c =
    taken_so (classes_of c.args.classes.now) c.args.ancestors.now c.args.place c.args.above.now c.requires c.args.name.now c.descends_from.result c.introducer_place-at.result
    (key_of (module_in_scope c.args.scope.now) c.args.parent.now) (c.introducer_place-at.ensures _ _ c.requires.known) c.if-at-place.false c.descends_from.ensures
