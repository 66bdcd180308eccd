use Rattle.std.proofs.lemmas.Result.{err_from_is_err_and}
use Rattle.som_order.specs.Names.{texts}
use Rattle.som_verify_classes.specs.Modules.{classes_of}
use Rattle.som_verify_classes.proofs.Conformity.{none_or}
use Rattle.som_sema_scope.specs.ClassNames.{module_in_scope}
use Rattle.som_sema_drafts.specs.Drafts.{plain_drafts}
use Rattle.som_sema.proofs.Composing.{all_stand, lists_are}
use Rattle.som_sema.proofs.Telling.{later}
use Rattle.som_sema.proofs.rules.named_drafts_hold.Goals as goal

pub ancestor_lists-requires-clause-stand : goal.ancestor_lists-requires-clause-stand
ancestor_lists-requires-clause-stand c =
    all_stand (module_in_scope c.args.scope.now) c.args.scope.now.module c.args.classes.now c.args.base (plain_drafts c.args.drafts.now) c.requires.conforms c.requires.drafted c.requires.own c.in_ok-own_bases_stand.ensures

pub members_hold-requires-clause-lists : goal.members_hold-requires-clause-lists
members_hold-requires-clause-lists c =
    lists_are (classes_of c.args.classes.now) (texts c.args.table.now.keys) c.in_ok-lists.lists.items c.as_slice.result.now c.requires.table c.in_ok-lists.ensures c.as_slice.ensures.value

pub returns-in_err-members_hold-clause-tells : goal.returns-in_err-members_hold-clause-tells
returns-in_err-members_hold-clause-tells c =
    let p = err_from_is_err_and c.from_residual-in_err-members_hold.result c.from_residual-in_err-members_hold.ensures.1 in
    rw (p.1, p.2) (later _ _ _ c.in_ok-own_bases_stand.ensures (later _ _ _ c.in_ok-own_parents_differ.ensures c.in_err-members_hold.ensures))

pub returns-clause-tells : goal.returns-clause-tells
returns-clause-tells c = none_or _ _ c.in_ok-own_bases_stand.ensures (none_or _ _ c.in_ok-own_parents_differ.ensures c.in_ok-members_hold.ensures)

pub returns-clause-stand : goal.returns-clause-stand
returns-clause-stand c =
    all_stand (module_in_scope c.args.scope.now) c.args.scope.now.module c.args.classes.now c.args.base (plain_drafts c.args.drafts.now) c.requires.conforms c.requires.drafted c.requires.own c.in_ok-own_bases_stand.ensures
