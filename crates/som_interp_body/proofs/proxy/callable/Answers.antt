use Rattle.std.proofs.Common.{sym, ap, subst, ◌∙◌}
use Rattle.som_semantics.specs.State.{receiver}
use Rattle.som_values.specs.Shown.{IsSeen, shown, shown_ref}
use Rattle.som_values.specs.Stored.{IsKept}
use Rattle.som_interp_body.proofs.Building.{last_top}
use Rattle.som_interp_body.proofs.proxy.callable.Goals as goal

pub receiver-requires : goal.receiver-requires
receiver-requires c = subst (IsKept c.args.objects.now) (sym (last_top c.args.operands.now.items c.deref.result.now c.in-Some.cell.now c.deref.ensures.value c.in-Some.ensures.item.3.0 c.in-Some.ensures.value)) c.requires

pub returns-in-Ok : goal.returns-in-Ok
returns-in-Ok c s h holds seen =
    let e = last_top c.args.operands.now.items c.deref.result.now c.in-Some.cell.now c.deref.ensures.value c.in-Some.ensures.item.3.0 c.in-Some.ensures.value in
    (shown_ref s c.in-Ok.field-0, ap (λ x. receiver h (shown s x)) (sym e) ∙ sym (c.in-Ok.ensures.means s h holds (subst (IsSeen s) (sym e) seen)))

pub returns-in-Err : goal.returns-in-Err
returns-in-Err c s h holds seen =
    let e = last_top c.args.operands.now.items c.deref.result.now c.in-Some.cell.now c.deref.ensures.value c.in-Some.ensures.item.3.0 c.in-Some.ensures.value in
    ap (λ x. receiver h (shown s x)) (sym e) ∙ sym (c.in-Err.ensures.means s h holds (subst (IsSeen s) (sym e) seen))
