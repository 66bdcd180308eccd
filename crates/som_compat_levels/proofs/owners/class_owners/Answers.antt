use Rattle.std.proofs.Common.{◌≡◌, ◌∙◌, List, length, slice_get, sym, ap, arith}
use Rattle.som_model.specs.declared.class.Entry.{Entry}
use Rattle.som_verify_classes.specs.Places.{face_at}
use Rattle.som_compat_levels.specs.Standing.{classes_of}
use Rattle.som_compat_levels.proofs.Lists.{item_get}
use Rattle.som_compat_levels.proofs.Owning.{all_owned, next_owner}
use Rattle.som_compat_levels.proofs.owners.class_owners.Goals as goal

pub owner_slot-requires-clause-entry : goal.owner_slot-requires-clause-entry
owner_slot-requires-clause-entry c =
    let at : c.len-number.result ≡ c.loop-entry.entry-index = c.len-number.ensures ∙ c.loop-entry.invariant.long in
    ap (slice_get (face_at (classes_of c.args.sorted.now.classes.now) c.args.place).entries) at
    ∙ ap (λ (z : List Entry). slice_get z c.loop-entry.entry-index) (sym c.entries_at-entry-items.ensures)
    ∙ item_get c.entries_at-entry-items.result.now c.loop-entry.entry-index c.entry-item.result c.loop-entry-test.true c.entry-item.is

pub loop-entry-preserved : goal.loop-entry-preserved
loop-entry-preserved c = rw c.in_ok-push.ensures.ok (
    next_owner (classes_of c.args.sorted.now.classes.now) c.args.place c.loop-entry.entry-index c.loop-entry.slots c.owner_slot.result c.entry-item.result
    (ap (λ (z : List Entry). slice_get z c.loop-entry.entry-index) (sym c.entries_at-entry-items.ensures)
    ∙ item_get c.entries_at-entry-items.result.now c.loop-entry.entry-index c.entry-item.result c.loop-entry-test.true c.entry-item.is)
    c.owner_slot.ensures c.loop-entry.invariant)

pub returns : goal.returns
returns c =
    let long = ap length c.entries_at-entry-items.ensures in
    all_owned (classes_of c.args.sorted.now.classes.now) c.args.place c.loop-entry.entry-index c.loop-entry.slots (omega (arith, long, c.loop-entry-test.false, c.loop-entry.auto.entry-index-end)) c.loop-entry.invariant
