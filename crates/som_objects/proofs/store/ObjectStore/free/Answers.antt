use Rattle.std.proofs.Common.{◌≡◌, ◌∙◌, sym, false}
use Rattle.som_objects.specs.Slots.{as_live, slot_at}
use Rattle.som_objects.proofs.Found.{is_held, not_held, in_slot, no_slot}
use Rattle.som_objects.proofs.Changing.{freed, gone_store}
use Rattle.som_objects.proofs.Known.{keeps_freed}
use Rattle.som_objects.proofs.store.ObjectStore.free.Goals as goal

pub returns-then-not-is_live-clause-gone : goal.returns-then-not-is_live-clause-gone
returns-then-not-is_live-clause-gone c =
    let e : c.is_live.result ≡ false = c.if-not-is_live.true in
    rw (← c.self.view_is) (no_slot c.self.inside.slots.slots c.self.inside.made c.self.invariant c.args.object.now (rw c.self.view_is c.requires) (not_held _ (sym c.is_live.ensures ∙ e)))

pub returns-clause-freed : goal.returns-clause-freed
returns-clause-freed c =
    let held = is_held (slot_at c.self.inside.slots.slots c.args.object.now.key) c.args.object.now.serial c.remove-slot.result c.remove-slot.ensures.value (sym c.is_live.ensures ∙ c.if-not-is_live.false) in
    let w = in_slot c.self.inside.slots.slots c.self.inside.made c.self.invariant c.args.object.now (rw c.self.view_is c.requires) c.remove-slot.result held in
    let sb = gone_store c.self.inside.slots.slots c.remove-slot.new.self.slots c.self.inside.made c.args.object.now.key c.self.invariant c.remove-slot.ensures.updates.changed (λ j ne. c.remove-slot.ensures.updates.others j ne) in
    let f = freed c.self.inside.slots.slots c.remove-slot.new.self.slots c.self.inside.made c.args.object.now.key c.remove-slot.result c.self.invariant sb c.remove-slot.ensures.value c.remove-slot.ensures.updates.changed (λ j ne. c.remove-slot.ensures.updates.others j ne) in
    (as_live c.args.object.now.key c.remove-slot.result, rw (← c.self.view_is) w.live, rw (← c.self.view_is, ← w.serial) f)

pub returns-clause-keeps : goal.returns-clause-keeps
returns-clause-keeps c = keeps_freed _ _ c.args.object.now (returns-clause-freed c)
