use Rattle.std.proofs.Common.{sym, refl}
use Rattle.som_objects.specs.Slots.{as_live}
use Rattle.som_objects.proofs.Found.{in_slot, no_slot}
use Rattle.som_objects.proofs.store.ObjectStore.class_and_cells.Goals as goal

pub returns-in-Some-clause-object : goal.returns-in-Some-clause-object
returns-in-Some-clause-object c =
    let w = in_slot c.self.inside.slots.slots c.self.inside.made c.self.invariant c.args.object.now (rw c.self.view_is c.requires) c.in-Some.slot.now (sym c.in-Some.ensures) in
    (as_live c.args.object.now.key c.in-Some.slot.now, rw (← c.self.view_is) w.live, refl, sym c.as_slice.ensures.value)

pub returns-in-None-clause-gone : goal.returns-in-None-clause-gone
returns-in-None-clause-gone c = rw (← c.self.view_is) (no_slot c.self.inside.slots.slots c.self.inside.made c.self.invariant c.args.object.now (rw c.self.view_is c.requires) (sym c.in-None.ensures))
