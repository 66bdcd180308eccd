use Rattle.std.proofs.Common.{sym}
use Rattle.som_objects.specs.Slots.{as_live}
use Rattle.som_objects.proofs.Found.{in_slot, no_slot}
use Rattle.som_objects.proofs.store.ObjectStore.read.Goals as goal

pub cell_at-requires : goal.cell_at-requires
cell_at-requires c =
    let w = in_slot c.self.inside.slots.slots c.self.inside.made c.self.invariant c.args.object.now (rw c.self.view_is c.requires.known) c.in-Some.slot.now (sym c.in-Some.ensures) in
    c.requires.place (as_live c.args.object.now.key c.in-Some.slot.now) (rw (← c.self.view_is) w.live)

pub returns-in-Some-clause-cell : goal.returns-in-Some-clause-cell
returns-in-Some-clause-cell c =
    let w = in_slot c.self.inside.slots.slots c.self.inside.made c.self.invariant c.args.object.now (rw c.self.view_is c.requires.known) c.in-Some.slot.now (sym c.in-Some.ensures) in
    (as_live c.args.object.now.key c.in-Some.slot.now, rw (← c.self.view_is) w.live, c.cell_at.ensures)

pub returns-in-None-clause-gone : goal.returns-in-None-clause-gone
returns-in-None-clause-gone c = rw (← c.self.view_is) (no_slot c.self.inside.slots.slots c.self.inside.made c.self.invariant c.args.object.now (rw c.self.view_is c.requires.known) (sym c.in-None.ensures))
