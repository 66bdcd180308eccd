use Rattle.std.proofs.Common.{arith}
use Rattle.som_compat_levels.specs.Standing.{classes_of}
use Rattle.som_compat_levels.proofs.Keyed.{long_classes}
use Rattle.som_compat_levels.proofs.Owning.{own_slot, target}
use Rattle.som_compat_levels.proofs.owners.owner_slot.Goals as goal

pub returns-in-Introduced : goal.returns-in-Introduced
returns-in-Introduced c =
    let ps = c.args.sorted.now.classes.now in
    let long = long_classes ps in
    own_slot (classes_of ps) c.requires.stand c.args.place c.args.number c.args.entry.now c.in-Introduced.name c.in-Introduced.sig c.in-Introduced.way (omega (arith, long, c.requires.place)) c.in-Introduced.is c.requires.entry

pub moved_slot-requires-clause-target : goal.moved_slot-requires-clause-target
moved_slot-requires-clause-target c =
    let ps = c.args.sorted.now.classes.now in
    let long = long_classes ps in
    target (classes_of ps) c.requires.stand c.args.place c.args.number c.args.entry.now c.in-Moved.name c.in-Moved.to (omega (arith, long, c.requires.place)) c.in-Moved.is c.requires.entry

pub returns-in-Moved : goal.returns-in-Moved
returns-in-Moved c = rw c.in-Moved.is c.moved_slot.ensures
