use Rattle.std.proofs.Common.{List, IsSome, subst, sym, arith}
use Rattle.som_model.specs.declared.class.Entry.{Entry}
use Rattle.som_model.specs.Class.{entry_of}
use Rattle.som_compat_levels.specs.Owners.{IsEntryAt}
use Rattle.som_compat_levels.specs.Standing.{classes_of}
use Rattle.som_compat_levels.proofs.Keyed.{long_classes}
use Rattle.som_compat_levels.proofs.Listing.{among_at}
use Rattle.som_compat_levels.proofs.Owning.{follow, slot_there, there_is}
use Rattle.som_verify_classes.specs.Plainly.{IsAmong}
use Rattle.som_compat_levels.proofs.owners.moved_slot.Goals as goal

pub known_place-class-requires : goal.known_place-class-requires
known_place-class-requires c =
    let cs = classes_of c.args.sorted.now.classes.now in
    let long = long_classes c.args.sorted.now.classes.now in
    let t = c.requires.target in
    subst (IsAmong cs) t.is (among_at cs t.target (omega (arith, long, t.before, c.requires.place)))

pub known_entry-number-requires : goal.known_entry-number-requires
known_entry-number-requires c =
    let cs = classes_of c.args.sorted.now.classes.now in
    let long = long_classes c.args.sorted.now.classes.now in
    subst (λ (z : List Entry). IsSome (entry_of z c.args.name.now)) (sym c.entries_at-entries.ensures)
    (there_is cs c.requires.stand c.args.place c.args.name.now c.args.to.now c.requires.target (omega (arith, long, c.requires.place)) c.known_place-class.result (omega (arith, long, c.known_place-class.ensures.below)) c.known_place-class.ensures.is)

pub slot_at-requires-clause-class : goal.slot_at-requires-clause-class
slot_at-requires-clause-class c =
    let cs = classes_of c.args.sorted.now.classes.now in
    let long = long_classes c.args.sorted.now.classes.now in
    (slot_there cs c.requires.stand c.args.place c.args.name.now c.args.to.now c.requires.target (omega (arith, long, c.requires.place)) c.known_place-class.result (omega (arith, long, c.known_place-class.ensures.below)) c.known_place-class.ensures.is
    c.args.known.now c.known_entry-number.result c.requires.known (subst (λ (z : List Entry). IsEntryAt z c.args.name.now c.known_entry-number.result) c.entries_at-entries.ensures c.known_entry-number.ensures)).0

pub slot_at-requires-clause-number : goal.slot_at-requires-clause-number
slot_at-requires-clause-number c =
    let cs = classes_of c.args.sorted.now.classes.now in
    let long = long_classes c.args.sorted.now.classes.now in
    (slot_there cs c.requires.stand c.args.place c.args.name.now c.args.to.now c.requires.target (omega (arith, long, c.requires.place)) c.known_place-class.result (omega (arith, long, c.known_place-class.ensures.below)) c.known_place-class.ensures.is
    c.args.known.now c.known_entry-number.result c.requires.known (subst (λ (z : List Entry). IsEntryAt z c.args.name.now c.known_entry-number.result) c.entries_at-entries.ensures c.known_entry-number.ensures)).1

pub returns : goal.returns
returns c =
    let cs = classes_of c.args.sorted.now.classes.now in
    let long = long_classes c.args.sorted.now.classes.now in
    follow cs c.requires.stand c.args.place c.args.name.now c.args.to.now c.requires.target (omega (arith, long, c.requires.place)) c.known_place-class.result (omega (arith, long, c.known_place-class.ensures.below)) c.known_place-class.ensures.is
    c.args.known.now c.known_entry-number.result c.slot_at.result c.requires.known (subst (λ (z : List Entry). IsEntryAt z c.args.name.now c.known_entry-number.result) c.entries_at-entries.ensures c.known_entry-number.ensures) c.slot_at.ensures
