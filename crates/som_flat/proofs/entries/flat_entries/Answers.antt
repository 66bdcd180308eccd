use Rattle.std.proofs.Common.{List, ◌∙◌, map, slice_get, sym, ap, arith}
use Rattle.som_model.specs.declared.class.Entry.{Entry}
use Rattle.som_verify_classes.specs.Places.{key_at}
use Rattle.som_compat_levels.specs.Standing.{classes_of}
use Rattle.som_compat_levels.proofs.Keyed.{long_classes}
use Rattle.som_compat_levels.proofs.Lists.{item_get}
use Rattle.som_flat.specs.FlatFaces.{flat_entry_of}
use Rattle.som_flat.proofs.Flattened.{owner_is, owner_stands}
use Rattle.som_flat.proofs.Lists.{made_more}
use Rattle.som_flat.proofs.entries.flat_entries.Goals as goal

pub flat_entry-requires : goal.flat_entry-requires
flat_entry-requires c =
    let cs = classes_of c.args.classes.now in
    let long = long_classes c.args.classes.now in
    let entry = c.index-entries-number.result in
    let slot = c.slot_at-owner.result in
    let at = ap (λ (z : List Entry). slice_get z c.loop-number.number) (sym c.entries_at-entries.ensures) ∙ item_get c.entries_at-entries.result.now c.loop-number.number entry c.loop-number-test.true c.index-entries-number.is in
    let owner = owner_is cs c.args.owners.now c.args.place c.requires.owners (omega (arith, long, c.requires.place)) c.loop-number.number entry slot at (c.slot_at-owner.ensures slot) in
    let stands = owner_stands cs c.args.owners.now c.args.place c.requires.owners (omega (arith, long, c.requires.place)) entry slot owner in
    omega (arith, long, stands)

pub loop-number-preserved : goal.loop-number-preserved
loop-number-preserved c =
    let cs = classes_of c.args.classes.now in
    let long = long_classes c.args.classes.now in
    let entries = c.entries_at-entries.result.now in
    let entry = c.index-entries-number.result in
    let slot = c.slot_at-owner.result in
    let made = flat_entry_of cs (key_at cs c.args.place) in
    let at = ap (λ (z : List Entry). slice_get z c.loop-number.number) (sym c.entries_at-entries.ensures) ∙ item_get entries c.loop-number.number entry c.loop-number-test.true c.index-entries-number.is in
    let owner = owner_is cs c.args.owners.now c.args.place c.requires.owners (omega (arith, long, c.requires.place)) c.loop-number.number entry slot at (c.slot_at-owner.ensures slot) in
    rw c.in_ok-push.ensures.ok (
    made_more made entries c.loop-number.copies c.in_ok-flat_entry.field-0 c.loop-number.number entry (map made entries) c.loop-number-test.true
    (c.in_ok-flat_entry.ensures c.args.place owner ∙ ap made c.index-entries-number.is) c.loop-number.invariant)
