use Rattle.std.proofs.Common.{◌≡◌, refl, sym, arith}
use Rattle.som_objects.proofs.Putting.{put_slot}
use Rattle.som_objects.proofs.store.put.Goals as goal

pub returns-clause-put : goal.returns-clause-put
returns-clause-put c =
    let same : c.in-Some.slot.now.serial ≡ c.args.object.now.serial = grind (arith, c.if-slot-object.false) in
    put_slot _ _ c.in-Some.slot.now _ _ _ (sym c.in-Some.ensures.value) same refl refl refl
