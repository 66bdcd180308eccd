use Rattle.std.proofs.Common.{codes, [], ◌∷◌, refl}
use Rattle.som_order.specs.Names.{texts}
use Rattle.som_verify_classes.proofs.ClassTable.{name_added}
use Rattle.som_verify_classes.proofs.table.note_kernel.Goals as goal

pub returns : goal.returns
returns c =
    let a = name_added (texts c.args.names.now.keys) (texts c.note_name.new.seen.keys) [] (codes "SOMObject") c.in_ok-_first._first c.requires refl c.in_ok-_first.ensures.is_new c.in_ok-_first.ensures.keys in
    let b = name_added (texts c.note_name.new.seen.keys) (texts c.note_name-2.new.seen.keys) (codes "SOMObject" ∷ []) (codes "SOMClass") c.in_ok-_second._second a refl c.in_ok-_second.ensures.is_new c.in_ok-_second.ensures.keys in
    let d = name_added (texts c.note_name-2.new.seen.keys) (texts c.note_name-3.new.seen.keys) (codes "SOMObject" ∷ codes "SOMClass" ∷ []) (codes "SOMClassMgr") c.in_ok-_third._third b refl c.in_ok-_third.ensures.is_new c.in_ok-_third.ensures.keys in
    name_added (texts c.note_name-3.new.seen.keys) (texts c.note_name-4.new.seen.keys) (codes "SOMObject" ∷ codes "SOMClass" ∷ codes "SOMClassMgr" ∷ []) (codes "SOMMBeforeAfter") c.in_ok-_fourth._fourth d refl c.in_ok-_fourth.ensures.is_new c.in_ok-_fourth.ensures.keys
