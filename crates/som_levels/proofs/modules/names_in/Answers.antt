use Rattle.std.proofs.Common.{◌<◌, ◌∙◌, List, ap, get_or, length, subst}
use Rattle.som_model.specs.declared.class.ClassFace.{ClassFace}
use Rattle.som_order.specs.Names.{texts}
use Rattle.som_levels.specs.Flat.{names_of}
use Rattle.som_levels.proofs.Sizes.{item_name, name_new}
use Rattle.som_levels.proofs.modules.names_in.Goals as goal

pub loop-face-preserved : goal.loop-face-preserved
loop-face-preserved c =
    let same = c.as_slice-face-items.ensures in
    let i = c.loop-face.face-index in
    let low : i < length c.args.base.now.classes = subst (λ (l : List ClassFace). i < length l) same c.loop-face-test.true in
    let item = item_name c.args.base.now.classes i c.face-item.result low (c.face-item.is ∙ ap (λ (l : List ClassFace). get_or l i c.face-item.result) same) in
    name_new (names_of c.args.base.now) i c.as_slice.result.now (texts c.loop-face.names.keys) (texts c.note_name.new.seen.keys) c.in_ok-_is_new._is_new c.requires item.0
    (rw c.as_slice.ensures item.1) c.loop-face.invariant c.in_ok-_is_new.ensures.is_new c.in_ok-_is_new.ensures.keys
