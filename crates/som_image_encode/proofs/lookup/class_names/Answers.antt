use Rattle.std.proofs.Common.{◌<◌, List, length, get_or, ap, subst, ◌∙◌}
use Rattle.som_model.specs.declared.key.ClassKey.{ClassKey}
use Rattle.som_order.specs.Names.{texts}
use Rattle.som_image_encode.specs.Numbering.{IsDeclared}
use Rattle.som_image_decode.proofs.Places.{item_all}
use Rattle.som_image_encode.proofs.Numbering.{names_more}
use Rattle.som_image_encode.proofs.lookup.class_names.Goals as goal

pub name_of-requires : goal.name_of-requires
name_of-requires c =
    item_all IsDeclared c.args.directory.now.keys c.as_slice-key-items.result.now c.loop-key.key-index c.key-item.result
    c.as_slice-key-items.ensures c.loop-key-test.true c.key-item.is c.requires.declared

pub loop-key-preserved : goal.loop-key-preserved
loop-key-preserved c =
    let same = c.as_slice-key-items.ensures in
    names_more c.args.directory.now.keys c.loop-key.key-index c.key-item.result c.name_of.result.now (texts c.loop-key.names.keys) (texts c.note_name.new.seen.keys) c.in_ok-_is_new._is_new
    (subst (λ (l : List ClassKey). c.loop-key.key-index < length l) same c.loop-key-test.true)
    (c.key-item.is ∙ ap (λ (l : List ClassKey). get_or l c.loop-key.key-index c.key-item.result) same)
    c.name_of.ensures c.in_ok-_is_new.ensures.is_new c.in_ok-_is_new.ensures.keys c.loop-key.invariant
