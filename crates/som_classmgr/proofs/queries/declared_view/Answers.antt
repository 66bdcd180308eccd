use Rattle.std.proofs.Common.{◌∙◌, sym}
use Rattle.som_class_ids.specs.Classes.{class_of}
use Rattle.som_classmgr.proofs.Reading.{declared_key}
use Rattle.som_classmgr.proofs.queries.declared_view.Goals as goal

pub unreachable-requires : goal.unreachable-requires
unreachable-requires c =
    let d = declared_key c.args.classes.now c.count-count.ensures.loaded c.args.class (class_of c.declared.result.now) c.declared.ensures.class in
    c.in_default.not-Named d.module_ d.name (sym c.declared.ensures.key ∙ d.is)
