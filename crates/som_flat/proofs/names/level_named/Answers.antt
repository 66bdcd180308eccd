use Rattle.std.proofs.Common.{sym, ap, ◌∙◌}
use Rattle.std.specs.Str.{bytes_eq}
use Rattle.som_flat.proofs.Naming.{level_found, name_later}
use Rattle.som_flat.proofs.names.level_named.Goals as goal

pub returns-then-is : goal.returns-then-is
returns-then-is c _ =
    level_found c.args.classes.now c.loop-class.class-index c.class-item.result c.loop-class-test.true c.class-item.is c.args.name.now c.level_of.result
    (ap (bytes_eq c.class-item.result.face.now.name) (sym c.as_slice.ensures) ∙ sym c.is.ensures ∙ c.if-is.true) c.level_of.ensures

pub loop-class-preserved : goal.loop-class-preserved
loop-class-preserved c m =
    name_later c.args.classes.now c.loop-class.class-index c.class-item.result c.loop-class-test.true c.class-item.is c.args.name.now
    (ap (bytes_eq c.class-item.result.face.now.name) (sym c.as_slice.ensures) ∙ sym c.is.ensures ∙ c.if-is.false) (c.loop-class.invariant m)
