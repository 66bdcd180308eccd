use Rattle.std.proofs.Common.{arith, sym, subst, take, ◌∷◌, [], ◌++◌, ◌∙◌, ap}
use Rattle.som_class_ids.specs.Names.{AreNoted, face_names}
use Rattle.som_class_ids.proofs.Noting.{all_noted, names_next, short}
use Rattle.som_class_ids.proofs.names.names_of.Goals as goal

pub note-requires : goal.note-requires
note-requires c = omega (arith, c.loop-class.invariant.long, short c.args.classes.now c.loop-class.class-index, c.requires)

pub loop-class-preserved : goal.loop-class-preserved
loop-class-preserved c =
    let next = names_next c.args.classes.now c.loop-class.class-index c.class-item.result c.loop-class-test.true c.class-item.is in
    subst (λ l. AreNoted l c.note.new.self) (ap (λ n. take c.loop-class.class-index (face_names c.args.classes.now) ++ n ∷ []) c.in_ok-copy.ensures ∙ sym next)
    (c.in_ok-note.ensures (take c.loop-class.class-index (face_names c.args.classes.now)) c.loop-class.invariant)

pub returns : goal.returns
returns c = all_noted c.args.classes.now c.loop-class.class-index c.loop-class.names c.loop-class-test.false c.loop-class.invariant
