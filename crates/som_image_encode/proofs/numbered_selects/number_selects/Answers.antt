use Rattle.std.proofs.Common.{refl, sym, ◌∙◌, arith}
use Rattle.som_model.specs.declared.class.ClassDecl.{ClassDecl}
use Rattle.som_image_decode.proofs.Places.{item_all}
use Rattle.som_image_encode.specs.NumberedClasses.{ClassKnown}
use Rattle.som_image_encode.proofs.SelectsSoFar.{has_some, has_none, none_more, some_more}
use Rattle.som_image_encode.proofs.numbered_selects.number_selects.Goals.{then-not-is_empty+in_ok-number_own+in_ok-push, else-not-is_empty}
use Rattle.som_image_encode.proofs.numbered_selects.number_selects.Goals as goal

pub number_own-requires-clause-known : goal.number_own-requires-clause-known
number_own-requires-clause-known c =
    let known : ClassKnown c.args.directory.now c.class-item.result =
    item_all (λ (x : ClassDecl). ClassKnown c.args.directory.now x) c.args.classes.now c.args.classes.now c.loop-class.class-index c.class-item.result refl c.loop-class-test.true c.class-item.is c.requires.known
    in known.selects

pub loop-class-preserved : goal.loop-class-preserved
loop-class-preserved c =
    let d = c.args.directory.now in
    let i = c.loop-class.class-index in
    let class = c.class-item.result in
    let so_far = c.loop-class.invariant in (
      elim c.if-not-is_empty.branch [
        | then-not-is_empty+in_ok-number_own+in_ok-push w ↦
            w.numbered-is ∙ w.in_ok-push.ensures.ok
            ∙ some_more d c.args.first i c.loop-class.number c.args.classes.now class c.loop-class.numbered c.loop-class-test.true c.class-item.is so_far.1 so_far.0
            (has_some class (sym c.is_empty.ensures ∙ w.if-not-is_empty.true)) w.in_ok-number_own.field-0 w.in_ok-number_own.ensures
        | else-not-is_empty w ↦
            w.numbered-is
            ∙ none_more d c.args.first i c.loop-class.number c.args.classes.now class c.loop-class.numbered c.loop-class-test.true c.class-item.is so_far.1 so_far.0
            (has_none class (sym c.is_empty.ensures ∙ w.if-not-is_empty.false))
      ],
      omega (arith, so_far.1),
    )
