use Rattle.std.proofs.Common.{ap, ◌∙◌}
use Rattle.som_model.specs.declared.class.ClassDecl.{ClassDecl}
use Rattle.som_verify_classes.specs.Places.{class_of_place}
use Rattle.som_elab.specs.Contexts.{among_in, classes_in}
use Rattle.som_elab_methods.specs.Texts.{given}
use Rattle.som_elab.proofs.BodyLaws.{text_told}
use Rattle.som_elab.proofs.class_bodies.text_block.Goals as goal

pub returns-in-Some : goal.returns-in-Some
returns-in-Some c = text_told (among_in c.args.context.now) (class_of_place (classes_in c.args.context.now) c.args.place) c.args.name.now c.args.sig.now (given c.args.own.now) c.in-Some.text.now c.body_block.result
    c.as_slice-class.result.now c.as_slice.result.now c.as_slice-in-Some.result.now (c.as_slice-class.ensures ∙ ap (λ (z : ClassDecl). z.face.name) c.decl_at-class.ensures) c.as_slice.ensures c.as_slice-in-Some.ensures c.in-Some.ensures c.body_block.ensures
