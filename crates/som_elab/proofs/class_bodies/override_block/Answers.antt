use Rattle.std.proofs.Common.{Ok, sym, ap, ◌∙◌}
use Rattle.som_verify_classes.specs.Places.{class_of_place}
use Rattle.som_elab.specs.Contexts.{among_in, classes_in}
use Rattle.som_elab_methods.specs.Texts.{given}
use Rattle.som_elab.proofs.BodyLaws.{method_sig_few}
use Rattle.som_elab.proofs.ClassSteps.{signed_told, unsigned_made}
use Rattle.som_elab.proofs.class_bodies.override_block.Goals as goal

pub signed_block-requires-clause-few : goal.signed_block-requires-clause-few
signed_block-requires-clause-few c = method_sig_few (classes_in c.args.context.now) c.requires.context.few c.args.replaced.now.method c.in-Some.sig.now c.in-Some.ensures.is

pub returns-in_ok-copy-in-None : goal.returns-in_ok-copy-in-None
returns-in_ok-copy-in-None c =
    unsigned_made (among_in c.args.context.now) (given c.args.own.now) (class_of_place (classes_in c.args.context.now) c.args.place) c.args.replaced.now c.in-None.ensures.is
    ∙ ap (λ z. Ok z) (sym c.in_ok-copy-in-None.ensures)

pub returns-in-Some : goal.returns-in-Some
returns-in-Some c = signed_told (among_in c.args.context.now) (given c.args.own.now) (class_of_place (classes_in c.args.context.now) c.args.place) c.args.replaced.now c.in-Some.sig.now c.signed_block.result c.in-Some.ensures.is c.signed_block.ensures
