use Rattle.som_verify_forms.specs.Kinds.{type_at}
use Rattle.som_verify_forms.specs.Knowing.{all_of}
use Rattle.som_verify_classes.specs.Places.{class_of_place}
use Rattle.som_elab_body.specs.Code.{among_by, names_at}
use Rattle.som_elab_body.proofs.Parameters.{body_told}
use Rattle.som_elab_body.proofs.body.method_body.Goals as goal

pub returns : goal.returns
returns c =
    body_told (among_by c.args.known.now c.args.scope.now) (class_of_place (all_of c.args.known.now) c.args.class) c.args.sig.now c.args.text.now (names_at (all_of c.args.known.now) c.in_ok-locals.locals.items) (type_at (all_of c.args.known.now) c.known_kind.result)
    c.in_ok-has_double.field-0 c.as_slice-words.result.now c.as_slice.result.now c.block.result c.if-branch.false c.in_ok-has_double.ensures c.as_slice-words.ensures c.in_ok-locals.ensures.names c.as_slice.ensures c.known_kind.ensures.is c.block.ensures.makes
