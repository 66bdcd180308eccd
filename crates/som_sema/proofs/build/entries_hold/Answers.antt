use Rattle.std.proofs.Common.{List, ap, sym, ◌∙◌, subst, refl}
use Rattle.som_model.specs.Class.{Class}
use Rattle.som_verify_classes.specs.Faces.{faces_breach}
use Rattle.som_verify_classes.specs.Modules.{classes_of}
use Rattle.som_verify_classes.specs.Told.{Tells}
use Rattle.som_sema.specs.Ancestry.{IsAncestorTable}
use Rattle.som_sema.proofs.Finishing.{base_front, moved_is}
use Rattle.som_sema.proofs.build.entries_hold.Goals as goal

pub moves_hold-requires-clause-ancestors : goal.moves_hold-requires-clause-ancestors
moves_hold-requires-clause-ancestors c =
    let same = ap classes_of c.as_slice-known.ensures.value ∙ c.in_ok-classes.ensures in
    subst (λ (z : List Class). IsAncestorTable z c.args.ancestors.now) (sym same) c.requires.ancestors

pub moves_hold-requires-clause-conforms : goal.moves_hold-requires-clause-conforms
moves_hold-requires-clause-conforms c =
    let same = ap classes_of c.as_slice-known.ensures.value ∙ c.in_ok-classes.ensures in
    ap faces_breach (base_front c.args.own_module c.as_slice-known.result.now c.args.base.now c.args.own.now _ same refl) ∙ c.requires.conforms

pub returns : goal.returns
returns c =
    let same = ap classes_of c.as_slice-known.ensures.value ∙ c.in_ok-classes.ensures in
    subst (λ o. Tells o c.moves_hold.result) (moved_is c.args.own_module c.as_slice-known.result.now c.args.base.now c.args.own.now _ same refl) c.moves_hold.ensures
