use Rattle.std.proofs.Common.{List, ℕ, ap, refl, subst, ◌∙◌, ◌≡◌}
use Rattle.std.specs.Prelude.{IfOk}
use Rattle.som_order.specs.Names.{texts}
use Rattle.som_sema_scope.specs.ClassNames.{face_names}
use Rattle.som_sema_scope.specs.Words.{once}
use Rattle.som_sema_scope.proofs.Going.{next_value, rest_end}
use Rattle.som_sema_scope.proofs.tables.face_names.Goals as goal

pub loop-face-preserved : goal.loop-face-preserved
loop-face-preserved c =
    next_value face_names c.args.faces.now c.loop-face.face-index _ _ (texts c.loop-face.names.items) _ _ _ _
    c.loop-face-test.true c.face-item.is c.in_ok-add.ensures.ok c.as_slice.ensures refl c.loop-face.invariant

pub returns : goal.returns
returns c =
    subst (λ (z : List (List ℕ)). IfOk c.table_of.result (λ known. texts known.keys ≡ once z))
    (ap texts c.deref.ensures.value ∙ rest_end face_names c.args.faces.now c.loop-face.face-index (texts c.loop-face.names.items) _ c.loop-face-test.false refl c.loop-face.invariant) c.table_of.ensures
