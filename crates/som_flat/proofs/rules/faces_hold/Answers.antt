use Rattle.std.proofs.Common.{◌∙◌, map, sym, ap}
use Rattle.som_model.specs.Class.{bare}
use Rattle.som_model.specs.Conforming.{faces_breach}
use Rattle.som_flat.proofs.Leveled.{bare_faces}
use Rattle.som_flat.proofs.rules.faces_hold.Goals as goal

pub returns-in-Ok : goal.returns-in-Ok
returns-in-Ok c =
    ap faces_breach (sym (bare_faces c.args.flat.now c.as_slice-2.result.now (c.as_slice-2.ensures ∙ c.in_ok-bares.ensures ∙ ap (map bare) c.as_slice.ensures)))
    ∙ c.in-Ok.ensures

pub returns-in-Err-Rule : goal.returns-in-Err-Rule
returns-in-Err-Rule c = (
  ap faces_breach (sym (bare_faces c.args.flat.now c.as_slice-2.result.now (c.as_slice-2.ensures ∙ c.in_ok-bares.ensures ∙ ap (map bare) c.as_slice.ensures)))
      ∙ (rw c.in-Err-Rule.field-0-is at c.in-Err-Rule.ensures),
  c.level_named.ensures,
)
