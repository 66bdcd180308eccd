use Rattle.std.proofs.Common.{sym, ap, ◌∙◌, arith}
use Rattle.std.specs.Str.{bytes_eq}
use Rattle.som_model.specs.declared.class.Variable.{Variable as Slot}
use Rattle.som_elab_body.proofs.NameLaws.{place_skips}
use Rattle.som_elab_body.proofs.names.place_of_variable.Goals as goal

pub loop-place-preserved : goal.loop-place-preserved
loop-place-preserved c =
    place_skips (λ (v : Slot). bytes_eq v.name c.args.name.now) c.args.variables.now c.loop-place.place _ c.index-variables-place.result (omega arith) (omega arith)
    (ap (λ (v : Slot). bytes_eq v.name c.args.name.now) (sym c.index-variables-place.is) ∙ sym c.is.ensures ∙ c.if-is.false)
    ∙ c.loop-place.invariant
