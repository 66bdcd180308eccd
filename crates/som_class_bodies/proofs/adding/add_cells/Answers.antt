use Rattle.std.proofs.Common.{◌++◌, ◌∷◌, [], ◌∙◌, sym, ap, append_assoc, take, drop, ◌-◌}
use Rattle.som_class_bodies.specs.Adding.{cells_from}
use Rattle.som_class_bodies.proofs.Cells.{cells_step}
use Rattle.som_class_bodies.proofs.adding.add_cells.Goals as goal

pub loop-place-preserved : goal.loop-place-preserved
loop-place-preserved c =
    let all = c.args.all.now in
    let from = c.args.from in
    let place = c.loop-place.place in
    let done = cells_from from (take (place - from) (drop from all)) in
    c.in_ok-push.ensures.ok ∙ ap (λ z. z ++ (c.method_at.result, place) ∷ []) c.loop-place.invariant ∙ append_assoc c.args.cells.now done ((c.method_at.result, place) ∷ [])
    ∙ ap (λ z. c.args.cells.now ++ z) (sym (cells_step from all place c.method_at.result c.loop-place.auto.place c.method_at.ensures))
