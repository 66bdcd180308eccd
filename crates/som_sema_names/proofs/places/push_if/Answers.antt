use Rattle.std.proofs.Common.{◌++◌, ◌∷◌, [], if◌then◌else◌, ap, sym, ◌∙◌}
use Rattle.som_sema_names.proofs.places.push_if.Goals as goal

pub returns-in_ok-push : goal.returns-in_ok-push
returns-in_ok-push c = c.in_ok-push.ensures.items ∙ ap (λ b. if b then c.args.places.now.items ++ c.args.place ∷ [] else c.args.places.now.items) (sym c.if-is_new.true)

pub returns-else-is_new : goal.returns-else-is_new
returns-else-is_new c = ap (λ b. if b then c.args.places.now.items ++ c.args.place ∷ [] else c.args.places.now.items) (sym c.if-is_new.false)
