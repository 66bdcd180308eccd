use Rattle.std.proofs.Common.{ℕ, ◌++◌, ◌∷◌, ◌∙◌, [], ap}
use Rattle.som_class_table.proofs.Listing.{tokens_more}
use Rattle.som_class_table.proofs.tokens.class_tokens.Goals as goal

pub loop-place-preserved : goal.loop-place-preserved
loop-place-preserved c = c.in_ok-push.ensures.ok ∙ ap (λ (t : ℕ × ℕ). c.loop-place.tokens ++ t ∷ []) c.new.ensures ∙ tokens_more c.args.class c.loop-place.place c.loop-place.tokens c.loop-place.invariant
