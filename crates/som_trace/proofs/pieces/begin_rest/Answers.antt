use Rattle.std.proofs.Common.{rules, ◌≡◌, ℕ, [], ◌∷◌, ◌++◌, ap, ◌∙◌}
use Rattle.som_trace.specs.declared.pieces.Part.TheVariants as parts
use Rattle.som_trace.proofs.Parts.{first_parts}
use Rattle.som_trace.proofs.Steps.{rest_some}
use Rattle.som_trace.proofs.pieces.begin_rest.Goals as goal

pub returns-in_ok-push_part-in-Some-2-clause-parts : goal.returns-in_ok-push_part-in-Some-2-clause-parts
returns-in_ok-push_part-in-Some-2-clause-parts c =
    let e : c.args.classes.now ≡ c.in-Some.first.now ∷ c.in-Some.others.now = search rules in
    let f = c.in_ok-push_part-in-Some-2.ensures ∙ ap (λ (n : ℕ). c.push_part.new.left.items ++ parts.Name n ∷ []) c.number.ensures in
    λ k a b. first_parts k c.args.left.now.items c.push_part.new.left.items c.push_part-in-Some.new.left.items c.args.classes.now c.in-Some.first.now c.in-Some.others e c.in_ok-push_part-in-Some.ensures f a b

pub returns-in_ok-push_part-in-Some-2-clause-piece : goal.returns-in_ok-push_part-in-Some-2-clause-piece
returns-in_ok-push_part-in-Some-2-clause-piece c =
    let e : c.args.classes.now ≡ c.in-Some.first.now ∷ c.in-Some.others.now = search rules in
    let f = c.in_ok-push_part-in-Some-2.ensures ∙ ap (λ (n : ℕ). c.push_part.new.left.items ++ parts.Name n ∷ []) c.number.ensures in
    λ k. rest_some k c.args.left.now.items c.push_part.new.left.items c.push_part-in-Some.new.left.items c.args.classes.now c.in-Some.first.now c.in-Some.others e c.in_ok-push_part-in-Some.ensures f
