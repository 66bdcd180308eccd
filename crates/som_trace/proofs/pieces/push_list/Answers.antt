use Rattle.std.proofs.Common.{rules, ◌≡◌, ℕ, [], ◌∷◌, ◌++◌, ap, ◌∙◌, length}
use Rattle.som_trace.specs.declared.pieces.Part.TheVariants as parts
use Rattle.som_trace.proofs.Parts.{first_parts}
use Rattle.som_trace.proofs.Steps.{list_none, list_some}
use Rattle.som_trace.proofs.pieces.push_list.Goals as goal

pub returns-in_ok-push_part-in-None-clause-pieces : goal.returns-in_ok-push_part-in-None-clause-pieces
returns-in_ok-push_part-in-None-clause-pieces c =
    let z : length c.args.classes.now ≡ 0 = search rules in
    λ k. list_none k c.args.left.now.items c.push_part.new.left.items c.args.classes.now z c.in_ok-push_part-in-None.ensures

pub returns-in_ok-push_part-in-Some-2-clause-pieces : goal.returns-in_ok-push_part-in-Some-2-clause-pieces
returns-in_ok-push_part-in-Some-2-clause-pieces c =
    let e : c.args.classes.now ≡ c.in-Some.first.now ∷ c.in-Some.others.now = search rules in
    let f = c.in_ok-push_part-in-Some-2.ensures ∙ ap (λ (n : ℕ). c.push_part-in-Some.new.left.items ++ parts.Name n ∷ []) c.number.ensures in
    λ k. list_some k c.args.left.now.items c.push_part-in-Some.new.left.items c.push_part-in-Some-2.new.left.items c.args.classes.now c.in-Some.first.now c.in-Some.others e c.in_ok-push_part-in-Some.ensures f

pub returns-in_ok-push_part-in-Some-2-clause-parts : goal.returns-in_ok-push_part-in-Some-2-clause-parts
returns-in_ok-push_part-in-Some-2-clause-parts c =
    let e : c.args.classes.now ≡ c.in-Some.first.now ∷ c.in-Some.others.now = search rules in
    let f = c.in_ok-push_part-in-Some-2.ensures ∙ ap (λ (n : ℕ). c.push_part-in-Some.new.left.items ++ parts.Name n ∷ []) c.number.ensures in
    λ k a b. first_parts k c.args.left.now.items c.push_part-in-Some.new.left.items c.push_part-in-Some-2.new.left.items c.args.classes.now c.in-Some.first.now c.in-Some.others e c.in_ok-push_part-in-Some.ensures f a b
