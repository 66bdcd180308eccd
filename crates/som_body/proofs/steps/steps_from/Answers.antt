use Rattle.std.proofs.Common.{◌≡◌, ◌+◌, ◌-◌, ◌∙◌, ap, subst, rules, arith}
use Rattle.std.proofs.lemmas.Grind.{common_steps}
use Rattle.som_parse.specs.Answer.{Answers}
use Rattle.som_parse.specs.Readers.{repeat}
use Rattle.som_parse.specs.Seen.{text_at}
use Rattle.som_body.specs.Reading as spec
use Rattle.som_body.proofs.ExpressionsDeeper.{steps_deeper}
use Rattle.som_body.proofs.steps.steps_from.Goals as goal

pub returns : goal.returns
returns c =
    let text = text_at c.args.tokens.now in
    let same = ap (λ a. spec.steps_from text c.args.depth a c.args.left.now.rest.now) c.in_ok-first.ensures in
    subst (λ o. Answers o c.steps.result c.steps.new.left.rest.now) (steps_deeper text c.args.depth c.in_ok-first.first c.args.left.now.rest.now (omega arith) ∙ same) c.steps.ensures.reads

pub returns-then-sees : goal.returns-then-sees
unfolding repeat
returns-then-sees c = let none : c.args.depth ≡ 0 = omega arith in rw none (first_of (search rules, grind (arith, common_steps)))

pub returns-else-sees : goal.returns-else-sees
unfolding repeat
returns-else-sees c = let none : c.args.depth ≡ 0 = omega arith in rw none (first_of (search rules, grind (arith, common_steps)))
