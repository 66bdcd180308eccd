use Rattle.std.proofs.Common.{◌≡◌, ◌+◌, ◌-◌, subst, rules, arith}
use Rattle.std.proofs.lemmas.Grind.{common_steps}
use Rattle.som_parse.specs.Answer.{Answers}
use Rattle.som_parse.specs.Seen.{text_at}
use Rattle.som_body.specs.Reading as spec
use Rattle.som_body.proofs.ExpressionsDeeper.{line_deeper}
use Rattle.som_body.proofs.lines.+line_at.Goals as goal

pub returns-clause-reads : goal.returns-clause-reads
returns-clause-reads t c = subst (λ o. Answers o c.read.result c.read.new.left.rest.now) (line_deeper (text_at c.args.tokens.now) c.args.depth (c.args.depth - 1) c.args.line c.args.left.now.rest.now (omega arith)) c.read.ensures.reads

pub returns-then-begins-clause-reads : goal.returns-then-begins-clause-reads
unfolding spec.at spec.too_deep
returns-then-begins-clause-reads t c = let none : c.args.depth ≡ 0 = omega arith in rw none (first_of (search rules, grind (arith, common_steps)))

pub returns-else-begins-clause-reads : goal.returns-else-begins-clause-reads
unfolding spec.at spec.too_deep
returns-else-begins-clause-reads t c = let none : c.args.depth ≡ 0 = omega arith in rw none (first_of (search rules, grind (arith, common_steps)))
