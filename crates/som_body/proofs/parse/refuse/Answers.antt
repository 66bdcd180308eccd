use Rattle.std.proofs.Common.{◌≡◌, ◌∙◌, ap, sym}
use Rattle.som_parse.specs.declared.cursor.Stop.TheVariants.{Syntax, Nesting}
use Rattle.som_body.specs.Answer.{is_refused}
use Rattle.som_body.proofs.Stopping.{stops_as}
use Rattle.som_body.proofs.Theorem.{bodies_fault, main_fault}
use Rattle.som_body.proofs.parse.refuse.Goals as goal

pub returns-in-Nesting-clause-bodies : goal.returns-in-Nesting-clause-bodies
returns-in-Nesting-clause-bodies c = λ h. bodies_fault c.args.tokens.now c.args.seen.now.tokens.items c.args.left.now.rest.now c.args.seen.now.places.items Nesting c.place_of-token.result c.requires.tokens c.requires.places c.place_of-token.ensures (stops_as c.args.stop Nesting c.in-Nesting.is (λ x. cc) h)

pub returns-then-is_refused-clause-bodies : goal.returns-then-is_refused-clause-bodies
returns-then-is_refused-clause-bodies c = λ h.
    let told = bodies_fault c.args.tokens.now c.args.seen.now.tokens.items c.args.left.now.rest.now c.args.seen.now.places.items Syntax c.place_of-token.result c.requires.tokens c.requires.places c.place_of-token.ensures (stops_as c.args.stop Syntax c.in-Syntax.is (λ x. cc) h) in
    (told.0, ap is_refused told.1 ∙ sym c.is_refused.ensures ∙ c.if-is_refused.true)

pub returns-else-is_refused-clause-bodies : goal.returns-else-is_refused-clause-bodies
returns-else-is_refused-clause-bodies c = λ h.
    let told = bodies_fault c.args.tokens.now c.args.seen.now.tokens.items c.args.left.now.rest.now c.args.seen.now.places.items Syntax c.place_of-token.result c.requires.tokens c.requires.places c.place_of-token.ensures (stops_as c.args.stop Syntax c.in-Syntax.is (λ x. cc) h) in
    (told.0, ap is_refused told.1 ∙ sym c.is_refused.ensures ∙ c.if-is_refused.false)

pub returns-in-Nesting-clause-main : goal.returns-in-Nesting-clause-main
returns-in-Nesting-clause-main c = λ h. main_fault c.args.tokens.now c.args.seen.now.tokens.items c.args.left.now.rest.now c.args.seen.now.places.items Nesting c.place_of-token.result c.requires.tokens c.requires.places c.place_of-token.ensures (stops_as c.args.stop Nesting c.in-Nesting.is (λ x. cc) h)

pub returns-then-is_refused-clause-main : goal.returns-then-is_refused-clause-main
returns-then-is_refused-clause-main c = λ h.
    let told = main_fault c.args.tokens.now c.args.seen.now.tokens.items c.args.left.now.rest.now c.args.seen.now.places.items Syntax c.place_of-token.result c.requires.tokens c.requires.places c.place_of-token.ensures (stops_as c.args.stop Syntax c.in-Syntax.is (λ x. cc) h) in
    (told.0, ap is_refused told.1 ∙ sym c.is_refused.ensures ∙ c.if-is_refused.true)

pub returns-else-is_refused-clause-main : goal.returns-else-is_refused-clause-main
returns-else-is_refused-clause-main c = λ h.
    let told = main_fault c.args.tokens.now c.args.seen.now.tokens.items c.args.left.now.rest.now c.args.seen.now.places.items Syntax c.place_of-token.result c.requires.tokens c.requires.places c.place_of-token.ensures (stops_as c.args.stop Syntax c.in-Syntax.is (λ x. cc) h) in
    (told.0, ap is_refused told.1 ∙ sym c.is_refused.ensures ∙ c.if-is_refused.false)
