use Rattle.std.proofs.Common.{◌∙◌, ap, sym}
use Rattle.som_idl.proofs.Theorem.{fault_told}
use Rattle.som_idl.specs.Answer.{is_refused}
use Rattle.som_idl.proofs.parse.refuse.Goals as goal

pub returns-then-is_refused : goal.returns-then-is_refused
returns-then-is_refused c =
    let told = fault_told c.args.tokens.now c.args.seen.now.tokens.items c.args.left.now.rest.now c.args.seen.now.places.items c.args.stop c.place_of-token.result c.requires.tokens c.requires.places c.place_of-token.ensures (c.requires.stopped c.in_default.not-Memory) in
    (told.0, ap is_refused told.1 ∙ sym c.is_refused.ensures ∙ c.if-is_refused.true)

pub returns-else-is_refused : goal.returns-else-is_refused
returns-else-is_refused c =
    let told = fault_told c.args.tokens.now c.args.seen.now.tokens.items c.args.left.now.rest.now c.args.seen.now.places.items c.args.stop c.place_of-token.result c.requires.tokens c.requires.places c.place_of-token.ensures (c.requires.stopped c.in_default.not-Memory) in
    (told.0, ap is_refused told.1 ∙ sym c.is_refused.ensures ∙ c.if-is_refused.false)
