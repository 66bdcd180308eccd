use Rattle.std.proofs.Common.{◌∙◌, sym}
use Rattle.som_class_ids.proofs.Noting.{asked_fewer, asked_next, asked_noted, asked_within, comes_first, is_of}
use Rattle.som_class_ids.proofs.names.find_named.Goals as goal

pub loop-next-init : goal.loop-next-init
loop-next-init c = rw c.last-next.ensures (comes_first c.args.classes.now c.args.names.now c.requires c.args.name.now (is_of c.args.home c.args.name.now))

pub class_at-requires : goal.class_at-requires
class_at-requires c = asked_within c.args.classes.now c.args.names.now c.requires c.args.home c.args.name.now c.loop-next.next c.in-Some.class (cc) c.loop-next.invariant

pub returns-then-is_named-clause-some : goal.returns-then-is_named-clause-some
returns-then-is_named-clause-some c = (c.class_at.result.now, c.class_at.ensures, sym c.is_named.ensures ∙ c.if-is_named.true)

pub before-next-requires : goal.before-next-requires
before-next-requires c = asked_noted c.args.classes.now c.args.names.now c.requires c.args.home c.args.name.now c.loop-next.next c.in-Some.class (cc) c.loop-next.invariant

pub loop-next-smaller : goal.loop-next-smaller
loop-next-smaller c = rw c.before-next.ensures (asked_fewer c.args.classes.now c.args.names.now c.requires c.args.home c.args.name.now c.loop-next.next c.in-Some.class (cc) c.loop-next.invariant c.class_at.result.now c.class_at.ensures)

pub loop-next-preserved : goal.loop-next-preserved
loop-next-preserved c = rw c.before-next.ensures
    (asked_next c.args.classes.now c.args.names.now c.requires c.args.home c.args.name.now c.loop-next.next c.in-Some.class (cc) c.loop-next.invariant c.class_at.result.now c.class_at.ensures (sym c.is_named.ensures ∙ c.if-is_named.false))
