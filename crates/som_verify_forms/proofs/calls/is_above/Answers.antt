use Rattle.som_verify_forms.specs.Knowing.{all_of}
use Rattle.som_verify_forms.proofs.CallLaws.{above_itself, above_none, above_other}
use Rattle.som_verify_forms.proofs.calls.is_above.Goals as goal

pub returns-in-None : goal.returns-in-None
returns-in-None c = above_none (all_of c.args.known.now) c.args.known.now.lists.now c.args.class c.args.ancestor.now c.requires.known.lists c.requires.class c.in-None.ensures.finds

pub returns-then-place-class : goal.returns-then-place-class
returns-then-place-class c =
    let f = c.in-Some.ensures.finds in
    above_other (all_of c.args.known.now) c.args.known.now.lists.now c.args.class c.in-Some.place c.args.ancestor.now c.requires.known.lists c.requires.class f.1 f.2 c.is_below.result c.if-place-class.true c.is_below.ensures

pub returns-else-place-class : goal.returns-else-place-class
returns-else-place-class c =
    let f = c.in-Some.ensures.finds in
    above_itself (all_of c.args.known.now) c.args.known.now.lists.now c.args.class c.in-Some.place c.args.ancestor.now c.requires.known.lists c.requires.class f.1 f.2 c.if-place-class.false
