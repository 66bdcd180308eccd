use Rattle.std.proofs.Common.{[], None, map, sym, ap, subst, ◌∙◌}
use Rattle.std.specs.List.{All}
use Rattle.som_semantics.specs.Calls.{class_here, parent_at}
use Rattle.som_interp_state.specs.Named.{setting}
use Rattle.som_interp_state.specs.Standing.{here_shown}
use Rattle.som_values.specs.Shown.{IsNumbered, key_of}
use Rattle.som_interp_calls.proofs.Beginning.{at_key, at_made, past_key, past_made}
use Rattle.som_interp_calls.proofs.Naming.{root_number}
use Rattle.som_interp_calls.proofs.Nexts.{here_made}
use Rattle.som_interp_calls.proofs.parents.parent_at.Goals as goal

pub returns-then-place-parents-clause-made : goal.returns-then-place-parents-clause-made
returns-then-place-parents-clause-made g c =
    let r = c.args.runtime.now in
    let ks = g.R.Classes.keys r in
    let l = g.R.Runtime.linked r in
    let made = g.R.Classes.made r in
    let known = c.know.ensures in
    let set = setting l [] [] in
    let ns = c.as_slice-parents.result.now in
    at_made ks (g.R.Classes.world r) l made known.closed known.agree.linked_numbers known.agree.linked_answers (class_here (here_shown set None c.args.from.now)) c.class_at-class.result c.class_at-class.ensures.key
    (here_made (g.R.Classes.world r) made known.closed set None c.args.from.now c.requires.made) ns (ap (map (key_of ks)) c.as_slice-parents.ensures ∙ c.parents.ensures.keys) (subst (All (IsNumbered ks)) (sym c.as_slice-parents.ensures) c.parents.ensures.numbered) c.from-place.result c.index-parents-place.result c.if-place-parents.true c.index-parents-place.is

pub returns-then-place-parents-clause-key : goal.returns-then-place-parents-clause-key
returns-then-place-parents-clause-key g c =
    let r = c.args.runtime.now in
    let ks = g.R.Classes.keys r in
    let l = g.R.Runtime.linked r in
    let made = g.R.Classes.made r in
    let known = c.know.ensures in
    let set = setting l [] [] in
    let ns = c.as_slice-parents.result.now in
    at_key ks (g.R.Classes.world r) l made known.closed known.agree.linked_numbers known.agree.linked_answers (class_here (here_shown set None c.args.from.now)) c.class_at-class.result c.class_at-class.ensures.key
    (here_made (g.R.Classes.world r) made known.closed set None c.args.from.now c.requires.made) ns (ap (map (key_of ks)) c.as_slice-parents.ensures ∙ c.parents.ensures.keys) (subst (All (IsNumbered ks)) (sym c.as_slice-parents.ensures) c.parents.ensures.numbered) c.from-place.result c.index-parents-place.result c.if-place-parents.true c.index-parents-place.is ∙ ap (parent_at (l.world.parents (class_here (here_shown set None c.args.from.now)))) c.from-place.ensures

pub returns-else-place-parents-clause-made : goal.returns-else-place-parents-clause-made
returns-else-place-parents-clause-made g c =
    let r = c.args.runtime.now in
    let ks = g.R.Classes.keys r in
    let l = g.R.Runtime.linked r in
    let made = g.R.Classes.made r in
    let known = c.know.ensures in
    let set = setting l [] [] in
    let ns = c.as_slice-parents.result.now in
    past_made ks (g.R.Classes.world r) l made known.closed known.agree.linked_numbers known.agree.linked_answers (class_here (here_shown set None c.args.from.now)) c.class_at-class.result c.class_at-class.ensures.key
    (here_made (g.R.Classes.world r) made known.closed set None c.args.from.now c.requires.made) ns (ap (map (key_of ks)) c.as_slice-parents.ensures ∙ c.parents.ensures.keys) (subst (All (IsNumbered ks)) (sym c.as_slice-parents.ensures) c.parents.ensures.numbered) c.new.result (subst (IsNumbered ks) (sym c.new.ensures) (root_number ks (g.R.Classes.world r) (g.R.ClassKeys.known r) l (g.R.Runtime.program r) made known.agree known.loads known.numbers).0) (ap (key_of ks) c.new.ensures ∙ (root_number ks (g.R.Classes.world r) (g.R.ClassKeys.known r) l (g.R.Runtime.program r) made known.agree known.loads known.numbers).1)

pub returns-else-place-parents-clause-key : goal.returns-else-place-parents-clause-key
returns-else-place-parents-clause-key g c =
    let r = c.args.runtime.now in
    let ks = g.R.Classes.keys r in
    let l = g.R.Runtime.linked r in
    let made = g.R.Classes.made r in
    let known = c.know.ensures in
    let set = setting l [] [] in
    let ns = c.as_slice-parents.result.now in
    past_key ks (g.R.Classes.world r) l made known.closed known.agree.linked_numbers known.agree.linked_answers (class_here (here_shown set None c.args.from.now)) c.class_at-class.result c.class_at-class.ensures.key
    (here_made (g.R.Classes.world r) made known.closed set None c.args.from.now c.requires.made) ns (ap (map (key_of ks)) c.as_slice-parents.ensures ∙ c.parents.ensures.keys) (subst (All (IsNumbered ks)) (sym c.as_slice-parents.ensures) c.parents.ensures.numbered) c.from-place.result c.new.result c.if-place-parents.false (ap (key_of ks) c.new.ensures ∙ (root_number ks (g.R.Classes.world r) (g.R.ClassKeys.known r) l (g.R.Runtime.program r) made known.agree known.loads known.numbers).1) ∙ ap (parent_at (l.world.parents (class_here (here_shown set None c.args.from.now)))) c.from-place.ensures
