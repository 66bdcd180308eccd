use Rattle.std.proofs.Common.{refl}
use Rattle.som_interp_dispatch.proofs.Known.{live_made}
use Rattle.som_exec.proofs.Asking.{in_own_class, ref_classed}
use Rattle.som_exec.proofs.Peeking.{class_linked}
use Rattle.som_exec.proofs.asked.if_unhooked.Goals as goal

pub class_of-requires-clause-classed : goal.class_of-requires-clause-classed
class_of-requires-clause-classed g c =
    let r = c.args.runtime.now in
    let me = c.requires.asked.me in
    ref_classed (g.R.Runtime.linked r) (g.R.Classes.made r) (g.R.Classes.keys r) c.args.objects.now me.0 c.args.call.now.me c.know.ensures.agree.linked_numbers me.1

pub has_hooks-requires-clause-receiver : goal.has_hooks-requires-clause-receiver
has_hooks-requires-clause-receiver g c =
    let know = c.know.ensures in
    live_made _ _ _ _ _ know.agree know.loads _ know.closed _ _ _ c.requires.asked.me c.in-Ok.ensures.numbered c.in-Ok.ensures.means

pub returns-else-has_hooks : goal.returns-else-has_hooks
returns-else-has_hooks g c =
    let r = c.args.runtime.now in
    let l = g.R.Runtime.linked r in
    let made = g.R.Classes.made r in
    let know = c.know.ensures in
    let os = c.args.objects.now in
    let call = c.args.call.now in
    in_own_class l made os call c.requires.parent c.in-Ok.class
    (class_linked l (g.R.Classes.keys r) (g.R.Classes.world r) know.agree.linked_numbers know.agree.linked_answers os call.me c.in-Ok.class c.in-Ok.ensures.means)
    (live_made _ _ _ _ _ know.agree know.loads made know.closed os call.me c.in-Ok.class c.requires.asked.me c.in-Ok.ensures.numbered c.in-Ok.ensures.means)
    (c.if-has_hooks.ensures.none refl)
