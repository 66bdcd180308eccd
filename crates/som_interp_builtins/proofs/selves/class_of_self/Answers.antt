use Rattle.som_values.specs.Shown.{showing, shown_ref}
use Rattle.som_interp_builtins.proofs.Known.{found_made, holds_in, self_made, self_seen}
use Rattle.som_interp_builtins.proofs.selves.class_of_self.Goals as goal

pub returns-clause-made : goal.returns-clause-made
returns-clause-made g c =
    let keys = g.R.Classes.keys c.args.runtime.now in
    let world = g.R.Classes.world c.args.runtime.now in
    let known = g.R.ClassKeys.known c.args.runtime.now in
    let linked = g.R.Runtime.linked c.args.runtime.now in
    let made = g.R.Classes.made c.args.runtime.now in
    let os = c.args.objects.now in
    let xs = c.requires.0 in
    let statics = c.requires.1 in
    let h = c.requires.2 in
    let may = c.requires.3 in
    found_made world made c.know.ensures.closed keys h (shown_ref (showing keys xs) c.args.me) c.class_of.result may.holding.made_of
    (self_made keys world known linked made c.know.ensures.agree xs os statics h c.args.me _ may)
    (c.class_of.ensures.means xs h
    (holds_in keys world known linked made c.know.ensures.agree xs os statics h c.args.me _ may)
    (self_seen keys world known linked made c.know.ensures.agree xs os statics h c.args.me _ may))
