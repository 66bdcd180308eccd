use Rattle.std.proofs.Common.{subst, sym}
use Rattle.som_interp_builtins.specs.declared.kinds.Asking.{Asking}
use Rattle.som_interp_builtins.specs.Answered.{AnswersTo}
use Rattle.som_interp_builtins.specs.Kinds.{asking_shown}
use Rattle.som_interp_builtins.proofs.asked.ask.Goals as goal

pub returns-in-GetClass-clause-answered : goal.returns-in-GetClass-clause-answered
returns-in-GetClass-clause-answered g c =
    let keys = g.R.Classes.keys c.args.runtime.now in
    let world = g.R.Classes.world c.args.runtime.now in
    let linked = g.R.Runtime.linked c.args.runtime.now in
    let made = g.R.Classes.made c.args.runtime.now in
    subst (λ (q : Asking). AnswersTo linked made keys world c.args.objects.now c.args.me c.args.args.now (asking_shown q) c.get_class.result) (sym c.in-GetClass.is) (c.get_class.ensures c.args.args.now)

pub returns-in-GetClassName-clause-answered : goal.returns-in-GetClassName-clause-answered
returns-in-GetClassName-clause-answered g c =
    let keys = g.R.Classes.keys c.args.runtime.now in
    let world = g.R.Classes.world c.args.runtime.now in
    let linked = g.R.Runtime.linked c.args.runtime.now in
    let made = g.R.Classes.made c.args.runtime.now in
    subst (λ (q : Asking). AnswersTo linked made keys world c.args.objects.now c.args.me c.args.args.now (asking_shown q) c.get_class_name.result) (sym c.in-GetClassName.is) (c.get_class_name.ensures c.args.args.now)

pub returns-in-DispatchName-clause-answered : goal.returns-in-DispatchName-clause-answered
returns-in-DispatchName-clause-answered g c =
    let keys = g.R.Classes.keys c.args.runtime.now in
    let world = g.R.Classes.world c.args.runtime.now in
    let linked = g.R.Runtime.linked c.args.runtime.now in
    let made = g.R.Classes.made c.args.runtime.now in
    subst (λ (q : Asking). AnswersTo linked made keys world c.args.objects.now c.args.me c.args.args.now (asking_shown q) c.dispatch_name.result) (sym c.in-DispatchName.is) (c.dispatch_name.ensures linked made keys world c.args.objects.now c.args.me)

pub returns-in-GetName-clause-answered : goal.returns-in-GetName-clause-answered
returns-in-GetName-clause-answered g c =
    let keys = g.R.Classes.keys c.args.runtime.now in
    let world = g.R.Classes.world c.args.runtime.now in
    let linked = g.R.Runtime.linked c.args.runtime.now in
    let made = g.R.Classes.made c.args.runtime.now in
    subst (λ (q : Asking). AnswersTo linked made keys world c.args.objects.now c.args.me c.args.args.now (asking_shown q) c.get_name.result) (sym c.in-GetName.is) (c.get_name.ensures c.args.objects.now c.args.args.now)
