use Rattle.std.proofs.Common.{Ok}
use Rattle.som_semantics.specs.State.{ClassObject, To}
use Rattle.som_values.specs.Shown.{showing, shown_ref}
use Rattle.som_interp_builtins.proofs.Known.{alone, class_usable}
use Rattle.som_interp_builtins.proofs.Meant.{of_class}
use Rattle.som_interp_builtins.proofs.questions.get_class.Goals as goal

pub returns : goal.returns
returns g c args xs statics h may =
    let keys = g.R.Classes.keys c.args.runtime.now in
    let world = g.R.Classes.world c.args.runtime.now in
    let known = g.R.ClassKeys.known c.args.runtime.now in
    let linked = g.R.Runtime.linked c.args.runtime.now in
    let made = g.R.Classes.made c.args.runtime.now in
    let of = c.in_ok-class.ensures in
    let n = c.in_ok-class.class in
    record {
      means = of_class keys world h (shown_ref (showing keys xs) c.args.me) n (λ k. Ok (To (ClassObject k))) (of.class xs statics h (alone keys world known linked made c.know.ensures.agree xs c.args.objects.now statics h c.args.me args may));
      usable = class_usable keys world known linked made c.know.ensures.agree xs c.args.objects.now n of.numbered of.made;
    }
