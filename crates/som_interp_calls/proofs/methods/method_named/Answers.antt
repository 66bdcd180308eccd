use Rattle.std.proofs.Common.{Some, sym, ap, ◌∙◌}
use Rattle.som_interp_calls.proofs.Naming.{parents_entry}
use Rattle.som_interp_calls.proofs.methods.method_named.Goals as goal

pub method_token-requires : goal.method_token-requires
method_token-requires g c =
    let r = c.args.runtime.now in
    let known = c.know.ensures in
    parents_entry (g.R.Classes.keys r) (g.R.Classes.world r) (g.R.ClassKeys.known r) (g.R.Runtime.linked r) (g.R.Runtime.program r) (g.R.Classes.made r) known.agree known.loads known.numbers c.args.codes.now c.requires c.args.code c.args.at c.in-Some-named_by.method.now c.in-Some-named_by.ensures.some.0
    (sym c.in-Some.ensures ∙ ap (λ i. Some i) c.in-Some-named_by.ensures.some.1)
