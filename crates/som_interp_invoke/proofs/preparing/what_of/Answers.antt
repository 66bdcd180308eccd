use Rattle.std.proofs.Common.{ap, sym, ◌∙◌}
use Rattle.som_semantics.specs.Invoked.{kernel_body, table}
use Rattle.som_model.specs.declared.key.MethodRef.{MethodRef}
use Rattle.som_interp_state.specs.Asked.{held_shown}
use Rattle.som_interp_invoke.proofs.preparing.what_of.Goals as goal

pub returns-in-Kernel-clause-what : goal.returns-in-Kernel-clause-what
returns-in-Kernel-clause-what g c codes =
    let l = g.R.Runtime.linked c.args.runtime.now in
    let name = (l.method c.args.method).name in
    (name, ap (held_shown name) c.in-Kernel.is, c.kernel_body.ensures ∙ ap (kernel_body table) (c.method_name.ensures ∙ ap (λ (m : MethodRef). m.name) (sym (c.know.ensures.agree.methods c.args.method))))
