use Rattle.std.proofs.Common.{subst}
use Rattle.som_model.specs.Lists.{find}
use Rattle.som_model.specs.Owner.{introduces}
use Rattle.som_verify_forms.specs.Knowing.{all_of}
use Rattle.som_elab_body.specs.Methods.{method_by}
use Rattle.som_elab_body.specs.Forms.{Finds}
use Rattle.som_elab_body.proofs.methods.method_of.Goals as goal

pub returns-in-None : goal.returns-in-None
returns-in-None c =
    let cs = all_of c.args.known.now in
    let name = c.args.name.now in
    subst (λ ks. Finds cs name (method_by cs name (find (introduces cs name) ks)) c.first_introducing.result) c.ancestors_of.ensures.are c.first_introducing.ensures
