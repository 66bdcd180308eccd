use Rattle.std.proofs.Common.{ap, sym, take, ◌∙◌}
use Rattle.std.specs.Prelude.{is_some}
use Rattle.som_model.specs.Classes.{class_at}
use Rattle.som_verify_classes.specs.Modules.{classes_of}
use Rattle.som_verify_classes.specs.Places.{with_kernel}
use Rattle.som_verify_classes.proofs.Finding.{known_is}
use Rattle.som_sema.proofs.bases.stands.Goals as goal

pub returns : goal.returns
returns c =
    let cs = with_kernel (classes_of c.args.classes.now) in
    c.is_some.ensures
    ∙ sym (known_is cs c.in_ok-key.key c.args.place c.find_class.result c.find_class.ensures)
    ∙ ap (λ k. is_some (class_at (take c.args.place cs) k)) c.in_ok-key.ensures
