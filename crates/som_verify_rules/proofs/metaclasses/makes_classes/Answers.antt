use Rattle.std.proofs.Common.{◌==◌, ◌+◌, length, None, sym, ap, ◌∙◌, true≢false, arith}
use Rattle.som_model.specs.Kernel.{som_class}
use Rattle.som_model.specs.Lists.{some}
use Rattle.som_model.specs.Classes.{is_a}
use Rattle.som_verify_classes.specs.Modules.{classes_of}
use Rattle.som_verify_classes.specs.Places.{with_kernel}
use Rattle.som_verify_classes.proofs.Finding.{known_at_all}
use Rattle.som_verify_classes.proofs.DeclaredClasses.{known_number}
use Rattle.som_verify_classes.proofs.Descending.{is_a_place}
use Rattle.som_verify_rules.proofs.metaclasses.makes_classes.Goals as goal

pub returns-in-None : goal.returns-in-None
returns-in-None c =
    let ds = c.args.classes.now in
    absurd (true≢false (sym c.requires.known ∙ sym (known_at_all (with_kernel (classes_of ds)) c.args.key.now (length ds + 4) None (known_number ds) c.in-None.ensures)))

pub returns-in-Some : goal.returns-in-Some
returns-in-Some c =
    let ds = c.args.classes.now in
    let f = c.in-Some.ensures in
    c.has_place.ensures
    ∙ ap (some (λ a. 1 == a)) c.item.ensures
    ∙ sym (is_a_place (with_kernel (classes_of ds)) c.args.lists.now c.requires.lists c.in-Some.place 1 f.1 (omega (arith, known_number ds)))
    ∙ ap (λ k. is_a (with_kernel (classes_of ds)) k som_class) f.2
