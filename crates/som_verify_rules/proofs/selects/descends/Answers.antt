use Rattle.std.proofs.Common.{◌+◌, length, None, sym, ap, ◌∙◌, true≢false}
use Rattle.som_model.specs.Classes.{is_a}
use Rattle.som_verify_classes.specs.Modules.{classes_of}
use Rattle.som_verify_classes.specs.Places.{key_at, with_kernel}
use Rattle.som_verify_classes.proofs.Finding.{known_at_all}
use Rattle.som_verify_classes.proofs.DeclaredClasses.{known_number}
use Rattle.som_verify_classes.proofs.Descending.{is_a_none}
use Rattle.som_verify_rules.proofs.selects.descends.Goals as goal

pub returns-in-None : goal.returns-in-None
returns-in-None c =
    let ds = c.args.classes.now in
    absurd (true≢false (sym c.requires.known ∙ sym (known_at_all (with_kernel (classes_of ds)) c.args.class.now (length ds + 4) None (known_number ds) c.in-None.ensures)))

pub returns-in-None-find_class : goal.returns-in-None-find_class
returns-in-None-find_class c =
    let ds = c.args.classes.now in
    let cs = with_kernel (classes_of ds) in
    let f = c.in-Some.ensures in
    sym (ap (λ k. is_a cs k c.args.ancestor.now) (sym f.2) ∙ is_a_none cs c.args.lists.now c.requires.lists c.in-Some.place (length ds + 4) f.1 c.args.ancestor.now (known_number ds) c.in-None-find_class.ensures)

pub returns-in-Some-find_class : goal.returns-in-Some-find_class
returns-in-Some-find_class c =
    let ds = c.args.classes.now in
    let cs = with_kernel (classes_of ds) in
    let f = c.in-Some.ensures in
    let g = c.in-Some-find_class.ensures in
    c.descends_by.ensures cs c.requires.lists g.1
    ∙ ap (λ k. is_a cs k (key_at cs c.in-Some-find_class.above)) f.2
    ∙ ap (is_a cs c.args.class.now) g.2
