use Rattle.std.proofs.Common.{length, ◌+◌, sym, ap, ◌∙◌, subst, ◌<◌}
use Rattle.std.specs.Prelude.{None}
use Rattle.som_model.specs.Classes.{is_a}
use Rattle.som_model.specs.declared.key.ClassKey.{ClassKey}
use Rattle.som_verify_classes.specs.Modules.{classes_of}
use Rattle.som_verify_classes.specs.Places.{Finds, key_at, with_kernel}
use Rattle.som_verify_classes.proofs.DeclaredClasses.{known_number}
use Rattle.som_sema_scope.specs.ClassNames.{module_in_scope}
use Rattle.som_sema.proofs.Unknown.{unknown_class}
use Rattle.som_sema.proofs.bases.descends_from.Goals as goal

pub returns-in-None : goal.returns-in-None
returns-in-None c =
    let ds = c.args.classes.now in
    sym (unknown_class (classes_of ds) (module_in_scope c.args.scope.now c.args.name.now) c.args.name.now c.args.ancestor (length ds + 4) (known_number ds) c.requires.ancestor
    (subst (λ (k : ClassKey). Finds (length ds + 4) (with_kernel (classes_of ds)) k None) c.in_ok-key.ensures c.in-None.ensures))

pub returns : goal.returns
returns c =
    let cs = with_kernel (classes_of c.args.classes.now) in
    let f = c.in-Some.ensures in
    c.descends_by.ensures cs c.requires.lists c.requires.ancestor
    ∙ ap (λ k. is_a cs k (key_at cs c.args.ancestor)) (f.2 ∙ c.in_ok-key.ensures)

pub find_class-requires : goal.find_class-requires
find_class-requires c = c.requires.table

pub descends_by-requires : goal.descends_by-requires
descends_by-requires c = subst (λ n. c.in-Some.place < n) (sym c.requires.lists.long) c.in-Some.ensures.1
