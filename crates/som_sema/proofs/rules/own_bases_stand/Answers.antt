use Rattle.std.proofs.Common.{◌+◌, subst, refl, arith}
use Rattle.som_model.specs.Lists.{first}
use Rattle.som_verify_classes.specs.Modules.{classes_of}
use Rattle.som_verify_classes.specs.Places.{with_kernel}
use Rattle.som_verify_classes.specs.Told.{Tells}
use Rattle.som_verify_classes.proofs.DeclaredClasses.{known_number}
use Rattle.som_sema_scope.specs.ClassNames.{module_in_scope}
use Rattle.som_sema_drafts.specs.Drafts.{plain_drafts}
use Rattle.som_sema.specs.TextRules.{text_s2_from}
use Rattle.som_sema.proofs.Composing.{front_place}
use Rattle.som_sema.proofs.rules.own_bases_stand.Goals as goal

pub bases_stand-requires-clause-from : goal.bases_stand-requires-clause-from
bases_stand-requires-clause-from c = omega (arith, c.requires.base, known_number c.args.classes.now)

pub returns : goal.returns
returns c =
    subst (λ n. Tells (first (text_s2_from (module_in_scope c.args.scope.now) (with_kernel (classes_of c.args.classes.now)) n (plain_drafts c.args.drafts.now))) c.bases_stand.result)
    (front_place c.args.classes.now c.args.base (c.args.base + 4) (omega (arith, c.requires.base)) refl) c.bases_stand.ensures
