use Rattle.std.proofs.Common.{◌+◌, length, sym, ◌∙◌, subst}
use Rattle.som_verify_forms.specs.Knowing.{all_of}
use Rattle.som_verify_classes.specs.Places.{Finds}
use Rattle.som_verify_classes.proofs.DeclaredClasses.{known_number}
use Rattle.som_verify_forms.proofs.Facts.{known_said}
use Rattle.som_verify_classes.proofs.Finding.{known_at_all}
use Rattle.som_verify_forms.proofs.knowledge.place_of.Goals as goal

pub returns-clause-finds : goal.returns-clause-finds
returns-clause-finds c =
    subst (λ n. Finds n (all_of c.args.known.now) c.args.key.now c.find_class.result) (known_number c.args.known.now.classes.now) c.find_class.ensures

pub returns-clause-known : goal.returns-clause-known
returns-clause-known c =
    known_at_all (all_of c.args.known.now) c.args.key.now (length c.args.known.now.classes.now + 4) c.find_class.result (known_number c.args.known.now.classes.now) c.find_class.ensures
    ∙ sym (known_said (all_of c.args.known.now) c.args.key.now)
