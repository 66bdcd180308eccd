use Rattle.std.proofs.Common.{Bool, List, ap, ◌∙◌}
use Rattle.som_model.specs.declared.key.ValueType.{ValueType}
use Rattle.som_model.specs.Owner.{introduces}
use Rattle.som_verify_forms.specs.Knowing.{all_of}
use Rattle.som_witness.specs.Showings.{params_of, slot_showing}
use Rattle.som_witness_programs.proofs.choosing.slot_showing.Goals as goal

pub returns : goal.returns
returns c =
    c.slot_by.ensures ∙ ap (λ (b : Bool). slot_showing b c.params_of.result.now) c.introduces.ensures
    ∙ ap (λ (ps : List ValueType). slot_showing (introduces (all_of c.args.olds.now) c.args.method.now.name c.args.method.now.class) ps) (c.params_of.ensures ∙ ap params_of c.signature_in.ensures)
