use Rattle.std.proofs.Common.{ap, ◌∙◌}
use Rattle.std.specs.Prelude.{unwrap_or}
use Rattle.som_model.specs.Kernel.{som_class}
use Rattle.som_witness_programs.proofs.Entries.{metaclass_there, metaclass_unknown}
use Rattle.som_witness_programs.proofs.keys.declared_metaclass.Goals as goal

pub returns-in-None : goal.returns-in-None
returns-in-None c = metaclass_unknown c.args.known.now c.requires c.args.class.now c.in-None.ensures.known

pub returns-in-Some : goal.returns-in-Some
returns-in-Some c =
    ap (λ o. unwrap_or o som_class) c.metaclass_at.ensures ∙ metaclass_there c.args.known.now c.requires c.args.class.now c.in-Some.place c.in-Some.ensures.finds.1 c.in-Some.ensures.finds.2
