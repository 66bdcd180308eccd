use Rattle.std.proofs.Common.{List, ap, length, sym, ◌∙◌}
use Rattle.som_model.specs.declared.key.ValueType.{ValueType}
use Rattle.som_meta.specs.Numbering.{key_at}
use Rattle.som_interp_state.specs.Asked.{target_after}
use Rattle.som_classmgr.proofs.Asking.{made_number}
use Rattle.som_classmgr.proofs.runtime.KernelLinkedRuntime.variable_cells.Goals as goal

pub variables-requires : goal.variables-requires
variables-requires c = made_number c.args.self.now c.classes-classes.ensures.linked c.classes-classes.ensures.loaded c.args.class c.requires.numbered c.requires.made

pub returns : goal.returns
returns c = sym (ap (target_after (key_at c.args.self.now.classes c.args.class)) (c.count.ensures ∙ ap (λ (ts : List ValueType). length ts) c.variables.ensures))
