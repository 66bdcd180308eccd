use Rattle.std.proofs.Common.{List, ap, sym, subst, ◌∙◌}
use Rattle.som_verify_classes.specs.declared.types.Declared.{Declared}
use Rattle.som_verify_classes.specs.Modules.{classes_of}
use Rattle.som_verify_classes.specs.Places.{with_kernel}
use Rattle.som_witness_programs.specs.Conditions.{AreFew}
use Rattle.som_witness_programs.proofs.answering.client_by.Goals as goal

pub know-old_known-requires : goal.know-old_known-requires
know-old_known-requires c = record {
  table = c.requires.old_parts.table;
  kernel = c.as_slice.ensures ∙ c.requires.old_parts.kernel;
  lists = rw c.as_slice-2.ensures.value c.requires.old_parts.lists;
  rules = (0, c.requires.old);
}

pub know-new_known-requires : goal.know-new_known-requires
know-new_known-requires c = record {
  table = c.requires.new_parts.table;
  kernel = c.as_slice-3.ensures ∙ c.requires.new_parts.kernel;
  lists = rw c.as_slice-4.ensures.value c.requires.new_parts.lists;
  rules = (0, c.requires.new);
}

pub client_known-requires-clause-few : goal.client_known-requires-clause-few
client_known-requires-clause-few c = subst (λ (z : List Declared). AreFew (with_kernel (classes_of z))) (sym c.know-old_known.ensures.classes) c.requires.few

pub returns : goal.returns
returns c = λ old new m e f.
    c.client_known.ensures old new (record { knowledge = c.know-old_known.ensures.known; classes = ap classes_of c.know-old_known.ensures.classes ∙ e })
    (record { knowledge = c.know-new_known.ensures.known; classes = ap classes_of c.know-new_known.ensures.classes ∙ f })
