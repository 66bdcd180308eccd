use Rattle.som_verify_classes.specs.Modules.{classes_of}
use Rattle.som_sema.proofs.Composing.{table_lists}
use Rattle.som_sema.proofs.Inheriting.{along_known}
use Rattle.som_sema.proofs.inherited.ranked_inherited.Goals as goal

pub ranking_above-requires-clause-lists : goal.ranking_above-requires-clause-lists
ranking_above-requires-clause-lists c = table_lists (classes_of c.args.classes.now) c.args.ancestors.now c.as_slice-lists.result.now c.requires.ancestors c.as_slice-lists.ensures.value

pub marks_inherited-requires-clause-above : goal.marks_inherited-requires-clause-above
marks_inherited-requires-clause-above c = record {
  ancestors = c.requires.ancestors;
  there = c.requires.place;
  known = along_known (classes_of c.args.classes.now) c.args.ancestors.now c.args.place _ c.in_ok-above.above c.as_slice-lists.ensures.value c.in_ok-above.ensures;
}
