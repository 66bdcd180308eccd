use Rattle.som_verify_classes.specs.Modules.{classes_of}
use Rattle.som_sema.proofs.Composing.{table_lists, table_names}
use Rattle.som_sema.proofs.rules.moves_hold.Goals as goal

pub names_introduced_once-requires-clause-lists : goal.names_introduced_once-requires-clause-lists
names_introduced_once-requires-clause-lists c = table_lists (classes_of c.args.classes.now) c.args.ancestors.now c.as_slice-lists.result.now c.requires.ancestors c.as_slice-lists.ensures.value

pub entries_moved_up-requires-clause-table : goal.entries_moved_up-requires-clause-table
entries_moved_up-requires-clause-table c = table_names (classes_of c.args.classes.now) c.args.ancestors.now c.requires.ancestors

pub entries_moved_up-requires-clause-lists : goal.entries_moved_up-requires-clause-lists
entries_moved_up-requires-clause-lists c = table_lists (classes_of c.args.classes.now) c.args.ancestors.now c.as_slice-lists.result.now c.requires.ancestors c.as_slice-lists.ensures.value
