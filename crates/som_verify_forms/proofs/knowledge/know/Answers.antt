use Rattle.som_verify_classes.specs.Modules.{classes_of}
use Rattle.som_verify_forms.proofs.NamesKnown.{moved_holds, names_known}
use Rattle.som_verify_forms.proofs.knowledge.know.Goals as goal

pub returns-clause-known : goal.returns-clause-known
returns-clause-known c = record {
  table = c.requires.table;
  kernel = c.requires.kernel;
  lists = c.requires.lists;
  moved = moved_holds c.requires.rules.0 (classes_of c.args.classes.now) c.requires.rules.1;
  names = names_known c.requires.rules.0 (classes_of c.args.classes.now) c.requires.rules.1;
}
