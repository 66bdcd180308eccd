use Rattle.som_class_ids.specs.Classes.{classes_of}
use Rattle.som_class_table.proofs.Proxying.{named_run_ok}
use Rattle.som_class_table.proofs.proxies.proxied.Goals as goal

pub returns : goal.returns
returns c = named_run_ok (classes_of c.args.classes.now) c.args.main.now c.in_ok-named.named c.with_block.result c.in_ok-named.ensures c.with_block.ensures
