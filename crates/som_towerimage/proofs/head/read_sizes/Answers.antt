use Rattle.som_towerimage.proofs.HeadFields.{sizes_many}
use Rattle.som_towerimage.proofs.head.read_sizes.Goals as goal

pub returns-clause-many : goal.returns-clause-many
returns-clause-many c = sizes_many c.args.below c.args.bytes.now c.as_bytes-all.ensures.bytes c.args.place c.requires c.read_each_size.result c.read_each_size.ensures.exact
