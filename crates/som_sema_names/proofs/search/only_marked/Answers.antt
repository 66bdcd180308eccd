use Rattle.som_sema_names.proofs.Marks.{alone_marked}
use Rattle.som_sema_names.proofs.search.only_marked.Goals as goal

pub returns-in-Some-clause-marked : goal.returns-in-Some-clause-marked
returns-in-Some-clause-marked c = alone_marked c.args.row.now c.args.places.now c.in-Some.place c.alone.result c.in-Some.ensures c.alone.ensures.is
