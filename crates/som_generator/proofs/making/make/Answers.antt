use Rattle.som_generator.proofs.MakeLaws.{all_made, second_compared}
use Rattle.som_generator.proofs.making.make.Goals as goal

pub compare-requires-clause-second : goal.compare-requires-clause-second
compare-requires-clause-second c = second_compared c.args.count c.in_ok-second.second c.in_ok-second.ensures

pub returns : goal.returns
returns c = all_made c.args.count c.in_ok-first.first c.in_ok-second.second c.in_ok-client.client _ c.in_ok-first.ensures c.in_ok-second.ensures c.in_ok-client.ensures c.in_ok-compare.ensures
