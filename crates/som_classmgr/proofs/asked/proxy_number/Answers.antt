use Rattle.som_classmgr.proofs.asked.proxy_number.Goals as goal

pub unreachable-requires : goal.unreachable-requires
unreachable-requires c = (let there = c.requires.there in c.in-None.ensures.none there.0 there.1 there.2)
