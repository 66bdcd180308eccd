use Rattle.som_model.specs.Loads.{keys_of}
use Rattle.som_class_ids.specs.Classes.{classes_of}
use Rattle.som_class_ids.specs.Numbers.{at}
use Rattle.som_class_ids.proofs.Items.{item_mem}
use Rattle.som_class_ids.proofs.Numbered.{numbers_keyed, numbers_within}
use Rattle.std.proofs.Common.{length}
use Rattle.som_class_ids.proofs.declared.numbers_of.Goals as goal

pub number_of-requires-clause-known : goal.number_of-requires-clause-known
number_of-requires-clause-known c = c.requires.known c.key-item.result (item_mem c.args.keys.now c.loop-key.key-index c.key-item.result c.loop-key-test.true c.key-item.is)

pub loop-key-preserved : goal.loop-key-preserved
loop-key-preserved c = rw c.in_ok-push.ensures.ok (record {
  within = numbers_within c.loop-key.numbers c.number_of.result (length c.args.classes.now) c.loop-key.invariant.within c.number_of.ensures.within;
  keys = numbers_keyed (at (keys_of (classes_of c.args.classes.now))) c.loop-key.numbers c.number_of.result c.args.keys.now c.loop-key.key-index c.key-item.result c.loop-key-test.true c.key-item.is c.loop-key.invariant.keys c.number_of.ensures.key;
})
