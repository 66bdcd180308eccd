use Rattle.som_class_table.proofs.LoadedClasses.{all_classes, all_declared, all_loaded, all_roots_are, few, proxied_known}
use Rattle.som_class_table.proofs.classes.numbered.Goals as goal

pub new-requires-clause-few : goal.new-requires-clause-few
new-requires-clause-few c = few c.args.classes c.in_ok-all.all c.args.main.now c.requires c.in_ok-all.ensures

pub new-requires-clause-declared : goal.new-requires-clause-declared
new-requires-clause-declared c = all_declared c.args.classes c.in_ok-all.all c.args.main.now c.requires c.in_ok-all.ensures

pub number_proxies-requires : goal.number_proxies-requires
number_proxies-requires c = λ x m.
    proxied_known c.args.classes c.in_ok-all.all c.args.main.now c.requires c.in_ok-all.ensures c.in_ok-numbers.numbers c.in_ok-numbers.ensures c.in_ok-named.named (rw c.as_slice.ensures at c.in_ok-named.ensures) x (rw c.as_slice-2.ensures at m)

pub returns-clause-classes : goal.returns-clause-classes
returns-clause-classes c =
    all_classes c.args.classes c.in_ok-all.all c.args.main.now c.requires c.in_ok-all.ensures c.in_ok-numbers.numbers c.number_proxies.new.numbers c.in_ok-numbers.ensures c.number_proxies.ensures.classes c.in_ok-named.named
    (rw c.as_slice.ensures at c.in_ok-named.ensures) (rw c.as_slice-2.ensures at c.in_ok-number_proxies.ensures.keys) c.know_numbers.ensures.first c.know_numbers.ensures.apart

pub returns-clause-keys : goal.returns-clause-keys
returns-clause-keys c =
    all_roots_are c.args.classes c.in_ok-all.all c.args.main.now c.requires c.in_ok-all.ensures c.in_ok-numbers.numbers c.number_proxies.new.numbers c.in_ok-numbers.ensures c.number_proxies.ensures.classes c.in_ok-named.named
    (rw c.as_slice.ensures at c.in_ok-named.ensures) (rw c.as_slice-2.ensures at c.in_ok-number_proxies.ensures.keys) c.know_numbers.ensures.first c.know_numbers.ensures.apart

pub returns-clause-loaded : goal.returns-clause-loaded
returns-clause-loaded c =
    all_loaded c.args.classes c.in_ok-all.all c.args.main.now c.requires c.in_ok-all.ensures c.in_ok-numbers.numbers c.number_proxies.new.numbers c.in_ok-numbers.ensures c.number_proxies.ensures.classes c.in_ok-named.named
    (rw c.as_slice.ensures at c.in_ok-named.ensures) (rw c.as_slice-2.ensures at c.in_ok-number_proxies.ensures.keys) c.know_numbers.ensures.first c.know_numbers.ensures.apart
