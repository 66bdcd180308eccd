use Rattle.std.proofs.Common.{◌≡◌, ◌↔◌, ◌++◌, take}
use Rattle.som_model.specs.declared.key.ClassKey.{ClassKey}
use Rattle.som_model.specs.Lists.{Mem}
use Rattle.som_proxy_uses.specs.Proxied.{proxies_of}
use Rattle.som_class_table.proofs.proxies.number_proxies.Given as goal

abbrev pub invariant-loop-key : goal.invariant-loop-key
invariant-loop-key l = record {
  classes : l.numbers.classes ≡ l.fn.numbers.classes;
  keys : (k : ClassKey) → Mem k l.numbers.keys ↔ Mem k (l.fn.numbers.keys ++ proxies_of (take l.key-index l.named));
}
