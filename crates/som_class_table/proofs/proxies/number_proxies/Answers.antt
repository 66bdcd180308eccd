use Rattle.std.proofs.Common.{List, ap, ◌∙◌, refl, subst, sym}
use Rattle.som_model.specs.declared.key.ClassKey.TheVariants as keys
use Rattle.som_model.specs.Class.{Class}
use Rattle.som_model.specs.Lists.{Mem}
use Rattle.som_model.specs.Loads.{keys_of}
use Rattle.som_meta.specs.Numbering.{Numbering, key_at}
use Rattle.som_class_ids.proofs.Items.{item_mem}
use Rattle.som_class_table.proofs.Proxying.{proxied_all, proxied_next, proxied_none, with_classes}
use Rattle.som_class_table.proofs.proxies.number_proxies.Goals as goal

pub loop-key-init : goal.loop-key-init
loop-key-init c = record { classes = refl; keys = λ k. proxied_none c.args.numbers.now c.args.named.now k }

pub number_of-of-requires : goal.number_of-of-requires
number_of-of-requires c = subst (λ (l : List Class). Mem c.key-item.result (keys_of l)) (sym c.loop-key.invariant.classes)
    (c.requires c.key-item.result (item_mem c.args.named.now c.loop-key.key-index c.key-item.result c.loop-key-test.true c.key-item.is))

pub loop-key-preserved : goal.loop-key-preserved
loop-key-preserved c = record {
  classes = ap (λ (z : Numbering). z.classes) c.in_ok-proxy.ensures.keys ∙ with_classes c.loop-key.numbers (keys.Proxy (key_at c.loop-key.numbers c.number_of-of.result)) ∙ c.loop-key.invariant.classes;
  keys = proxied_next c.args.numbers.now c.loop-key.numbers c.proxy.new.self c.args.named.now c.loop-key.key-index c.key-item.result (key_at c.loop-key.numbers c.number_of-of.result) c.loop-key-test.true c.key-item.is
      c.number_of-of.ensures.key c.loop-key.invariant.keys c.in_ok-proxy.ensures.keys;
}

pub returns-clause-keys : goal.returns-clause-keys
returns-clause-keys c = proxied_all c.args.numbers.now c.loop-key.numbers c.args.named.now c.loop-key.key-index c.loop-key-test.false c.loop-key.invariant.keys
