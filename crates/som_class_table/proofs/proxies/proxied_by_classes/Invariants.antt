use Rattle.std.proofs.Common.{◌≡◌, flat_map, take}
use Rattle.som_proxy_uses.specs.Proxied.{decl_proxies, declarations, proxies_of}
use Rattle.som_class_ids.specs.Classes.{classes_of}
use Rattle.som_class_table.proofs.proxies.proxied_by_classes.Given as goal

abbrev pub invariant-loop-class : goal.invariant-loop-class
invariant-loop-class l = proxies_of l.named ≡ flat_map decl_proxies (declarations (classes_of (take l.class-index l.classes)))
