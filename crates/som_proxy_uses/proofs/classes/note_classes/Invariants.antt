use Rattle.std.proofs.Common.{◌≡◌, ◌++◌, flat_map, take}
use Rattle.som_proxy_uses.specs.Proxied.{decl_proxies, proxies_of}
use Rattle.som_proxy_uses.proofs.classes.note_classes.Given as goal

abbrev pub invariant-loop-class : goal.invariant-loop-class
invariant-loop-class l = proxies_of l.named ≡ proxies_of l.initial.named ++ flat_map decl_proxies (take l.class-index l.classes)
