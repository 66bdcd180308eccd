use Rattle.std.proofs.Common.{◌≡◌, ◌++◌, flat_map, take}
use Rattle.som_proxy_uses.specs.Forms.{override_proxies}
use Rattle.som_proxy_uses.specs.Proxied.{proxies_of}
use Rattle.som_proxy_uses.proofs.classes.note_overrides.Given as goal

abbrev pub invariant-loop-item : goal.invariant-loop-item
invariant-loop-item l = proxies_of l.named ≡ proxies_of l.initial.named ++ flat_map override_proxies (take l.item-index l.overrides)
