use Rattle.std.proofs.Common.{◌≡◌, ◌++◌, flat_map, take}
use Rattle.som_proxy_uses.specs.Forms.{body_proxies}
use Rattle.som_proxy_uses.specs.Proxied.{proxies_of}
use Rattle.som_proxy_uses.proofs.classes.note_bodies.Given as goal

abbrev pub invariant-loop-body : goal.invariant-loop-body
invariant-loop-body l = proxies_of l.named ≡ proxies_of l.initial.named ++ flat_map body_proxies (take l.body-index l.bodies)
