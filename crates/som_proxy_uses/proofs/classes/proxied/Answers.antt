use Rattle.std.proofs.Common.{ap}
use Rattle.som_proxy_uses.specs.Proxied.{proxies_of}
use Rattle.som_proxy_uses.proofs.Noting.{run_noted}
use Rattle.som_proxy_uses.proofs.classes.proxied.Goals as goal

pub returns : goal.returns
returns c cs e = run_noted cs c.args.classes.now c.args.main.now _ _ _ e (ap proxies_of c.new-named.ensures) c.in_ok-note_classes.ensures c.in_ok-note_block.ensures
