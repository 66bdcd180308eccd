use Rattle.std.proofs.Common.{refl}
use Rattle.som_proxy_uses.proofs.Known.{block_law, declared_law}
use Rattle.som_proxy_uses.proofs.Noting.{run_is}
use Rattle.som_proxy_uses.proofs.laws.proxied_law.Goals as goal

pub returns-clause-block : goal.returns-clause-block
returns-clause-block c = block_law

pub returns-clause-declared : goal.returns-clause-declared
returns-clause-declared c = declared_law

pub returns-clause-kernel : goal.returns-clause-kernel
returns-clause-kernel c cs main = refl

pub returns-clause-parts : goal.returns-clause-parts
returns-clause-parts c = run_is
