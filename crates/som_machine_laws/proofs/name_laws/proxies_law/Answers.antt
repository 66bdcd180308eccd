use Rattle.som_machine_laws.proofs.Proxies.{class_root, proxy_root}
use Rattle.som_machine_laws.proofs.name_laws.proxies_law.Goals as goal

pub returns-clause-named : goal.returns-clause-named
returns-clause-named c cs main b params n k m e = proxy_root cs main b params n k m e

pub returns-clause-declared : goal.returns-clause-declared
returns-clause-declared c cs main k m = class_root cs main k m
