use Rattle.som_compat_levels.proofs.Keyed.{derived_missing, proxy_missing}
use Rattle.som_compat_levels.proofs.finding.find_key.Goals as goal

pub returns-in-Derived-clause-finds : goal.returns-in-Derived-clause-finds
returns-in-Derived-clause-finds c = rw c.in-Derived.is (derived_missing c.args.classes.now c.in-Derived.parents)

pub returns-in-Proxy-clause-finds : goal.returns-in-Proxy-clause-finds
returns-in-Proxy-clause-finds c = rw c.in-Proxy.is (proxy_missing c.args.classes.now c.in-Proxy.of)
