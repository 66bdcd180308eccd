use Rattle.som_compat.proofs.Placed.{derived_missing, proxy_missing}
use Rattle.som_compat.proofs.lookup.Lookup.place.Goals as goal

pub returns-in-Derived-clause-finds : goal.returns-in-Derived-clause-finds
returns-in-Derived-clause-finds c = rw c.in-Derived.is (derived_missing c.args.self.now.faces.now c.in-Derived.parents)

pub returns-in-Proxy-clause-finds : goal.returns-in-Proxy-clause-finds
returns-in-Proxy-clause-finds c = rw c.in-Proxy.is (proxy_missing c.args.self.now.faces.now c.in-Proxy.of)
