use Rattle.std.proofs.Common.{sym, subst}
use Rattle.som_interp_ops.specs.Doing.{Did}
use Rattle.som_interp_body.proofs.plain.plainly.Goals as goal

pub returns-in-Binary-clause-did : goal.returns-in-Binary-clause-did
returns-in-Binary-clause-did g c s h classes apart own heap = subst (λ i. Did s h c.args.body.now c.binary.result c.binary.new.body i) (sym c.in-Binary.is) (c.binary.ensures.did s c.args.objects.now h apart own)
