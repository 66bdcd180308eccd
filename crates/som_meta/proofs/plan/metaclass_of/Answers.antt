use Rattle.som_meta.specs.Numbering.{IsNumbered}
use Rattle.som_meta.specs.Planning.{constraints}
use Rattle.som_meta.proofs.Plans.{plan-keys, firsts-all}
use Rattle.som_meta.proofs.plan.metaclass_of.Goals as goal

pub lowest-requires : goal.lowest-requires
lowest-requires g c =
    rw (c.as_slice-3.ensures, c.in_ok-once.ensures, c.as_slice-2.ensures, c.in_ok-all.ensures, c.as_slice.ensures)
    (firsts-all (IsNumbered (g.H.Ancestry.known c.args.known.now)) (constraints c.args.declared c.args.parent_metas.now) c.requires)

pub returns-clause-meta : goal.returns-clause-meta
returns-clause-meta g c =
    rw (c.plan.ensures, c.in_ok-lowest.ensures, c.as_slice-3.ensures, c.in_ok-once.ensures, c.as_slice-2.ensures, c.in_ok-all.ensures, c.as_slice.ensures)
    (plan-keys (g.H.Ancestry.known c.args.known.now) c.before_after.ensures.apart c.args.declared c.args.parent_metas.now c.requires)
