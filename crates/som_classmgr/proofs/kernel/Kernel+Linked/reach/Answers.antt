use Rattle.std.proofs.Common.{◌∷◌, subst, sym}
use Rattle.som_meta.specs.Numbering.{key_at}
use Rattle.som_class_kernel.specs.Linked.{Linkage}
use Rattle.som_classmgr.specs.Reached.{IsMadeBy}
use Rattle.som_classmgr.proofs.Reached.{err_then, ok_then, reached_more, tried_more}
use Rattle.som_classmgr.proofs.kernel.Kernel+Linked.reach.Goals as goal

pub returns-clause-all : goal.returns-clause-all
returns-clause-all c = λ roots tried by.
    let s = c.self.view_is in
    ok_then c.reach.result
    (λ made. subst (λ (z : Linkage). IsMadeBy (key_at z.classes c.args.class ∷ roots) tried c.reach.new.self) s
    (reached_more c.self.inside.stage c.reach.new.self c.reach.ensures.classes c.args.class roots tried (subst (IsMadeBy roots tried) (sym s) by) c.reach.ensures.keeps made c.reach.ensures.only))
    c.reach.ensures.made

pub returns-clause-some : goal.returns-clause-some
returns-clause-some c = λ roots tried by.
    let s = c.self.view_is in
    err_then c.reach.result
    (subst (λ (z : Linkage). IsMadeBy roots (key_at z.classes c.args.class ∷ tried) c.reach.new.self) s
    (tried_more c.self.inside.stage c.reach.new.self c.reach.ensures.classes c.args.class roots tried (subst (IsMadeBy roots tried) (sym s) by) c.reach.ensures.keeps c.reach.ensures.only))
