use Rattle.som_classmgr.proofs.Asking.{target_numbered}
use Rattle.som_classmgr.proofs.runtime.KernelLinkedRuntime.proxy_of.Goals as goal

pub unreachable-requires : goal.unreachable-requires
unreachable-requires c =
    let r = c.requires in
    let m = target_numbered c.args.self.now.classes c.classes-classes.ensures.loaded r.0 c.args.target.now r.1 r.2 in
    c.in-None.ensures.none m.0 m.1 m.2
