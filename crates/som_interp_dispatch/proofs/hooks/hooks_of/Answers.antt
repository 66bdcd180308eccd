use Rattle.std.proofs.Common.{◌<◌, ◌≤◌, sym, subst, arith}
use Rattle.som_interp_dispatch.specs.Chosen.{HasHooks}
use Rattle.som_interp_dispatch.proofs.Finding.{hooks_none, hooks_kernel, hooks_all}
use Rattle.som_interp_dispatch.proofs.hooks.hooks_of.Goals as goal
use Rattle.som_interp_dispatch.proofs.hooks.hooks_of.Goals.{then-is_some-via-then-is_some, then-is_some-via-else-is_some+then-number-lt4}

pub returns-then-is_some : goal.returns-then-is_some
returns-then-is_some g c =
    let know = c.know.ensures in
    elim c.then-is_some.branch [
      | then-is_some-via-then-is_some v ↦ hooks_none _ _ _ _ _ know.agree know.loads _ know.closed c.args.left.now (sym v.if-is_some.ensures)
      | then-is_some-via-else-is_some+then-number-lt4 v ↦ (
          let few : c.args.left.now.call.method.0 < 4 = omega arith in
          hooks_kernel _ _ _ _ _ know.agree know.loads _ know.closed c.args.left.now c.requires.method few)
    ]

pub returns : goal.returns
returns g c =
    let know = c.know.ensures in
    let many : 4 ≤ c.args.left.now.call.method.0 = omega arith in
    subst (HasHooks (g.R.Runtime.linked c.args.runtime.now) (g.R.Classes.made c.args.runtime.now) c.args.left.now) (sym c.as_slice.ensures)
    (hooks_all _ _ _ _ _ know.agree know.loads _ know.closed c.args.left.now c.hooks.result.now c.if-is_some.ensures many c.requires c.hooks.ensures.numbered c.hooks.ensures.keys)
