use Rattle.std.proofs.Common.{◌<◌, ◌≤◌, length, arith, sym, ◌∙◌}
use Rattle.som_interp_ops.proofs.Tops.{copied, local_within, local_past}
use Rattle.som_interp_ops.proofs.locals.local.Goals as goal

pub returns-then-place-len : goal.returns-then-place-len
returns-then-place-len c =
    let within : c.args.place < length c.args.locals.now.items = omega (arith, c.len.ensures, c.if-place-len.true) in
    copied c.copy_cell.result c.index.result.now _ c.copy_cell.ensures (c.index.ensures ∙ sym (local_within c.args.locals.now.items c.args.place c.index.result.now within))

pub returns-else-place-len : goal.returns-else-place-len
returns-else-place-len c =
    let past : length c.args.locals.now.items ≤ c.args.place = omega (arith, c.len.ensures, c.if-place-len.false) in
    sym (local_past c.args.locals.now.items c.args.place past)
