use Rattle.std.proofs.Common.{◌≡◌, ◌<◌, length, slice_set, arith, ap, sym, ◌∙◌}
use Rattle.som_interp_ops.proofs.Tops.{set_within, set_last, set_past}
use Rattle.som_interp_ops.proofs.locals.put.Goals as goal

pub returns-then-place-len : goal.returns-then-place-len
returns-then-place-len c =
    let within : c.args.place < length c.args.locals.now.items = omega (arith, c.len.ensures, c.if-place-len.true) in
    ap (λ x. slice_set c.args.locals.now.items c.args.place x) c.replace.ensures.after ∙ sym (set_within c.args.locals.now.items c.args.place c.args.cell within)

pub returns-in_ok-push : goal.returns-in_ok-push
returns-in_ok-push c =
    let at : c.args.place ≡ length c.args.locals.now.items = omega (arith, c.len-else-place-len.ensures, c.if-place-len-2.true) in
    c.in_ok-push.ensures.items ∙ sym (set_last c.args.locals.now.items c.args.place c.args.cell at)

pub returns-else-place-len-2 : goal.returns-else-place-len-2
returns-else-place-len-2 c =
    let past : length c.args.locals.now.items < c.args.place = omega (arith, c.len.ensures, c.if-place-len.false, c.len-else-place-len.ensures, c.if-place-len-2.false) in
    sym (set_past c.args.locals.now.items c.args.place c.args.cell past)
