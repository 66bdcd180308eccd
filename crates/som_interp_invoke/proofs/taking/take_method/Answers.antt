use Rattle.std.proofs.Common.{inr, refl, ap, ◌∙◌}
use Rattle.som_interp_invoke.proofs.taking.take_method.Goals as goal

pub returns : goal.returns
returns c l cell = record {
  levels = refl;
  me = c.me.ensures;
  args = ap (λ v. v.items) c.replace-args.ensures.value;
  waits = inr (c.if-is_over.ensures.no refl, record c.args.left { stage = c.args.rest; call = record c.args.left.call { args = c.replace-args.new.dest } }, record { is = refl; given = ap (λ v. v.items) c.replace-args.ensures.after ∙ c.new.ensures.items }, c.in_ok-push.ensures.items);
}
