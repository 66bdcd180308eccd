use Rattle.std.proofs.Common.{Ok, Err, ap, sym, ◌∙◌}
use Rattle.std.proofs.lemmas.Result.{err_from_is_err_and}
use Rattle.som_values.specs.Shown.{key_of}
use Rattle.som_interp_state.proofs.Asking.{asked_within}
use Rattle.som_interp_dispatch.proofs.Known.{sig_known}
use Rattle.som_interp_dispatch.proofs.Naming.{method_means, method_fails}
use Rattle.som_interp_dispatch.proofs.Owning.{self_owned, args_classed}
use Rattle.som_interp_dispatch.proofs.passed.method_of.Goals as goal

pub live_class-class-requires-clause-me : goal.live_class-class-requires-clause-me
live_class-class-requires-clause-me g c = self_owned _ _ _ _ _ c.requires.owner

pub sig_fits-requires-clause-known : goal.sig_fits-requires-clause-known
sig_fits-requires-clause-known g c = let know = c.know.ensures in sig_known _ _ _ _ _ know.agree know.loads _ _ c.signature.ensures

pub sig_fits-requires-clause-classed : goal.sig_fits-requires-clause-classed
sig_fits-requires-clause-classed g c = args_classed _ _ _ _ _ _ c.know.ensures.agree.linked_numbers c.requires.owner

pub returns-in_err-sig_fits-clause-means : goal.returns-in_err-sig_fits-clause-means
returns-in_err-sig_fits-clause-means g c xs h holds me seen =
    let p = err_from_is_err_and c.from_residual.result c.from_residual.ensures.1 in
    method_fails _ _ _ _ c.know.ensures.agree _ _ _ _ xs h _ _ _ _ c.in_err-sig_fits.field-0.0 _ (p.1 ∙ ap (λ z. Err z) p.2) (c.live_class-class.ensures.means xs h holds me) c.in-Some.ensures.some.1 c.signature.ensures c.in_err-sig_fits.ensures holds seen

pub returns-clause-means : goal.returns-clause-means
returns-clause-means g c xs h holds me seen =
    method_means _ _ _ _ c.know.ensures.agree _ _ _ _ xs h _ _ _ _ (Ok c.in_ok-sig_fits.field-0) (c.live_class-class.ensures.means xs h holds me) c.in-Some.ensures.some.1 c.signature.ensures c.in_ok-sig_fits.ensures holds seen

pub returns-in_default-clause-cost : goal.returns-in_default-clause-cost
returns-in_default-clause-cost g c n have =
    let r = c.args.runtime.now in
    asked_within (g.R.ClassKeys.known r).classes (g.R.Classes.made r) n have c.args.name.now (key_of (g.R.Classes.keys r) c.live_class-class.result)
    (ap (λ z. g.R.Classes.made r (key_of z c.live_class-class.result)) (sym c.know.ensures.agree.linked_numbers) ∙ c.live_class-class.ensures.made.1) c.args.steps.now c.find.new.steps c.find.ensures.cost

pub returns-in_err-sig_fits-clause-cost : goal.returns-in_err-sig_fits-clause-cost
returns-in_err-sig_fits-clause-cost g c n have =
    let r = c.args.runtime.now in
    asked_within (g.R.ClassKeys.known r).classes (g.R.Classes.made r) n have c.args.name.now (key_of (g.R.Classes.keys r) c.live_class-class.result)
    (ap (λ z. g.R.Classes.made r (key_of z c.live_class-class.result)) (sym c.know.ensures.agree.linked_numbers) ∙ c.live_class-class.ensures.made.1) c.args.steps.now c.find.new.steps c.find.ensures.cost

pub returns-clause-cost : goal.returns-clause-cost
returns-clause-cost g c n have =
    let r = c.args.runtime.now in
    asked_within (g.R.ClassKeys.known r).classes (g.R.Classes.made r) n have c.args.name.now (key_of (g.R.Classes.keys r) c.live_class-class.result)
    (ap (λ z. g.R.Classes.made r (key_of z c.live_class-class.result)) (sym c.know.ensures.agree.linked_numbers) ∙ c.live_class-class.ensures.made.1) c.args.steps.now c.find.new.steps c.find.ensures.cost
