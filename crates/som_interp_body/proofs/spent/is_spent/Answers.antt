use Rattle.std.proofs.Common.{◌≡◌, false, refl, sym, subst, ◌∙◌, arith}
use Rattle.som_interp_state.specs.Settings.{shows}
use Rattle.som_interp_loop.specs.Scene.{scene, setting_of}
use Rattle.som_interp_loop.specs.NextInstruction.{act_of, is_call}
use Rattle.som_interp_body.proofs.Placing.{has_code, next_none, next_some}
use Rattle.som_interp_body.proofs.Spending.{none_goes, spent_none, takes_none, takes_spent}
use Rattle.som_interp_body.proofs.Varying.{top_own}
use Rattle.som_interp_body.proofs.spent.is_spent.Goals as goal

pub returns-then-fuel-gt0-clause-goes : goal.returns-then-fuel-gt0-clause-goes
returns-then-fuel-gt0-clause-goes g c e ws s runs fuel h =
    let r = c.args.runtime.now in
    let l = g.R.Runtime.linked r in
    let kn = g.R.ClassKeys.known r in
    let main = g.R.Runtime.program r in
    let made = g.R.Classes.made r in
    let os = c.args.objects.now in
    let t = c.args.task.now in
    let f = c.args.fuel in
    let b = c.args.body.now in
    let set = setting_of (scene l kn main made os t f) in
    let none = spent_none (act_of (scene l kn main made os t f) b ws) s h in
    omega (arith, none, fuel, c.if-fuel-gt0.true)

pub get-code-requires : goal.get-code-requires
get-code-requires g c =
    has_code c.args.task.now.codes c.args.body.now.code c.requires.running.2.next.own.code

pub wants_unit-requires : goal.wants_unit-requires
wants_unit-requires g c =
    let r = c.args.runtime.now in
    let l = g.R.Runtime.linked r in
    let kn = g.R.ClassKeys.known r in
    let main = g.R.Runtime.program r in
    let made = g.R.Classes.made r in
    let os = c.args.objects.now in
    let t = c.args.task.now in
    let f = c.args.fuel in
    let b = c.args.body.now in
    let set = setting_of (scene l kn main made os t f) in
    (top_own l kn main made os t f b c.requires.running.0 c.requires.running.1 c.requires.running.2).1

pub returns-then-body-len-clause-spent : goal.returns-then-body-len-clause-spent
returns-then-body-len-clause-spent g c e ws s runs fuel =
    let r = c.args.runtime.now in
    let l = g.R.Runtime.linked r in
    let kn = g.R.ClassKeys.known r in
    let main = g.R.Runtime.program r in
    let made = g.R.Classes.made r in
    let os = c.args.objects.now in
    let t = c.args.task.now in
    let f = c.args.fuel in
    let b = c.args.body.now in
    let set = setting_of (scene l kn main made os t f) in
    let none : f ≡ 0 = omega (arith, c.if-fuel-gt0.false) in
    takes_spent l kn main made os t f b ws s c.at.result.now (next_some t.codes b.code b.at c.get-code.result.now c.at.result.now c.at.result.now c.get-code.ensures c.at.ensures.value refl) (sym (c.wants_unit.ensures (shows set) s.heap runs.around.holding.heap.holds (top_own l kn main made os t f b s.heap ws runs).0) ∙ e) (fuel ∙ none)

pub returns-then-body-len-clause-goes : goal.returns-then-body-len-clause-goes
returns-then-body-len-clause-goes g c e ws s runs fuel =
    let r = c.args.runtime.now in
    let l = g.R.Runtime.linked r in
    let kn = g.R.ClassKeys.known r in
    let main = g.R.Runtime.program r in
    let made = g.R.Classes.made r in
    let os = c.args.objects.now in
    let t = c.args.task.now in
    let f = c.args.fuel in
    let b = c.args.body.now in
    let set = setting_of (scene l kn main made os t f) in
    takes_none l kn main made os t f b ws s c.at.result.now (next_some t.codes b.code b.at c.get-code.result.now c.at.result.now c.at.result.now c.get-code.ensures c.at.ensures.value refl) (subst (λ o. is_call o ≡ false) (next_some t.codes b.code b.at c.get-code.result.now c.at.result.now c.at.result.now c.get-code.ensures c.at.ensures.value refl) c.requires.no_call) (sym (c.wants_unit.ensures (shows set) s.heap runs.around.holding.heap.holds (top_own l kn main made os t f b s.heap ws runs).0) ∙ e)

pub returns-else-body-len-clause-goes : goal.returns-else-body-len-clause-goes
returns-else-body-len-clause-goes g c e ws s runs fuel =
    let r = c.args.runtime.now in
    let l = g.R.Runtime.linked r in
    let kn = g.R.ClassKeys.known r in
    let main = g.R.Runtime.program r in
    let made = g.R.Classes.made r in
    let os = c.args.objects.now in
    let t = c.args.task.now in
    let f = c.args.fuel in
    let b = c.args.body.now in
    let set = setting_of (scene l kn main made os t f) in
    none_goes l kn main made os t f b ws s (next_none t.codes b.code b.at c.len.result c.get-code.result.now c.get-code.ensures c.len.ensures.value c.if-body-len.false)
