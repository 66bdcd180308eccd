use Rattle.std.proofs.Common.{inr, Ok, Err, sym, ap, subst, ◌∙◌, ◌≡◌, ◌≤◌, ◌+◌, []}
use Rattle.std.proofs.lemmas.Result.{err_from_is_err_and}
use Rattle.som_trace.specs.Filters.{shows_of}
use Rattle.som_interp_loop.specs.Scene.{scene}
use Rattle.som_interp_dispatch.specs.Entered.{IsReady}
use Rattle.som_interp_state.specs.Named.{HasOwner}
use Rattle.som_interp_invoke.specs.Chosen.{First, IsFirst, Planned, count_of, line_of, plan_first, self_of}
use Rattle.som_interp_invoke.specs.Taken.{args_of}
use Rattle.som_interp_invoke.specs.Beginning.{Began, Begins}
use Rattle.som_interp_invoke.specs.Stepping.{Invoked, Stands}
use Rattle.som_interp_invoke.proofs.Coming.{all_front, invoked_none, invoked_stopped, invoked_wanting, ready, self_had}
use Rattle.som_interp_invoke.proofs.Began.{begins_mid, invoked, then_waits}
use Rattle.som_machine_laws.specs.Counted.{first_looks}
use Rattle.som_interp_state.specs.Standing.{left_shown}
use Rattle.som_interp_state.specs.Named.{setting}
use Rattle.som_interp_invoke.proofs.Costing.{cost_begun, cost_looked, cost_of, left_made, looks_none, quiet_begun}
use Rattle.som_interp_invoke.proofs.invoking.invoke.Goals as goal

pub plan-requires-clause-ready : goal.plan-requires-clause-ready
plan-requires-clause-ready g c =
    let r = c.args.runtime.now in
    let t = c.args.task.now in
    let i = c.requires.invoking in
    let x = c.requires.standing in
    let s = subst (λ y. Stands (scene (g.R.Runtime.linked r) (g.R.ClassKeys.known r) (g.R.Runtime.program r) (g.R.Classes.made r) c.args.objects.now t c.args.fuel.now) y x.0 x.1 x.2) i.2 x.3 in
    subst (IsReady (g.R.Runtime.linked r) (g.R.Classes.made r)) (sym (c.left_of-left.ensures i.0 i.1 i.2))
    (ready (g.R.Runtime.linked r) (g.R.ClassKeys.known r) (g.R.Runtime.program r) (g.R.Classes.made r) c.args.objects.now t i.0 i.1 c.args.fuel.now x.0 x.1 x.2 s)

pub plan-requires-clause-me : goal.plan-requires-clause-me
plan-requires-clause-me g c =
    let r = c.args.runtime.now in
    let t = c.args.task.now in
    let i = c.requires.invoking in
    let x = c.requires.standing in
    let l = g.R.Runtime.linked r in
    let s = subst (λ y. Stands (scene l (g.R.ClassKeys.known r) (g.R.Runtime.program r) (g.R.Classes.made r) c.args.objects.now t c.args.fuel.now) y x.0 x.1 x.2) i.2 x.3 in
    subst (λ left. (f : First) → IsFirst l left f → HasOwner l (g.R.Classes.made r) c.args.objects.now (self_of left f.role)) (sym (c.left_of-left.ensures i.0 i.1 i.2))
    (self_had l (g.R.ClassKeys.known r) (g.R.Runtime.program r) (g.R.Classes.made r) c.args.objects.now t i.0 i.1 c.args.fuel.now x.0 x.1 x.2 s)

pub returns-in_err-planned-clause-invoked : goal.returns-in_err-planned-clause-invoked
returns-in_err-planned-clause-invoked g c =
    let r = c.args.runtime.now in
    let l = g.R.Runtime.linked r in
    let t = c.args.task.now in
    let os = c.args.objects.now in
    let i = c.requires.invoking in
    let shows = shows_of c.args.trace.now in
    let prefix = c.args.prefix.now in
    let before = g.K.Sink.written c.args.out.now in
    let after = g.K.Sink.written c.plan.new.out in
    let p = err_from_is_err_and c.from_residual.result c.from_residual.ensures.1 in
    let planned = subst (λ left. Planned l os left shows prefix before after t.codes c.plan.new.codes c.args.fuel.now c.plan.new.fuel (Err c.in_err-planned.field-0.0)) (c.left_of-left.ensures i.0 i.1 i.2) c.in_err-planned.ensures.planned in
    subst (λ y. Invoked shows prefix before after
    (scene l (g.R.ClassKeys.known r) (g.R.Runtime.program r) (g.R.Classes.made r) os t c.args.fuel.now)
    (scene l (g.R.ClassKeys.known r) (g.R.Runtime.program r) (g.R.Classes.made r) os (record t { codes = c.plan.new.codes }) c.plan.new.fuel) y)
    (sym (p.1 ∙ ap (λ e. Err e) p.2))
    (invoked_stopped l (g.R.ClassKeys.known r) (g.R.Runtime.program r) (g.R.Classes.made r) os t i.0 i.1 i.2 shows prefix before c.args.fuel.now c.plan.new.fuel t.frames c.plan.new.codes c.plan.ensures.more.0 c.plan.ensures.more.1 after c.in_err-planned.field-0.0 planned)

pub returns-in_default-clause-invoked : goal.returns-in_default-clause-invoked
returns-in_default-clause-invoked g c =
    let r = c.args.runtime.now in
    let l = g.R.Runtime.linked r in
    let t = c.args.task.now in
    let os = c.args.objects.now in
    let i = c.requires.invoking in
    let shows = shows_of c.args.trace.now in
    let prefix = c.args.prefix.now in
    let before = g.K.Sink.written c.args.out.now in
    let after = g.K.Sink.written c.plan.new.out in
    let left = subst (λ x. Planned l os x shows prefix before after t.codes c.plan.new.codes c.args.fuel.now c.plan.new.fuel (Ok c.in_ok-planned.planned)) (c.left_of-left.ensures i.0 i.1 i.2) c.in_ok-planned.ensures.planned in
    let planned = subst (λ x. Planned l os i.0 shows prefix before after t.codes c.plan.new.codes c.args.fuel.now c.plan.new.fuel (Ok x)) c.in_default.is left in
    invoked_none l (g.R.ClassKeys.known r) (g.R.Runtime.program r) (g.R.Classes.made r) os t i.0 i.1 i.2 shows prefix before c.args.fuel.now c.plan.new.fuel c.take_answer.new.frames c.plan.new.codes c.plan.ensures.more.0 c.plan.ensures.more.1
    after c.take_answer.result (c.take_answer.ensures.answer i.0 i.1 i.2) c.plan.ensures.codes (ap (λ v. v.items) c.take_answer.ensures.waiting) planned

pub returns-in_err-taken-clause-invoked : goal.returns-in_err-taken-clause-invoked
returns-in_err-taken-clause-invoked g c =
    let r = c.args.runtime.now in
    let l = g.R.Runtime.linked r in
    let t = c.args.task.now in
    let os = c.args.objects.now in
    let i = c.requires.invoking in
    let shows = shows_of c.args.trace.now in
    let prefix = c.args.prefix.now in
    let before = g.K.Sink.written c.args.out.now in
    let after = g.K.Sink.written c.plan.new.out in
    let plan = c.in-Some.plan in
    let left = subst (λ x. Planned l os x shows prefix before after t.codes c.plan.new.codes c.args.fuel.now c.plan.new.fuel (Ok c.in_ok-planned.planned)) (c.left_of-left.ensures i.0 i.1 i.2) c.in_ok-planned.ensures.planned in
    let planned = subst (λ x. Planned l os i.0 shows prefix before after t.codes c.plan.new.codes c.args.fuel.now c.plan.new.fuel (Ok x)) c.in-Some.is left in
    let p = err_from_is_err_and c.from_residual-in_err-taken.result c.from_residual-in_err-taken.ensures.1 in
    let first = plan_first plan planned.0 in
    subst (λ y. Invoked shows prefix before after
    (scene l (g.R.ClassKeys.known r) (g.R.Runtime.program r) (g.R.Classes.made r) os t c.args.fuel.now)
    (scene l (g.R.ClassKeys.known r) (g.R.Runtime.program r) (g.R.Classes.made r) os (record t { frames = c.take.new.frames; codes = c.plan.new.codes }) c.plan.new.fuel) y)
    (sym p.1)
    (invoked_wanting l (g.R.ClassKeys.known r) (g.R.Runtime.program r) (g.R.Classes.made r) os t i.0 i.1 i.2 shows prefix before c.args.fuel.now c.plan.new.fuel c.take.new.frames c.plan.new.codes c.plan.ensures.more.0 c.plan.ensures.more.1
    after p.0 (inr p.2) first planned.1 planned.2 planned.3 (all_front before after (line_of l shows prefix i.0 first) planned.4))

pub begin-requires : goal.begin-requires
begin-requires g c =
    let r = c.args.runtime.now in
    let l = g.R.Runtime.linked r in
    let kn = g.R.ClassKeys.known r in
    let main = g.R.Runtime.program r in
    let made = g.R.Classes.made r in
    let t = c.args.task.now in
    let os = c.args.objects.now in
    let i = c.requires.invoking in
    let x = c.requires.standing in
    let shows = shows_of c.args.trace.now in
    let prefix = c.args.prefix.now in
    let before = g.K.Sink.written c.args.out.now in
    let after = g.K.Sink.written c.plan.new.out in
    let plan = c.in-Some.plan in
    let cs = c.plan.new.codes in
    let fr = c.take.new.frames in
    let left = subst (λ x. Planned l os x shows prefix before after t.codes cs c.args.fuel.now c.plan.new.fuel (Ok c.in_ok-planned.planned)) (c.left_of-left.ensures i.0 i.1 i.2) c.in_ok-planned.ensures.planned in
    let planned = subst (λ x. Planned l os i.0 shows prefix before after t.codes cs c.args.fuel.now c.plan.new.fuel (Ok x)) c.in-Some.is left in
    let taken = c.in_ok-taken.ensures i.0 i.1 i.2 in
    let s = subst (λ y. Stands (scene l kn main made os t c.args.fuel.now) y x.0 x.1 x.2) i.2 x.3 in
    let ws = then_waits l kn main made os t i.0 i.1 c.args.fuel.now c.plan.new.fuel x.0 x.1 x.2 s fr cs c.plan.ensures.more.0 c.plan.ensures.more.1 c.plan.ensures.codes plan planned.0 planned.1 planned.2 planned.5 taken.waits in
    let mid = scene l kn main made os (record t { frames = fr; codes = cs }) c.plan.new.fuel in
    record {
      can = (
        c.plan.new.fuel,
        x.0,
        ws,
        planned.0,
        subst (λ me. Begins mid x.0 ws plan.begun planned.0 me c.in_ok-taken.taken.args.items) (sym taken.me)
            (subst (λ args. Begins mid x.0 ws plan.begun planned.0 (self_of i.0 plan.role) args) (sym taken.args)
            (begins_mid l kn main made os t i.0 i.1 c.args.fuel.now c.plan.new.fuel x.0 x.1 x.2 s fr cs c.plan.ensures.more.0 c.plan.ensures.more.1 c.plan.ensures.codes plan planned.0 planned.1 planned.2 planned.5 taken.waits)),
      );
    }

pub returns-clause-invoked : goal.returns-clause-invoked
returns-clause-invoked g c =
    let r = c.args.runtime.now in
    let l = g.R.Runtime.linked r in
    let kn = g.R.ClassKeys.known r in
    let main = g.R.Runtime.program r in
    let made = g.R.Classes.made r in
    let t = c.args.task.now in
    let os = c.args.objects.now in
    let i = c.requires.invoking in
    let shows = shows_of c.args.trace.now in
    let prefix = c.args.prefix.now in
    let before = g.K.Sink.written c.args.out.now in
    let after = g.K.Sink.written c.plan.new.out in
    let plan = c.in-Some.plan in
    let cs = c.plan.new.codes in
    let fr = c.take.new.frames in
    let left = subst (λ x. Planned l os x shows prefix before after t.codes cs c.args.fuel.now c.plan.new.fuel (Ok c.in_ok-planned.planned)) (c.left_of-left.ensures i.0 i.1 i.2) c.in_ok-planned.ensures.planned in
    let planned = subst (λ x. Planned l os i.0 shows prefix before after t.codes cs c.args.fuel.now c.plan.new.fuel (Ok x)) c.in-Some.is left in
    let taken = c.in_ok-taken.ensures i.0 i.1 i.2 in
    let n = c.begin.new.runtime in
    let new = scene (g.R.Runtime.linked n) (g.R.ClassKeys.known n) (g.R.Runtime.program n) (g.R.Classes.made n) c.begin.new.objects c.begin.new.task c.plan.new.fuel in
    let mid = scene l kn main made os (record t { frames = fr; codes = cs }) c.plan.new.fuel in
    invoked l kn main made os t i.0 i.1 i.2 shows prefix before after c.args.fuel.now c.plan.new.fuel fr cs c.plan.ensures.more.0 c.plan.ensures.more.1 c.plan.ensures.codes plan planned.0 planned.1 planned.2 planned.3 planned.4 planned.5 taken.waits
    new c.begin.result c.begin.ensures.unspent
    (subst (λ levels. Began mid new plan.begun levels (self_of i.0 plan.role) (args_of l i.0 plan.role) c.begin.result) taken.levels
    (subst (λ me. Began mid new plan.begun c.in_ok-taken.taken.levels me (args_of l i.0 plan.role) c.begin.result) taken.me
    (subst (λ args. Began mid new plan.begun c.in_ok-taken.taken.levels c.in_ok-taken.taken.me args c.begin.result) taken.args
    (c.begin.ensures.began c.plan.new.fuel))))

pub returns-in_err-planned-clause-steps : goal.returns-in_err-planned-clause-steps
returns-in_err-planned-clause-steps g c left cell xs cs is direct without =
    let r = c.args.runtime.now in
    let x = c.requires.standing in
    let made = g.R.Classes.made r in
    cost_of (g.R.Runtime.linked r) made xs cs _ left _ _ (c.left_of-left.ensures left cell is) without
    (left_made (scene (g.R.Runtime.linked r) (g.R.ClassKeys.known r) (g.R.Runtime.program r) made c.args.objects.now c.args.task.now c.args.fuel.now) x.0 x.1 x.2 _ left cell is x.3) (c.plan.ensures.cost xs cs)

pub returns-in_default-clause-steps : goal.returns-in_default-clause-steps
returns-in_default-clause-steps g c left cell xs cs is direct without =
    let r = c.args.runtime.now in
    let x = c.requires.standing in
    let made = g.R.Classes.made r in
    cost_of (g.R.Runtime.linked r) made xs cs _ left _ _ (c.left_of-left.ensures left cell is) without
    (left_made (scene (g.R.Runtime.linked r) (g.R.ClassKeys.known r) (g.R.Runtime.program r) made c.args.objects.now c.args.task.now c.args.fuel.now) x.0 x.1 x.2 _ left cell is x.3) (c.plan.ensures.cost xs cs)

pub returns-in_err-taken-clause-steps : goal.returns-in_err-taken-clause-steps
returns-in_err-taken-clause-steps g c left cell xs cs is direct without =
    let r = c.args.runtime.now in
    let x = c.requires.standing in
    let made = g.R.Classes.made r in
    cost_of (g.R.Runtime.linked r) made xs cs _ left _ _ (c.left_of-left.ensures left cell is) without
    (left_made (scene (g.R.Runtime.linked r) (g.R.ClassKeys.known r) (g.R.Runtime.program r) made c.args.objects.now c.args.task.now c.args.fuel.now) x.0 x.1 x.2 _ left cell is x.3) (c.plan.ensures.cost xs cs)

pub returns-clause-steps : goal.returns-clause-steps
returns-clause-steps g c left cell xs cs is direct without =
    let r = c.args.runtime.now in
    let l = g.R.Runtime.linked r in
    let made = g.R.Classes.made r in
    let x = c.requires.standing in
    let e = c.left_of-left.ensures left cell is in
    let cost = cost_of l made xs cs _ left _ _ e without
    (left_made (scene l (g.R.ClassKeys.known r) (g.R.Runtime.program r) made c.args.objects.now c.args.task.now c.args.fuel.now) x.0 x.1 x.2 _ left cell is x.3) (c.plan.ensures.cost xs cs) in
    let shows = shows_of c.args.trace.now in
    let prefix = c.args.prefix.now in
    let before = g.K.Sink.written c.args.out.now in
    let after = g.K.Sink.written c.plan.new.out in
    let here = subst (λ y. Planned l c.args.objects.now y shows prefix before after c.args.task.now.codes c.plan.new.codes c.args.fuel.now c.plan.new.fuel (Ok c.in_ok-planned.planned)) e c.in_ok-planned.ensures.planned in
    let planned = subst (λ x. Planned l c.args.objects.now left shows prefix before after c.args.task.now.codes c.plan.new.codes c.args.fuel.now c.plan.new.fuel (Ok x)) c.in-Some.is here in
    subst (λ n. n ≤ c.args.steps.now + first_looks (left_shown (setting l xs cs) left)) (sym (c.begin.ensures.steps (looks_none l left xs cs direct c.plan.new.codes c.in-Some.plan planned.0 (count_of left c.in-Some.plan.role) planned.1 planned.5))) cost

pub returns-in_err-planned-clause-searches : goal.returns-in_err-planned-clause-searches
returns-in_err-planned-clause-searches g c left cell xs cs n is without have =
    let r = c.args.runtime.now in
    let x = c.requires.standing in
    let l = g.R.Runtime.linked r in
    let made = g.R.Classes.made r in
    cost_looked n _ _ (left_shown (setting l xs cs) left) (cost_of l made xs cs _ left _ _ (c.left_of-left.ensures left cell is) without
    (left_made (scene l (g.R.ClassKeys.known r) (g.R.Runtime.program r) made c.args.objects.now c.args.task.now c.args.fuel.now) x.0 x.1 x.2 _ left cell is x.3) (c.plan.ensures.cost xs cs))

pub returns-in_default-clause-searches : goal.returns-in_default-clause-searches
returns-in_default-clause-searches g c left cell xs cs n is without have =
    let r = c.args.runtime.now in
    let x = c.requires.standing in
    let l = g.R.Runtime.linked r in
    let made = g.R.Classes.made r in
    cost_looked n _ _ (left_shown (setting l xs cs) left) (cost_of l made xs cs _ left _ _ (c.left_of-left.ensures left cell is) without
    (left_made (scene l (g.R.ClassKeys.known r) (g.R.Runtime.program r) made c.args.objects.now c.args.task.now c.args.fuel.now) x.0 x.1 x.2 _ left cell is x.3) (c.plan.ensures.cost xs cs))

pub returns-in_err-taken-clause-searches : goal.returns-in_err-taken-clause-searches
returns-in_err-taken-clause-searches g c left cell xs cs n is without have =
    let r = c.args.runtime.now in
    let x = c.requires.standing in
    let l = g.R.Runtime.linked r in
    let made = g.R.Classes.made r in
    cost_looked n _ _ (left_shown (setting l xs cs) left) (cost_of l made xs cs _ left _ _ (c.left_of-left.ensures left cell is) without
    (left_made (scene l (g.R.ClassKeys.known r) (g.R.Runtime.program r) made c.args.objects.now c.args.task.now c.args.fuel.now) x.0 x.1 x.2 _ left cell is x.3) (c.plan.ensures.cost xs cs))

pub returns-clause-searches : goal.returns-clause-searches
returns-clause-searches g c left cell xs cs n is without have =
    let r = c.args.runtime.now in
    let l = g.R.Runtime.linked r in
    let made = g.R.Classes.made r in
    let x = c.requires.standing in
    let e = c.left_of-left.ensures left cell is in
    let cost = cost_of l made xs cs _ left _ _ e without
    (left_made (scene l (g.R.ClassKeys.known r) (g.R.Runtime.program r) made c.args.objects.now c.args.task.now c.args.fuel.now) x.0 x.1 x.2 _ left cell is x.3) (c.plan.ensures.cost xs cs) in
    let shows = shows_of c.args.trace.now in
    let prefix = c.args.prefix.now in
    let before = g.K.Sink.written c.args.out.now in
    let after = g.K.Sink.written c.plan.new.out in
    let here = subst (λ y. Planned l c.args.objects.now y shows prefix before after c.args.task.now.codes c.plan.new.codes c.args.fuel.now c.plan.new.fuel (Ok c.in_ok-planned.planned)) e c.in_ok-planned.ensures.planned in
    let planned = subst (λ x. Planned l c.args.objects.now left shows prefix before after c.args.task.now.codes c.plan.new.codes c.args.fuel.now c.plan.new.fuel (Ok x)) c.in-Some.is here in
    let know = c.know.ensures in
    cost_begun l left xs cs n c.in-Some.plan planned.0 planned.1
    (quiet_begun (g.R.Classes.keys r) (g.R.Classes.world r) (g.R.ClassKeys.known r) l (g.R.Runtime.program r) know.agree know.loads c.plan.new.codes c.in-Some.plan.begun (count_of left c.in-Some.plan.role) planned.0 planned.5)
    c.args.steps.now c.plan.new.steps c.begin.new.steps cost c.begin.ensures.steps (c.begin.ensures.searches n have)
