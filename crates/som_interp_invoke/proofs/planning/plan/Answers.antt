use Rattle.std.proofs.Common.{inr, Err, sym, ap, subst, ◌∙◌}
use Rattle.std.proofs.lemmas.Result.{err_from_is_err_and}
use Rattle.som_io.specs.Outside.{ShowsAll, ShowsFront}
use Rattle.som_interp_invoke.specs.Begun.{held_of}
use Rattle.som_trace.specs.Filters.{shows_of}
use Rattle.som_trace.specs.Told.{event_text}
use Rattle.som_interp_invoke.specs.Chosen.{Planned, way_of}
use Rattle.som_interp_invoke.proofs.Firsts.{event_is, first_of, planned_ok, planned_stopped, planned_wanting, untold_wants, view_first}
use Rattle.som_interp_invoke.proofs.Costing.{costs_first}
use Rattle.som_interp_invoke.proofs.planning.plan.Goals as goal

pub test-requires-clause-me : goal.test-requires-clause-me
test-requires-clause-me g c =
    let l = g.R.Runtime.linked c.args.runtime.now in
    c.requires.me (view_first l c.in-Some.chosen) (first_of l c.args.left.now c.in-Some.chosen c.in-Some.ensures.next c.in-Some.ensures.named)

pub prepare-requires-clause-held : goal.prepare-requires-clause-held
prepare-requires-clause-held g c =
    let named = c.in-Some.ensures.named in
    record { class = named.class; method = named.method; held = named.held }

pub returns-in_err-test-clause-planned : goal.returns-in_err-test-clause-planned
returns-in_err-test-clause-planned g c =
    let l = g.R.Runtime.linked c.args.runtime.now in
    let p = err_from_is_err_and c.from_residual.result c.from_residual.ensures.1 in
    let shows = shows_of c.args.trace.now in
    let before = g.K.Sink.written c.args.out.now in
    let first = first_of l c.args.left.now c.in-Some.chosen c.in-Some.ensures.next c.in-Some.ensures.named in
    subst (λ r. Planned l c.args.objects.now c.args.left.now shows c.args.prefix.now before before c.args.codes.now c.args.codes.now c.args.fuel.now c.test.new.fuel r) (sym (p.1 ∙ ap (λ e. Err e) p.2))
    (planned_stopped l c.args.objects.now c.args.left.now shows c.args.prefix.now before before c.args.codes.now c.args.codes.now c.args.fuel.now c.test.new.fuel (view_first l c.in-Some.chosen) first c.in_err-test.field-0.0 c.in_err-test.ensures)

pub returns-in_err-tell_call-clause-planned : goal.returns-in_err-tell_call-clause-planned
returns-in_err-tell_call-clause-planned g c =
    let r = c.args.runtime.now in
    let l = g.R.Runtime.linked r in
    let p = err_from_is_err_and c.from_residual-in_err-tell_call.result c.from_residual-in_err-tell_call.ensures.1 in
    let shows = shows_of c.args.trace.now in
    let before = g.K.Sink.written c.args.out.now in
    let after = g.K.Sink.written c.tell_call.new.out in
    let chosen = c.in-Some.chosen in
    let first = first_of l c.args.left.now chosen c.in-Some.ensures.next c.in-Some.ensures.named in
    let told = event_is (g.R.Classes.keys r) (g.R.Classes.world r) (g.R.ClassKeys.known r) l c.know.ensures.agree chosen.body.method chosen.body.class c.manner-manner.result (way_of c.args.left.now chosen.role) c.manner-manner.ensures in
    planned_wanting l c.args.objects.now c.args.left.now shows c.args.prefix.now before after c.args.codes.now c.args.codes.now c.args.fuel.now c.test.new.fuel (view_first l chosen) first
    c.from_residual-in_err-tell_call.result p.0 p.1 (untold_wants c.in_err-tell_call.field-0.0 p.0 p.2) c.in_ok-test.ensures.0 c.in_ok-test.ensures.1
    (subst (λ e. ShowsFront before after (event_text shows c.args.prefix.now e)) told c.tell_call.ensures.front)

pub returns-in_err-begun-clause-planned : goal.returns-in_err-begun-clause-planned
returns-in_err-begun-clause-planned g c =
    let r = c.args.runtime.now in
    let l = g.R.Runtime.linked r in
    let p = err_from_is_err_and c.from_residual-in_err-begun.result c.from_residual-in_err-begun.ensures.1 in
    let shows = shows_of c.args.trace.now in
    let before = g.K.Sink.written c.args.out.now in
    let after = g.K.Sink.written c.tell_call.new.out in
    let chosen = c.in-Some.chosen in
    let first = first_of l c.args.left.now chosen c.in-Some.ensures.next c.in-Some.ensures.named in
    let told = event_is (g.R.Classes.keys r) (g.R.Classes.world r) (g.R.ClassKeys.known r) l c.know.ensures.agree chosen.body.method chosen.body.class c.manner-manner.result (way_of c.args.left.now chosen.role) c.manner-manner.ensures in
    planned_wanting l c.args.objects.now c.args.left.now shows c.args.prefix.now before after c.args.codes.now c.prepare.new.codes c.args.fuel.now c.test.new.fuel (view_first l chosen) first
    c.from_residual-in_err-begun.result p.0 p.1 (inr p.2) c.in_ok-test.ensures.0 c.in_ok-test.ensures.1
    (subst (λ e. ShowsFront before after (event_text shows c.args.prefix.now e)) told c.tell_call.ensures.front)

pub returns-clause-planned : goal.returns-clause-planned
returns-clause-planned g c =
    let r = c.args.runtime.now in
    let l = g.R.Runtime.linked r in
    let shows = shows_of c.args.trace.now in
    let before = g.K.Sink.written c.args.out.now in
    let after = g.K.Sink.written c.tell_call.new.out in
    let chosen = c.in-Some.chosen in
    let first = first_of l c.args.left.now chosen c.in-Some.ensures.next c.in-Some.ensures.named in
    let told = event_is (g.R.Classes.keys r) (g.R.Classes.world r) (g.R.ClassKeys.known r) l c.know.ensures.agree chosen.body.method chosen.body.class c.manner-manner.result (way_of c.args.left.now chosen.role) c.manner-manner.ensures in
    let prepared = c.in_ok-begun.ensures.prepared c.requires.codes in
    planned_ok l c.args.objects.now c.args.left.now shows c.args.prefix.now before after c.args.codes.now c.prepare.new.codes c.args.fuel.now c.test.new.fuel
    chosen.role chosen.rest c.in_ok-begun.begun chosen.body.method chosen.body.class (held_of l chosen.body) c.count.result prepared.class prepared.method first c.in_ok-test.ensures.0 c.in_ok-test.ensures.1
    (subst (λ e. ShowsAll before after (event_text shows c.args.prefix.now e)) told c.in_ok-tell_call.ensures.ok) prepared.begun c.count.ensures.is

pub returns-in_default-clause-cost : goal.returns-in_default-clause-cost
returns-in_default-clause-cost g c xs cs hooks = costs_first c.args.steps.now c.next.new.steps c.next.result (g.R.Runtime.linked c.args.runtime.now) _ _ c.args.left.now.stage (c.next.ensures.cost xs cs hooks) (c.next.ensures.next xs cs)

pub returns-in_err-test-clause-cost : goal.returns-in_err-test-clause-cost
returns-in_err-test-clause-cost g c xs cs hooks = costs_first c.args.steps.now c.next.new.steps c.next.result (g.R.Runtime.linked c.args.runtime.now) _ _ c.args.left.now.stage (c.next.ensures.cost xs cs hooks) (c.next.ensures.next xs cs)

pub returns-in_err-tell_call-clause-cost : goal.returns-in_err-tell_call-clause-cost
returns-in_err-tell_call-clause-cost g c xs cs hooks = costs_first c.args.steps.now c.next.new.steps c.next.result (g.R.Runtime.linked c.args.runtime.now) _ _ c.args.left.now.stage (c.next.ensures.cost xs cs hooks) (c.next.ensures.next xs cs)

pub returns-in_err-begun-clause-cost : goal.returns-in_err-begun-clause-cost
returns-in_err-begun-clause-cost g c xs cs hooks = costs_first c.args.steps.now c.next.new.steps c.next.result (g.R.Runtime.linked c.args.runtime.now) _ _ c.args.left.now.stage (c.next.ensures.cost xs cs hooks) (c.next.ensures.next xs cs)

pub returns-clause-cost : goal.returns-clause-cost
returns-clause-cost g c xs cs hooks = costs_first c.args.steps.now c.next.new.steps c.next.result (g.R.Runtime.linked c.args.runtime.now) _ _ c.args.left.now.stage (c.next.ensures.cost xs cs hooks) (c.next.ensures.next xs cs)
