use Rattle.std.proofs.Common.{inr, refl, ap, subst, ◌∙◌}
use Rattle.std.proofs.lemmas.Result.{err_from_is_err_and}
use Rattle.som_io.specs.Outside.{ShowsAll, ShowsFront}
use Rattle.som_semantics.specs.State.{Printed}
use Rattle.som_semantics.specs.Values.{text_of}
use Rattle.som_trace.specs.Told.{event_text}
use Rattle.som_values.specs.Shown.{shown}
use Rattle.som_interp_state.specs.Settings.{shows}
use Rattle.som_interp_loop.specs.Scene.{scene}
use Rattle.som_io.proofs.ShownLaws.{front_none}
use Rattle.som_interp_body.proofs.Telling.{untold_wants}
use Rattle.som_interp_body.proofs.Special.{print_begins, print_comes, wants_comes}
use Rattle.som_interp_body.proofs.print.print.Goals as goal

pub returns-in_err-text-clause-comes : goal.returns-in_err-text-clause-comes
returns-in_err-text-clause-comes g c l kn main made os t f closed is =
    let p = err_from_is_err_and c.from_residual.result c.from_residual.ensures.1 in
    wants_comes (scene l kn main made os t f) (scene l kn main made os t f) c.args.body.now _ p.0 c.from_residual.result _ (inr p.2) p.1 (λ ws s runs fuel. print_begins l kn main made os t closed c.args.body.now f is ws s)

pub returns-in_err-text-clause-front : goal.returns-in_err-text-clause-front
returns-in_err-text-clause-front g c s shows = front_none (g.K.Sink.written c.args.out.now) _

pub returns-in_err-tell_printed-clause-comes : goal.returns-in_err-tell_printed-clause-comes
returns-in_err-tell_printed-clause-comes g c l kn main made os t f closed is =
    let p = err_from_is_err_and c.from_residual-in_err-tell_printed.result c.from_residual-in_err-tell_printed.ensures.1 in
    wants_comes (scene l kn main made os t f) (scene l kn main made os t f) c.args.body.now _ p.0 c.from_residual-in_err-tell_printed.result _ (untold_wants c.in_err-tell_printed.field-0.0 p.0 p.2) p.1 (λ ws s runs fuel. print_begins l kn main made os t closed c.args.body.now f is ws s)

pub returns-in_err-tell_printed-clause-front : goal.returns-in_err-tell_printed-clause-front
returns-in_err-tell_printed-clause-front g c s shows =
    subst (λ v. ShowsFront (g.K.Sink.written c.args.out.now) (g.K.Sink.written c.tell_printed.new.out) (event_text shows c.args.prefix.now (Printed v))) (c.in_ok-text.ensures s ∙ ap (λ x. text_of (shown s x)) c.pop-cell.ensures.cell) (c.tell_printed.ensures.front shows)

pub returns-clause-comes : goal.returns-clause-comes
returns-clause-comes g c l kn main made os t f closed is =
    print_comes l kn main made os t closed c.args.body.now f _ (record { levels = refl; me = refl; place = refl; zero = refl; code = refl }) refl c.pop-cell.ensures.rest refl is

pub returns-clause-tells : goal.returns-clause-tells
returns-clause-tells g c s shows =
    subst (λ v. ShowsAll (g.K.Sink.written c.args.out.now) (g.K.Sink.written c.tell_printed.new.out) (event_text shows c.args.prefix.now (Printed v))) (c.in_ok-text.ensures s ∙ ap (λ x. text_of (shown s x)) c.pop-cell.ensures.cell) (c.in_ok-tell_printed.ensures.ok shows)

pub returns-clause-front : goal.returns-clause-front
returns-clause-front g c s shows =
    subst (λ v. ShowsFront (g.K.Sink.written c.args.out.now) (g.K.Sink.written c.tell_printed.new.out) (event_text shows c.args.prefix.now (Printed v))) (c.in_ok-text.ensures s ∙ ap (λ x. text_of (shown s x)) c.pop-cell.ensures.cell) (c.in_ok-tell_printed.ensures.front shows)
