use Rattle.std.proofs.Common.{rules, ◌≡◌, ℕ, true, List, OnOk, sym, ◌∙◌, subst}
use Rattle.som_io.specs.Outside.{ShowsAll, ShowsFront}
use Rattle.som_trace.specs.Events.{call_event}
use Rattle.som_trace.specs.Filters.{shows_of}
use Rattle.som_trace.specs.Told.{event_text}
use Rattle.som_trace.proofs.EventLines.{call_pieces}
use Rattle.som_io.proofs.ShownLaws.{all_left}
use Rattle.som_trace.proofs.telling.tell_call.Goals as goal

pub returns-in_err-is_shown-clause-front : goal.returns-in_err-is_shown-clause-front
returns-in_err-is_shown-clause-front g c =
    let t = event_text (shows_of c.args.filter.now) c.args.prefix.now (call_event (g.N.ClassKeys.known c.args.classes.now) c.args.call) in
    (t, all_left (g.K.Sink.written c.args.out.now) t)

pub returns-then-not-branch-clause-front : goal.returns-then-not-branch-clause-front
returns-then-not-branch-clause-front g c =
    let t = event_text (shows_of c.args.filter.now) c.args.prefix.now (call_event (g.N.ClassKeys.known c.args.classes.now) c.args.call) in
    (t, all_left (g.K.Sink.written c.args.out.now) t)

pub returns-clause-ok : goal.returns-clause-ok
returns-clause-ok g c =
    let k = g.N.ClassKeys.known c.args.classes.now in
    let shown : c.in_ok-is_shown.field-0 ≡ true = search rules in
    let same = call_pieces (shows_of c.args.filter.now) c.args.prefix.now k c.args.call c.as_slice.result.now c.as_slice-2.result.now c.word_of.result.now c.number.result c.number-2.result
    c.as_slice.ensures (c.number.ensures ∙ c.class.ensures) (c.as_slice-2.ensures ∙ c.method_name.ensures) c.word_of.ensures c.number-2.ensures (sym c.in_ok-is_shown.ensures ∙ shown) in
    subst (λ (t : List ℕ). OnOk c.send_parts.result (ShowsAll (g.K.Sink.written c.args.out.now) (g.K.Sink.written c.send_parts.new.out) t)) same c.send_parts.ensures.ok

pub returns-clause-front : goal.returns-clause-front
returns-clause-front g c =
    let k = g.N.ClassKeys.known c.args.classes.now in
    let shown : c.in_ok-is_shown.field-0 ≡ true = search rules in
    let same = call_pieces (shows_of c.args.filter.now) c.args.prefix.now k c.args.call c.as_slice.result.now c.as_slice-2.result.now c.word_of.result.now c.number.result c.number-2.result
    c.as_slice.ensures (c.number.ensures ∙ c.class.ensures) (c.as_slice-2.ensures ∙ c.method_name.ensures) c.word_of.ensures c.number-2.ensures (sym c.in_ok-is_shown.ensures ∙ shown) in
    subst (ShowsFront (g.K.Sink.written c.args.out.now) (g.K.Sink.written c.send_parts.new.out)) same c.send_parts.ensures.front
