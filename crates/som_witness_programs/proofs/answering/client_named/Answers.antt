use Rattle.std.proofs.Common.{IfOk, ap, sym, subst, ◌∙◌}
use Rattle.std.proofs.lemmas.Bool.{eqb-true}
use Rattle.som_compat.specs.Told.{told}
use Rattle.som_model.specs.declared.class.Sig.{Sig}
use Rattle.som_model.specs.Compatible.{signature}
use Rattle.som_verify_forms.specs.Knowing.{all_of}
use Rattle.som_witness.specs.Showings.{Showing, changed_showing}
use Rattle.som_witness_programs.specs.Made.{IsMade}
use Rattle.som_witness_programs.proofs.Concluding.{all_is, below_shown, change_made, class_made, object_made, slot_made}
use Rattle.std.proofs.Common.{Option}
use Rattle.som_model.specs.declared.key.MethodRef.{MethodRef}
use Rattle.som_witness_programs.proofs.answering.client_named.Goals as goal

pub made_of_ancestor-requires-clause-library : goal.made_of_ancestor-requires-clause-library
made_of_ancestor-requires-clause-library c = (c.args.breach.now.class.now, ap (λ (m : MethodRef). m.class) c.requires.method)

pub returns-then-is_of : goal.returns-then-is_of
returns-then-is_of c = λ old new io inn.
    let b = told c.args.breach.now in
    subst (λ (s : Showing). IfOk c.made.result (IsMade old c.args.w.now c.args.method.now s)) (below_shown old new b (eqb-true b.rule 1 (sym c.is_of.ensures ∙ c.if-is_of.true))) (c.made.ensures old io)

pub returns-then-is_of-2 : goal.returns-then-is_of-2
returns-then-is_of-2 c = λ old new io inn.
    let b = told c.args.breach.now in
    subst (λ (s : Showing). IfOk c.made_of_ancestor.result (IsMade old c.args.w.now c.args.method.now s))
    (object_made old new b (all_of c.args.olds.now) c.args.method.now (all_is old c.args.olds.now io) c.requires.method (eqb-true b.rule 3 (sym c.is_of-else-is_of.ensures ∙ c.if-is_of-2.true))) (c.made_of_ancestor.ensures old io)

pub returns-then-is_of-3 : goal.returns-then-is_of-3
returns-then-is_of-3 c = λ old new io inn.
    let b = told c.args.breach.now in
    subst (λ (s : Showing). IfOk c.made_of_slot.result (IsMade old c.args.w.now c.args.method.now s))
    (slot_made old new b (all_of c.args.olds.now) c.args.method.now (all_is old c.args.olds.now io) c.requires.method (eqb-true b.rule 4 (sym c.is_of-else-is_of-2.ensures ∙ c.if-is_of-3.true))) (c.made_of_slot.ensures old io)

pub returns-then-is_of-4 : goal.returns-then-is_of-4
returns-then-is_of-4 c = λ old new io inn.
    let b = told c.args.breach.now in
    subst (λ (s : Showing). IfOk c.made_of_change.result (IsMade old c.args.w.now c.args.method.now s))
    (ap (λ (o : Option Sig). changed_showing (all_of c.args.news.now) o (signature (all_of c.args.news.now) c.args.method.now.class c.args.method.now.name)) c.signature_in-before.ensures
    ∙ change_made old new b (all_of c.args.olds.now) c.args.method.now (all_is old c.args.olds.now io) c.requires.method (all_of c.args.news.now) (all_is new c.args.news.now inn) (eqb-true b.rule 5 (sym c.is_of-else-is_of-3.ensures ∙ c.if-is_of-4.true)))
    (c.made_of_change.ensures old io)

pub returns-else-is_of-4 : goal.returns-else-is_of-4
returns-else-is_of-4 c = λ old new io inn.
    let b = told c.args.breach.now in
    subst (λ (s : Showing). IfOk c.made_of_metaclass.result (IsMade old c.args.w.now c.args.method.now s))
    (class_made old new b (all_of c.args.olds.now) c.args.method.now (all_is old c.args.olds.now io) c.requires.method (sym c.is_of.ensures ∙ c.if-is_of.false) (sym c.is_of-else-is_of.ensures ∙ c.if-is_of-2.false) (sym c.is_of-else-is_of-2.ensures ∙ c.if-is_of-3.false) (sym c.is_of-else-is_of-3.ensures ∙ c.if-is_of-4.false)) (c.made_of_metaclass.ensures old io)
