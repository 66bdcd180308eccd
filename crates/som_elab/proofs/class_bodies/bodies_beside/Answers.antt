use Rattle.std.proofs.Common.{sym, ap, ◌∙◌}
use Rattle.som_elab_methods.specs.Accessors.{body_of}
use Rattle.som_sema_drafts.specs.Drafts.{plain_draft}
use Rattle.som_verify_classes.specs.Places.{class_of_place}
use Rattle.som_verify_types.proofs.BodySteps.{entry_mem}
use Rattle.som_elab.specs.Blocks.{entry_body}
use Rattle.som_elab.specs.Contexts.{among_in, classes_in}
use Rattle.som_elab_methods.specs.Texts.{given}
use Rattle.som_elab.proofs.BodyLaws.{entry_sig_few, entry_sig_known}
use Rattle.som_elab.proofs.ClassSteps.{entry_next}
use Rattle.som_elab.proofs.class_bodies.bodies_beside.Goals as goal

pub entry_body-requires-clause-sig : goal.entry_body-requires-clause-sig
entry_body-requires-clause-sig c =
    entry_sig_known c.args.context.now c.requires.context c.args.place c.requires.place c.args.draft.now.decl c.requires.class c.in-Introduced.name c.in-Introduced.sig c.in-Introduced.way
    (entry_mem c.args.draft.now.decl.face.entries c.loop-entry.entry-index c.entry-item.result c.in-Introduced.name c.in-Introduced.sig c.in-Introduced.way (rw c.as_slice-entry-items.ensures at c.loop-entry-test.true) (rw c.as_slice-entry-items.ensures at c.entry-item.is) c.in-Introduced.is)

pub entry_body-requires-clause-few : goal.entry_body-requires-clause-few
entry_body-requires-clause-few c =
    entry_sig_few c.args.context.now c.requires.context c.args.place c.requires.place c.args.draft.now.decl c.requires.class c.in-Introduced.name c.in-Introduced.sig c.in-Introduced.way
    (entry_mem c.args.draft.now.decl.face.entries c.loop-entry.entry-index c.entry-item.result c.in-Introduced.name c.in-Introduced.sig c.in-Introduced.way (rw c.as_slice-entry-items.ensures at c.loop-entry-test.true) (rw c.as_slice-entry-items.ensures at c.entry-item.is) c.in-Introduced.is)

pub loop-entry-preserved : goal.loop-entry-preserved
loop-entry-preserved c =
    let own = class_of_place (classes_in c.args.context.now) c.args.place in
    let made = sym (ap (entry_body (among_in c.args.context.now) (given c.args.own.now) own c.in-Introduced.name c.in-Introduced.sig) (c.body_named-given.ensures ∙ ap (body_of (plain_draft c.args.draft.now)) c.as_slice.ensures)) ∙ c.in_ok-body.ensures in
    rw c.in_ok-push.ensures.ok (entry_next (among_in c.args.context.now) (given c.args.own.now) (plain_draft c.args.draft.now) own c.args.draft.now.decl.face.entries c.loop-entry.entry-index c.entry-item.result
    (rw c.as_slice-entry-items.ensures at c.loop-entry-test.true) (rw c.as_slice-entry-items.ensures at c.entry-item.is) c.loop-entry.bodies c.loop-entry.invariant c.in-Introduced.name c.in-Introduced.sig c.in-Introduced.way c.in-Introduced.is c.in_ok-body.body made)
