use Rattle.std.proofs.lemmas.Result.{err_from_is_err_and}
use Rattle.som_model.specs.Conforming.{bodies_typed}
use Rattle.som_model.specs.Lists.{first}
use Rattle.som_verify_forms.specs.Knowing.{all_of}
use Rattle.som_verify_classes.specs.Modules.{class_of}
use Rattle.som_verify_types.proofs.BodySteps.{body_holds, body_stops, entry_mem, first_and_rest}
use Rattle.som_verify_types.proofs.typed_bodies.introduced_typed.Goals as goal

pub body_typed-requires-clause-sig : goal.body_typed-requires-clause-sig
body_typed-requires-clause-sig c = c.requires.signatures.by c.in-Introduced.name c.in-Introduced.sig c.in-Introduced.way
    (entry_mem c.args.class.now.decl.now.face.entries c.loop-entry.entry-index c.entry-item.result c.in-Introduced.name c.in-Introduced.sig c.in-Introduced.way (rw c.as_slice-entry-items.ensures at c.loop-entry-test.true) (rw c.as_slice-entry-items.ensures at c.entry-item.is) c.in-Introduced.is)

pub returns-in_err-body_typed : goal.returns-in_err-body_typed
returns-in_err-body_typed c =
    let p = err_from_is_err_and c.from_residual.result c.from_residual.ensures.1 in
    rw (p.1, p.2) (body_stops (all_of c.args.known.now) (class_of c.args.class.now) c.args.class.now.decl.now.face.entries c.loop-entry.bodies.now _ c.loop-entry.entry-index c.entry-item.result c.in-Introduced.name c.in-Introduced.sig c.in-Introduced.way c.body-item.result (rw c.as_slice-entry-items.ensures at c.loop-entry-test.true) (rw c.as_slice-entry-items.ensures at c.entry-item.is) c.in-Introduced.is (first_and_rest c.loop-entry.bodies.now c.body-item.result c.in-len1-up.len_at_least c.body-item.is) (first (bodies_typed (all_of c.args.known.now) (class_of c.args.class.now) c.args.class.now.decl.now.face.entries c.args.class.now.decl.now.bodies)) c.in_err-body_typed.field-0.0 c.in_err-body_typed.ensures c.loop-entry.invariant)

pub loop-entry-preserved : goal.loop-entry-preserved
loop-entry-preserved c = body_holds (all_of c.args.known.now) (class_of c.args.class.now) c.args.class.now.decl.now.face.entries c.loop-entry.bodies.now _ c.loop-entry.entry-index c.entry-item.result c.in-Introduced.name c.in-Introduced.sig c.in-Introduced.way c.body-item.result (rw c.as_slice-entry-items.ensures at c.loop-entry-test.true) (rw c.as_slice-entry-items.ensures at c.entry-item.is) c.in-Introduced.is (first_and_rest c.loop-entry.bodies.now c.body-item.result c.in-len1-up.len_at_least c.body-item.is) (first (bodies_typed (all_of c.args.known.now) (class_of c.args.class.now) c.args.class.now.decl.now.face.entries c.args.class.now.decl.now.bodies)) c.in_ok-body_typed.ensures c.loop-entry.invariant
