use Rattle.std.proofs.Common.{ℕ, List, [], slice_index_or, arith, subst}
use Rattle.som_sema_names.specs.Searching.{IsOnly}
use Rattle.som_verify_forms.specs.Knowing.{all_of}
use Rattle.som_elab_body.proofs.MethodLaws.{only_found}
use Rattle.som_elab_body.proofs.methods.only_method.Goals as goal

pub only_introducer-requires : goal.only_introducer-requires
only_introducer-requires c = (all_of c.args.known.now, (c.args.known.now.lists.now, (c.requires.search, omega (arith, c.requires.class, c.requires.known.lists.long))))

pub introduced-requires-clause-place : goal.introduced-requires-clause-place
introduced-requires-clause-place c =
    let lists = c.args.known.now.lists.now in
    let one = c.in-Some.ensures (all_of c.args.known.now) lists c.requires.search (omega (arith, c.requires.class, c.requires.known.lists.long)) in
    c.requires.known.lists.low c.args.class c.in-Some.place one.on

pub returns-in-Some : goal.returns-in-Some
returns-in-Some c =
    let lists = c.args.known.now.lists.now in
    let one = c.in-Some.ensures (all_of c.args.known.now) lists c.requires.search (omega (arith, c.requires.class, c.requires.known.lists.long)) in
    only_found (all_of c.args.known.now) lists c.requires.known.lists c.args.name.now c.args.class c.in-Some.place c.introduced.result c.requires.class
    (subst (λ (n : List ℕ). IsOnly (all_of c.args.known.now) (slice_index_or lists c.args.class []) n c.in-Some.place) c.as_slice.ensures one) c.introduced.ensures
