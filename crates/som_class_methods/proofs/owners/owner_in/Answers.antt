use Rattle.std.proofs.Common.{◌≡◌, ◌∙◌, sym, arith, length, subst}
use Rattle.som_model.specs.Owner.{owner}
use Rattle.som_model.specs.declared.key.ClassKey.{ClassKey}
use Rattle.som_class_ids.specs.Classes.{class_of}
use Rattle.som_class_methods.specs.Owners.{IsTokenOf, ref}
use Rattle.som_class_methods.proofs.Facts.{facts}
use Rattle.som_class_methods.proofs.Owning.{entry_there, have_at, have_length, known_before, name_within, number_before}
use Rattle.som_class_methods.proofs.owners.owner_in.Goals as goal

pub number_of-number-requires : goal.number_of-number-requires
number_of-number-requires c = known_before c.args.numbers.now (length c.args.known.now) c.args.class.now c.requires.before

pub entry_place-place-requires : goal.entry_place-place-requires
entry_place-place-requires c =
    let k = c.args.numbers.now in
    rw c.as_slice.ensures
    (entry_there k (facts k.classes c.requires.faces) c.requires.first c.number_of-number.result (class_of c.declared.result.now) c.args.class.now c.args.name.now c.declared.ensures.class
    (sym c.declared.ensures.key ∙ c.number_of-number.ensures.key) c.requires.entry)

pub tokens_of-requires : goal.tokens_of-requires
tokens_of-requires c =
    let k = c.args.numbers.now in
    number_before k (facts k.classes c.requires.faces) c.requires.first (length c.args.known.now) c.args.class.now c.requires.before c.number_of-number.result c.number_of-number.ensures.declared c.number_of-number.ensures.key

pub token_in-requires : goal.token_in-requires
token_in-requires c =
    let k = c.args.numbers.now in
    let f = facts k.classes c.requires.faces in
    let lt = number_before k f c.requires.first (length c.args.known.now) c.args.class.now c.requires.before c.number_of-number.result c.number_of-number.ensures.declared c.number_of-number.ensures.key in
    let d = class_of c.declared.result.now in
    let h = c.requires.owned.each c.number_of-number.result d lt c.declared.ensures.class in
    let long = have_length k f c.requires.first d.key d.decl.face.entries _ h in
    let within = name_within d.decl.face.entries c.entry_place-place.result c.args.name.now (rw c.as_slice.ensures at c.entry_place-place.ensures) in
    rw c.tokens_of.ensures (omega (arith, long, within))

pub returns : goal.returns
returns c =
    let k = c.args.numbers.now in
    let f = facts k.classes c.requires.faces in
    let lt = number_before k f c.requires.first (length c.args.known.now) c.args.class.now c.requires.before c.number_of-number.result c.number_of-number.ensures.declared c.number_of-number.ensures.key in
    let d = class_of c.declared.result.now in
    let h = c.requires.owned.each c.number_of-number.result d lt c.declared.ensures.class in
    let key : d.key ≡ c.args.class.now = sym c.declared.ensures.key ∙ c.number_of-number.ensures.key in
    subst (λ (z : ClassKey). IsTokenOf k c.token_in.result (owner k.classes (ref z c.args.name.now))) key
    (have_at k f c.requires.first d.key d.decl.face.entries _ h c.entry_place-place.result c.args.name.now c.token_in.result (rw c.as_slice.ensures at c.entry_place-place.ensures) (rw c.tokens_of.ensures at c.token_in.ensures))
