use Rattle.std.proofs.Common.{◌≡◌, ◌<◌, ◌≤◌, ◌∙◌, List, None, ap, arith, length, subst, sym}
use Rattle.som_model.specs.declared.key.ClassKey.{ClassKey}
use Rattle.som_class_ids.specs.Classes.{classes_of}
use Rattle.som_class_ids.specs.declared.position.Position.{Position}
use Rattle.som_class_ids.specs.Made.{found_made}
use Rattle.som_class_ids.specs.Numbers.{IsNumbers}
use Rattle.som_class_ids.proofs.Declaring.{classes_length}
use Rattle.som_class_ids.proofs.Listing.{not_listed}
use Rattle.som_class_ids.proofs.Numbered.{marked, within_positions}
use Rattle.som_class_ids.proofs.Adding.{added}
use Rattle.som_class_ids.proofs.Asking.{made_is}
use Rattle.som_class_ids.proofs.numbers.Numbers.add.Goals as goal

pub greatest_rank-rank-requires : goal.greatest_rank-rank-requires
greatest_rank-rank-requires c = λ n m. rw c.as_slice.ensures
    (within_positions (classes_of c.self.inside.classes) c.self.inside.positions c.self.invariant.numbers n (rw (← c.self.view_is) at (c.requires.numbered n (rw c.as_slice-2.ensures at m))))

pub next_made-requires-clause-parents : goal.next_made-requires-clause-parents
next_made-requires-clause-parents c = λ p m. rw c.as_slice-3.ensures
    (within_positions (classes_of c.self.inside.classes) c.self.inside.positions c.self.invariant.numbers p (rw (← c.self.view_is) at (c.requires.numbered p m)))

pub next_made-requires-clause-low : goal.next_made-requires-clause-low
next_made-requires-clause-low c = λ p a m. (marked (classes_of c.self.inside.classes) c.self.inside.positions c.self.invariant.numbers).low p a (rw c.as_slice-3.ensures at m)

pub push_made-requires-clause-made : goal.push_made-requires-clause-made
push_made-requires-clause-made c = λ e. c.requires.made (sym c.in_ok-position.ensures.next.kind_is ∙ e)

pub push_made-requires-clause-fresh : goal.push_made-requires-clause-fresh
push_made-requires-clause-fresh c =
    let kl = c.self.inside.classes in
    let ps = c.self.inside.positions in
    let unknown = rw (← c.self.view_is) at c.requires.fresh in
    let none : found_made c.self.inside.table c.args.kind c.args.parents ≡ None =
    not_listed (length kl) ps c.self.inside.table c.args.kind c.args.parents c.self.invariant.listed
    (λ n le m. (let r = made_is (classes_of kl) ps c.self.invariant.numbers c.args.kind c.args.parents n (omega (arith, le, classes_length kl)) m in unknown n r.0 r.1)) in
    ap (λ k. found_made c.self.inside.table k c.in_ok-position.position.parents) c.in_ok-position.ensures.next.kind_is ∙ ap (found_made c.self.inside.table c.args.kind) c.in_ok-position.ensures.next.parents_are ∙ none

pub invariant_of-self-2 : goal.invariant_of-self-2
invariant_of-self-2 c =
    let kl = c.self.inside.classes in
    let cs = classes_of c.self.inside.classes in
    let ps = c.self.inside.positions in
    let numbered = rw (← c.self.view_is) at c.requires.numbered in
    let unknown = rw (← c.self.view_is) at c.requires.fresh in
    let few : length ps < 4294967295 = omega (arith, c.len.ensures, c.if-len-ge-MOST_NUMBERS.false) in
    let next = rw (c.as_slice-3.ensures, c.greatest_rank-rank.ensures, c.as_slice.ensures, c.as_slice-2.ensures) at c.in_ok-position.ensures.next in
    let more = (added cs ps c.self.invariant.numbers c.args.kind c.args.parents c.requires.made c.requires.one numbered
    (λ n le m. (let r = made_is cs ps c.self.invariant.numbers c.args.kind c.args.parents n le m in unknown n r.0 r.1)) few c.in_ok-position.position next).0 in
    let low : length kl ≤ length ps = (let f = c.self.invariant.numbers.first in omega (arith, f, classes_length kl)) in
    record {
      numbers = subst (λ (l : List Position). IsNumbers cs l) (sym c.in_ok-push_made.ensures.ok) more;
      noted = c.self.invariant.noted;
      highest_is = c.self.invariant.highest_is;
      listed = c.in_ok-push_made.ensures.listed (length kl) low c.self.invariant.listed;
      unmarked = c.next_made.ensures.unmarked;
    }

pub returns-clause-added : goal.returns-clause-added
returns-clause-added c =
    let cs = classes_of c.self.inside.classes in
    let ps = c.self.inside.positions in
    let numbered = rw (← c.self.view_is) at c.requires.numbered in
    let unknown = rw (← c.self.view_is) at c.requires.fresh in
    let few : length ps < 4294967295 = omega (arith, c.len.ensures, c.if-len-ge-MOST_NUMBERS.false) in
    let next = rw (c.as_slice-3.ensures, c.greatest_rank-rank.ensures, c.as_slice.ensures, c.as_slice-2.ensures) at c.in_ok-position.ensures.next in
    rw (← c.self.view_is, c.in_ok-push_made.ensures.ok)
    (ap (λ (l : List ClassKey). record { classes = cs; keys = l }) (added cs ps c.self.invariant.numbers c.args.kind c.args.parents c.requires.made c.requires.one numbered
    (λ n le m. (let r = made_is cs ps c.self.invariant.numbers c.args.kind c.args.parents n le m in unknown n r.0 r.1)) few c.in_ok-position.position next).1)
