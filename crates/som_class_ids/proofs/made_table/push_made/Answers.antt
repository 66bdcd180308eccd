use Rattle.std.proofs.Common.{◌≡◌, ◌∙◌, ap, sym, subst, Some, List}
use Rattle.som_class_ids.specs.Made.{AreListed, found_made}
use Rattle.som_class_ids.specs.declared.position.Position.{Position}
use Rattle.som_class_ids.proofs.Listing.{listed_more, listed_same}
use Rattle.som_class_ids.proofs.made_table.push_made.Goals as goal

pub returns-in_err-reserve-clause-listed : goal.returns-in_err-reserve-clause-listed
returns-in_err-reserve-clause-listed c = λ first le listed. listed_same first c.args.positions.now c.args.table.now c.reserve.new.self c.reserve.ensures.same listed

pub returns-in_err-push-clause-listed : goal.returns-in_err-push-clause-listed
returns-in_err-push-clause-listed c = λ first le listed.
    subst (λ (l : List Position). AreListed first l c.reserve.new.self) (sym c.in_err-push.ensures.err)
    (listed_same first c.args.positions.now c.args.table.now c.reserve.new.self c.reserve.ensures.same listed)

pub returns-clause-listed : goal.returns-clause-listed
returns-clause-listed c = λ first le listed.
    let items : c.in_ok-parents.parents.items ≡ c.args.position.parents = c.in_ok-parents.ensures.items ∙ c.as_slice.ensures in
    subst (λ (l : List Position). AreListed first l c.note.new.self) (sym c.in_ok-push.ensures.ok)
    (listed_more first c.args.positions.now c.args.position c.reserve.new.self c.note.new.self le
    (listed_same first c.args.positions.now c.args.table.now c.reserve.new.self c.reserve.ensures.same listed)
    (c.reserve.ensures.same c.args.position.kind c.args.position.parents ∙ c.requires.fresh)
    (ap (found_made c.note.new.self c.args.position.kind) (sym items) ∙ c.note.ensures.class ∙ ap (λ n. Some n) (c.new-class.ensures ∙ c.len.ensures))
    (λ kind parents other. c.note.ensures.others kind parents (λ both. other (both.0, both.1 ∙ items))))
