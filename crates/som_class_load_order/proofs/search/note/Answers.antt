use Rattle.std.proofs.Common.{◌≡◌, ◌∙◌, ap, subst, sym, true≢false}
use Rattle.std.specs.BTreeSet.{insert_key}
use Rattle.std.proofs.lemmas.Bool.{OnFalse_at}
use Rattle.som_model.specs.Metaclass.{rank}
use Rattle.som_meta.specs.Numbering.{Numbering, key_at}
use Rattle.som_class_load_order.specs.Searching.{in_turn}
use Rattle.som_class_load_order.proofs.Noting.{noted_new, noted_there, same_more, was_there}
use Rattle.som_class_load_order.proofs.search.note.Goals as goal

pub returns-in_ok-push-clause-same : goal.returns-in_ok-push-clause-same
returns-in_ok-push-clause-same c =
    let k = c.args.closure.now in
    let keys = c.args.found.now.ranked.keys in
    let is : c.rank-rank.result ≡ rank k.classes (key_at k c.args.class) =
    subst (λ (z : Numbering). c.rank-rank.result ≡ rank z.classes (key_at z c.args.class)) c.classes.ensures.value c.rank-rank.ensures in
    rw c.in_ok-push.ensures.ok
    (same_more k c.args.found.now.classes keys c.insert.new.self.keys c.requires.same c.rank-rank.result c.args.class is
    (c.in_ok-insert.ensures.keys ∙ ap (λ z. insert_key in_turn keys (c.rank-rank.result, z)) c.number.ensures))

pub returns-in_ok-push-clause-noted : goal.returns-in_ok-push-clause-noted
returns-in_ok-push-clause-noted c =
    rw c.in_ok-push.ensures.ok
    (noted_new c.args.made.now c.args.class c.args.found.now.classes (λ h. true≢false (sym h ∙ sym c.is_made.ensures ∙ c.if-is_made.false)))

pub returns-else-branch-clause-noted : goal.returns-else-branch-clause-noted
returns-else-branch-clause-noted c =
    let k = c.args.closure.now in
    let keys = c.args.found.now.ranked.keys in
    let is : c.rank-rank.result ≡ rank k.classes (key_at k c.args.class) =
    subst (λ (z : Numbering). c.rank-rank.result ≡ rank z.classes (key_at z c.args.class)) c.classes.ensures.value c.rank-rank.ensures in
    noted_there c.args.made.now c.args.class c.args.found.now.classes
    (was_there k c.args.found.now.classes keys c.insert.new.self.keys c.requires.same c.rank-rank.result c.args.class is
    (c.in_ok-insert.ensures.keys ∙ ap (λ z. insert_key in_turn keys (c.rank-rank.result, z)) c.number.ensures)
    (OnFalse_at c.if-branch.false c.in_ok-insert.ensures.unchanged))
