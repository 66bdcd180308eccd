use Rattle.std.proofs.Common.{◌≡◌, ℕ, List, map, subst, sym}
use Rattle.std.specs.BTreeSet.{IsOrdered}
use Rattle.som_class_table.specs.Making.{AreToMake}
use Rattle.som_class_load_order.specs.Searching.{in_turn}
use Rattle.som_class_load_order.proofs.Ordering.{both, in_order_is}
use Rattle.som_class_load_order.proofs.making.to_make.Goals as goal

pub returns : goal.returns
returns c =
    let k = c.args.closure.now in
    let found = c.in_ok-found.found in
    both c.in_order.result (λ (order : List ℕ). order ≡ map (λ (q : ℕ × ℕ). q.1) found.ranked.keys) (λ (order : List ℕ). IsOrdered in_turn found.ranked)
    (λ (order : List ℕ). AreToMake k c.args.made.now c.args.class order)
    (λ order e sorted. subst (AreToMake k c.args.made.now c.args.class) (sym e)
    (in_order_is k c.know_closure.ensures.loaded c.know_closure.ensures.closed c.args.made.now c.args.class c.requires.class c.requires.som_class c.requires.closed found.classes found.ranked.keys
    c.in_ok-found.ensures.same c.in_ok-found.ensures.searched sorted))
    c.in_order.ensures.numbers c.in_order.ensures.sorted
