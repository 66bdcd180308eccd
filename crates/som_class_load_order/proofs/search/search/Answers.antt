use Rattle.std.proofs.Common.{◌≡◌, ℕ, ◌<◌, List, arith, get_or, length, subst}
use Rattle.som_class_ids.proofs.Items.{item_mem}
use Rattle.som_class_load_order.specs.Searching.{AreNoted}
use Rattle.som_class_load_order.proofs.Searching.{searched_all, searched_more, searched_start}
use Rattle.som_class_load_order.proofs.search.search.Goals as goal

pub loop-done-init : goal.loop-done-init
loop-done-init c = record {
  same = c.in_ok-note.ensures.same;
  searched = searched_start c.args.closure.now c.args.made.now c.args.class c.note.new.found.classes c.requires.class
      (subst (λ (z : List ℕ). AreNoted c.args.made.now (λ n. n ≡ c.args.class) z c.note.new.found.classes) c.new.ensures c.in_ok-note.ensures.noted);
}

pub note_needs-requires-clause-class : goal.note_needs-requires-clause-class
note_needs-requires-clause-class c =
    let classes = c.loop-done.found.classes in
    let done = c.loop-done.done in
    let next = c.index-as_slice-done.result in
    let lt : done < length classes = omega (arith, c.len.ensures, c.loop-done-test.true) in
    let is : next ≡ get_or classes done next = rw c.as_slice.ensures at c.index-as_slice-done.is in
    (c.loop-done.invariant.searched.needed next (item_mem classes done next lt is)).0

pub loop-done-preserved : goal.loop-done-preserved
loop-done-preserved c =
    let classes = c.loop-done.found.classes in
    let done = c.loop-done.done in
    let next = c.index-as_slice-done.result in
    let lt : done < length classes = omega (arith, c.len.ensures, c.loop-done-test.true) in
    let is : next ≡ get_or classes done next = rw c.as_slice.ensures at c.index-as_slice-done.is in
    record {
      same = c.in_ok-note_needs.ensures.same;
      searched = searched_more c.args.closure.now c.args.made.now c.args.class classes c.note_needs.new.found.classes done next c.loop-done.invariant.searched lt is c.in_ok-note_needs.ensures.noted
          c.in_ok-note_needs.ensures.low;
    }

pub returns-clause-same : goal.returns-clause-same
returns-clause-same c = c.loop-done.invariant.same

pub returns-clause-searched : goal.returns-clause-searched
returns-clause-searched c =
    searched_all c.args.closure.now c.args.made.now c.args.class c.loop-done.found.classes c.loop-done.done (omega (arith, c.len.ensures, c.loop-done-test.false)) c.loop-done.invariant.searched
