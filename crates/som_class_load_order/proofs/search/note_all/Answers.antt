use Rattle.std.proofs.Common.{◌≡◌, ℕ, List, ◌+◌, subst, take}
use Rattle.std.proofs.lemmas.List.{take_all}
use Rattle.som_model.specs.Lists.{Mem}
use Rattle.som_class_ids.proofs.Items.{item_mem}
use Rattle.som_class_load_order.specs.Searching.{AreNoted}
use Rattle.som_class_load_order.proofs.Noting.{noted_both, noted_none}
use Rattle.som_class_load_order.proofs.Searching.{of_more, one_more}
use Rattle.som_class_load_order.proofs.search.note_all.Goals as goal

pub note-requires-clause-class : goal.note-requires-clause-class
note-requires-clause-class c = c.requires.numbered c.class-item.result (item_mem c.args.classes.now c.loop-class.class-index c.class-item.result c.loop-class-test.true c.class-item.is)

pub note-requires-clause-same : goal.note-requires-clause-same
note-requires-clause-same c = c.loop-class.invariant.same

pub loop-class-init : goal.loop-class-init
loop-class-init c = record { same = c.requires.same; noted = noted_none c.args.made.now c.args.found.now.classes }

pub loop-class-preserved : goal.loop-class-preserved
loop-class-preserved c =
    let cs = c.args.classes.now in
    let i = c.loop-class.class-index in
    let x = c.class-item.result in
    record {
      same = c.in_ok-note.ensures.same;
      noted = noted_both c.args.made.now (λ n. Mem n (take i cs)) (λ n. n ≡ x) (λ n. Mem n (take (i + 1) cs)) c.args.found.now.classes c.loop-class.found.classes c.note.new.found.classes
          c.loop-class.invariant.noted c.in_ok-note.ensures.noted (one_more cs i x c.loop-class-test.true c.class-item.is) (of_more cs i x c.loop-class-test.true c.class-item.is);
    }

pub returns-clause-same : goal.returns-clause-same
returns-clause-same c = c.loop-class.invariant.same

pub returns-clause-noted : goal.returns-clause-noted
returns-clause-noted c =
    subst (λ (z : List ℕ). AreNoted c.args.made.now (λ n. Mem n z) c.args.found.now.classes c.loop-class.found.classes) (take_all c.loop-class.class-index c.args.classes.now c.loop-class-test.false) c.loop-class.invariant.noted
