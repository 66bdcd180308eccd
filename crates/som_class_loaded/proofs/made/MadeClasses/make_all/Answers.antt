use Rattle.std.proofs.Common.{ℕ, List, subst, sym, take}
use Rattle.std.proofs.lemmas.List.{take_all}
use Rattle.som_class_loaded.specs.Made.{AreMarked}
use Rattle.som_class_loaded.specs.Making.{parts_of}
use Rattle.som_class_loaded.proofs.Order.{got, marked_more, marked_none, next_new, next_parents}
use Rattle.som_class_loaded.proofs.Parts.{made_itself, made_through}
use Rattle.som_class_loaded.proofs.made.MadeClasses.make_all.Goals as goal

pub make-requires-clause-class : goal.make-requires-clause-class
make-requires-clause-class c =
    c.requires.order.numbered c.loop-class.class-index c.class-item.result (got c.args.order.now c.loop-class.class-index c.class-item.result c.loop-class-test.true c.class-item.is)

pub make-requires-clause-new : goal.make-requires-clause-new
make-requires-clause-new c =
    next_new c.args.classes.now (parts_of c.args.self.now).made (parts_of c.loop-class.self).made c.args.order.now c.requires.order c.loop-class.class-index c.class-item.result
    (got c.args.order.now c.loop-class.class-index c.class-item.result c.loop-class-test.true c.class-item.is) c.loop-class.invariant.made

pub make-requires-clause-parents : goal.make-requires-clause-parents
make-requires-clause-parents c =
    next_parents c.args.classes.now (parts_of c.args.self.now).made (parts_of c.loop-class.self).made c.args.order.now c.requires.order c.loop-class.class-index c.class-item.result
    (got c.args.order.now c.loop-class.class-index c.class-item.result c.loop-class-test.true c.class-item.is) c.loop-class.invariant.made

pub loop-class-init : goal.loop-class-init
loop-class-init c = record { parts = c.requires.parts; keeps = made_itself (parts_of c.args.self.now); made = marked_none (parts_of c.args.self.now).made }

pub loop-class-preserved : goal.loop-class-preserved
loop-class-preserved c = record {
  parts = c.make.ensures.parts;
  keeps = made_through (parts_of c.args.self.now) (parts_of c.loop-class.self) (parts_of c.make.new.self) c.loop-class.invariant.keeps c.make.ensures.keeps;
  made = marked_more (parts_of c.args.self.now).made (parts_of c.loop-class.self).made (parts_of c.make.new.self).made c.args.order.now c.loop-class.class-index c.class-item.result
      (got c.args.order.now c.loop-class.class-index c.class-item.result c.loop-class-test.true c.class-item.is) c.loop-class.invariant.made c.in_ok-make.ensures.made;
}

pub returns-in_err-make-clause-keeps : goal.returns-in_err-make-clause-keeps
returns-in_err-make-clause-keeps c = made_through (parts_of c.args.self.now) (parts_of c.loop-class.self) (parts_of c.make.new.self) c.loop-class.invariant.keeps c.make.ensures.keeps

pub returns-in_err-make-clause-first : goal.returns-in_err-make-clause-first
returns-in_err-make-clause-first c = (
  c.loop-class.class-index,
  subst (λ (z : List _). AreMarked (parts_of c.args.self.now).made z (take c.loop-class.class-index c.args.order.now)) (sym c.in_err-make.ensures.err) c.loop-class.invariant.made,
)

pub returns-clause-made : goal.returns-clause-made
returns-clause-made c =
    subst (λ (z : List ℕ). AreMarked (parts_of c.args.self.now).made (parts_of c.loop-class.self).made z) (take_all c.loop-class.class-index c.args.order.now c.loop-class-test.false) c.loop-class.invariant.made

pub returns-clause-first : goal.returns-clause-first
returns-clause-first c = (c.loop-class.class-index, c.loop-class.invariant.made)
