use Rattle.std.proofs.Common.{◌∙◌, sym, arith, true≢false}
use Rattle.som_order.specs.Names.{texts}
use Rattle.som_verify_classes.specs.Modules.{classes_of}
use Rattle.som_verify_classes.proofs.Finding.{known_place, no_name, right_place, wrong_place}
use Rattle.som_verify_classes.proofs.table.find_named.Goals.{else-place-limit-via-then-place-limit+else-stands_in, else-place-limit-via-else-place-limit}
use Rattle.som_verify_classes.proofs.table.find_named.Goals as goal

pub stands_in-requires : goal.stands_in-requires
stands_in-requires c = known_place (classes_of c.args.classes.now) (texts c.args.table.now.keys) c.requires c.in-Some.place c.in-Some.ensures.some.0

pub returns-in-None : goal.returns-in-None
returns-in-None c = no_name c.args.limit c.args.home c.args.name.now (texts c.args.table.now.keys) (classes_of c.args.classes.now) c.requires c.in-None.ensures.among

pub returns-then-stands_in : goal.returns-then-stands_in
returns-then-stands_in c = right_place c.args.limit c.in-Some.place c.args.home c.args.name.now (texts c.args.table.now.keys) (classes_of c.args.classes.now) c.requires
    c.if-place-limit.true (sym c.if-stands_in.ensures) c.in-Some.ensures.some.0 c.in-Some.ensures.some.1

pub returns-else-place-limit : goal.returns-else-place-limit
returns-else-place-limit c = wrong_place c.args.limit c.in-Some.place c.args.home c.args.name.now (texts c.args.table.now.keys) (classes_of c.args.classes.now) c.requires
    (elim c.else-place-limit.branch [
      | else-place-limit-via-then-place-limit+else-stands_in w ↦ λ u h. true≢false (sym h ∙ sym w.if-stands_in.ensures)
      | else-place-limit-via-else-place-limit w ↦ λ u h. omega (arith, u, w.if-place-limit.false)
    ]) c.in-Some.ensures.some.0 c.in-Some.ensures.some.1
