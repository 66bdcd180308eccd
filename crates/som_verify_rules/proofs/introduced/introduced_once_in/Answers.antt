use Rattle.std.proofs.Common.{◌∙◌, ◌+◌, ◌<◌, arith, subst, List, ℕ, flat_map, length}
use Rattle.std.proofs.lemmas.Option.{get_or_from_slice_get}
use Rattle.som_verify_classes.specs.declared.types.Declared.{Declared}
use Rattle.som_model.specs.Lists.{first}
use Rattle.som_model.specs.Rules.{RuleBreach}
use Rattle.som_verify_classes.specs.Along.{doubles_breach}
use Rattle.som_verify_rules.specs.Shared.{row_names}
use Rattle.som_verify_classes.specs.Modules.{class_of, classes_of}
use Rattle.som_verify_classes.specs.Places.{with_kernel}
use Rattle.som_verify_classes.specs.Told.{Tells}
use Rattle.som_verify_classes.proofs.DeclaredClasses.{long_map}
use Rattle.som_verify_rules.proofs.Once.{place_within}
use Rattle.som_verify_rules.proofs.SharedRows.{long_rows, shared_is}
use Rattle.som_verify_rules.proofs.introduced.introduced_once_in.Goals as goal

pub item-list-requires : goal.item-list-requires
item-list-requires c = place_within (classes_of c.args.classes.now) c.args.lists.now c.args.place (omega (arith, c.requires.place, long_map class_of c.args.classes.now)) c.requires.lists

pub introduced_once_along-requires : goal.introduced_once_along-requires
introduced_once_along-requires c = record {
  list = λ a m. (let cs = with_kernel (classes_of c.args.classes.now) in
      let low = c.requires.lists.low _ a (rw c.item-list.ensures at m) in
      omega (arith, low, long_rows cs c.args.rows.now c.requires.rows));
  empty = c.requires.empty;
}

pub returns : goal.returns
returns c = λ class at.
    let cs = with_kernel (classes_of c.args.classes.now) in
    let rows = c.args.rows.now in
    let e = c.index-classes-place.is ∙ get_or_from_slice_get c.args.classes.now c.args.place class c.index-classes-place.result at in
    let h = subst (λ (z : Declared). Tells (first (doubles_breach 8 (class_of z) (flat_map (row_names rows) c.item-list.result.now))) c.introduced_once_along.result) e c.introduced_once_along.ensures in
    let g = subst (λ (z : List ℕ). Tells (first (doubles_breach 8 (class_of class) (flat_map (row_names rows) z))) c.introduced_once_along.result) c.item-list.ensures h in
    let within = place_within (classes_of c.args.classes.now) c.args.lists.now c.args.place (omega (arith, c.requires.place, long_map class_of c.args.classes.now)) c.requires.lists in
    let here : c.args.place + 4 < length cs = omega (arith, within, c.requires.lists.long) in
    subst (λ (z : List RuleBreach). Tells (first z) c.introduced_once_along.result) (shared_is cs c.args.lists.now c.requires.lists rows c.requires.rows (c.args.place + 4) (class_of class) here) g
