use Rattle.std.proofs.Common.{◌≡◌, ◌+◌, ◌∙◌, IsSome, Option, Some, ℕ, ap, arith, refl, slice_get, subst, sym}
use Rattle.som_meta.specs.Numbering.{key_at}
use Rattle.som_tables.specs.Rows.{inherited}
use Rattle.som_class_variables.specs.Placed.{shift_in}
use Rattle.som_class_variables.specs.Variables.{object_variables, own_variables}
use Rattle.som_class_variables.proofs.Placing.{from_base, has_base, place_kind, place_within, shift_read}
use Rattle.som_class_variables.proofs.places.Places.data_place.Goals as goal

pub cell-cell-requires : goal.cell-cell-requires
cell-cell-requires c =
    let places = rw (← c.self.view_is) at c.requires.places in
    let row = rw (← c.self.view_is) at c.requires.row in
    rw (c.new.ensures, c.class.ensures) (subst (λ (o : Option ℕ). IsSome o)
    (sym (has_base c.args.classes.now c.know_loaded.ensures c.self.inside.table (shift_in c.self.inside.shifts.items) places.placed c.args.class c.args.variable row c.requires.variable c.requires.below)) refl)

pub returns-clause-place : goal.returns-clause-place
returns-clause-place c =
    let places = rw (← c.self.view_is) at c.requires.places in
    let row = rw (← c.self.view_is) at c.requires.row in
    let few = c.requires.places.few c.args.class c.requires.row in
    let number : c.from.result ≡ c.args.variable.1 = c.from.ensures ∙ c.place.ensures in
    let cell : Some c.cell-cell.result ≡ inherited c.self.inside.table c.args.class (c.args.variable.0, 0) = rw (← c.class.ensures, ← c.new.ensures) c.cell-cell.ensures in
    let shift : c.index.result.now ≡ shift_in c.self.inside.shifts.items c.args.class =
    shift_read c.args.classes.now c.know_loaded.ensures c.self.inside.table (shift_in c.self.inside.shifts.items) places.placed c.self.inside.shifts.items places.shifted c.args.class c.number.result c.index.result.now row c.number.ensures c.index.ensures in
    ap (λ i. c.place_for-base.result + i) number
    ∙ from_base c.args.classes.now c.know_loaded.ensures c.self.inside.table (shift_in c.self.inside.shifts.items) places.placed c.args.class c.args.variable row c.requires.variable c.requires.below
    c.cell-cell.result cell c.place_for-base.result (λ place lt e. c.place_for-base.ensures place lt (rw shift e)) few

pub returns-clause-kind : goal.returns-clause-kind
returns-clause-kind c =
    let k = c.args.classes.now in
    ap (slice_get (object_variables k.classes (key_at k c.args.class))) (returns-clause-place c) ∙ place_kind k c.know_loaded.ensures c.args.class c.args.variable c.requires.variable c.requires.below

pub returns-clause-within : goal.returns-clause-within
returns-clause-within c =
    let k = c.args.classes.now in
    place_within (object_variables k.classes (key_at k c.args.class)) (own_variables k.classes (key_at k c.args.variable.0)) (c.place_for-base.result + c.from.result) c.args.variable.1 (returns-clause-kind c) c.requires.variable.1

pub overflow_add-result : goal.overflow_add-result
overflow_add-result c =
    let few = c.requires.places.few c.args.class c.requires.row in
    let here = returns-clause-within c in
    omega (arith, few, here)
