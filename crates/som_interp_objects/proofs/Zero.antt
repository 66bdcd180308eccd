-- Cells of zero values hold variables at their zero values.
use Rattle.std.proofs.Common.{◌≡◌, ℕ, zero, suc, List, [], ◌∷◌, length, map, Some, Result, Ok, Err, slice_get, refl, sym, ap, subst, ◌∙◌}
use Rattle.std.specs.List.{All}
use Rattle.std.specs.Result.{IfOk}
use Rattle.som_model.specs.declared.key.ValueType.{ValueType}
use Rattle.som_semantics.specs.State.{zero_of}
use Rattle.som_objects.specs.declared.cell.Cell.{Cell}
use Rattle.som_objects.specs.Objects.{Objects}
use Rattle.som_values.specs.Shown.{Showing, IsSeen, all_shown, key_of, shown, showing}
use Rattle.som_values.specs.Stored.{IsKept}
use Rattle.som_values.specs.Variables.{Places}
use Rattle.som_values.proofs.Keeping.{no_some, same_some}
use Rattle.som_interp_state.specs.Settings.{Linked}
use Rattle.som_interp_state.proofs.Lists.{all_head, all_tail}
use Rattle.som_interp_state.specs.Asked.{AreNewCells, AreTypes, target_after}
use Rattle.som_interp_objects.specs.Cells.{AreNew, AreZero}

first_same : {X : Type 0} {x y : X} {xs ys : List X} → x ∷ xs ≡ y ∷ ys → x ≡ y
first_same e = cc

rest_same : {X : Type 0} {x y : X} {xs ys : List X} → x ∷ xs ≡ y ∷ ys → xs ≡ ys
rest_same e = cc

not_empty : {X : Type 0} {y : X} {ys : List X} → [] ≡ y ∷ ys → ⊥
not_empty e = cc

not_more : {X : Type 0} {y : X} {ys : List X} → y ∷ ys ≡ [] → ⊥
not_more e = cc

-- the cell where a type stands
cell_there : (s : Showing) (cells : List Cell) (ts : List ValueType) (p : ℕ) (t : ValueType) → all_shown s cells ≡ map zero_of ts → slice_get ts p ≡ Some t
    → (c : Cell) × (slice_get cells p ≡ Some c) × (zero_of t ≡ shown s c)
cell_there s cells [] zero t e at = absurd (no_some at)
cell_there s cells [] (suc p) t e at = absurd (no_some at)
cell_there s [] (u ∷ ts) p t e at = absurd (not_empty e)
cell_there s (c ∷ cs) (u ∷ ts) zero t e at = (c, refl, ap zero_of (sym (same_some at)) ∙ sym (first_same e))
cell_there s (c ∷ cs) (u ∷ ts) (suc p) t e at = cell_there s cs ts p t (rest_same e) at

same_length : (s : Showing) (cells : List Cell) (ts : List ValueType) → all_shown s cells ≡ map zero_of ts → length cells ≡ length ts
same_length s [] [] e = refl
same_length s [] (t ∷ ts) e = absurd (not_empty e)
same_length s (c ∷ cs) [] e = absurd (not_more e)
same_length s (c ∷ cs) (t ∷ ts) e = ap suc (same_length s cs ts (rest_same e))

all_at : {X : Type 0} (P : X → Type 0) (xs : List X) (p : ℕ) (x : X) → All P xs → slice_get xs p ≡ Some x → P x
all_at P [] zero x all e = absurd (no_some e)
all_at P [] (suc p) x all e = absurd (no_some e)
all_at P (y ∷ ys) zero x all e = subst P (same_some e) (all_head P y ys all)
all_at P (y ∷ ys) (suc p) x all e = all_at P ys p x (all_tail P y ys all) e

zero_held : (l : Linked) (class : ℕ) (types : List ValueType) (cells : List Cell) → AreTypes l.world l class types
    → ((s : Showing) → all_shown s cells ≡ map zero_of types) → ((s : Showing) → All (IsSeen s) cells) → ((os : Objects) → All (IsKept os) cells) → AreZero l (l.variables class) cells
zero_held l class types cells are means seen kept xs os = record {
  held = λ c n p at. cell_there (showing l.keys xs) cells types p (l.world.variable c n) (means (showing l.keys xs)) (are.there c n p at);
  others = λ c n none. refl;
  own = λ p c at. (all_at (IsSeen (showing l.keys xs)) cells p c (seen (showing l.keys xs)) at, all_at (IsKept os) cells p c (kept os) at);
}

-- the cells that the kernel says
pub are_new : {E : Type 0} (l : Linked) (class : ℕ) (answer : Result (List Cell) E) → IfOk answer (AreNewCells l.keys l.world l class) → IfOk answer (AreNew l class)
are_new l class (Ok cells) new = record {
  zero = zero_held l class new.types cells new.there new.zeros.means new.zeros.seen new.zeros.kept;
  target = new.target ∙ ap (target_after (key_of l.keys class)) (sym (same_length (showing l.keys []) cells new.types (new.zeros.means (showing l.keys []))));
}
are_new l class (Err e) new = tt

-- those of a class object are those of an object of its metaclass
pub static_cells : {E : Type 0} (l : Linked) (of meta : ℕ) (answer : Result (List Cell) E) → l.statics of ≡ l.variables meta → IfOk answer (AreNew l meta) → IfOk answer (AreZero l (l.statics of))
static_cells l of meta (Ok cells) e new = subst (λ (places : Places). AreZero l places cells) (sym e) new.zero
static_cells l of meta (Err x) e new = tt
