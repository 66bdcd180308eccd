-- The zero values of the variables of a new object, class by class.
use Rattle.std.proofs.Common.{◌≡◌, ℕ, ◌+◌, ◌<◌, ◌≤◌, List, [], ◌++◌, length, take, get_or, Result, Ok, Err, refl, sym, subst}
use Rattle.std.specs.Result.{IfOk}
use Rattle.std.proofs.lemmas.List.{take_all}
use Rattle.som_model.specs.declared.key.ValueType.{ValueType}
use Rattle.som_objects.specs.declared.cell.Cell.{Cell}
use Rattle.som_meta.specs.Numbering.{IsNumbered, Numbering, key_at}
use Rattle.som_class_table.specs.Loaded.{AreLoaded}
use Rattle.som_class_variables.specs.Variables.{object_variables, own_variables, variables_over}
use Rattle.som_class_variables.proofs.Having.{types_next}
use Rattle.som_values.specs.Zeros.{AreZeros}
use Rattle.som_values.proofs.NewCells.{no_zeros}
use Rattle.som_interp_state.specs.Asked.{AreNewCells}
use Rattle.som_classmgr.specs.Asking.{answers_of, linked_of}
use Rattle.som_classmgr.proofs.Asking.{typed_place}

pub none_over : (k : Numbering) (ns : List ℕ) (cells : List Cell) → cells ≡ [] → AreZeros (variables_over k (take 0 ns)) cells
none_over k ns cells e = subst (AreZeros []) (sym e) no_zeros

pub one_over : (k : Numbering) (ns : List ℕ) (i n : ℕ) (cells : List Cell) → i < length ns → n ≡ get_or ns i n → AreZeros (variables_over k (take i ns) ++ own_variables k.classes (key_at k n)) cells
    → AreZeros (variables_over k (take (i + 1) ns)) cells
one_over k ns i n cells lt at zeros =
    subst (λ (ts : List ValueType). AreZeros ts cells) (types_next (key_at k) (own_variables k.classes) ns i n (variables_over k (take i ns)) (variables_over k (take i ns) ++ own_variables k.classes (key_at k n)) lt at refl refl) zeros

pub all_over : (k : Numbering) (ns : List ℕ) (i : ℕ) (cells : List Cell) → length ns ≤ i → AreZeros (variables_over k (take i ns)) cells → AreZeros (variables_over k ns) cells
all_over k ns i cells le zeros = subst (λ (ms : List ℕ). AreZeros (variables_over k ms) cells) (take_all i ns le) zeros

-- as a runner sees them
pub are_new_cells : {E : Type 0} (k : Numbering) → AreLoaded k → (n : ℕ) → IsNumbered k n → (answer : Result (List Cell) E) → IfOk answer (AreZeros (object_variables k.classes (key_at k n)))
    → IfOk answer (AreNewCells k.keys (answers_of k.classes) (linked_of k) n)
are_new_cells k l n num (Ok cells) zeros = record {
  types = object_variables k.classes (key_at k n);
  there = record { there = λ a i p e. typed_place k l n num a i p e };
  zeros = zeros;
  target = refl;
}
are_new_cells k l n num (Err e) zeros = tt
