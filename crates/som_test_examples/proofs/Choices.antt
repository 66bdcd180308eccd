-- What the definitions choose in the sample.
use Rattle.std.specs.Prelude.{Result, Ok, Err, IfOk}
use Rattle.std.proofs.Common.{◌≡◌, ℕ, ◌<◌, true, false, [], ◌∷◌, None, codes, sym, arith}
use Rattle.std.proofs.lemmas.List.Elements.{All-cons, All-nil}
use Rattle.som_model.specs.Classes.{is_a}
use Rattle.som_model.specs.Implementation.{forwards}
use Rattle.som_model.specs.Kernel.{before_after}
use Rattle.som_model.specs.Metaclass.{hooks}
use Rattle.som_model.proofs.NamedLaws.{same_named, height_named, held_named, kernel_named}
use Rattle.som_meta.specs.declared.plan.MetaPlan.TheVariants as plans
use Rattle.som_meta.specs.Numbering.{AreNumbered, IsNumbered}
use Rattle.som_meta.specs.Planning.{plan_of, planned}
use Rattle.som_test_examples.specs.Sample.{both, classes, first_meta, left, library_method, lower_too, lowest, right, sample, second_meta}
use Rattle.som_test_examples.proofs.Classes.{above, descent, held_derived, same_to_derived, same_from_derived}

pub if_ok : {T E : Type 0} (r : Result T E) (P Q : T → Type 0) → ((x : T) → P x → Q x) → IfOk r P → IfOk r Q
if_ok (Ok x) P Q to is = to x is
if_ok (Err e) P Q to is = tt

pub two_numbered : (m n : ℕ) → m < 11 → n < 11 → AreNumbered sample (m ∷ n ∷ [])
two_numbered m n a b = All-cons (IsNumbered sample) m (n ∷ []) a (All-cons (IsNumbered sample) n [] b (All-nil (IsNumbered sample)))

second_first : is_a classes second_meta first_meta ≡ false
second_first = sym (descent 4 3 (omega arith) (omega arith))

first_second : is_a classes first_meta second_meta ≡ false
first_second = sym (descent 3 4 (omega arith) (omega arith))

first_base : is_a classes first_meta before_after ≡ true
first_base = sym (descent 3 2 (omega arith) (omega arith))

base_first : is_a classes before_after first_meta ≡ false
base_first = sym (descent 2 3 (omega arith) (omega arith))

both_base : is_a classes both before_after ≡ true
both_base = sym (descent 10 2 (omega arith) (omega arith))

pub derive_both : plan_of (planned sample None (3 ∷ 4 ∷ [])) ≡ plans.Derive (3 ∷ 4 ∷ [])
derive_both = simp (second_first, first_second)

pub lower_alone : plan_of (planned sample None (2 ∷ 3 ∷ [])) ≡ plans.Existing 3
lower_alone = simp (first_base, base_first)

pub hooks_both : hooks classes both ≡ first_meta ∷ second_meta ∷ []
hooks_both = rw (both_base, sym (above 10 (omega arith))) (simp (same_named, same_to_derived, same_from_derived, height_named, held_named, kernel_named, held_derived))

pub forwards_lowest : forwards classes lowest ≡ library_method left (codes "f") ∷ library_method right (codes "g") ∷ library_method lower_too (codes "h") ∷ []
forwards_lowest = rw (sym (above 9 (omega arith))) (simp (same_named, kernel_named))
