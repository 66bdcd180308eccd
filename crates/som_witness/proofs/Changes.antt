-- Where two signatures differ, and what that says of their types.
use Rattle.std.proofs.Common.{◌≡◌, ℕ, zero, suc, ◌+◌, ◌==◌, Bool, true, false, if◌then◌else◌, List, [], ◌∷◌, length, map, slice_get, Some, None, Ok, refl, sym, ap, ◌∙◌, subst, arith, true≢false}
use Rattle.som_model.specs.declared.key.ClassKey.{ClassKey}
use Rattle.som_model.specs.declared.key.ValueType.{ValueType}
use Rattle.som_model.specs.declared.key.ValueType.TheVariants as types
use Rattle.som_model.specs.declared.syntax.Expr.{Expr}
use Rattle.som_model.specs.Same.{same_type}
use Rattle.som_model.specs.Steps.{◌>>=◌}
use Rattle.som_model.specs.Typing.{ClassFacts, ExprType, Of, Ruled, Typed, all_fit, fits, value, values}
use Rattle.som_model.proofs.KeyLaws.{both, exact_numbers}
use Rattle.som_model.proofs.SameLaws.{exact_types}
use Rattle.som_model.proofs.StepLaws.{went, same_ok}
use Rattle.som_witness.specs.Program.{zero_value, zero_values, zero_values_with}
use Rattle.som_witness.specs.Showings.{Change, first_change}
use Rattle.som_model.specs.declared.syntax.Expr.TheVariants as exprs

abbrev change : ℕ → ValueType → ValueType → Change
change n s t = record { place = n; old_type = s; new_type = t }

-- a change is of two types that differ, each at its place
pub record ChangedAt (n : ℕ) (ss ts : List ValueType) (d : Change) : Type 0 where
  pub place : ℕ
  pub counted : d.place ≡ place + n
  pub before : slice_get ss place ≡ Some d.old_type
  pub after : slice_get ts place ≡ Some d.new_type
  pub differ : same_type d.old_type d.new_type ≡ false

here : (n : ℕ) (s t : ValueType) (ss ts : List ValueType) (d : Change) → same_type s t ≡ false → Some (change n s t) ≡ Some d → ChangedAt n (s ∷ ss) (t ∷ ts) d
here n s t ss ts d f e =
    let none : n ≡ 0 + n = omega arith in
    subst (ChangedAt n (s ∷ ss) (t ∷ ts)) (one d e) (record { place = 0; counted = none; before = refl; after = refl; differ = f })
  where
    one : (d : Change) → Some (change n s t) ≡ Some d → change n s t ≡ d
    one d e = cc

later : (n : ℕ) (s t : ValueType) (ss ts : List ValueType) (d : Change) → ChangedAt (suc n) ss ts d → ChangedAt n (s ∷ ss) (t ∷ ts) d
later n s t ss ts d r =
    let is = r.counted in
    record { place = suc r.place; counted = omega (arith, is); before = r.before; after = r.after; differ = r.differ }

changed_by : (n : ℕ) (s t : ValueType) (ss ts : List ValueType) (d : Change) (b : Bool) → same_type s t ≡ b → (first_change (suc n) ss ts ≡ Some d → ChangedAt (suc n) ss ts d)
    → (if b then first_change (suc n) ss ts else Some (change n s t)) ≡ Some d → ChangedAt n (s ∷ ss) (t ∷ ts) d
changed_by n s t ss ts d true f g e = later n s t ss ts d (g e)
changed_by n s t ss ts d false f g e = here n s t ss ts d f e

pub changed : (n : ℕ) (ss ts : List ValueType) (d : Change) → first_change n ss ts ≡ Some d → ChangedAt n ss ts d
changed n [] ts d e = absurd (cc)
changed n (s ∷ ss) [] d e = absurd (cc)
changed n (s ∷ ss) (t ∷ ts) d e = changed_by n s t ss ts d (same_type s t) refl (changed (suc n) ss ts d) e

unchanged_by : (n : ℕ) (s t : ValueType) (ss ts : List ValueType) (b : Bool) → same_type s t ≡ b → (first_change (suc n) ss ts ≡ None → ss ≡ ts)
    → (if b then first_change (suc n) ss ts else Some (change n s t)) ≡ None → (s ∷ ss) ≡ (t ∷ ts)
unchanged_by n s t ss ts true f g e = ap (λ z. z ∷ ss) (exact_types.two s t f) ∙ ap (λ z. t ∷ z) (g e)
unchanged_by n s t ss ts false f g e = absurd (cc)

-- lists of one length with no change are equal
pub unchanged : (n : ℕ) (ss ts : List ValueType) → length ss ≡ length ts → first_change n ss ts ≡ None → ss ≡ ts
unchanged n [] [] l e = refl
unchanged n [] (t ∷ ts) l e = absurd (omega (arith, l))
unchanged n (s ∷ ss) [] l e = absurd (omega (arith, l))
unchanged n (s ∷ ss) (t ∷ ts) l e = unchanged_by n s t ss ts (same_type s t) refl (unchanged (suc n) ss ts (omega (arith, l))) e

-- the test on lengths
pub same_length : (a b : ℕ) → (a == b) ≡ true → a ≡ b
same_length a b e = exact_numbers.two a b e

pub other_length : (a b : ℕ) → (a == b) ≡ false → a ≡ b → ⊥
other_length a b e is = true≢false (sym (ap (λ z. a == z) (sym is) ∙ exact_numbers.one a) ∙ e)

-- a value that fits a type without being of it: both are classes, and the one descends from the other
pub record ClassFits (w : ClassFacts) (kind t : ValueType) : Type 0 where
  pub high : ClassKey
  pub low : ClassKey
  pub kind_is : kind ≡ types.Class high
  pub type_is : t ≡ types.Class low
  pub below : w.is_a low high ≡ true

pub class_fits : (w : ClassFacts) (kind t : ValueType) → fits w kind (Of t) ≡ true → same_type t kind ≡ false → ClassFits w kind t
class_fits w (types.Class a) (types.Class k) e f = record { high = a; low = k; kind_is = refl; type_is = refl; below = e }
class_fits w (types.Class a) types.Void e f = absurd (true≢false (sym e))
class_fits w (types.Class a) types.Long e f = absurd (true≢false (sym e))
class_fits w (types.Class a) types.Boolean e f = absurd (true≢false (sym e))
class_fits w (types.Class a) types.Str e f = absurd (true≢false (sym e))
class_fits w types.Void t e f = absurd (true≢false (sym e ∙ f))
class_fits w types.Long t e f = absurd (true≢false (sym e ∙ f))
class_fits w types.Boolean t e f = absurd (true≢false (sym e ∙ f))
class_fits w types.Str t e f = absurd (true≢false (sym e ∙ f))

-- types that differ, differ the other way round
pub differ_back : (s t : ValueType) → same_type s t ≡ false → same_type t s ≡ false
differ_back s t e = by (same_type t s) refl
  where
    by : (b : Bool) → same_type t s ≡ b → same_type t s ≡ false
    by false f = f
    by true f = absurd (true≢false (sym (ap (same_type s) (exact_types.two t s f) ∙ exact_types.one s) ∙ e))

-- ---- arguments

abbrev typed_all : List ExprType → Ruled (List ExprType)
typed_all ts = Ok ts

pub values_length : (ps : List Typed) (ts : List ExprType) → values ps ≡ Ok ts → length ts ≡ length ps
values_length [] ts e = ap length (sym (same_ok [] ts e))
values_length (p ∷ ps) ts e =
    let q = went (value p) (λ t. values ps >>= λ ts. Ok (t ∷ ts)) ts e in
    let qs = went (values ps) (λ ts. Ok (q.value ∷ ts)) ts q.further in
    let rest = values_length ps qs.value qs.first in
    ap length (sym (same_ok (q.value ∷ qs.value) ts qs.further)) ∙ (let r : suc (length qs.value) ≡ suc (length ps) = omega (arith, rest) in r)

pub fitting_length : (w : ClassFacts) (kinds : List ValueType) (ts : List ExprType) → all_fit w kinds ts ≡ true → length kinds ≡ length ts
fitting_length w [] [] e = refl
fitting_length w [] (t ∷ ts) e = absurd (true≢false (sym e))
fitting_length w (kind ∷ kinds) [] e = absurd (true≢false (sym e))
fitting_length w (kind ∷ kinds) (t ∷ ts) e = let r = fitting_length w kinds ts (both (fits w kind t) (all_fit w kinds ts) e).1 in omega (arith, r)

pub mapped_length : (f : Expr → Typed) (ps : List ValueType) → length (map f (zero_values ps)) ≡ length ps
mapped_length f [] = refl
mapped_length f (p ∷ ps) = let r = mapped_length f ps in omega (arith, r)

-- x stands at its place among the zero values, and fits what is asked there
pub passed : (w : ClassFacts) (f : Expr → Typed) (t : ExprType) → value (f (exprs.Local 1)) ≡ Ok t → (ps kinds : List ValueType) (ts : List ExprType) (j : ℕ) (p kind : ValueType)
    → slice_get ps j ≡ Some p → slice_get kinds j ≡ Some kind → values (map f (zero_values_with j ps)) ≡ Ok ts → all_fit w kinds ts ≡ true → fits w kind t ≡ true
passed w f t x [] kinds ts j p kind at _ e g = absurd (cc)
passed w f t x (y ∷ ps) [] ts j p kind at there e g = absurd (cc)
passed w f t x (y ∷ ps) (z ∷ kinds) [] j p kind at there e g = absurd (true≢false (sym g))
passed w f t x (y ∷ ps) (z ∷ kinds) (u ∷ ts) zero p kind at there e g =
    let q = went (value (f (exprs.Local 1))) (λ t. values (map f (zero_values ps)) >>= λ ts. Ok (t ∷ ts)) (u ∷ ts) e in
    let qs = went (values (map f (zero_values ps))) (λ ts. Ok (q.value ∷ ts)) (u ∷ ts) q.further in
    let first : q.value ≡ u = heads q.value u qs.value ts (same_ok (q.value ∷ qs.value) (u ∷ ts) qs.further) in
    let same : t ≡ q.value = same_ok t q.value (sym x ∙ q.first) in
    let kind_is : z ≡ kind = cc in
    subst (λ k. fits w k t ≡ true) kind_is (subst (λ v. fits w z v ≡ true) (sym (same ∙ first)) (both (fits w z u) (all_fit w kinds ts) g).0)
  where
    heads : (a b : ExprType) (us vs : List ExprType) → (a ∷ us) ≡ (b ∷ vs) → a ≡ b
    heads a b us vs e = cc
passed w f t x (y ∷ ps) (z ∷ kinds) (u ∷ ts) (suc j) p kind at there e g =
    let q = went (value (f (zero_value y))) (λ t. values (map f (zero_values_with j ps)) >>= λ ts. Ok (t ∷ ts)) (u ∷ ts) e in
    let qs = went (values (map f (zero_values_with j ps))) (λ ts. Ok (q.value ∷ ts)) (u ∷ ts) q.further in
    let rest : qs.value ≡ ts = tails q.value u qs.value ts (same_ok (q.value ∷ qs.value) (u ∷ ts) qs.further) in
    passed w f t x ps kinds ts j p kind at there (qs.first ∙ ap typed_all rest) (both (fits w z u) (all_fit w kinds ts) g).1
  where
    tails : (a b : ExprType) (us vs : List ExprType) → (a ∷ us) ≡ (b ∷ vs) → us ≡ vs
    tails a b us vs e = cc
