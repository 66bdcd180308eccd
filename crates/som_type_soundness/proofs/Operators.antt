-- Operators take the operands that typing gives them, and answer values of the type that it says.
use Rattle.std.proofs.Common.{◌≡◌, ◌==◌, ℕ, zero, suc, ℤ, ◌⊎◌, inl, inr, Bool, true, false, ◌&&◌, ◌||◌, if◌then◌else◌, nat_lt, nat_le, ◌≤◌, arith, List, Ok, Err, refl, sym, ap, ◌∙◌, subst, true≢false}
use Rattle.std.specs.Prelude.{pos, negsuc, neg_ℤ, int_div, int_rem, ◌+ℤ◌, ◌-ℤ◌, ◌*ℤ◌, length, ◌++◌}
use Rattle.som_model.specs.declared.key.ClassKey.{ClassKey}
use Rattle.som_model.specs.declared.key.ValueType.{ValueType}
use Rattle.som_model.specs.declared.key.ValueType.TheVariants as types
use Rattle.som_model.specs.declared.program.Fault.{Fault}
use Rattle.som_model.specs.declared.program.Fault.TheVariants as faults
use Rattle.som_model.specs.declared.limits.TheConstants.{MAX_TEXT}
use Rattle.som_semantics.specs.World.{World}
use Rattle.som_semantics.specs.Values as values
use Rattle.som_semantics.specs.State.{Value, Long, Boolean, Str, Nil, To, Heap, Place, Tried}
use Rattle.som_semantics.specs.Runs.{Act, IsLater}
use Rattle.som_semantics.specs.Acts.{◌>>=◌, pure, tried, later_on}
use Rattle.som_semantics.specs.Values.{unary, binary, unary_op, binary_op, long, text}
use Rattle.som_semantics.specs.Expressions.{either, is_true}
use Rattle.som_model.specs.Typing.{ExprType, Of, Typed, gives, needs, unary_type, binary_type}
use Rattle.som_model.specs.Typing as typing
use Rattle.som_model.proofs.KeyLaws.{both}
use Rattle.som_model.proofs.StepLaws.{held, same_answer}
use Rattle.som_type_soundness.specs.Values.{has_type, is_long, is_boolean, is_text, is_object, are_of_one_kind, unary_takes, binary_takes}
use Rattle.som_type_soundness.specs.Preserving.{IsOf}
use Rattle.som_type_soundness.proofs.Heaps.{type_later}
use Rattle.som_type_soundness.proofs.Keeping.{Answers, Keeps, bind_keeps, pure_keeps, tried_keeps, if_keeps, weaker_keeps}
use Rattle.som_type_soundness.proofs.Facts.{IsSound}
use Rattle.som_type_soundness.proofs.Values.{nothing_value, of_long, of_boolean, of_text, of_printed}

-- whether a number is 0
abbrev is_zero : ℤ → Bool
is_zero (pos n) = n == 0
is_zero (negsuc n) = false

two_longs : (x y : Value) (a b : ℤ) → x ≡ Long a → y ≡ Long b → (is_long y && are_of_one_kind x y) ≡ true
two_longs x y a b e f = subst (λ u. (is_long y && are_of_one_kind u y) ≡ true) (sym e) (subst (λ v. (is_long v && are_of_one_kind (Long a) v) ≡ true) (sym f) refl)

two_booleans : (x y : Value) (a b : Bool) → x ≡ Boolean a → y ≡ Boolean b → (is_boolean y && are_of_one_kind x y) ≡ true
two_booleans x y a b e f = subst (λ u. (is_boolean y && are_of_one_kind u y) ≡ true) (sym e) (subst (λ v. (is_boolean v && are_of_one_kind (Boolean a) v) ≡ true) (sym f) refl)

two_texts : (x y : Value) (a b : List ℕ) → x ≡ Str a → y ≡ Str b → (is_text y && are_of_one_kind x y) ≡ true
two_texts x y a b e f = subst (λ u. (is_text y && are_of_one_kind u y) ≡ true) (sym e) (subst (λ v. (is_text v && are_of_one_kind (Str a) v) ≡ true) (sym f) refl)

or_true : (a b : Bool) → (a || b) ≡ true → (a ≡ true) ⊎ (b ≡ true)
or_true true b e = inl refl
or_true false b e = inr e

of_one_kind : (x y : Value) → is_object x ≡ true → is_object y ≡ true → are_of_one_kind x y ≡ true
of_one_kind Nil Nil e f = refl
of_one_kind Nil (To r) e f = refl
of_one_kind (To r) Nil e f = refl
of_one_kind (To r) (To q) e f = refl
of_one_kind (Long z) y e f = absurd (true≢false (sym e))
of_one_kind (Boolean z) y e f = absurd (true≢false (sym e))
of_one_kind (Str z) y e f = absurd (true≢false (sym e))
of_one_kind Nil (Long z) e f = absurd (true≢false (sym f))
of_one_kind Nil (Boolean z) e f = absurd (true≢false (sym f))
of_one_kind Nil (Str z) e f = absurd (true≢false (sym f))
of_one_kind (To r) (Long z) e f = absurd (true≢false (sym f))
of_one_kind (To r) (Boolean z) e f = absurd (true≢false (sym f))
of_one_kind (To r) (Str z) e f = absurd (true≢false (sym f))

-- what is answered under a test
pub answers_if : {A : Type 0} (b : Bool) (a : A) (f : Fault) (P : A → Type 0) → P a → Answers (if b then Ok a else Err f) P
answers_if true a f P p = p
answers_if false a f P p = tt

answers_unless : {A : Type 0} (b : Bool) (f : Fault) (x : Tried A) (P : A → Type 0) → Answers x P → Answers (if b then Err f else x) P
answers_unless true f x P p = tt
answers_unless false f x P p = p

past_zero : (n : ℕ) → (suc n == 0) ≡ false
past_zero n = grind arith

past_one : (n : ℕ) → (suc (suc n) == 1) ≡ false
past_one n = grind arith

past_two : (n : ℕ) → (suc (suc (suc n)) == 2) ≡ false
past_two n = grind arith

past_three : (n : ℕ) → (suc (suc (suc (suc n))) == 3) ≡ false
past_three n = grind arith

-- no operator of one operand, nor of two, has such a number
none_of_four : (a b c d : Bool) (x y z u : Typed) (r : ExprType) → a ≡ false → b ≡ false → c ≡ false → d ≡ false
    → (if a then x else if b then y else if c then z else if d then u else Err 17) ≡ Ok r → ⊥
none_of_four a b c d x y z u r p q s t e =
    let f : (if a then x else if b then y else if c then z else if d then u else Err 17) ≡ Err 17 = rw p (rw q (rw s (rw t refl))) in
    let g = sym f ∙ e in cc

none_of_five : (a b c d f : Bool) (x y z u v : Typed) (r : ExprType) → a ≡ false → b ≡ false → c ≡ false → d ≡ false → f ≡ false
    → (if a then x else if b then y else if c then z else if d then u else if f then v else Err 17) ≡ Ok r → ⊥
none_of_five a b c d f x y z u v r p q s t o e =
    let k : (if a then x else if b then y else if c then z else if d then u else if f then v else Err 17) ≡ Err 17 = rw p (rw q (rw s (rw t (rw o refl)))) in
    let g = sym k ∙ e in cc

not_below : (n m : ℕ) → m ≤ n → nat_lt n m ≡ false
not_below n m le = grind (arith, le)

not_thirteen : (n : ℕ) → 14 ≤ n → (n == 13) ≡ false
not_thirteen n le = grind (arith, le)

module _ (w : World) (known : ClassKey → Bool) (sound : IsSound w known) where
  gave : (takes : Bool) (kind : ValueType) (r : ExprType) → gives takes kind ≡ Ok r → (takes ≡ true) × (Of kind ≡ r)
  gave takes kind r e = let p = held 17 takes (Ok (Of kind)) r e in (p.0, same_answer p.1)

  one_long : (h : Heap) (z : ℤ) → Answers (long z) (λ u. has_type w h types.Long u ≡ true)
  one_long h z = answers_if (values.is_long z) (Long z) faults.Overflow (λ u. has_type w h types.Long u ≡ true) refl

  pub one_text : (h : Heap) (t : List ℕ) → Answers (text t) (λ u. has_type w h types.Str u ≡ true)
  one_text h t = answers_if (nat_le (length t) MAX_TEXT) (Str t) faults.TextTooLong (λ u. has_type w h types.Str u ≡ true) refl

  -- what an operator answers is as its type says
  module _ (h : Heap) (g : Value → Tried Value) (kind : ValueType) (r : ExprType) (v : Value) (is : Of kind ≡ r) where
    answered : (u : Value) → v ≡ u → Answers (g u) (λ x. has_type w h kind x ≡ true) → Answers (g v) (λ x. IsOf w r x h)
    answered u e a = subst (λ z. Answers (g v) (λ x. IsOf w z x h)) is (subst (λ z. Answers (g z) (λ x. has_type w h kind x ≡ true)) (sym e) a)

  -- one operand
  pub unary_typed : (h : Heap) (op : ℕ) (t r : ExprType) (v : Value) → unary_type op t ≡ Ok r → IsOf w t v h → (unary_takes op v ≡ true) × Answers (unary (unary_op op) v) (λ x. IsOf w r x h)
  unary_typed h zero t r v e i =
      let p = gave (typing.is_long t) types.Long r e in
      let z = of_long w known sound h t v p.0 i in
      (ap is_long z.1, answered h (unary (unary_op 0)) types.Long r v p.1 (Long z.0) z.1 (one_long h (neg_ℤ z.0)))
  unary_typed h (suc zero) t r v e i =
      let p = gave (typing.is_boolean t) types.Boolean r e in
      let z = of_boolean w known sound h t v p.0 i in
      (ap is_boolean z.1, answered h (unary (unary_op 1)) types.Boolean r v p.1 (Boolean z.0) z.1 refl)
  unary_typed h (suc (suc zero)) t r v e i =
      let p = gave (typing.is_string t) types.Long r e in
      let z = of_text w known sound h t v p.0 i in
      (ap is_text z.1, answered h (unary (unary_op 2)) types.Long r v p.1 (Str z.0) z.1 refl)
  unary_typed h (suc (suc (suc zero))) t r v e i =
      let p = gave (typing.has_text t) types.Str r e in
      (of_printed w known sound h t v p.0 i, answered h (unary (unary_op 3)) types.Str r v p.1 v refl refl)
  unary_typed h (suc (suc (suc (suc n)))) t r v e i = absurd (none_of_four _ _ _ _ _ _ _ _ r (past_zero (suc (suc (suc n)))) (past_one (suc (suc n))) (past_two (suc n)) (past_three n) e)

  -- an operand stays of its type
  pub is_later : (h g : Heap) (t : ExprType) (v : Value) → IsLater h g → IsOf w t v h → IsOf w t v g
  is_later h g (Of t) v le i = type_later w h g le t v i
  is_later h g typing.PlainNil v le i = i

  class_object : (h : Heap) (c : ClassKey) (v : Value) → has_type w h (types.Class c) v ≡ true → is_object v ≡ true
  class_object h c Nil e = refl
  class_object h c (To r) e = refl
  class_object h c (Long z) e = absurd (true≢false (sym e))
  class_object h c (Boolean z) e = absurd (true≢false (sym e))
  class_object h c (Str z) e = absurd (true≢false (sym e))

  of_reference : (h : Heap) (t : ExprType) (v : Value) → typing.is_reference t ≡ true → IsOf w t v h → is_object v ≡ true
  of_reference h (Of (types.Class c)) v e i = class_object h c v i
  of_reference h typing.PlainNil v e i = ap is_object i
  of_reference h (Of types.Void) v e i = absurd (true≢false (sym e))
  of_reference h (Of types.Long) v e i = absurd (true≢false (sym e))
  of_reference h (Of types.Boolean) v e i = absurd (true≢false (sym e))
  of_reference h (Of types.Str) v e i = absurd (true≢false (sym e))

  -- values of types that can be compared are of one kind
  alike_values : (h : Heap) (s t : ExprType) (x y : Value) → typing.are_alike s t ≡ true → IsOf w s x h → IsOf w t y h → are_of_one_kind x y ≡ true
  alike_values h s t x y e i j = elim (or_true (typing.is_long s && typing.is_long t) ((typing.is_boolean s && typing.is_boolean t) || ((typing.is_string s && typing.is_string t) || (typing.is_reference s && typing.is_reference t))) e) [
    | inl p ↦ (let q = both (typing.is_long s) (typing.is_long t) p in (both (is_long y) (are_of_one_kind x y) (two_longs x y _ _ (of_long w known sound h s x q.0 i).1 (of_long w known sound h t y q.1 j).1)).1)
    | inr f ↦ elim (or_true (typing.is_boolean s && typing.is_boolean t) ((typing.is_string s && typing.is_string t) || (typing.is_reference s && typing.is_reference t)) f) [
      | inl p ↦ (let q = both (typing.is_boolean s) (typing.is_boolean t) p in (both (is_boolean y) (are_of_one_kind x y) (two_booleans x y _ _ (of_boolean w known sound h s x q.0 i).1 (of_boolean w known sound h t y q.1 j).1)).1)
      | inr g ↦ elim (or_true (typing.is_string s && typing.is_string t) (typing.is_reference s && typing.is_reference t) g) [
        | inl p ↦ (let q = both (typing.is_string s) (typing.is_string t) p in (both (is_text y) (are_of_one_kind x y) (two_texts x y _ _ (of_text w known sound h s x q.0 i).1 (of_text w known sound h t y q.1 j).1)).1)
        | inr p ↦ (let q = both (typing.is_reference s) (typing.is_reference t) p in of_one_kind x y (of_reference h s x q.0 i) (of_reference h t y q.1 j))
      ]
    ]
  ]

  -- two values of one type are of one kind
  pub same_kind : (h : Heap) (t : ValueType) (u v : Value) → has_type w h t u ≡ true → has_type w h t v ≡ true → are_of_one_kind u v ≡ true
  same_kind h types.Void u v e f = subst (λ z. are_of_one_kind z v ≡ true) (sym (nothing_value w known sound h u e)) (ap (are_of_one_kind Nil) (nothing_value w known sound h v f))
  same_kind h types.Long u v e f = alike_values h (Of types.Long) (Of types.Long) u v refl e f
  same_kind h types.Boolean u v e f = alike_values h (Of types.Boolean) (Of types.Boolean) u v refl e f
  same_kind h types.Str u v e f = alike_values h (Of types.Str) (Of types.Str) u v refl e f
  same_kind h (types.Class c) u v e f = alike_values h (Of (types.Class c)) (Of (types.Class c)) u v refl e f

  -- two operands: they are as the operator takes them, and what it answers is of its type
  module _ (s t r : ExprType) where
    pub record Operands (op : ℕ) : Type 0 where
      pub left : (h : Heap) (x : Value) → IsOf w s x h → binary_takes op x ≡ true
      pub right : (h : Heap) (x y : Value) → IsOf w s x h → IsOf w t y h → (binary_takes op y && are_of_one_kind x y) ≡ true
      pub keeps : (h : Heap) (at : Place) (x : Value) (m n : Act Value) → IsOf w s x h → Keeps w h m n (IsOf w t)
          → Keeps w h (either (binary_op op) x m (λ y. tried at (binary (binary_op op) x y))) (either (binary_op op) x n (λ y. tried at (binary (binary_op op) x y))) (IsOf w r)

    -- both are evaluated
    strict_keeps : (g : Value → Value → Tried Value) → ((h : Heap) (x y : Value) → IsOf w s x h → IsOf w t y h → Answers (g x y) (λ u. IsOf w r u h))
        → (h : Heap) (at : Place) (x : Value) (m n : Act Value) → IsOf w s x h → Keeps w h m n (IsOf w t) → Keeps w h (m >>= λ y. tried at (g x y)) (n >>= λ y. tried at (g x y)) (IsOf w r)
    strict_keeps g f h at x m n i k = bind_keeps w h (IsOf w t) (IsOf w r) (λ y. tried at (g x y)) (λ y. tried at (g x y)) (λ y k le ty j.
        tried_keeps w k (IsOf w r) at (g x y) (λ l lf tf. f l x y (is_later h l s x (later_on h k l le lf) i) (is_later k l t y lf j))) m n k

    longs : (kind : ValueType) (g : Value → Value → Tried Value) → gives (typing.is_long s && typing.is_long t) kind ≡ Ok r
        → ((h : Heap) (a b : ℤ) → Answers (g (Long a) (Long b)) (λ u. has_type w h kind u ≡ true)) → (h : Heap) (x y : Value) → IsOf w s x h → IsOf w t y h → Answers (g x y) (λ u. IsOf w r u h)
    longs kind g e f h x y i j =
        let p = gave (typing.is_long s && typing.is_long t) kind r e in
        let q = both (typing.is_long s) (typing.is_long t) p.0 in
        let a = of_long w known sound h s x q.0 i in
        let b = of_long w known sound h t y q.1 j in
        answered h (g x) kind r y p.1 (Long b.0) b.1 (subst (λ z. Answers (g z (Long b.0)) (λ u. has_type w h kind u ≡ true)) (sym a.1) (f h a.0 b.0))

    long_left : (kind : ValueType) → gives (typing.is_long s && typing.is_long t) kind ≡ Ok r → (h : Heap) (x : Value) → IsOf w s x h → is_long x ≡ true
    long_left kind e h x i = ap is_long (of_long w known sound h s x (both (typing.is_long s) (typing.is_long t) (gave _ kind r e).0).0 i).1

    long_right : (kind : ValueType) → gives (typing.is_long s && typing.is_long t) kind ≡ Ok r → (h : Heap) (x y : Value) → IsOf w s x h → IsOf w t y h → (is_long y && are_of_one_kind x y) ≡ true
    long_right kind e h x y i j =
        let q = both (typing.is_long s) (typing.is_long t) (gave _ kind r e).0 in
        two_longs x y (of_long w known sound h s x q.0 i).0 (of_long w known sound h t y q.1 j).0 (of_long w known sound h s x q.0 i).1 (of_long w known sound h t y q.1 j).1

    compared_right : gives (typing.are_alike s t) types.Boolean ≡ Ok r → (h : Heap) (x y : Value) → IsOf w s x h → IsOf w t y h → are_of_one_kind x y ≡ true
    compared_right e h x y i j = alike_values h s t x y (gave (typing.are_alike s t) types.Boolean r e).0 i j

    boolean_right : gives (typing.is_boolean s && typing.is_boolean t) types.Boolean ≡ Ok r → (h : Heap) (x y : Value) → IsOf w s x h → IsOf w t y h → (is_boolean y && are_of_one_kind x y) ≡ true
    boolean_right e h x y i j =
        let q = both (typing.is_boolean s) (typing.is_boolean t) (gave _ types.Boolean r e).0 in
        two_booleans x y (of_boolean w known sound h s x q.0 i).0 (of_boolean w known sound h t y q.1 j).0 (of_boolean w known sound h s x q.0 i).1 (of_boolean w known sound h t y q.1 j).1

    text_right : gives (typing.is_string s && typing.is_string t) types.Str ≡ Ok r → (h : Heap) (x y : Value) → IsOf w s x h → IsOf w t y h → (is_text y && are_of_one_kind x y) ≡ true
    text_right e h x y i j =
        let q = both (typing.is_string s) (typing.is_string t) (gave _ types.Str r e).0 in
        two_texts x y (of_text w known sound h s x q.0 i).0 (of_text w known sound h t y q.1 j).0 (of_text w known sound h s x q.0 i).1 (of_text w known sound h t y q.1 j).1

    compared : (g : Value → Value → Tried Value) → gives (typing.are_alike s t) types.Boolean ≡ Ok r → ((h : Heap) (a b : Value) → Answers (g a b) (λ u. has_type w h types.Boolean u ≡ true))
        → (h : Heap) (x y : Value) → IsOf w s x h → IsOf w t y h → Answers (g x y) (λ u. IsOf w r u h)
    compared g e f h x y i j = answered h (g x) types.Boolean r y (gave (typing.are_alike s t) types.Boolean r e).1 y refl (f h x y)

    joined : gives (typing.is_string s && typing.is_string t) types.Str ≡ Ok r → (h : Heap) (x y : Value) → IsOf w s x h → IsOf w t y h → Answers (binary (binary_op 13) x y) (λ u. IsOf w r u h)
    joined e h x y i j =
        let p = gave (typing.is_string s && typing.is_string t) types.Str r e in
        let q = both (typing.is_string s) (typing.is_string t) p.0 in
        let a = of_text w known sound h s x q.0 i in
        let b = of_text w known sound h t y q.1 j in
        answered h (binary (binary_op 13) x) types.Str r y p.1 (Str b.0) b.1 (subst (λ z. Answers (binary (binary_op 13) z (Str b.0)) (λ u. has_type w h types.Str u ≡ true)) (sym a.1) (one_text h (a.0 ++ b.0)))

    -- `and` and `or`, of two booleans
    booleans : gives (typing.is_boolean s && typing.is_boolean t) types.Boolean ≡ Ok r → (typing.is_boolean s ≡ true) × (typing.is_boolean t ≡ true) × (Of types.Boolean ≡ r)
    booleans e =
        let p = gave (typing.is_boolean s && typing.is_boolean t) types.Boolean r e in
        let q = both (typing.is_boolean s) (typing.is_boolean t) p.0 in
        (q.0, q.1, p.1)

    decided : (e : gives (typing.is_boolean s && typing.is_boolean t) types.Boolean ≡ Ok r) (h : Heap) (b : Bool) → IsOf w r (Boolean b) h
    decided e h b = subst (λ z. IsOf w z (Boolean b) h) (booleans e).2 refl

    right_boolean : (e : gives (typing.is_boolean s && typing.is_boolean t) types.Boolean ≡ Ok r) (h : Heap) (m n : Act Value) → Keeps w h m n (IsOf w t) → Keeps w h m n (IsOf w r)
    right_boolean e h m n k = weaker_keeps w h (IsOf w t) (IsOf w r) m n (λ y g le ty j.
        (let b = of_boolean w known sound g t y (booleans e).1 j in subst (λ z. IsOf w r z g) (sym b.1) (decided e g b.0))) k

    pub operands : (op : ℕ) → binary_type op s t ≡ Ok r → Operands op
    operands zero e = record { left = long_left types.Long e; right = long_right types.Long e; keeps = strict_keeps (binary (binary_op 0)) (longs types.Long (binary (binary_op 0)) e (λ h a b. one_long h (a +ℤ b))) }
    operands (suc zero) e = record { left = long_left types.Long e; right = long_right types.Long e; keeps = strict_keeps (binary (binary_op 1)) (longs types.Long (binary (binary_op 1)) e (λ h a b. one_long h (a -ℤ b))) }
    operands (suc (suc zero)) e = record { left = long_left types.Long e; right = long_right types.Long e; keeps = strict_keeps (binary (binary_op 2)) (longs types.Long (binary (binary_op 2)) e (λ h a b. one_long h (a *ℤ b))) }
    operands (suc (suc (suc zero))) e = record { left = long_left types.Long e; right = long_right types.Long e; keeps = strict_keeps (binary (binary_op 3)) (longs types.Long (binary (binary_op 3)) e (λ h a b. answers_unless (is_zero b) faults.DivideByZero (long (int_div a b)) (λ u. has_type w h types.Long u ≡ true) (one_long h (int_div a b)))) }
    operands (suc (suc (suc (suc zero)))) e = record { left = long_left types.Long e; right = long_right types.Long e; keeps = strict_keeps (binary (binary_op 4)) (longs types.Long (binary (binary_op 4)) e (λ h a b. answers_unless (is_zero b) faults.DivideByZero (Ok (Long (int_rem a b))) (λ u. has_type w h types.Long u ≡ true) refl)) }
    operands (suc (suc (suc (suc (suc zero))))) e = record { left = λ h x i. refl; right = compared_right e; keeps = strict_keeps (binary (binary_op 5)) (compared (binary (binary_op 5)) e (λ h a b. refl)) }
    operands (suc (suc (suc (suc (suc (suc zero)))))) e = record { left = λ h x i. refl; right = compared_right e; keeps = strict_keeps (binary (binary_op 6)) (compared (binary (binary_op 6)) e (λ h a b. refl)) }
    operands (suc (suc (suc (suc (suc (suc (suc zero))))))) e = record { left = long_left types.Boolean e; right = long_right types.Boolean e; keeps = strict_keeps (binary (binary_op 7)) (longs types.Boolean (binary (binary_op 7)) e (λ h a b. refl)) }
    operands (suc (suc (suc (suc (suc (suc (suc (suc zero)))))))) e = record { left = long_left types.Boolean e; right = long_right types.Boolean e; keeps = strict_keeps (binary (binary_op 8)) (longs types.Boolean (binary (binary_op 8)) e (λ h a b. refl)) }
    operands (suc (suc (suc (suc (suc (suc (suc (suc (suc zero))))))))) e = record { left = long_left types.Boolean e; right = long_right types.Boolean e; keeps = strict_keeps (binary (binary_op 9)) (longs types.Boolean (binary (binary_op 9)) e (λ h a b. refl)) }
    operands (suc (suc (suc (suc (suc (suc (suc (suc (suc (suc zero)))))))))) e = record { left = long_left types.Boolean e; right = long_right types.Boolean e; keeps = strict_keeps (binary (binary_op 10)) (longs types.Boolean (binary (binary_op 10)) e (λ h a b. refl)) }
    operands (suc (suc (suc (suc (suc (suc (suc (suc (suc (suc (suc zero))))))))))) e = record {
      left = λ h x i. ap is_boolean (of_boolean w known sound h s x (booleans e).0 i).1;
      right = boolean_right e;
      keeps = λ h at x m n i k. if_keeps w h (IsOf w r) (is_true x) m (pure (Boolean false)) n (pure (Boolean false)) (right_boolean e h m n k) (pure_keeps w h (IsOf w r) (Boolean false) (λ g le ty. decided e g false));
    }
    operands (suc (suc (suc (suc (suc (suc (suc (suc (suc (suc (suc (suc zero)))))))))))) e = record {
      left = λ h x i. ap is_boolean (of_boolean w known sound h s x (booleans e).0 i).1;
      right = boolean_right e;
      keeps = λ h at x m n i k. if_keeps w h (IsOf w r) (is_true x) (pure (Boolean true)) m (pure (Boolean true)) n (pure_keeps w h (IsOf w r) (Boolean true) (λ g le ty. decided e g true)) (right_boolean e h m n k);
    }
    operands (suc (suc (suc (suc (suc (suc (suc (suc (suc (suc (suc (suc (suc zero))))))))))))) e = record {
      left = λ h x i. ap is_text (of_text w known sound h s x (both (typing.is_string s) (typing.is_string t) (gave _ types.Str r e).0).0 i).1;
      right = text_right e;
      keeps = strict_keeps (binary (binary_op 13)) (joined e);
    }
    operands (suc (suc (suc (suc (suc (suc (suc (suc (suc (suc (suc (suc (suc (suc n)))))))))))))) e = absurd (past (suc (suc (suc (suc (suc (suc (suc (suc (suc (suc (suc (suc (suc (suc n)))))))))))))) (omega arith) e)
      where
        past : (m : ℕ) → 14 ≤ m → binary_type m s t ≡ Ok r → ⊥
        past m le f = none_of_five _ _ _ _ _ _ _ _ _ _ r (not_below m 5 (omega (arith, le))) (not_below m 7 (omega (arith, le))) (not_below m 11 (omega (arith, le))) (not_below m 13 (omega (arith, le))) (not_thirteen m le) f
