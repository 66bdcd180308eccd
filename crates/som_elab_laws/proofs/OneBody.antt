-- The bodies that are counted for a method are those of it.
use Rattle.std.proofs.Common.{◌≡◌, ℕ, zero, suc, ◌&&◌, inl, inr, Bool, true, false, if◌then◌else◌, List, [], ◌∷◌, length, slice_get, Some, refl, sym, ap, ◌∙◌, subst, arith, true≢false}
use Rattle.std.specs.Str.{bytes_eq}
use Rattle.som_model.specs.Lists.{Mem}
use Rattle.som_model.proofs.KeyLaws.{both, exact_bytes}
use Rattle.som_ast.specs.declared.body.BodyText.{BodyText}
use Rattle.som_verify_classes.proofs.PlainMembers.{both_true}
use Rattle.som_sema_drafts.specs.Drafts.{InterfaceDraft}
use Rattle.som_elab_methods.specs.Bodies.{texts_for}
use Rattle.som_elab_laws.specs.Conforming.{HasOneBody, IsOfMethod}

module _ (d : InterfaceDraft) (name : List ℕ) where
  abbrev class : List ℕ
  class = d.class.face.name

  abbrev test : BodyText → Bool
  test b = bytes_eq b.class.text class && bytes_eq b.method.text name

  of_test : (b : BodyText) → test b ≡ true → IsOfMethod d name b
  of_test b t =
      let p = both (bytes_eq b.class.text class) (bytes_eq b.method.text name) t in
      record { of_class = exact_bytes.two b.class.text class p.0; of_method = exact_bytes.two b.method.text name p.1 }

  test_of : (b : BodyText) → IsOfMethod d name b → test b ≡ true
  test_of b is =
      both_true (bytes_eq b.class.text class) (bytes_eq b.method.text name)
      (ap (λ z. bytes_eq z class) is.of_class ∙ exact_bytes.one class) (ap (λ z. bytes_eq z name) is.of_method ∙ exact_bytes.one name)

  abbrev counted : List BodyText → List BodyText
  counted bs = texts_for bs class name

  -- what is counted, one by one

  pub counted_mem : (bs : List BodyText) (b : BodyText) → Mem b (counted bs) → Mem b bs × IsOfMethod d name b
  counted_mem [] b m = absurd m
  counted_mem (x ∷ bs) b m = by (test x) refl m (counted_mem bs b)
    where
      by : (t : Bool) → test x ≡ t → Mem b (if t then x ∷ counted bs else counted bs) → (Mem b (counted bs) → Mem b bs × IsOfMethod d name b) → Mem b (x ∷ bs) × IsOfMethod d name b
      by true t (inl e) further = (inl e, subst (IsOfMethod d name) (sym e) (of_test x t))
      by true t (inr n) further = let r = further n in (inr r.0, r.1)
      by false t n further = let r = further n in (inr r.0, r.1)

  pub mem_counted : (bs : List BodyText) (b : BodyText) → Mem b bs → IsOfMethod d name b → Mem b (counted bs)
  mem_counted [] b m is = absurd m
  mem_counted (x ∷ bs) b m is = by (test x) refl m (λ n. mem_counted bs b n is)
    where
      by : (t : Bool) → test x ≡ t → Mem b (x ∷ bs) → (Mem b bs → Mem b (counted bs)) → Mem b (if t then x ∷ counted bs else counted bs)
      by true t (inl e) further = inl e
      by true t (inr n) further = inr (further n)
      by false t (inl e) further = absurd (true≢false (sym (test_of b is) ∙ ap test e ∙ t))
      by false t (inr n) further = further n

  -- ---- none

  at_mem : (bs : List BodyText) (i : ℕ) (x : BodyText) → slice_get bs i ≡ Some x → Mem x bs
  at_mem [] i x e = absurd (let z = e in cc)
  at_mem (b ∷ bs) zero x e = let same : b ≡ x = let z = e in cc in inl (sym same)
  at_mem (b ∷ bs) (suc i) x e = inr (at_mem bs i x e)

  mem_at : (bs : List BodyText) (x : BodyText) → Mem x bs → (i : ℕ) × (slice_get bs i ≡ Some x)
  mem_at [] x m = absurd m
  mem_at (b ∷ bs) x (inl e) = (0, ap Some (sym e))
  mem_at (b ∷ bs) x (inr m) = let r = mem_at bs x m in (suc r.0, r.1)

  none_there : (bs : List BodyText) (x : BodyText) → length (counted bs) ≡ 0 → Mem x bs → IsOfMethod d name x → ⊥
  none_there bs x e m is = by (counted bs) (mem_counted bs x m is) e
    where
      by : (ts : List BodyText) → Mem x ts → length ts ≡ 0 → ⊥
      by [] n f = n
      by (t ∷ ts) n f = omega (arith, f)

  none_counted : (bs : List BodyText) → ((x : BodyText) → Mem x bs → IsOfMethod d name x → ⊥) → length (counted bs) ≡ 0
  none_counted bs none = by (counted bs) (λ x m. let r = counted_mem bs x m in none x r.0 r.1)
    where
      by : (ts : List BodyText) → ((x : BodyText) → Mem x ts → ⊥) → length ts ≡ 0
      by [] f = refl
      by (t ∷ ts) f = absurd (f t (inl refl))

  -- ---- one

  one_place : (bs : List BodyText) → length (counted bs) ≡ 1 → (i j : ℕ) (x y : BodyText) → slice_get bs i ≡ Some x → slice_get bs j ≡ Some y → IsOfMethod d name x → IsOfMethod d name y → i ≡ j
  one_place [] one i j x y p q r s = absurd (omega (arith, one))
  one_place (b ∷ bs) one i j x y p q r s = by (test b) refl one (one_place bs) i j p q
    where
      by : (t : Bool) → test b ≡ t → length (if t then b ∷ counted bs else counted bs) ≡ 1
          → (length (counted bs) ≡ 1 → (i j : ℕ) (x y : BodyText) → slice_get bs i ≡ Some x → slice_get bs j ≡ Some y → IsOfMethod d name x → IsOfMethod d name y → i ≡ j)
          → (i j : ℕ) → slice_get (b ∷ bs) i ≡ Some x → slice_get (b ∷ bs) j ≡ Some y → i ≡ j
      by t is one further zero zero p q = refl
      by true is one further (suc i) j p q = absurd (none_there bs x (omega (arith, one)) (at_mem bs i x p) r)
      by true is one further zero (suc j) p q = absurd (none_there bs y (omega (arith, one)) (at_mem bs j y q) s)
      by false is one further zero (suc j) p q = let same : b ≡ x = let z = p in cc in absurd (true≢false (sym (test_of x r) ∙ ap test (sym same) ∙ is))
      by false is one further (suc i) zero p q = let same : b ≡ y = let z = q in cc in absurd (true≢false (sym (test_of y s) ∙ ap test (sym same) ∙ is))
      by false is one further (suc i) (suc j) p q = ap suc (further one i j x y p q r s)

  pub one_body : (bs : List BodyText) → length (counted bs) ≡ 1 → HasOneBody bs d name
  one_body bs one = by (counted bs) refl one
    where
      by : (ts : List BodyText) → counted bs ≡ ts → length ts ≡ 1 → HasOneBody bs d name
      by [] e one = absurd (omega (arith, one))
      by (t ∷ ts) e one =
          let r = counted_mem bs t (subst (λ z. Mem t z) (sym e) (inl refl)) in
          record { body = t; there = r.0; is_of = r.1; once = one_place bs (ap (λ (z : List BodyText). length z) e ∙ one) }

  count_one : (bs : List BodyText) (b : BodyText) → Mem b bs → IsOfMethod d name b
      → ((i j : ℕ) (x y : BodyText) → slice_get bs i ≡ Some x → slice_get bs j ≡ Some y → IsOfMethod d name x → IsOfMethod d name y → i ≡ j) → length (counted bs) ≡ 1
  count_one [] b m is once = absurd m
  count_one (x ∷ bs) b m is once = by (test x) refl m (λ n. count_one bs b n is (λ i j y z p q r s. let e = once (suc i) (suc j) y z p q r s in omega (arith, e)))
    where
      by : (t : Bool) → test x ≡ t → Mem b (x ∷ bs) → (Mem b bs → length (counted bs) ≡ 1) → length (if t then x ∷ counted bs else counted bs) ≡ 1
      by true t m further =
          let none = none_counted bs (λ y n of_it. let a = mem_at bs y n in let e = once 0 (suc a.0) x y refl a.1 (of_test x t) of_it in omega (arith, e)) in
          omega (arith, none)
      by false t (inl e) further = absurd (true≢false (sym (test_of b is) ∙ ap test e ∙ t))
      by false t (inr n) further = further n

  pub one_counted : (bs : List BodyText) → HasOneBody bs d name → length (counted bs) ≡ 1
  one_counted bs r = count_one bs r.body r.there r.is_of r.once
