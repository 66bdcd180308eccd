-- What the classes of the kernel and made classes introduce, and the bodies of proxies.
use Rattle.std.proofs.Common.{◌≡◌, ◌≢◌, ◌↔◌, ℕ, zero, suc, ◌+◌, ◌<◌, ◌≤◌, ◌==◌, ◌&&◌, ◌||◌, not, nat_lt, inl, inr, Bool, true, false, if◌then◌else◌, List, [], ◌∷◌, ◌++◌, length, map, get_or, codes, Option, Some, None, is_some, slice_get, refl, sym, ap, ◌∙◌, subst, arith, true≢false}
use Rattle.std.proofs.lemmas.Bool.{cases_lt}
use Rattle.std.specs.Str.{bytes_eq}
use Rattle.som_model.specs.declared.key.Module.{Module}
use Rattle.som_model.specs.declared.key.Module.TheVariants as modules
use Rattle.som_model.specs.declared.key.ClassKey.{ClassKey, out-ClassKey}
use Rattle.som_model.specs.declared.key.ClassKey.TheOpen.{ClassKey-F}
use Rattle.som_model.specs.declared.key.ClassKey.TheVariants as keys
use Rattle.som_model.specs.declared.key.MethodRef.{MethodRef}
use Rattle.som_model.specs.declared.class.ClassFace.{ClassFace}
use Rattle.som_model.specs.Lists.{Mem, some}
use Rattle.som_model.specs.Keys.{same_key, same_method, same_module}
use Rattle.som_model.specs.Hierarchy.{Hierarchy}
use Rattle.som_model.specs.Class.{Class, bare, class_in, introduced}
use Rattle.som_model.specs.Classes.{ancestors, class_at, hierarchy, is_a}
use Rattle.som_model.specs.Implementation.{Forward, Nothing, forwards, has_body, held_by, is_kernel, is_kernel_layer}
use Rattle.som_model.specs.Kernel.{after_method, before_after, before_after_face, before_method, class_face, class_mgr_face, kernel, object_face, som_init, som_object, som_uninit}
use Rattle.som_model.specs.Loads.{IsOrdered}
use Rattle.som_model.specs.Owner.{introduced_by, introduced_in}
use Rattle.som_model.specs.Rules.{name_of}
use Rattle.som_model.proofs.KeyLaws.{both, exact_bytes, exact_keys}
use Rattle.som_model.proofs.NamedLaws.{out_named}
use Rattle.som_model_laws.proofs.Laws.{ancestors as descents, descends_test}
use Rattle.som_model_laws.proofs.Members.{both_or_none, mem_some, not_true, some_mem}
use Rattle.som_model_laws.proofs.Lists.{get_mem, map_mem, mem_map, flat_mem, mem_flat}
use Rattle.som_model_laws.proofs.Standing as standing
use Rattle.som_meta.specs.Numbering.{IsNumbered, IsToken, Numbering, key_at, method_at, names_of, tokens_from, tokens_of}
use Rattle.som_class_ids.proofs.Adding.{out_derived, out_proxy}
use Rattle.som_class_ids.proofs.Making.{some_class}
use Rattle.som_class_layout_laws.proofs.Members.{get_member, same_methods}
use Rattle.som_class_table.specs.Loaded.{AreLoaded}

abbrev of_kernel : ClassFace → Class
of_kernel f = class_in modules.Kernel (bare f)

module _ (k : Numbering) (l : AreLoaded k) where
  abbrev o : IsOrdered l.others
  o = l.loads.faces.ordered

  at_place : (n : ℕ) (c : Class) → slice_get (kernel ++ l.others) n ≡ Some c → slice_get k.classes n ≡ Some c
  at_place n c e = ap (λ (z : List Class). slice_get z n) l.is ∙ e

  -- a class is found by its key
  pub found : (n : ℕ) (c : Class) → slice_get k.classes n ≡ Some c → class_at k.classes (key_at k n) ≡ Some c
  found n c e =
      let there : slice_get (kernel ++ l.others) n ≡ Some c = ap (λ (z : List Class). slice_get z n) (sym l.is) ∙ e in
      ap (class_at k.classes) (l.first.key n c e) ∙ ap (λ (z : List Class). class_at z c.key) l.is ∙ standing.found l.others o c c.key (get_mem (kernel ++ l.others) n c there) refl

  pub names_at : (n : ℕ) (c : Class) → slice_get k.classes n ≡ Some c → names_of k n ≡ introduced c.decl.face.entries
  names_at n c e = ap introduced_in (found n c e)

  -- the kernel's classes have the first four numbers
  pub key_0 : key_at k 0 ≡ som_object
  key_0 = l.first.key 0 (of_kernel object_face) (at_place 0 (of_kernel object_face) refl)

  pub key_3 : key_at k 3 ≡ before_after
  key_3 = l.first.key 3 (of_kernel before_after_face) (at_place 3 (of_kernel before_after_face) refl)

  pub numbered_3 : IsNumbered k 3
  numbered_3 = l.first.numbered 3 (of_kernel before_after_face) (at_place 3 (of_kernel before_after_face) refl)

  pub names_0 : names_of k 0 ≡ introduced object_face.entries
  names_0 = names_at 0 (of_kernel object_face) (at_place 0 (of_kernel object_face) refl)

  pub names_3 : names_of k 3 ≡ codes "sommBeforeMethod" ∷ codes "sommAfterMethod" ∷ []
  names_3 = names_at 3 (of_kernel before_after_face) (at_place 3 (of_kernel before_after_face) refl)

  at_3 : (i : ℕ) → method_at k (3, i) ≡ record { class = before_after; name = get_or (codes "sommBeforeMethod" ∷ codes "sommAfterMethod" ∷ []) i [] }
  at_3 i = ap (λ (z : ClassKey). let r : MethodRef = record { class = z; name = get_or (names_of k 3) i [] } in r) key_3 ∙ ap (λ (z : List (List ℕ)). let r : MethodRef = record { class = before_after; name = get_or z i [] } in r) names_3

  two_names : length (names_of k 3) ≡ 2
  two_names = ap length names_3

  pub before_token : IsToken k (3, 0)
  before_token = (numbered_3, omega (arith, two_names))

  pub after_token : IsToken k (3, 1)
  after_token = (numbered_3, omega (arith, two_names))

  pub before_is : method_at k (3, 0) ≡ before_method
  before_is = at_3 0

  pub after_is : method_at k (3, 1) ≡ after_method
  after_is = at_3 1

  low_key : (n : ℕ) → n < 4 → (x : List ℕ) × (key_at k n ≡ keys.Named modules.Kernel x)
  low_key zero lt = (_, key_0)
  low_key (suc zero) lt = (_, l.first.key 1 (of_kernel class_face) (at_place 1 (of_kernel class_face) refl))
  low_key (suc (suc zero)) lt = (_, l.first.key 2 (of_kernel class_mgr_face) (at_place 2 (of_kernel class_mgr_face) refl))
  low_key (suc (suc (suc zero))) lt = (_, key_3)
  low_key (suc (suc (suc (suc n)))) lt = absurd (omega (arith, lt))

  outside : (m : Module) → (m ≡ modules.Kernel → ⊥) → same_module m modules.Kernel ≡ false
  outside modules.Kernel f = absurd (f refl)
  outside modules.Library f = refl
  outside (modules.Upper n) f = refl
  outside modules.Client f = refl

  in_kernel : (x : ClassKey) (m : Module) (n : List ℕ) → x ≡ keys.Named m n → is_kernel x ≡ same_module m modules.Kernel
  in_kernel x m n e = ap is_kernel e ∙ ap is_kernel_layer (out_named m n)

  high_declared : (i : ℕ) (c : Class) → slice_get l.others i ≡ Some c → is_kernel (key_at k (suc (suc (suc (suc i))))) ≡ false
  high_declared i c e =
      let own = o.own c (get_mem l.others i c e) in
      in_kernel (key_at k (suc (suc (suc (suc i))))) own.module_ (name_of c) (l.first.key (suc (suc (suc (suc i)))) c (at_place (suc (suc (suc (suc i)))) c e) ∙ own.is) ∙ outside own.module_ own.outside

  high_made : (n : ℕ) → IsNumbered k n → length k.classes ≤ n → is_kernel (key_at k n) ≡ false
  high_made n lt le = by (out-ClassKey (key_at k n)) refl
    where
      by : (x : ClassKey-F ClassKey) → out-ClassKey (key_at k n) ≡ x → is_kernel (key_at k n) ≡ false
      by (ClassKey-F.Named m x) e = absurd (l.made n lt le (record { module_ = m; name = x; is = standing.named_layer (key_at k n) m x e }))
      by (ClassKey-F.Derived ks) e = ap is_kernel_layer e
      by (ClassKey-F.Proxy of) e = ap is_kernel_layer e

  pub kernel_is : (n : ℕ) → IsNumbered k n → nat_lt n 4 ≡ is_kernel (key_at k n)
  kernel_is n lt = elim (cases_lt n 4) [
    | inl low ↦ (let r = low_key n low in let t : nat_lt n 4 ≡ true = grind (arith, low) in t ∙ sym (in_kernel (key_at k n) modules.Kernel r.0 r.1))
    | inr ge ↦ (let f : nat_lt n 4 ≡ false = grind (arith, ge) in f ∙ sym (high n ge lt))
  ]
    where
      high : (n : ℕ) → 4 ≤ n → IsNumbered k n → is_kernel (key_at k n) ≡ false
      high zero ge lt = absurd (omega (arith, ge))
      high (suc zero) ge lt = absurd (omega (arith, ge))
      high (suc (suc zero)) ge lt = absurd (omega (arith, ge))
      high (suc (suc (suc zero))) ge lt = absurd (omega (arith, ge))
      high (suc (suc (suc (suc i)))) ge lt = elim (cases_lt i (length l.others)) [
        | inl less ↦ (let c = some_class l.others i less in high_declared i c.0 c.1)
        | inr more ↦ (let long = ap length l.is in let s : length (kernel ++ l.others) ≡ length l.others + 4 = omega arith in high_made (suc (suc (suc (suc i)))) lt (omega (arith, long, s, more)))
      ]

  -- made classes introduce nothing
  pub made_unknown : (n : ℕ) → IsNumbered k n → length k.classes ≤ n → class_at k.classes (key_at k n) ≡ None
  made_unknown n lt le = by (class_at (kernel ++ l.others) (key_at k n)) refl
    where
      by : (q : Option Class) → class_at (kernel ++ l.others) (key_at k n) ≡ q → class_at k.classes (key_at k n) ≡ None
      by None e = ap (λ (z : List Class). class_at z (key_at k n)) l.is ∙ e
      by (Some c) e =
          let f = standing.found_is l.others o (key_at k n) c e in
          let r = standing.keyed l.others o c f.0 in
          absurd (l.made n lt le (record { module_ = r.0; name = r.1; is = sym f.1 ∙ r.2 }))

  pub made_tokens : (n : ℕ) → IsNumbered k n → length k.classes ≤ n → tokens_of k n ≡ []
  made_tokens n lt le = ap (λ (q : Option Class). tokens_from n 0 (length (introduced_in q))) (made_unknown n lt le)

  -- somInit and somUninit are the first two methods of SOMObject

  object_methods : (i : ℕ) → i < 9 → (nat_lt i 2) ≡ (same_method (record { class = som_object; name = get_or (introduced object_face.entries) i [] }) som_init || same_method (record { class = som_object; name = get_or (introduced object_face.entries) i [] }) som_uninit)
  object_methods i lt = by i lt (same_key som_object som_object) (exact_keys.one som_object)
    where
      by : (i : ℕ) → i < 9 → (b : Bool) → b ≡ true → nat_lt i 2 ≡ ((b && bytes_eq (get_or (introduced object_face.entries) i []) (codes "somInit")) || (b && bytes_eq (get_or (introduced object_face.entries) i []) (codes "somUninit")))
      by i lt false e = absurd (true≢false (sym e))
      by zero lt true e = refl
      by (suc zero) lt true e = refl
      by (suc (suc zero)) lt true e = refl
      by (suc (suc (suc zero))) lt true e = refl
      by (suc (suc (suc (suc zero)))) lt true e = refl
      by (suc (suc (suc (suc (suc zero))))) lt true e = refl
      by (suc (suc (suc (suc (suc (suc zero)))))) lt true e = refl
      by (suc (suc (suc (suc (suc (suc (suc zero))))))) lt true e = refl
      by (suc (suc (suc (suc (suc (suc (suc (suc zero)))))))) lt true e = refl
      by (suc (suc (suc (suc (suc (suc (suc (suc (suc i))))))))) lt true e = absurd (omega (arith, lt))

  other_class : (n : ℕ) (name : List ℕ) (s : MethodRef) → IsNumbered k n → n ≢ 0 → s.class ≡ som_object → same_method (record { class = key_at k n; name = name }) s ≡ false
  other_class n name s lt away e =
      let zeroth : IsNumbered k 0 = l.first.numbered 0 (of_kernel object_face) (at_place 0 (of_kernel object_face) refl) in
      not_true (same_method (record { class = key_at k n; name = name }) s) (λ t.
      let both_so = both (same_key (key_at k n) s.class) (bytes_eq name s.name) t in
      away (l.apart n 0 lt zeroth (exact_keys.two (key_at k n) s.class both_so.0 ∙ e ∙ sym key_0)))

  pub life_is : (n i : ℕ) → IsToken k (n, i) → ((n == 0) && nat_lt i 2) ≡ (same_method (method_at k (n, i)) som_init || same_method (method_at k (n, i)) som_uninit)
  life_is zero i is =
      let lt : i < 9 = subst (λ (z : List (List ℕ)). i < length z) names_0 is.1 in
      object_methods i lt ∙ sym (ap (λ (r : MethodRef). same_method r som_init || same_method r som_uninit) same)
    where
      same : method_at k (0, i) ≡ record { class = som_object; name = get_or (introduced object_face.entries) i [] }
      same = ap (λ (z : ClassKey). let r : MethodRef = record { class = z; name = get_or (names_of k 0) i [] } in r) key_0 ∙ ap (λ (z : List (List ℕ)). let r : MethodRef = record { class = som_object; name = get_or z i [] } in r) names_0
  life_is (suc n) i is =
      let none : (suc n == 0) ≡ false = grind arith in
      let name = get_or (names_of k (suc n)) i [] in
      ap (λ b. b && nat_lt i 2) none
      ∙ sym (ap (λ b. b || same_method (method_at k (suc n, i)) som_uninit) (other_class (suc n) name som_init is.0 (λ e. cc) refl) ∙ other_class (suc n) name som_uninit is.0 (λ e. cc) refl)

  -- a proxy forwards what is introduced outside the kernel where its target descends from the introducer

  abbrev h : Hierarchy ClassKey
  h = hierarchy (kernel ++ l.others)

  above_is : (x a : ClassKey) → (is_a k.classes x a ≡ true) ↔ Mem a (ancestors k.classes x)
  above_is x a = subst (λ (z : List Class). (is_a z x a ≡ true) ↔ Mem a (ancestors z x)) (sym l.is) (
    (λ t. (descents h (standing.tells l.others o) (standing.falls l.others o) x a).1 ((descends_test h (standing.tells l.others o) (standing.falls l.others o) x a).0 t)),
    (λ m. (descends_test h (standing.tells l.others o) (standing.falls l.others o) x a).1 ((descents h (standing.tells l.others o) (standing.falls l.others o) x a).0 m)),
  )

  abbrev introduced_of : ClassKey → List MethodRef
  introduced_of c = map (λ name. record { class = c; name = name }) (introduced_by k.classes c)

  abbrev forwards_of : ClassKey → List MethodRef
  forwards_of c = if is_kernel c then [] else introduced_of c

  of_outside : (c : ClassKey) (r : MethodRef) (b : Bool) → b ≡ false → Mem r (introduced_of c) → Mem r (if b then [] else introduced_of c)
  of_outside c r true e m = absurd (true≢false e)
  of_outside c r false e m = m

  outside_of : (c : ClassKey) (r : MethodRef) (b : Bool) → Mem r (if b then [] else introduced_of c) → (not b ≡ true) × (r.class ≡ c)
  outside_of c r true m = absurd m
  outside_of c r false m = let n = map_mem (λ (name : List ℕ). let s : MethodRef = record { class = c; name = name } in s) r (introduced_by k.classes c) m in (refl, ap (λ (s : MethodRef). s.class) n.2)

  method_self : (r : MethodRef) → same_method r r ≡ true
  method_self r = ap (λ b. b && bytes_eq r.name r.name) (exact_keys.one r.class) ∙ exact_bytes.one r.name

  not_is : (b : Bool) → not b ≡ true → b ≡ false
  not_is true e = absurd (true≢false (sym e))
  not_is false e = refl

  abbrev meth : ℕ → ℕ → MethodRef
  meth n i = method_at k (n, i)

  pub forward_is : (of n i : ℕ) → IsToken k (n, i) → (not (is_kernel (key_at k n)) && is_a k.classes (key_at k of) (key_at k n)) ≡ some (same_method (method_at k (n, i))) (forwards k.classes (key_at k of))
  forward_is of n i is = both_or_none (not (is_kernel (key_at k n)) && is_a k.classes (key_at k of) (key_at k n)) (some (same_method (meth n i)) (forwards k.classes (key_at k of))) ahead back
    where
      ahead : (not (is_kernel (key_at k n)) && is_a k.classes (key_at k of) (key_at k n)) ≡ true → some (same_method (meth n i)) (forwards k.classes (key_at k of)) ≡ true
      ahead t =
          let two = both (not (is_kernel (key_at k n))) (is_a k.classes (key_at k of) (key_at k n)) t in
          let above : Mem (key_at k n) (ancestors k.classes (key_at k of)) = (above_is (key_at k of) (key_at k n)).0 two.1 in
          let name : Mem (meth n i) (introduced_of (key_at k n)) =
          mem_map (λ (name : List ℕ). let s : MethodRef = record { class = key_at k n; name = name } in s) (get_or (names_of k n) i []) (names_of k n) (get_member (names_of k n) i is.1) in
          mem_some (same_method (meth n i)) (meth n i) (forwards k.classes (key_at k of))
          (mem_flat forwards_of (meth n i) (key_at k n) (ancestors k.classes (key_at k of)) above (of_outside (key_at k n) (meth n i) (is_kernel (key_at k n)) (not_is (is_kernel (key_at k n)) two.0) name)) (method_self (meth n i))

      back : some (same_method (meth n i)) (forwards k.classes (key_at k of)) ≡ true → (not (is_kernel (key_at k n)) && is_a k.classes (key_at k of) (key_at k n)) ≡ true
      back t =
          let s = some_mem (same_method (meth n i)) (forwards k.classes (key_at k of)) t in
          let same : (meth n i) ≡ s.0 = same_methods (meth n i) s.0 s.2 in
          let a = flat_mem forwards_of s.0 (ancestors k.classes (key_at k of)) s.1 in
          let own = outside_of a.0 s.0 (is_kernel a.0) a.2 in
          let class : key_at k n ≡ a.0 = ap (λ (z : MethodRef). z.class) same ∙ own.1 in
          let out : not (is_kernel (key_at k n)) ≡ true = ap (λ z. not (is_kernel z)) class ∙ own.0 in
          let above : is_a k.classes (key_at k of) (key_at k n) ≡ true = ap (is_a k.classes (key_at k of)) class ∙ (above_is (key_at k of) a.0).1 a.1 in
          ap (λ b. b && is_a k.classes (key_at k of) (key_at k n)) out ∙ above

  either_held : (a b c : Bool) → is_some (if a || b then Some Nothing else (if c then Some Forward else None)) ≡ ((a || b) || c)
  either_held true b c = refl
  either_held false true c = refl
  either_held false false true = refl
  either_held false false false = refl

  -- the bodies of made classes
  pub proxy_body : (of : ℕ) (t : ℕ × ℕ) → IsToken k t → (((t.0 == 0) && nat_lt t.1 2) || (not (is_kernel (key_at k t.0)) && is_a k.classes (key_at k of) (key_at k t.0))) ≡ has_body k.classes (method_at k t) (keys.Proxy (key_at k of))
  proxy_body of (n, i) is =
      let r = method_at k (n, i) in
      ap (λ b. b || (not (is_kernel (key_at k n)) && is_a k.classes (key_at k of) (key_at k n))) (life_is n i is)
      ∙ ap (λ b. (same_method r som_init || same_method r som_uninit) || b) (forward_is of n i is)
      ∙ sym (either_held (same_method r som_init) (same_method r som_uninit) (some (same_method r) (forwards k.classes (key_at k of))))
      ∙ sym (ap (λ (z : ClassKey-F ClassKey). is_some (held_by k.classes z (keys.Proxy (key_at k of)) r)) (out_proxy (key_at k of)))

pub derived_body : (cs : List Class) (r : MethodRef) (x : ClassKey) (ks : List ClassKey) → x ≡ keys.Derived ks → false ≡ has_body cs r x
derived_body cs r x ks e = sym (ap (has_body cs r) e ∙ ap (λ (z : ClassKey-F ClassKey). is_some (held_by cs z (keys.Derived ks) r)) (out_derived ks))

-- the one parent of a class of proxies

pub first_parent : (k : Numbering) (ps : List ℕ) (of : ClassKey) → map (key_at k) ps ≡ of ∷ [] → 0 < length ps
first_parent k [] of e = absurd (cc)
first_parent k (p ∷ ps) of e = omega arith

pub parent_key : (k : Numbering) (ps : List ℕ) (of : ClassKey) (p : ℕ) → map (key_at k) ps ≡ of ∷ [] → slice_get ps 0 ≡ Some p → (key_at k p ≡ of) × Mem p ps
parent_key k [] of p e at = absurd (cc)
parent_key k (q ∷ ps) of p e at = (let same : q ≡ p = cc in (ap (key_at k) (sym same) ∙ cc, inl (sym same)))

-- the three answers on the body of a proxy

pub body_life : (a x r : Bool) → (a || x) ≡ r → a ≡ true → true ≡ r
body_life a x r e t = ap (λ b. b || x) (sym t) ∙ e

pub body_kernel : (a b c r : Bool) → (a || (not b && c)) ≡ r → a ≡ false → b ≡ true → false ≡ r
body_kernel a b c r e f t = ap (λ z. z || (not true && c)) (sym f) ∙ ap (λ z. a || (not z && c)) (sym t) ∙ e

pub body_forward : (a b c r : Bool) → (a || (not b && c)) ≡ r → a ≡ false → b ≡ false → c ≡ r
body_forward a b c r e f t = ap (λ z. z || (not false && c)) (sym f) ∙ ap (λ z. a || (not z && c)) (sym t) ∙ e
