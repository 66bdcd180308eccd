-- The hierarchy of classes whose parents stand before them: each parent stands lower.
use Rattle.std.proofs.Common.{◌≡◌, ℕ, zero, suc, ◌+◌, ◌-◌, ◌<◌, ◌≤◌, inl, inr, List, [], ◌∷◌, map, length, take, Option, Some, None, is_some, slice_get, slice_index_or, refl, sym, ap, ◌∙◌, subst, arith}
use Rattle.std.proofs.lemmas.Bool.{cases_lt}
use Rattle.som_model.specs.Lists.{Mem}
use Rattle.som_model.specs.Hierarchy.{Falls}
use Rattle.som_model.specs.Class.{Class}
use Rattle.som_model.specs.Classes.{class_at, hierarchy, height_step, greatest, parents_by, parents_in}
use Rattle.som_model.specs.declared.key.ClassKey.{ClassKey, out-ClassKey, roll-ClassKey, roll-out-ClassKey, fold-roll-ClassKey}
use Rattle.som_model.specs.declared.key.ClassKey.TheOpen.{ClassKey-F}
use Rattle.som_model.specs.declared.class.ClassFace.{ClassFace}
use Rattle.som_model.proofs.NamedLaws.{hierarchy_parents}
use Rattle.som_verify_classes.specs.Places.{with_kernel, class_of_place, key_at, face_at, IsTable}
use Rattle.som_verify_classes.specs.Standing.{kernel_rows}
use Rattle.som_verify_classes.specs.Plainly.{IsAmong, ParentsBefore}
use Rattle.som_verify_classes.proofs.KeyLists.{class_there, height_there}
use Rattle.som_verify_classes.proofs.Rows.{kernel_low, kernel_by, take_front}
use Rattle.som_verify_classes.proofs.PlainLists.{mem_map, map_mem}
use Rattle.som_verify_classes.proofs.PlainNames.{known_among}

-- a member has a place
pub mem_there : (cs : List Class) (c : Class) → Mem c cs → (i : ℕ) × (i < length cs) × (class_of_place cs i ≡ c)
mem_there [] c m = absurd m
mem_there (x ∷ cs) c (inl e) = (0, omega arith, sym e)
mem_there (x ∷ cs) c (inr m) = let r = mem_there cs c m in (suc r.0, omega (arith, r.1), r.2)

take_there : (cs : List Class) (n j : ℕ) → j < length (take n cs) → (j < n) × (class_of_place (take n cs) j ≡ class_of_place cs j)
take_there [] zero j lt = absurd (omega arith)
take_there [] (suc n) j lt = absurd (omega arith)
take_there (c ∷ cs) zero j lt = absurd (omega arith)
take_there (c ∷ cs) (suc n) zero lt = (omega arith, refl)
take_there (c ∷ cs) (suc n) (suc j) lt = let r = take_there cs n j (omega arith) in (omega (arith, r.0), r.1)

-- a class among the first n has a place below n
among_first : (cs : List Class) (n : ℕ) (k : ClassKey) → IsAmong (take n cs) k → (j : ℕ) × (j < n) × (key_at cs j ≡ k)
among_first cs n k a =
    let r = mem_there (take n cs) a.class a.there in
    let s = take_there cs n r.0 r.1 in
    (r.0, s.0, ap (λ (c : Class). c.key) (sym s.1 ∙ r.2) ∙ a.named)

greatest_mem : (ns : List ℕ) (n : ℕ) → Mem n ns → n ≤ greatest ns
greatest_mem [] n m = absurd m
greatest_mem (x ∷ ns) n (inl e) = omega (arith, e)
greatest_mem (x ∷ ns) n (inr m) = let h = greatest_mem ns n m in omega (arith, h)

height_derived : (cs : List Class) (ks : List ClassKey) → (hierarchy cs).height (roll-ClassKey (ClassKey-F.Derived ks)) ≡ greatest (map (hierarchy cs).height ks) + 1
unfolding hierarchy
height_derived cs ks = fold-roll-ClassKey ℕ (height_step cs) (ClassKey-F.Derived ks)

height_proxy : (cs : List Class) (k : ClassKey) → (hierarchy cs).height (roll-ClassKey (ClassKey-F.Proxy k)) ≡ (hierarchy cs).height k + 1
unfolding hierarchy
height_proxy cs k = fold-roll-ClassKey ℕ (height_step cs) (ClassKey-F.Proxy k)

at_place : (cs : List Class) (i : ℕ) → i < length cs → (c : Class) × (slice_get cs i ≡ Some c) × (face_at cs i ≡ c.decl.face)
at_place [] i lt = absurd (omega arith)
at_place (c ∷ cs) zero lt = (c, refl, refl)
at_place (c ∷ cs) (suc i) lt = at_place cs i (omega arith)

module _ (cs : List Class) (names : List (List ℕ)) (t : IsTable cs names) (rule : ParentsBefore cs) where
  past_kernel : (i : ℕ) (p : ClassKey) → i < length cs → Mem p (face_at cs i).parents → (j : ℕ) × (j < suc (suc (suc (suc i)))) × (key_at (with_kernel cs) j ≡ p)
  past_kernel i p lt m =
      let r = at_place cs i lt in
      let own = rule.parents i r.0 p r.1 (subst (λ (f : ClassFace). Mem p f.parents) r.2 m) in
      among_first (with_kernel cs) (suc (suc (suc (suc i)))) p (subst (λ (z : List Class). IsAmong z p) (sym (take_front cs i)) own)

  -- a parent of the class at a place stands before it
  parent_there : (i : ℕ) (p : ClassKey) → i < length (with_kernel cs) → Mem p (face_at (with_kernel cs) i).parents → (j : ℕ) × (j < i) × (key_at (with_kernel cs) j ≡ p)
  parent_there i p lt m = elim (cases_lt i 4) [
    | inl low ↦ (let r = map_mem (key_at (with_kernel cs)) p (slice_index_or kernel_rows i []) (subst (λ z. Mem p z) (sym (kernel_by cs i low)) m) in (r.0, kernel_low i r.0 r.1, sym r.2))
    | inr high ↦ (let e : suc (suc (suc (suc (i - 4)))) ≡ i = omega arith in
        let within : i - 4 < length cs = omega arith in
        subst (λ (z : ℕ). (j : ℕ) × (j < z) × (key_at (with_kernel cs) j ≡ p)) e
        (past_kernel (i - 4) p within (subst (λ (z : ℕ). Mem p (face_at (with_kernel cs) z).parents) (sym e) m)))
  ]

  named_falls : (x p : ClassKey) (o : Option Class) → class_at (with_kernel cs) x ≡ o → Mem p (parents_in o) → (hierarchy (with_kernel cs)).height p < (hierarchy (with_kernel cs)).height x
  named_falls x p None e m = absurd m
  named_falls x p (Some c) e m =
      let all = with_kernel cs in
      let a = known_among all x (ap is_some e) in
      let r = mem_there all a.class a.there in
      let key : key_at all r.0 ≡ x = ap (λ (z : Class). z.key) r.2 ∙ a.named in
      let face : parents_in (Some c) ≡ (face_at all r.0).parents = ap parents_in (sym e ∙ ap (class_at all) (sym key) ∙ class_there cs names t r.0 r.1) in
      let s = parent_there r.0 p r.1 (subst (λ z. Mem p z) face m) in
      let below : s.0 < length all = omega (arith, s.1, r.1) in
      omega (arith, s.1, height_there cs names t s.0 below ∙ ap (hierarchy all).height s.2, height_there cs names t r.0 r.1 ∙ ap (hierarchy all).height key)

  layer_falls : (x p : ClassKey) (l : ClassKey-F ClassKey) → out-ClassKey x ≡ l → Mem p (parents_by (with_kernel cs) l x) → (hierarchy (with_kernel cs)).height p < (hierarchy (with_kernel cs)).height x
  layer_falls x p (ClassKey-F.Named m n) e k = named_falls x p (class_at (with_kernel cs) x) refl k
  layer_falls x p (ClassKey-F.Derived ks) e k =
      let h = (hierarchy (with_kernel cs)).height in
      let high = ap h (sym (roll-out-ClassKey x) ∙ ap roll-ClassKey e) ∙ height_derived (with_kernel cs) ks in
      omega (arith, high, greatest_mem (map h ks) (h p) (mem_map h p ks k))
  layer_falls x p (ClassKey-F.Proxy of) e (inl is) =
      let h = (hierarchy (with_kernel cs)).height in
      let high = ap h (sym (roll-out-ClassKey x) ∙ ap roll-ClassKey e) ∙ height_proxy (with_kernel cs) of in
      omega (arith, high, ap h is)
  layer_falls x p (ClassKey-F.Proxy of) e (inr k) = absurd k

  -- each parent stands lower
  pub falls : Falls (hierarchy (with_kernel cs))
  falls x p m = layer_falls x p (out-ClassKey x) refl (subst (λ z. Mem p z) (hierarchy_parents (with_kernel cs) x) m)
