-- A hierarchy and its copy under other names.
use Rattle.std.proofs.Common.{◌≡◌, ℕ, zero, suc, ◌+◌, ◌≤◌, inl, inr, Bool, true, false, if◌then◌else◌, List, [], ◌∷◌, ◌++◌, map, refl, sym, ap, ◌∙◌, subst, arith}
use Rattle.std.proofs.lemmas.List.{map-append}
use Rattle.som_model.specs.Lists.{Mem, without, firsts, joined}
use Rattle.som_model.specs.Hierarchy.{Hierarchy, Falls}
use Rattle.som_model.specs.Ancestors.{anc_within, anc}
use Rattle.som_model_laws.proofs.Members.{firsts_mem, joined_mem}
use Rattle.som_model_laws.proofs.Laws.{anc_stable}

-- f takes the classes of g that are In to classes of h, and their parents to the parents there
pub record Moves {A B : Type 0} (g : Hierarchy A) (h : Hierarchy B) (In : A → Type 0) (f : A → B) : Type 0 where
  pub closed : (x p : A) → In x → Mem p (g.parents x) → In p
  pub parents : (x : A) → In x → h.parents (f x) ≡ map f (g.parents x)
  pub same : (x y : A) → In x → In y → h.same (f x) (f y) ≡ g.same x y

module _ {A B : Type 0} (g : Hierarchy A) (h : Hierarchy B) (In : A → Type 0) (f : A → B) (m : Moves g h In f) where
  kept_if : (a : Bool) (y : A) (ys : List A) (zs : List B) → zs ≡ map f ys → (if a then zs else f y ∷ zs) ≡ map f (if a then ys else y ∷ ys)
  kept_if true y ys zs e = e
  kept_if false y ys zs e = ap (λ l. f y ∷ l) e

  without_map : (x : A) → In x → (ys : List A) → ((y : A) → Mem y ys → In y) → without (h.same (f x)) (map f ys) ≡ map f (without (g.same x) ys)
  without_map x i [] k = refl
  without_map x i (y ∷ ys) k = ap (λ (b : Bool). if b then without (h.same (f x)) (map f ys) else f y ∷ without (h.same (f x)) (map f ys)) (m.same x y i (k y (inl refl)))
      ∙ kept_if (g.same x y) y (without (g.same x) ys) (without (h.same (f x)) (map f ys)) (without_map x i ys (λ z n. k z (inr n)))

  firsts_map : (xs : List A) → ((y : A) → Mem y xs → In y) → firsts h.same (map f xs) ≡ map f (firsts g.same xs)
  firsts_map [] k = refl
  firsts_map (x ∷ xs) k = ap (λ l. f x ∷ l) (ap (without (h.same (f x))) (firsts_map xs (λ y n. k y (inr n)))
      ∙ without_map x (k x (inl refl)) (firsts g.same xs) (λ y n. k y (inr (firsts_mem g.same y xs n))))

  anc_in : (n : ℕ) (x : A) → In x → (y : A) → Mem y (anc_within g n x) → In y
  anc_in zero x i y (inl e) = subst In (sym e) i
  anc_in zero x i y (inr n) = absurd n
  anc_in (suc n) x i y k = elim (firsts_mem g.same y (x ∷ joined (map (anc_within g n) (g.parents x))) k) [
    | inl e ↦ subst In (sym e) i
    | inr w ↦ (let r = joined_mem (anc_within g n) y (g.parents x) w in anc_in n r.0 (m.closed x r.0 i r.1) y r.2)
  ]

  joined_map : (u : B → List B) (v : A → List A) (ps : List A) → ((p : A) → Mem p ps → u (f p) ≡ map f (v p)) → joined (map u (map f ps)) ≡ map f (joined (map v ps))
  joined_map u v [] k = refl
  joined_map u v (p ∷ ps) k = ap (λ l. l ++ joined (map u (map f ps))) (k p (inl refl)) ∙ ap (λ l. map f (v p) ++ l) (joined_map u v ps (λ q n. k q (inr n))) ∙ sym (map-append f (v p) (joined (map v ps)))

  all_in : (n : ℕ) (x : A) → In x → (y : A) → Mem y (x ∷ joined (map (anc_within g n) (g.parents x))) → In y
  all_in n x i y (inl e) = subst In (sym e) i
  all_in n x i y (inr w) = let r = joined_mem (anc_within g n) y (g.parents x) w in anc_in n r.0 (m.closed x r.0 i r.1) y r.2

  mem_map : (p : A) (ps : List A) → Mem p ps → Mem (f p) (map f ps)
  mem_map p [] k = absurd k
  mem_map p (q ∷ ps) (inl e) = inl (ap f e)
  mem_map p (q ∷ ps) (inr k) = inr (mem_map p ps k)

  within_map : (n : ℕ) (x : A) → In x → anc_within h n (f x) ≡ map f (anc_within g n x)
  within_map zero x i = refl
  within_map (suc n) x i = ap (λ ps. firsts h.same (f x ∷ joined (map (anc_within h n) ps))) (m.parents x i)
      ∙ ap (λ l. firsts h.same (f x ∷ l)) (joined_map (anc_within h n) (anc_within g n) (g.parents x) (λ p k. within_map n p (m.closed x p i k)))
      ∙ firsts_map (x ∷ joined (map (anc_within g n) (g.parents x))) (all_in n x i)

  -- the ancestors under the other names
  pub anc_moved : Falls g → Falls h → (x : A) → In x → anc h (f x) ≡ map f (anc g x)
  anc_moved fg fh x i =
      let a : h.height (f x) ≤ h.height (f x) + g.height x = omega arith in
      let b : g.height x ≤ h.height (f x) + g.height x = omega arith in
      anc_stable h fh (h.height (f x)) (h.height (f x) + g.height x) (f x) (omega arith) a
      ∙ within_map (h.height (f x) + g.height x) x i
      ∙ ap (map f) (sym (anc_stable g fg (g.height x) (h.height (f x) + g.height x) x (omega arith) b))
