-- Two hierarchies of which one numbers the other have the same ancestors, in one order.
use Rattle.std.proofs.Common.{◌≡◌, ℕ, zero, suc, inl, inr, Bool, true, false, if◌then◌else◌, List, [], ◌∷◌, ◌++◌, map, refl, sym, ap, ◌∙◌, subst}
use Rattle.std.proofs.lemmas.List.{map-append}
use Rattle.som_model.specs.Lists.{Mem, without, firsts, joined}
use Rattle.som_model.specs.Hierarchy.{Hierarchy}
use Rattle.som_model.specs.Ancestors.{anc_within, anc}
use Rattle.som_model.proofs.ListLaws.{map_map}
use Rattle.som_model_laws.proofs.Members.{firsts_mem, joined_mem, map_on}

map_joined : {A B : Type 0} (f : A → B) (xss : List (List A)) → map f (joined xss) ≡ joined (map (map f) xss)
map_joined f [] = refl
map_joined f (xs ∷ xss) = map-append f xs (joined xss) ∙ ap (λ z. map f xs ++ z) (map_joined f xss)

map_if : {A B : Type 0} (f : A → B) (b c : Bool) (y : A) (ys : List A) (zs : List B) → b ≡ c → map f ys ≡ zs → map f (if b then ys else y ∷ ys) ≡ (if c then zs else f y ∷ zs)
map_if f true c y ys zs e g = rw (sym e) g
map_if f false c y ys zs e g = rw (sym e) (ap (λ z. f y ∷ z) g)

module _ {A B : Type 0} (ha : Hierarchy A) (hb : Hierarchy B) (f : A → B) (Good : A → Type 0)
    (closed : (a p : A) → Good a → Mem p (ha.parents a) → Good p)
    (parents : (a : A) → Good a → map f (ha.parents a) ≡ hb.parents (f a))
    (same : (a b : A) → Good a → Good b → ha.same a b ≡ hb.same (f a) (f b))
    (height : (a : A) → Good a → ha.height a ≡ hb.height (f a)) where
  map_without : (x : A) (xs : List A) → Good x → ((a : A) → Mem a xs → Good a) → map f (without (ha.same x) xs) ≡ without (hb.same (f x)) (map f xs)
  map_without x [] g all = refl
  map_without x (y ∷ ys) g all = map_if f (ha.same x y) (hb.same (f x) (f y)) y _ _ (same x y g (all y (inl refl))) (map_without x ys g (λ a m. all a (inr m)))

  map_firsts : (xs : List A) → ((a : A) → Mem a xs → Good a) → map f (firsts ha.same xs) ≡ firsts hb.same (map f xs)
  map_firsts [] all = refl
  map_firsts (x ∷ xs) all = ap (λ z. f x ∷ z) (
      map_without x (firsts ha.same xs) (all x (inl refl)) (λ a m. all a (inr (firsts_mem ha.same a xs m)))
      ∙ ap (without (hb.same (f x))) (map_firsts xs (λ a m. all a (inr m))))

  all_good : (n : ℕ) (a b : A) → Good a → Mem b (anc_within ha n a) → Good b
  all_good zero a b g (inl e) = subst Good (sym e) g
  all_good zero a b g (inr m) = absurd m
  all_good (suc n) a b g m = elim (firsts_mem ha.same b (a ∷ joined (map (anc_within ha n) (ha.parents a))) m) [
    | inl e ↦ subst Good (sym e) g
    | inr k ↦ (let r = joined_mem (anc_within ha n) b (ha.parents a) k in all_good n r.0 b (closed a r.0 g r.1) r.2)
  ]

  within_same : (n : ℕ) (a : A) → Good a → map f (anc_within ha n a) ≡ anc_within hb n (f a)
  within_same zero a g = refl
  within_same (suc n) a g =
      map_firsts (a ∷ joined (map (anc_within ha n) (ha.parents a))) (λ b m. elim m [
        | inl e ↦ subst Good (sym e) g
        | inr k ↦ (let r = joined_mem (anc_within ha n) b (ha.parents a) k in all_good n r.0 b (closed a r.0 g r.1) r.2)
      ])
      ∙ ap (λ z. firsts hb.same (f a ∷ z)) (
      map_joined f (map (anc_within ha n) (ha.parents a))
      ∙ ap joined (map_map (map f) (anc_within ha n) (ha.parents a)
      ∙ map_on (λ p. map f (anc_within ha n p)) (λ p. anc_within hb n (f p)) (ha.parents a) (λ p m. within_same n p (closed a p g m))
      ∙ sym (map_map (anc_within hb n) f (ha.parents a))
      ∙ ap (map (anc_within hb n)) (parents a g)))

  pub numbered : (a : A) → Good a → map f (anc ha a) ≡ anc hb (f a)
  numbered a g = within_same (ha.height a) a g ∙ ap (λ n. anc_within hb n (f a)) (height a g)
