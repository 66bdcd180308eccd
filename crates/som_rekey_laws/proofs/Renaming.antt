-- Ancestors, descent and answers go along a map of names.
use Rattle.std.proofs.Common.{◌≡◌, inl, inr, ℕ, zero, suc, Bool, true, if◌then◌else◌, List, ◌∷◌, map, Option, Some, None, refl, sym, ap, ◌∙◌}
use Rattle.std.specs.Option.{option_map}
use Rattle.som_model.specs.Lists.{Mem, firsts, joined, find, some}
use Rattle.som_model.specs.Hierarchy.{Hierarchy}
use Rattle.som_model.specs.Ancestors.{anc_within, anc, descends}
use Rattle.som_model.specs.Resolution.{inherits, impl_within, impl, byname}
use Rattle.som_model_laws.proofs.Members.{map_on, joined_mem}
use Rattle.som_rekey_laws.specs.Alike.{IsAlike}
use Rattle.som_rekey_laws.proofs.Lists.{if_map, map_twice, map_joined, some_map, find_map, firsts_mem, firsts_map, first_some_map}

-- what is known of a class, and of all in the lists of its parents, is known of all
among : {K : Type 0} (P : K → Bool) (f : K → List K) (x : K) (ps : List K) → P x ≡ true → ((p : K) → Mem p ps → (b : K) → Mem b (f p) → P b ≡ true) → (a : K) → Mem a (x ∷ joined (map f ps)) → P a ≡ true
among P f x ps k e a (inl is) = ap P is ∙ k
among P f x ps k e a (inr m) = let j = joined_mem f a ps m in e j.0 j.1 a j.2

-- the ancestors of what is known are known
pub known_within : {K L : Type 0} (g : Hierarchy K) (h : Hierarchy L) (r : K → L) (P : K → Bool) → IsAlike g h r P → (n : ℕ) (x : K) → P x ≡ true → (a : K) → Mem a (anc_within g n x) → P a ≡ true
known_within g h r P like zero x k a (inl e) = ap P e ∙ k
known_within g h r P like zero x k a (inr m) = absurd m
known_within g h r P like (suc n) x k a m =
    among P (anc_within g n) x (g.parents x) k (λ p i b j. known_within g h r P like n p (like.closed x p k i) b j) a
    (firsts_mem g.same a (x ∷ joined (map (anc_within g n) (g.parents x))) m)

pub known_ancestors : {K L : Type 0} (g : Hierarchy K) (h : Hierarchy L) (r : K → L) (P : K → Bool) → IsAlike g h r P → (x : K) → P x ≡ true → (a : K) → Mem a (anc g x) → P a ≡ true
known_ancestors g h r P like x k a m = known_within g h r P like (g.height x) x k a m

all_known : {K L : Type 0} (g : Hierarchy K) (h : Hierarchy L) (r : K → L) (P : K → Bool) → IsAlike g h r P → (n : ℕ) (x : K) → P x ≡ true → (a : K) → Mem a (x ∷ joined (map (anc_within g n) (g.parents x))) → P a ≡ true
all_known g h r P like n x k a m = among P (anc_within g n) x (g.parents x) k (λ p i b j. known_within g h r P like n p (like.closed x p k i) b j) a m

anc_map : {K L : Type 0} (g : Hierarchy K) (h : Hierarchy L) (r : K → L) (P : K → Bool) → IsAlike g h r P → (n : ℕ) (x : K) → P x ≡ true → anc_within h n (r x) ≡ map r (anc_within g n x)
anc_map g h r P like zero x k = refl
anc_map g h r P like (suc n) x k =
    let up = joined (map (anc_within g n) (g.parents x)) in
    let rows : map (anc_within h n) (map r (g.parents x)) ≡ map (map r) (map (anc_within g n) (g.parents x)) =
    map_twice (anc_within h n) r (g.parents x)
    ∙ map_on (λ p. anc_within h n (r p)) (λ p. map r (anc_within g n p)) (g.parents x) (λ p m. anc_map g h r P like n p (like.closed x p k m))
    ∙ sym (map_twice (map r) (anc_within g n) (g.parents x)) in
    let above : joined (map (anc_within h n) (h.parents (r x))) ≡ map r up =
    ap (λ l. joined (map (anc_within h n) l)) (like.parents x k) ∙ ap joined rows ∙ sym (map_joined r (map (anc_within g n) (g.parents x))) in
    ap (λ l. firsts h.same (r x ∷ l)) above
    ∙ firsts_map g.same h.same r (x ∷ up) (λ a b m l. like.same a b (all_known g h r P like n x k a m) (all_known g h r P like n x k b l))

pub ancestors_alike : {K L : Type 0} (g : Hierarchy K) (h : Hierarchy L) (r : K → L) (P : K → Bool) → IsAlike g h r P → (x : K) → P x ≡ true → anc h (r x) ≡ map r (anc g x)
ancestors_alike g h r P like x k = ap (λ n. anc_within h n (r x)) (like.height x k) ∙ anc_map g h r P like (g.height x) x k

pub descent_alike : {K L : Type 0} (g : Hierarchy K) (h : Hierarchy L) (r : K → L) (P : K → Bool) → IsAlike g h r P → (x a : K) → P x ≡ true → P a ≡ true → descends h (r x) (r a) ≡ descends g x a
descent_alike g h r P like x a k l =
    ap (some (h.same (r a))) (ancestors_alike g h r P like x k)
    ∙ some_map (g.same a) (h.same (r a)) r (anc g x) (λ b m. like.same a b l (known_ancestors g h r P like x k b m))

pub names_alike : {K L : Type 0} (g : Hierarchy K) (h : Hierarchy L) (r : K → L) (P : K → Bool) → IsAlike g h r P → (old : K → Bool) (new : L → Bool) → ((x : K) → P x ≡ true → new (r x) ≡ old x)
    → (x : K) → P x ≡ true → byname h new (r x) ≡ option_map r (byname g old x)
names_alike g h r P like old new same x k =
    ap (find new) (ancestors_alike g h r P like x k)
    ∙ find_map old new r (anc g x) (λ b m. same b (known_ancestors g h r P like x k b m))

module _ {K L : Type 0} (g : Hierarchy K) (h : Hierarchy L) (r : K → L) (P : K → Bool) (like : IsAlike g h r P)
    (has : K → Bool) (new_has : L → Bool) (chosen : K → Option K) (new_chosen : L → Option L)
    (bodies : (x : K) → P x ≡ true → new_has (r x) ≡ has x)
    (choices : (x : K) → P x ≡ true → new_chosen (r x) ≡ option_map r (chosen x))
    (known : (x p : K) → P x ≡ true → chosen x ≡ Some p → P p ≡ true) (a : K) (is : P a ≡ true) where
  inherits_map : (old : K → Option K) (new : L → Option L) (o : Option K) (ps : List K) → ((p : K) → P p ≡ true → new (r p) ≡ option_map r (old p))
      → ((p : K) → o ≡ Some p → P p ≡ true) → ((p : K) → Mem p ps → P p ≡ true)
      → inherits h (r a) new (option_map r o) (map r ps) ≡ option_map r (inherits g a old o ps)
  inherits_map old new (Some p) ps e c m = e p (c p refl)
  inherits_map old new None ps e c m =
      first_some_map (λ p. if descends g p a then old p else None) (λ p. if descends h p (r a) then new p else None) r r ps (λ p n.
      ap (λ b. if b then new (r p) else None) (descent_alike g h r P like p a (m p n) is)
      ∙ ap (λ o. if descends g p a then o else None) (e p (m p n))
      ∙ if_map (option_map r) (descends g p a) (old p) None)

  impl_map : (n : ℕ) (x : K) → P x ≡ true → impl_within h new_has new_chosen (r a) n (r x) ≡ option_map r (impl_within g has chosen a n x)
  impl_map zero x k =
      ap (λ b. if b then Some (r x) else None) (bodies x k) ∙ if_map (option_map r) (has x) (Some x) None
  impl_map (suc n) x k =
      let old = impl_within g has chosen a n in
      let new = impl_within h new_has new_chosen (r a) n in
      let up : inherits h (r a) new (new_chosen (r x)) (h.parents (r x)) ≡ option_map r (inherits g a old (chosen x) (g.parents x)) =
      ap (λ o. inherits h (r a) new o (h.parents (r x))) (choices x k)
      ∙ ap (λ l. inherits h (r a) new (option_map r (chosen x)) l) (like.parents x k)
      ∙ inherits_map old new (chosen x) (g.parents x) (impl_map n) (λ p e. known x p k e) (λ p m. like.closed x p k m) in
      ap (λ b. if b then Some (r x) else inherits h (r a) new (new_chosen (r x)) (h.parents (r x))) (bodies x k)
      ∙ ap (λ o. if has x then Some (r x) else o) up
      ∙ if_map (option_map r) (has x) (Some x) (inherits g a old (chosen x) (g.parents x))

  pub answers_alike : (x : K) → P x ≡ true → impl h new_has new_chosen (r a) (r x) ≡ option_map r (impl g has chosen a x)
  answers_alike x k = ap (λ n. impl_within h new_has new_chosen (r a) n (r x)) (like.height x k) ∙ impl_map (g.height x) x k
