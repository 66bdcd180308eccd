-- How many classes are made: the classes of proxies and the chains of metaclasses, counted.
use Rattle.std.proofs.Common.{◌≡◌, ℕ, zero, suc, ◌<◌, ◌≤◌, ◌+◌, ◌*◌, ◌^◌, inl, inr, List, [], ◌∷◌, ◌++◌, map, flat_map, length, refl, sym, ap, subst, arith}
use Rattle.std.proofs.lemmas.Bool.{cases_lt}
use Rattle.std.proofs.lemmas.Nat.{mul-le}
use Rattle.som_model.specs.declared.key.ClassKey.{ClassKey}
use Rattle.som_model.specs.declared.key.ClassKey.TheVariants as keys
use Rattle.som_model.specs.declared.syntax.Block.{Block}
use Rattle.som_model.specs.Lists.{Mem}
use Rattle.som_model.specs.Class.{Class}
use Rattle.som_model.specs.Kernel.{kernel}
use Rattle.som_model.specs.Loads.{IsOrdered, Loads}
use Rattle.som_model_laws.proofs.Lists.{mem_flat, mem_map}
use Rattle.som_model_laws.proofs.Members.{mem_left, mem_right}
use Rattle.som_model_laws.proofs.Standing.{found_is}
use Rattle.som_class_count_laws.specs.Counting.{AreMadeOnce}
use Rattle.som_class_count_laws.proofs.Chains.{IsCounted, chained, made_counted, proxied, times}
use Rattle.som_class_count_laws.proofs.Fewer.{both_length, joined_length, no_longer, once_apart}

map_length : {A B : Type 0} (f : A → B) (xs : List A) → length (map f xs) ≡ length xs
map_length f [] = refl
map_length f (x ∷ xs) = ap suc (map_length f xs)

summed : (t p c l s : ℕ) → t ≡ p + c → p ≡ l → c ≡ s → t ≡ s + l
summed t p c l s e f g = omega (arith, e, f, g)

fitting : (k s n : ℕ) → k ≤ s + n → n ≤ 8196 → s ≤ 67174416 → k < 134217728
fitting k s n a b c = omega (arith, a, b, c)

module _ (cs : List Class) (o : IsOrdered cs) where
  abbrev all : List Class
  all = kernel ++ cs

  -- a class and the metaclasses behind it, so many in all
  abbrev chain : ℕ → Class → List ClassKey
  chain zero c = []
  chain (suc n) c = times cs o n c.key ∷ chain n c

  chain_length : (n : ℕ) (c : Class) → length (chain n c) ≡ n
  chain_length zero c = refl
  chain_length (suc n) c = ap suc (chain_length n c)

  in_chain : (n i : ℕ) (c : Class) → i < n → Mem (times cs o i c.key) (chain n c)
  in_chain zero i c lt = absurd (omega (arith, lt))
  in_chain (suc n) i c lt = elim (cases_lt i n) [
    | inl less ↦ inr (in_chain n i c less)
    | inr ge ↦ (let same : i ≡ n = omega (arith, lt, ge) in inl (ap (λ z. times cs o z c.key) same))
  ]

  -- all that may be made
  abbrev possible : List ClassKey
  possible = map (λ (c : Class). keys.Proxy c.key) all ++ flat_map (chain (length all)) all

  possible_length : length possible ≡ length all * length all + length all
  possible_length =
      let a = both_length (map (λ (c : Class). keys.Proxy c.key) all) (flat_map (chain (length all)) all) in
      let b = map_length (λ (c : Class). keys.Proxy c.key) all in
      let c = joined_length (chain (length all)) (length all) (chain_length (length all)) all in
      summed (length possible) (length (map (λ (c : Class). keys.Proxy c.key) all)) (length (flat_map (chain (length all)) all)) (length all) (length all * length all) a b c

  counted_possible : (k : ClassKey) → IsCounted cs o k → Mem k possible
  counted_possible k (chained i c e is few) =
      let f = found_is cs o c.key c e in
      mem_right k (map (λ (c : Class). keys.Proxy c.key) all) (flat_map (chain (length all)) all)
      (mem_flat (chain (length all)) k c all f.0 (subst (λ z. Mem z (chain (length all) c)) (sym is) (in_chain (length all) i c (omega (arith, few)))))
  counted_possible k (proxied c e is) =
      let f = found_is cs o c.key c e in
      mem_left k (map (λ (c : Class). keys.Proxy c.key) all) (flat_map (chain (length all)) all)
      (subst (λ z. Mem z (map (λ (c : Class). keys.Proxy c.key) all)) (sym is) (mem_map (λ (c : Class). keys.Proxy c.key) c all f.0))

pub few_made : (cs : List Class) (main : Block) → Loads cs main → (ks : List ClassKey) → AreMadeOnce (kernel ++ cs) main ks → length ks ≤ length (kernel ++ cs) * length (kernel ++ cs) + length (kernel ++ cs)
few_made cs main loads ks made =
    let o = loads.faces.ordered in
    let le = no_longer ks (possible cs o) (once_apart ks made.once) (λ k m. counted_possible cs o k (made_counted cs main loads k (made.made k m))) in
    subst (λ n. length ks ≤ n) (possible_length cs o) le

pub fits_made : (cs : List Class) (main : Block) → Loads cs main → (ks : List ClassKey) → AreMadeOnce (kernel ++ cs) main ks → length ks < 2 ^ 27
fits_made cs main loads ks made =
    let few = few_made cs main loads ks made in
    let laid = loads.few in
    let n : length (kernel ++ cs) ≤ 8196 = omega (arith, laid) in
    let square : length (kernel ++ cs) * length (kernel ++ cs) ≤ 67174416 = mul-le (length (kernel ++ cs)) (length (kernel ++ cs)) 8196 8196 n n in
    fitting (length ks) (length (kernel ++ cs) * length (kernel ++ cs)) (length (kernel ++ cs)) few n square
