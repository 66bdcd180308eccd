-- A class of a client after classes of a library.
use Rattle.std.proofs.Common.{◌≡◌, ℕ, zero, suc, inl, inr, List, [], ◌∷◌, ◌++◌, take, Some, None, slice_get, sym, ap, ◌∙◌, subst}
use Rattle.std.proofs.lemmas.List.{map-append}
use Rattle.som_model.specs.declared.key.ClassKey.{ClassKey}
use Rattle.som_model.specs.declared.class.Entry.TheVariants as entries
use Rattle.som_model.specs.Lists.{Mem}
use Rattle.som_model.specs.Keys.{same_key}
use Rattle.som_model.specs.Class.{Class}
use Rattle.som_model.specs.Kernel.{kernel}
use Rattle.som_model.specs.Loads.{HasOwnKey, IsOrdered, keys_of}
use Rattle.som_model.proofs.KeyLaws.{exact_keys}
use Rattle.som_model_laws.proofs.Lists.{apart_both, doubles_apart, map_mem, mem_map}
use Rattle.som_model_laws.proofs.Members.{Apart, apart_doubles, mem_left, mem_right, mem_split}
use Rattle.som_release_laws.proofs.Lists.{get_split, take_left}

pub alone : (w c : Class) (j : ℕ) → slice_get (w ∷ []) j ≡ Some c → w ≡ c
alone w c zero e = cc
alone w c (suc j) e = absurd (cc)

-- what is known stays known
pub keys_more : (cs ys : List Class) (k : ClassKey) → Mem k (keys_of (kernel ++ cs)) → Mem k (keys_of (kernel ++ (cs ++ ys)))
keys_more cs ys k m =
    let d = map_mem (λ (z : Class). z.key) k (kernel ++ cs) m in
    let there : Mem d.0 (kernel ++ (cs ++ ys)) = elim (mem_split d.0 kernel cs d.1) [ inl a ↦ mem_left d.0 kernel (cs ++ ys) a | inr b ↦ mem_right d.0 kernel (cs ++ ys) (mem_left d.0 cs ys b) ] in
    subst (λ z. Mem z (keys_of (kernel ++ (cs ++ ys)))) (sym d.2) (mem_map (λ (z : Class). z.key) d.0 (kernel ++ (cs ++ ys)) there)

-- a class with a key of its own, below classes that are known, with no metaclass and no moved entry
pub record Stacks (cs : List Class) (w : Class) : Type 0 where
  pub own : HasOwnKey w
  pub other : (c : Class) → Mem c cs → c.key ≡ w.key → ⊥
  pub below : (k : ClassKey) → Mem k w.decl.face.parents → Mem k (keys_of (kernel ++ cs))
  pub bare : w.decl.face.metaclass ≡ None
  pub unmoved : (x : List ℕ) (to : ClassKey) → Mem (entries.Moved x to) w.decl.face.entries → ⊥

module _ (cs : List Class) (o : IsOrdered cs) (w : Class) (s : Stacks cs w) where
  abbrev more : List Class
  more = cs ++ w ∷ []

  earlier : (i : ℕ) (c : Class) (k : ClassKey) → slice_get more i ≡ Some c → (slice_get cs i ≡ Some c → Mem k (keys_of (kernel ++ take i cs))) → (w ≡ c → Mem k (keys_of (kernel ++ cs)))
      → Mem k (keys_of (kernel ++ take i more))
  earlier i c k e f g = elim (get_split cs (w ∷ []) i c e) [
    | inl l ↦ subst (λ (z : List Class). Mem k (keys_of (kernel ++ z))) (sym (take_left cs (w ∷ []) i c l)) (f l)
    | inr (j, h, t) ↦ subst (λ (z : List Class). Mem k (keys_of (kernel ++ z))) (sym t) (keys_more cs (take j (w ∷ [])) k (g (alone w c j h)))
  ]

  no_metaclass : (c : Class) (k : ClassKey) → w ≡ c → c.decl.face.metaclass ≡ Some k → ⊥
  no_metaclass c k is e = let f : None ≡ Some k = sym s.bare ∙ ap (λ (z : Class). z.decl.face.metaclass) is ∙ e in cc

  pub ordered_more : IsOrdered more
  ordered_more = record {
    own = λ c m. elim (mem_split c cs (w ∷ []) m) [
      | inl a ↦ o.own c a
      | inr b ↦ elim b [ inl is ↦ subst HasOwnKey (sym is) s.own | inr z ↦ absurd z ]
    ];
    differ = apart_doubles same_key exact_keys.two [] (keys_of more) (λ a m n. m)
        (subst Apart (sym (map-append (λ (z : Class). z.key) cs (w ∷ [])))
        (apart_both (keys_of cs) (w.key ∷ []) (doubles_apart same_key exact_keys (keys_of cs) o.differ) ((λ m. m), tt) (λ a m n.
        let d = map_mem (λ (z : Class). z.key) a cs m in
        elim n [ inl is ↦ s.other d.0 d.1 (sym d.2 ∙ is) | inr z ↦ z ])));
    parents = λ i c k e m. earlier i c k e (λ l. o.parents i c k l m) (λ is. s.below k (subst (λ (z : Class). Mem k z.decl.face.parents) (sym is) m));
    metaclasses = λ i c k e f. earlier i c k e (λ l. o.metaclasses i c k l f) (λ is. absurd (no_metaclass c k is f));
    targets = λ i c name to e m. earlier i c to e (λ l. o.targets i c name to l m) (λ is. absurd (s.unmoved name to (subst (λ (z : Class). Mem (entries.Moved name to) z.decl.face.entries) (sym is) m)));
  }
