-- Classes under new keys: found by key, with their parents, and as high as they were.
use Rattle.std.proofs.Common.{◌≡◌, ◌⊎◌, inl, inr, ℕ, Bool, true, false, if◌then◌else◌, List, [], ◌∷◌, map, Option, Some, None, is_some, unwrap_or, refl, sym, ap, ◌∙◌, subst, true≢false}
use Rattle.std.specs.Option.{option_map}
use Rattle.som_model.specs.declared.key.Module.{Module}
use Rattle.som_model.specs.declared.key.ClassKey.{ClassKey, out-ClassKey, roll-ClassKey, out-roll-ClassKey, roll-out-ClassKey, ind-ClassKey, fold-ClassKey, fold-roll-ClassKey, map-ClassKey}
use Rattle.som_model.specs.declared.key.ClassKey.TheVariants as keys
use Rattle.som_model.specs.declared.key.ClassKey.TheVariants.{rolls-Named}
use Rattle.som_model.specs.declared.key.ClassKey.TheOpen.{ClassKey-F}
use Rattle.som_model.specs.Lists.{Mem, every, find}
use Rattle.som_model.specs.Keys.{same_key}
use Rattle.som_model.specs.Class.{Class}
use Rattle.som_model.specs.Classes.{class_at, place_of, parents_in, parents_by, parents_of, height_step, hierarchy, ancestors, is_a}
use Rattle.som_model.proofs.NamedLaws.{out_named}
use Rattle.som_rekey_laws.specs.Rekeying.{ModuleChange, rekey_layer, rekey, rekey_class, rekey_classes}
use Rattle.som_rekey_laws.specs.Apart.{Names, named_step, is_named, IsApart, AreNamed}
use Rattle.som_rekey_laws.specs.Alike.{IsAlike}
use Rattle.som_rekey_laws.proofs.Lists.{find_map, place_map}
use Rattle.som_rekey_laws.proofs.KeysApart.{out_rekey, named_out, named_each, every_first, every_rest, keys_kept}
use Rattle.som_rekey_laws.proofs.Renaming.{ancestors_alike, descent_alike}

found_by : {A : Type 0} (b : Bool) (x a : A) (xs : List A) (o : Option A) → (o ≡ Some a → Mem a xs) → (if b then Some x else o) ≡ Some a → (a ≡ x) ⊎ Mem a xs
found_by true x a xs o f e = inl (ap (λ u. unwrap_or u a) (sym e))
found_by false x a xs o f e = inr (f e)

pub found_mem : {A : Type 0} (test : A → Bool) (xs : List A) (a : A) → find test xs ≡ Some a → Mem a xs
found_mem test [] a e = absurd (true≢false (ap is_some (sym e)))
found_mem test (x ∷ xs) a e = found_by (test x) x a xs (find test xs) (found_mem test xs a) e

pub rekey_named : (f : ModuleChange) (m : Module) (name : List ℕ) → rekey f (keys.Named m name) ≡ keys.Named (f m name) name
rekey_named f m name =
    sym (roll-out-ClassKey (rekey f (keys.Named m name)))
    ∙ ap roll-ClassKey (out_rekey f (keys.Named m name) ∙ ap (λ y. rekey_layer f (map-ClassKey ClassKey ClassKey (rekey f) y)) (out_named m name))
    ∙ rolls-Named (f m name) name

pub is_named_at : (names : Names) (m : Module) (name : List ℕ) → is_named names (keys.Named m name) ≡ names m name
is_named_at names m name = named_out names (keys.Named m name) ∙ ap (λ y. named_step names (map-ClassKey ClassKey Bool (is_named names) y)) (out_named m name)

-- what is computed along a key alone, where it is the same at the new names
module _ (f : ModuleChange) (names : Names) (B : Type 0) (old new : ClassKey-F B → B)
    (of_names : (m : Module) (name : List ℕ) → names m name ≡ true → new (ClassKey-F.Named (f m name) name) ≡ old (ClassKey-F.Named m name))
    (of_lists : (bs : List B) → new (ClassKey-F.Derived bs) ≡ old (ClassKey-F.Derived bs))
    (of_one : (b : B) → new (ClassKey-F.Proxy b) ≡ old (ClassKey-F.Proxy b)) where
  abbrev before : ClassKey → B
  before = fold-ClassKey B old

  abbrev after : ClassKey → B
  after = fold-ClassKey B new

  abbrev IsKept : ClassKey → Type 0
  IsKept k = is_named names k ≡ true → after (rekey f k) ≡ before k

  abbrev Kept : Type 0
  Kept = (a : ClassKey) × IsKept a

  abbrev bare : ClassKey-F Kept → ClassKey-F ClassKey
  bare = map-ClassKey Kept ClassKey (λ e. e.0)

  abbrev IsLayerNamed : ClassKey-F ClassKey → Type 0
  IsLayerNamed y = named_step names (map-ClassKey ClassKey Bool (is_named names) y) ≡ true

  list_kept : (ps : List Kept) → every (λ b. b) (map (is_named names) (map (λ (e : Kept). e.0) ps)) ≡ true → map after (map (rekey f) (map (λ (e : Kept). e.0) ps)) ≡ map before (map (λ (e : Kept). e.0) ps)
  list_kept [] a = refl
  list_kept (p ∷ ps) a =
      let one = is_named names p.0 in
      let rest = every (λ b. b) (map (is_named names) (map (λ (e : Kept). e.0) ps)) in
      ap (λ b. b ∷ map after (map (rekey f) (map (λ (e : Kept). e.0) ps))) (p.1 (every_first one rest a))
      ∙ ap (λ l. before p.0 ∷ l) (list_kept ps (every_rest one rest a))

  layer_kept : (y : ClassKey-F Kept) → IsLayerNamed (bare y) → new (map-ClassKey ClassKey B after (rekey_layer f (map-ClassKey ClassKey ClassKey (rekey f) (bare y)))) ≡ old (map-ClassKey ClassKey B before (bare y))
  layer_kept (ClassKey-F.Named m x) a = of_names m x a
  layer_kept (ClassKey-F.Derived ps) a = ap (λ l. new (ClassKey-F.Derived l)) (list_kept ps a) ∙ of_lists (map before (map (λ (e : Kept). e.0) ps))
  layer_kept (ClassKey-F.Proxy p) a = ap (λ b. new (ClassKey-F.Proxy b)) (p.1 a) ∙ of_one (before p.0)

  rolled_kept : (y : ClassKey-F Kept) → IsKept (roll-ClassKey (bare y))
  rolled_kept y is =
      let k = roll-ClassKey (bare y) in
      let out : out-ClassKey k ≡ bare y = out-roll-ClassKey (bare y) in
      let new_layer = rekey_layer f (map-ClassKey ClassKey ClassKey (rekey f) (bare y)) in
      ap after (fold-roll-ClassKey ClassKey (λ x. roll-ClassKey (rekey_layer f x)) (bare y))
      ∙ fold-roll-ClassKey B new new_layer
      ∙ layer_kept y (subst IsLayerNamed out (sym (named_out names k) ∙ is))
      ∙ sym (fold-roll-ClassKey B old (bare y))

  pub fold_kept : (k : ClassKey) → IsKept k
  fold_kept = ind-ClassKey IsKept (λ x y is_y. subst (λ z. IsKept (roll-ClassKey z)) is_y (rolled_kept y))

module _ (f : ModuleChange) (names : Names) (cs : List Class) (is : IsApart f names) (are : AreNamed names cs) where
  pub class_kept : (k : ClassKey) → is_named names k ≡ true → class_at (rekey_classes f cs) (rekey f k) ≡ option_map (rekey_class f) (class_at cs k)
  class_kept k n = find_map (λ (c : Class). same_key c.key k) (λ (c : Class). same_key c.key (rekey f k)) (rekey_class f) cs (λ c m. keys_kept f names is c.key k (are.keys c m) n)

  pub place_kept : (n : ℕ) (k : ClassKey) → is_named names k ≡ true → place_of n (rekey_classes f cs) (rekey f k) ≡ place_of n cs k
  place_kept n k e = ap (λ o. unwrap_or o 0) (place_map n (λ (c : Class). same_key c.key k) (λ (c : Class). same_key c.key (rekey f k)) (rekey_class f) cs (λ c m. keys_kept f names is c.key k (are.keys c m) e))

  pub named_place : (n : ℕ) (m : Module) (name : List ℕ) → names m name ≡ true → place_of n (rekey_classes f cs) (keys.Named (f m name) name) ≡ place_of n cs (keys.Named m name)
  named_place n m name e =
      ap (place_of n (rekey_classes f cs)) (sym (rekey_named f m name))
      ∙ place_kept n (keys.Named m name) (is_named_at names m name ∙ e)

  pub height_kept : (k : ClassKey) → is_named names k ≡ true → fold-ClassKey ℕ (height_step (rekey_classes f cs)) (rekey f k) ≡ fold-ClassKey ℕ (height_step cs) k
  height_kept k = fold_kept f names ℕ (height_step cs) (height_step (rekey_classes f cs)) (named_place 1) (λ ns. refl) (λ n. refl) k

  parents_in_kept : (o : Option Class) → parents_in (option_map (rekey_class f) o) ≡ map (rekey f) (parents_in o)
  parents_in_kept None = refl
  parents_in_kept (Some c) = refl

  layer_parents : (y : ClassKey-F ClassKey) (k : ClassKey) → is_named names k ≡ true
      → parents_by (rekey_classes f cs) (rekey_layer f (map-ClassKey ClassKey ClassKey (rekey f) y)) (rekey f k) ≡ map (rekey f) (parents_by cs y k)
  layer_parents (ClassKey-F.Named m x) k n = ap parents_in (class_kept k n) ∙ parents_in_kept (class_at cs k)
  layer_parents (ClassKey-F.Derived ks) k n = refl
  layer_parents (ClassKey-F.Proxy of) k n = refl

  pub parents_kept : (k : ClassKey) → is_named names k ≡ true → parents_of (rekey_classes f cs) (rekey f k) ≡ map (rekey f) (parents_of cs k)
  parents_kept k n = ap (λ y. parents_by (rekey_classes f cs) y (rekey f k)) (out_rekey f k) ∙ layer_parents (out-ClassKey k) k n

  declared_named : (o : Option Class) (k p : ClassKey) → class_at cs k ≡ o → Mem p (parents_in o) → is_named names p ≡ true
  declared_named None k p e m = absurd m
  declared_named (Some c) k p e m = are.parents c p (found_mem (λ (c : Class). same_key c.key k) cs c e) m

  layer_closed : (y : ClassKey-F ClassKey) (k p : ClassKey) → named_step names (map-ClassKey ClassKey Bool (is_named names) y) ≡ true → Mem p (parents_by cs y k) → is_named names p ≡ true
  layer_closed (ClassKey-F.Named m x) k p n i = declared_named (class_at cs k) k p refl i
  layer_closed (ClassKey-F.Derived ks) k p n i = named_each names ks n p i
  layer_closed (ClassKey-F.Proxy of) k p n (inl e) = ap (is_named names) e ∙ n
  layer_closed (ClassKey-F.Proxy of) k p n (inr i) = absurd i

  pub parents_named : (k p : ClassKey) → is_named names k ≡ true → Mem p (parents_of cs k) → is_named names p ≡ true
  parents_named k p n m = layer_closed (out-ClassKey k) k p (sym (named_out names k) ∙ n) m

  pub hierarchy_kept : IsAlike (hierarchy cs) (hierarchy (rekey_classes f cs)) (rekey f) (is_named names)
  unfolding hierarchy
  hierarchy_kept = record {
    closed = parents_named;
    parents = parents_kept;
    height = height_kept;
    same = keys_kept f names is;
  }

  pub ancestors_kept : (k : ClassKey) → is_named names k ≡ true → ancestors (rekey_classes f cs) (rekey f k) ≡ map (rekey f) (ancestors cs k)
  ancestors_kept k n = ancestors_alike (hierarchy cs) (hierarchy (rekey_classes f cs)) (rekey f) (is_named names) hierarchy_kept k n

  pub descent_kept : (k a : ClassKey) → is_named names k ≡ true → is_named names a ≡ true → is_a (rekey_classes f cs) (rekey f k) (rekey f a) ≡ is_a cs k a
  descent_kept k a n l = descent_alike (hierarchy cs) (hierarchy (rekey_classes f cs)) (rekey f) (is_named names) hierarchy_kept k a n l
