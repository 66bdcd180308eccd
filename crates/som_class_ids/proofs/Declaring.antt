-- The declared classes by their places.
use Rattle.std.proofs.Common.{◌≡◌, ℕ, zero, suc, ◌<◌, inl, inr, true, List, [], ◌∷◌, length, slice_get, Option, Some, None, refl, sym, ap, ◌∙◌, subst, arith}
use Rattle.std.specs.Option.{IfNone, IfSome}
use Rattle.som_model.specs.declared.key.Module.{Module}
use Rattle.som_model.specs.declared.key.Module.TheVariants as modules
use Rattle.som_model.specs.declared.key.ClassKey.{ClassKey, out-ClassKey}
use Rattle.som_model.specs.declared.key.ClassKey.TheOpen.{ClassKey-F}
use Rattle.som_model.specs.declared.key.ClassKey.TheVariants as keys
use Rattle.som_model.specs.Lists.{Mem}
use Rattle.som_model.specs.Kernel.{kernel}
use Rattle.som_model.specs.Rules.{name_of}
use Rattle.som_model.proofs.NamedLaws.{out_named}
use Rattle.som_model.specs.Keys.{same_key}
use Rattle.som_model.specs.Hierarchy.{Falls, Tells}
use Rattle.som_model.specs.Class.{Class}
use Rattle.som_model.specs.Classes.{class_at, hierarchy}
use Rattle.som_model.specs.Loads.{keys_of}
use Rattle.som_model.specs.Metaclass.{rank}
use Rattle.som_model.proofs.KeyLaws.{exact_keys}
use Rattle.som_model_laws.proofs.Members.{Apart, mem_split}
use Rattle.som_model_laws.proofs.Lists.{get_mem}
use Rattle.som_model_laws.proofs.Standing as standing
use Rattle.som_meta.specs.Numbering.{AreApart}
use Rattle.som_class_ids.specs.declared.keyed.Keyed.{Keyed}
use Rattle.som_class_ids.specs.Classes.{AreDeclared, class_of, classes_of}
use Rattle.som_class_ids.specs.Numbers.{at}

-- keys by place

pub keys_length : (cs : List Class) → length (keys_of cs) ≡ length cs
keys_length [] = refl
keys_length (c ∷ cs) = let e = keys_length cs in omega (arith, e)

pub classes_length : (ks : List Keyed) → length (classes_of ks) ≡ length ks
classes_length [] = refl
classes_length (k ∷ ks) = let e = classes_length ks in omega (arith, e)

pub key_is : (cs : List Class) (n : ℕ) (c : Class) → slice_get cs n ≡ Some c → at (keys_of cs) n ≡ c.key
key_is [] n c e = absurd (cc)
key_is (d ∷ cs) zero c e = let is : d ≡ c = cc in ap (λ (z : Class). z.key) is
key_is (d ∷ cs) (suc n) c e = key_is cs n c e

pub class_get : (ks : List Keyed) (n : ℕ) (k : Keyed) → slice_get ks n ≡ Some k → slice_get (classes_of ks) n ≡ Some (class_of k)
class_get [] n k e = absurd (cc)
class_get (d ∷ ks) zero k e = let is : d ≡ k = cc in ap (λ z. Some (class_of z)) is
class_get (d ∷ ks) (suc n) k e = class_get ks n k e

-- a key that stands at a place is one of the keys
pub at_mem : (ks : List ClassKey) (n : ℕ) → n < length ks → Mem (at ks n) ks
at_mem [] n lt = absurd (omega (arith, lt))
at_mem (k ∷ ks) zero lt = inl refl
at_mem (k ∷ ks) (suc n) lt = inr (at_mem ks n (omega (arith, lt)))

pub mem_at : (ks : List ClassKey) (k : ClassKey) → Mem k ks → (n : ℕ) × (n < length ks) × (at ks n ≡ k)
mem_at [] k m = absurd m
mem_at (j ∷ ks) k (inl e) = (0, omega arith, sym e)
mem_at (j ∷ ks) k (inr m) = let r = mem_at ks k m in let lt = r.1 in (suc r.0, omega (arith, lt), r.2)

pub apart_at : (ks : List ClassKey) → Apart ks → (m n : ℕ) → m < length ks → n < length ks → at ks m ≡ at ks n → m ≡ n
apart_at [] o m n lm ln e = absurd (omega (arith, lm))
apart_at (k ∷ ks) o zero zero lm ln e = refl
apart_at (k ∷ ks) o zero (suc n) lm ln e = absurd (o.0 (subst (λ z. Mem z ks) (sym e) (at_mem ks n (omega (arith, ln)))))
apart_at (k ∷ ks) o (suc m) zero lm ln e = absurd (o.0 (subst (λ z. Mem z ks) e (at_mem ks m (omega (arith, lm)))))
apart_at (k ∷ ks) o (suc m) (suc n) lm ln e = ap suc (apart_at ks o.1 m n (omega (arith, lm)) (omega (arith, ln)) e)

-- what the declared classes keep

module _ (all : List Class) (d : AreDeclared all) where
  pub falls : Falls (hierarchy all)
  falls = subst (λ (z : List Class). Falls (hierarchy z)) (sym d.is) (standing.falls d.others d.ordered)

  pub tells : Tells (hierarchy all)
  tells = subst (λ (z : List Class). Tells (hierarchy z)) (sym d.is) (standing.tells d.others d.ordered)

  pub keys_apart : Apart (keys_of all)
  keys_apart = subst (λ (z : List Class). Apart (keys_of z)) (sym d.is) (standing.apart d.others d.ordered)

  pub found : (c : Class) (k : ClassKey) → Mem c all → c.key ≡ k → class_at all k ≡ Some c
  found = subst (λ (z : List Class). (c : Class) (k : ClassKey) → Mem c z → c.key ≡ k → class_at z k ≡ Some c) (sym d.is) (standing.found d.others d.ordered)

  pub parents_known : (k : ClassKey) (c : Class) → class_at all k ≡ Some c → (hierarchy all).parents k ≡ c.decl.face.parents
  parents_known = subst (λ (z : List Class). (k : ClassKey) (c : Class) → class_at z k ≡ Some c → (hierarchy z).parents k ≡ c.decl.face.parents) (sym d.is) (standing.parents_known d.others d.ordered)

  pub rank_known : (i : ℕ) (c : Class) (k : ClassKey) → slice_get all i ≡ Some c → c.key ≡ k → rank all k ≡ i
  rank_known = subst (λ (z : List Class). (i : ℕ) (c : Class) (k : ClassKey) → slice_get z i ≡ Some c → c.key ≡ k → rank z k ≡ i) (sym d.is) (standing.rank_at d.others d.ordered)

  pub lower : (i : ℕ) (c : Class) (p : ClassKey) → slice_get all i ≡ Some c → Mem p c.decl.face.parents → standing.Earlier all i p
  lower = subst (λ (z : List Class). (i : ℕ) (c : Class) (p : ClassKey) → slice_get z i ≡ Some c → Mem p c.decl.face.parents → standing.Earlier z i p) (sym d.is) (standing.lower d.others d.ordered)

  -- no two numbers stand for one declared class
  pub numbers_apart : AreApart (record { classes = all; keys = keys_of all })
  numbers_apart m n lm ln e = apart_at (keys_of all) keys_apart m n lm ln e

  module _ (n : ℕ) (c : Class) (is : slice_get all n ≡ Some c) where
    -- a parent stands earlier, and so its number is lower
    pub parent_known : (p : ClassKey) → Mem p c.decl.face.parents → Mem p (keys_of all)
    parent_known p m =
        let r = lower n c p is m in
        let lt : r.0 < length (keys_of all) = (let w = get_within all r.0 r.1 r.3 in omega (arith, w, keys_length all)) in
        subst (λ z. Mem z (keys_of all)) (key_is all r.0 r.1 r.3 ∙ r.4) (at_mem (keys_of all) r.0 lt)
      where
        get_within : (xs : List Class) (i : ℕ) (x : Class) → slice_get xs i ≡ Some x → i < length xs
        get_within [] i x e = absurd (cc)
        get_within (y ∷ xs) zero x e = omega arith
        get_within (y ∷ xs) (suc i) x e = let l = get_within xs i x e in omega (arith, l)

    pub parent_lower : (q : ℕ) → q < length all → Mem (at (keys_of all) q) c.decl.face.parents → q < n
    parent_lower q lt m =
        let r = lower n c (at (keys_of all) q) is m in
        let less = r.2 in
        let within : q < length (keys_of all) = omega (arith, lt, keys_length all) in
        let w : r.0 < length (keys_of all) = (let l = n_within in omega (arith, less, l, keys_length all)) in
        let same = apart_at (keys_of all) keys_apart q r.0 within w (sym (key_is all r.0 r.1 r.3 ∙ r.4)) in
        omega (arith, same, less)
      where
        get_within : (xs : List Class) (i : ℕ) (x : Class) → slice_get xs i ≡ Some x → i < length xs
        get_within [] i x e = absurd (cc)
        get_within (y ∷ xs) zero x e = omega arith
        get_within (y ∷ xs) (suc i) x e = let l = get_within xs i x e in omega (arith, l)

        n_within : n < length all
        n_within = get_within all n c is

    pub keyed : (hierarchy all).parents (at (keys_of all) n) ≡ c.decl.face.parents
    keyed = ap (hierarchy all).parents (key_is all n c is) ∙ parents_known c.key c (found c c.key (get_mem all n c is) refl)

    pub ranked : rank all (at (keys_of all) n) ≡ n
    ranked = ap (rank all) (key_is all n c is) ∙ rank_known n c c.key is refl

-- what the search by name finds

some_class : (ks : List Keyed) (n : ℕ) → n < length ks → (k : Keyed) × (slice_get ks n ≡ Some k)
some_class [] n lt = absurd (omega (arith, lt))
some_class (k ∷ ks) zero lt = (k, refl)
some_class (k ∷ ks) (suc n) lt = some_class ks n (omega (arith, lt))

get_within_keyed : (ks : List Keyed) (n : ℕ) (k : Keyed) → slice_get ks n ≡ Some k → n < length ks
get_within_keyed [] n k e = absurd (cc)
get_within_keyed (d ∷ ks) zero k e = omega arith
get_within_keyed (d ∷ ks) (suc n) k e = let l = get_within_keyed ks n k e in omega (arith, l)

pub found_number : (ks : List Keyed) (n : ℕ) (k : Keyed) (key : ClassKey) → slice_get ks n ≡ Some k → same_key k.key key ≡ true → (n < length ks) × (at (keys_of (classes_of ks)) n ≡ key)
found_number ks n k key is same = (get_within_keyed ks n k is, key_is (classes_of ks) n (class_of k) (class_get ks n k is) ∙ exact_keys.two k.key key same)

pub found_some : (ks : List Keyed) (key : ClassKey) (o : Option ℕ) → IfSome o (λ n. (k : Keyed) × (slice_get ks n ≡ Some k) × (same_key k.key key ≡ true)) → IfSome o (λ n. (n < length ks) × (at (keys_of (classes_of ks)) n ≡ key))
found_some ks key None h = h
found_some ks key (Some n) h = found_number ks n h.0 key h.1 h.2

own_kernel : (c : Class) → Mem c kernel → (m : Module) × (c.key ≡ keys.Named m (name_of c))
own_kernel c (inl e) = (modules.Kernel, subst (λ (z : Class). z.key ≡ keys.Named modules.Kernel (name_of z)) (sym e) refl)
own_kernel c (inr (inl e)) = (modules.Kernel, subst (λ (z : Class). z.key ≡ keys.Named modules.Kernel (name_of z)) (sym e) refl)
own_kernel c (inr (inr (inl e))) = (modules.Kernel, subst (λ (z : Class). z.key ≡ keys.Named modules.Kernel (name_of z)) (sym e) refl)
own_kernel c (inr (inr (inr (inl e)))) = (modules.Kernel, subst (λ (z : Class). z.key ≡ keys.Named modules.Kernel (name_of z)) (sym e) refl)
own_kernel c (inr (inr (inr (inr m)))) = absurd m

-- a declared class has the key of its face's name
pub own_key : (all : List Class) → AreDeclared all → (c : Class) → Mem c all → (m : Module) × (c.key ≡ keys.Named m (name_of c))
own_key all d c m = elim (mem_split c kernel d.others (subst (λ l. Mem c l) d.is m)) [
  | inl k ↦ own_kernel c k
  | inr k ↦ (let r = d.ordered.own c k in (r.module_, r.is))
]

module _ (ks : List Keyed) (d : AreDeclared (classes_of ks)) where
  declared_mem : (key : ClassKey) → Mem key (keys_of (classes_of ks)) → (n : ℕ) × (k : Keyed) × (m : Module) × (slice_get ks n ≡ Some k) × (k.key ≡ key) × (k.key ≡ keys.Named m k.decl.face.name)
  declared_mem key m =
      let r = mem_at (keys_of (classes_of ks)) key m in
      let lt = r.1 in
      let s = some_class ks r.0 (omega (arith, lt, keys_length (classes_of ks), classes_length ks)) in
      let is = class_get ks r.0 s.0 s.1 in
      let own = own_key (classes_of ks) d (class_of s.0) (get_mem (classes_of ks) r.0 (class_of s.0) is) in
      (r.0, s.0, own.0, s.1, sym (key_is (classes_of ks) r.0 (class_of s.0) is) ∙ r.2, own.1)

  pub not_found : (home : Module) (name : List ℕ) → ((n : ℕ) (k : Keyed) → slice_get ks n ≡ Some k → k.decl.face.name ≡ name → same_key k.key (keys.Named home name) ≡ true → ⊥) → Mem (keys.Named home name) (keys_of (classes_of ks)) → ⊥
  not_found home name none m =
      let r = declared_mem (keys.Named home name) m in
      none r.0 r.1 r.3 (standing.named_one r.2 home r.1.decl.face.name name (sym r.5 ∙ r.4)).1 (ap (λ z. same_key z (keys.Named home name)) r.4 ∙ exact_keys.one (keys.Named home name))

  pub found_none : (home : Module) (name : List ℕ) (o : Option ℕ) → IfNone o ((n : ℕ) (k : Keyed) → slice_get ks n ≡ Some k → k.decl.face.name ≡ name → same_key k.key (keys.Named home name) ≡ true → ⊥) → IfNone o (Mem (keys.Named home name) (keys_of (classes_of ks)) → ⊥)
  found_none home name None h = not_found home name h
  found_none home name (Some n) h = h

  -- a made class isn't declared
  pub not_declared : (key : ClassKey) (l : ClassKey-F ClassKey) → out-ClassKey key ≡ l → ((m : Module) (x : List ℕ) → l ≡ ClassKey-F.Named m x → ⊥) → Mem key (keys_of (classes_of ks)) → ⊥
  not_declared key l is other m =
      let r = declared_mem key m in
      other r.2 r.1.decl.face.name (sym is ∙ ap out-ClassKey (sym r.4 ∙ r.5) ∙ out_named r.2 r.1.decl.face.name)
