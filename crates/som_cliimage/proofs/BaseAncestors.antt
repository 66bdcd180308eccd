-- The ancestors of the classes that a client was compiled against are among these and the kernel's.
use Rattle.std.proofs.Common.{◌≡◌, ℕ, zero, suc, inl, inr, Bool, true, false, not, ◌&&◌, if◌then◌else◌, true≢false, List, [], ◌∷◌, ◌++◌, map, Some, refl, sym, ap, subst, ◌∙◌}
use Rattle.std.specs.List.{AllByRecursion}
use Rattle.som_model.specs.declared.key.ClassKey.{ClassKey, out-ClassKey}
use Rattle.som_model.specs.declared.key.ClassKey.TheOpen.{ClassKey-F}
use Rattle.som_model.specs.Lists.{Mem, without, firsts, joined, some}
use Rattle.som_model.specs.Keys.{same_key}
use Rattle.som_model.specs.Ancestors.{anc_within}
use Rattle.som_model.specs.Class.{Class}
use Rattle.som_model.specs.Classes.{class_at, parents_in, parents_by, parents_of, hierarchy}
use Rattle.som_model.specs.Rules.{is_proper}
use Rattle.som_model.proofs.KeyLaws.{both, exact_keys}
use Rattle.som_model.proofs.NamedLaws.{out_named}
use Rattle.som_image_decode.proofs.Places.{all_map, all_joined}
use Rattle.som_image_encode.proofs.KnownMethods.{keys_of}
use Rattle.som_image_encode.proofs.Directories.{IsOwn}

-- ---- lists

module _ {A : Type 0} (P : A → Type 0) where
  all_without : (test : A → Bool) (xs : List A) → AllByRecursion P xs → AllByRecursion P (without test xs)
  all_without test [] h = tt
  all_without test (x ∷ xs) h = by (test x) (all_without test xs h.1)
    where
      by : (b : Bool) → AllByRecursion P (without test xs) → AllByRecursion P (if b then without test xs else x ∷ without test xs)
      by true rest = rest
      by false rest = (h.0, rest)

  all_firsts : (same : A → A → Bool) (xs : List A) → AllByRecursion P xs → AllByRecursion P (firsts same xs)
  all_firsts same [] h = tt
  all_firsts same (x ∷ xs) h = (h.0, all_without (same x) (firsts same xs) (all_firsts same xs h.1))

  all_of_joined : {B : Type 0} (f : B → List A) (xs : List B) → AllByRecursion (λ x. AllByRecursion P (f x)) xs → AllByRecursion P (joined (map f xs))
  all_of_joined f [] h = tt
  all_of_joined f (x ∷ xs) h = all_joined P (f x) (joined (map f xs)) h.0 (all_of_joined f xs h.1)

-- ---- classes that are closed under parents

-- a class of these, found among these and more
record FoundIn (In : ClassKey → Type 0) (cs : List Class) (k : ClassKey) : Type 0 where
  class : Class
  is : class_at cs k ≡ Some class
  key : class.key ≡ k
  own : IsOwn class
  parents : AllByRecursion In class.decl.face.parents

module _ (base own : List Class) (declared : AllByRecursion IsOwn base) (closed : AllByRecursion (λ (c : Class). AllByRecursion (λ k. Mem k (keys_of base)) c.decl.face.parents) base) where
  abbrev In : ClassKey → Type 0
  In k = Mem k (keys_of base)

  abbrev all : List Class
  all = base ++ own

  found : (bs : List Class) → AllByRecursion IsOwn bs → AllByRecursion (λ (c : Class). AllByRecursion In c.decl.face.parents) bs → (k : ClassKey) → Mem k (keys_of bs) → FoundIn In (bs ++ own) k
  found [] d h k m = absurd m
  found (b ∷ bs) d h k m = by (same_key b.key k) refl (found bs d.1 h.1 k)
    where
      later : same_key b.key k ≡ false → Mem k (keys_of (b ∷ bs)) → Mem k (keys_of bs)
      later e (inl is) = absurd (true≢false (sym (ap (λ (x : ClassKey). same_key x k) (sym is) ∙ exact_keys.one k) ∙ e))
      later e (inr rest) = rest

      by : (t : Bool) → same_key b.key k ≡ t → (Mem k (keys_of bs) → FoundIn In (bs ++ own) k) → FoundIn In ((b ∷ bs) ++ own) k
      by true e further = record { class = b; is = rw e refl; key = exact_keys.two b.key k e; own = d.0; parents = h.0 }
      by false e further = let f = further (later e m) in record { class = f.class; is = rw e f.is; key = f.key; own = f.own; parents = f.parents }

  parents_there : (k : ClassKey) → In k → AllByRecursion In (parents_of all k)
  parents_there k m =
      let f = found base declared closed k m in
      let c : Class = f.class in
      let named : out-ClassKey k ≡ ClassKey-F.Named f.own.0 c.decl.face.name = ap out-ClassKey (sym f.key ∙ f.own.1) ∙ out_named f.own.0 c.decl.face.name in
      let is : parents_of all k ≡ c.decl.face.parents = ap (λ (l : ClassKey-F ClassKey). parents_by all l k) named ∙ ap parents_in f.is in
      subst (AllByRecursion In) (sym is) f.parents

  ancestors_there : (n : ℕ) (k : ClassKey) → In k → AllByRecursion In (anc_within (hierarchy all) n k)
  unfolding hierarchy
  ancestors_there zero k m = (m, tt)
  ancestors_there (suc n) k m =
      let further = all_of_joined In (anc_within (hierarchy all) n) (parents_of all k) (all_map In (λ p. AllByRecursion In (anc_within (hierarchy all) n p)) (ancestors_there n) (parents_of all k) (parents_there k m)) in
      all_firsts In same_key (k ∷ joined (map (anc_within (hierarchy all) n) (parents_of all k))) (m, further)

  member_there : (a : ClassKey) (xs : List ClassKey) → AllByRecursion In xs → some (same_key a) xs ≡ true → In a
  member_there a [] h e = absurd (true≢false (sym e))
  member_there a (x ∷ xs) h e = by (same_key a x) refl (member_there a xs h.1) e
    where
      by : (b : Bool) → same_key a x ≡ b → (some (same_key a) xs ≡ true → In a) → (if b then true else some (same_key a) xs) ≡ true → In a
      by true is further t = subst In (sym (exact_keys.two a x is)) h.0
      by false is further t = further t

  -- a proper ancestor of one of these classes is one of these
  pub proper_there : (c : Class) → In c.key → (a : ClassKey) → is_proper all c a ≡ true → In a
  unfolding hierarchy
  proper_there c m a e =
      let b = both (not (same_key a c.key)) _ e in
      member_there a (anc_within (hierarchy all) ((hierarchy all).height c.key) c.key) (ancestors_there ((hierarchy all).height c.key) c.key m) b.1
