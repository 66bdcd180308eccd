-- Lists of tokens and of what they stand for.
use Rattle.std.proofs.Common.{◌≡◌, ℕ, zero, suc, ◌+◌, ◌<◌, ◌⊎◌, inl, inr, true, if◌then◌else◌, List, [], ◌∷◌, ◌++◌, length, map, take, get_or, Option, Some, None, slice_get, refl, sym, ap, ◌∙◌, subst, arith}
use Rattle.std.proofs.lemmas.List.{take_more}
use Rattle.som_model.specs.declared.key.MethodRef.{MethodRef}
use Rattle.som_model.specs.declared.class.Entry.{Entry}
use Rattle.som_model.specs.declared.class.Entry.TheVariants as entries
use Rattle.som_model.specs.declared.class.Override.{Override}
use Rattle.som_model.specs.declared.class.Select.{Select}
use Rattle.som_model.specs.Lists.{Mem}
use Rattle.som_model.specs.Keys.{same_method}
use Rattle.som_model.specs.Class.{Class, entry_name, introduced}
use Rattle.som_model.specs.Implementation.{User, override_of, select_of}
use Rattle.som_model.specs.Owner.{owner}
use Rattle.som_model.proofs.KeyLaws.{exact_bytes, exact_keys}
use Rattle.som_model_laws.proofs.Members.{Apart, not_true}
use Rattle.som_meta.specs.Numbering.{AreApart, IsToken, Numbering, method_at, names_of}
use Rattle.som_class_methods.specs.Owners.{IsTokenOf}
use Rattle.som_class_layout_laws.proofs.Members.{same_methods}
use Rattle.som_class_methods.specs.Members.{HaveTokens, IsFirst}

-- lists, one item further

pub get_more : {A : Type 0} (xs : List A) (x y : A) (n : ℕ) → slice_get (xs ++ x ∷ []) n ≡ Some y → (slice_get xs n ≡ Some y) ⊎ ((n ≡ length xs) × (x ≡ y))
get_more [] x y zero e = inr (refl, cc)
get_more [] x y (suc n) e = absurd (cc)
get_more (z ∷ xs) x y zero e = inl e
get_more (z ∷ xs) x y (suc n) e = elim (get_more xs x y n e) [ inl h ↦ inl h | inr h ↦ inr (ap suc h.0, h.1) ]

pub map-append : {A B : Type 0} (f : A → B) (xs ys : List A) → map f (xs ++ ys) ≡ map f xs ++ map f ys
map-append f [] ys = refl
map-append f (x ∷ xs) ys = ap (λ l. f x ∷ l) (map-append f xs ys)

pub have_more : (k : Numbering) (rs : List MethodRef) (ts : List (ℕ × ℕ)) (r : MethodRef) (t : ℕ × ℕ) → HaveTokens k rs ts → IsTokenOf k t (owner k.classes r) → HaveTokens k (rs ++ r ∷ []) (ts ++ t ∷ [])
have_more k [] [] r t h is = (is, tt)
have_more k (x ∷ rs) (u ∷ ts) r t h is = (h.0, have_more k rs ts r t h.1 is)
have_more k [] (u ∷ ts) r t h is = absurd h
have_more k (x ∷ rs) [] r t h is = absurd h

pub tokens_more : (k : Numbering) {A : Type 0} (f : A → MethodRef) (xs : List A) (i : ℕ) (x : A) (ts : List (ℕ × ℕ)) (t : ℕ × ℕ) → i < length xs → x ≡ get_or xs i x
    → HaveTokens k (map f (take i xs)) ts → IsTokenOf k t (owner k.classes (f x)) → HaveTokens k (map f (take (i + 1) xs)) (ts ++ t ∷ [])
tokens_more k f xs i x ts t lt is h one =
    subst (λ l. HaveTokens k l (ts ++ t ∷ [])) (sym (map-append f (take i xs) (x ∷ [])) ∙ ap (λ z. map f (take i xs ++ z ∷ [])) is ∙ ap (map f) (sym (take_more xs i x lt))) (have_more k (map f (take i xs)) ts (f x) t h one)

pub have_length : (k : Numbering) (rs : List MethodRef) (ts : List (ℕ × ℕ)) → HaveTokens k rs ts → length ts ≡ length rs
have_length k [] [] h = refl
have_length k (r ∷ rs) (t ∷ ts) h = let e = have_length k rs ts h.1 in omega (arith, e)
have_length k [] (t ∷ ts) h = absurd h
have_length k (r ∷ rs) [] h = absurd h

-- no two tokens stand for one method

pub names_apart : (es : List Entry) → Apart (map entry_name es) → Apart (introduced es)
names_apart [] o = tt
names_apart (entries.Introduced name sig way ∷ es) o = ((λ m. o.0 (among es name m)), names_apart es o.1)
  where
    among : (es : List Entry) (name : List ℕ) → Mem name (introduced es) → Mem name (map entry_name es)
    among [] name m = absurd m
    among (entries.Introduced x sig way ∷ es) name (inl e) = inl e
    among (entries.Introduced x sig way ∷ es) name (inr m) = inr (among es name m)
    among (entries.Moved x to ∷ es) name m = inr (among es name m)
names_apart (entries.Moved name to ∷ es) o = names_apart es o.1

name_mem : (xs : List (List ℕ)) (i : ℕ) → i < length xs → Mem (get_or xs i []) xs
name_mem [] i lt = absurd (omega (arith, lt))
name_mem (x ∷ xs) zero lt = inl refl
name_mem (x ∷ xs) (suc i) lt = inr (name_mem xs i (omega (arith, lt)))

name_once : (xs : List (List ℕ)) → Apart xs → (m n : ℕ) → m < length xs → n < length xs → get_or xs m [] ≡ get_or xs n [] → m ≡ n
name_once [] o m n lm ln e = absurd (omega (arith, lm))
name_once (k ∷ ks) o zero zero lm ln e = refl
name_once (k ∷ ks) o zero (suc n) lm ln e = absurd (o.0 (subst (λ z. Mem z ks) (sym e) (name_mem ks n (omega (arith, ln)))))
name_once (k ∷ ks) o (suc m) zero lm ln e = absurd (o.0 (subst (λ z. Mem z ks) e (name_mem ks m (omega (arith, lm)))))
name_once (k ∷ ks) o (suc m) (suc n) lm ln e = ap suc (name_once ks o.1 m n (omega (arith, lm)) (omega (arith, ln)) e)

-- the first that stands for a method
abbrev first_by : {A B : Type 0} → (A → MethodRef) → (A → B) → List Class → MethodRef → List A → Option B
first_by f g cs r [] = None
first_by f g cs r (x ∷ xs) = if same_method (owner cs (f x)) r then Some (g x) else first_by f g cs r xs

pub overrides_by : (cs : List Class) (r : MethodRef) (os : List Override) → override_of cs r os ≡ first_by (λ (o : Override). o.method) (λ (o : Override). User o.block) cs r os
overrides_by cs r [] = refl
overrides_by cs r (o ∷ os) = ap (λ z. if same_method (owner cs o.method) r then Some (User o.block) else z) (overrides_by cs r os)

pub selects_by : (cs : List Class) (r : MethodRef) (ss : List Select) → select_of cs r ss ≡ first_by (λ (s : Select). s.method) (λ (s : Select). s.parent) cs r ss
selects_by cs r [] = refl
selects_by cs r (s ∷ ss) = ap (λ z. if same_method (owner cs s.method) r then Some s.parent else z) (selects_by cs r ss)

exact_methods : (r : MethodRef) → same_method r r ≡ true
exact_methods r = let a = exact_keys.one r.class in let b = exact_bytes.one r.name in rw (a, b) refl

module _ (k : Numbering) (apart : AreApart k) (names : (n : ℕ) → Apart (names_of k n)) (t : ℕ × ℕ) (is : IsToken k t) where
  pub same_token : (u : ℕ × ℕ) (r : MethodRef) → IsTokenOf k u r → same_method r (method_at k t) ≡ true → u ≡ t
  same_token u r h e =
      let m : method_at k u ≡ method_at k t = h.method ∙ same_methods r (method_at k t) e in
      let class : u.0 ≡ t.0 = apart u.0 t.0 h.token.0 is.0 (ap (λ (z : MethodRef). z.class) m) in
      let name : get_or (names_of k t.0) u.1 [] ≡ get_or (names_of k t.0) t.1 [] = ap (λ n. get_or (names_of k n) u.1 []) (sym class) ∙ ap (λ (z : MethodRef). z.name) m in
      let place = name_once (names_of k t.0) (names t.0) u.1 t.1 (subst (λ n. u.1 < length (names_of k n)) class h.token.1) is.1 name in
      ap (λ n. (n, u.1)) class ∙ ap (λ n. (t.0, n)) place

  pub token_same : (u : ℕ × ℕ) (r : MethodRef) → IsTokenOf k u r → u ≡ t → same_method r (method_at k t) ≡ true
  token_same u r h e = ap (λ z. same_method z (method_at k t)) (sym h.method ∙ ap (method_at k) e) ∙ exact_methods (method_at k t)

  pub none_by : {A B : Type 0} (f : A → MethodRef) (g : A → B) (xs : List A) (ts : List (ℕ × ℕ)) → HaveTokens k (map f xs) ts → ((i : ℕ) → slice_get ts i ≡ Some t → ⊥) → first_by f g k.classes (method_at k t) xs ≡ None
  none_by f g [] ts h away = refl
  none_by f g (x ∷ xs) [] h away = absurd h
  none_by f g (x ∷ xs) (u ∷ ts) h away =
      let other = not_true (same_method (owner k.classes (f x)) (method_at k t)) (λ e. away 0 (ap (λ z. Some z) (same_token u (owner k.classes (f x)) h.0 e))) in
      rw other (none_by f g xs ts h.1 (λ i e. away (suc i) e))

  pub some_by : {A B : Type 0} (f : A → MethodRef) (g : A → B) (xs : List A) (ts : List (ℕ × ℕ)) → HaveTokens k (map f xs) ts → (i : ℕ) → IsFirst ts t i
      → (x : A) × (slice_get xs i ≡ Some x) × (first_by f g k.classes (method_at k t) xs ≡ Some (g x))
  some_by f g [] [] h i at = absurd (let e = at.0 in cc)
  some_by f g [] (u ∷ ts) h i at = absurd h
  some_by f g (x ∷ xs) [] h i at = absurd h
  some_by f g (x ∷ xs) (u ∷ ts) h zero at =
      let e : u ≡ t = (let z = at.0 in cc) in
      let same = token_same u (owner k.classes (f x)) h.0 e in
      (x, refl, rw same refl)
  some_by f g (x ∷ xs) (u ∷ ts) h (suc i) at =
      let other = not_true (same_method (owner k.classes (f x)) (method_at k t)) (λ e. at.1 0 (omega arith) (ap (λ z. Some z) (same_token u (owner k.classes (f x)) h.0 e))) in
      let r = some_by f g xs ts h.1 i (at.0, λ j lt e. at.1 (suc j) (omega (arith, lt)) e) in
      (r.0, r.1, rw other r.2)
