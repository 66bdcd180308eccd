-- Whether numbers stand for keys.
use Rattle.std.proofs.Common.{◌≡◌, ◌↔◌, IsTrue, ℕ, zero, suc, ◌+◌, ◌<◌, ◌≤◌, Bool, List, [], ◌∷◌, ◌++◌, length, map, take, get_or, refl, sym, ap, ◌∙◌, arith}
use Rattle.std.proofs.lemmas.List.{map-append, take_all, take_more}
use Rattle.som_model.specs.declared.key.ClassKey.{ClassKey, out-ClassKey}
use Rattle.som_model.specs.declared.key.ClassKey.TheOpen.{ClassKey-F}
use Rattle.som_model.specs.declared.key.ClassKey.TheVariants as keys
use Rattle.som_model.specs.Keys.{same_key}
use Rattle.som_model.proofs.KeyLaws.{exact_keys}
use Rattle.som_meta.specs.Numbering.{Numbering, key_at}
use Rattle.som_class_ids.proofs.Adding.{out_derived, out_proxy}

pub named_stands : (a b x : ClassKey) (t : Bool) → a ≡ b → t ≡ same_key b x → IsTrue t ↔ (a ≡ x)
named_stands a b x t e f = ((λ h. e ∙ exact_keys.two b x (sym f ∙ h)), (λ h. f ∙ ap (λ z. same_key z x) (sym e ∙ h) ∙ exact_keys.one x))

-- a key that is made of others

pub one_derived : (xs ys : List ClassKey) → keys.Derived xs ≡ keys.Derived ys → xs ≡ ys
one_derived xs ys e = let out : ClassKey-F.Derived xs ≡ ClassKey-F.Derived ys = sym (out_derived xs) ∙ ap out-ClassKey e ∙ out_derived ys in cc

pub one_proxy : (x y : ClassKey) → keys.Proxy x ≡ keys.Proxy y → x ≡ y
one_proxy x y e = let out : ClassKey-F.Proxy x ≡ ClassKey-F.Proxy y = sym (out_proxy x) ∙ ap out-ClassKey e ∙ out_proxy y in cc

pub derived_stands : (xs ys : List ClassKey) (x : ClassKey) (t : Bool) → x ≡ keys.Derived ys → IsTrue t ↔ (xs ≡ ys) → IsTrue t ↔ (keys.Derived xs ≡ x)
derived_stands xs ys x t is so = ((λ h. ap keys.Derived (so.0 h) ∙ sym is), (λ e. so.1 (one_derived xs ys (e ∙ is))))

pub proxy_stands : (a b x : ClassKey) (t : Bool) → x ≡ keys.Proxy b → IsTrue t ↔ (a ≡ b) → IsTrue t ↔ (keys.Proxy a ≡ x)
proxy_stands a b x t is so = ((λ h. ap keys.Proxy (so.0 h) ∙ sym is), (λ e. so.1 (one_proxy a b (e ∙ is))))

-- a test for a class's key is a test for what the class is made of
pub key_stands : (a b x : ClassKey) (t : Bool) → a ≡ b → IsTrue t ↔ (b ≡ x) → IsTrue t ↔ (a ≡ x)
key_stands a b x t e so = ((λ h. e ∙ so.0 h), (λ f. so.1 (sym e ∙ f)))

-- the one parent of a class of proxies
pub one_target : (k : Numbering) (ps : List ℕ) (of : ClassKey) → map (key_at k) ps ≡ of ∷ [] → (n : ℕ) × (ps ≡ n ∷ [])
one_target k [] of e = absurd (cc)
one_target k (p ∷ []) of e = (p, refl)
one_target k (p ∷ q ∷ ps) of e = absurd (cc)

-- lists of numbers and keys, one place further

pub stand_more : (k : Numbering) (ns : List ℕ) (ks : List ClassKey) (i n : ℕ) (x : ClassKey) → i < length ks → length ks ≡ length ns → n ≡ get_or ns i n → x ≡ get_or ks i x → key_at k n ≡ x
    → map (key_at k) (take i ns) ≡ take i ks → map (key_at k) (take (i + 1) ns) ≡ take (i + 1) ks
stand_more k ns ks i n x lt long at is same so =
    ap (map (key_at k)) (take_more ns i n (omega (arith, lt, long)) ∙ ap (λ z. take i ns ++ z ∷ []) (sym at)) ∙ map-append (key_at k) (take i ns) (n ∷ [])
    ∙ ap (λ l. l ++ key_at k n ∷ []) so ∙ ap (λ z. take i ks ++ z ∷ []) (same ∙ is) ∙ sym (take_more ks i x lt)

pub stand_not : (k : Numbering) (ns : List ℕ) (ks : List ClassKey) (i n : ℕ) (x : ClassKey) → i < length ks → n ≡ get_or ns i n → x ≡ get_or ks i x → (key_at k n ≡ x → ⊥) → map (key_at k) ns ≡ ks → ⊥
stand_not k [] ks i n x lt at is other e = (let long = ap length e in omega (arith, lt, long))
stand_not k (m ∷ ns) ks zero n x lt at is other e = other (ap (key_at k) at ∙ sym (is ∙ ap (λ (l : List ClassKey). get_or l 0 x) (sym e)))
stand_not k (m ∷ ns) [] (suc i) n x lt at is other e = absurd (omega (arith, lt))
stand_not k (m ∷ ns) (y ∷ ks) (suc i) n x lt at is other e = (let tail : map (key_at k) ns ≡ ks = cc in stand_not k ns ks i n x (omega (arith, lt)) at is other tail)

pub stand_all : (k : Numbering) (ns : List ℕ) (ks : List ClassKey) (i : ℕ) → length ks ≤ i → length ks ≡ length ns → map (key_at k) (take i ns) ≡ take i ks → map (key_at k) ns ≡ ks
stand_all k ns ks i le long so = ap (map (key_at k)) (sym (take_all i ns (omega (arith, le, long)))) ∙ so ∙ take_all i ks le

pub stand_long : (k : Numbering) (ns : List ℕ) (ks : List ClassKey) → map (key_at k) ns ≡ ks → length ks ≡ length ns
stand_long k [] [] e = refl
stand_long k [] (y ∷ ks) e = absurd (cc)
stand_long k (n ∷ ns) [] e = absurd (cc)
stand_long k (n ∷ ns) (y ∷ ks) e = (let tail : map (key_at k) ns ≡ ks = cc in let s = stand_long k ns ks tail in omega (arith, s))
