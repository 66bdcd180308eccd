-- Names that were noted.
use Rattle.std.proofs.Common.{◌≡◌, ℕ, zero, suc, ◌+◌, ◌<◌, Bool, true, false, not, ◌||◌, if◌then◌else◌, List, [], ◌∷◌, ◌++◌, length, drop, Option, Some, None, IfSome, slice_index_or, refl, sym, ap, ◌∙◌, arith}
use Rattle.std.specs.Borrow.{Bor}
use Rattle.std.specs.List.{list_any, position}
use Rattle.std.specs.Str.{bytes_eq}
use Rattle.std.proofs.lemmas.List.Quantifiers.{position-Some}
use Rattle.som_model.specs.Lists.{among, without}
use Rattle.som_model.proofs.KeyLaws.{exact_bytes}
use Rattle.som_order.specs.Names.{texts, name_at}

or_if : (a b : Bool) → (a || b) ≡ (if a then true else b)
or_if true b = refl
or_if false b = refl

pub among_keys : (x : List ℕ) (ks : List (Bor (List ℕ))) → list_any (λ k. bytes_eq x k.now) ks ≡ among x (texts ks)
among_keys x [] = refl
among_keys x (k ∷ ks) = ap (λ b. bytes_eq x k.now || b) (among_keys x ks) ∙ or_if (bytes_eq x k.now) (among x (texts ks))

long_texts : (keys : List (Bor (List ℕ))) → length (texts keys) ≡ length keys
long_texts [] = refl
long_texts (k ∷ ks) = ap suc (long_texts ks)

text_at : (keys : List (Bor (List ℕ))) (i : ℕ) (d : Bor (List ℕ)) → d.now ≡ [] → name_at (texts keys) i ≡ (slice_index_or keys i d).now
text_at [] i d e = sym e
text_at (k ∷ ks) zero d e = refl
text_at (k ∷ ks) (suc i) d e = text_at ks i d e

pub found_name : (x : List ℕ) (keys : List (Bor (List ℕ))) (d : Bor (List ℕ)) (o : Option ℕ) → d.now ≡ [] → o ≡ position (λ k. bytes_eq x k.now) keys
    → IfSome o (λ p. (p < length (texts keys)) × (name_at (texts keys) p ≡ x))
found_name x keys d None n e = tt
found_name x keys d (Some i) n e =
    let r = position-Some (λ (k : Bor (List ℕ)). bytes_eq x k.now) keys i d (sym e) in
    (omega (arith, r.0, long_texts keys), text_at keys i d n ∙ sym (exact_bytes.two x (slice_index_or keys i d).now r.1))

-- whether a name stands in one of two lists
abbrev pub in_either : List ℕ → List (List ℕ) → List (List ℕ) → Bool
in_either name xs ys = if among name xs then true else among name ys

alone : (b r : Bool) → (if (if b then true else false) then true else r) ≡ (if b then true else r)
alone true r = refl
alone false r = refl

after : (b x y r s : Bool) → (if x then true else r) ≡ (if y then true else s) → (if (if b then true else x) then true else r) ≡ (if (if b then true else y) then true else s)
after true x y r s e = refl
after false x y r s e = e

either_last : (name x : List ℕ) (xs ys : List (List ℕ)) → in_either name (xs ++ x ∷ []) ys ≡ in_either name xs (x ∷ ys)
either_last name x [] ys = alone (bytes_eq name x) (among name ys)
either_last name x (z ∷ xs) ys = after (bytes_eq name z) (among name (xs ++ x ∷ [])) (among name xs) (among name ys) (among name (x ∷ ys)) (either_last name x xs ys)

again_by : (name x : List ℕ) (xs ys : List (List ℕ)) (b : Bool) → bytes_eq name x ≡ b → among x xs ≡ true → in_either name xs ys ≡ (if among name xs then true else (if b then true else among name ys))
again_by name x xs ys true is e = let here : among name xs ≡ true = ap (λ n. among n xs) (exact_bytes.two name x is) ∙ e in rw here refl
again_by name x xs ys false is e = refl

either_again : (name x : List ℕ) (xs ys : List (List ℕ)) → among x xs ≡ true → in_either name xs ys ≡ in_either name xs (x ∷ ys)
either_again name x xs ys e = again_by name x xs ys (bytes_eq name x) refl e

pub drop_at : {A : Type 0} (xs : List A) (i : ℕ) (d : A) → i < length xs → drop i xs ≡ slice_index_or xs i d ∷ drop (i + 1) xs
drop_at [] i d lt = absurd (omega arith)
drop_at (x ∷ xs) zero d lt = refl
drop_at (x ∷ xs) (suc i) d lt = let e : suc i + 1 ≡ suc (i + 1) = omega arith in rw e (drop_at xs i d (omega arith))

noted_by : (name : List ℕ) (b is_new : Bool) (before seen rest : List (List ℕ)) (x : List ℕ) → among x before ≡ b → is_new ≡ not b
    → seen ≡ (if is_new then before ++ x ∷ [] else before) → in_either name seen rest ≡ in_either name before (x ∷ rest)
noted_by name true true before seen rest x e n k = cc
noted_by name true false before seen rest x e n k = ap (λ z. in_either name z rest) k ∙ either_again name x before rest e
noted_by name false true before seen rest x e n k = ap (λ z. in_either name z rest) k ∙ either_last name x before rest
noted_by name false false before seen rest x e n k = cc

-- a name more is noted
pub noted : (name : List ℕ) (is_new : Bool) (before seen names : List (List ℕ)) (i : ℕ) (x d : List ℕ) → i < length names → x ≡ slice_index_or names i d
    → is_new ≡ not (among x before) → seen ≡ (if is_new then before ++ x ∷ [] else before)
    → in_either name before (drop i names) ≡ among name names → in_either name seen (drop (i + 1) names) ≡ among name names
noted name is_new before seen names i x d lt is new kept e =
    noted_by name (among x before) is_new before seen (drop (i + 1) names) x refl new kept
    ∙ ap (λ z. in_either name before (z ∷ drop (i + 1) names)) is
    ∙ ap (in_either name before) (sym (drop_at names i d lt)) ∙ e

-- tests that agree leave the same out
pub without_alike : (f g : List ℕ → Bool) (xs : List (List ℕ)) → ((x : List ℕ) → f x ≡ g x) → without f xs ≡ without g xs
without_alike f g [] e = refl
without_alike f g (x ∷ xs) e = ap (λ (b : Bool). if b then without f xs else x ∷ without f xs) (e x) ∙ ap (λ z. if g x then z else x ∷ z) (without_alike f g xs e)
