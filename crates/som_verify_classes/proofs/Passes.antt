-- A pass over the classes.
use Rattle.std.proofs.Common.{◌≡◌, ℕ, zero, suc, ◌+◌, ◌<◌, ◌≤◌, List, [], ◌∷◌, ◌++◌, length, drop, map, flat_map, slice_get, slice_index_or, Option, Some, None, Ok, Err, refl, sym, ap, ◌∙◌, arith}
use Rattle.som_model.specs.Lists.{first, or_else}
use Rattle.som_model.specs.Rules.{RuleBreach}
use Rattle.som_verify_classes.specs.declared.types.VerifyFault.{VerifyFault}
use Rattle.som_verify_classes.specs.declared.types.VerifyFault.TheVariants as faults
use Rattle.som_verify_classes.specs.Told.{Tells}

pub first_both : {A : Type 0} (xs ys : List A) → first (xs ++ ys) ≡ or_else (first xs) (first ys)
first_both [] ys = refl
first_both (x ∷ xs) ys = refl

at_place : {A B C : Type 0} (one : B → List C) (g : A → B) (cs : List A) (i : ℕ) → i < length cs
    → (c : A) × (slice_get cs i ≡ Some c) × (first (flat_map one (map g (drop i cs))) ≡ or_else (first (one (g c))) (first (flat_map one (map g (drop (i + 1) cs)))))
at_place one g [] i lt = absurd (omega arith)
at_place one g (c ∷ cs) zero lt = (c, refl, first_both (one (g c)) (flat_map one (map g cs)))
at_place one g (c ∷ cs) (suc i) lt = let r = at_place one g cs i (omega arith) in let e : suc i + 1 ≡ suc (i + 1) = omega arith in (r.0, r.1, rw e r.2)

none_first : {A : Type 0} (o r : Option A) → o ≡ None → or_else o r ≡ r
none_first o r e = rw e refl

pub goes_on : {A B : Type 0} (one : B → List RuleBreach) (g : A → B) (cs : List A) (whole : Option RuleBreach) (i : ℕ) (x : Unit {0}) → i < length cs
    → ((c : A) → slice_get cs i ≡ Some c → Tells (first (one (g c))) (Ok x))
    → first (flat_map one (map g (drop i cs))) ≡ whole → first (flat_map one (map g (drop (i + 1) cs))) ≡ whole
goes_on one g cs whole i x lt f same = let r = at_place one g cs i lt in sym (none_first _ _ (f r.0 r.1)) ∙ sym r.2 ∙ same

pub tells_first : (o r whole : Option RuleBreach) (e : VerifyFault) → Tells {A = Unit {0}} o (Err e) → or_else o r ≡ whole → Tells {A = Unit {0}} whole (Err e)
tells_first o r whole (faults.Rule b) t same = sym same ∙ ap (λ z. or_else z r) t
tells_first o r whole faults.NoMemory t same = tt

pub stops : {A B : Type 0} (one : B → List RuleBreach) (g : A → B) (cs : List A) (whole : Option RuleBreach) (i : ℕ) (e : VerifyFault) → i < length cs
    → ((c : A) → slice_get cs i ≡ Some c → Tells {A = Unit {0}} (first (one (g c))) (Err e))
    → first (flat_map one (map g (drop i cs))) ≡ whole → Tells {A = Unit {0}} whole (Err e)
stops one g cs whole i e lt f same = let r = at_place one g cs i lt in tells_first (first (one (g r.0))) _ _ e (f r.0 r.1) (sym r.2 ∙ same)

-- the first breach of the items from a place on, where the item there is known: its own, or else the first of those after it
at_item : {A B C : Type 0} (one : B → List C) (g : A → B) (cs : List A) (i : ℕ) (c : A) → i < length cs → c ≡ slice_index_or cs i c
    → first (flat_map one (map g (drop i cs))) ≡ or_else (first (one (g c))) (first (flat_map one (map g (drop (i + 1) cs))))
at_item one g [] i c lt is = absurd (omega arith)
at_item one g (x ∷ cs) zero c lt is = first_both (one (g x)) (flat_map one (map g cs)) ∙ ap (λ z. or_else (first (one (g z))) (first (flat_map one (map g cs)))) (sym is)
at_item one g (x ∷ cs) (suc i) c lt is = let e : suc i + 1 ≡ suc (i + 1) = omega arith in rw e (at_item one g cs i c (omega arith) is)

pub item_goes_on : {A B : Type 0} (one : B → List RuleBreach) (g : A → B) (cs : List A) (whole : Option RuleBreach) (i : ℕ) (c : A) → i < length cs → c ≡ slice_index_or cs i c
    → first (one (g c)) ≡ None → first (flat_map one (map g (drop i cs))) ≡ whole → first (flat_map one (map g (drop (i + 1) cs))) ≡ whole
item_goes_on one g cs whole i c lt is none same = sym (none_first (first (one (g c))) (first (flat_map one (map g (drop (i + 1) cs)))) none) ∙ sym (at_item one g cs i c lt is) ∙ same

pub item_stops : {A B : Type 0} (one : B → List RuleBreach) (g : A → B) (cs : List A) (whole : Option RuleBreach) (i : ℕ) (c : A) (e : VerifyFault) → i < length cs → c ≡ slice_index_or cs i c
    → Tells {A = Unit {0}} (first (one (g c))) (Err e) → first (flat_map one (map g (drop i cs))) ≡ whole → Tells {A = Unit {0}} whole (Err e)
item_stops one g cs whole i c e lt is t same = tells_first (first (one (g c))) (first (flat_map one (map g (drop (i + 1) cs)))) whole e t (sym (at_item one g cs i c lt is) ∙ same)

-- all classes were asked
pub all_pass : {A B : Type 0} (one : B → List RuleBreach) (g : A → B) (cs : List A) (whole : Option RuleBreach) (i : ℕ) → length cs ≤ i → first (flat_map one (map g (drop i cs))) ≡ whole → whole ≡ None
all_pass one g [] whole zero le same = sym same
all_pass one g [] whole (suc i) le same = sym same
all_pass one g (c ∷ cs) whole zero le same = absurd (omega arith)
all_pass one g (c ∷ cs) whole (suc i) le same = all_pass one g cs whole i (omega arith) same
