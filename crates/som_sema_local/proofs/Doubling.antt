-- Names of which one stands a second time.
use Rattle.std.proofs.Common.{◌≡◌, ℕ, ◌+◌, ◌<◌, ◌≤◌, Bool, true, false, not, if◌then◌else◌, List, [], ◌∷◌, ◌++◌, length, drop, slice_index_or, Option, None, Some, refl, sym, ap, ◌∙◌}
use Rattle.std.proofs.lemmas.List.{drop_all}
use Rattle.std.specs.Borrow.{Bor}
use Rattle.std.specs.Str.{bytes_eq}
use Rattle.som_model.specs.Lists.{among, doubles, first}
use Rattle.som_order.specs.Names.{texts}
use Rattle.som_verify_classes.proofs.Doubled.{doubled}

not_true : (a b : Bool) → a ≡ not b → a ≡ true → b ≡ false
not_true a true e t = cc
not_true a false e t = refl

not_false : (a b : Bool) → a ≡ not b → a ≡ false → b ≡ true
not_false a true e t = refl
not_false a false e t = cc

-- a new name, and what was told of the rest
pub double_later : (names : List (Bor (List ℕ))) (i : ℕ) (d : Bor (List ℕ)) (is_new : Bool) (before seen : List (List ℕ)) (whole : Option (List ℕ)) → i < length names
    → is_new ≡ not (among (slice_index_or names i d).now before) → seen ≡ (if is_new then before ++ (slice_index_or names i d).now ∷ [] else before) → is_new ≡ true
    → first (doubles bytes_eq before (texts (drop i names))) ≡ whole → first (doubles bytes_eq seen (texts (drop (i + 1) names))) ≡ whole
double_later names i d is_new before seen whole lt new is t e =
    let x = (slice_index_or names i d).now in
    ap (λ z. first (doubles bytes_eq z (texts (drop (i + 1) names)))) (is ∙ ap (λ (b : Bool). if b then before ++ x ∷ [] else before) t)
    ∙ sym (ap (λ (b : Bool). if b then Some x else first (doubles bytes_eq (before ++ x ∷ []) (texts (drop (i + 1) names)))) (not_true is_new (among x before) new t))
    ∙ sym (doubled names i d before lt)
    ∙ e

pub double_here : (names : List (Bor (List ℕ))) (i : ℕ) (d : Bor (List ℕ)) (is_new : Bool) (before : List (List ℕ)) (whole : Option (List ℕ)) → i < length names
    → is_new ≡ not (among (slice_index_or names i d).now before) → is_new ≡ false
    → first (doubles bytes_eq before (texts (drop i names))) ≡ whole → Some (slice_index_or names i d).now ≡ whole
double_here names i d is_new before whole lt new t e =
    let x = (slice_index_or names i d).now in
    sym (ap (λ (b : Bool). if b then Some x else first (doubles bytes_eq (before ++ x ∷ []) (texts (drop (i + 1) names)))) (not_false is_new (among x before) new t))
    ∙ sym (doubled names i d before lt)
    ∙ e

pub double_none : (names : List (Bor (List ℕ))) (i : ℕ) (before : List (List ℕ)) (whole : Option (List ℕ)) → length names ≤ i
    → first (doubles bytes_eq before (texts (drop i names))) ≡ whole → None ≡ whole
double_none names i before whole le e = ap (λ (z : List (Bor (List ℕ))). first (doubles bytes_eq before (texts z))) (sym (drop_all i names le)) ∙ e
