-- Bodies that are put together by classes, one after the other.
use Rattle.std.proofs.Common.{◌≡◌, ℕ, zero, suc, ◌+◌, ◌<◌, ◌≤◌, inl, inr, Bool, true, false, not, if◌then◌else◌, List, [], ◌∷◌, ◌++◌, length, take, slice_index_or, slice_set, Result, Ok, Err, OnOk, refl, sym, ap, ◌∙◌, subst, arith, length-append, true≢false}
use Rattle.std.proofs.lemmas.Bool.{cases_eq, cases_lt}
use Rattle.std.proofs.lemmas.List.{append-nil}
use Rattle.std.proofs.Math.ListN.{get_or-append}
use Rattle.std.proofs.Math.Seq.{get_or-append_seam}
use Rattle.std.specs.Str.{bytes_eq}
use Rattle.som_model.specs.Lists.{among}
use Rattle.som_model.proofs.KeyLaws.{exact_bytes}
use Rattle.som_order.specs.Names.{name_at}
use Rattle.som_elab_methods.specs.Texts.{given, of_class}
use Rattle.som_ast.specs.declared.body.BodyText.{BodyText}
use Rattle.std.specs.Borrow.{Bor}
use Rattle.som_elab_methods.specs.Grouped.{AreGrouped, groups_of, more_at}

abbrev name_of : BodyText → List ℕ
name_of b = b.class.text

-- ---- the bodies of a class among one more

before_last : (k : Bool) (x : BodyText) (more less last : List BodyText) → more ≡ less ++ last → (if k then x ∷ more else more) ≡ (if k then x ∷ less else less) ++ last
before_last true x more less last e = ap (λ z. x ∷ z) e
before_last false x more less last e = e

of_last : (bs : List BodyText) (b : BodyText) (class : List ℕ) → of_class (bs ++ b ∷ []) class ≡ of_class bs class ++ (if bytes_eq (name_of b) class then b ∷ [] else [])
of_last [] b class = refl
of_last (x ∷ bs) b class = before_last (bytes_eq (name_of x) class) x (of_class (bs ++ b ∷ []) class) (of_class bs class) _ (of_last bs b class)

of_same : (bs : List BodyText) (b : BodyText) (class : List ℕ) → class ≡ name_of b → of_class (bs ++ b ∷ []) class ≡ of_class bs class ++ b ∷ []
of_same bs b class e = of_last bs b class ∙ ap (λ (k : Bool). of_class bs class ++ (if k then b ∷ [] else [])) (ap (bytes_eq (name_of b)) e ∙ exact_bytes.one (name_of b))

of_else : (bs : List BodyText) (b : BodyText) (class : List ℕ) → (name_of b ≡ class → ⊥) → of_class (bs ++ b ∷ []) class ≡ of_class bs class
of_else bs b class no_ = of_last bs b class ∙ by (bytes_eq (name_of b) class) refl
  where
    by : (k : Bool) → bytes_eq (name_of b) class ≡ k → of_class bs class ++ (if k then b ∷ [] else []) ≡ of_class bs class
    by true e = absurd (no_ (exact_bytes.two (name_of b) class e))
    by false e = append-nil (of_class bs class)

-- ---- names

or_false : (b c : Bool) → (if b then true else c) ≡ false → (b ≡ false) × (c ≡ false)
or_false true c e = cc
or_false false c e = (refl, e)

not_among : (names : List (List ℕ)) (x : List ℕ) (i : ℕ) → among x names ≡ false → i < length names → name_at names i ≡ x → ⊥
not_among [] x i e lt f = omega arith
not_among (n ∷ names) x zero e lt f = true≢false (sym (exact_bytes.one x) ∙ ap (bytes_eq x) (sym f) ∙ (or_false (bytes_eq x n) (among x names) e).0)
not_among (n ∷ names) x (suc i) e lt f = not_among names x i (or_false (bytes_eq x n) (among x names) e).1 (omega arith) f

not_last : (names : List (List ℕ)) (x name : List ℕ) → among name (names ++ x ∷ []) ≡ false → (among name names ≡ false) × (x ≡ name → ⊥)
not_last [] x name e = (refl, λ same. true≢false (sym (exact_bytes.one name) ∙ ap (bytes_eq name) (sym same) ∙ (or_false (bytes_eq name x) false e).0))
not_last (n ∷ names) x name e =
    let r = or_false (bytes_eq name n) (among name (names ++ x ∷ [])) e in
    let more = not_last names x name r.1 in
    (ap (λ (b : Bool). if b then true else among name names) r.0 ∙ more.0, more.1)

-- ---- groups

long_more : (gs : List (List BodyText)) (p : ℕ) (b : BodyText) → length (more_at gs p b) ≡ length gs
long_more [] p b = refl
long_more (g ∷ gs) zero b = refl
long_more (g ∷ gs) (suc p) b = ap suc (long_more gs p b)

at_more : (gs : List (List BodyText)) (p : ℕ) (b : BodyText) → p < length gs → slice_index_or (more_at gs p b) p [] ≡ slice_index_or gs p [] ++ b ∷ []
at_more [] p b lt = absurd (omega arith)
at_more (g ∷ gs) zero b lt = refl
at_more (g ∷ gs) (suc p) b lt = at_more gs p b (omega arith)

at_else : (gs : List (List BodyText)) (p i : ℕ) (b : BodyText) → (i ≡ p → ⊥) → slice_index_or (more_at gs p b) i [] ≡ slice_index_or gs i []
at_else [] p i b ne = refl
at_else (g ∷ gs) zero zero b ne = absurd (ne refl)
at_else (g ∷ gs) zero (suc i) b ne = refl
at_else (g ∷ gs) (suc p) zero b ne = refl
at_else (g ∷ gs) (suc p) (suc i) b ne = at_else gs p i b (λ e. ne (ap suc e))

pub grouped_none : AreGrouped [] [] []
grouped_none = record { long = refl; apart = λ i j li lj e. absurd (omega arith); found = λ i lt. absurd (omega arith); other = λ name e. refl }

-- a body more of a class that has some
pub grouped_more : (bs : List BodyText) (b : BodyText) (names : List (List ℕ)) (groups : List (List BodyText)) (p : ℕ) → AreGrouped bs names groups
    → p < length names → name_at names p ≡ name_of b → AreGrouped (bs ++ b ∷ []) names (more_at groups p b)
grouped_more bs b names groups p g lt at = record {
  long = long_more groups p b ∙ g.long;
  apart = g.apart;
  found = λ i within. elim (cases_eq i p) [
    | inl same ↦ (
        ap (λ j. slice_index_or (more_at groups p b) j []) same
        ∙ at_more groups p b (omega (arith, lt, g.long))
        ∙ ap (λ z. z ++ b ∷ []) (g.found p lt)
        ∙ sym (of_same bs b (name_at names p) at)
        ∙ ap (λ j. of_class (bs ++ b ∷ []) (name_at names j)) (sym same))
    | inr ne ↦ (
        at_else groups p i b ne
        ∙ g.found i within
        ∙ sym (of_else bs b (name_at names i) (λ e. ne (g.apart i p within lt (sym e ∙ sym at)))))
  ];
  other = λ name out. of_else bs b name (λ e. not_among names name p out lt (at ∙ e)) ∙ g.other name out;
}

-- a body of a class that had none
pub grouped_new : (bs : List BodyText) (b : BodyText) (names : List (List ℕ)) (groups : List (List BodyText)) → AreGrouped bs names groups
    → among (name_of b) names ≡ false → AreGrouped (bs ++ b ∷ []) (names ++ name_of b ∷ []) (groups ++ (b ∷ []) ∷ [])
grouped_new bs b names groups g new = record {
  long = omega (arith, g.long, length-append names (name_of b ∷ []), length-append groups ((b ∷ []) ∷ []));
  apart = λ i j li lj same.
      let long = length-append names (name_of b ∷ []) in
      elim (cases_lt i (length names)) [
        | inl wi ↦ elim (cases_lt j (length names)) [
          | inl wj ↦ g.apart i j wi wj (sym (get_or-append names (name_of b ∷ []) [] i wi) ∙ same ∙ get_or-append names (name_of b ∷ []) [] j wj)
          | inr gj ↦ (let ej : j ≡ length names = omega (arith, long) in
              absurd (not_among names (name_of b) i new wi (sym (get_or-append names (name_of b ∷ []) [] i wi) ∙ same ∙ ap (name_at (names ++ name_of b ∷ [])) ej ∙ get_or-append_seam names (name_of b) [] [])))
        ]
        | inr gi ↦ elim (cases_lt j (length names)) [
          | inl wj ↦ (let ei : i ≡ length names = omega (arith, long) in
              absurd (not_among names (name_of b) j new wj (sym (get_or-append names (name_of b ∷ []) [] j wj) ∙ sym same ∙ ap (name_at (names ++ name_of b ∷ [])) ei ∙ get_or-append_seam names (name_of b) [] [])))
          | inr gj ↦ omega (arith, long)
        ]
      ];
  found = λ i lt. elim (cases_lt i (length names)) [
    | inl wi ↦ (
        get_or-append groups ((b ∷ []) ∷ []) [] i (omega (arith, wi, g.long))
        ∙ g.found i wi
        ∙ sym (of_else bs b (name_at names i) (λ e. not_among names (name_of b) i new wi (sym e)))
        ∙ ap (of_class (bs ++ b ∷ [])) (sym (get_or-append names (name_of b ∷ []) [] i wi)))
    | inr gi ↦ (
        let here : i ≡ length names = omega (arith, gi, lt, length-append names (name_of b ∷ [])) in
        let there : i ≡ length groups = omega (arith, here, g.long) in
        ap (λ j. slice_index_or (groups ++ (b ∷ []) ∷ []) j []) there
        ∙ get_or-append_seam groups (b ∷ []) [] []
        ∙ ap (λ z. z ++ b ∷ []) (sym (g.other (name_of b) new))
        ∙ sym (of_same bs b (name_of b) refl)
        ∙ ap (of_class (bs ++ b ∷ [])) (sym (get_or-append_seam names (name_of b) [] []))
        ∙ ap (λ j. of_class (bs ++ b ∷ []) (name_at (names ++ name_of b ∷ []) j)) (sym here))
  ];
  other = λ name out. let r = not_last names (name_of b) name out in of_else bs b name r.1 ∙ g.other name r.0;
}

-- ---- as the code has them

pub long_groups : (gs : List (List (Bor BodyText))) → length (groups_of gs) ≡ length gs
long_groups [] = refl
long_groups (g ∷ gs) = ap suc (long_groups gs)

given_last : (bs : List (Bor BodyText)) (b : Bor BodyText) → given (bs ++ b ∷ []) ≡ given bs ++ b.now ∷ []
given_last [] b = refl
given_last (x ∷ bs) b = ap (λ z. x.now ∷ z) (given_last bs b)

pub groups_more : (gs : List (List (Bor BodyText))) (p : ℕ) (d : List (Bor BodyText)) (b : Bor BodyText) → p < length gs
    → groups_of (slice_set gs p (slice_index_or gs p d ++ b ∷ [])) ≡ more_at (groups_of gs) p b.now
groups_more [] p d b lt = absurd (omega arith)
groups_more (g ∷ gs) zero d b lt = ap (λ z. z ∷ groups_of gs) (given_last g b)
groups_more (g ∷ gs) (suc p) d b lt = ap (λ z. given g ∷ z) (groups_more gs p d b (omega arith))

-- ---- a text more

pub placed_text : (bs : List BodyText) (b : BodyText) (names : List (List ℕ)) (gs after : List (List BodyText)) (p : ℕ) (class : List ℕ) → AreGrouped bs names gs
    → class ≡ name_of b → p < length names → name_at names p ≡ class → after ≡ more_at gs p b → AreGrouped (bs ++ b ∷ []) names after
placed_text bs b names gs after p class g own lt at made = subst (AreGrouped (bs ++ b ∷ []) names) (sym made) (grouped_more bs b names gs p g lt (at ∙ own))

noted : (is_new : Bool) (x : List ℕ) (names seen : List (List ℕ)) → among x names ≡ false → is_new ≡ not (among x names) → seen ≡ (if is_new then names ++ x ∷ [] else names) → seen ≡ names ++ x ∷ []
noted is_new x names seen out new kept = kept ∙ ap (λ (b : Bool). if b then names ++ x ∷ [] else names) (new ∙ ap not out)

pub new_text : (bs : List BodyText) (b : BodyText) (names seen : List (List ℕ)) (gs after : List (List BodyText)) (class : List ℕ) (is_new : Bool) → AreGrouped bs names gs
    → class ≡ name_of b → among class names ≡ false → is_new ≡ not (among class names) → seen ≡ (if is_new then names ++ class ∷ [] else names) → after ≡ gs ++ (b ∷ []) ∷ []
    → AreGrouped (bs ++ b ∷ []) seen after
new_text bs b names seen gs after class is_new g own out new kept made =
    subst (λ z. AreGrouped (bs ++ b ∷ []) z after) (sym (noted is_new class names seen out new kept ∙ ap (λ x. names ++ x ∷ []) own))
    (subst (AreGrouped (bs ++ b ∷ []) (names ++ name_of b ∷ [])) (sym made) (grouped_new bs b names gs g (ap (λ x. among x names) (sym own) ∙ out)))

pub on_ok : {A E : Type 0} {P Q : Type 0} (r : Result A E) → OnOk r P → (P → Q) → OnOk r Q
on_ok (Ok x) p f = f p
on_ok (Err e) p f = p

given_more : (xs : List (Bor BodyText)) (i : ℕ) (x d : Bor BodyText) → i < length xs → x ≡ slice_index_or xs i d → given (take (i + 1) xs) ≡ given (take i xs) ++ x.now ∷ []
given_more [] i x d lt e = absurd (omega arith)
given_more (y ∷ xs) zero x d lt e = ap (λ z. z.now ∷ []) (sym e)
given_more (y ∷ xs) (suc i) x d lt e = let s : suc i + 1 ≡ suc (i + 1) = omega arith in rw s (ap (λ z. y.now ∷ z) (given_more xs i x d (omega arith) e))

pub text_more : (xs : List (Bor BodyText)) (i : ℕ) (x d : Bor BodyText) (names : List (List ℕ)) (gs : List (List BodyText)) → i < length xs → x ≡ slice_index_or xs i d
    → AreGrouped (given (take i xs) ++ x.now ∷ []) names gs → AreGrouped (given (take (i + 1) xs)) names gs
text_more xs i x d names gs lt e g = subst (λ z. AreGrouped z names gs) (sym (given_more xs i x d lt e)) g
