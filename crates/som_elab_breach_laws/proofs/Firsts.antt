-- The first of what items of a list break, and the first refusal of steps one after the other.
use Rattle.std.proofs.Common.{◌≡◌, inl, inr, List, [], ◌∷◌, ◌++◌, flat_map, append_assoc, Option, Some, None, Result, Ok, Err, refl, sym, ap, ◌∙◌}
use Rattle.som_model.specs.Lists.{first, or_else}
use Rattle.som_model.specs.Steps.{◌>>=◌}
use Rattle.som_elab_breach_laws.specs.Telling.{IsFirstOf, NoneBreaks}

first_left : {B : Type 0} (xs ys : List B) (b : B) → first xs ≡ Some b → first (xs ++ ys) ≡ Some b
first_left [] ys b e = absurd (cc)
first_left (x ∷ xs) ys b e = e

module _ {A B : Type 0} (rule : A → List B) where
  first_by : (x : A) (xs : List A) (b : B) (ys : List B) → rule x ≡ ys → (first (flat_map rule xs) ≡ Some b → IsFirstOf rule xs b) → first (ys ++ flat_map rule xs) ≡ Some b → IsFirstOf rule (x ∷ xs) b
  first_by x xs b (y ∷ ys) f again g = record { before = []; item = x; after = xs; parts = refl; earlier = λ z m. absurd m; begins = ap first f ∙ g }
  first_by x xs b [] f again g = (
      let r = again g in
      record {
        before = x ∷ r.before;
        item = r.item;
        after = r.after;
        parts = ap (λ z. x ∷ z) r.parts;
        earlier = λ z m. elim m [ inl e ↦ ap rule e ∙ f | inr n ↦ r.earlier z n ];
        begins = r.begins;
      })

  pub first_flat : (xs : List A) (b : B) → first (flat_map rule xs) ≡ Some b → IsFirstOf rule xs b
  first_flat [] b e = absurd (cc)
  first_flat (x ∷ xs) b e = first_by x xs b (rule x) refl (first_flat xs b) e

  begins_flat : (before : List A) (item : A) (after : List A) (b : B) → NoneBreaks rule before → first (rule item) ≡ Some b → first (flat_map rule (before ++ item ∷ after)) ≡ Some b
  begins_flat [] item after b none e = first_left (rule item) (flat_map rule after) b e
  begins_flat (x ∷ before) item after b none e =
      ap (λ (ys : List B). first (ys ++ flat_map rule (before ++ item ∷ after))) (none x (inl refl)) ∙ begins_flat before item after b (λ z m. none z (inr m)) e

  pub flat_first : (xs : List A) (b : B) → IsFirstOf rule xs b → first (flat_map rule xs) ≡ Some b
  flat_first xs b f = ap (λ (z : List A). first (flat_map rule z)) f.parts ∙ begins_flat f.before f.item f.after b f.earlier f.begins

  none_by : (x : A) (xs : List A) (ys : List B) → rule x ≡ ys → (first (flat_map rule xs) ≡ None → NoneBreaks rule xs) → first (ys ++ flat_map rule xs) ≡ None → NoneBreaks rule (x ∷ xs)
  none_by x xs (y ∷ ys) f again g = absurd (cc)
  none_by x xs [] f again g = λ z m. elim m [ inl e ↦ ap rule e ∙ f | inr n ↦ again g z n ]

  pub none_flat : (xs : List A) → first (flat_map rule xs) ≡ None → NoneBreaks rule xs
  none_flat [] e = λ z m. absurd m
  none_flat (x ∷ xs) e = none_by x xs (rule x) refl (none_flat xs) e

  pub flat_none : (xs : List A) → NoneBreaks rule xs → first (flat_map rule xs) ≡ None
  flat_none [] none = refl
  flat_none (x ∷ xs) none = ap (λ (ys : List B). first (ys ++ flat_map rule xs)) (none x (inl refl)) ∙ flat_none xs (λ z m. none z (inr m))

  pub flat_both : (xs ys : List A) → flat_map rule (xs ++ ys) ≡ flat_map rule xs ++ flat_map rule ys
  flat_both [] ys = refl
  flat_both (x ∷ xs) ys = ap (λ z. rule x ++ z) (flat_both xs ys) ∙ sym (append_assoc (rule x) (flat_map rule xs) (flat_map rule ys))

pub first_both : {B : Type 0} (xs ys : List B) → first (xs ++ ys) ≡ or_else (first xs) (first ys)
first_both [] ys = refl
first_both (x ∷ xs) ys = refl

pub or_last : {B : Type 0} (o : Option B) → or_else o None ≡ o
or_last None = refl
or_last (Some b) = refl

-- ---- steps

-- what steps are refused with, if they are
abbrev pub refused_with : {A E : Type 0} → Result A E → Option E
refused_with (Ok x) = None
refused_with (Err e) = Some e

-- what comes after steps is refused alike, whatever they come to
pub then_refused : {A B E : Type 0} (x : Result A E) (f : A → Result B E) (q : Option E) → ((y : A) → refused_with (f y) ≡ q) → refused_with (x >>= f) ≡ or_else (refused_with x) q
then_refused (Ok y) f q g = g y
then_refused (Err e) f q g = refl

-- what comes after them can't be refused
pub last_refused : {A B E : Type 0} (x : Result A E) (f : A → B) → refused_with (x >>= λ y. Ok (f y)) ≡ refused_with x
last_refused (Ok y) f = refl
last_refused (Err e) f = refl

pub is_refused : {A E : Type 0} (x : Result A E) (e : E) → refused_with x ≡ Some e → x ≡ Err e
is_refused (Ok y) e f = absurd (cc)
is_refused (Err d) e f = let same : d ≡ e = cc in ap (λ z. Err z) same
