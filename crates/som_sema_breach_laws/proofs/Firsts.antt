-- The first of what items of a list give, each by the items before it, and the first of several rules that gives something.
use Rattle.std.proofs.Common.{◌≡◌, ℕ, zero, suc, ◌+◌, ◌<◌, ◌⊎◌, inl, inr, List, [], ◌∷◌, ◌++◌, Option, Some, None, slice_get, refl, sym, ap, ◌∙◌, subst, arith}
use Rattle.som_model.specs.Lists.{first, or_else}

pub append_none : {A : Type 0} (xs : List A) → xs ++ [] ≡ xs
append_none [] = refl
append_none (x ∷ xs) = ap (λ z. x ∷ z) (append_none xs)

pub append_one : {A : Type 0} (xs : List A) (y : A) (ys : List A) → (xs ++ y ∷ []) ++ ys ≡ xs ++ y ∷ ys
append_one [] y ys = refl
append_one (x ∷ xs) y ys = ap (λ z. x ∷ z) (append_one xs y ys)

first_split : {B : Type 0} (xs ys : List B) (b : B) → first (xs ++ ys) ≡ Some b → (first xs ≡ Some b) ⊎ ((xs ≡ []) × (first ys ≡ Some b))
first_split [] ys b e = inr (refl, e)
first_split (x ∷ xs) ys b e = inl e

none_left : {B : Type 0} (xs ys : List B) → (xs ++ ys) ≡ [] → (xs ≡ []) × (ys ≡ [])
none_left [] ys e = (refl, e)
none_left (x ∷ xs) ys e = absurd (cc)

nothing : {B : Type 0} (xs : List B) → first xs ≡ None → xs ≡ []
nothing [] e = refl
nothing (x ∷ xs) e = absurd (cc)

or_split : {B : Type 0} (o p : Option B) (b : B) → or_else o p ≡ Some b → (o ≡ Some b) ⊎ ((o ≡ None) × (p ≡ Some b))
or_split None p b e = inr (refl, e)
or_split (Some x) p b e = inl e

or_none : {B : Type 0} (o p : Option B) → or_else o p ≡ None → (o ≡ None) × (p ≡ None)
or_none None p e = (refl, e)
or_none (Some x) p e = absurd (cc)

heads : {A : Type 0} (x y : A) (xs ys : List A) → x ∷ xs ≡ y ∷ ys → (x ≡ y) × (xs ≡ ys)
heads x y xs ys e = (cc, cc)

no_parts : {A : Type 0} (xs : List A) (y : A) (ys : List A) → [] ≡ xs ++ y ∷ ys → ⊥
no_parts [] y ys e = cc
no_parts (x ∷ xs) y ys e = cc

module _ {A B : Type 0} where
  -- what the items give one after the other, behind these
  abbrev pub over : (List A → A → List B) → List A → List A → List B
  over rule pre [] = []
  over rule pre (x ∷ xs) = rule pre x ++ over rule (pre ++ x ∷ []) xs

  -- none of the items gives anything, behind these
  abbrev pub Nothing : (List A → A → List B) → List A → List A → Type 0
  Nothing rule pre xs = (before : List A) (x : A) (after : List A) → xs ≡ before ++ x ∷ after → rule (pre ++ before) x ≡ []

  here : (rule : List A → A → List B) (pre : List A) (x y : A) → x ≡ y → rule pre x ≡ [] → rule (pre ++ []) y ≡ []
  here rule pre x y same e = ap (λ z. rule z y) (append_none pre) ∙ ap (rule pre) (sym same) ∙ e

  further : (rule : List A → A → List B) (pre before : List A) (x w y : A) → x ≡ w → rule ((pre ++ x ∷ []) ++ before) y ≡ [] → rule (pre ++ w ∷ before) y ≡ []
  further rule pre before x w y same e = ap (λ z. rule (pre ++ z ∷ before) y) (sym same) ∙ ap (λ z. rule z y) (sym (append_one pre x before)) ∙ e

  nothing_more : (rule : List A → A → List B) (pre : List A) (x : A) (xs : List A) → rule pre x ≡ [] → Nothing rule (pre ++ x ∷ []) xs
      → (before : List A) (y : A) (after : List A) → x ∷ xs ≡ before ++ y ∷ after → rule (pre ++ before) y ≡ []
  nothing_more rule pre x xs e f [] y after is = here rule pre x y (heads x y xs after is).0 e
  nothing_more rule pre x xs e f (w ∷ before) y after is =
      let h = heads x w xs (before ++ y ∷ after) is in
      further rule pre before x w y h.0 (f before y after h.1)

  pub none_over : (rule : List A → A → List B) (pre xs : List A) → over rule pre xs ≡ [] → Nothing rule pre xs
  none_over rule pre [] e before y after is = absurd (no_parts before y after is)
  none_over rule pre (x ∷ xs) e before y after is =
      let r = none_left (rule pre x) (over rule (pre ++ x ∷ []) xs) e in
      nothing_more rule pre x xs r.0 (none_over rule (pre ++ x ∷ []) xs r.1) before y after is

  -- the first item that gives something, behind these, and the first of what it gives
  pub record First (rule : List A → A → List B) (pre xs : List A) (b : B) : Type 0 where
    pub before : List A
    pub item : A
    pub after : List A
    pub parts : xs ≡ before ++ item ∷ after
    pub earlier : Nothing rule pre before
    pub begins : first (rule (pre ++ before) item) ≡ Some b

  pub first_over : (rule : List A → A → List B) (pre xs : List A) (b : B) → first (over rule pre xs) ≡ Some b → First rule pre xs b
  first_over rule pre [] b e = absurd (cc)
  first_over rule pre (x ∷ xs) b e = elim (first_split (rule pre x) (over rule (pre ++ x ∷ []) xs) b e) [
    | inl g ↦ record {
      before = [];
      item = x;
      after = xs;
      parts = refl;
      earlier = λ before y after is. absurd (no_parts before y after is);
      begins = ap (λ z. first (rule z x)) (append_none pre) ∙ g;
    }
    | inr g ↦ (
        let r = first_over rule (pre ++ x ∷ []) xs b g.1 in
        record {
          before = x ∷ r.before;
          item = r.item;
          after = r.after;
          parts = ap (λ z. x ∷ z) r.parts;
          earlier = nothing_more rule pre x r.before g.0 r.earlier;
          begins = ap (λ z. first (rule z r.item)) (sym (append_one pre x r.before)) ∙ r.begins;
        })
  ]

  -- the first of what rules give, the first rule first
  abbrev pub told_by : List (List A → A → List B) → List A → Option B
  told_by [] xs = None
  told_by (rule ∷ rules) xs = or_else (first (over rule [] xs)) (told_by rules xs)

  -- the first rule that gives something, and the first of that
  pub record Told (rules : List (List A → A → List B)) (xs : List A) (b : B) : Type 0 where
    pub place : ℕ
    pub rule : List A → A → List B
    pub is_rule : slice_get rules place ≡ Some rule
    pub lower : (j : ℕ) (r : List A → A → List B) → j < place → slice_get rules j ≡ Some r → Nothing r [] xs
    pub is_first : First rule [] xs b

  none_lower : (rule : List A → A → List B) (rules : List (List A → A → List B)) (xs : List A) (place : ℕ) → over rule [] xs ≡ []
      → ((j : ℕ) (r : List A → A → List B) → j < place → slice_get rules j ≡ Some r → Nothing r [] xs)
      → (j : ℕ) (r : List A → A → List B) → j < suc place → slice_get (rule ∷ rules) j ≡ Some r → Nothing r [] xs
  none_lower rule rules xs place e f zero r lt at =
      let same : rule ≡ r = cc in
      none_over r [] xs (ap (λ (z : List A → A → List B). over z [] xs) (sym same) ∙ e)
  none_lower rule rules xs place e f (suc j) r lt at = f j r (omega (arith, lt)) at

  pub told_first : (rules : List (List A → A → List B)) (xs : List A) (b : B) → told_by rules xs ≡ Some b → Told rules xs b
  told_first [] xs b e = absurd (cc)
  told_first (rule ∷ rules) xs b e = elim (or_split (first (over rule [] xs)) (told_by rules xs) b e) [
    | inl g ↦ record { place = 0; rule = rule; is_rule = refl; lower = λ j r lt. absurd (omega (arith, lt)); is_first = first_over rule [] xs b g }
    | inr g ↦ (
        let t = told_first rules xs b g.1 in
        record { place = suc t.place; rule = t.rule; is_rule = t.is_rule; lower = none_lower rule rules xs t.place (nothing (over rule [] xs) g.0) t.lower; is_first = t.is_first })
  ]

  -- where nothing is told, no rule gives anything
  pub none_told : (rules : List (List A → A → List B)) (xs : List A) → told_by rules xs ≡ None
      → (place : ℕ) (rule : List A → A → List B) → slice_get rules place ≡ Some rule → Nothing rule [] xs
  none_told [] xs e place rule at = absurd (cc)
  none_told (r ∷ rules) xs e zero rule at =
      let same : r ≡ rule = cc in
      let n = or_none (first (over r [] xs)) (told_by rules xs) e in
      none_over rule [] xs (ap (λ (z : List A → A → List B). over z [] xs) (sym same) ∙ nothing (over r [] xs) n.0)
  none_told (r ∷ rules) xs e (suc place) rule at =
      let n = or_none (first (over r [] xs)) (told_by rules xs) e in
      none_told rules xs n.1 place rule at
