-- The laws of `inherited`: one class deep, of a class without a row, and of a class that gets its row.
use Rattle.std.proofs.Common.{◌≡◌, ◌≢◌, ℕ, zero, suc, ◌<◌, inl, inr, ◌==◌, Bool, true, false, if◌then◌else◌, List, [], ◌∷◌, length, Option, Some, None, IsSome, slice_get, refl, sym, ap, ◌∙◌, subst, arith, true≢false}
use Rattle.std.specs.Option.{option_or, option_and_then}
use Rattle.std.specs.List.{AllByRecursion}
use Rattle.std.proofs.lemmas.Option.{slice_get_past}
use Rattle.std.proofs.lemmas.Bool.{cases_lt, cases_eq, eqb-true, eq-eqb, ne_eqb, and_parts}
use Rattle.som_tables.specs.Rows.{Added, row_at, HasRow, first_some, same_token, replaced_at, own_at, row_cell, inherited_within, inherited, HasToken, SomeHasToken, HaveRowsBelow, AreInherited, ParentsComeFirst, KeepsOtherRows, GivesRow, GivesTokens}
use Rattle.som_tables.proofs.Options.{none_is_not_some, option_or_cases, option_or_left, option_or_right}

-- two searches that agree on each of these classes agree
pub first_some_same : {B : Type 0} (P : ℕ → Type 0) (f g : ℕ → Option B) (ps : List ℕ) → AllByRecursion P ps → ((p : ℕ) → P p → f p ≡ g p) → first_some f ps ≡ first_some g ps
first_some_same P f g [] all same = refl
first_some_same P f g (p ∷ ps) all same = ap (λ o. option_or o (first_some f ps)) (same p all.0) ∙ ap (option_or (g p)) (first_some_same P f g ps all.1 same)

-- two searches that agree everywhere agree
pub first_some_equal : {B : Type 0} (f g : ℕ → Option B) (ps : List ℕ) → ((p : ℕ) → f p ≡ g p) → first_some f ps ≡ first_some g ps
first_some_equal f g [] same = refl
first_some_equal f g (p ∷ ps) same = ap (λ o. option_or o (first_some f ps)) (same p) ∙ ap (option_or (g p)) (first_some_equal f g ps same)

-- a search that finds something finds it at one of these classes
pub first_some_where : {B : Type 0} (P : ℕ → Type 0) (f : ℕ → Option B) (ps : List ℕ) → AllByRecursion P ps → IsSome (first_some f ps) → (p : ℕ) × P p × IsSome (f p)
first_some_where P f [] all s = absurd (true≢false (sym s))
first_some_where P f (p ∷ ps) all s = elim (option_or_cases (f p) (first_some f ps) s) [ inl h ↦ (p, all.0, h) | inr h ↦ first_some_where P f ps all.1 h ]

pub row_cell_same : {C : Type 0} (P : ℕ → Type 0) (f g : ℕ → Option C) (c : ℕ) (t : ℕ × ℕ) (a : Added C) → AllByRecursion P a.parents → ((p : ℕ) → P p → f p ≡ g p) → row_cell f c t a ≡ row_cell g c t a
row_cell_same P f g c t a all same = ap (λ o. option_or (replaced_at a.replaced t) (option_or (own_at c a.introduced t) o)) (first_some_same P f g a.parents all same)

class_same : {C : Type 0} (cs : List (Option (Added C))) → ParentsComeFirst cs → (f g : ℕ → Option C) (c : ℕ) (t : ℕ × ℕ) → ((p : ℕ) → (p < c) × HasRow cs p → f p ≡ g p) →
    (o : Option (Added C)) → row_at cs c ≡ o → option_and_then (row_cell f c t) o ≡ option_and_then (row_cell g c t) o
class_same cs order f g c t same None is = refl
class_same cs order f g c t same (Some a) is = row_cell_same (λ p. (p < c) × HasRow cs p) f g c t a (order c a is) same

-- more levels than the class's number change nothing
within_stable : {C : Type 0} (cs : List (Option (Added C))) (t : ℕ × ℕ) → ParentsComeFirst cs → (n m c : ℕ) → c < n → c < m → inherited_within cs t n c ≡ inherited_within cs t m c
within_stable cs t order zero m c h k = absurd (omega arith)
within_stable cs t order (suc n) zero c h k = absurd (omega arith)
within_stable cs t order (suc n) (suc m) c h k =
    class_same cs order (inherited_within cs t n) (inherited_within cs t m) c t (λ p there. let lt = there.0 in let a : p < n = omega arith in let b : p < m = omega arith in within_stable cs t order n m p a b) (row_at cs c) refl

-- `inherited`, one class deep
pub inherited_is : {C : Type 0} (cs : List (Option (Added C))) → ParentsComeFirst cs → (c : ℕ) (t : ℕ × ℕ) → inherited cs c t ≡ option_and_then (row_cell (λ p. inherited cs p t) c t) (row_at cs c)
unfolding inherited
inherited_is cs order c t =
    class_same cs order (inherited_within cs t c) (λ p. inherited_within cs t (suc p) p) c t (λ p there. within_stable cs t order c (suc p) p there.0 (omega arith)) (row_at cs c) refl

-- a class without a row has no cell
pub inherited_none : {C : Type 0} (cs : List (Option (Added C))) (c : ℕ) (t : ℕ × ℕ) → row_at cs c ≡ None → inherited cs c t ≡ None
unfolding inherited
inherited_none cs c t none = ap (option_and_then (row_cell (inherited_within cs t c) c t)) none

row_of_token : {C : Type 0} (cs : List (Option (Added C))) (c : ℕ) (t : ℕ × ℕ) (o : Option (Added C)) → row_at cs c ≡ o → HasToken cs c t → IsSome o
row_of_token cs c t None none h = absurd (none_is_not_some (inherited cs c t) (inherited_none cs c t none) h)
row_of_token cs c t (Some a) is h = refl

-- a class that has a token has a row
pub HasToken_row : {C : Type 0} (cs : List (Option (Added C))) (c : ℕ) (t : ℕ × ℕ) → HasToken cs c t → HasRow cs c
HasToken_row cs c t h = row_of_token cs c t (row_at cs c) refl h

row_equal : {C : Type 0} (f g : ℕ → Option C) (c : ℕ) (t : ℕ × ℕ) (o : Option (Added C)) → ((p : ℕ) → f p ≡ g p) → option_and_then (row_cell f c t) o ≡ option_and_then (row_cell g c t) o
row_equal f g c t None same = refl
row_equal f g c t (Some a) same = ap (λ o. option_or (replaced_at a.replaced t) (option_or (own_at c a.introduced t) o)) (first_some_equal f g a.parents same)

within_equal : {C : Type 0} (cs ds : List (Option (Added C))) (t : ℕ × ℕ) → ((c : ℕ) → row_at ds c ≡ row_at cs c) → (n c : ℕ) → inherited_within ds t n c ≡ inherited_within cs t n c
within_equal cs ds t same zero c = refl
within_equal cs ds t same (suc n) c = ap (option_and_then (row_cell (inherited_within ds t n) c t)) (same c) ∙ row_equal (inherited_within ds t n) (inherited_within cs t n) c t (row_at cs c) (within_equal cs ds t same n)

-- tables with the same rows have the same cells
pub inherited_equal : {C : Type 0} (cs ds : List (Option (Added C))) → ((c : ℕ) → row_at ds c ≡ row_at cs c) → (c : ℕ) (t : ℕ × ℕ) → inherited ds c t ≡ inherited cs c t
unfolding inherited
inherited_equal cs ds same c t = within_equal cs ds t same (suc c) c

pub HaveRowsBelow_equal : {C : Type 0} (cs ds : List (Option (Added C))) → ((c : ℕ) → row_at ds c ≡ row_at cs c) → (n : ℕ) (ps : List ℕ) → HaveRowsBelow n cs ps → HaveRowsBelow n ds ps
HaveRowsBelow_equal cs ds same n [] all = tt
HaveRowsBelow_equal cs ds same n (p ∷ ps) all = ((all.0.0, subst (λ o. IsSome o) (sym (same p)) all.0.1), HaveRowsBelow_equal cs ds same n ps all.1)

pub AreInherited_equal : {C : Type 0} (cs ds : List (Option (Added C))) → ((c : ℕ) → row_at ds c ≡ row_at cs c) → (ps : List ℕ) (rs : List ((ℕ × ℕ) × C)) → AreInherited cs ps rs → AreInherited ds ps rs
AreInherited_equal cs ds same ps [] all = tt
AreInherited_equal cs ds same ps (r ∷ rs) all =
    (subst (λ o. IsSome o) (sym (first_some_equal (λ p. inherited ds p r.0) (λ p. inherited cs p r.0) ps (λ p. inherited_equal cs ds same p r.0))) all.0, AreInherited_equal cs ds same ps rs all.1)

-- class n, which had no row, has this one, and nothing else changed
pub record Filled {C : Type 0} (cs ds : List (Option (Added C))) (n : ℕ) (a : Added C) : Type 0 where
  pub was : row_at cs n ≡ None
  pub is : row_at ds n ≡ Some a
  pub others : (c : ℕ) → c ≢ n → row_at ds c ≡ row_at cs c

module _ {C : Type 0} (cs ds : List (Option (Added C))) (n : ℕ) (a : Added C) (order : ParentsComeFirst cs) (filled : Filled cs ds n a) where
  -- what had a row is another class
  pub another : (p : ℕ) → HasRow cs p → p ≢ n
  another p has e = none_is_not_some (row_at cs p) (ap (row_at cs) e ∙ filled.was) has

  within_filled : (t : ℕ × ℕ) (m c : ℕ) → c ≢ n → inherited_within ds t m c ≡ inherited_within cs t m c
  within_filled t zero c ne = refl
  within_filled t (suc m) c ne = ap (option_and_then (row_cell (inherited_within ds t m) c t)) (filled.others c ne)
      ∙ class_same cs order (inherited_within ds t m) (inherited_within cs t m) c t (λ p there. within_filled t m p (another p there.1)) (row_at cs c) refl

  -- the rows of the other classes are as before
  pub inherited_others : KeepsOtherRows cs ds n
  unfolding inherited
  inherited_others c ne t = within_filled t (suc c) c ne

  HasRow_filled : (p : ℕ) → HasRow cs p → HasRow ds p
  HasRow_filled p has = subst (λ o. IsSome o) (sym (filled.others p (another p has))) has

  HaveRowsBelow_filled : (m : ℕ) (ps : List ℕ) → HaveRowsBelow m cs ps → HaveRowsBelow m ds ps
  HaveRowsBelow_filled m [] all = tt
  HaveRowsBelow_filled m (p ∷ ps) all = ((all.0.0, HasRow_filled p all.0.1), HaveRowsBelow_filled m ps all.1)

  module _ (below : HaveRowsBelow n cs a.parents) where
    pub order_filled : ParentsComeFirst ds
    order_filled c x is = elim (cases_eq c n) [
      | inl e ↦ (let same : a ≡ x = (let two : Some a ≡ Some x = sym filled.is ∙ ap (row_at ds) (sym e) ∙ is in cc) in
          subst (λ (y : Added C). HaveRowsBelow c ds y.parents) same (subst (λ i. HaveRowsBelow i ds a.parents) (sym e) (HaveRowsBelow_filled n a.parents below)))
      | inr ne ↦ HaveRowsBelow_filled c x.parents (order c x (sym (filled.others c ne) ∙ is))
    ]

    -- the row of the class, by those of its parents
    pub inherited_filled : GivesRow cs ds n a
    inherited_filled t = inherited_is ds order_filled n t
        ∙ ap (option_and_then (row_cell (λ p. inherited ds p t) n t)) filled.is
        ∙ row_cell_same (λ p. (p < n) × HasRow cs p) (λ p. inherited ds p t) (λ p. inherited cs p t) n t a below (λ p there. inherited_others p (another p there.1) t)

same_token_true : (s t : ℕ × ℕ) → same_token s t ≡ true → s ≡ t
same_token_true s t e = let h = and_parts (s.0 == t.0) (s.1 == t.1) e in ap (λ a. (a, s.1)) (eqb-true s.0 t.0 h.0) ∙ ap (λ b. (t.0, b)) (eqb-true s.1 t.1 h.1)

replaced_step : {C : Type 0} (cs : List (Option (Added C))) (ps : List ℕ) (r : (ℕ × ℕ) × C) (rs : List ((ℕ × ℕ) × C)) (t : ℕ × ℕ) (b : Bool) → same_token r.0 t ≡ b → SomeHasToken cs ps r.0
    → (IsSome (replaced_at rs t) → SomeHasToken cs ps t) → IsSome (if b then Some r.1 else replaced_at rs t) → SomeHasToken cs ps t
replaced_step cs ps r rs t true e known rest s = subst (λ (u : ℕ × ℕ). SomeHasToken cs ps u) (same_token_true r.0 t e) known
replaced_step cs ps r rs t false e known rest s = rest s

-- a token that is replaced is in some parent's row
pub replaced_inherited : {C : Type 0} (cs : List (Option (Added C))) (ps : List ℕ) (rs : List ((ℕ × ℕ) × C)) (t : ℕ × ℕ) → AreInherited cs ps rs → IsSome (replaced_at rs t) → SomeHasToken cs ps t
replaced_inherited cs ps [] t known s = absurd (true≢false (sym s))
replaced_inherited cs ps (r ∷ rs) t known s = replaced_step cs ps r rs t (same_token r.0 t) refl known.0 (replaced_inherited cs ps rs t known.1) s

own_within : {C : Type 0} (c : ℕ) (xs : List C) (t : ℕ × ℕ) (b : Bool) → (t.0 == c) ≡ b → IsSome (if b then slice_get xs t.1 else None) → (t.0 ≡ c) × (t.1 < length xs)
own_within c xs t true e s = (eqb-true t.0 c e, elim (cases_lt t.1 (length xs)) [ inl lt ↦ lt | inr le ↦ absurd (none_is_not_some (slice_get xs t.1) (slice_get_past xs t.1 le) s) ])
own_within c xs t false e s = absurd (true≢false (sym s))

-- a token with an own cell is one of the class's own
pub own_at_within : {C : Type 0} (c : ℕ) (xs : List C) (t : ℕ × ℕ) → IsSome (own_at c xs t) → (t.0 ≡ c) × (t.1 < length xs)
own_at_within c xs t s = own_within c xs t (t.0 == c) refl s

pub own_at-same : {C : Type 0} (c : ℕ) (xs : List C) (p : ℕ) → own_at c xs (c, p) ≡ slice_get xs p
own_at-same c xs p = let e : (c == c) ≡ true = eq-eqb c c refl in rw e refl

pub own_at-other : {C : Type 0} (c a : ℕ) (xs : List C) (p : ℕ) → a ≢ c → own_at c xs (a, p) ≡ None
own_at-other c a xs p ne = let e : (a == c) ≡ false = ne_eqb a c ne in rw e refl

-- a row has the tokens of its parents' rows and its own, and no other
pub tokens_from_row : {C : Type 0} (cs ds : List (Option (Added C))) (n : ℕ) (a : Added C) → AreInherited cs a.parents a.replaced → GivesRow cs ds n a → GivesTokens cs ds n a
tokens_from_row cs ds n a known gives t =
    let row = gives t in (
      λ h. elim (option_or_cases _ _ (subst (λ o. IsSome o) row h)) [
        | inl replaced ↦ inl (replaced_inherited cs a.parents a.replaced t known replaced)
        | inr rest ↦ elim (option_or_cases _ _ rest) [ inl own ↦ inr own | inr above ↦ inl above ]
      ],
      λ s. subst (λ o. IsSome o) (sym row) (option_or_right (replaced_at a.replaced t) _ (elim s [
        | inl above ↦ option_or_right (own_at n a.introduced t) _ above
        | inr own ↦ option_or_left (own_at n a.introduced t) _ own
      ])),
    )
