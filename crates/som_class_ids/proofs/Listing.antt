-- The table of made classes, one class further.
use Rattle.std.proofs.Common.{◌≡◌, ℕ, zero, suc, ◌<◌, ◌≤◌, ◌⊎◌, inl, inr, Bool, true, false, cond, nat_eq, List, [], ◌∷◌, ◌++◌, length, Option, Some, None, slice_get, refl, sym, ap, ◌∙◌, subst, arith, eqb-true, eq-eqb, true≢false}
use Rattle.std.proofs.lemmas.Slice.Eq.{slice_eq-Decides}
use Rattle.std.specs.Cmp.Lexicographic.{pointwise}
use Rattle.std.specs.Bool.{Decides}
use Rattle.som_model.specs.Lists.{or_else}
use Rattle.std.specs.Option.{IfNone, IfSome}
use Rattle.som_class_ids.specs.declared.made_table.MadeTable.{MadeTable}
use Rattle.som_class_ids.specs.declared.position.Kind.{Kind}
use Rattle.som_class_ids.specs.declared.position.Kind.TheVariants as kinds
use Rattle.som_class_ids.specs.declared.position.Position.{Position}
use Rattle.som_class_ids.specs.Positions.{IsMade}
use Rattle.som_class_ids.specs.Made.{AreListed, TellsSame, found, found_made}
use Rattle.som_class_ids.proofs.Placing.{get_push}

tells_lists : (xs ys : List ℕ) → Decides (pointwise nat_eq xs ys) (xs ≡ ys)
tells_lists xs ys = slice_eq-Decides (λ a b. (eqb-true a b, eq-eqb a b)) xs ys (pointwise nat_eq xs ys) refl

same_lists : (xs ys : List ℕ) → (xs ≡ ys) ⊎ (xs ≡ ys → ⊥)
same_lists xs ys = by (pointwise nat_eq xs ys) refl
  where
    by : (b : Bool) → pointwise nat_eq xs ys ≡ b → (xs ≡ ys) ⊎ (xs ≡ ys → ⊥)
    by true e = inl ((tells_lists xs ys).0 e)
    by false e = inr (λ s. true≢false (sym ((tells_lists xs ys).1 s) ∙ e))

same_kinds : (a b : Kind) → (a ≡ b) ⊎ (a ≡ b → ⊥)
same_kinds kinds.Declared kinds.Declared = inl refl
same_kinds kinds.Declared kinds.Derived = inr (λ e. cc)
same_kinds kinds.Declared kinds.Proxy = inr (λ e. cc)
same_kinds kinds.Derived kinds.Declared = inr (λ e. cc)
same_kinds kinds.Derived kinds.Derived = inl refl
same_kinds kinds.Derived kinds.Proxy = inr (λ e. cc)
same_kinds kinds.Proxy kinds.Declared = inr (λ e. cc)
same_kinds kinds.Proxy kinds.Derived = inr (λ e. cc)
same_kinds kinds.Proxy kinds.Proxy = inl refl

same_making : (a b : Kind) (xs ys : List ℕ) → ((a ≡ b) × (xs ≡ ys)) ⊎ ((a ≡ b) × (xs ≡ ys) → ⊥)
same_making a b xs ys = elim (same_kinds a b) [
  | inl e ↦ elim (same_lists xs ys) [ inl f ↦ inl (e, f) | inr g ↦ inr (λ both. g both.1) ]
  | inr g ↦ inr (λ both. g both.0)
]

-- one entry more at the end

module _ {K : Type 0} (items : K → List ℕ) (k : K) (n : ℕ) where
  entry_end : (ps : List ℕ) (es : List (K × ℕ)) → found (es ++ (k, n) ∷ []) items ps ≡ or_else (found es items ps) (cond (pointwise nat_eq ps (items k)) (Some n) None)
  entry_end ps [] = refl
  entry_end ps (x ∷ es) = by (pointwise nat_eq ps (items x.0)) (entry_end ps es)
    where
      by : (b : Bool) → found (es ++ (k, n) ∷ []) items ps ≡ or_else (found es items ps) (cond (pointwise nat_eq ps (items k)) (Some n) None) → cond b (Some x.1) (found (es ++ (k, n) ∷ []) items ps) ≡ or_else (cond b (Some x.1) (found es items ps)) (cond (pointwise nat_eq ps (items k)) (Some n) None)
      by true so = refl
      by false so = so

  -- the new entry is found by its parents
  pub put_class : (es all : List (K × ℕ)) → all ≡ es ++ (k, n) ∷ [] → found es items (items k) ≡ None → found all items (items k) ≡ Some n
  put_class es all is none =
      ap (λ l. found l items (items k)) is ∙ entry_end (items k) es
      ∙ ap (λ o. or_else o (cond (pointwise nat_eq (items k) (items k)) (Some n) None)) none
      ∙ ap (λ b. cond b (Some n) None) ((tells_lists (items k) (items k)).1 refl)

  or_none : (o : Option ℕ) → or_else o None ≡ o
  or_none None = refl
  or_none (Some x) = refl

  -- and others as before
  pub put_others : (es all : List (K × ℕ)) → all ≡ es ++ (k, n) ∷ [] → (ps : List ℕ) → (ps ≡ items k → ⊥) → found all items ps ≡ found es items ps
  put_others es all is ps other =
      ap (λ l. found l items ps) is ∙ entry_end ps es ∙ by (pointwise nat_eq ps (items k)) refl
    where
      by : (b : Bool) → pointwise nat_eq ps (items k) ≡ b → or_else (found es items ps) (cond b (Some n) None) ≡ found es items ps
      by true e = absurd (other ((tells_lists ps (items k)).0 e))
      by false e = or_none (found es items ps)

-- what is listed

pub listed_same : (first : ℕ) (ps : List Position) (old new : MadeTable) → TellsSame old new → AreListed first ps old → AreListed first ps new
listed_same first ps old new same listed = record {
  sound = λ kind parents n e. listed.sound kind parents n (sym (same kind parents) ∙ e);
  all = λ kind parents n le made. same kind parents ∙ listed.all kind parents n le made;
}

get_left : {A : Type 0} (xs : List A) (y : A) (n : ℕ) (x : A) → slice_get xs n ≡ Some x → slice_get (xs ++ y ∷ []) n ≡ Some x
get_left [] y n x e = absurd (cc)
get_left (z ∷ xs) y zero x e = e
get_left (z ∷ xs) y (suc n) x e = get_left xs y n x e

get_end : {A : Type 0} (xs : List A) (y : A) → slice_get (xs ++ y ∷ []) (length xs) ≡ Some y
get_end [] y = refl
get_end (x ∷ xs) y = get_end xs y

made_left : (ps : List Position) (p : Position) (kind : Kind) (parents : List ℕ) (n : ℕ) → IsMade ps kind parents n → IsMade (ps ++ p ∷ []) kind parents n
made_left ps p kind parents n made = record { position = made.position; there = get_left ps p n made.position made.there; kind_is = made.kind_is; parents_are = made.parents_are }

module _ (first : ℕ) (ps : List Position) (p : Position) (old new : MadeTable) (le : first ≤ length ps) (listed : AreListed first ps old)
    (fresh : found_made old p.kind p.parents ≡ None) (class : found_made new p.kind p.parents ≡ Some (length ps))
    (others : (kind : Kind) (parents : List ℕ) → ((kind ≡ p.kind) × (parents ≡ p.parents) → ⊥) → found_made new kind parents ≡ found_made old kind parents) where
  sound_new : (kind : Kind) (parents : List ℕ) (n : ℕ) → found_made new kind parents ≡ Some n → (first ≤ n) × IsMade (ps ++ p ∷ []) kind parents n
  sound_new kind parents n e = elim (same_making kind p.kind parents p.parents) [
    | inl same ↦ (let is : Some (length ps) ≡ Some n = sym class ∙ ap (λ k. found_made new k p.parents) (sym same.0) ∙ ap (found_made new kind) (sym same.1) ∙ e in
        let at : length ps ≡ n = cc in
        subst (λ (i : ℕ). (first ≤ i) × IsMade (ps ++ p ∷ []) kind parents i) at (le, record { position = p; there = get_end ps p; kind_is = sym same.0; parents_are = sym same.1 }))
    | inr other ↦ (let r = listed.sound kind parents n (sym (others kind parents other) ∙ e) in (r.0, made_left ps p kind parents n r.1))
  ]

  all_new : (kind : Kind) (parents : List ℕ) (n : ℕ) → first ≤ n → IsMade (ps ++ p ∷ []) kind parents n → found_made new kind parents ≡ Some n
  all_new kind parents n low made = elim (get_push ps p made.position n made.there) [
    | inl there ↦ (let was = listed.all kind parents n low (record { position = made.position; there = there; kind_is = made.kind_is; parents_are = made.parents_are }) in
        elim (same_making kind p.kind parents p.parents) [
          | inl same ↦ (let none : found_made old kind parents ≡ None = ap (λ k. found_made old k parents) same.0 ∙ ap (found_made old p.kind) same.1 ∙ fresh in
              let two : Some n ≡ None = sym was ∙ none in cc)
          | inr other ↦ others kind parents other ∙ was
        ])
    | inr end ↦ (let kind_so : kind ≡ p.kind = sym made.kind_is ∙ ap (λ (z : Position). z.kind) (sym end.1) in
        let parents_so : parents ≡ p.parents = sym made.parents_are ∙ ap (λ (z : Position). z.parents) (sym end.1) in
        ap (λ k. found_made new k parents) kind_so ∙ ap (found_made new p.kind) parents_so ∙ class ∙ ap (λ i. Some i) (sym end.0))
  ]

  pub listed_more : AreListed first (ps ++ p ∷ []) new
  listed_more = record { sound = sound_new; all = all_new }

-- before any class is made
pub none_listed : (first : ℕ) (ps : List Position) (t : MadeTable) → length ps ≤ first → ((kind : Kind) (parents : List ℕ) → found_made t kind parents ≡ None) → AreListed first ps t
none_listed first ps t le none = record {
  sound = λ kind parents n e. (let two : None ≡ Some n = sym (none kind parents) ∙ e in absurd (cc));
  all = λ kind parents n low made. (let w = within ps n made.position made.there in absurd (omega (arith, le, low, w)));
}
  where
    within : (xs : List Position) (i : ℕ) (x : Position) → slice_get xs i ≡ Some x → i < length xs
    within [] i x e = absurd (cc)
    within (y ∷ xs) zero x e = omega arith
    within (y ∷ xs) (suc i) x e = let l = within xs i x e in omega (arith, l)

-- what the table answers

pub listed_some : (first : ℕ) (ps : List Position) (t : MadeTable) (kind : Kind) (parents : List ℕ) → AreListed first ps t → (o : Option ℕ) → o ≡ found_made t kind parents → IfSome o (λ n. (first ≤ n) × IsMade ps kind parents n)
listed_some first ps t kind parents listed None e = tt
listed_some first ps t kind parents listed (Some n) e = listed.sound kind parents n (sym e)

pub listed_none : (first : ℕ) (ps : List Position) (t : MadeTable) (kind : Kind) (parents : List ℕ) → AreListed first ps t → (o : Option ℕ) → o ≡ found_made t kind parents → IfNone o ((n : ℕ) → first ≤ n → IsMade ps kind parents n → ⊥)
listed_none first ps t kind parents listed None e = λ n le made. (let two : None ≡ Some n = e ∙ listed.all kind parents n le made in cc)
listed_none first ps t kind parents listed (Some n) e = tt

-- what isn't made has no entry
pub not_listed : (first : ℕ) (ps : List Position) (t : MadeTable) (kind : Kind) (parents : List ℕ) → AreListed first ps t → ((n : ℕ) → first ≤ n → IsMade ps kind parents n → ⊥) → found_made t kind parents ≡ None
not_listed first ps t kind parents listed none = by (found_made t kind parents) refl
  where
    by : (o : Option ℕ) → found_made t kind parents ≡ o → o ≡ None
    by None e = refl
    by (Some n) e = (let r = listed.sound kind parents n e in absurd (none n r.0 r.1))
