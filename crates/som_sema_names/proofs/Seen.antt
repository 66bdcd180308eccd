-- Names that are gathered with their places, one after the other.
use Rattle.std.proofs.Common.{◌≡◌, ℕ, zero, suc, ◌+◌, ◌<◌, ◌≤◌, ◌==◌, inl, inr, Bool, true, false, not, if◌then◌else◌, List, [], ◌∷◌, ◌++◌, length, take, slice_index_or, slice_set, Result, Ok, Err, OnOk, refl, sym, ap, ◌∙◌, subst, arith, length-append, true≢false}
use Rattle.std.proofs.lemmas.Bool.{cases_eq, cases_lt, eqb-true}
use Rattle.std.proofs.lemmas.List.{append-nil, append_assoc, get_or-set_same, get_or-set_other, length-set, take_all, map-append}
use Rattle.std.proofs.Math.ListN.{get_or-append}
use Rattle.std.proofs.Math.Seq.{get_or-append_seam}
use Rattle.std.specs.Str.{bytes_eq}
use Rattle.som_model.specs.Class.{Class, introduced}
use Rattle.som_model.specs.declared.class.Entry.{Entry}
use Rattle.som_model.specs.declared.class.Sig.{Sig}
use Rattle.som_model.specs.declared.class.Way.{Way}
use Rattle.som_model.specs.declared.class.Entry.TheVariants as entries
use Rattle.som_model.specs.Lists.{Mem, among}
use Rattle.som_model.proofs.KeyLaws.{exact_bytes, exact_numbers}
use Rattle.som_model_laws.proofs.Members.{both_or_none}
use Rattle.som_order.specs.Names.{name_at}
use Rattle.som_verify_classes.specs.Along.{introduced_at}
use Rattle.som_verify_classes.specs.Places.{face_at}
use Rattle.som_verify_classes.proofs.Doubled.{take_last}
use Rattle.som_sema_names.specs.Introducers.{AreGathered, AreSeen, At, at_first, at_one, introduces, places_of, stands}

-- ---- the places of a name

before_last : (k : Bool) (x : ℕ) (more less last : List ℕ) → more ≡ less ++ last → (if k then x ∷ more else more) ≡ (if k then x ∷ less else less) ++ last
before_last true x more less last e = ap (λ z. x ∷ z) e
before_last false x more less last e = e

places_both : (seen more : List At) (name : List ℕ) → places_of (seen ++ more) name ≡ places_of seen name ++ places_of more name
places_both [] more name = refl
places_both (a ∷ seen) more name = before_last (bytes_eq a.name name) a.place (places_of (seen ++ more) name) (places_of seen name) (places_of more name) (places_both seen more name)

places_same : (seen : List At) (a : At) (name : List ℕ) → name ≡ a.name → places_of (seen ++ a ∷ []) name ≡ places_of seen name ++ a.place ∷ []
places_same seen a name e = places_both seen (a ∷ []) name ∙ ap (λ (k : Bool). places_of seen name ++ (if k then a.place ∷ [] else [])) (ap (bytes_eq a.name) e ∙ exact_bytes.one a.name)

places_else : (seen : List At) (a : At) (name : List ℕ) → (a.name ≡ name → ⊥) → places_of (seen ++ a ∷ []) name ≡ places_of seen name
places_else seen a name no_ = places_both seen (a ∷ []) name ∙ by (bytes_eq a.name name) refl
  where
    by : (k : Bool) → bytes_eq a.name name ≡ k → places_of seen name ++ (if k then a.place ∷ [] else []) ≡ places_of seen name
    by true e = absurd (no_ (exact_bytes.two a.name name e))
    by false e = append-nil (places_of seen name)

-- ---- names

or_false : (b c : Bool) → (if b then true else c) ≡ false → (b ≡ false) × (c ≡ false)
or_false true c e = cc
or_false false c e = (refl, e)

not_among : (names : List (List ℕ)) (x : List ℕ) (i : ℕ) → among x names ≡ false → i < length names → name_at names i ≡ x → ⊥
not_among [] x i e lt f = omega arith
not_among (n ∷ names) x zero e lt f = true≢false (sym (exact_bytes.one x) ∙ ap (bytes_eq x) (sym f) ∙ (or_false (bytes_eq x n) (among x names) e).0)
not_among (n ∷ names) x (suc i) e lt f = not_among names x i (or_false (bytes_eq x n) (among x names) e).1 (omega arith) f

not_last : (names : List (List ℕ)) (x name : List ℕ) → among name (names ++ x ∷ []) ≡ false → (among name names ≡ false) × (x ≡ name → ⊥)
not_last [] x name e = (refl, λ same. true≢false (sym (exact_bytes.one name) ∙ ap (bytes_eq name) (sym same) ∙ (or_false (bytes_eq name x) false e).0))
not_last (n ∷ names) x name e =
    let r = or_false (bytes_eq name n) (among name (names ++ x ∷ [])) e in
    let more = not_last names x name r.1 in
    (ap (λ (b : Bool). if b then true else among name names) r.0 ∙ more.0, more.1)

-- ---- one more

pub seen_none : AreSeen [] [] []
seen_none = record { long = refl; apart = λ i j li lj e. absurd (omega arith); found = λ i lt. absurd (omega arith); other = λ name e. refl }

-- a place more of a name that has some
seen_more : (seen : List At) (a : At) (names : List (List ℕ)) (places : List (List ℕ)) (p : ℕ) → AreSeen seen names places → p < length names → name_at names p ≡ a.name
    → AreSeen (seen ++ a ∷ []) names (slice_set places p (slice_index_or places p [] ++ a.place ∷ []))
seen_more seen a names places p g lt at = record {
  long = length-set places p (slice_index_or places p [] ++ a.place ∷ []) ∙ g.long;
  apart = g.apart;
  found = λ i within. elim (cases_eq i p) [
    | inl same ↦ (
        ap (λ j. slice_index_or (slice_set places p (slice_index_or places p [] ++ a.place ∷ [])) j []) same
        ∙ get_or-set_same places p (slice_index_or places p [] ++ a.place ∷ []) [] (omega (arith, lt, g.long))
        ∙ ap (λ z. z ++ a.place ∷ []) (g.found p lt)
        ∙ sym (places_same seen a (name_at names p) at)
        ∙ ap (λ j. places_of (seen ++ a ∷ []) (name_at names j)) (sym same))
    | inr ne ↦ (
        get_or-set_other places p i (slice_index_or places p [] ++ a.place ∷ []) [] ne
        ∙ g.found i within
        ∙ sym (places_else seen a (name_at names i) (λ e. ne (g.apart i p within lt (sym e ∙ sym at)))))
  ];
  other = λ name out. places_else seen a name (λ e. not_among names name p out lt (at ∙ e)) ∙ g.other name out;
}

-- the place of a name that had none
seen_new : (seen : List At) (a : At) (names : List (List ℕ)) (places : List (List ℕ)) → AreSeen seen names places
    → among a.name names ≡ false → AreSeen (seen ++ a ∷ []) (names ++ a.name ∷ []) (places ++ (a.place ∷ []) ∷ [])
seen_new seen a names places g new = record {
  long = omega (arith, g.long, length-append names (a.name ∷ []), length-append places ((a.place ∷ []) ∷ []));
  apart = λ i j li lj same.
      let long = length-append names (a.name ∷ []) in
      elim (cases_lt i (length names)) [
        | inl wi ↦ elim (cases_lt j (length names)) [
          | inl wj ↦ g.apart i j wi wj (sym (get_or-append names (a.name ∷ []) [] i wi) ∙ same ∙ get_or-append names (a.name ∷ []) [] j wj)
          | inr gj ↦ (let ej : j ≡ length names = omega (arith, long) in
              absurd (not_among names a.name i new wi (sym (get_or-append names (a.name ∷ []) [] i wi) ∙ same ∙ ap (name_at (names ++ a.name ∷ [])) ej ∙ get_or-append_seam names a.name [] [])))
        ]
        | inr gi ↦ elim (cases_lt j (length names)) [
          | inl wj ↦ (let ei : i ≡ length names = omega (arith, long) in
              absurd (not_among names a.name j new wj (sym (get_or-append names (a.name ∷ []) [] j wj) ∙ sym same ∙ ap (name_at (names ++ a.name ∷ [])) ei ∙ get_or-append_seam names a.name [] [])))
          | inr gj ↦ omega (arith, long)
        ]
      ];
  found = λ i lt. elim (cases_lt i (length names)) [
    | inl wi ↦ (
        get_or-append places ((a.place ∷ []) ∷ []) [] i (omega (arith, wi, g.long))
        ∙ g.found i wi
        ∙ sym (places_else seen a (name_at names i) (λ e. not_among names a.name i new wi (sym e)))
        ∙ ap (places_of (seen ++ a ∷ [])) (sym (get_or-append names (a.name ∷ []) [] i wi)))
    | inr gi ↦ (
        let here : i ≡ length names = omega (arith, gi, lt, length-append names (a.name ∷ [])) in
        let there : i ≡ length places = omega (arith, here, g.long) in
        ap (λ j. slice_index_or (places ++ (a.place ∷ []) ∷ []) j []) there
        ∙ get_or-append_seam places (a.place ∷ []) [] []
        ∙ ap (λ z. z ++ a.place ∷ []) (sym (g.other a.name new))
        ∙ sym (places_same seen a a.name refl)
        ∙ ap (places_of (seen ++ a ∷ [])) (sym (get_or-append_seam names a.name [] []))
        ∙ ap (λ j. places_of (seen ++ a ∷ []) (name_at (names ++ a.name ∷ []) j)) (sym here))
  ];
  other = λ name out. let r = not_last names a.name name out in places_else seen a name r.1 ∙ g.other name r.0;
}

-- ---- as the code has them

pub on_ok : {A E : Type 0} {P Q : Type 0} (r : Result A E) → OnOk r P → (P → Q) → OnOk r Q
on_ok (Ok x) p f = f p
on_ok (Err e) p f = p

pub placed : (seen : List At) (x : List ℕ) (q : ℕ) (names : List (List ℕ)) (places after : List (List ℕ)) (p : ℕ) → AreSeen seen names places
    → p < length names → name_at names p ≡ x → after ≡ slice_set places p (slice_index_or places p [] ++ q ∷ []) → AreSeen (seen ++ record { name = x; place = q } ∷ []) names after
placed seen x q names places after p g lt at made =
    subst (AreSeen (seen ++ record { name = x; place = q } ∷ []) names) (sym made) (seen_more seen (record { name = x; place = q }) names places p g lt at)

noted : (is_new : Bool) (x : List ℕ) (names known : List (List ℕ)) → among x names ≡ false → is_new ≡ not (among x names) → known ≡ (if is_new then names ++ x ∷ [] else names) → known ≡ names ++ x ∷ []
noted is_new x names known out new kept = kept ∙ ap (λ (b : Bool). if b then names ++ x ∷ [] else names) (new ∙ ap not out)

pub new_name : (seen : List At) (x : List ℕ) (q : ℕ) (names known : List (List ℕ)) (places after : List (List ℕ)) (is_new : Bool) → AreSeen seen names places
    → among x names ≡ false → is_new ≡ not (among x names) → known ≡ (if is_new then names ++ x ∷ [] else names) → after ≡ places ++ (q ∷ []) ∷ []
    → AreSeen (seen ++ record { name = x; place = q } ∷ []) known after
new_name seen x q names known places after is_new g out new kept made =
    let a : At = record { name = x; place = q } in
    subst (λ z. AreSeen (seen ++ a ∷ []) z after) (sym (noted is_new x names known out new kept))
    (subst (AreSeen (seen ++ a ∷ []) (names ++ x ∷ [])) (sym made) (seen_new seen a names places g out))

introduced_both : (es others : List Entry) → introduced (es ++ others) ≡ introduced es ++ introduced others
introduced_both [] others = refl
introduced_both (entries.Introduced name sig way ∷ es) others = ap (λ z. name ∷ z) (introduced_both es others)
introduced_both (entries.Moved name to ∷ es) others = introduced_both es others

pub not_introduced : (e : Entry) → ((name : List ℕ) (sig : Sig) (way : Way) → e ≡ entries.Introduced name sig way → ⊥) → introduced (e ∷ []) ≡ []
not_introduced (entries.Introduced name sig way) f = absurd (f name sig way refl)
not_introduced (entries.Moved name to) f = refl

-- one entry more of a class
entry_more : (seen : List At) (place : ℕ) (es : List Entry) (i : ℕ) (e d : Entry) → i < length es → e ≡ slice_index_or es i d
    → (seen ++ at_one place (introduced (take i es))) ++ at_one place (introduced (e ∷ [])) ≡ seen ++ at_one place (introduced (take (i + 1) es))
entry_more seen place es i e d lt is =
    append_assoc seen (at_one place (introduced (take i es))) (at_one place (introduced (e ∷ [])))
    ∙ ap (λ z. seen ++ z) (
    sym (map-append (λ (name : List ℕ). record { name = name; place = place }) (introduced (take i es)) (introduced (e ∷ [])))
    ∙ ap (at_one place) (sym (introduced_both (take i es) (e ∷ [])) ∙ ap introduced (ap (λ x. take i es ++ x ∷ []) is ∙ sym (take_last es i d lt))))

pub entry_new : (seen : List At) (place : ℕ) (es : List Entry) (i : ℕ) (e d : Entry) (x name : List ℕ) (names : List (List ℕ)) (places : List (List ℕ)) → i < length es → e ≡ slice_index_or es i d
    → introduced (e ∷ []) ≡ name ∷ [] → x ≡ name → AreSeen ((seen ++ at_one place (introduced (take i es))) ++ record { name = x; place = place } ∷ []) names places
    → AreSeen (seen ++ at_one place (introduced (take (i + 1) es))) names places
entry_new seen place es i e d x name names places lt is one same g =
    subst (λ z. AreSeen z names places) (entry_more seen place es i e d lt is)
    (subst (λ z. AreSeen ((seen ++ at_one place (introduced (take i es))) ++ at_one place z) names places) (ap (λ z. z ∷ []) same ∙ sym one) g)

pub entry_old : (seen : List At) (place : ℕ) (es : List Entry) (i : ℕ) (e d : Entry) (names : List (List ℕ)) (places : List (List ℕ)) → i < length es → e ≡ slice_index_or es i d
    → introduced (e ∷ []) ≡ [] → AreSeen (seen ++ at_one place (introduced (take i es))) names places
    → AreSeen (seen ++ at_one place (introduced (take (i + 1) es))) names places
entry_old seen place es i e d names places lt is none g =
    subst (λ z. AreSeen z names places) (
    sym (append-nil (seen ++ at_one place (introduced (take i es))))
    ∙ ap (λ z. (seen ++ at_one place (introduced (take i es))) ++ at_one place z) (sym none)
    ∙ entry_more seen place es i e d lt is) g

pub entries_first : (seen : List At) (place : ℕ) (es : List Entry) (names : List (List ℕ)) (places : List (List ℕ)) → AreSeen seen names places → AreSeen (seen ++ at_one place (introduced (take 0 es))) names places
entries_first seen place es names places g = subst (λ z. AreSeen z names places) (sym (append-nil seen)) g

pub entries_end : (seen : List At) (place : ℕ) (es : List Entry) (i : ℕ) (names : List (List ℕ)) (places : List (List ℕ)) → length es ≤ i → AreSeen (seen ++ at_one place (introduced (take i es))) names places
    → AreSeen (seen ++ at_one place (introduced es)) names places
entries_end seen place es i names places le g = subst (λ z. AreSeen (seen ++ at_one place (introduced z)) names places) (take_all i es le) g

-- the classes up to the next
pub class_more : (cs : List Class) (place : ℕ) (es : List Entry) (names : List (List ℕ)) (places : List (List ℕ)) → es ≡ (face_at cs place).entries
    → AreSeen (at_first cs place ++ at_one place (introduced es)) names places → AreSeen (at_first cs (place + 1)) names places
class_more cs place es names places is g =
    let next : suc place ≡ place + 1 = omega arith in
    subst (λ n. AreSeen (at_first cs n) names places) next
    (subst (λ z. AreSeen (at_first cs place ++ at_one place (introduced z)) names places) is g)

-- ---- the classes that introduce a name

pub stands_both : (p : ℕ) (xs ys : List ℕ) → stands p (xs ++ ys) ≡ (if stands p xs then true else stands p ys)
stands_both p [] ys = refl
stands_both p (x ∷ xs) ys = ap (λ (b : Bool). if p == x then true else b) (stands_both p xs ys) ∙ by (p == x) (stands p xs) (stands p ys)
  where
    by : (b c d : Bool) → (if b then true else (if c then true else d)) ≡ (if (if b then true else c) then true else d)
    by true c d = refl
    by false c d = refl

bytes_swap : (x y : List ℕ) → bytes_eq x y ≡ bytes_eq y x
bytes_swap x y = both_or_none (bytes_eq x y) (bytes_eq y x)
    (λ e. ap (bytes_eq y) (exact_bytes.two x y e) ∙ exact_bytes.one y)
    (λ e. ap (bytes_eq x) (exact_bytes.two y x e) ∙ exact_bytes.one x)

stands_here : (n : ℕ) (names : List (List ℕ)) (name : List ℕ) → stands n (places_of (at_one n names) name) ≡ among name names
stands_here n [] name = refl
stands_here n (x ∷ names) name = by (bytes_eq x name) (stands_here n names name) ∙ ap (λ (b : Bool). if b then true else among name names) (bytes_swap x name)
  where
    by : (b : Bool) → stands n (places_of (at_one n names) name) ≡ among name names → stands n (if b then n ∷ places_of (at_one n names) name else places_of (at_one n names) name) ≡ (if b then true else among name names)
    by true r = ap (λ (b : Bool). if b then true else stands n (places_of (at_one n names) name)) (exact_numbers.one n)
    by false r = r

differ : (p n : ℕ) (b : Bool) → (p ≡ n → ⊥) → (p == n) ≡ b → (p == n) ≡ false
differ p n true ne e = absurd (ne (eqb-true p n e))
differ p n false ne e = e

stands_there : (p n : ℕ) (names : List (List ℕ)) (name : List ℕ) → (p ≡ n → ⊥) → stands p (places_of (at_one n names) name) ≡ false
stands_there p n [] name ne = refl
stands_there p n (x ∷ names) name ne = by (bytes_eq x name) (stands_there p n names name ne)
  where
    by : (b : Bool) → stands p (places_of (at_one n names) name) ≡ false → stands p (if b then n ∷ places_of (at_one n names) name else places_of (at_one n names) name) ≡ false
    by true r = ap (λ (b : Bool). if b then true else stands p (places_of (at_one n names) name)) (differ p n (p == n) ne refl) ∙ r
    by false r = r

or_none : (b : Bool) → (if b then true else false) ≡ b
or_none true = refl
or_none false = refl

module _ (cs : List Class) (name : List ℕ) where
  step : (n p : ℕ) → stands p (places_of (at_first cs (suc n)) name) ≡ (if stands p (places_of (at_first cs n) name) then true else stands p (places_of (at_one n (introduced_at cs n)) name))
  step n p = ap (stands p) (places_both (at_first cs n) (at_one n (introduced_at cs n)) name) ∙ stands_both p (places_of (at_first cs n) name) (places_of (at_one n (introduced_at cs n)) name)

  past : (n p : ℕ) → n ≤ p → stands p (places_of (at_first cs n) name) ≡ false
  past zero p le = refl
  past (suc n) p le =
      step n p
      ∙ ap (λ (b : Bool). if b then true else stands p (places_of (at_one n (introduced_at cs n)) name)) (past n p (omega arith))
      ∙ stands_there p n (introduced_at cs n) name (λ e. omega arith)

  here : (n : ℕ) → stands n (places_of (at_first cs (suc n)) name) ≡ introduces cs name n
  here n =
      step n n
      ∙ ap (λ (b : Bool). if b then true else stands n (places_of (at_one n (introduced_at cs n)) name)) (past n n (omega arith))
      ∙ stands_here n (introduced_at cs n) name

  below : (n p : ℕ) → p < n → stands p (places_of (at_first cs n) name) ≡ introduces cs name p
  below zero p lt = absurd (omega arith)
  below (suc n) p lt = elim (cases_eq p n) [
    | inl e ↦ (ap (λ q. stands q (places_of (at_first cs (suc n)) name)) e ∙ here n ∙ ap (introduces cs name) (sym e))
    | inr ne ↦ (let less : p < n = omega arith in
        step n p
        ∙ ap (λ (b : Bool). if stands p (places_of (at_first cs n) name) then true else b) (stands_there p n (introduced_at cs n) name ne)
        ∙ or_none (stands p (places_of (at_first cs n) name))
        ∙ below n p less)
  ]

pub mem_stands : (p : ℕ) (xs : List ℕ) → Mem p xs → stands p xs ≡ true
mem_stands p [] m = elim m [ ]
mem_stands p (x ∷ xs) (inl e) = ap (λ (b : Bool). if b then true else stands p xs) (ap (λ q. q == x) e ∙ exact_numbers.one x)
mem_stands p (x ∷ xs) (inr m) = by (p == x) (mem_stands p xs m)
  where
    by : (b : Bool) → stands p xs ≡ true → (if b then true else stands p xs) ≡ true
    by true e = refl
    by false e = e

pub gathered : (cs : List Class) (n : ℕ) (names : List (List ℕ)) (places : List (List ℕ)) → length cs ≤ n → n ≤ length cs → AreSeen (at_first cs n) names places → AreGathered cs names places
gathered cs n names places ge le g = record {
  long = g.long;
  low = λ i p lt m. elim (cases_lt p n) [
    | inl l ↦ omega (arith, l, le)
    | inr more ↦ absurd (true≢false (sym (mem_stands p (places_of (at_first cs n) (name_at names i)) (subst (Mem p) (g.found i lt) m)) ∙ past cs (name_at names i) n p more))
  ];
  found = λ i p lt l. ap (stands p) (g.found i lt) ∙ below cs (name_at names i) n p (omega (arith, l, ge));
  other = λ name p out l. sym (below cs name n p (omega (arith, l, ge))) ∙ ap (stands p) (g.other name out);
}
