-- Tables of the first place of each name.
use Rattle.std.proofs.Common.{◌≡◌, ℕ, zero, suc, ◌+◌, ◌<◌, inl, inr, Bool, true, false, not, if◌then◌else◌, List, [], ◌∷◌, ◌++◌, length, take, slice_get, slice_index_or, Option, Some, None, is_some, refl, sym, ap, ◌∙◌, subst, arith, length-append, true≢false}
use Rattle.std.proofs.lemmas.Bool.{cases_lt}
use Rattle.std.proofs.lemmas.Option.{slice_get-get_or}
use Rattle.std.proofs.lemmas.List.{map-append}
use Rattle.std.specs.Str.{bytes_eq}
use Rattle.som_model.specs.Lists.{among, or_else}
use Rattle.som_model.specs.Class.{entry_name, entry_of}
use Rattle.som_model.specs.declared.class.Entry.{Entry}
use Rattle.som_model.proofs.KeyLaws.{exact_bytes}
use Rattle.som_order.specs.Names.{name_at}
use Rattle.som_model_laws.proofs.Members.{both_or_none}
use Rattle.som_verify_classes.proofs.Doubled.{take_last}
use Rattle.som_sema_names.specs.Noted.{At, Know, all_at, at, counted, first_place}
use Rattle.som_sema_names.specs.declared.places.Noted.{Noted}

pub bytes_swap : (x y : List ℕ) → bytes_eq x y ≡ bytes_eq y x
bytes_swap x y = both_or_none (bytes_eq x y) (bytes_eq y x)
    (λ e. ap (bytes_eq y) (exact_bytes.two x y e) ∙ exact_bytes.one y)
    (λ e. ap (bytes_eq x) (exact_bytes.two y x e) ∙ exact_bytes.one x)

if_some : {A : Type 0} (b : Bool) (x : A) (o r : Option A) → (if b then Some x else or_else o r) ≡ or_else (if b then Some x else o) r
if_some true x o r = refl
if_some false x o r = refl

pub place_both : (ps qs : List At) (name : List ℕ) → first_place (ps ++ qs) name ≡ or_else (first_place ps name) (first_place qs name)
place_both [] qs name = refl
place_both (p ∷ ps) qs name =
    ap (λ o. if bytes_eq name p.name then Some p.place else o) (place_both ps qs name)
    ∙ if_some (bytes_eq name p.name) p.place (first_place ps name) (first_place qs name)

pub at_front : {A : Type 0} (xs ys : List A) (i : ℕ) (d : A) → i < length xs → slice_index_or (xs ++ ys) i d ≡ slice_index_or xs i d
at_front [] ys i d lt = absurd (omega arith)
at_front (x ∷ xs) ys zero d lt = refl
at_front (x ∷ xs) ys (suc i) d lt = at_front xs ys i d (omega arith)

pub at_end : {A : Type 0} (xs ys : List A) (x d : A) → slice_index_or (xs ++ x ∷ ys) (length xs) d ≡ x
at_end [] ys x d = refl
at_end (z ∷ xs) ys x d = at_end xs ys x d

if_or : (b c : Bool) (r : Bool) → (if b then true else (if c then true else r)) ≡ (if (if b then true else c) then true else r)
if_or true c r = refl
if_or false c r = refl

among_last : (name x : List ℕ) (names : List (List ℕ)) → among name (names ++ x ∷ []) ≡ (if among name names then true else (if bytes_eq name x then true else false))
among_last name x [] = refl
among_last name x (n ∷ ns) =
    ap (λ b. if bytes_eq name n then true else b) (among_last name x ns)
    ∙ if_or (bytes_eq name n) (among name ns) (if bytes_eq name x then true else false)

some_or : (o : Option ℕ) (b : Bool) (p : ℕ) → is_some (or_else o (if b then Some p else None)) ≡ (if is_some o then true else (if b then true else false))
some_or None true p = refl
some_or None false p = refl
some_or (Some x) b p = refl

is_none : {A : Type 0} (o : Option A) → is_some o ≡ false → o ≡ None
is_none None e = refl
is_none (Some x) e = absurd (true≢false e)

or_some : {A : Type 0} (o r : Option A) (x : A) → o ≡ Some x → or_else o r ≡ Some x
or_some o r x e = rw e refl

-- a new name with its place
pub know_more : (ps : List At) (names : List (List ℕ)) (places : List ℕ) (x : List ℕ) (p : ℕ) → Know ps names places → among x names ≡ false
    → Know (ps ++ record { name = x; place = p } ∷ []) (names ++ x ∷ []) (places ++ p ∷ [])
know_more ps names places x p k new = record {
  long = omega (arith, length-append places (p ∷ []), length-append names (x ∷ []), k.long);
  found = λ i lt. elim (cases_lt i (length names)) [
    | inl l ↦ (let long : i < length places = omega (arith, k.long, l) in
        ap (first_place (ps ++ record { name = x; place = p } ∷ [])) (at_front names (x ∷ []) i [] l)
        ∙ place_both ps (record { name = x; place = p } ∷ []) (name_at names i)
        ∙ or_some (first_place ps (name_at names i)) _ (slice_index_or places i 0) (k.found i l)
        ∙ ap (λ z. Some z) (sym (at_front places (p ∷ []) i 0 long)))
    | inr ge ↦ (let here : i ≡ length names = omega (arith, ge, lt, length-append names (x ∷ [])) in
        let there : i ≡ length places = omega (arith, here, k.long) in
        ap (λ j. first_place (ps ++ record { name = x; place = p } ∷ []) (name_at (names ++ x ∷ []) j)) here
        ∙ ap (first_place (ps ++ record { name = x; place = p } ∷ [])) (at_end names [] x [])
        ∙ place_both ps (record { name = x; place = p } ∷ []) x
        ∙ ap (λ o. or_else o (if bytes_eq x x then Some p else None)) (is_none (first_place ps x) (sym (k.same x) ∙ new))
        ∙ ap (λ b. if b then Some p else None) (exact_bytes.one x)
        ∙ ap (λ z. Some z) (sym (at_end places [] p 0))
        ∙ ap (λ j. Some (slice_index_or (places ++ p ∷ []) j 0)) (sym there))
  ];
  same = λ name.
      among_last name x names
      ∙ ap (λ b. if b then true else (if bytes_eq name x then true else false)) (k.same name)
      ∙ sym (some_or (first_place ps name) (bytes_eq name x) p)
      ∙ ap is_some (sym (place_both ps (record { name = x; place = p } ∷ []) name));
}

again_by : (name x : List ℕ) (names : List (List ℕ)) (o : Option ℕ) (p : ℕ) (b : Bool) → bytes_eq name x ≡ b → among x names ≡ true → among name names ≡ is_some o
    → among name names ≡ is_some (or_else o (if b then Some p else None))
again_by name x names (Some y) p b e old s = s
again_by name x names None p true e old s = ap (λ z. among z names) (exact_bytes.two name x e) ∙ old
again_by name x names None p false e old s = s

-- a name that is known already
pub know_again : (ps : List At) (names : List (List ℕ)) (places : List ℕ) (x : List ℕ) (p : ℕ) → Know ps names places → among x names ≡ true
    → Know (ps ++ record { name = x; place = p } ∷ []) names places
know_again ps names places x p k old = record {
  long = k.long;
  found = λ i lt.
      place_both ps (record { name = x; place = p } ∷ []) (name_at names i)
      ∙ or_some (first_place ps (name_at names i)) _ (slice_index_or places i 0) (k.found i lt);
  same = λ name.
      again_by name x names (first_place ps name) p (bytes_eq name x) refl old (k.same name)
      ∙ ap is_some (sym (place_both ps (record { name = x; place = p } ∷ []) name));
}

pub know_none : Know [] [] []
know_none = record { long = refl; found = λ i lt. absurd (omega (arith, lt)); same = λ name. refl }

pub all_more : (all : List Noted) (i : ℕ) (d : Noted) → i < length all → all_at (take (i + 1) all) ≡ all_at (take i all) ++ at (slice_index_or all i d) ∷ []
all_more all i d lt = ap all_at (take_last all i d lt) ∙ map-append at (take i all) (slice_index_or all i d ∷ [])

known_by : (b : Bool) → true ≡ not b → b ≡ false
known_by true e = absurd (true≢false e)
known_by false e = refl

old_by : (b : Bool) → false ≡ not b → b ≡ true
old_by true e = refl
old_by false e = absurd (true≢false (sym e))

-- one name more
pub next_new : (all : List Noted) (i : ℕ) (d : Noted) (names seen : List (List ℕ)) (places : List ℕ) (is_new : Bool) → i < length all
    → is_new ≡ not (among (slice_index_or all i d).name.now names) → is_new ≡ true
    → seen ≡ (if is_new then names ++ (slice_index_or all i d).name.now ∷ [] else names)
    → Know (all_at (take i all)) names places → Know (all_at (take (i + 1) all)) seen (places ++ (slice_index_or all i d).place ∷ [])
next_new all i d names seen places is_new lt e new s k =
    let x = slice_index_or all i d in
    let more = know_more (all_at (take i all)) names places x.name.now x.place k (known_by (among x.name.now names) (sym new ∙ e)) in
    let grown : seen ≡ names ++ x.name.now ∷ [] = s ∙ ap (λ (b : Bool). if b then names ++ x.name.now ∷ [] else names) new in
    subst (λ (z : List (List ℕ)). Know (all_at (take (i + 1) all)) z (places ++ x.place ∷ [])) (sym grown)
    (subst (λ (z : List At). Know z (names ++ x.name.now ∷ []) (places ++ x.place ∷ [])) (sym (all_more all i d lt)) more)

pub next_old : (all : List Noted) (i : ℕ) (d : Noted) (names seen : List (List ℕ)) (places : List ℕ) (is_new : Bool) → i < length all
    → is_new ≡ not (among (slice_index_or all i d).name.now names) → is_new ≡ false
    → seen ≡ (if is_new then names ++ (slice_index_or all i d).name.now ∷ [] else names)
    → Know (all_at (take i all)) names places → Know (all_at (take (i + 1) all)) seen places
next_old all i d names seen places is_new lt e old s k =
    let x = slice_index_or all i d in
    let more = know_again (all_at (take i all)) names places x.name.now x.place k (old_by (among x.name.now names) (sym old ∙ e)) in
    let kept : seen ≡ names = s ∙ ap (λ (b : Bool). if b then names ++ x.name.now ∷ [] else names) old in
    subst (λ (z : List (List ℕ)). Know (all_at (take (i + 1) all)) z places) (sym kept)
    (subst (λ (z : List At). Know z names places) (sym (all_more all i d lt)) more)

next_by : (b : Bool) (all : List Noted) (i : ℕ) (d : Noted) (names seen : List (List ℕ)) (places kept : List ℕ) → i < length all
    → b ≡ not (among (slice_index_or all i d).name.now names)
    → seen ≡ (if b then names ++ (slice_index_or all i d).name.now ∷ [] else names)
    → kept ≡ (if b then places ++ (slice_index_or all i d).place ∷ [] else places)
    → Know (all_at (take i all)) names places → Know (all_at (take (i + 1) all)) seen kept
next_by true all i d names seen places kept lt e s p k =
    subst (λ (z : List ℕ). Know (all_at (take (i + 1) all)) seen z) (sym p) (next_new all i d names seen places true lt e refl s k)
next_by false all i d names seen places kept lt e s p k =
    subst (λ (z : List ℕ). Know (all_at (take (i + 1) all)) seen z) (sym p) (next_old all i d names seen places false lt e refl s k)

-- one name more, new or not
pub next_place : (all : List Noted) (i : ℕ) (d : Noted) (is_new : Bool) (names seen : List (List ℕ)) (places kept : List ℕ) → i < length all
    → is_new ≡ not (among (slice_index_or all i d).name.now names)
    → seen ≡ (if is_new then names ++ (slice_index_or all i d).name.now ∷ [] else names)
    → kept ≡ (if is_new then places ++ (slice_index_or all i d).place ∷ [] else places)
    → Know (all_at (take i all)) names places → Know (all_at (take (i + 1) all)) seen kept
next_place all i d is_new names seen places kept lt e s p k = next_by is_new all i d names seen places kept lt e s p k

-- what a table answers

pub known_none : (ps : List At) (names : List (List ℕ)) (places : List ℕ) (name : List ℕ) → Know ps names places → false ≡ among name names → None ≡ first_place ps name
known_none ps names places name k e = sym (is_none (first_place ps name) (sym (k.same name) ∙ sym e))

pub known_some : (ps : List At) (names : List (List ℕ)) (places : List ℕ) (name : List ℕ) (i : ℕ) → Know ps names places → i < length names → name_at names i ≡ name
    → slice_get places i ≡ first_place ps name
known_some ps names places name i k lt e =
    let long : i < length places = omega (arith, k.long, lt) in
    slice_get-get_or places i 0 long ∙ sym (k.found i lt) ∙ ap (first_place ps) e

-- entries by their places

pub counted_none : (n : ℕ) (es : List Entry) (name : List ℕ) → first_place (counted n es) name ≡ None → entry_of es name ≡ None
counted_none n [] name e = refl
counted_none n (x ∷ es) name e = by (bytes_eq name (entry_name x)) (bytes_swap name (entry_name x)) (counted_none (suc n) es name) e
  where
    by : (b : Bool) → b ≡ bytes_eq (entry_name x) name → (first_place (counted (suc n) es) name ≡ None → entry_of es name ≡ None)
        → (if b then Some n else first_place (counted (suc n) es) name) ≡ None → entry_of (x ∷ es) name ≡ None
    by true s f e = absurd (cc)
    by false s f e = rw (sym s) (f e)

pub counted_some : (n : ℕ) (es : List Entry) (name : List ℕ) (p : ℕ) → first_place (counted n es) name ≡ Some p → (k : ℕ) × (p ≡ k + n) × (slice_get es k ≡ entry_of es name)
counted_some n [] name p e = absurd (cc)
counted_some n (x ∷ es) name p e = by (bytes_eq name (entry_name x)) (bytes_swap name (entry_name x)) (counted_some (suc n) es name p) e
  where
    by : (b : Bool) → b ≡ bytes_eq (entry_name x) name → (first_place (counted (suc n) es) name ≡ Some p → (k : ℕ) × (p ≡ k + suc n) × (slice_get es k ≡ entry_of es name))
        → (if b then Some n else first_place (counted (suc n) es) name) ≡ Some p → (k : ℕ) × (p ≡ k + n) × (slice_get (x ∷ es) k ≡ entry_of (x ∷ es) name)
    by true s f e = let same : n ≡ p = cc in (0, omega (arith, same), rw (sym s) refl)
    by false s f e = let r = f e in (suc r.0, omega (arith, r.1), rw (sym s) r.2)

-- at a place that was found stands the entry of the name
pub counted_at : (es : List Entry) (name : List ℕ) (p : ℕ) → Some p ≡ first_place (counted 0 es) name → slice_get es p ≡ entry_of es name
counted_at es name p e = let r = counted_some 0 es name p (sym e) in let same : p ≡ r.0 = omega (arith, r.1) in ap (slice_get es) same ∙ r.2
