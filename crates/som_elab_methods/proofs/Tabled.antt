-- Names in tables, bodies counted by names, and overrides by their places.
use Rattle.std.proofs.Common.{◌≡◌, ℕ, zero, suc, ◌+◌, ◌<◌, ◌==◌, Bool, true, false, not, ◌&&◌, if◌then◌else◌, List, [], ◌∷◌, ◌++◌, length, drop, flat_map, slice_get, slice_index_or, Option, Some, None, option_map, Result, refl, sym, ap, ◌∙◌, subst, arith, append_assoc, true≢false}
use Rattle.std.specs.Str.{bytes_eq}
use Rattle.std.proofs.lemmas.Bool.{ne_eqb}
use Rattle.std.proofs.lemmas.List.{append-nil}
use Rattle.som_model.specs.declared.class.Override.{Override}
use Rattle.som_model.specs.Class.{Class}
use Rattle.som_model.specs.Lists.{among, find, first}
use Rattle.som_model.proofs.KeyLaws.{exact_bytes}
use Rattle.som_order.proofs.Noted.{drop_at}
use Rattle.som_ast.specs.declared.body.BodyText.{BodyText}
use Rattle.som_ast.specs.declared.interface.IdlInterface.{IdlInterface}
use Rattle.som_ast.specs.declared.interface.Export.{Export}
use Rattle.som_sema_names.specs.Noted.{first_place}
use Rattle.som_verify_classes.specs.Told.{Tells}
use Rattle.som_verify_classes.specs.declared.types.VerifyFault.{VerifyFault}
use Rattle.som_sema_drafts.specs.Drafts.{InterfaceDraft, plain_draft}
use Rattle.som_elab_methods.specs.Bodies.{draft_named, operation_name, operations, text_s13, texts_for}
use Rattle.som_elab_methods.specs.OwnDrafts.{draft_of, drafts_in}
use Rattle.som_elab_methods.specs.Tables.{AreCounted, HaveNames, are_two, is_any, replaced}
use Rattle.som_elab_methods.specs.Texts.{class_places}
use Rattle.som_elab_methods.specs.declared.own_methods.OwnMethods.{OwnMethods}
use Rattle.som_elab_methods.proofs.NamedClasses.{among_both, named_from}

-- ---- names

both_same : (b : Bool) → b ≡ (if b then true else (if false then true else false))
both_same true = refl
both_same false = refl

stands_last : (name x : List ℕ) (names : List (List ℕ)) (b : Bool) → bytes_eq name x ≡ b → among x names ≡ true → among name names ≡ (if among name names then true else (if b then true else false))
stands_last name x names true is e = let here : among name names ≡ true = ap (λ n. among n names) (exact_bytes.two name x is) ∙ e in rw here refl
stands_last name x names false is e = both_same (among name names)

noted_by : (name x : List ℕ) (names seen : List (List ℕ)) (b is_new : Bool) → among x names ≡ b → is_new ≡ not b → seen ≡ (if is_new then names ++ x ∷ [] else names) → among name seen ≡ among name (names ++ x ∷ [])
noted_by name x names seen true true e new kept = absurd (true≢false new)
noted_by name x names seen true false e new kept = ap (among name) kept ∙ stands_last name x names (bytes_eq name x) refl e ∙ sym (among_both name names (x ∷ []))
noted_by name x names seen false true e new kept = ap (among name) kept
noted_by name x names seen false false e new kept = absurd (true≢false (sym new))

-- a name more is noted
pub noted_last : (x : List ℕ) (names seen : List (List ℕ)) (is_new : Bool) → is_new ≡ not (among x names) → seen ≡ (if is_new then names ++ x ∷ [] else names) → HaveNames (names ++ x ∷ []) seen
noted_last x names seen is_new new kept = λ name. noted_by name x names seen (among x names) is_new refl new kept

have_after : (names table more : List (List ℕ)) → HaveNames names table → HaveNames (names ++ more) (table ++ more)
have_after names table more h = λ name.
    among_both name table more ∙ ap (λ (b : Bool). if b then true else among name more) (h name) ∙ sym (among_both name names more)

-- ---- operations

-- an export more
pub operations_next : (all : List Export) (i : ℕ) (x d : Export) (old now next : List (List ℕ)) → i < length all → x ≡ slice_index_or all i d → HaveNames (now ++ operation_name x) next
    → HaveNames (old ++ flat_map operation_name all) (now ++ flat_map operation_name (drop i all)) → HaveNames (old ++ flat_map operation_name all) (next ++ flat_map operation_name (drop (i + 1) all))
operations_next all i x d old now next lt is h so = λ name.
    let rest = flat_map operation_name (drop (i + 1) all) in
    let first : operation_name x ++ rest ≡ flat_map operation_name (drop i all) =
    ap (λ e. operation_name e ++ rest) is ∙ ap (flat_map operation_name) (sym (drop_at all i d lt)) in
    have_after (now ++ operation_name x) next rest h name
    ∙ ap (among name) (append_assoc now (operation_name x) rest)
    ∙ ap (λ z. among name (now ++ z)) first
    ∙ so name

-- the exports before and after
pub operations_both : (text : IdlInterface) (before after : List Export) (none first all : List (List ℕ)) → none ≡ [] → before ≡ text.before → after ≡ text.after
    → HaveNames (none ++ flat_map operation_name before) first → HaveNames (first ++ flat_map operation_name after) all → HaveNames (operations text) all
operations_both text before after none first all e b a h g = λ name.
    let declared = flat_map operation_name before in
    let others = flat_map operation_name after in
    g name
    ∙ have_after (none ++ declared) first others h name
    ∙ ap (λ z. among name ((z ++ declared) ++ others)) e
    ∙ ap (λ z. among name (flat_map operation_name z ++ others)) b
    ∙ ap (λ z. among name (flat_map operation_name text.before ++ flat_map operation_name z)) a

-- ---- bodies

for_last : (bs : List BodyText) (b : BodyText) (class name : List ℕ)
    → texts_for (bs ++ b ∷ []) class name ≡ texts_for bs class name ++ (if bytes_eq b.class.text class && bytes_eq b.method.text name then b ∷ [] else [])
for_last [] b class name = refl
for_last (x ∷ bs) b class name = by (bytes_eq x.class.text class && bytes_eq x.method.text name) (for_last bs b class name)
  where
    by : (k : Bool) → texts_for (bs ++ b ∷ []) class name ≡ texts_for bs class name ++ (if bytes_eq b.class.text class && bytes_eq b.method.text name then b ∷ [] else [])
        → (if k then x ∷ texts_for (bs ++ b ∷ []) class name else texts_for (bs ++ b ∷ []) class name)
        ≡ (if k then x ∷ texts_for bs class name else texts_for bs class name) ++ (if bytes_eq b.class.text class && bytes_eq b.method.text name then b ∷ [] else [])
    by true e = ap (λ z. x ∷ z) e
    by false e = e

for_else : (bs : List BodyText) (b : BodyText) (class name : List ℕ) → (bytes_eq b.class.text class && bytes_eq b.method.text name) ≡ false → texts_for (bs ++ b ∷ []) class name ≡ texts_for bs class name
for_else bs b class name e = for_last bs b class name ∙ ap (λ (k : Bool). texts_for bs class name ++ (if k then b ∷ [] else [])) e ∙ append-nil (texts_for bs class name)

for_this : (bs : List BodyText) (b : BodyText) (class name : List ℕ) → (bytes_eq b.class.text class && bytes_eq b.method.text name) ≡ true → texts_for (bs ++ b ∷ []) class name ≡ texts_for bs class name ++ b ∷ []
for_this bs b class name e = for_last bs b class name ∙ ap (λ (k : Bool). texts_for bs class name ++ (if k then b ∷ [] else [])) e

any_last : (bs : List BodyText) (b : BodyText) → is_any (bs ++ b ∷ []) ≡ true
any_last [] b = refl
any_last (x ∷ bs) b = refl

two_last : (bs : List BodyText) (b : BodyText) → are_two (bs ++ b ∷ []) ≡ is_any bs
two_last [] b = refl
two_last (x ∷ bs) b = any_last bs b

none_two : (bs : List BodyText) → is_any bs ≡ false → are_two bs ≡ false
none_two [] e = refl
none_two (x ∷ bs) e = absurd (true≢false e)

last_else : (name x : List ℕ) (names : List (List ℕ)) → bytes_eq x name ≡ false → among name (names ++ x ∷ []) ≡ among name names
last_else name x names e = among_both name names (x ∷ []) ∙ by (bytes_eq name x) refl
  where
    by : (k : Bool) → bytes_eq name x ≡ k → (if among name names then true else (if k then true else false)) ≡ among name names
    by true is = absurd (true≢false (sym (ap (bytes_eq x) (exact_bytes.two name x is) ∙ exact_bytes.one x) ∙ e))
    by false is = sym (both_same (among name names))

last_this : (name x : List ℕ) (names : List (List ℕ)) → bytes_eq x name ≡ true → among name (names ++ x ∷ []) ≡ true
last_this name x names e = among_both name names (x ∷ []) ∙ ap (λ (k : Bool). if among name names then true else (if k then true else false)) (ap (bytes_eq name) (exact_bytes.two x name e) ∙ exact_bytes.one name) ∙ by (among name names)
  where
    by : (k : Bool) → (if k then true else true) ≡ true
    by true = refl
    by false = refl

module _ (bs : List BodyText) (b : BodyText) (class : List ℕ) (all repeated : List (List ℕ)) (counted : AreCounted bs class all repeated) where
  -- a body of another class
  pub counted_other : bytes_eq b.class.text class ≡ false → AreCounted (bs ++ b ∷ []) class all repeated
  counted_other e = record {
    any = λ name. counted.any name ∙ ap is_any (sym (for_else bs b class name (ap (λ (k : Bool). k && bytes_eq b.method.text name) e)));
    two = λ name. counted.two name ∙ ap are_two (sym (for_else bs b class name (ap (λ (k : Bool). k && bytes_eq b.method.text name) e)));
  }

  module _ (own : bytes_eq b.class.text class ≡ true) where
    of_name : (name : List ℕ) (k : Bool) → bytes_eq b.method.text name ≡ k → (bytes_eq b.class.text class && bytes_eq b.method.text name) ≡ k
    of_name name k e = ap (λ (c : Bool). c && bytes_eq b.method.text name) own ∙ e

    -- the first body of a method
    pub counted_first : (next : List (List ℕ)) → among b.method.text all ≡ false → HaveNames (all ++ b.method.text ∷ []) next → AreCounted (bs ++ b ∷ []) class next repeated
    counted_first next new h = record {
      any = λ name. h name ∙ any_by name (bytes_eq b.method.text name) refl;
      two = λ name. two_by name (bytes_eq b.method.text name) refl;
    }
      where
        any_by : (name : List ℕ) (k : Bool) → bytes_eq b.method.text name ≡ k → among name (all ++ b.method.text ∷ []) ≡ is_any (texts_for (bs ++ b ∷ []) class name)
        any_by name true e = last_this name b.method.text all e ∙ sym (ap is_any (for_this bs b class name (of_name name true e)) ∙ any_last (texts_for bs class name) b)
        any_by name false e = last_else name b.method.text all e ∙ counted.any name ∙ ap is_any (sym (for_else bs b class name (of_name name false e)))

        two_by : (name : List ℕ) (k : Bool) → bytes_eq b.method.text name ≡ k → among name repeated ≡ are_two (texts_for (bs ++ b ∷ []) class name)
        two_by name true e =
            let none : is_any (texts_for bs class name) ≡ false = sym (counted.any name) ∙ ap (λ n. among n all) (sym (exact_bytes.two b.method.text name e)) ∙ new in
            counted.two name ∙ none_two (texts_for bs class name) none ∙ sym (ap are_two (for_this bs b class name (of_name name true e)) ∙ two_last (texts_for bs class name) b ∙ none)
        two_by name false e = counted.two name ∙ ap are_two (sym (for_else bs b class name (of_name name false e)))

    -- one more of a method that has some
    pub counted_again : (next : List (List ℕ)) → among b.method.text all ≡ true → HaveNames (repeated ++ b.method.text ∷ []) next → AreCounted (bs ++ b ∷ []) class all next
    counted_again next old h = record {
      any = λ name. any_by name (bytes_eq b.method.text name) refl;
      two = λ name. h name ∙ two_by name (bytes_eq b.method.text name) refl;
    }
      where
        any_by : (name : List ℕ) (k : Bool) → bytes_eq b.method.text name ≡ k → among name all ≡ is_any (texts_for (bs ++ b ∷ []) class name)
        any_by name true e = ap (λ n. among n all) (sym (exact_bytes.two b.method.text name e)) ∙ old ∙ sym (ap is_any (for_this bs b class name (of_name name true e)) ∙ any_last (texts_for bs class name) b)
        any_by name false e = counted.any name ∙ ap is_any (sym (for_else bs b class name (of_name name false e)))

        two_by : (name : List ℕ) (k : Bool) → bytes_eq b.method.text name ≡ k → among name (repeated ++ b.method.text ∷ []) ≡ are_two (texts_for (bs ++ b ∷ []) class name)
        two_by name true e =
            let some : is_any (texts_for bs class name) ≡ true = sym (counted.any name) ∙ ap (λ n. among n all) (sym (exact_bytes.two b.method.text name e)) ∙ old in
            last_this name b.method.text repeated e ∙ sym (ap are_two (for_this bs b class name (of_name name true e)) ∙ two_last (texts_for bs class name) b ∙ some)
        two_by name false e = last_else name b.method.text repeated e ∙ counted.two name ∙ ap are_two (sym (for_else bs b class name (of_name name false e)))

not_one : (n : ℕ) → (suc (suc n) == 1) ≡ false
not_one n = ne_eqb (suc (suc n)) 1 (λ e. omega (arith, e))

-- there is one body where there is some and not two
pub one_body : (bs : List BodyText) → (is_any bs && not (are_two bs)) ≡ (length bs == 1)
one_body [] = refl
one_body (x ∷ []) = refl
one_body (x ∷ (y ∷ bs)) = sym (not_one (length bs))

-- ---- overrides by their places

abbrev is_named : List ℕ → Override → Bool
is_named name o = bytes_eq name o.method.name

pub replaced_none : (n : ℕ) (os : List Override) (name : List ℕ) → first_place (replaced n os) name ≡ None → find (is_named name) os ≡ None
replaced_none n [] name e = refl
replaced_none n (o ∷ os) name e = by (bytes_eq name o.method.name) (replaced_none (suc n) os name) e
  where
    by : (b : Bool) → (first_place (replaced (suc n) os) name ≡ None → find (is_named name) os ≡ None)
        → (if b then Some n else first_place (replaced (suc n) os) name) ≡ None → (if b then Some o else find (is_named name) os) ≡ None
    by true f e = absurd (cc)
    by false f e = f e

replaced_from : (n : ℕ) (os : List Override) (name : List ℕ) (p : ℕ) → first_place (replaced n os) name ≡ Some p → (k : ℕ) × (p ≡ k + n) × (slice_get os k ≡ find (is_named name) os)
replaced_from n [] name p e = absurd (cc)
replaced_from n (o ∷ os) name p e = by (bytes_eq name o.method.name) (replaced_from (suc n) os name p) e
  where
    by : (b : Bool) → (first_place (replaced (suc n) os) name ≡ Some p → (k : ℕ) × (p ≡ k + suc n) × (slice_get os k ≡ find (is_named name) os))
        → (if b then Some n else first_place (replaced (suc n) os) name) ≡ Some p → (k : ℕ) × (p ≡ k + n) × (slice_get (o ∷ os) k ≡ (if b then Some o else find (is_named name) os))
    by true f e = let same : n ≡ p = cc in (0, omega (arith, same), refl)
    by false f e = let r = f e in (suc r.0, omega (arith, r.1), r.2)

-- at a place that was found stands the first override of the name
pub replaced_there : (os : List Override) (name : List ℕ) (p : ℕ) → Some p ≡ first_place (replaced 0 os) name → slice_get os p ≡ find (is_named name) os
replaced_there os name p e = let r = replaced_from 0 os name p (sym e) in let same : p ≡ r.0 = omega (arith, r.1) in ap (slice_get os) same ∙ r.2

-- ---- classes by their places

abbrev plain_of : OwnMethods → InterfaceDraft
plain_of m = plain_draft (draft_of m)

get_plain : (ms : List OwnMethods) (p : ℕ) → option_map plain_of (slice_get ms p) ≡ slice_get (drafts_in ms) p
get_plain [] p = refl
get_plain (m ∷ ms) zero = refl
get_plain (m ∷ ms) (suc p) = get_plain ms p

-- the class at a place that was found is the one of the name
pub named : (ms : List OwnMethods) (name : List ℕ) (p : ℕ) → Some p ≡ first_place (class_places 0 (drafts_in ms)) name → option_map plain_of (slice_get ms p) ≡ draft_named (drafts_in ms) name
named ms name p e =
    let r = named_from 0 (drafts_in ms) name p (sym e) in
    let same : p ≡ r.0 = omega (arith, r.1) in
    get_plain ms p ∙ ap (slice_get (drafts_in ms)) same ∙ r.2

-- what is told of them is told of the interfaces
pub told_shown : (cs : List Class) (bs : List BodyText) (ms shown : List OwnMethods) (ds : List InterfaceDraft) (r : Result (Unit {0}) VerifyFault) → shown ≡ ms → drafts_in ms ≡ ds
    → Tells (first (flat_map (text_s13 cs (drafts_in shown)) bs)) r → Tells (first (flat_map (text_s13 cs ds) bs)) r
told_shown cs bs ms shown ds r e f t = subst (λ (z : List InterfaceDraft). Tells (first (flat_map (text_s13 cs z) bs)) r) (ap drafts_in e ∙ f) t
