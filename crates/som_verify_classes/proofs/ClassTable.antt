-- The names of classes by their places.
use Rattle.std.proofs.Common.{◌≡◌, ℕ, zero, suc, ◌+◌, ◌<◌, ◌≤◌, inl, inr, Bool, true, false, not, if◌then◌else◌, List, [], ◌∷◌, ◌++◌, map, length, take, drop, Some, None, slice_index_or, codes, refl, sym, ap, ◌∙◌, subst, arith, true≢false, append_assoc, length-append}
use Rattle.std.proofs.lemmas.Bool.{cases_lt}
use Rattle.std.proofs.lemmas.List.{append-nil, map-append}
use Rattle.std.proofs.Math.ListN.{get_or-append}
use Rattle.std.proofs.Math.Seq.{get_or-append_seam}
use Rattle.std.specs.Str.{bytes_eq}
use Rattle.som_model.specs.Lists.{first, or_else, among}
use Rattle.som_model.specs.Class.{Class}
use Rattle.som_model.specs.Kernel.{kernel}
use Rattle.som_model.specs.Rules.{RuleBreach, breach, name_of, s1}
use Rattle.som_model.specs.Conforming.{each_after}
use Rattle.som_model.proofs.KeyLaws.{exact_bytes}
use Rattle.som_order.specs.Names.{name_at}
use Rattle.som_verify_classes.specs.declared.types.Declared.{Declared}
use Rattle.som_verify_classes.specs.Modules.{class_of, classes_of, AreDeclared}
use Rattle.som_verify_classes.specs.Places.{with_kernel, AreOnce, IsTable}
use Rattle.som_verify_classes.proofs.DeclaredClasses.{long_map, item_of, are_declared}
use Rattle.som_verify_classes.proofs.Passes.{first_both}

-- the classes before those at place i, and what a rule says from there on
abbrev pub front : List Class → List Class → ℕ → List Class
front k cs i = k ++ take i cs

last_front : (cs : List Class) (i : ℕ) (c : Class) → i < length cs → take (i + 1) cs ≡ take i cs ++ slice_index_or cs i c ∷ []
last_front [] i c lt = absurd (omega arith)
last_front (x ∷ cs) zero c lt = refl
last_front (x ∷ cs) (suc i) c lt = let e : suc i + 1 ≡ suc (i + 1) = omega arith in rw e (ap (λ z. x ∷ z) (last_front cs i c (omega arith)))

pub front_more : (k : List Class) (cs : List Class) (i : ℕ) (c : Class) → i < length cs → front k cs (i + 1) ≡ front k cs i ++ slice_index_or cs i c ∷ []
front_more k cs i c lt = ap (λ z. k ++ z) (last_front cs i c lt) ∙ sym (append_assoc k (take i cs) (slice_index_or cs i c ∷ []))

after_at : (rule : List Class → Class → List RuleBreach) (before : List Class) (cs : List Class) (i : ℕ) (c : Class) → i < length cs
    → each_after rule before (drop i cs) ≡ rule before (slice_index_or cs i c) ++ each_after rule (before ++ slice_index_or cs i c ∷ []) (drop (i + 1) cs)
after_at rule before [] i c lt = absurd (omega arith)
after_at rule before (x ∷ cs) zero c lt = refl
after_at rule before (x ∷ cs) (suc i) c lt = let e : suc i + 1 ≡ suc (i + 1) = omega arith in rw e (after_at rule before cs i c (omega arith))

-- one class more
pub after_more : (rule : List Class → Class → List RuleBreach) (k : List Class) (cs : List Class) (i : ℕ) (c : Class) → i < length cs
    → first (each_after rule (front k cs i) (drop i cs)) ≡ or_else (first (rule (front k cs i) (slice_index_or cs i c))) (first (each_after rule (front k cs (i + 1)) (drop (i + 1) cs)))
after_more rule k cs i c lt =
    ap first (after_at rule (front k cs i) cs i c lt)
    ∙ first_both (rule (front k cs i) (slice_index_or cs i c)) _
    ∙ ap (λ z. or_else (first (rule (front k cs i) (slice_index_or cs i c))) (first (each_after rule z (drop (i + 1) cs)))) (sym (front_more k cs i c lt))

names_more : (k : List Class) (cs : List Class) (i : ℕ) (c : Class) → i < length cs → map name_of (front k cs (i + 1)) ≡ map name_of (front k cs i) ++ (slice_index_or cs i c).decl.face.name ∷ []
names_more k cs i c lt = ap (map name_of) (front_more k cs i c lt) ∙ map-append name_of (front k cs i) (slice_index_or cs i c ∷ [])

-- the names noted are those of the classes k and of the first i after them, none of which breaks S1
pub record NamesSoFar (k : List Class) (cs : List Class) (i : ℕ) (names : List (List ℕ)) : Type 0 where
  pub are : names ≡ map name_of (front k cs i)
  pub same : first (each_after s1 (front k cs i) (drop i cs)) ≡ first (each_after s1 k cs)

fresh_by : (k : List Class) (cs : List Class) (i : ℕ) (c : Class) (b : Bool) → among c.decl.face.name (map name_of (front k cs i)) ≡ b → b ≡ false → s1 (front k cs i) c ≡ []
fresh_by k cs i c b e f = let g = e ∙ f in rw g refl

taken : (before : List Class) (c : Class) → among c.decl.face.name (map name_of before) ≡ true → s1 before c ≡ breach 1 c (codes "-") ∷ []
taken before c e = rw e refl

if_new : (b a : Bool) (before seen : List (List ℕ)) (x : List ℕ) → b ≡ true → b ≡ not a → seen ≡ (if b then before ++ x ∷ [] else before) → (a ≡ false) × (seen ≡ before ++ x ∷ [])
if_new true true before seen x t e g = cc
if_new true false before seen x t e g = (refl, g)
if_new false a before seen x t e g = cc

next_name : (k : List Class) (cs : List Class) (i : ℕ) (names seen : List (List ℕ)) (c : Class) (is_new : Bool) → i < length cs → c ≡ slice_index_or cs i c
    → is_new ≡ true → is_new ≡ not (among c.decl.face.name names) → seen ≡ (if is_new then names ++ c.decl.face.name ∷ [] else names) → NamesSoFar k cs i names → NamesSoFar k cs (i + 1) seen
next_name k cs i names seen c is_new lt is yes_ new kept so =
    let r = if_new is_new (among c.decl.face.name names) names seen c.decl.face.name yes_ new kept in
    record {
      are = r.1 ∙ ap (λ z. z ++ c.decl.face.name ∷ []) so.are ∙ ap (λ (z : Class). map name_of (front k cs i) ++ z.decl.face.name ∷ []) is ∙ sym (names_more k cs i c lt);
      same = sym (
          after_more s1 k cs i c lt
          ∙ ap (λ (z : Class). or_else (first (s1 (front k cs i) z)) (first (each_after s1 (front k cs (i + 1)) (drop (i + 1) cs)))) (sym is)
          ∙ ap (λ z. or_else (first z) (first (each_after s1 (front k cs (i + 1)) (drop (i + 1) cs)))) (fresh_by k cs i c (among c.decl.face.name names) (ap (among c.decl.face.name) (sym so.are)) r.0)
          ) ∙ so.same;
    }

is_old : (b a : Bool) → b ≡ false → b ≡ not a → a ≡ true
is_old true a f e = cc
is_old false true f e = refl
is_old false false f e = cc

old_name : (k : List Class) (cs : List Class) (i : ℕ) (names : List (List ℕ)) (c : Class) (is_new : Bool) → i < length cs → c ≡ slice_index_or cs i c
    → is_new ≡ false → is_new ≡ not (among c.decl.face.name names) → NamesSoFar k cs i names → first (each_after s1 k cs) ≡ Some (breach 1 c (codes "-"))
old_name k cs i names c is_new lt is no_ new so =
    sym so.same ∙ after_more s1 k cs i c lt
    ∙ ap (λ (z : Class). or_else (first (s1 (front k cs i) z)) (first (each_after s1 (front k cs (i + 1)) (drop (i + 1) cs)))) (sym is)
    ∙ ap (λ z. or_else (first z) (first (each_after s1 (front k cs (i + 1)) (drop (i + 1) cs)))) (taken (front k cs i) c (ap (among c.decl.face.name) (sym so.are) ∙ is_old is_new (among c.decl.face.name names) no_ new))

-- names that differ

if_demand : (b : Bool) (x : RuleBreach) (rest : List RuleBreach) → first ((if not b then [] else x ∷ []) ++ rest) ≡ None → (b ≡ false) × (first rest ≡ None)
if_demand true x rest e = cc
if_demand false x rest e = (refl, e)

or_false : (b c : Bool) → (if b then true else c) ≡ false → (b ≡ false) × (c ≡ false)
or_false true c e = cc
or_false false c e = (refl, e)

not_among : (names : List (List ℕ)) (x : List ℕ) (i : ℕ) → among x names ≡ false → i < length names → name_at names i ≡ x → ⊥
not_among [] x i e lt f = omega arith
not_among (n ∷ names) x zero e lt f = true≢false (sym (exact_bytes.one x) ∙ ap (bytes_eq x) (sym f) ∙ (or_false (bytes_eq x n) (among x names) e).0)
not_among (n ∷ names) x (suc i) e lt f = not_among names x i (or_false (bytes_eq x n) (among x names) e).1 (omega arith) f

once_more : (names : List (List ℕ)) (x : List ℕ) → AreOnce names → among x names ≡ false → AreOnce (names ++ x ∷ [])
once_more names x once e = record {
  by = λ i j li lj same.
      let long = length-append names (x ∷ []) in
      elim (cases_lt i (length names)) [
        | inl wi ↦ elim (cases_lt j (length names)) [
          | inl wj ↦ once.by i j wi wj (sym (get_or-append names (x ∷ []) [] i wi) ∙ same ∙ get_or-append names (x ∷ []) [] j wj)
          | inr gj ↦ (let ej : j ≡ length names = omega (arith, long) in
              absurd (not_among names x i e wi (sym (get_or-append names (x ∷ []) [] i wi) ∙ same ∙ ap (name_at (names ++ x ∷ [])) ej ∙ get_or-append_seam names x [] [])))
        ]
        | inr gi ↦ elim (cases_lt j (length names)) [
          | inl wj ↦ (let ei : i ≡ length names = omega (arith, long) in
              absurd (not_among names x j e wj (sym (get_or-append names (x ∷ []) [] j wj) ∙ sym same ∙ ap (name_at (names ++ x ∷ [])) ei ∙ get_or-append_seam names x [] [])))
          | inr gj ↦ omega (arith, long)
        ]
      ];
}

once_after : (before cs : List Class) → AreOnce (map name_of before) → first (each_after s1 before cs) ≡ None → AreOnce (map name_of (before ++ cs))
once_after before [] once e = subst (λ z. AreOnce (map name_of z)) (sym (append-nil before)) once
once_after before (c ∷ cs) once e =
    let r = if_demand (among (name_of c) (map name_of before)) (breach 1 c (codes "-")) (each_after s1 (before ++ c ∷ []) cs) e in
    let more = once_after (before ++ c ∷ []) cs (subst AreOnce (sym (map-append name_of before (c ∷ []))) (once_more (map name_of before) (name_of c) once r.0)) r.1 in
    subst (λ z. AreOnce (map name_of z)) (append_assoc before (c ∷ []) cs) more

kernel_once : AreOnce (map name_of kernel)
kernel_once = once_after [] kernel (record { by = λ i j li lj e. absurd (omega arith) }) refl

pub is_table : (cs : List Class) (names : List (List ℕ)) → AreDeclared cs → names ≡ map name_of (with_kernel cs) → first (each_after s1 kernel cs) ≡ None → IsTable cs names
is_table cs names o e f = record { are = e; once = subst AreOnce (sym e) (once_after kernel cs kernel_once f); declared = o }

pub drop_end : {A : Type 0} (xs : List A) (i : ℕ) → length xs ≤ i → drop i xs ≡ []
drop_end [] zero le = refl
drop_end [] (suc i) le = refl
drop_end (x ∷ xs) zero le = absurd (omega arith)
drop_end (x ∷ xs) (suc i) le = drop_end xs i (omega arith)

take_end : {A : Type 0} (xs : List A) (i : ℕ) → length xs ≤ i → take i xs ≡ xs
take_end [] zero le = refl
take_end [] (suc i) le = refl
take_end (x ∷ xs) zero le = absurd (omega arith)
take_end (x ∷ xs) (suc i) le = ap (λ z. x ∷ z) (take_end xs i (omega arith))

-- a name that isn't known is added to those that are
pub name_added : (seen new known : List (List ℕ)) (name : List ℕ) (is_new : Bool) → seen ≡ known → among name known ≡ false → is_new ≡ not (among name seen)
    → new ≡ (if is_new then seen ++ name ∷ [] else seen) → new ≡ known ++ name ∷ []
name_added seen new known name is_new same fresh is kept =
    let e : is_new ≡ true = is ∙ ap (λ z. not (among name z)) same ∙ ap not fresh in
    (if_new is_new (among name seen) seen new name e is kept).1 ∙ ap (λ z. z ++ name ∷ []) same

-- noting the name of one declared class more

pub names_next : (k : List Class) (ds : List Declared) (i : ℕ) (names seen : List (List ℕ)) (d : Declared) (is_new : Bool) → i < length ds → d ≡ slice_index_or ds i d
    → is_new ≡ true → is_new ≡ not (among d.decl.now.face.name names) → seen ≡ (if is_new then names ++ d.decl.now.face.name ∷ [] else names)
    → NamesSoFar k (classes_of ds) i names → NamesSoFar k (classes_of ds) (i + 1) seen
names_next k ds i names seen d is_new lt is yes_ new kept so =
    next_name k (classes_of ds) i names seen (class_of d) is_new (omega (arith, long_map class_of ds)) (ap class_of is ∙ item_of ds i d lt) yes_ new kept so

pub names_stop : (k : List Class) (ds : List Declared) (i : ℕ) (names : List (List ℕ)) (d : Declared) (is_new : Bool) → i < length ds → d ≡ slice_index_or ds i d
    → is_new ≡ false → is_new ≡ not (among d.decl.now.face.name names) → NamesSoFar k (classes_of ds) i names → first (each_after s1 k (classes_of ds)) ≡ Some (breach 1 (class_of d) (codes "-"))
names_stop k ds i names d is_new lt is no_ new so =
    old_name k (classes_of ds) i names (class_of d) is_new (omega (arith, long_map class_of ds)) (ap class_of is ∙ item_of ds i d lt) no_ new so

-- the table, where all classes have been noted
pub names_end : (ds : List Declared) (i : ℕ) (names : List (List ℕ)) → length ds ≤ i → NamesSoFar kernel (classes_of ds) i names → IsTable (classes_of ds) names
names_end ds i names le so =
    let cs = classes_of ds in
    let past : length cs ≤ i = omega (arith, long_map class_of ds) in
    is_table cs names (are_declared ds) (so.are ∙ ap (λ z. map name_of (kernel ++ z)) (take_end cs i past))
    (sym so.same ∙ ap (λ z. first (each_after s1 (front kernel cs i) z)) (drop_end cs i past))

-- no name stands twice
pub names_told : (ds : List Declared) (i : ℕ) (names : List (List ℕ)) → length ds ≤ i → NamesSoFar kernel (classes_of ds) i names → first (each_after s1 kernel (classes_of ds)) ≡ None
names_told ds i names le so = sym so.same ∙ ap (λ z. first (each_after s1 (front kernel (classes_of ds) i) z)) (drop_end (classes_of ds) i (omega (arith, long_map class_of ds)))
