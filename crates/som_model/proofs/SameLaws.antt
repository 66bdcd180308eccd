-- The tests on types, signatures, entries, faces and interfaces tell them apart.
use Rattle.std.proofs.Common.{◌≡◌, ◌↔◌, ℕ, ◌==◌, Bool, true, false, IsTrue, ◌&&◌, List, [], ◌∷◌, Option, Some, None, refl, sym, ap, ◌∙◌, true≢false}
use Rattle.std.specs.Str.{bytes_eq}
use Rattle.som_model.specs.declared.key.ClassKey.{ClassKey}
use Rattle.som_model.specs.declared.key.ValueType.{ValueType}
use Rattle.som_model.specs.declared.key.ValueType.TheVariants as types
use Rattle.som_model.specs.declared.class.Sig.{Sig}
use Rattle.som_model.specs.declared.class.Way.{Way}
use Rattle.som_model.specs.declared.class.Way.TheVariants as ways
use Rattle.som_model.specs.declared.class.Entry.{Entry}
use Rattle.som_model.specs.declared.class.Entry.TheVariants as entries
use Rattle.som_model.specs.declared.class.ClassFace.{ClassFace}
use Rattle.som_model.specs.Keys.{same_key}
use Rattle.som_model.specs.Same.{same_list, same_option, same_type, same_sig, same_way, same_entry, same_face, same_interface}
use Rattle.som_model.proofs.KeyLaws.{Exact, both, exact_bytes, exact_numbers, exact_keys}

-- an answer that is true exactly where two values are equal is that of an exact test of them
pub by_equality : {A : Type 0} (same : A → A → Bool) → Exact same → (x y : A) (answer : Bool) → (IsTrue answer ↔ (x ≡ y)) → answer ≡ same x y
by_equality same e x y true h = sym (ap (same x) (sym (h.0 refl)) ∙ e.one x)
by_equality same e x y false h = differ (same x y) refl
  where
    differ : (b : Bool) → same x y ≡ b → false ≡ b
    differ true is = h.1 (e.two x y is)
    differ false is = refl

list_one : {A : Type 0} (same : A → A → Bool) → Exact same → (xs : List A) → same_list same xs xs ≡ true
list_one same e [] = refl
list_one same e (x ∷ xs) = ap (λ b. b && same_list same xs xs) (e.one x) ∙ list_one same e xs

list_two : {A : Type 0} (same : A → A → Bool) → Exact same → (xs ys : List A) → same_list same xs ys ≡ true → xs ≡ ys
list_two same e [] [] h = refl
list_two same e (x ∷ xs) (y ∷ ys) h =
    let p = both (same x y) (same_list same xs ys) h in
    ap (λ z. z ∷ xs) (e.two x y p.0) ∙ ap (λ zs. y ∷ zs) (list_two same e xs ys p.1)
list_two same e [] (y ∷ ys) h = absurd (true≢false (sym h))
list_two same e (x ∷ xs) [] h = absurd (true≢false (sym h))

pub exact_list : {A : Type 0} (same : A → A → Bool) → Exact same → Exact (same_list same)
exact_list same e = record { one = list_one same e; two = list_two same e }

option_one : {A : Type 0} (same : A → A → Bool) → Exact same → (x : Option A) → same_option same x x ≡ true
option_one same e None = refl
option_one same e (Some x) = e.one x

option_two : {A : Type 0} (same : A → A → Bool) → Exact same → (x y : Option A) → same_option same x y ≡ true → x ≡ y
option_two same e None None h = refl
option_two same e (Some x) (Some y) h = ap (λ z. Some z) (e.two x y h)
option_two same e None (Some y) h = absurd (true≢false (sym h))
option_two same e (Some x) None h = absurd (true≢false (sym h))

pub exact_option : {A : Type 0} (same : A → A → Bool) → Exact same → Exact (same_option same)
exact_option same e = record { one = option_one same e; two = option_two same e }

type_one : (t : ValueType) → same_type t t ≡ true
type_one types.Void = refl
type_one types.Long = refl
type_one types.Boolean = refl
type_one types.Str = refl
type_one (types.Class k) = exact_keys.one k

type_two : (t u : ValueType) → same_type t u ≡ true → t ≡ u
type_two types.Void types.Void h = refl
type_two types.Long types.Long h = refl
type_two types.Boolean types.Boolean h = refl
type_two types.Str types.Str h = refl
type_two (types.Class k) (types.Class m) h = ap types.Class (exact_keys.two k m h)
type_two _ _ h = absurd (true≢false (sym h))

pub exact_types : Exact same_type
exact_types = record { one = type_one; two = type_two }

sig_two : (s t : Sig) → same_sig s t ≡ true → s ≡ t
sig_two s t h =
    let p = both (same_type s.result t.result) (same_list same_type s.params t.params) h in
    ap (λ (r : ValueType). record { result = r; params = s.params }) (exact_types.two s.result t.result p.0)
    ∙ ap (λ (ps : List ValueType). record { result = t.result; params = ps }) ((exact_list same_type exact_types).two s.params t.params p.1)

pub exact_sigs : Exact same_sig
exact_sigs = record {
  one = λ s. ap (λ b. b && same_list same_type s.params s.params) (type_one s.result) ∙ list_one same_type exact_types s.params;
  two = sig_two;
}

way_one : (w : Way) → same_way w w ≡ true
way_one ways.Offset = refl
way_one ways.Lookup = refl

way_two : (v w : Way) → same_way v w ≡ true → v ≡ w
way_two ways.Offset ways.Offset h = refl
way_two ways.Lookup ways.Lookup h = refl
way_two _ _ h = absurd (true≢false (sym h))

-- three tests that all say yes
all_yes : (a b c : Bool) → a ≡ true → b ≡ true → c ≡ true → (a && (b && c)) ≡ true
all_yes a b c p q r = ap (λ x. x && (b && c)) p ∙ ap (λ x. x && c) q ∙ r

entry_one : (e : Entry) → same_entry e e ≡ true
entry_one (entries.Introduced x s w) = all_yes (bytes_eq x x) (same_sig s s) (same_way w w) (exact_bytes.one x) (exact_sigs.one s) (way_one w)
entry_one (entries.Moved x k) = ap (λ b. b && same_key k k) (exact_bytes.one x) ∙ exact_keys.one k

entry_two : (d e : Entry) → same_entry d e ≡ true → d ≡ e
entry_two (entries.Introduced x s v) (entries.Introduced y t w) h =
    let p = both (bytes_eq x y) (same_sig s t && same_way v w) h in
    let q = both (same_sig s t) (same_way v w) p.1 in
    ap (λ n. entries.Introduced n s v) (exact_bytes.two x y p.0) ∙ ap (λ n. entries.Introduced y n v) (exact_sigs.two s t q.0) ∙ ap (λ n. entries.Introduced y t n) (way_two v w q.1)
entry_two (entries.Moved x k) (entries.Moved y m) h =
    let p = both (bytes_eq x y) (same_key k m) h in
    ap (λ n. entries.Moved n k) (exact_bytes.two x y p.0) ∙ ap (λ n. entries.Moved y n) (exact_keys.two k m p.1)
entry_two (entries.Introduced x s v) (entries.Moved y m) h = absurd (true≢false (sym h))
entry_two (entries.Moved x k) (entries.Introduced y t w) h = absurd (true≢false (sym h))

pub exact_entries : Exact same_entry
exact_entries = record { one = entry_one; two = entry_two }

face_one : (f : ClassFace) → same_face f f ≡ true
face_one f =
    let parents = (exact_list same_key exact_keys).one f.parents in
    let meta = (exact_option same_key exact_keys).one f.metaclass in
    let entries = (exact_list same_entry exact_entries).one f.entries in
    let low = all_yes _ _ _ parents meta entries in
    all_yes (bytes_eq f.name f.name) (f.major == f.major) _ (exact_bytes.one f.name) (exact_numbers.one f.major)
    (ap (λ b. b && (same_list same_key f.parents f.parents && (same_option same_key f.metaclass f.metaclass && same_list same_entry f.entries f.entries))) (exact_numbers.one f.minor) ∙ low)

face_two : (f g : ClassFace) → same_face f g ≡ true → f ≡ g
face_two f g h =
    let a = both (bytes_eq f.name g.name) _ h in
    let b = both (f.major == g.major) _ a.1 in
    let c = both (f.minor == g.minor) _ b.1 in
    let d = both (same_list same_key f.parents g.parents) _ c.1 in
    let e = both (same_option same_key f.metaclass g.metaclass) _ d.1 in
    let name : f.name ≡ g.name = exact_bytes.two f.name g.name a.0 in
    let major : f.major ≡ g.major = exact_numbers.two f.major g.major b.0 in
    let minor : f.minor ≡ g.minor = exact_numbers.two f.minor g.minor c.0 in
    let parents : f.parents ≡ g.parents = (exact_list same_key exact_keys).two f.parents g.parents d.0 in
    let meta : f.metaclass ≡ g.metaclass = (exact_option same_key exact_keys).two f.metaclass g.metaclass e.0 in
    let entries : f.entries ≡ g.entries = (exact_list same_entry exact_entries).two f.entries g.entries e.1 in
    ap (λ (x : List ℕ). record f { name = x }) name
    ∙ ap (λ (x : ℕ). record f { name = g.name; major = x }) major
    ∙ ap (λ (x : ℕ). record f { name = g.name; major = g.major; minor = x }) minor
    ∙ ap (λ (x : List ClassKey). record f { name = g.name; major = g.major; minor = g.minor; parents = x }) parents
    ∙ ap (λ (x : Option ClassKey). record g { metaclass = x; entries = f.entries }) meta
    ∙ ap (λ (x : List Entry). record g { entries = x }) entries

pub exact_faces : Exact same_face
exact_faces = record { one = face_one; two = face_two }

pub exact_interfaces : Exact same_interface
exact_interfaces = record {
  one = λ i. (exact_list same_face exact_faces).one i.classes;
  two = λ i j h. ap (λ (x : List ClassFace). record { classes = x }) ((exact_list same_face exact_faces).two i.classes j.classes h);
}
