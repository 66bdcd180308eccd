-- Names that are looked up: where each class and each entry stands.
use Rattle.std.proofs.Common.{◌≡◌, ℕ, zero, suc, ◌+◌, ◌<◌, inl, inr, Bool, true, false, not, if◌then◌else◌, true≢false, List, [], ◌∷◌, ◌++◌, length, map, drop, get_or, Option, Some, None, is_some, refl, sym, ap, subst, ◌∙◌, append_assoc, arith}
use Rattle.std.specs.Prelude.{unwrap_or}
use Rattle.std.specs.Str.{bytes_eq}
use Rattle.std.specs.List.{AllByRecursion}
use Rattle.std.proofs.lemmas.List.{append-nil, length-map, get_or-map}
use Rattle.std.proofs.lemmas.List.Elements.{recursion_from_All}
use Rattle.som_model.specs.declared.key.Module.{Module}
use Rattle.som_model.specs.declared.key.ClassKey.{ClassKey, out-ClassKey, out-roll-ClassKey}
use Rattle.som_model.specs.declared.key.ClassKey.TheOpen.{ClassKey-F}
use Rattle.som_model.specs.declared.key.ClassKey.TheVariants.{rolls-Derived, rolls-Proxy}
use Rattle.som_model.specs.declared.key.ClassKey.TheVariants as keys
use Rattle.som_model.specs.declared.key.ValueType.{ValueType}
use Rattle.som_model.specs.declared.key.ValueType.TheVariants as values
use Rattle.som_model.specs.Lists.{Mem, among, some, place_from, doubles}
use Rattle.som_model.specs.Keys.{same_key}
use Rattle.som_model.specs.Kernel.{som_object}
use Rattle.som_model.proofs.KeyLaws.{Exact, exact_bytes, exact_keys}
use Rattle.som_model.proofs.NamedLaws.{out_named}
use Rattle.som_image_decode.specs.declared.directory.Directory.{Directory}
use Rattle.som_image_decode.specs.Naming.{Differ}
use Rattle.som_image_encode.specs.Numbering.{IsKnown, IsValue, name_in_key, key_name, IsDeclared, class_names, AreNamed, IsDirectory, number_of, slot_of}
use Rattle.som_image_decode.proofs.Places.{place_found, own_place, distinct_names}

-- the type of a value can be the type of a result
pub as_type : (ks : List ClassKey) (t : ValueType) → IsValue ks t → IsKnown ks t
as_type ks values.Void h = absurd h
as_type ks values.Long h = tt
as_type ks values.Boolean h = tt
as_type ks values.Str h = tt
as_type ks (values.Class k) h = h

-- ---- lists from a place on

pub drop_at : {A : Type 0} (xs : List A) (i : ℕ) (d : A) → i < length xs → drop i xs ≡ get_or xs i d ∷ drop (i + 1) xs
drop_at [] i d lt = absurd (omega arith)
drop_at (x ∷ xs) zero d lt = refl
drop_at (x ∷ xs) (suc i) d lt = let e : suc i + 1 ≡ suc (i + 1) = omega arith in rw e (drop_at xs i d (omega arith))

pub drop_end : {A : Type 0} (xs : List A) (i : ℕ) → length xs < i + 1 → drop i xs ≡ []
drop_end [] zero h = refl
drop_end [] (suc i) h = refl
drop_end (x ∷ xs) zero h = absurd (omega arith)
drop_end (x ∷ xs) (suc i) h = drop_end xs i (omega arith)

-- ---- the names of classes, one after the other

-- no name stood before, so far and to come
pub record NamesSoFar (names : List (List ℕ)) (i : ℕ) (seen : List (List ℕ)) : Type 0 where
  pub new : doubles bytes_eq seen (drop i names) ≡ []
  pub joined : seen ++ drop i names ≡ names

none_more : (b : Bool) (x : List ℕ) (xs ys : List (List ℕ)) → (if b then x ∷ xs else ys) ≡ [] → (b ≡ false) × (ys ≡ [])
none_more true x xs ys h = absurd cc
none_more false x xs ys h = (refl, h)

-- before the first of them
pub names_first : (names : List (List ℕ)) → Differ names → NamesSoFar names 0 []
names_first names h = record { new = h; joined = refl }

names_by : (names : List (List ℕ)) (i : ℕ) (name : List ℕ) (rest seen now : List (List ℕ)) (is_new b : Bool) → drop i names ≡ name ∷ rest
    → drop (i + 1) names ≡ rest → among name seen ≡ b → is_new ≡ not b → now ≡ (if is_new then seen ++ name ∷ [] else seen) → NamesSoFar names i seen → NamesSoFar names (i + 1) now
names_by names i name rest seen now is_new b at next e n k so =
    let new : doubles bytes_eq seen (name ∷ rest) ≡ [] = subst (λ (l : List (List ℕ)). doubles bytes_eq seen l ≡ []) at so.new in
    let joined : seen ++ (name ∷ rest) ≡ names = subst (λ (l : List (List ℕ)). seen ++ l ≡ names) at so.joined in
    let two = none_more (some (bytes_eq name) seen) name (doubles bytes_eq seen rest) (doubles bytes_eq (seen ++ name ∷ []) rest) new in
    let is : is_new ≡ true = n ∙ ap not (sym e ∙ two.0) in
    let here : now ≡ seen ++ name ∷ [] = k ∙ ap (λ (x : Bool). if x then seen ++ name ∷ [] else seen) is in
    subst (λ (l : List (List ℕ)). NamesSoFar names (i + 1) l) (sym here) (record {
      new = subst (λ (l : List (List ℕ)). doubles bytes_eq (seen ++ name ∷ []) l ≡ []) (sym next) two.1;
      joined = subst (λ (l : List (List ℕ)). (seen ++ name ∷ []) ++ l ≡ names) (sym next) (append_assoc seen (name ∷ []) rest ∙ joined);
    })

-- a name more
pub names_more : (ks : List ClassKey) (i : ℕ) (k : ClassKey) (name : List ℕ) (seen now : List (List ℕ)) (is_new : Bool) → i < length ks → k ≡ get_or ks i k → name ≡ key_name k
    → is_new ≡ not (among name seen) → now ≡ (if is_new then seen ++ name ∷ [] else seen) → NamesSoFar (map key_name ks) i seen → NamesSoFar (map key_name ks) (i + 1) now
names_more ks i k name seen now is_new lt is named n e so =
    let at : get_or (map key_name ks) i [] ≡ name = get_or-map key_name ks i k [] lt ∙ ap key_name (sym is) ∙ sym named in
    let many : length (map key_name ks) ≡ length ks = length-map ks key_name in
    names_by (map key_name ks) i name (drop (i + 1) (map key_name ks)) seen now is_new (among name seen)
    (drop_at (map key_name ks) i [] (omega (arith, lt, many)) ∙ ap (λ (x : List ℕ). x ∷ drop (i + 1) (map key_name ks)) at) refl refl n e so

pub names_end : (ks : List ClassKey) (i : ℕ) (seen : List (List ℕ)) → length ks < i + 1 → NamesSoFar (map key_name ks) i seen → seen ≡ map key_name ks
names_end ks i seen over so =
    let many : length (map key_name ks) ≡ length ks = length-map ks key_name in
    sym (append-nil seen) ∙ subst (λ (l : List (List ℕ)). seen ++ l ≡ map key_name ks) (drop_end (map key_name ks) i (omega (arith, over, many))) so.joined

-- ---- what is a member has a place

-- an item of a list stands at a place of it
pub record StandsAt {A : Type 0} (xs : List A) (x : A) (n : ℕ) : Type 0 where
  pub within : n < length xs
  pub there : (d : A) → get_or xs n d ≡ x

-- a member has a first place
pub first_place : {A : Type 0} (same : A → A → Bool) → Exact same → (x : A) (xs : List A) (start : ℕ) → Mem x xs → is_some (place_from start (λ y. same y x) xs) ≡ true
first_place same exact x [] start m = absurd m
first_place same exact x (y ∷ ys) start (inl e) =
    let here : same y x ≡ true = ap (λ z. same z x) (sym e) ∙ exact.one x in
    rw here refl
first_place same exact x (y ∷ ys) start (inr m) = by (same y x) (first_place same exact x ys (suc start) m)
  where
    by : (b : Bool) → is_some (place_from (suc start) (λ z. same z x) ys) ≡ true → is_some (if b then Some start else place_from (suc start) (λ z. same z x) ys) ≡ true
    by true h = refl
    by false h = h

placed_at : {A : Type 0} (same : A → A → Bool) → Exact same → (x : A) (xs : List A) (o : Option ℕ) → place_from 0 (λ y. same y x) xs ≡ o → is_some o ≡ true → StandsAt xs x (unwrap_or o 0)
placed_at same exact x xs None e h = absurd (true≢false (sym h))
placed_at same exact x xs (Some n) e h =
    let f = place_found (λ y. same y x) xs 0 n e in
    let at : f.at ≡ n = omega (arith, f.is_at) in
    let what = exact.two f.what x f.passes in
    record { within = omega (arith, at, f.within); there = λ d. ap (λ i. get_or xs i d) (sym at) ∙ f.there d ∙ what }

-- and there it stands
pub placed : {A : Type 0} (same : A → A → Bool) → Exact same → (x : A) (xs : List A) → Mem x xs → StandsAt xs x (unwrap_or (place_from 0 (λ y. same y x) xs) 0)
placed same exact x xs m = placed_at same exact x xs (place_from 0 (λ y. same y x) xs) refl (first_place same exact x xs 0 m)

abbrev some_number : ℕ → Option ℕ
some_number n = Some n

number_is : (a b : ℕ) → some_number a ≡ some_number b → a ≡ b
number_is a b e = cc

-- names that differ stand at one place each
pub one_place : (names : List (List ℕ)) → Differ names → (i j : ℕ) → i < length names → j < length names → get_or names i [] ≡ get_or names j [] → i ≡ j
one_place names differ i j li lj e =
    let distinct = distinct_names names differ in
    let a = own_place bytes_eq exact_bytes names distinct 0 i [] li in
    let b = own_place bytes_eq exact_bytes names distinct 0 j [] lj in
    let same = ap (λ (name : List ℕ). place_from 0 (λ x. bytes_eq x name) names) e in
    omega (arith, number_is (0 + i) (0 + j) (sym a ∙ same ∙ b))

-- ---- keys by names

-- a declared class has its name
pub name_of_named : (m : Module) (x : List ℕ) → key_name (keys.Named m x) ≡ x
name_of_named m x = ap name_in_key (out_named m x)

-- a class with its name before others
pub named_first : (k : ClassKey) (x : List ℕ) → key_name k ≡ x → (ks : List ClassKey) (xs : List (List ℕ)) → map key_name ks ≡ xs → map key_name (k ∷ ks) ≡ x ∷ xs
named_first k x e ks xs es = ap (λ (y : List ℕ). y ∷ map key_name ks) e ∙ ap (λ (ys : List (List ℕ)). x ∷ ys) es

-- the name of a class that is there is among the names
pub name_among : (ks : List ClassKey) (m : Module) (x : List ℕ) → Mem (keys.Named m x) ks → among x (map key_name ks) ≡ true
name_among [] m x h = absurd h
name_among (k ∷ ks) m x (inl e) =
    let same : key_name k ≡ x = ap key_name (sym e) ∙ name_of_named m x in
    let here : bytes_eq x (key_name k) ≡ true = ap (λ (z : List ℕ). bytes_eq x z) same ∙ exact_bytes.one x in
    rw here refl
name_among (k ∷ ks) m x (inr h) = by (bytes_eq x (key_name k)) (name_among ks m x h)
  where
    by : (b : Bool) → among x (map key_name ks) ≡ true → (if b then true else among x (map key_name ks)) ≡ true
    by true e = refl
    by false e = e

-- a class that is made of others isn't declared
made_of_others : (k : ClassKey) (layer : ClassKey-F ClassKey) → out-ClassKey k ≡ layer → ((m : Module) (x : List ℕ) → layer ≡ ClassKey-F.Named m x → ⊥) → IsDeclared k → ⊥
made_of_others k layer is other d = other d.0 d.1 (sym is ∙ ap out-ClassKey d.2 ∙ out_named d.0 d.1)

pub no_derived : (k : ClassKey) (ps : List ClassKey) → k ≡ keys.Derived ps → IsDeclared k → ⊥
no_derived k ps is = made_of_others k (ClassKey-F.Derived ps) (ap out-ClassKey (is ∙ sym (rolls-Derived ps)) ∙ out-roll-ClassKey (ClassKey-F.Derived ps)) (λ m x e. cc)

pub no_proxy : (k of : ClassKey) → k ≡ keys.Proxy of → IsDeclared k → ⊥
no_proxy k of is = made_of_others k (ClassKey-F.Proxy of) (ap out-ClassKey (is ∙ sym (rolls-Proxy of)) ∙ out-roll-ClassKey (ClassKey-F.Proxy of)) (λ m x e. cc)

all_there : {A : Type 0} (P : A → Type 0) (xs : List A) (x : A) → AllByRecursion P xs → Mem x xs → P x
all_there P [] x h m = absurd m
all_there P (y ∷ ys) x h (inl e) = subst P (sym e) h.0
all_there P (y ∷ ys) x h (inr m) = all_there P ys x h.1 m

-- each class that is there is declared
pub declared_there : (d : Directory) → AreNamed d → (k : ClassKey) → Mem k d.keys → IsDeclared k
declared_there d named k m = all_there IsDeclared d.keys k (recursion_from_All IsDeclared d.keys named.declared) m

-- the number of a class whose name stands there
pub number_place : (d : Directory) → AreNamed d → (m : Module) (x : List ℕ) (p : ℕ) → p < length (class_names d) → get_or (class_names d) p [] ≡ x → Mem (keys.Named m x) d.keys → number_of d.keys (keys.Named m x) ≡ p
number_place d named m x p lt at known =
    let n : ℕ = number_of d.keys (keys.Named m x) in
    let s = placed same_key exact_keys (keys.Named m x) d.keys known in
    let many : length (class_names d) ≡ length d.keys = length-map d.keys key_name in
    let there : get_or (class_names d) n [] ≡ x = get_or-map key_name d.keys n som_object [] s.within ∙ ap key_name (s.there som_object) ∙ name_of_named m x in
    one_place (class_names d) named.differ n p (omega (arith, s.within, many)) lt (there ∙ sym at)

-- ---- slots

-- a name stands from this place on, and where it stands first
pub record FurtherOn (names : List (List ℕ)) (name : List ℕ) (i : ℕ) : Type 0 where
  pub mem : Mem name (drop i names)
  pub place : place_from i (λ x. bytes_eq x name) (drop i names) ≡ place_from 0 (λ x. bytes_eq x name) names

pub slot_first : (names : List (List ℕ)) (name : List ℕ) → Mem name names → FurtherOn names name 0
slot_first names name h = record { mem = h; place = refl }

pub slot_here : (names : List (List ℕ)) (name x : List ℕ) (i : ℕ) → i < length names → x ≡ get_or names i x → bytes_eq x name ≡ true → FurtherOn names name i → i ≡ slot_of names name
slot_here names name x i lt is same on =
    let at = drop_at names i x lt ∙ ap (λ (y : List ℕ). y ∷ drop (i + 1) names) (sym is) in
    let found : place_from i (λ y. bytes_eq y name) (x ∷ drop (i + 1) names) ≡ Some i = ap (λ (b : Bool). if b then Some i else place_from (suc i) (λ y. bytes_eq y name) (drop (i + 1) names)) same in
    ap (λ (o : Option ℕ). unwrap_or o 0) (sym found ∙ ap (place_from i (λ y. bytes_eq y name)) (sym at) ∙ on.place)

mem_later : (name x : List ℕ) (xs : List (List ℕ)) → bytes_eq x name ≡ false → Mem name (x ∷ xs) → Mem name xs
mem_later name x xs other (inl e) = absurd (true≢false (sym (exact_bytes.one name) ∙ ap (λ (y : List ℕ). bytes_eq y name) e ∙ other))
mem_later name x xs other (inr m) = m

pub slot_later : (names : List (List ℕ)) (name x : List ℕ) (i : ℕ) → i < length names → x ≡ get_or names i x → bytes_eq x name ≡ false → FurtherOn names name i → FurtherOn names name (i + 1)
slot_later names name x i lt is other on =
    let next : suc i ≡ i + 1 = omega arith in
    let at = drop_at names i x lt ∙ ap (λ (y : List ℕ). y ∷ drop (i + 1) names) (sym is) in
    let later : place_from i (λ y. bytes_eq y name) (x ∷ drop (i + 1) names) ≡ place_from (suc i) (λ y. bytes_eq y name) (drop (i + 1) names) = ap (λ (b : Bool). if b then Some i else place_from (suc i) (λ y. bytes_eq y name) (drop (i + 1) names)) other in
    record {
      mem = mem_later name x (drop (i + 1) names) other (subst (Mem name) at on.mem);
      place = ap (λ (n : ℕ). place_from n (λ y. bytes_eq y name) (drop (i + 1) names)) (sym next) ∙ sym later ∙ ap (place_from i (λ y. bytes_eq y name)) (sym at) ∙ on.place;
    }

pub slot_nowhere : (names : List (List ℕ)) (name : List ℕ) (i : ℕ) → length names < i + 1 → FurtherOn names name i → ⊥
slot_nowhere names name i over on = subst (Mem name) (drop_end names i over) on.mem

-- ---- a class is looked up

module _ (names : List (List ℕ)) (d : Directory) (is_directory : IsDirectory names d) (k : ClassKey) (known : Mem k d.keys) where
  pub name_there : (m : Module) (x : List ℕ) → k ≡ keys.Named m x → false ≡ among x names → ⊥
  name_there m x is none =
      true≢false (sym (name_among d.keys m x (subst (λ z. Mem z d.keys) is known)) ∙ ap (λ (ns : List (List ℕ)). among x ns) (sym is_directory.are) ∙ sym none)

  pub found_there : (m : Module) (x : List ℕ) (p : ℕ) → k ≡ keys.Named m x → p < length names → get_or names p [] ≡ x → p ≡ number_of d.keys k
  found_there m x p is lt at =
      let within : p < length (class_names d) = subst (λ (ns : List (List ℕ)). p < length ns) is_directory.are lt in
      let there : get_or (class_names d) p [] ≡ x = subst (λ (ns : List (List ℕ)). get_or ns p [] ≡ x) is_directory.are at in
      sym (ap (λ z. number_of d.keys z) is ∙ number_place d is_directory.named m x p within there (subst (λ z. Mem z d.keys) is known))

  pub not_derived : (ps : List ClassKey) → k ≡ keys.Derived ps → ⊥
  not_derived ps is = no_derived k ps is (declared_there d is_directory.named k known)

  pub not_proxy : (of : ClassKey) → k ≡ keys.Proxy of → ⊥
  not_proxy of is = no_proxy k of is (declared_there d is_directory.named k known)
