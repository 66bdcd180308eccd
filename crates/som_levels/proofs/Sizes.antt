-- Names of a flat base by places, and places by levels.
use Rattle.std.proofs.Common.{◌≡◌, ℕ, zero, suc, ◌+◌, ◌-◌, ◌<◌, ◌≤◌, inl, inr, Bool, true, false, if◌then◌else◌, List, [], ◌∷◌, ◌++◌, drop, get_or, length, map, nat_lt, not, sum, take, refl, sym, ap, ◌∙◌, subst, arith, true≢false}
use Rattle.std.proofs.lemmas.List.{length-map, take-map, take-append-drop, take_more}
use Rattle.std.proofs.lemmas.List.Sums.{sum_by-cons}
use Rattle.std.specs.Str.{bytes_eq}
use Rattle.som_model.specs.Lists.{Mem, among, doubles}
use Rattle.som_model.specs.declared.class.ClassFace.{ClassFace}
use Rattle.som_model.specs.declared.key.Module.TheVariants as modules
use Rattle.som_model.proofs.KeyLaws.{exact_bytes}
use Rattle.som_model_laws.proofs.Members.{Apart, mem_left, mem_right, mem_some, not_true, some_mem}
use Rattle.som_model_laws.proofs.Lists.{doubles_apart}
use Rattle.som_level_laws.specs.Levels.{level_module}
use Rattle.som_level_programs.specs.ByLevels.{level_named, split}
use Rattle.som_order.specs.Names.{name_at}
use Rattle.som_levels.specs.Places.{level_at}

-- ---- lists

abbrev names_in : List ClassFace → List (List ℕ)
names_in faces = map (λ (face : ClassFace). face.name) faces

at_mem : {A : Type 0} (xs : List A) (i : ℕ) (d : A) → i < length xs → Mem (get_or xs i d) xs
at_mem [] i d lt = absurd (omega (arith, lt))
at_mem (x ∷ xs) zero d lt = inl refl
at_mem (x ∷ xs) (suc i) d lt = inr (at_mem xs i d (omega (arith, lt)))

at_front : {A : Type 0} (n : ℕ) (xs : List A) (i : ℕ) (d : A) → i < n → i < length xs → Mem (get_or xs i d) (take n xs)
at_front zero xs i d lt in_ = absurd (omega (arith, lt))
at_front (suc n) [] i d lt in_ = absurd (omega (arith, in_))
at_front (suc n) (x ∷ xs) zero d lt in_ = inl refl
at_front (suc n) (x ∷ xs) (suc i) d lt in_ = inr (at_front n xs i d (omega (arith, lt)) (omega (arith, in_)))

not_front : {A : Type 0} (n : ℕ) (xs : List A) (i : ℕ) (d : A) → Apart xs → n ≤ i → i < length xs → Mem (get_or xs i d) (take n xs) → ⊥
not_front zero xs i d apart le lt m = m
not_front (suc n) [] i d apart le lt m = omega (arith, lt)
not_front (suc n) (x ∷ xs) zero d apart le lt m = omega (arith, le)
not_front (suc n) (x ∷ xs) (suc i) d apart le lt (inl e) = apart.0 (subst (λ z. Mem z xs) e (at_mem xs i d (omega (arith, lt))))
not_front (suc n) (x ∷ xs) (suc i) d apart le lt (inr m) = not_front n xs i d apart.1 (omega (arith, le)) (omega (arith, lt)) m

apart_drop : {A : Type 0} (n : ℕ) (xs : List A) → Apart xs → Apart (drop n xs)
apart_drop zero xs apart = apart
apart_drop (suc n) [] apart = apart
apart_drop (suc n) (x ∷ xs) apart = apart_drop n xs apart.1

at_drop : {A : Type 0} (n : ℕ) (xs : List A) (i : ℕ) (d : A) → n ≤ i → get_or (drop n xs) (i - n) d ≡ get_or xs i d
at_drop zero xs i d le = (let e : i - 0 ≡ i = omega arith in ap (λ z. get_or xs z d) e)
at_drop (suc n) [] i d le = refl
at_drop (suc n) (x ∷ xs) zero d le = absurd (omega (arith, le))
at_drop (suc n) (x ∷ xs) (suc i) d le = (let e : suc i - suc n ≡ i - n = omega arith in ap (λ z. get_or (drop n xs) z d) e ∙ at_drop n xs i d (omega (arith, le)))

long_drop : {A : Type 0} (n : ℕ) (xs : List A) (i : ℕ) → n ≤ i → i < length xs → i - n < length (drop n xs)
long_drop zero xs i le lt = omega (arith, lt)
long_drop (suc n) [] i le lt = omega (arith, lt)
long_drop (suc n) (x ∷ xs) zero le lt = absurd (omega (arith, le))
long_drop (suc n) (x ∷ xs) (suc i) le lt = (let r = long_drop n xs i (omega (arith, le)) (omega (arith, lt)) in omega (arith, r))

drop-map : {A B : Type 0} (f : A → B) (n : ℕ) (xs : List A) → drop n (map f xs) ≡ map f (drop n xs)
drop-map f zero xs = refl
drop-map f (suc n) [] = refl
drop-map f (suc n) (x ∷ xs) = drop-map f n xs

take_mem : {A : Type 0} (n : ℕ) (xs : List A) (a : A) → Mem a (take n xs) → Mem a xs
take_mem n xs a m = subst (λ l. Mem a l) (take-append-drop n xs) (mem_left a (take n xs) (drop n xs) m)

drop_mem : {A : Type 0} (n : ℕ) (xs : List A) (a : A) → Mem a (drop n xs) → Mem a xs
drop_mem n xs a m = subst (λ l. Mem a l) (take-append-drop n xs) (mem_right a (take n xs) (drop n xs) m)

-- ---- a name among others

is_among : (name : List ℕ) (names : List (List ℕ)) → Mem name names → among name names ≡ true
is_among name names m = mem_some (bytes_eq name) name names m (exact_bytes.one name)

not_among : (name : List ℕ) (names : List (List ℕ)) → (Mem name names → ⊥) → among name names ≡ false
not_among name names f = not_true (among name names) (λ e. (let r = some_mem (bytes_eq name) names e in f (subst (λ z. Mem z names) (sym (exact_bytes.two name r.0 r.2)) r.1)))

among_mem : (name : List ℕ) (names : List (List ℕ)) → among name names ≡ false → Mem name names → ⊥
among_mem name names e m = true≢false (sym (is_among name names m) ∙ e)

-- ---- levels of names

-- the level of a name is that of its place
pub named_at : (k : ℕ) (sizes : List ℕ) (faces : List ClassFace) (name : List ℕ) (place : ℕ) → Apart (names_in faces) → place < length (names_in faces) → name_at (names_in faces) place ≡ name → place < sum sizes
    → level_named k (split sizes faces) name ≡ level_module (k + level_at sizes place)
named_at k [] faces name place apart there is lt = absurd (omega (arith, lt))
named_at k (size ∷ sizes) faces name place apart there is lt = by (nat_lt place size) refl (λ below among_them named few. named_at (suc k) sizes (drop size faces) name (place - size) below among_them named few)
  where
    -- the names of the first level
    first : names_in (take size faces) ≡ take size (names_in faces)
    first = sym (take-map (λ (face : ClassFace). face.name) size faces)

    rest : names_in (drop size faces) ≡ drop size (names_in faces)
    rest = sym (drop-map (λ (face : ClassFace). face.name) size faces)

    here : place < size → among name (names_in (take size faces)) ≡ true
    here low = is_among name (names_in (take size faces)) (subst (λ l. Mem name l) (sym first) (subst (λ z. Mem z (take size (names_in faces))) is (at_front size (names_in faces) place [] low there)))

    further : size ≤ place → among name (names_in (take size faces)) ≡ false
    further high = not_among name (names_in (take size faces)) (λ m. not_front size (names_in faces) place [] apart high there (subst (λ z. Mem z (take size (names_in faces))) (sym is) (subst (λ l. Mem name l) first m)))

    by : (b : Bool) → nat_lt place size ≡ b
        → (Apart (names_in (drop size faces)) → place - size < length (names_in (drop size faces)) → name_at (names_in (drop size faces)) (place - size) ≡ name → place - size < sum sizes
        → level_named (suc k) (split sizes (drop size faces)) name ≡ level_module (suc k + level_at sizes (place - size)))
        → level_named k (split (size ∷ sizes) faces) name ≡ level_module (k + level_at (size ∷ sizes) place)
    by true e further_on =
        let low : place < size = grind (arith, e) in
        let zeroth : k ≡ k + 0 = omega arith in
        ap (λ (b : Bool). if b then level_module k else level_named (suc k) (split sizes (drop size faces)) name) (here low)
        ∙ ap level_module (zeroth ∙ ap (λ (b : Bool). k + (if b then 0 else suc (level_at sizes (place - size)))) (sym e))
    by false e further_on =
        let high : size ≤ place = grind (arith, e) in
        let all = sum_by-cons (λ (n : ℕ). n) size sizes in
        let later = further_on (subst (λ l. Apart l) (sym rest) (apart_drop size (names_in faces) apart))
        (subst (λ l. place - size < length l) (sym rest) (long_drop size (names_in faces) place high there))
        (ap (λ l. name_at l (place - size)) rest ∙ at_drop size (names_in faces) place [] high ∙ is) (omega (arith, lt, high, all)) in
        let moved : suc k + level_at sizes (place - size) ≡ k + suc (level_at sizes (place - size)) = omega arith in
        ap (λ (b : Bool). if b then level_module k else level_named (suc k) (split sizes (drop size faces)) name) (further high)
        ∙ later ∙ ap level_module (moved ∙ ap (λ (b : Bool). k + (if b then 0 else suc (level_at sizes (place - size)))) (sym e))

-- a name that no class has is of no level
pub none_named : (k : ℕ) (sizes : List ℕ) (faces : List ClassFace) (name : List ℕ) → (Mem name (names_in faces) → ⊥) → level_named k (split sizes faces) name ≡ modules.Library
none_named k [] faces name f = refl
none_named k (size ∷ sizes) faces name f =
    let first : names_in (take size faces) ≡ take size (names_in faces) = sym (take-map (λ (face : ClassFace). face.name) size faces) in
    let rest : names_in (drop size faces) ≡ drop size (names_in faces) = sym (drop-map (λ (face : ClassFace). face.name) size faces) in
    ap (λ (b : Bool). if b then level_module k else level_named (suc k) (split sizes (drop size faces)) name)
    (not_among name (names_in (take size faces)) (λ m. f (take_mem size (names_in faces) name (subst (λ l. Mem name l) first m))))
    ∙ none_named (suc k) sizes (drop size faces) name (λ m. f (drop_mem size (names_in faces) name (subst (λ l. Mem name l) rest m)))

-- ---- for the code

pub base_named : (sizes : List ℕ) (faces : List ClassFace) (name : List ℕ) (keys : List (List ℕ)) (place : ℕ) → keys ≡ names_in faces → doubles bytes_eq [] (names_in faces) ≡ [] → sum sizes ≡ length faces
    → place < length keys → name_at keys place ≡ name → level_named 0 (split sizes faces) name ≡ level_module (level_at sizes place)
base_named sizes faces name keys place are differ all there is =
    let in_names : place < length (names_in faces) = subst (λ l. place < length l) are there in
    let long : length (names_in faces) ≡ length faces = length-map faces (λ (face : ClassFace). face.name) in
    let zeroth : 0 + level_at sizes place ≡ level_at sizes place = omega arith in
    named_at 0 sizes faces name place (doubles_apart bytes_eq exact_bytes (names_in faces) differ) in_names (ap (λ l. name_at l place) (sym are) ∙ is) (omega (arith, in_names, long, all))
    ∙ ap level_module zeroth

pub base_unnamed : (sizes : List ℕ) (faces : List ClassFace) (name : List ℕ) (keys : List (List ℕ)) → keys ≡ names_in faces → among name keys ≡ false → modules.Library ≡ level_named 0 (split sizes faces) name
base_unnamed sizes faces name keys are e = sym (none_named 0 sizes faces name (among_mem name (names_in faces) (ap (among name) (sym are) ∙ e)))

-- one name more, which is none of those before
pub name_new : (names : List (List ℕ)) (i : ℕ) (name : List ℕ) (old new : List (List ℕ)) (is_new : Bool) → doubles bytes_eq [] names ≡ [] → i < length names → name ≡ get_or names i name → old ≡ take i names
    → is_new ≡ not (among name old) → new ≡ (if is_new then old ++ name ∷ [] else old) → new ≡ take (i + 1) names
name_new names i name old new is_new differ lt is so tells adds =
    let apart = doubles_apart bytes_eq exact_bytes names differ in
    let away : among name old ≡ false = ap (among name) so ∙ not_among name (take i names) (λ m. not_front i names i name apart (omega arith) lt (subst (λ z. Mem z (take i names)) is m)) in
    let yes : is_new ≡ true = tells ∙ ap not away in
    adds ∙ ap (λ (b : Bool). if b then old ++ name ∷ [] else old) yes ∙ ap (λ l. l ++ name ∷ []) so ∙ ap (λ z. take i names ++ z ∷ []) is ∙ sym (take_more names i name lt)

-- the name of a face at a place
pub item_name : (faces : List ClassFace) (i : ℕ) (face : ClassFace) → i < length faces → face ≡ get_or faces i face → (i < length (names_in faces)) × (face.name ≡ get_or (names_in faces) i face.name)
item_name [] i face lt is = absurd (omega (arith, lt))
item_name (f ∷ fs) zero face lt is = (omega arith, ap (λ (z : ClassFace). z.name) is)
item_name (f ∷ fs) (suc i) face lt is = (let r = item_name fs i face (omega (arith, lt)) is in let low = r.0 in (omega (arith, low), r.1))
