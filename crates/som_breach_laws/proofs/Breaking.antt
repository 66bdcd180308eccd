-- The first breach of compatibility, from the lists of what breaks each rule, and back.
use Rattle.std.proofs.Common.{◌≡◌, ℕ, suc, ◌<◌, ◌≤◌, ◌+◌, ◌==◌, nat_le, inl, inr, Bool, true, false, ◌&&◌, if◌then◌else◌, List, [], ◌∷◌, ◌++◌, map, flat_map, Option, Some, None, slice_get, refl, sym, ap, ◌∙◌, subst, arith, true≢false}
use Rattle.som_model.specs.declared.key.ClassKey.{ClassKey}
use Rattle.som_model.specs.declared.program.Interface.{Interface}
use Rattle.som_model.specs.Lists.{Mem, first, option_list}
use Rattle.som_model.specs.Same.{same_option, same_sig}
use Rattle.som_model.specs.Ancestors.{Descends}
use Rattle.som_model.specs.Class.{Class}
use Rattle.som_model.specs.Classes.{ancestors, class_at, hierarchy, interface_classes, is_a}
use Rattle.som_model.specs.Loads.{IsOrdered}
use Rattle.som_model.specs.Metaclass.{meta}
use Rattle.som_model.specs.Compatible.{CompatBreach, Compatible, class_breaks, declared_name, failing, first_break, first_changed, incompatible, k2, k3, k4, k5, k6, order_of, release_of, signature}
use Rattle.som_model.proofs.KeyLaws.{Exact, both}
use Rattle.som_model.proofs.SameLaws.{exact_option, exact_sigs}
use Rattle.som_model_laws.proofs.Lists.{get_mem}
use Rattle.som_release_laws.proofs.Facing.{tested, tests}
use Rattle.som_breach_laws.specs.Firsts.{HoldsOfEach, IsFirstAt}
use Rattle.som_breach_laws.specs.Breaking.{Breaks, IsFirstBreach, IsNew, KeepsAll, KeepsAncestor, KeepsBelow, KeepsMetaclass, KeepsPlace, KeepsSignature, KeepsVersion, lost, older, loses_ancestor, moves_slot, changes_signature, loses_metaclass}
use Rattle.som_breach_laws.proofs.Pairs.{at_new, new_at}
use Rattle.som_breach_laws.proofs.Lists.{ToldAt, at_option, changes_first, changes_none, fails_first, fails_none, first_changes, first_fails, first_flat, first_left, first_map, first_right, first_split, flat_first, flat_none, map_first, map_none, none_both, none_changes, none_fails, none_flat, none_left, option_at, some_one}

sigs : Exact (same_option same_sig)
sigs = exact_option same_sig exact_sigs

-- ---- K2

version_ok : (a b c d : ℕ) → (a == b) && nat_le c d ≡ true → (a ≡ b) × (c ≤ d)
version_ok a b c d e = let r = both (a == b) (nat_le c d) e in let x = r.0 in let y = r.1 in (grind (arith, x), grind (arith, y))

ok_version : (a b c d : ℕ) → a ≡ b → c ≤ d → (a == b) && nat_le c d ≡ true
ok_version a b c d e le = let x : (a == b) ≡ true = grind (arith, e) in let y : nat_le c d ≡ true = grind (arith, le) in rw x y

abbrev version_test : Class → Class → Bool
version_test c n = (c.decl.face.major == n.decl.face.major) && nat_le c.decl.face.minor n.decl.face.minor

version_kept : (c n : Class) → (c.decl.face.major == n.decl.face.major) && nat_le c.decl.face.minor n.decl.face.minor ≡ true → KeepsVersion c n
version_kept c n e =
    let r = version_ok c.decl.face.major n.decl.face.major c.decl.face.minor n.decl.face.minor e in
    record { major = r.0; minor = r.1 }

kept_version : (c n : Class) → KeepsVersion c n → (c.decl.face.major == n.decl.face.major) && nat_le c.decl.face.minor n.decl.face.minor ≡ true
kept_version c n k = ok_version c.decl.face.major n.decl.face.major c.decl.face.minor n.decl.face.minor k.major k.minor

if_none : (b : Bool) (x : CompatBreach) → (if b then [] else x ∷ []) ≡ [] → b ≡ true
if_none true x e = refl
if_none false x e = absurd (cc)

if_first : (b : Bool) (x y : CompatBreach) → first (if b then [] else x ∷ []) ≡ Some y → (b ≡ false) × (y ≡ x)
if_first true x y e = absurd (cc)
if_first false x y e = (refl, cc)

if_kept : (b : Bool) (x : CompatBreach) → b ≡ true → (if b then [] else x ∷ []) ≡ []
if_kept b x e = rw e refl

if_broken : (b : Bool) (x : CompatBreach) → b ≡ false → first (if b then [] else x ∷ []) ≡ Some x
if_broken b x e = rw e refl

not_kept : (b : Bool) → (b ≡ true → ⊥) → b ≡ false
not_kept true f = absurd (f refl)
not_kept false f = refl

pub none_k2 : (c n : Class) → k2 c n ≡ [] → KeepsVersion c n
none_k2 c n e = version_kept c n (if_none (version_test c n) (incompatible 2 c None 0) e)

pub k2_none : (c n : Class) → KeepsVersion c n → k2 c n ≡ []
k2_none c n k = if_kept (version_test c n) (incompatible 2 c None 0) (kept_version c n k)

pub first_k2 : (c n : Class) (b : CompatBreach) → first (k2 c n) ≡ Some b → (b ≡ incompatible 2 c None 0) × (KeepsVersion c n → ⊥)
first_k2 c n b e = let r = if_first (version_test c n) (incompatible 2 c None 0) b e in (r.1, λ k. true≢false (sym (kept_version c n k) ∙ r.0))

pub k2_first : (c n : Class) → (KeepsVersion c n → ⊥) → first (k2 c n) ≡ Some (incompatible 2 c None 0)
k2_first c n f = if_broken (version_test c n) (incompatible 2 c None 0) (not_kept (version_test c n) (λ e. f (version_kept c n e)))

module _ (old new : Interface) (on : IsOrdered (interface_classes new)) where
  abbrev O : List Class
  O = release_of old

  abbrev N : List Class
  N = release_of new

  -- ---- K3, K5 and K6 by their tests

  abbrev NewAncestor : Class → ClassKey → Type 0
  NewAncestor c a = Descends (hierarchy N) c.key a

  abbrev SameSignature : Class → List ℕ → Type 0
  SameSignature c name = signature O c.key name ≡ signature N c.key name

  abbrev same_signature : Class → List ℕ → Bool
  same_signature c name = same_option same_sig (signature O c.key name) (signature N c.key name)

  same_yes : (c : Class) (name : List ℕ) → same_signature c name ≡ true → SameSignature c name
  same_yes c name t = sigs.two (signature O c.key name) (signature N c.key name) t

  same_no : (c : Class) (name : List ℕ) → SameSignature c name → same_signature c name ≡ true
  same_no c name e = ap (same_option same_sig (signature O c.key name)) (sym e) ∙ sigs.one (signature O c.key name)

  abbrev yes : (x a : ClassKey) → is_a N x a ≡ true → Descends (hierarchy N) x a
  yes = tested (interface_classes new) on

  abbrev no : (x a : ClassKey) → Descends (hierarchy N) x a → is_a N x a ≡ true
  no = tests (interface_classes new) on

  module _ (c n : Class) where
    none_k3 : k3 O N c ≡ [] → HoldsOfEach (KeepsAncestor new c) (ancestors O c.key)
    none_k3 e = none_fails (is_a N c.key) (NewAncestor c) (yes c.key) (no c.key) 0 (ancestors O c.key) (map_none _ _ e)

    k3_none : HoldsOfEach (KeepsAncestor new c) (ancestors O c.key) → k3 O N c ≡ []
    k3_none h = ap (map _) (fails_none (is_a N c.key) (NewAncestor c) (yes c.key) (no c.key) 0 (ancestors O c.key) h)

    none_k4 : k4 c n ≡ [] → HoldsOfEach (KeepsPlace n) (order_of c)
    none_k4 e = none_changes 0 (order_of c) (order_of n) (map_none _ _ e)

    k4_none : HoldsOfEach (KeepsPlace n) (order_of c) → k4 c n ≡ []
    k4_none h = ap (map _) (changes_none 0 (order_of c) (order_of n) h)

    none_k5 : k5 O N c ≡ [] → HoldsOfEach (KeepsSignature old new c) (order_of c)
    none_k5 e = none_fails (same_signature c) (SameSignature c) (same_yes c) (same_no c) 0 (order_of c) (map_none _ _ e)

    k5_none : HoldsOfEach (KeepsSignature old new c) (order_of c) → k5 O N c ≡ []
    k5_none h = ap (map _) (fails_none (same_signature c) (SameSignature c) (same_yes c) (same_no c) 0 (order_of c) h)

    none_k6 : k6 N c ≡ [] → (m : ClassKey) → c.decl.face.metaclass ≡ Some m → KeepsMetaclass new c m
    none_k6 e m is =
        none_fails (is_a N (meta N c.key)) (Descends (hierarchy N) (meta N c.key)) (yes (meta N c.key)) (no (meta N c.key)) 0 (option_list c.decl.face.metaclass) (map_none _ _ e)
        0 m (at_option c.decl.face.metaclass m is)

    k6_none : ((m : ClassKey) → c.decl.face.metaclass ≡ Some m → KeepsMetaclass new c m) → k6 N c ≡ []
    k6_none h = ap (map _) (fails_none (is_a N (meta N c.key)) (Descends (hierarchy N) (meta N c.key)) (yes (meta N c.key)) (no (meta N c.key)) 0 (option_list c.decl.face.metaclass)
        (λ i m at. h m (option_at c.decl.face.metaclass i m at).1))

    -- what the first of each list tells

    first_k3 : (b : CompatBreach) → first (k3 O N c) ≡ Some b → (place : ℕ) × (a : ClassKey) × (b ≡ incompatible 3 c (declared_name a) place) × IsFirstAt (KeepsAncestor new c) (ancestors O c.key) place a
    first_k3 b e =
        let r = first_map (λ (p : ClassKey × ℕ). incompatible 3 c (declared_name p.0) p.1) (failing (is_a N c.key) 0 (ancestors O c.key)) b e in
        let t = first_fails (is_a N c.key) (NewAncestor c) (yes c.key) (no c.key) 0 (ancestors O c.key) r.0 r.1 in
        let is : r.0.1 ≡ t.place = let k = t.counted in omega (arith, k) in
        (t.place, r.0.0, r.2 ∙ ap (incompatible 3 c (declared_name r.0.0)) is, t.is_first)

    k3_first : (place : ℕ) (a : ClassKey) → IsFirstAt (KeepsAncestor new c) (ancestors O c.key) place a → first (k3 O N c) ≡ Some (incompatible 3 c (declared_name a) place)
    k3_first place a f =
        let is : 0 + place ≡ place = omega arith in
        map_first (λ (p : ClassKey × ℕ). incompatible 3 c (declared_name p.0) p.1) (failing (is_a N c.key) 0 (ancestors O c.key)) (a, 0 + place)
        (fails_first (is_a N c.key) (NewAncestor c) (yes c.key) (no c.key) 0 (ancestors O c.key) place a f)
        ∙ ap (λ z. Some (incompatible 3 c (declared_name a) z)) is

    first_k4 : (b : CompatBreach) → first (k4 c n) ≡ Some b → (place : ℕ) × (name : List ℕ) × (b ≡ incompatible 4 c (Some name) place) × IsFirstAt (KeepsPlace n) (order_of c) place name
    first_k4 b e =
        let r = first_map (λ (p : List ℕ × ℕ). incompatible 4 c (Some p.0) p.1) (first_changed 0 (order_of c) (order_of n)) b e in
        let t = first_changes 0 (order_of c) (order_of n) r.0 r.1 in
        let is : r.0.1 ≡ t.place = let k = t.counted in omega (arith, k) in
        (t.place, r.0.0, r.2 ∙ ap (incompatible 4 c (Some r.0.0)) is, t.is_first)

    k4_first : (place : ℕ) (name : List ℕ) → IsFirstAt (KeepsPlace n) (order_of c) place name → first (k4 c n) ≡ Some (incompatible 4 c (Some name) place)
    k4_first place name f =
        let is : 0 + place ≡ place = omega arith in
        map_first (λ (p : List ℕ × ℕ). incompatible 4 c (Some p.0) p.1) (first_changed 0 (order_of c) (order_of n)) (name, 0 + place)
        (changes_first 0 (order_of c) (order_of n) place name f)
        ∙ ap (λ z. Some (incompatible 4 c (Some name) z)) is

    first_k5 : (b : CompatBreach) → first (k5 O N c) ≡ Some b → (place : ℕ) × (name : List ℕ) × (b ≡ incompatible 5 c (Some name) place) × IsFirstAt (KeepsSignature old new c) (order_of c) place name
    first_k5 b e =
        let r = first_map (λ (p : List ℕ × ℕ). incompatible 5 c (Some p.0) p.1) (failing (same_signature c) 0 (order_of c)) b e in
        let t = first_fails (same_signature c) (SameSignature c) (same_yes c) (same_no c) 0 (order_of c) r.0 r.1 in
        let is : r.0.1 ≡ t.place = let k = t.counted in omega (arith, k) in
        (t.place, r.0.0, r.2 ∙ ap (incompatible 5 c (Some r.0.0)) is, t.is_first)

    k5_first : (place : ℕ) (name : List ℕ) → IsFirstAt (KeepsSignature old new c) (order_of c) place name → first (k5 O N c) ≡ Some (incompatible 5 c (Some name) place)
    k5_first place name f =
        let is : 0 + place ≡ place = omega arith in
        map_first (λ (p : List ℕ × ℕ). incompatible 5 c (Some p.0) p.1) (failing (same_signature c) 0 (order_of c)) (name, 0 + place)
        (fails_first (same_signature c) (SameSignature c) (same_yes c) (same_no c) 0 (order_of c) place name f)
        ∙ ap (λ z. Some (incompatible 5 c (Some name) z)) is

    first_k6 : (b : CompatBreach) → first (k6 N c) ≡ Some b → (m : ClassKey) × (b ≡ incompatible 6 c (declared_name m) 0) × (c.decl.face.metaclass ≡ Some m) × (KeepsMetaclass new c m → ⊥)
    first_k6 b e =
        let r = first_map (λ (p : ClassKey × ℕ). incompatible 6 c (declared_name p.0) p.1) (failing (is_a N (meta N c.key)) 0 (option_list c.decl.face.metaclass)) b e in
        let t = first_fails (is_a N (meta N c.key)) (Descends (hierarchy N) (meta N c.key)) (yes (meta N c.key)) (no (meta N c.key)) 0 (option_list c.decl.face.metaclass) r.0 r.1 in
        let o = option_at c.decl.face.metaclass t.place r.0.0 t.is_first.there in
        let is : r.0.1 ≡ 0 = let k = t.counted in let z = o.0 in omega (arith, k, z) in
        (r.0.0, r.2 ∙ ap (incompatible 6 c (declared_name r.0.0)) is, o.1, t.is_first.fails)

    k6_first : (m : ClassKey) → c.decl.face.metaclass ≡ Some m → (KeepsMetaclass new c m → ⊥) → first (k6 N c) ≡ Some (incompatible 6 c (declared_name m) 0)
    k6_first m is f =
        map_first (λ (p : ClassKey × ℕ). incompatible 6 c (declared_name p.0) p.1) (failing (is_a N (meta N c.key)) 0 (option_list c.decl.face.metaclass)) (m, 0)
        (fails_first (is_a N (meta N c.key)) (Descends (hierarchy N) (meta N c.key)) (yes (meta N c.key)) (no (meta N c.key)) 0 (option_list c.decl.face.metaclass) 0 m
        (record { there = at_option c.decl.face.metaclass m is; fails = f; before = λ i y lt. absurd (omega (arith, lt)) }))

  -- ---- the lists of one class, by what is found of its name

  abbrev lists : Class → Class → List CompatBreach
  lists c n = k2 c n ++ (k3 O N c ++ (k4 c n ++ (k5 O N c ++ k6 N c)))

  abbrev broken : Class → Option Class → List CompatBreach
  broken c o = elim o [
    | None ↦ incompatible 1 c None 0 ∷ []
    | Some n ↦ lists c n
  ]

  broken_is : (c : Class) (o : Option Class) → class_at N c.key ≡ o → class_breaks O N c ≡ broken c o
  broken_is c o e = ap (broken c) e

  none_lists : (c n : Class) → lists c n ≡ [] → KeepsBelow old new c n 7
  none_lists c n e =
      let a = none_left (k2 c n) _ e in
      let b = none_left (k3 O N c) _ a.1 in
      let d = none_left (k4 c n) _ b.1 in
      let g = none_left (k5 O N c) (k6 N c) d.1 in
      record {
        version = λ lt. none_k2 c n a.0;
        descent = λ lt. none_k3 c n b.0;
        places = λ lt. none_k4 c n d.0;
        signatures = λ lt. none_k5 c n g.0;
        metaclass = λ lt. none_k6 c n g.1;
      }

  lists_none : (c n : Class) → KeepsBelow old new c n 7 → lists c n ≡ []
  lists_none c n k =
      none_both (k2 c n) _ (k2_none c n (k.version (omega arith))) (none_both (k3 O N c) _ (k3_none c n (k.descent (omega arith)))
      (none_both (k4 c n) _ (k4_none c n (k.places (omega arith))) (none_both (k5 O N c) (k6 N c) (k5_none c n (k.signatures (omega arith))) (k6_none c n (k.metaclass (omega arith))))))

  keeps_by : (c : Class) → Mem c (interface_classes old) → (o : Option Class) → class_at N c.key ≡ o → broken c o ≡ [] → KeepsAll old new c
  keeps_by c m None e f = absurd (cc)
  keeps_by c m (Some n) e f = record { counterpart = n; is_new = new_at old new on c n m e; rules = none_lists c n f }

  pub keeps_all : (c : Class) → Mem c (interface_classes old) → class_breaks O N c ≡ [] → KeepsAll old new c
  keeps_all c m e = keeps_by c m (class_at N c.key) refl (sym (broken_is c (class_at N c.key) refl) ∙ e)

  pub all_kept : (c : Class) → Mem c (interface_classes old) → KeepsAll old new c → class_breaks O N c ≡ []
  all_kept c m k = broken_is c (Some k.counterpart) (at_new old new on c k.counterpart m k.is_new) ∙ lists_none c k.counterpart k.rules

  -- ---- the first breach of one class

  below : (c n : Class) (rule : ℕ) → (2 < rule → k2 c n ≡ []) → (3 < rule → k3 O N c ≡ []) → (4 < rule → k4 c n ≡ []) → (5 < rule → k5 O N c ≡ []) → (6 < rule → k6 N c ≡ []) → KeepsBelow old new c n rule
  below c n rule two three four five six = record {
    version = λ lt. none_k2 c n (two lt);
    descent = λ lt. none_k3 c n (three lt);
    places = λ lt. none_k4 c n (four lt);
    signatures = λ lt. none_k5 c n (five lt);
    metaclass = λ lt. none_k6 c n (six lt);
  }

  breaks_six : (c n : Class) (b : CompatBreach) → IsNew new c n → k2 c n ≡ [] → k3 O N c ≡ [] → k4 c n ≡ [] → k5 O N c ≡ [] → first (k6 N c) ≡ Some b → Breaks old new c b
  breaks_six c n b is two three four five e =
      let r = first_k6 c n b e in
      loses_metaclass n is (below c n 6 (λ lt. two) (λ lt. three) (λ lt. four) (λ lt. five) (λ lt. absurd (omega (arith, lt)))) r.0 r.1 r.2 r.3

  breaks_five : (c n : Class) (b : CompatBreach) → IsNew new c n → k2 c n ≡ [] → k3 O N c ≡ [] → k4 c n ≡ [] → first (k5 O N c ++ k6 N c) ≡ Some b → Breaks old new c b
  breaks_five c n b is two three four e = elim (first_split (k5 O N c) (k6 N c) b e) [
    | inl g ↦ (
        let r = first_k5 c n b g in
        changes_signature n is (below c n 5 (λ lt. two) (λ lt. three) (λ lt. four) (λ lt. absurd (omega (arith, lt))) (λ lt. absurd (omega (arith, lt)))) r.0 r.1 r.2 r.3)
    | inr g ↦ breaks_six c n b is two three four g.0 g.1
  ]

  breaks_four : (c n : Class) (b : CompatBreach) → IsNew new c n → k2 c n ≡ [] → k3 O N c ≡ [] → first (k4 c n ++ (k5 O N c ++ k6 N c)) ≡ Some b → Breaks old new c b
  breaks_four c n b is two three e = elim (first_split (k4 c n) (k5 O N c ++ k6 N c) b e) [
    | inl g ↦ (
        let r = first_k4 c n b g in
        moves_slot n is (below c n 4 (λ lt. two) (λ lt. three) (λ lt. absurd (omega (arith, lt))) (λ lt. absurd (omega (arith, lt))) (λ lt. absurd (omega (arith, lt)))) r.0 r.1 r.2 r.3)
    | inr g ↦ breaks_five c n b is two three g.0 g.1
  ]

  breaks_three : (c n : Class) (b : CompatBreach) → IsNew new c n → k2 c n ≡ [] → first (k3 O N c ++ (k4 c n ++ (k5 O N c ++ k6 N c))) ≡ Some b → Breaks old new c b
  breaks_three c n b is two e = elim (first_split (k3 O N c) (k4 c n ++ (k5 O N c ++ k6 N c)) b e) [
    | inl g ↦ (
        let r = first_k3 c n b g in
        loses_ancestor n is (below c n 3 (λ lt. two) (λ lt. absurd (omega (arith, lt))) (λ lt. absurd (omega (arith, lt))) (λ lt. absurd (omega (arith, lt))) (λ lt. absurd (omega (arith, lt)))) r.0 r.1 r.2 r.3)
    | inr g ↦ breaks_four c n b is two g.0 g.1
  ]

  no_class : (n : Class) (o : Option Class) → o ≡ Some n → o ≡ None → ⊥
  no_class n o x y = cc

  breaks_by : (c : Class) (b : CompatBreach) → Mem c (interface_classes old) → (o : Option Class) → class_at N c.key ≡ o → first (broken c o) ≡ Some b → Breaks old new c b
  breaks_by c b m None e f = lost (sym (some_one (incompatible 1 c None 0) b f)) (λ n is. no_class n (class_at N c.key) (at_new old new on c n m is) e)
  breaks_by c b m (Some n) e f = elim (first_split (k2 c n) (k3 O N c ++ (k4 c n ++ (k5 O N c ++ k6 N c))) b f) [
    | inl g ↦ (
        let r = first_k2 c n b g in
        older n (new_at old new on c n m e) (below c n 2 (λ lt. absurd (omega (arith, lt))) (λ lt. absurd (omega (arith, lt))) (λ lt. absurd (omega (arith, lt))) (λ lt. absurd (omega (arith, lt))) (λ lt. absurd (omega (arith, lt)))) r.0 r.1)
    | inr g ↦ breaks_three c n b (new_at old new on c n m e) g.0 g.1
  ]

  some_class : (c : Class) (o : Option Class) → class_at N c.key ≡ o → ((n : Class) → class_at N c.key ≡ Some n → ⊥) → o ≡ None
  some_class c None e f = refl
  some_class c (Some n) e f = absurd (f n e)

  -- behind rules that hold
  past_two : (c n : Class) (b : CompatBreach) → KeepsVersion c n → first (k3 O N c ++ (k4 c n ++ (k5 O N c ++ k6 N c))) ≡ Some b → first (lists c n) ≡ Some b
  past_two c n b k e = first_right (k2 c n) _ b (k2_none c n k) e

  past_three : (c n : Class) (b : CompatBreach) → KeepsVersion c n → HoldsOfEach (KeepsAncestor new c) (ancestors O c.key) → first (k4 c n ++ (k5 O N c ++ k6 N c)) ≡ Some b → first (lists c n) ≡ Some b
  past_three c n b k h e = past_two c n b k (first_right (k3 O N c) _ b (k3_none c n h) e)

  past_four : (c n : Class) (b : CompatBreach) → KeepsVersion c n → HoldsOfEach (KeepsAncestor new c) (ancestors O c.key) → HoldsOfEach (KeepsPlace n) (order_of c) → first (k5 O N c ++ k6 N c) ≡ Some b → first (lists c n) ≡ Some b
  past_four c n b k h p e = past_three c n b k h (first_right (k4 c n) _ b (k4_none c n p) e)

  told : (c n : Class) (b x : CompatBreach) → Mem c (interface_classes old) → IsNew new c n → b ≡ x → first (lists c n) ≡ Some x → first (class_breaks O N c) ≡ Some b
  told c n b x m is same e = ap first (broken_is c (Some n) (at_new old new on c n m is)) ∙ e ∙ ap (λ z. Some z) (sym same)

  pub class_told : (c : Class) (b : CompatBreach) → Mem c (interface_classes old) → Breaks old new c b → first (class_breaks O N c) ≡ Some b
  class_told c b m (lost same f) =
      ap first (broken_is c None (some_class c (class_at N c.key) refl (λ n e. f n (new_at old new on c n m e)))) ∙ ap (λ z. Some z) (sym same)
  class_told c b m (older n is k same f) = told c n b _ m is same (first_left (k2 c n) _ _ (k2_first c n f))
  class_told c b m (loses_ancestor n is k place a same f) =
      told c n b _ m is same (past_two c n _ (k.version (omega arith)) (first_left (k3 O N c) _ _ (k3_first c n place a f)))
  class_told c b m (moves_slot n is k place name same f) =
      told c n b _ m is same (past_three c n _ (k.version (omega arith)) (k.descent (omega arith)) (first_left (k4 c n) _ _ (k4_first c n place name f)))
  class_told c b m (changes_signature n is k place name same f) =
      told c n b _ m is same (past_four c n _ (k.version (omega arith)) (k.descent (omega arith)) (k.places (omega arith)) (first_left (k5 O N c) (k6 N c) _ (k5_first c n place name f)))
  class_told c b m (loses_metaclass n is k w same has f) =
      told c n b _ m is same (past_four c n _ (k.version (omega arith)) (k.descent (omega arith)) (k.places (omega arith))
      (first_right (k5 O N c) (k6 N c) _ (k5_none c n (k.signatures (omega arith))) (k6_first c n w has f)))

  -- ---- the first breach of all

  pub first_told : (b : CompatBreach) → first_break old new ≡ Some b → IsFirstBreach old new b
  first_told b e =
      let r = flat_first (class_breaks O N) (interface_classes old) b e in
      let m = get_mem (interface_classes old) r.number r.item r.there in
      record {
        number = r.number;
        class = r.item;
        there = r.there;
        before = λ i c lt at. keeps_all c (get_mem (interface_classes old) i c at) (r.before i c lt at);
        breaks = breaks_by r.item b m (class_at N r.item.key) refl (ap first (sym (broken_is r.item (class_at N r.item.key) refl)) ∙ r.begins);
      }

  pub told_first : (b : CompatBreach) → IsFirstBreach old new b → first_break old new ≡ Some b
  told_first b f =
      first_flat (class_breaks O N) (interface_classes old) b f.number f.class f.there
      (λ i c lt at. all_kept c (get_mem (interface_classes old) i c at) (f.before i c lt at))
      (class_told f.class b (get_mem (interface_classes old) f.number f.class f.there) f.breaks)

  -- no breach is told exactly where each class keeps all

  pub none_told : Compatible old new → (c : Class) → Mem c (interface_classes old) → KeepsAll old new c
  none_told e c m = keeps_all c m (flat_none (class_breaks O N) (interface_classes old) e c m)

  pub told_none : ((c : Class) → Mem c (interface_classes old) → KeepsAll old new c) → Compatible old new
  told_none keep = none_flat (class_breaks O N) (interface_classes old) (λ c m. all_kept c m (keep c m))

  pub one_breach : (a b : CompatBreach) → IsFirstBreach old new a → IsFirstBreach old new b → a ≡ b
  one_breach a b f g = one (first_break old new) (told_first a f) (told_first b g)
    where
      one : (o : Option CompatBreach) → o ≡ Some a → o ≡ Some b → a ≡ b
      one o x y = cc
