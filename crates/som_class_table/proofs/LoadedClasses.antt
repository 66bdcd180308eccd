-- What is known of classes that are loaded, and that they are.
use Rattle.std.proofs.Common.{◌≡◌, ◌↔◌, Result, Ok, Err, OnOk, OnErr, ℕ, zero, suc, ◌+◌, ◌<◌, ◌≤◌, inl, inr, List, [], ◌∷◌, ◌++◌, length, flat_map, Some, slice_get, sym, ap, ◌∙◌, subst, arith}
use Rattle.std.proofs.lemmas.Bool.{cases_lt}
use Rattle.std.proofs.lemmas.List.{length-map}
use Rattle.som_model.specs.declared.key.ClassKey.{ClassKey}
use Rattle.som_model.specs.declared.key.ClassKey.TheVariants as keys
use Rattle.som_model.specs.declared.syntax.Block.{Block}
use Rattle.som_model.specs.declared.limits.TheConstants.{MAX_LAID_CLASSES}
use Rattle.som_model.specs.Lists.{Mem}
use Rattle.som_model.specs.Class.{Class}
use Rattle.som_model.specs.Kernel.{kernel}
use Rattle.som_model.specs.Loads.{IsOrdered, Loads, keys_of}
use Rattle.som_model.specs.Made.{all_roots, blocks_of, proxies_in}
use Rattle.som_model.specs.Owner.{introduced_by}
use Rattle.som_model_laws.proofs.Members.{mem_split}
use Rattle.som_model_laws.specs.Metaclasses.{IsDeclared}
use Rattle.som_model_laws.proofs.Lists.{map_mem, mem_get}
use Rattle.som_model_laws.proofs.Standing as standing
use Rattle.som_meta.specs.Numbering.{AreApart, IsNumbered, Numbering, key_at, tokens_from, tokens_of}
use Rattle.som_class_ids.specs.declared.keyed.Keyed.{Keyed}
use Rattle.som_class_ids.specs.declared.position.Kind.TheVariants as kinds
use Rattle.som_class_ids.specs.Classes.{AreDeclared, class_of, classes_of}
use Rattle.som_class_ids.specs.Numbers.{AreFirst, with_key}
use Rattle.som_class_ids.proofs.Adding.{not_named}
use Rattle.som_class_ids.proofs.Declaring.{at_mem, mem_at}
use Rattle.som_class_ids.proofs.Making.{some_class}
use Rattle.som_class_methods.specs.Owners.{AreFaces}
use Rattle.som_class_methods.specs.Members.{AreNamed, CanLay}
use Rattle.som_proxy_uses.specs.Proxied.{proxies_of}
use Rattle.som_proxy_uses.proofs.Known.{declared_law}
use Rattle.som_class_table.specs.Targets.{HaveTargets}
use Rattle.som_class_table.proofs.Loading as loading
use Rattle.som_class_table.proofs.LoadedProxies.{one_proxy}
use Rattle.som_class_table.specs.Loaded.{AreLoaded}
use Rattle.som_class_methods.specs.Tokens.{IsOwners}
use Rattle.som_class_methods.specs.declared.owners.Owners.{Owners}
use Rattle.som_class_methods.specs.Own.{IsMembers}
use Rattle.som_class_methods.specs.declared.members.Members.{Members}
use Rattle.som_class_methods.proofs.Growing.{growing, growing_owners}
use Rattle.som_class_table.specs.Kept.{AreIntroduced, IsClasses}
use Rattle.som_class_table.proofs.Proxying.{with_classes, with_mem}

-- what loaded classes are

pub declared : (k : Numbering) → AreLoaded k → AreDeclared k.classes
declared k l = subst AreDeclared (sym l.is) (loading.are_declared l.others l.main l.loads)

pub faces : (k : Numbering) → AreLoaded k → AreFaces k.classes
faces k l = subst AreFaces (sym l.is) (loading.are_faces l.others l.main l.loads)

pub named : (k : Numbering) → AreLoaded k → AreNamed k.classes
named k l = subst AreNamed (sym l.is) (loading.named l.others l.main l.loads)

pub laid : (k : Numbering) → AreLoaded k → CanLay k
laid k l = loading.can_lay l.others l.main l.loads k l.is l.apart l.targets

-- no proxy and no derived class is declared

pub not_proxy : (of : ClassKey) → IsDeclared (keys.Proxy of) → ⊥
not_proxy of d = not_named kinds.Proxy (of ∷ []) (λ e. cc) d.module_ d.name d.is

pub not_derived : (ks : List ClassKey) → IsDeclared (keys.Derived ks) → ⊥
not_derived ks d = not_named kinds.Derived ks (λ e. cc) d.module_ d.name d.is

pub is_declared : (cs : List Class) → IsOrdered cs → (x : ClassKey) → Mem x (keys_of (kernel ++ cs)) → IsDeclared x
is_declared cs o x m =
    let c = map_mem (λ (z : Class). z.key) x (kernel ++ cs) m in
    let r = standing.keyed cs o c.0 c.1 in
    record { module_ = r.0; name = r.1; is = c.2 ∙ r.2 }

key_there : (k : Numbering) (n : ℕ) → IsNumbered k n → Mem (key_at k n) k.keys
key_there k n lt = at_mem k.keys n lt

-- the kernel's classes and others, few enough
pub few : (ks all : List Keyed) (main : Block) → Loads (classes_of ks) main → classes_of all ≡ kernel ++ classes_of ks → length all ≤ MAX_LAID_CLASSES + 4
few ks all main loads e =
    let long : length all ≡ length (kernel ++ classes_of ks) = sym (length-map all class_of) ∙ ap length e in
    let most = loading.are_few (classes_of ks) main loads in
    omega (arith, long, most)

pub all_declared : (ks all : List Keyed) (main : Block) → Loads (classes_of ks) main → classes_of all ≡ kernel ++ classes_of ks → AreDeclared (classes_of all)
all_declared ks all main loads e = subst AreDeclared (sym e) (loading.are_declared (classes_of ks) main loads)

-- the first numbers are those of the classes that can be loaded, and the others those of the proxies that blocks name
module _ (cs : List Class) (main : Block) (loads : Loads cs main) (k : Numbering) (is : k.classes ≡ kernel ++ cs) (first : AreFirst k) (apart : AreApart k) (proxied : List ClassKey)
    (are : proxies_of proxied ≡ flat_map proxies_in (blocks_of cs main)) (keys_are : (x : ClassKey) → Mem x k.keys ↔ Mem x (keys_of (kernel ++ cs) ++ proxies_of proxied)) where
  all_are : keys_of (kernel ++ cs) ++ proxies_of proxied ≡ all_roots k.classes main
  all_are = ap (λ l. keys_of (kernel ++ cs) ++ l) are ∙ ap (λ l. all_roots l main) (sym is)

  pub roots : (x : ClassKey) → Mem x k.keys ↔ Mem x (all_roots k.classes main)
  roots x = subst (λ l. Mem x k.keys ↔ Mem x l) all_are (keys_are x)

  some_target : (n : ℕ) (of : ClassKey) → IsNumbered k n → key_at k n ≡ keys.Proxy of → Mem of (keys_of k.classes)
  some_target n of lt e = elim (mem_split (key_at k n) (keys_of (kernel ++ cs)) (proxies_of proxied) ((keys_are (key_at k n)).0 (key_there k n lt))) [
    | inl m ↦ absurd (not_proxy of (subst IsDeclared e (is_declared cs loads.faces.ordered (key_at k n) m)))
    | inr m ↦ (
        let r = map_mem keys.Proxy (key_at k n) proxied m in
        let there = declared_law cs main loads proxied are r.0 r.1 in
        subst (λ (z : ClassKey). Mem z (keys_of k.classes)) (one_proxy r.0 of (sym r.2 ∙ e)) (subst (λ (l : List Class). Mem r.0 (keys_of l)) (sym is) there))
  ]

  all_made : (n : ℕ) → IsNumbered k n → length k.classes ≤ n → IsDeclared (key_at k n) → ⊥
  all_made n lt le d = elim (mem_split (key_at k n) (keys_of (kernel ++ cs)) (proxies_of proxied) ((keys_are (key_at k n)).0 (key_there k n lt))) [
    | inl m ↦ (
        let c = map_mem (λ (z : Class). z.key) (key_at k n) (kernel ++ cs) m in
        let i = mem_get (kernel ++ cs) c.0 c.1 in
        let at : slice_get k.classes i.0 ≡ Some c.0 = ap (λ (l : List Class). slice_get l i.0) is ∙ i.1 in
        let same : n ≡ i.0 = apart n i.0 lt (first.numbered i.0 c.0 at) (c.2 ∙ sym (first.key i.0 c.0 at)) in
        let low = get_within k.classes i.0 c.0 at in
        omega (arith, same, low, le))
    | inr m ↦ (let r = map_mem keys.Proxy (key_at k n) proxied m in not_proxy r.0 (subst IsDeclared r.2 d))
  ]
    where
      get_within : (xs : List Class) (i : ℕ) (x : Class) → slice_get xs i ≡ Some x → i < length xs
      get_within [] i x e = absurd (cc)
      get_within (y ∷ xs) zero x e = omega arith
      get_within (y ∷ xs) (suc i) x e = let l = get_within xs i x e in omega (arith, l)

  pub are_loaded : AreLoaded k
  are_loaded = record { others = cs; main = main; is = is; loads = loads; first = first; made = all_made; apart = apart; targets = some_target }

-- one class more that is derived from others
module _ (k : Numbering) (l : AreLoaded k) (ks : List ClassKey) (new : Numbering) (is : new ≡ with_key k (keys.Derived ks)) (first : AreFirst new) (apart : AreApart new) where
  same_classes : new.classes ≡ k.classes
  same_classes = ap (λ (z : Numbering). z.classes) is ∙ with_classes k (keys.Derived ks)

  -- declared classes keep their keys
  key_stays : (n : ℕ) → n < length k.classes → key_at new n ≡ key_at k n
  key_stays n lt =
      let c = some_class k.classes n lt in
      first.key n c.0 (ap (λ (z : List Class). slice_get z n) same_classes ∙ c.1) ∙ sym (l.first.key n c.0 c.1)

  still_made : (n : ℕ) → IsNumbered new n → length new.classes ≤ n → IsDeclared (key_at new n) → ⊥
  still_made n lt le d =
      let there : Mem (key_at new n) (with_key k (keys.Derived ks)).keys = subst (λ (z : Numbering). Mem (key_at new n) z.keys) is (key_there new n lt) in
      elim (mem_split (key_at new n) k.keys (keys.Derived ks ∷ []) ((with_mem k (keys.Derived ks) (key_at new n)).0 there)) [
        | inl old ↦ (let m = mem_at k.keys (key_at new n) old in by m.0 m.1 m.2)
        | inr last ↦ elim last [ inl e ↦ not_derived ks (subst IsDeclared e d) | inr z ↦ z ]
      ]
    where
      by : (m : ℕ) → IsNumbered k m → key_at k m ≡ key_at new n → ⊥
      by m im e = elim (cases_lt m (length k.classes)) [
        | inl low ↦ (
            let c = some_class k.classes m low in
            let at : slice_get new.classes m ≡ Some c.0 = ap (λ (z : List Class). slice_get z m) same_classes ∙ c.1 in
            let same = apart n m lt (first.numbered m c.0 at) (sym e ∙ sym (key_stays m low)) in
            let long = ap length same_classes in
            omega (arith, same, low, le, long))
        | inr ge ↦ l.made m im ge (subst IsDeclared (sym e) d)
      ]

  pub still_loaded : AreLoaded new
  still_loaded = record {
    others = l.others;
    main = l.main;
    is = same_classes ∙ l.is;
    loads = l.loads;
    first = first;
    made = still_made;
    apart = apart;
    targets = subst HaveTargets (sym is) (loading.grown_derived k l.targets ks);
  }

  tokens_stay : (n : ℕ) → n < length k.classes → tokens_of k n ≡ tokens_of new n
  tokens_stay n lt = sym (ap (λ (z : List Class). tokens_from n 0 (length (introduced_by z (key_at new n)))) same_classes ∙ ap (λ z. tokens_from n 0 (length (introduced_by k.classes z))) (key_stays n lt))

  pub still_introduced : (all : List (List (ℕ × ℕ))) → AreIntroduced k all → AreIntroduced new all
  still_introduced all are n lt = (let low : n < length k.classes = (let long = ap length same_classes in omega (arith, lt, long)) in are n low ∙ ap (λ z. Some z) (tokens_stay n low))

-- what the numbers of the kernel's classes and others begin with, and where the proxies that blocks name get numbers

module _ (ks all : List Keyed) (main : Block) (loads : Loads (classes_of ks) main) (all_are : classes_of all ≡ kernel ++ classes_of ks) (start k : Numbering)
    (start_is : start ≡ record { classes = classes_of all; keys = keys_of (classes_of all) }) (classes_are : k.classes ≡ start.classes) (proxied : List ClassKey)
    (are : proxies_of proxied ≡ flat_map proxies_in (blocks_of (classes_of ks) main)) (keys_are : (x : ClassKey) → Mem x k.keys ↔ Mem x (start.keys ++ proxies_of proxied))
    (first : AreFirst k) (apart : AreApart k) where
  pub all_classes : k.classes ≡ kernel ++ classes_of ks
  all_classes = classes_are ∙ ap (λ (z : Numbering). z.classes) start_is ∙ all_are

  all_keys : (x : ClassKey) → Mem x k.keys ↔ Mem x (keys_of (kernel ++ classes_of ks) ++ proxies_of proxied)
  all_keys x = subst (λ (l : List ClassKey). Mem x k.keys ↔ Mem x (l ++ proxies_of proxied)) (ap (λ (z : Numbering). z.keys) start_is ∙ ap keys_of all_are) (keys_are x)

  pub all_roots_are : (x : ClassKey) → Mem x k.keys ↔ Mem x (all_roots k.classes main)
  all_roots_are = roots (classes_of ks) main loads k all_classes first apart proxied are all_keys

  pub all_loaded : AreLoaded k
  all_loaded = are_loaded (classes_of ks) main loads k all_classes first apart proxied are all_keys

pub proxied_known : (ks all : List Keyed) (main : Block) → Loads (classes_of ks) main → classes_of all ≡ kernel ++ classes_of ks → (start : Numbering)
    → start ≡ record { classes = classes_of all; keys = keys_of (classes_of all) } → (proxied : List ClassKey) → proxies_of proxied ≡ flat_map proxies_in (blocks_of (classes_of ks) main)
    → (x : ClassKey) → Mem x proxied → Mem x (keys_of start.classes)
proxied_known ks all main loads all_are start start_is proxied are x m =
    subst (λ (l : List Class). Mem x (keys_of l)) (sym (ap (λ (z : Numbering). z.classes) start_is ∙ all_are)) (declared_law (classes_of ks) main loads proxied are x m)

-- what a `Classes` keeps where a class gets a number that is derived from others
pub kept_derived : {E : Type 0} (r : Result ℕ E) (old new : Numbering) (ks : List ClassKey) (owners : Owners) (members : Members) (introduced : List (List (ℕ × ℕ))) (none : List (ℕ × ℕ))
    → IsClasses old owners members introduced none → OnOk r (new ≡ with_key old (keys.Derived ks)) → OnErr r (new ≡ old) → AreFirst new → AreApart new → IsClasses new owners members introduced none
kept_derived (Ok n) old new ks owners members introduced none kept is same first apart = record {
  loaded = still_loaded old kept.loaded ks new is first apart;
  owners_are = subst (λ (z : Numbering). IsOwners z owners) (sym is) (growing_owners old (keys.Derived ks) owners kept.owners_are);
  members_are = subst (λ (z : Numbering). IsMembers z members) (sym is) (growing old (keys.Derived ks) members kept.members_are);
  introduced_are = still_introduced old kept.loaded ks new is first apart introduced kept.introduced_are;
  nothing = kept.nothing;
}
kept_derived (Err e) old new ks owners members introduced none kept is same first apart = subst (λ (z : Numbering). IsClasses z owners members introduced none) (sym same) kept
