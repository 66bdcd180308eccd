-- Of one level, what is broken first of levels is what is broken first of interfaces: that owners are kept is nothing new where all that stands earlier is kept.
use Rattle.std.proofs.Common.{◌≡◌, ℕ, ◌+◌, inl, inr, Bool, true, false, ◌&&◌, if◌then◌else◌, List, [], ◌∷◌, ◌++◌, append-nil, append_assoc, map, flat_map, Option, Some, None, IsSome, refl, sym, ap, ◌∙◌, subst}
use Rattle.std.specs.Option.{option_map}
use Rattle.std.specs.Prelude.{is_some}
use Rattle.std.specs.Str.{bytes_eq}
use Rattle.som_model.specs.declared.key.ClassKey.{ClassKey}
use Rattle.som_model.specs.declared.key.MethodRef.{MethodRef}
use Rattle.som_model.specs.declared.program.Interface.{Interface}
use Rattle.som_model.specs.Lists.{Mem, first}
use Rattle.som_model.specs.Keys.{same_key, same_method}
use Rattle.som_model.specs.Same.{same_option, same_sig}
use Rattle.som_model.specs.Ancestors.{Descends}
use Rattle.som_model.specs.Class.{Class, entry_name}
use Rattle.som_model.specs.Classes.{ancestors, class_at, hierarchy, interface_classes, is_a}
use Rattle.som_model.specs.Compatible.{CompatBreach, class_breaks, failing, first_break, incompatible, k2, k3, k4, k5, k6, order_of, signature}
use Rattle.som_model.specs.Kernel.{kernel}
use Rattle.som_model.specs.Loads.{FacesLoad, IsOrdered}
use Rattle.som_model.specs.Owner.{entry_at, introduces, owner}
use Rattle.som_model.proofs.KeyLaws.{exact_bytes, exact_keys}
use Rattle.som_model_laws.proofs.CompareLists.{none_fails, none_strays}
use Rattle.som_model_laws.proofs.Laws.{ancestors as ancestors_are, descends_through}
use Rattle.som_model_laws.proofs.Lists.{get_mem, mem_get, mem_map}
use Rattle.som_model_laws.proofs.Members.{mem_left, mem_right, mem_split}
use Rattle.som_model_laws.proofs.Owners.{entry_is, entry_mem, owner_owns}
use Rattle.som_model_laws.proofs.Standing.{falls, found, found_is, known_above, not_kernels, tells}
use Rattle.som_release_laws.specs.Releasing.{Once}
use Rattle.som_release_laws.proofs.Facing.{tested}
use Rattle.som_release_laws.proofs.Facts.{introduced_entry}
use Rattle.som_release_laws.proofs.Lists.{both_true, named_entry, none_left}
use Rattle.som_release_laws.proofs.OneOwner.{ref_one}
use Rattle.som_release_laws.proofs.Prefix.{descends_less, known_more, ordered}
use Rattle.som_level_laws.specs.Levels.{breaks_from, first_level_break, keeps_method, level_class_breaks, level_k5}

-- ---- the first of lists

map_nothing : {A B : Type 0} (f : A → B) (xs : List A) → map f xs ≡ [] → xs ≡ []
map_nothing f [] e = refl
map_nothing f (x ∷ xs) e = absurd (cc)

first_after : {A : Type 0} (xs ys zs : List A) → (xs ≡ [] → first ys ≡ first zs) → first (xs ++ ys) ≡ first (xs ++ zs)
first_after [] ys zs e = e refl
first_after (x ∷ xs) ys zs e = refl

first_joined : {A : Type 0} (xs us ys vs : List A) → first xs ≡ first us → (us ≡ [] → first ys ≡ first vs) → first (xs ++ ys) ≡ first (us ++ vs)
first_joined [] [] ys vs e f = f refl
first_joined [] (u ∷ us) ys vs e f = absurd (cc)
first_joined (x ∷ xs) [] ys vs e f = absurd (cc)
first_joined (x ∷ xs) (u ∷ us) ys vs e f = e

first_map : {A B : Type 0} (f : A → B) (xs : List A) → first (map f xs) ≡ option_map f (first xs)
first_map f [] = refl
first_map f (x ∷ xs) = refl

-- tests that agree on all fail at the same places
failing_same : {A : Type 0} (p q : A → Bool) (n : ℕ) (xs : List A) → ((x : A) → Mem x xs → p x ≡ q x) → failing p n xs ≡ failing q n xs
failing_same p q n [] e = refl
failing_same p q n (x ∷ xs) e =
    ap (λ b. if b then failing p (n + 1) xs else (x, n) ∷ failing p (n + 1) xs) (e x (inl refl))
    ∙ ap (λ l. if q x then l else (x, n) ∷ l) (failing_same p q (n + 1) xs (λ y m. e y (inr m)))

and_true : (a b : Bool) → b ≡ true → (a && b) ≡ a
and_true true b e = e
and_true false b e = refl

methods_same : (r s : MethodRef) → r ≡ s → same_method r s ≡ true
methods_same r s e =
    ap (same_method r) (sym e) ∙ both_true (same_key r.class r.class) (bytes_eq r.name r.name) (exact_keys.one r.class) (exact_bytes.one r.name)

-- ---- classes that keep K3 and K4

abbrev ref : ClassKey → List ℕ → MethodRef
ref k name = record { class = k; name = name }

-- a class is there in the new, and keeps K3 and K4
record Stays (O N : List Class) (c : Class) : Type 0 where
  pair : Class
  there : class_at N c.key ≡ Some pair
  three : k3 O N c ≡ []
  four : k4 c pair ≡ []

-- the owner of each entry is kept
abbrev KeepsOwners : List Class → List Class → Class → Type 0
KeepsOwners O N c = (name : List ℕ) → Mem name (order_of c) → owner N (ref c.key name) ≡ owner N (owner O (ref c.key name))

module _ (early late news : List Class) (fa : FacesLoad (early ++ late)) (fn : FacesLoad news) (once : Once (kernel ++ news) news)
    (stay : (c : Class) → Mem c early → Stays (kernel ++ (early ++ late)) (kernel ++ news) c) where
  abbrev A : List Class
  A = kernel ++ (early ++ late)

  abbrev F : List Class
  F = kernel ++ early

  abbrev N : List Class
  N = kernel ++ news

  early_ordered : IsOrdered early
  early_ordered = ordered early late fa.ordered

  -- an entry of an earlier class is there in the new
  entry_there : (c : Class) (k : ClassKey) (name : List ℕ) → Mem c early → c.key ≡ k → Mem name (order_of c) → IsSome (entry_at N k name)
  entry_there c k name m key has =
      let s = stay c m in
      let at = mem_get (order_of c) name has in
      let stays_at = none_strays 0 (order_of c) (order_of s.pair) (map_nothing _ _ s.four) at.0 name at.1 in
      let in_pair = get_mem (order_of s.pair) at.0 name stays_at in
      subst (λ z. IsSome (entry_at N z name)) key (ap is_some (entry_is N c.key name s.pair s.there) ∙ named_entry s.pair.decl.face.entries name in_pair)

  -- what an earlier class descends from, it does in the new
  goes_up : (c : Class) (a : ClassKey) → Mem c early → Descends (hierarchy A) c.key a → Descends (hierarchy N) c.key a
  goes_up c a m d =
      tested news fn.ordered c.key a (none_fails (is_a N c.key) 0 (ancestors A c.key) (map_nothing _ _ (stay c m).three) a
      ((ancestors_are (hierarchy A) (tells (early ++ late) fa.ordered) (falls (early ++ late) fa.ordered) c.key a).1 d))

  -- the pair of an earlier class is one of the new
  pair_there : (c : Class) (m : Mem c early) → Mem (stay c m).pair news × ((stay c m).pair.key ≡ c.key)
  pair_there c m =
      let s = stay c m in
      let r = found_is news fn.ordered c.key s.pair s.there in
      elim (mem_split s.pair kernel news r.0) [
        | inl x ↦ absurd (not_kernels (early ++ late) fa.ordered s.pair c x (mem_left c early late m) r.1)
        | inr x ↦ (x, r.1)
      ]

  owners_stay : (c : Class) → Mem c early → KeepsOwners A N c
  owners_stay c m name has =
      let k = c.key in
      let here : class_at F k ≡ Some c = found early early_ordered c k (mem_right c kernel early m) refl in
      let has_entry : IsSome (entry_at A k name) = ap is_some (entry_is A k name c (known_more early late fa.ordered k c here)) ∙ named_entry c.decl.face.entries name has in
      let s = owner A (ref k name) in
      let own_a = owner_owns (early ++ late) fa (ref k name) has_entry in
      let up = goes_up c s.class m own_a.above in
      let d = known_above early early_ordered k s.class c here (descends_less early late fa.ordered k s.class c here own_a.above) in
      let is_d = found_is early early_ordered s.class d.0 d.1 in
      let i = introduced_entry A s.name s.class own_a.introduced in
      let of_d = sym (entry_is A s.class s.name d.0 (known_more early late fa.ordered s.class d.0 d.1)) ∙ i.1 in
      let s_there : IsSome (entry_at N s.class s.name) = elim (mem_split d.0 kernel early is_d.0) [
        | inl x ↦ ap is_some (entry_is N s.class s.name d.0 (found news fn.ordered d.0 s.class (mem_left d.0 kernel news x) is_d.1) ∙ of_d)
        | inr x ↦ (
            let e = entry_mem d.0.decl.face.entries s.name i.0 of_d in
            entry_there d.0 s.class s.name x is_d.1 (subst (λ z. Mem z (order_of d.0)) e.1 (mem_map entry_name i.0 d.0.decl.face.entries e.0)))
      ] in
      let own_s = owner_owns news fn s s_there in
      let own_r = owner_owns news fn (ref k name) (entry_there c k name m refl has) in
      let names = own_r.name ∙ sym (own_s.name ∙ own_a.name) in
      let n = pair_there c m in
      let at_n : k ≡ (stay c m).pair.key = sym n.1 in
      let classes = once (stay c m).pair (owner N (ref k name)).class (owner N s).class (owner N (ref k name)).name n.0
      (subst (λ z. Descends (hierarchy N) z (owner N (ref k name)).class) at_n own_r.above)
      (subst (λ z. Descends (hierarchy N) z (owner N s).class) at_n (descends_through (hierarchy N) k s.class (owner N s).class up own_s.above))
      own_r.introduced (subst (λ z. introduces N z (owner N s).class ≡ true) (sym names) own_s.introduced) in
      ref_one (owner N (ref k name)) (owner N s) classes names

-- ---- what a class breaks first

module _ (O N : List Class) where
  five_same : (c : Class) → KeepsOwners O N c → level_k5 O N c ≡ k5 O N c
  five_same c kept =
      ap (map _) (failing_same (keeps_method O N c) (λ name. same_option same_sig (signature O c.key name) (signature N c.key name)) 0 (order_of c)
      (λ name m. and_true _ _ (methods_same (owner N (ref c.key name)) (owner N (owner O (ref c.key name))) (kept name m))))

  -- what a class breaks, by what it breaks of K5, and by what is found of its key
  abbrev broken : List CompatBreach → Class → Option Class → List CompatBreach
  broken five c o = elim o [
    | None ↦ incompatible 1 c None 0 ∷ []
    | Some n ↦ k2 c n ++ (k3 O N c ++ (k4 c n ++ (five ++ k6 N c)))
  ]

  first_by : (c : Class) (o : Option Class) → class_at N c.key ≡ o → (Stays O N c → KeepsOwners O N c) → first (broken (level_k5 O N c) c o) ≡ first (broken (k5 O N c) c o)
  first_by c None e kept = refl
  first_by c (Some n) e kept =
      first_after (k2 c n) (k3 O N c ++ (k4 c n ++ (level_k5 O N c ++ k6 N c))) (k3 O N c ++ (k4 c n ++ (k5 O N c ++ k6 N c))) (λ two.
      first_after (k3 O N c) (k4 c n ++ (level_k5 O N c ++ k6 N c)) (k4 c n ++ (k5 O N c ++ k6 N c)) (λ three.
      first_after (k4 c n) (level_k5 O N c ++ k6 N c) (k5 O N c ++ k6 N c) (λ four.
      ap (λ l. first (l ++ k6 N c)) (five_same c (kept (record { pair = n; there = e; three = three; four = four }))))))

  class_first : (c : Class) → (Stays O N c → KeepsOwners O N c) → first (level_class_breaks O N c) ≡ first (class_breaks O N c)
  class_first c kept = first_by c (class_at N c.key) refl kept

  stays_by : (c : Class) (o : Option Class) → class_at N c.key ≡ o → broken (k5 O N c) c o ≡ [] → Stays O N c
  stays_by c None f e = absurd (cc)
  stays_by c (Some n) f e =
      let a = none_left (k2 c n) _ e in
      let b = none_left (k3 O N c) _ a.1 in
      record { pair = n; there = f; three = b.0; four = (none_left (k4 c n) _ b.1).0 }

  stays_unbroken : (c : Class) → class_breaks O N c ≡ [] → Stays O N c
  stays_unbroken c e = stays_by c (class_at N c.key) refl e

-- ---- and what is broken first of all

module _ (olds news : List Class) (fa : FacesLoad olds) (fn : FacesLoad news) (once : Once (kernel ++ news) news) where
  abbrev old_all : List Class
  old_all = kernel ++ olds

  abbrev new_all : List Class
  new_all = kernel ++ news

  abbrev Stay : List Class → Type 0
  Stay early = (c : Class) → Mem c early → Stays old_all new_all c

  one_more : (early : List Class) (c : Class) → Stay early → Stays old_all new_all c → Stay (early ++ c ∷ [])
  one_more early c stay s d m = elim (mem_split d early (c ∷ []) m) [
    | inl x ↦ stay d x
    | inr (inl e) ↦ subst (λ z. Stays old_all new_all z) (sym e) s
    | inr (inr x) ↦ absurd x
  ]

  kept_by : (early late : List Class) → olds ≡ early ++ late → Stay early → (c : Class) → Mem c early → KeepsOwners old_all new_all c
  kept_by early late e stay c m =
      subst (λ z. KeepsOwners (kernel ++ z) new_all c) (sym e)
      (owners_stay early late news (subst FacesLoad e fa) fn once (λ d x. subst (λ z. Stays (kernel ++ z) new_all d) e (stay d x)) c m)

  first_from : (early late : List Class) → olds ≡ early ++ late → Stay early → first (flat_map (level_class_breaks old_all new_all) late) ≡ first (flat_map (class_breaks old_all new_all) late)
  first_from early [] e stay = refl
  first_from early (c ∷ late) e stay =
      let next : olds ≡ (early ++ c ∷ []) ++ late = e ∙ sym (append_assoc early (c ∷ []) late) in
      first_joined (level_class_breaks old_all new_all c) (class_breaks old_all new_all c) (flat_map (level_class_breaks old_all new_all) late) (flat_map (class_breaks old_all new_all) late)
      (class_first old_all new_all c (λ s. kept_by (early ++ c ∷ []) late next (one_more early c stay s) c (mem_right c early (c ∷ []) (inl refl))))
      (λ none. first_from (early ++ c ∷ []) late next (one_more early c stay (stays_unbroken old_all new_all c none)))

  all_first : first (flat_map (level_class_breaks old_all new_all) olds) ≡ first (flat_map (class_breaks old_all new_all) olds)
  all_first = first_from [] olds refl (λ c m. absurd m)

-- one level, of an interface
pub level_first : (old new : Interface) → FacesLoad (interface_classes old) → FacesLoad (interface_classes new) → Once (kernel ++ interface_classes new) (interface_classes new)
    → first_level_break (old ∷ []) (new ∷ []) ≡ option_map (λ (b : CompatBreach). (0, b)) (first_break old new)
level_first old new fa fn once =
    let xs = interface_classes old in
    let ys = interface_classes new in
    let told : CompatBreach → ℕ × CompatBreach = λ b. (0, b) in
    ap (λ z. first (breaks_from (kernel ++ z) (kernel ++ (ys ++ [])) 0 (old ∷ []))) (append-nil xs)
    ∙ ap (λ z. first (breaks_from (kernel ++ xs) (kernel ++ z) 0 (old ∷ []))) (append-nil ys)
    ∙ ap first (append-nil (map told (flat_map (level_class_breaks (kernel ++ xs) (kernel ++ ys)) xs)))
    ∙ first_map told (flat_map (level_class_breaks (kernel ++ xs) (kernel ++ ys)) xs)
    ∙ ap (option_map told) (all_first xs ys fa fn once)
