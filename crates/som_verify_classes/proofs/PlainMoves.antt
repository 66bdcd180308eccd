-- The rules S4, S8, S9, and S10 of overrides, and what they say of the ancestors of each class.
use Rattle.std.proofs.Common.{◌≡◌, ◌↔◌, ℕ, inl, inr, true, false, not, ◌&&◌, List, [], ◌∷◌, ◌++◌, map, flat_map, Option, Some, None, is_some, refl, sym, ap, ◌∙◌, subst, true≢false}
use Rattle.std.specs.Str.{bytes_eq}
use Rattle.som_model.specs.Lists.{Mem, first, find, some, doubles, option_list}
use Rattle.som_model.specs.Hierarchy.{Tells, Falls}
use Rattle.som_model.specs.Ancestors.{Descends, anc}
use Rattle.som_model.specs.Keys.{same_key, same_method}
use Rattle.som_model.specs.Class.{Class, entry_name, entry_of, introduced, introduced_sig}
use Rattle.som_model.specs.Classes.{class_at, hierarchy, is_a}
use Rattle.som_model.specs.Kernel.{kernel, som_class}
use Rattle.som_model.specs.Owner.{entry_at, introduces, owner}
use Rattle.som_model.specs.Rules.{demand_of, introduced_by, name_of, s4, s6, s8, s9, s10}
use Rattle.som_model.specs.declared.key.ClassKey.{ClassKey}
use Rattle.som_model.specs.declared.key.MethodRef.{MethodRef}
use Rattle.som_model.specs.declared.class.Sig.{Sig}
use Rattle.som_model.specs.declared.class.Way.{Way}
use Rattle.som_model.specs.declared.class.Entry.{Entry}
use Rattle.som_model.specs.declared.class.Entry.TheVariants as entries
use Rattle.som_model.specs.declared.class.Override.{Override}
use Rattle.som_model.proofs.KeyLaws.{Exact, exact_bytes, exact_keys, both}
use Rattle.som_model.proofs.NamedLaws.{hierarchy_same}
use Rattle.som_model_laws.proofs.Members.{mem_left, mem_right, mem_split, mem_some, some_mem, not_true, find_first, Apart}
use Rattle.som_model_laws.proofs.Laws.{ancestors, ancestors_apart, descends_test}
use Rattle.som_model_laws.proofs.Lists.{flat_mem, mem_flat, every_mem, mem_every}
use Rattle.som_verify_classes.specs.Modules.{AreDeclared}
use Rattle.som_verify_classes.specs.Places.{with_kernel, key_at, IsTable}
use Rattle.som_verify_classes.specs.Inherited.{inherits, moved_entry, may_override, overridden, overrides_from, selects_from}
use Rattle.som_verify_classes.specs.Plainly.{Introduces, IsAbove, NamesApart, ParentsBefore, MetaclassesDescend, EntriesDiffer, IntroducedOnce, MovedUp, OverridesInherited}
use Rattle.som_verify_classes.proofs.Before.{none_both, both_none, demanded}
use Rattle.som_verify_classes.proofs.ClassTable.{is_table}
use Rattle.som_verify_classes.proofs.KeyLists.{class_there}
use Rattle.som_verify_classes.proofs.Owners.{flat_none, demanded_of, entry_unknown, mem_middle}
use Rattle.som_verify_classes.proofs.Falling.{mem_there, falls}
use Rattle.som_verify_classes.proofs.PlainLists.{mem_map, none_flat, each_says, says_each, none_map, map_none, apart_by, by_apart, apart_differ, differ_apart}
use Rattle.som_verify_classes.proofs.PlainNames.{say_names, demand_none, option_mem}
use Rattle.som_verify_classes.proofs.PlainMembers.{demand_of_none, both_true}

other_says : (a b : ClassKey) → not (same_key a b) ≡ true → a ≡ b → ⊥
other_says a b e is = true≢false (sym e ∙ ap not (ap (same_key a) (sym is) ∙ exact_keys.one a))

says_other : (a b : ClassKey) → (a ≡ b → ⊥) → not (same_key a b) ≡ true
says_other a b f = ap not (not_true (same_key a b) (λ t. f (exact_keys.two a b t)))

-- a class that introduces a name

introduced_is : (o : Option Entry) → is_some (introduced_sig o) ≡ true → (x : List ℕ) × (sig : Sig) × (way : Way) × (o ≡ Some (entries.Introduced x sig way))
introduced_is None e = absurd (true≢false (sym e))
introduced_is (Some (entries.Introduced x sig way)) e = (x, sig, way, refl)
introduced_is (Some (entries.Moved x to)) e = absurd (true≢false (sym e))

found_mem : (cs : List Class) (k : ClassKey) (c : Class) → class_at cs k ≡ Some c → Mem c cs × (c.key ≡ k)
found_mem cs k c e =
    let f = find_first (λ (z : Class). same_key z.key k) cs c e in
    (mem_middle cs f.before f.after c f.parts, exact_keys.two c.key k f.passes)

in_class : (cs : List Class) (k : ClassKey) (name : List ℕ) (c : Class) → class_at cs k ≡ Some c → introduces cs name k ≡ true → Introduces cs k name
in_class cs k name c e i =
    let here : entry_at cs k name ≡ entry_of c.decl.face.entries name = rw e refl in
    let r = introduced_is (entry_of c.decl.face.entries name) (ap (λ o. is_some (introduced_sig o)) (sym here) ∙ i) in
    let f = find_first (λ e. bytes_eq (entry_name e) name) c.decl.face.entries (entries.Introduced r.0 r.1 r.2) r.3 in
    let m = found_mem cs k c e in
    record {
      class = c;
      there = m.0;
      named = m.1;
      sig = r.1;
      way = r.2;
      entry = subst (λ z. Mem (entries.Introduced z r.1 r.2) c.decl.face.entries) (exact_bytes.two r.0 name f.passes) (mem_middle c.decl.face.entries f.before f.after (entries.Introduced r.0 r.1 r.2) f.parts);
    }

by_class : (cs : List Class) (k : ClassKey) (name : List ℕ) (o : Option Class) → class_at cs k ≡ o → introduces cs name k ≡ true → Introduces cs k name
by_class cs k name None e i = absurd (true≢false (sym i ∙ ap (λ o. is_some (introduced_sig o)) (entry_unknown cs k name e)))
by_class cs k name (Some c) e i = in_class cs k name c e i

introduces_says : (cs : List Class) (k : ClassKey) (name : List ℕ) → introduces cs name k ≡ true → Introduces cs k name
introduces_says cs k name i = by_class cs k name (class_at cs k) refl i

find_apart : {A : Type 0} (f : A → List ℕ) (xs : List A) (x : A) → Apart (map f xs) → Mem x xs → find (λ e. bytes_eq (f e) (f x)) xs ≡ Some x
find_apart f [] x o m = absurd m
find_apart f (y ∷ xs) x o (inl e) = let t : bytes_eq (f y) (f x) ≡ true = ap (λ z. bytes_eq (f z) (f x)) (sym e) ∙ exact_bytes.one (f x) in rw t (ap (λ z. Some z) (sym e))
find_apart f (y ∷ xs) x o (inr m) =
    let fails : bytes_eq (f y) (f x) ≡ false = not_true (bytes_eq (f y) (f x)) (λ t. o.0 (subst (λ z. Mem z (map f xs)) (sym (exact_bytes.two (f y) (f x) t)) (mem_map f x xs m))) in
    rw fails (find_apart f xs x o.1 m)

-- no name stands twice among the entries of a class, the kernel's too
entries_apart : (cs : List Class) → EntriesDiffer cs → (c : Class) → Mem c (with_kernel cs) → Apart (map entry_name c.decl.face.entries)
entries_apart cs rule c m = elim (mem_split c kernel cs m) [
  | inl k ↦ apart_by bytes_eq exact_bytes (map entry_name c.decl.face.entries)
      (none_map _ (doubles bytes_eq [] (map entry_name c.decl.face.entries)) (flat_none s6 kernel c refl k))
  | inr k ↦ differ_apart entry_name c.decl.face.entries (rule.by c k)
]

pub exact_methods : Exact same_method
exact_methods = record {
  one = λ r. both_true (same_key r.class r.class) (bytes_eq r.name r.name) (exact_keys.one r.class) (exact_bytes.one r.name);
  two = λ r s e. (let p = both (same_key r.class s.class) (bytes_eq r.name s.name) e in
      ap (λ (k : ClassKey). record { class = k; name = r.name }) (exact_keys.two r.class s.class p.0)
      ∙ ap (λ (n : List ℕ). record { class = s.class; name = n }) (exact_bytes.two r.name s.name p.1));
}

-- overrides one by one

abbrev pub own : List Class → Override → MethodRef
own cs o = owner cs o.method

abbrev pub Allowed : List Class → ClassKey → List MethodRef → List Override → Type 0
Allowed cs k before os =
    ((o : Override) → Mem o os → inherits cs k (own cs o).class (own cs o).name ≡ true) × Apart (map (own cs) os) × ((r : MethodRef) → Mem r before → Mem r (map (own cs) os) → ⊥)

overrides_says : (cs : List Class) (k : ClassKey) (c : Class) (before : List MethodRef) (os : List Override) → first (overrides_from cs k c before os) ≡ None → Allowed cs k before os
overrides_says cs k c before [] e = (λ o m. absurd m, tt, λ r m n. n)
overrides_says cs k c before (o ∷ os) e =
    let r = own cs o in
    let parts = none_both (demand_of 10 c o.method.name (may_override cs k before r)) (overrides_from cs k c (before ++ r ∷ []) os) e in
    let may = both (inherits cs k r.class r.name) (not (some (same_method r) before)) (demanded_of 10 c o.method.name (may_override cs k before r) parts.0) in
    let rest = overrides_says cs k c (before ++ r ∷ []) os parts.1 in (
      (λ x m. elim m [ inl is ↦ subst (λ (z : Override). inherits cs k (own cs z).class (own cs z).name ≡ true) (sym is) may.0 | inr n ↦ rest.0 x n ]),
      ((λ m. rest.2 r (mem_right r before (r ∷ []) (inl refl)) m), rest.1),
      (λ s m n. elim n [
        | inl is ↦ true≢false (sym may.1 ∙ ap not (mem_some (same_method r) s before m (ap (same_method r) is ∙ exact_methods.one r)))
        | inr q ↦ rest.2 s (mem_left s before (r ∷ []) m) q
      ]),
    )

pub says_overrides : (cs : List Class) (k : ClassKey) (c : Class) (before : List MethodRef) (os : List Override) → Allowed cs k before os → first (overrides_from cs k c before os) ≡ None
says_overrides cs k c before [] a = refl
says_overrides cs k c before (o ∷ os) a =
    let r = own cs o in
    let new : some (same_method r) before ≡ false = not_true (some (same_method r) before) (λ t.
    let f = some_mem (same_method r) before t in a.2 f.0 f.1 (inl (sym (exact_methods.two r f.0 f.2)))) in
    both_none (demand_of 10 c o.method.name (may_override cs k before r)) (overrides_from cs k c (before ++ r ∷ []) os)
    (demand_of_none 10 c o.method.name (may_override cs k before r) (both_true (inherits cs k r.class r.name) (not (some (same_method r) before)) (a.0 o (inl refl)) (ap not new)))
    (says_overrides cs k c (before ++ r ∷ []) os (
      (λ x m. a.0 x (inr m)),
      a.1.1,
      (λ s m n. elim (mem_split s before (r ∷ []) m) [
        | inl b ↦ a.2 s b (inr n)
        | inr b ↦ elim b [ inl is ↦ a.1.0 (subst (λ z. Mem z (map (own cs) os)) is n) | inr z ↦ z ]
      ]),
    ))

-- the names along the ancestors

introduced_mem : (es : List Entry) (name : List ℕ) → Mem name (introduced es) → (sig : Sig) × (way : Way) × Mem (entries.Introduced name sig way) es
introduced_mem [] name m = absurd m
introduced_mem (entries.Moved x to ∷ es) name m = let r = introduced_mem es name m in (r.0, r.1, inr r.2)
introduced_mem (entries.Introduced x sig way ∷ es) name (inl e) = (sig, way, inl (ap (λ z. entries.Introduced z sig way) e))
introduced_mem (entries.Introduced x sig way ∷ es) name (inr m) = let r = introduced_mem es name m in (r.0, r.1, inr r.2)

mem_introduced : (es : List Entry) (name : List ℕ) (sig : Sig) (way : Way) → Mem (entries.Introduced name sig way) es → Mem name (introduced es)
mem_introduced [] name sig way m = absurd m
mem_introduced (entries.Moved x to ∷ es) name sig way (inl e) = absurd (cc)
mem_introduced (entries.Moved x to ∷ es) name sig way (inr m) = mem_introduced es name sig way m
mem_introduced (entries.Introduced x s w ∷ es) name sig way (inl e) = let same : name ≡ x = cc in inl same
mem_introduced (entries.Introduced x s w ∷ es) name sig way (inr m) = inr (mem_introduced es name sig way m)

introduced_named : (es : List Entry) (name : List ℕ) → Mem name (introduced es) → Mem name (map entry_name es)
introduced_named es name m = let r = introduced_mem es name m in mem_map entry_name (entries.Introduced name r.0 r.1) es r.2

introduced_apart : (es : List Entry) → Apart (map entry_name es) → Apart (introduced es)
introduced_apart [] o = tt
introduced_apart (entries.Moved x to ∷ es) o = introduced_apart es o.1
introduced_apart (entries.Introduced x sig way ∷ es) o = (λ m. o.0 (introduced_named es x m), introduced_apart es o.1)

both_apart : {A : Type 0} (xs ys : List A) → Apart xs → Apart ys → ((a : A) → Mem a xs → Mem a ys → ⊥) → Apart (xs ++ ys)
both_apart [] ys o p f = p
both_apart (x ∷ xs) ys o p f = (
  (λ m. elim (mem_split x xs ys m) [ inl n ↦ o.0 n | inr n ↦ f x (inl refl) n ]),
  both_apart xs ys o.1 p (λ a m n. f a (inr m) n),
)

apart_both : {A : Type 0} (xs ys : List A) → Apart (xs ++ ys) → Apart ys × ((a : A) → Mem a xs → Mem a ys → ⊥)
apart_both [] ys o = (o, λ a m n. m)
apart_both (x ∷ xs) ys o =
    let r = apart_both xs ys o.1 in
    (r.0, λ a m n. elim m [ inl e ↦ o.0 (subst (λ z. Mem z (xs ++ ys)) e (mem_right a xs ys n)) | inr k ↦ r.1 a k n ])

flat_apart : {A B : Type 0} (f : A → List B) (xs : List A) → Apart xs → ((x : A) → Mem x xs → Apart (f x)) → ((x y : A) (b : B) → Mem x xs → Mem y xs → Mem b (f x) → Mem b (f y) → x ≡ y)
    → Apart (flat_map f xs)
flat_apart f [] o g h = tt
flat_apart f (x ∷ xs) o g h =
    both_apart (f x) (flat_map f xs) (g x (inl refl)) (flat_apart f xs o.1 (λ y m. g y (inr m)) (λ y z b m n. h y z b (inr m) (inr n)))
    (λ b m n. let r = flat_mem f b xs n in o.0 (subst (λ z. Mem z xs) (sym (h x r.0 b (inl refl) (inr r.1) m r.2)) r.1))

apart_flat : {A B : Type 0} (f : A → List B) (xs : List A) → Apart (flat_map f xs) → (x y : A) (b : B) → Mem x xs → Mem y xs → Mem b (f x) → Mem b (f y) → x ≡ y
apart_flat f [] o x y b m n p q = absurd m
apart_flat f (z ∷ xs) o x y b (inl e) (inl g) p q = e ∙ sym g
apart_flat f (z ∷ xs) o x y b (inl e) (inr n) p q = absurd ((apart_both (f z) (flat_map f xs) o).1 b (subst (λ w. Mem b (f w)) e p) (mem_flat f b y xs n q))
apart_flat f (z ∷ xs) o x y b (inr m) (inl g) p q = absurd ((apart_both (f z) (flat_map f xs) o).1 b (subst (λ w. Mem b (f w)) g q) (mem_flat f b x xs m p))
apart_flat f (z ∷ xs) o x y b (inr m) (inr n) p q = apart_flat f xs (apart_both (f z) (flat_map f xs) o).0 x y b m n p q

by_says : (cs : List Class) (k : ClassKey) (name : List ℕ) (o : Option Class) → class_at cs k ≡ o → Mem name (introduced_by cs k) → Introduces cs k name
by_says cs k name None e m = absurd (rw e at m)
by_says cs k name (Some c) e m =
    let r = introduced_mem c.decl.face.entries name (rw e at m) in
    let f = found_mem cs k c e in
    record { class = c; there = f.0; named = f.1; sig = r.0; way = r.1; entry = r.2 }

module _ (cs : List Class) (declared : AreDeclared cs) (differ : NamesApart cs) (stand : ParentsBefore cs) where
  table : IsTable cs (map name_of (with_kernel cs))
  table = is_table cs (map name_of (with_kernel cs)) declared refl (say_names cs differ)

  pub lower : Falls (hierarchy (with_kernel cs))
  lower = falls cs (map name_of (with_kernel cs)) table stand

  tells : Tells (hierarchy (with_kernel cs))
  tells = record {
    one = λ x. hierarchy_same (with_kernel cs) x x ∙ exact_keys.one x;
    two = λ x y e. exact_keys.two x y (sym (hierarchy_same (with_kernel cs) x y) ∙ e);
  }

  pub descent : (x a : ClassKey) → (is_a (with_kernel cs) x a ≡ true) ↔ Descends (hierarchy (with_kernel cs)) x a
  descent x a = descends_test (hierarchy (with_kernel cs)) tells lower x a

  -- S4
  pub metaclasses_say : first (flat_map (s4 (with_kernel cs)) cs) ≡ None → MetaclassesDescend cs
  metaclasses_say e = record {
    by = λ c k m is. (descent k som_class).0 (every_mem (λ k. is_a (with_kernel cs) k som_class) k (option_list c.decl.face.metaclass)
        (demanded 4 c _ (each_says (s4 (with_kernel cs)) cs e c m)) (subst (λ (o : Option ClassKey). Mem k (option_list o)) (sym is) (inl refl)));
  }

  pub say_metaclasses : MetaclassesDescend cs → first (flat_map (s4 (with_kernel cs)) cs) ≡ None
  say_metaclasses rule = says_each (s4 (with_kernel cs)) cs (λ c m.
      demand_none 4 c _ (mem_every (λ k. is_a (with_kernel cs) k som_class) (option_list c.decl.face.metaclass)
      (λ k n. (descent k som_class).1 (rule.by c k m (option_mem c.decl.face.metaclass k n)))))

  class_named : (k : ClassKey) (c : Class) → Mem c (with_kernel cs) → c.key ≡ k → class_at (with_kernel cs) k ≡ Some c
  class_named k c m e =
      let r = mem_there (with_kernel cs) c m in
      let key : key_at (with_kernel cs) r.0 ≡ k = ap (λ (z : Class). z.key) r.2 ∙ e in
      ap (class_at (with_kernel cs)) (sym key) ∙ class_there cs (map name_of (with_kernel cs)) table r.0 r.1 ∙ ap (λ z. Some z) r.2

  says_introduces : EntriesDiffer cs → (k : ClassKey) (name : List ℕ) → Introduces (with_kernel cs) k name → introduces (with_kernel cs) name k ≡ true
  says_introduces rule k name i =
      let at = class_named k i.class i.there i.named in
      let here : entry_at (with_kernel cs) k name ≡ entry_of i.class.decl.face.entries name = rw at refl in
      ap (λ o. is_some (introduced_sig o)) (here ∙ find_apart entry_name i.class.decl.face.entries (entries.Introduced name i.sig i.way) (entries_apart cs rule i.class i.there) i.entry)

  pub inherits_says : (c : Class) (k : ClassKey) (name : List ℕ) → inherits (with_kernel cs) c.key k name ≡ true → IsAbove cs c k × Introduces (with_kernel cs) k name
  inherits_says c k name e =
      let p = both _ (introduces (with_kernel cs) name k) e in
      let q = both (not (same_key k c.key)) (is_a (with_kernel cs) c.key k) p.0 in
      (record { other = other_says k c.key q.0; above = (descent c.key k).0 q.1 }, introduces_says (with_kernel cs) k name p.1)

  pub says_inherits : EntriesDiffer cs → (c : Class) (k : ClassKey) (name : List ℕ) → IsAbove cs c k → Introduces (with_kernel cs) k name → inherits (with_kernel cs) c.key k name ≡ true
  says_inherits rule c k name a i =
      both_true (not (same_key k c.key) && is_a (with_kernel cs) c.key k) (introduces (with_kernel cs) name k)
      (both_true (not (same_key k c.key)) (is_a (with_kernel cs) c.key k) (says_other k c.key a.other) ((descent c.key k).1 a.above))
      (says_introduces rule k name i)

  -- S8
  pub once_says : EntriesDiffer cs → first (flat_map (s8 (with_kernel cs)) cs) ≡ None → IntroducedOnce cs
  once_says rule e = record {
    by = λ c a b name m p q i j.
        let h = hierarchy (with_kernel cs) in
        let list = anc h c.key in
        let apart = apart_by bytes_eq exact_bytes (flat_map (introduced_by (with_kernel cs)) list) (none_map _ (doubles bytes_eq [] (flat_map (introduced_by (with_kernel cs)) list)) (each_says (s8 (with_kernel cs)) cs e c m)) in
        apart_flat (introduced_by (with_kernel cs)) list apart a b name ((ancestors h tells lower c.key a).1 p) ((ancestors h tells lower c.key b).1 q) (says_by a name i) (says_by b name j);
  }
    where
      says_by : (k : ClassKey) (name : List ℕ) → Introduces (with_kernel cs) k name → Mem name (introduced_by (with_kernel cs) k)
      says_by k name i = let at = class_named k i.class i.there i.named in rw at (mem_introduced i.class.decl.face.entries name i.sig i.way i.entry)

  by_apart_at : EntriesDiffer cs → (k : ClassKey) (o : Option Class) → class_at (with_kernel cs) k ≡ o → Apart (introduced_by (with_kernel cs) k)
  by_apart_at rule k None e = rw e tt
  by_apart_at rule k (Some c) e = rw e (introduced_apart c.decl.face.entries (entries_apart cs rule c (found_mem (with_kernel cs) k c e).0))

  pub say_once : EntriesDiffer cs → IntroducedOnce cs → first (flat_map (s8 (with_kernel cs)) cs) ≡ None
  say_once rule once = says_each (s8 (with_kernel cs)) cs (λ c m.
      let h = hierarchy (with_kernel cs) in
      let list = anc h c.key in
      map_none _ (doubles bytes_eq [] (flat_map (introduced_by (with_kernel cs)) list)) (by_apart bytes_eq exact_bytes (flat_map (introduced_by (with_kernel cs)) list)
      (flat_apart (introduced_by (with_kernel cs)) list (ancestors_apart h tells c.key)
      (λ k n. by_apart_at rule k (class_at (with_kernel cs) k) refl)
      (λ a b name p q i j. once.by c a b name m ((ancestors h tells lower c.key a).0 p) ((ancestors h tells lower c.key b).0 q)
      (by_says (with_kernel cs) a name (class_at (with_kernel cs) a) refl i) (by_says (with_kernel cs) b name (class_at (with_kernel cs) b) refl j)))))

  -- S9
  moved_at : (c : Class) (name : List ℕ) (to : ClassKey) → first (flat_map (s9 (with_kernel cs)) cs) ≡ None → Mem c cs → Mem (entries.Moved name to) c.decl.face.entries
      → IsAbove cs c to × Introduces (with_kernel cs) to name
  moved_at c name to e m n =
      inherits_says c to name (demanded_of 9 c name (inherits (with_kernel cs) c.key to name)
      (flat_none (moved_entry (with_kernel cs) c.key c) c.decl.face.entries (entries.Moved name to) (each_says (s9 (with_kernel cs)) cs e c m) n))

  pub moved_says : first (flat_map (s9 (with_kernel cs)) cs) ≡ None → MovedUp cs
  moved_says e = record {
    above = λ c name to m n. (moved_at c name to e m n).0;
    introduced = λ c name to m n. (moved_at c name to e m n).1;
  }

  entry_moved : EntriesDiffer cs → MovedUp cs → (c : Class) → Mem c cs → (e : Entry) → Mem e c.decl.face.entries → first (moved_entry (with_kernel cs) c.key c e) ≡ None
  entry_moved rule up c m (entries.Introduced name sig way) n = refl
  entry_moved rule up c m (entries.Moved name to) n =
      demand_of_none 9 c name (inherits (with_kernel cs) c.key to name) (says_inherits rule c to name (up.above c name to m n) (up.introduced c name to m n))

  pub say_moved : EntriesDiffer cs → MovedUp cs → first (flat_map (s9 (with_kernel cs)) cs) ≡ None
  say_moved rule up = says_each (s9 (with_kernel cs)) cs (λ c m. none_flat (moved_entry (with_kernel cs) c.key c) c.decl.face.entries (entry_moved rule up c m))

  -- S10
  pub overrides_say : first (flat_map (s10 (with_kernel cs)) cs) ≡ None → OverridesInherited cs
  overrides_say e =
      let at = λ (c : Class) (m : Mem c cs). overrides_says (with_kernel cs) c.key c [] c.decl.overrides
      (none_both (overrides_from (with_kernel cs) c.key c [] c.decl.overrides) (selects_from (with_kernel cs) c.key c (overridden (with_kernel cs) c.decl.overrides) c.decl.selects) (each_says (s10 (with_kernel cs)) cs e c m)).0 in
      record {
        above = λ c o m n. (inherits_says c (own (with_kernel cs) o).class (own (with_kernel cs) o).name ((at c m).0 o n)).0;
        introduced = λ c o m n. (inherits_says c (own (with_kernel cs) o).class (own (with_kernel cs) o).name ((at c m).0 o n)).1;
        once = λ c m. apart_differ (own (with_kernel cs)) c.decl.overrides (at c m).1;
      }
