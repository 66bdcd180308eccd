-- What a declared class has for the methods of other classes: its overrides, and the parents that it selects.
use Rattle.std.proofs.Common.{◌≡◌, ◌≢◌, ℕ, ◌≤◌, ◌&&◌, inl, inr, not, Bool, true, false, if◌then◌else◌, List, [], ◌∷◌, ◌++◌, length, map, Option, Some, None, IsSome, is_some, slice_get, refl, sym, ap, ◌∙◌, subst, arith, true≢false}
use Rattle.std.specs.Prelude.{option_and_then}
use Rattle.std.specs.Option.{option_map}
use Rattle.std.proofs.lemmas.List.{length-map}
use Rattle.som_model.specs.declared.key.ClassKey.{ClassKey}
use Rattle.som_model.specs.declared.key.MethodRef.{MethodRef}
use Rattle.som_model.specs.declared.class.Override.{Override}
use Rattle.som_model.specs.declared.class.Select.{Select}
use Rattle.som_model.specs.Lists.{Mem, or_else, some}
use Rattle.som_model.specs.Keys.{same_key, same_method}
use Rattle.som_model.specs.Class.{Class}
use Rattle.som_model.specs.Classes.{class_at, is_a}
use Rattle.som_model.specs.Kernel.{kernel}
use Rattle.som_model.specs.Owner.{introduces, owner}
use Rattle.som_model.specs.Rules.{demand_of, is_parent_below, is_proper, is_replaced_once, s10, s10_from, s10_selects}
use Rattle.som_model.specs.Implementation.{User, has_body, held, introduced_body, override_of, select_of, selected, selected_in}
use Rattle.som_model.proofs.KeyLaws.{both, exact_keys}
use Rattle.som_model_laws.proofs.Members.{Apart, mem_left, mem_right, mem_some, mem_split, not_true}
use Rattle.som_model_laws.proofs.Lists.{get_mem, mem_get, mem_map}
use Rattle.som_model_laws.proofs.Standing as standing
use Rattle.som_meta.specs.Numbering.{IsToken, Numbering, key_at, method_at}
use Rattle.som_class_methods.specs.Owners.{IsTokenOf}
use Rattle.som_class_layout_laws.specs.Schemes.{numbered}
use Rattle.som_class_layout_laws.proofs.Members.{demanded_of, none_left, same_methods}
use Rattle.som_class_methods.specs.Members.{HaveTokens, IsFirst, override_method, select_method}
use Rattle.som_class_methods.proofs.Standing.{have_length, none_by, overrides_by, selects_by, some_by}
use Rattle.som_class_bodies.specs.declared.adding.Way.TheVariants as ways
use Rattle.som_class_bodies.specs.Bodies.{IsSourced, source_body}
use Rattle.som_class_bodies.specs.Adding.{body_at, source_of}
use Rattle.som_class_bodies.proofs.Lists.{apart_of_map, one_place, token_in}
use Rattle.som_class_bodies.proofs.Run.{IsRun, exact_methods, held_known, names}

not_false : (b : Bool) → not b ≡ true → b ≡ false
not_false true e = sym e
not_false false e = refl

-- ---- what S10 says of the methods of overrides and selects

-- the methods are of other classes, differ, and are none of those before
pub record AreOnce {A : Type 0} (c : Class) (owners : A → MethodRef) (before : List MethodRef) (xs : List A) : Type 0 where
  pub other : (x : A) → Mem x xs → same_key (owners x).class c.key ≡ false
  pub apart : Apart (map owners xs)
  pub new : (r : MethodRef) → Mem r before → Mem r (map owners xs) → ⊥

none_once : {A : Type 0} (c : Class) (owners : A → MethodRef) (before : List MethodRef) → AreOnce c owners before []
none_once c owners before = record { other = λ x m. absurd m; apart = tt; new = λ r m n. n }

one_once : {A : Type 0} (cs : List Class) (c : Class) (owners : A → MethodRef) (before : List MethodRef) (x : A) (xs : List A)
    → is_replaced_once cs c before (owners x) ≡ true → AreOnce c owners (before ++ owners x ∷ []) xs → AreOnce c owners before (x ∷ xs)
one_once cs c owners before x xs e rest =
    let r = owners x in
    let one = both (is_proper cs c r.class && introduces cs r.name r.class) (not (some (same_method r) before)) e in
    let proper = both (is_proper cs c r.class) (introduces cs r.name r.class) one.0 in
    let away = both (not (same_key r.class c.key)) (is_a cs c.key r.class) proper.0 in
    record {
      other = λ y m. elim m [ inl is ↦ subst (λ z. same_key (owners z).class c.key ≡ false) (sym is) (not_false (same_key r.class c.key) away.0) | inr n ↦ rest.other y n ];
      apart = ((λ m. rest.new r (mem_right r before (r ∷ []) (inl refl)) m), rest.apart);
      new = λ s m n. elim n [
        | inl is ↦ true≢false (sym (mem_some (same_method r) s before m (ap (same_method r) is ∙ exact_methods r)) ∙ not_false (some (same_method r) before) one.1)
        | inr rest_has ↦ rest.new s (mem_left s before (r ∷ []) m) rest_has
      ];
    }

overrides_once : (cs : List Class) (c : Class) (before : List MethodRef) (os : List Override) → s10_from cs c before os ≡ [] → AreOnce c (λ (o : Override). owner cs o.method) before os
overrides_once cs c before [] e = none_once c (λ (o : Override). owner cs o.method) before
overrides_once cs c before (x ∷ os) e =
    let r = owner cs x.method in
    let h = none_left (demand_of 10 c x.method.name (is_replaced_once cs c before r)) (s10_from cs c (before ++ r ∷ []) os) e in
    one_once cs c (λ (o : Override). owner cs o.method) before x os (demanded_of 10 c x.method.name (is_replaced_once cs c before r) h.0) (overrides_once cs c (before ++ r ∷ []) os h.1)

-- so it is of selects, and each has its parent
selects_once : (cs : List Class) (c : Class) (before : List MethodRef) (ss : List Select) → s10_selects cs c before ss ≡ []
    → AreOnce c (λ (s : Select). owner cs s.method) before ss × ((s : Select) → Mem s ss → IsSome (slice_get c.decl.face.parents s.parent))
selects_once cs c before [] e = (none_once c (λ (s : Select). owner cs s.method) before, λ s m. absurd m)
selects_once cs c before (x ∷ ss) e =
    let r = owner cs x.method in
    let holds = is_replaced_once cs c before r && is_parent_below cs r.class (slice_get c.decl.face.parents x.parent) in
    let h = none_left (demand_of 10 c x.method.name holds) (s10_selects cs c (before ++ r ∷ []) ss) e in
    let two = both (is_replaced_once cs c before r) (is_parent_below cs r.class (slice_get c.decl.face.parents x.parent)) (demanded_of 10 c x.method.name holds h.0) in
    let rest = selects_once cs c (before ++ r ∷ []) ss h.1 in (
      one_once cs c (λ (s : Select). owner cs s.method) before x ss two.0 rest.0,
      λ s m. elim m [ inl is ↦ subst (λ (z : Select). IsSome (slice_get c.decl.face.parents z.parent)) (sym is) (below (slice_get c.decl.face.parents x.parent) r.class two.1) | inr n ↦ rest.1 s n ],
    )
  where
    below : (q : Option ClassKey) (a : ClassKey) → is_parent_below cs a q ≡ true → IsSome q
    below None a e = absurd (true≢false (sym e))
    below (Some p) a e = refl

-- the kernel's classes override and select nothing
kernel_bare : (c : Class) → Mem c kernel → (c.decl.overrides ≡ []) × (c.decl.selects ≡ [])
kernel_bare c (inl e) = (ap (λ (z : Class). z.decl.overrides) e, ap (λ (z : Class). z.decl.selects) e)
kernel_bare c (inr (inl e)) = (ap (λ (z : Class). z.decl.overrides) e, ap (λ (z : Class). z.decl.selects) e)
kernel_bare c (inr (inr (inl e))) = (ap (λ (z : Class). z.decl.overrides) e, ap (λ (z : Class). z.decl.selects) e)
kernel_bare c (inr (inr (inr (inl e)))) = (ap (λ (z : Class). z.decl.overrides) e, ap (λ (z : Class). z.decl.selects) e)
kernel_bare c (inr (inr (inr (inr m)))) = absurd m

-- ---- tokens of lists of methods

pub methods_are : (k : Numbering) {A : Type 0} (f : A → MethodRef) (xs : List A) (ts : List (ℕ × ℕ)) → HaveTokens k (map f xs) ts → map (method_at k) ts ≡ map (λ x. owner k.classes (f x)) xs
methods_are k f [] [] h = refl
methods_are k f (x ∷ xs) (t ∷ ts) h = ap (λ m. m ∷ map (method_at k) ts) h.0.method ∙ ap (λ l. owner k.classes (f x) ∷ l) (methods_are k f xs ts h.1)
methods_are k f [] (t ∷ ts) h = absurd h
methods_are k f (x ∷ xs) [] h = absurd h

pub token_of : (k : Numbering) {A : Type 0} (f : A → MethodRef) (xs : List A) (ts : List (ℕ × ℕ)) (t : ℕ × ℕ) → HaveTokens k (map f xs) ts → Mem t ts → (x : A) × Mem x xs × IsTokenOf k t (owner k.classes (f x))
token_of k f [] [] t h m = absurd m
token_of k f (x ∷ xs) (u ∷ ts) t h (inl is) = (x, inl refl, subst (λ z. IsTokenOf k z (owner k.classes (f x))) (sym is) h.0)
token_of k f (x ∷ xs) (u ∷ ts) t h (inr m) = let r = token_of k f xs ts t h.1 m in (r.0, inr r.1, r.2)
token_of k f [] (u ∷ ts) t h m = absurd h
token_of k f (x ∷ xs) [] t h m = absurd h

module _ (cs : List Class) (ks : List ClassKey) (run : IsRun cs ks) where
  abbrev all : List Class
  all = kernel ++ cs

  abbrev k : Numbering
  k = numbered cs ks

  module _ (n : ℕ) (c : Class) (at : slice_get all n ≡ Some c) where
    abbrev mem : Mem c all
    mem = get_mem all n c at

    abbrev key : key_at k n ≡ c.key
    key = run.first.key n c at

    pub known : class_at all (key_at k n) ≡ Some c
    known = ap (class_at all) key ∙ standing.found cs run.loads.faces.ordered c c.key mem refl

    abbrev own_override : Override → MethodRef
    own_override x = owner all x.method

    abbrev own_select : Select → MethodRef
    own_select x = owner all x.method

    rules : s10 all c ≡ []
    rules = elim (mem_split c kernel cs mem) [
      | inl kernels ↦ (let bare = kernel_bare c kernels in
          ap (λ (os : List Override). s10_from all c [] os ++ s10_selects all c (map own_override os) c.decl.selects) bare.0 ∙ ap (λ (ss : List Select). s10_selects all c [] ss) bare.1)
      | inr own ↦ run.loads.inherited c own
    ]

    abbrev two : (s10_from all c [] c.decl.overrides ≡ []) × (s10_selects all c (map own_override c.decl.overrides) c.decl.selects ≡ [])
    two = none_left (s10_from all c [] c.decl.overrides) (s10_selects all c (map own_override c.decl.overrides) c.decl.selects) rules

    once_overridden : AreOnce c own_override [] c.decl.overrides
    once_overridden = overrides_once all c [] c.decl.overrides two.0

    once_selected : AreOnce c own_select (map own_override c.decl.overrides) c.decl.selects × ((s : Select) → Mem s c.decl.selects → IsSome (slice_get c.decl.face.parents s.parent))
    once_selected = selects_once all c (map own_override c.decl.overrides) c.decl.selects two.1

    -- no method stands twice among both
    override_none : (os : List Override) (r : MethodRef) → (Mem r (map own_override os) → ⊥) → override_of all r os ≡ None
    override_none [] r away = refl
    override_none (x ∷ os) r away =
        let other = not_true (same_method (own_override x) r) (λ e. away (inl (sym (same_methods (own_override x) r e)))) in
        rw other (override_none os r (λ m. away (inr m)))

    first_at : (ts : List (ℕ × ℕ)) → Apart ts → (i : ℕ) (t : ℕ × ℕ) → slice_get ts i ≡ Some t → IsFirst ts t i
    first_at ts o i t e = (e, λ j lt f. (let same = one_place ts o j i t f e in omega (arith, lt, same)))

    -- a method of an override or select is of another class
    other_by : (t : ℕ × ℕ) (r : MethodRef) → IsTokenOf k t r → same_key r.class c.key ≡ false → t.0 ≢ n
    other_by t r is neq e =
        let class : key_at k t.0 ≡ c.key = ap (key_at k) e ∙ key in
        true≢false (sym (ap (λ z. same_key z c.key) (sym (ap (λ (z : MethodRef). z.class) is.method) ∙ class) ∙ exact_keys.one c.key) ∙ neq)

    -- for a method of another class it has what it overrides
    held_other : (t : ℕ × ℕ) → IsToken k t → t.0 ≢ n → held all (key_at k n) (method_at k t) ≡ override_of all (method_at k t) c.decl.overrides
    held_other t is ne =
        let neq : same_key c.key (key_at k t.0) ≡ false = not_true (same_key c.key (key_at k t.0)) (λ e. ne (run.apart t.0 n is.0 (run.first.numbered n c at) (sym (key ∙ exact_keys.two c.key (key_at k t.0) e)))) in
        held_known cs ks run (key_at k n) c known (method_at k t)
        ∙ ap (λ (b : Bool). or_else (if b then introduced_body c (method_at k t).name else None) (override_of all (method_at k t) c.decl.overrides)) neq

    module _ (overs : List (ℕ × ℕ)) (have : HaveTokens k (map override_method c.decl.overrides) overs) where
      pub overs_apart : Apart overs
      overs_apart = apart_of_map (method_at k) overs (subst Apart (sym (methods_are k override_method c.decl.overrides overs have)) once_overridden.apart)

      pub overs_few : length overs ≤ 65535
      overs_few =
          let many = have_length k (map override_method c.decl.overrides) overs have in
          let long = length-map c.decl.overrides override_method in
          elim (mem_split c kernel cs mem) [
            | inl kernels ↦ (let none : length c.decl.overrides ≡ 0 = ap length (kernel_bare c kernels).0 in omega (arith, many, long, none))
            | inr own ↦ (let few = (run.loads.counted c own).overrides in omega (arith, many, long, few))
          ]

      pub over_token : (t : ℕ × ℕ) → Mem t overs → IsToken k t × (t.0 ≢ n)
      over_token t m = let w = token_of k override_method c.decl.overrides overs t have m in (w.2.token, other_by t (own_override w.0) w.2 (once_overridden.other w.0 w.1))

      -- the body of an override stands at its place
      pub over_source : (i : ℕ) (t : ℕ × ℕ) → slice_get overs i ≡ Some t → IsSourced k (body_at n t (source_of ways.Overriding t i))
      over_source i t e =
          let is = over_token t (get_mem overs i t e) in
          let w = some_by k run.apart (names cs ks run) t is.0 override_method (λ (x : Override). User x.block) c.decl.overrides overs have i (first_at overs overs_apart i t e) in
          record {
            class = run.first.numbered n c at;
            method = is.0;
            held_is = User w.0.block;
            has = held_other t is.0 is.1 ∙ overrides_by all (method_at k t) c.decl.overrides ∙ w.2;
            named = ap (λ (q : Option Class). source_body q (method_at k t).name (source_of ways.Overriding t i)) known ∙ ap (option_map (λ (x : Override). User x.block)) w.1;
          }

      -- it has no other body
      pub over_all : (t : ℕ × ℕ) → IsToken k t → t.0 ≢ n → has_body all (method_at k t) (key_at k n) ≡ true → Mem t overs
      over_all t is ne e = elim (token_in t overs) [
        | inl m ↦ m
        | inr away ↦ absurd (true≢false (sym e ∙ ap is_some (held_other t is ne ∙ overrides_by all (method_at k t) c.decl.overrides
            ∙ none_by k run.apart (names cs ks run) t is override_method (λ (x : Override). User x.block) c.decl.overrides overs have (λ i f. away (get_mem overs i t f)))))
      ]

    -- what it selects
    chosen : (r : MethodRef) → selected all r (key_at k n) ≡ option_and_then (slice_get c.decl.face.parents) (select_of all r c.decl.selects)
    chosen r = ap (selected_in all r) known

    module _ (sels : List (ℕ × ℕ)) (have : HaveTokens k (map select_method c.decl.selects) sels) where
      pub sels_apart : Apart sels
      sels_apart = apart_of_map (method_at k) sels (subst Apart (sym (methods_are k select_method c.decl.selects sels have)) once_selected.0.apart)

      pub select_token : (t : ℕ × ℕ) → Mem t sels → IsToken k t × (t.0 ≢ n)
      select_token t m = let w = token_of k select_method c.decl.selects sels t have m in (w.2.token, other_by t (own_select w.0) w.2 (once_selected.0.other w.0 w.1))

      pub select_none : (t : ℕ × ℕ) → Mem t sels → has_body all (method_at k t) (key_at k n) ≡ false
      select_none t m =
          let is = select_token t m in
          let there : Mem (method_at k t) (map own_select c.decl.selects) = subst (λ l. Mem (method_at k t) l) (methods_are k select_method c.decl.selects sels have) (mem_map (method_at k) t sels m) in
          ap is_some (held_other t is.0 is.1 ∙ override_none c.decl.overrides (method_at k t) (λ o. once_selected.0.new (method_at k t) o there))

      pub select_some : (t : ℕ × ℕ) → Mem t sels → IsSome (selected all (method_at k t) (key_at k n))
      select_some t m =
          let is = select_token t m in
          let i = mem_get sels t m in
          let w = some_by k run.apart (names cs ks run) t is.0 select_method (λ (x : Select). x.parent) c.decl.selects sels have i.0 (first_at sels sels_apart i.0 t i.1) in
          subst (λ q. IsSome q) (sym (chosen (method_at k t) ∙ ap (option_and_then (slice_get c.decl.face.parents)) (selects_by all (method_at k t) c.decl.selects ∙ w.2))) (once_selected.1 w.0 (get_mem c.decl.selects i.0 w.0 w.1))

      pub select_all : (t : ℕ × ℕ) → IsToken k t → IsSome (selected all (method_at k t) (key_at k n)) → Mem t sels
      select_all t is s = elim (token_in t sels) [
        | inl m ↦ m
        | inr away ↦ absurd (true≢false (sym s ∙ ap is_some (chosen (method_at k t) ∙ ap (option_and_then (slice_get c.decl.face.parents)) (selects_by all (method_at k t) c.decl.selects
            ∙ none_by k run.apart (names cs ks run) t is select_method (λ (x : Select). x.parent) c.decl.selects sels have (λ i e. away (get_mem sels i t e))))))
      ]
