-- What made classes have for methods: proxies begin and end objects and forward, derived classes have nothing.
use Rattle.std.proofs.Common.{◌≡◌, ◌≢◌, ℕ, zero, suc, ◌<◌, ◌||◌, inl, inr, Bool, true, false, if◌then◌else◌, List, [], ◌∷◌, ◌++◌, length, map, get_or, Some, None, is_some, refl, sym, ap, ◌∙◌, subst, arith, true≢false}
use Rattle.som_model.specs.declared.key.Module.TheVariants as modules
use Rattle.som_model.specs.declared.key.ClassKey.{ClassKey}
use Rattle.som_model.specs.declared.key.ClassKey.TheVariants as keys
use Rattle.som_model.specs.declared.key.MethodRef.{MethodRef}
use Rattle.som_model.specs.Lists.{Mem, joined, some}
use Rattle.som_model.specs.Keys.{same_method}
use Rattle.som_model.specs.Hierarchy.{Hierarchy}
use Rattle.som_model.specs.Ancestors.{anc_within}
use Rattle.som_model.specs.Class.{Class, bare, class_in, introduced}
use Rattle.som_model.specs.Classes.{ancestors, class_at, hierarchy}
use Rattle.som_model.specs.Kernel.{kernel, object_face, som_init, som_object, som_uninit}
use Rattle.som_model.specs.Owner.{introduced_by, introduced_in}
use Rattle.som_model.specs.Implementation.{Forward, Nothing, forwards, has_body, held, held_by, is_kernel, proxy_held, selected, selected_in}
use Rattle.som_model.proofs.NamedLaws.{kernel_named}
use Rattle.som_model_laws.proofs.Members.{Apart, firsts_apart, mem_some, not_true, some_mem}
use Rattle.som_model_laws.proofs.Lists.{map_mem, mem_map}
use Rattle.som_model_laws.proofs.Standing as standing
use Rattle.som_meta.specs.Numbering.{IsNumbered, IsToken, Numbering, key_at, method_at, names_of}
use Rattle.som_class_layout_laws.specs.Schemes.{numbered}
use Rattle.som_class_layout_laws.proofs.Members.{flat_member, same_methods}
use Rattle.som_class_table.proofs.LoadedProxies.{out_derived, out_proxy}
use Rattle.som_class_bodies.specs.declared.adding.Way.TheVariants as ways
use Rattle.som_class_bodies.specs.Bodies.{IsSourced}
use Rattle.som_class_bodies.specs.Adding.{body_at, source_of}
use Rattle.som_class_bodies.proofs.Lists.{apart_flat, apart_map, apart_of_map}
use Rattle.som_class_bodies.proofs.Run.{IsRun, exact_methods, names_by, one_token, proxy_unknown, token_class}

or_true : (a b : Bool) → b ≡ true → (a || b) ≡ true
or_true true b e = refl
or_true false b e = e

or_false : (a b : Bool) → a ≡ false → b ≡ false → (a || b) ≡ false
or_false a b e f = ap (λ z. z || b) e ∙ f

one_class : (x : ClassKey) (a b : List ℕ) → (let r : MethodRef = record { class = x; name = a } in r) ≡ (let r : MethodRef = record { class = x; name = b } in r) → a ≡ b
one_class x a b e = ap (λ (z : MethodRef). z.name) e

module _ (cs : List Class) (ks : List ClassKey) (run : IsRun cs ks) where
  abbrev all : List Class
  all = kernel ++ cs

  abbrev k : Numbering
  k = numbered cs ks

  -- SOMObject has the first number, and its first two methods begin and end objects

  abbrev object : Class
  object = class_in modules.Kernel (bare object_face)

  object_key : key_at k 0 ≡ som_object
  object_key = run.first.key 0 object refl

  object_names : names_of k 0 ≡ introduced object_face.entries
  object_names = ap (introduced_by all) object_key ∙ ap introduced_in (standing.found cs run.loads.faces.ordered object som_object (inl refl) refl)

  object_method : (i : ℕ) → method_at k (0, i) ≡ (let r : MethodRef = record { class = som_object; name = get_or (introduced object_face.entries) i [] } in r)
  object_method i =
      ap (λ c. let r : MethodRef = record { class = c; name = get_or (names_of k 0) i [] } in r) object_key
      ∙ ap (λ (l : List (List ℕ)). let r : MethodRef = record { class = som_object; name = get_or l i [] } in r) object_names

  object_token : (i : ℕ) → i < length (introduced object_face.entries) → IsToken k (0, i)
  object_token i lt = (run.first.numbered 0 object refl, subst (λ (l : List (List ℕ)). i < length l) (sym object_names) lt)

  pub init_token : IsToken k (0, 0)
  init_token = object_token 0 (omega arith)

  pub uninit_token : IsToken k (0, 1)
  uninit_token = object_token 1 (omega arith)

  abbrev forwarded : ClassKey → List MethodRef
  forwarded x = if is_kernel x then [] else map (λ name. record { class = x; name = name }) (introduced_by all x)

  forwarded_by : (x : ClassKey) (b : Bool) (r : MethodRef) → Mem r (if b then [] else map (λ (name : List ℕ). record { class = x; name = name }) (introduced_by all x)) → (r.class ≡ x) × (b ≡ false)
  forwarded_by x true r m = absurd m
  forwarded_by x false r m = let w = map_mem (λ (name : List ℕ). let z : MethodRef = record { class = x; name = name } in z) r (introduced_by all x) m in (ap (λ (z : MethodRef). z.class) w.2, refl)

  -- no forward is of a class of the kernel
  not_kernels : (of : ClassKey) (r : MethodRef) → Mem r (forwards all of) → is_kernel r.class ≡ false
  not_kernels of r m =
      let v = flat_member forwarded r (ancestors all of) m in
      let w = forwarded_by v.0 (is_kernel v.0) r v.2 in
      ap is_kernel w.0 ∙ w.1

  forwards_class : (of : ClassKey) (r s : MethodRef) → Mem r (forwards all of) → s.class ≡ som_object → same_method r s ≡ false
  forwards_class of r s m e = not_true (same_method r s) (λ t.
      true≢false (sym (ap is_kernel (ap (λ (z : MethodRef). z.class) (same_methods r s t) ∙ e) ∙ kernel_named modules.Kernel _) ∙ not_kernels of r m))

  -- each forward stands once
  levels_apart : (h : Hierarchy ClassKey) → ((x : ClassKey) → h.same x x ≡ true) → (n : ℕ) (x : ClassKey) → Apart (anc_within h n x)
  levels_apart h one zero x = ((λ m. m), tt)
  levels_apart h one (suc n) x = firsts_apart h.same one (x ∷ joined (map (anc_within h n) (h.parents x)))

  one_forwarded : (x : ClassKey) (b : Bool) → Apart (if b then [] else map (λ (name : List ℕ). let r : MethodRef = record { class = x; name = name } in r) (introduced_by all x))
  one_forwarded x true = tt
  one_forwarded x false = apart_map (λ (name : List ℕ). let r : MethodRef = record { class = x; name = name } in r) (introduced_by all x) (λ a b m n e. one_class x a b e) (names_by cs ks run x)

  forwards_apart : (of : ClassKey) → Apart (forwards all of)
  forwards_apart of =
      apart_flat forwarded (ancestors all of) (levels_apart (hierarchy all) (standing.tells cs run.loads.faces.ordered).one ((hierarchy all).height of) of)
      (λ x m. one_forwarded x (is_kernel x)) (λ x y r m n. sym (forwarded_by x (is_kernel x) r m).0 ∙ (forwarded_by y (is_kernel y) r n).0)

  module _ (n : ℕ) (of : ClassKey) (num : IsNumbered k n) (key : key_at k n ≡ keys.Proxy of) where
    held_is : (r : MethodRef) → held all (key_at k n) r ≡ proxy_held all of r
    held_is r = ap (λ z. held all z r) key ∙ ap (λ l. held_by all l (keys.Proxy of) r) (out_proxy of)

    -- the class of a token is another one
    pub other : (t : ℕ × ℕ) → IsToken k t → t.0 ≢ n
    other t is e =
        let w = token_class cs ks run t is in
        let none : class_at all (key_at k n) ≡ None = proxy_unknown cs ks run (key_at k n) of key in
        let two : Some w.0 ≡ None = sym (ap (λ m. class_at all (key_at k m)) (sym e) ∙ w.1) ∙ none in cc

    does_nothing : (r : MethodRef) → (same_method r som_init || same_method r som_uninit) ≡ true → proxy_held all of r ≡ Some Nothing
    does_nothing r e = ap (λ (b : Bool). if b then Some Nothing else (if some (same_method r) (forwards all of) then Some Forward else None)) e

    hands_on : (r : MethodRef) → (same_method r som_init || same_method r som_uninit) ≡ false → proxy_held all of r ≡ (if some (same_method r) (forwards all of) then Some Forward else None)
    hands_on r e = ap (λ (b : Bool). if b then Some Nothing else (if some (same_method r) (forwards all of) then Some Forward else None)) e

    pub init_source : (i : ℕ) → IsSourced k (body_at n (0, 0) (source_of ways.Nothing (0, 0) i))
    init_source i = record {
      class = num;
      method = init_token;
      held_is = Nothing;
      named = refl;
      has = held_is (method_at k (0, 0)) ∙ does_nothing (method_at k (0, 0)) (ap (λ r. same_method r som_init || same_method r som_uninit) (object_method 0) ∙ ap (λ b. b || same_method som_init som_uninit) (exact_methods som_init));
    }

    pub uninit_source : (i : ℕ) → IsSourced k (body_at n (0, 1) (source_of ways.Nothing (0, 1) i))
    uninit_source i = record {
      class = num;
      method = uninit_token;
      held_is = Nothing;
      named = refl;
      has = held_is (method_at k (0, 1)) ∙ does_nothing (method_at k (0, 1)) (ap (λ r. same_method r som_init || same_method r som_uninit) (object_method 1) ∙ or_true (same_method som_uninit som_init) (same_method som_uninit som_uninit) (exact_methods som_uninit));
    }

    module _ (ts : List (ℕ × ℕ)) (are : (t : ℕ × ℕ) → Mem t ts → IsToken k t) (methods : map (method_at k) ts ≡ forwards all of) where
      in_forwards : (t : ℕ × ℕ) → Mem t ts → Mem (method_at k t) (forwards all of)
      in_forwards t m = subst (λ l. Mem (method_at k t) l) methods (mem_map (method_at k) t ts m)

      pub forward_source : (t : ℕ × ℕ) (i : ℕ) → Mem t ts → IsSourced k (body_at n t (source_of ways.Forward t i))
      forward_source t i m =
          let r = method_at k t in
          let there = in_forwards t m in
          record {
            class = num;
            method = are t m;
            held_is = Forward;
            named = refl;
            has = held_is r
                ∙ hands_on r (or_false (same_method r som_init) (same_method r som_uninit) (forwards_class of r som_init there refl) (forwards_class of r som_uninit there refl))
                ∙ ap (λ (b : Bool). if b then Some Forward else None) (mem_some (same_method r) r (forwards all of) there (exact_methods r));
          }

      -- it has no other bodies
      pub proxy_all : (t : ℕ × ℕ) → IsToken k t → has_body all (method_at k t) (key_at k n) ≡ true → Mem t ((0, 0) ∷ (0, 1) ∷ ts)
      proxy_all t is e = by (same_method (method_at k t) som_init) (same_method (method_at k t) som_uninit) (some (same_method (method_at k t)) (forwards all of)) refl refl refl (sym (ap is_some (held_is (method_at k t))) ∙ e)
        where
          by : (a b c : Bool) → same_method (method_at k t) som_init ≡ a → same_method (method_at k t) som_uninit ≡ b → some (same_method (method_at k t)) (forwards all of) ≡ c
              → is_some (if a || b then Some Nothing else (if c then Some Forward else None)) ≡ true → Mem t ((0, 0) ∷ (0, 1) ∷ ts)
          by true b c ea eb ec s = inl (one_token cs ks run t (0, 0) is init_token (same_methods (method_at k t) som_init ea ∙ sym (object_method 0)))
          by false true c ea eb ec s = inr (inl (one_token cs ks run t (0, 1) is uninit_token (same_methods (method_at k t) som_uninit eb ∙ sym (object_method 1))))
          by false false true ea eb ec s =
              let w = some_mem (same_method (method_at k t)) (forwards all of) ec in
              let u = map_mem (method_at k) w.0 ts (subst (λ l. Mem w.0 l) (sym methods) w.1) in
              inr (inr (subst (λ z. Mem z ts) (sym (one_token cs ks run t u.0 is (are u.0 u.1) (same_methods (method_at k t) w.0 w.2 ∙ u.2))) u.1))
          by false false false ea eb ec s = absurd (true≢false (sym s))

      object_away : (i : ℕ) → Mem (0, i) ts → ⊥
      object_away i m = true≢false (sym (ap is_kernel object_key ∙ kernel_named modules.Kernel _) ∙ not_kernels of (method_at k (0, i)) (in_forwards (0, i) m))

      pub proxy_apart : Apart ((0, 0) ∷ (0, 1) ∷ ts)
      proxy_apart = (
        (λ m. elim m [ inl e ↦ (let two : 0 ≡ 1 = ap (λ (z : ℕ × ℕ). z.1) e in omega (arith, two)) | inr n ↦ object_away 0 n ]),
        ((λ m. object_away 1 m), apart_of_map (method_at k) ts (subst Apart (sym methods) (forwards_apart of))),
      )

  -- a derived class has no body
  pub derived_none : (n : ℕ) (ps : List ClassKey) → key_at k n ≡ keys.Derived ps → (r : MethodRef) → has_body all r (key_at k n) ≡ false
  derived_none n ps key r = ap (λ z. is_some (held all z r)) key ∙ ap (λ l. is_some (held_by all l (keys.Derived ps) r)) (out_derived ps)

  -- a class that isn't declared selects nothing
  pub none_selected : (n : ℕ) → class_at all (key_at k n) ≡ None → (r : MethodRef) → selected all r (key_at k n) ≡ None
  none_selected n e r = ap (selected_in all r) e
