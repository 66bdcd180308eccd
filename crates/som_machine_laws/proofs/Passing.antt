-- Calls at each level, and main, do the same with tests that are implied.
use Rattle.std.proofs.Common.{◌≡◌, ℕ, zero, suc, ◌⊎◌, inl, inr, Bool, true, false, ◌&&◌, if◌then◌else◌, List, [], ◌∷◌, reverse, Option, Some, None, Ok, refl, sym, ap, ◌∙◌, subst}
use mathlib.Core.List.{reverse_aux}
use Rattle.std.specs.Prelude.{is_some}
use Rattle.som_model.specs.declared.key.ClassKey.{ClassKey}
use Rattle.som_model.specs.declared.key.MethodRef.{MethodRef}
use Rattle.som_model.specs.declared.key.ValueType.TheVariants as types
use Rattle.som_model.specs.declared.syntax.Block.{Block}
use Rattle.som_model.specs.declared.class.Sig.{Sig}
use Rattle.som_model.specs.declared.program.Fault.TheVariants as faults
use Rattle.som_model.specs.declared.limits.TheConstants.{MAX_DEPTH}
use Rattle.som_model.specs.Lists.{Mem}
use Rattle.som_model.specs.Kernel.{som_object, an_object, before_method, after_method}
use Rattle.som_model.specs.Implementation.{Held, is_kernel}
use Rattle.som_semantics.specs.World.{World}
use Rattle.som_semantics.specs.State.{Value, Str, Nil, To, Ref, ClassObject, Heap, InMain, Manner, Before, After, Called, class_of}
use Rattle.som_semantics.specs.Runs.{Ran, Goes, Act, IsLater, follow}
use Rattle.som_semantics.specs.Acts.{◌>>=◌, ◌>>◌, pure, fault, take_unit, emit, reading, later_self, later_on}
use Rattle.som_semantics.specs.Calls.{Calls, Request, Here}
use Rattle.som_semantics.specs.Statements.{Flow}
use Rattle.som_semantics.specs.Invoked.{body_does}
use Rattle.som_semantics.specs.Means.{body_class, hooks_of, bodies, calls, nothing_yet, beginning, means_in}
use Rattle.som_model.specs.Typing.{in_main}
use Rattle.som_model.specs.TypedBlocks.{Scope, block_scope}
use Rattle.som_model.proofs.KeyLaws.{both}
use Rattle.som_semantics.proofs.CallLaws.{call_none, call_some}
use Rattle.som_type_soundness.specs.Values.{is_there, has_type, have_types, are_arguments}
use Rattle.som_type_soundness.specs.Heaps.{AreTyped}
use Rattle.som_type_soundness.specs.Preserving.{Leaves}
use Rattle.som_type_soundness.specs.Checks.{stands, is_below, has_method, can_run}
use Rattle.som_type_soundness.proofs.Keeping.{Any, Keeps, bind_keeps, pure_keeps, fault_keeps, emit_keeps, unit_keeps, reading_keeps, check_keeps, weaker_keeps}
use Rattle.som_type_soundness.proofs.Heaps.{both_true, type_later, types_later, nothing_typed}
use Rattle.som_type_soundness.proofs.Facts.{IsSound, facts_of}
use Rattle.som_type_soundness.proofs.Values.{an_object_is, there_object}
use Rattle.som_type_soundness.proofs.Calls.{Has, AtParent, CallsKeep}
use Rattle.som_type_soundness.proofs.Statements.{block_keeps}
use Rattle.som_type_soundness.proofs.Bodies.{body_keeps}
use Rattle.som_type_soundness.proofs.Runs.{all_calls_keep}
use Rattle.som_machine_laws.specs.Frames.{Invocation}
use Rattle.som_machine_laws.specs.CallBodies.{with_held, with_hooks, with_method, call_bodies}
use Rattle.som_machine_laws.specs.Tested.{Tests, passes, place_of, invoked, all_invoked, tested, tested_in}
use Rattle.som_machine_laws.specs.Implied.{AreImplied}
use Rattle.som_machine_laws.proofs.Plainly.{invoking, all_plain, bodies_plain}

aux_mem : {A : Type 0} (x : A) (xs ys : List A) → Mem x (reverse_aux xs ys) → Mem x xs ⊎ Mem x ys
aux_mem x [] ys m = inr m
aux_mem x (z ∷ xs) ys m = elim (aux_mem x xs (z ∷ ys) m) [
  | inl a ↦ inl (inr a)
  | inr (inl a) ↦ inl (inl a)
  | inr (inr a) ↦ inr a
]

reverse_mem : {A : Type 0} (x : A) (xs : List A) → Mem x (reverse xs) → Mem x xs
reverse_mem x xs m = elim (aux_mem x xs [] m) [ inl a ↦ a | inr a ↦ absurd a ]

module _ (w : World) (known : ClassKey → Bool) (sound : IsSound w known) where
  -- ---- bodies that can run

  -- a body of its class, for a method with a signature, on a self and with arguments as it takes
  pub record Good (h : Heap) (i : Invocation) : Type 0 where
    pub sig : Sig
    pub is : w.sig i.method ≡ Some sig
    pub held : w.held i.class i.method ≡ Some i.body
    pub self : has_type w h (types.Class i.class) (To i.self) ≡ true
    pub args : have_types w h sig.params i.args ≡ true

  good_later : (h g : Heap) (i : Invocation) → IsLater h g → Good h i → Good g i
  good_later h g i le o = record {
    sig = o.sig;
    is = o.is;
    held = o.held;
    self = type_later w h g le (types.Class i.class) (To i.self) o.self;
    args = types_later w h g le o.sig.params i.args o.args;
  }

  abbrev AllGood : Heap → List Invocation → Type 0
  AllGood h [] = Unit {0}
  AllGood h (i ∷ is) = Good h i × AllGood h is

  all_later : (h g : Heap) (is : List Invocation) → IsLater h g → AllGood h is → AllGood g is
  all_later h g [] le o = tt
  all_later h g (i ∷ is) le o = (good_later h g i le o.0, all_later h g is le o.1)

  held_good : (h : Heap) (way : Manner) (r : MethodRef) (self : Ref) (args : List Value) (answers : Bool) (x : ClassKey) (o : Option Held) (s : Sig) (is : List Invocation) → w.held x r ≡ o → w.sig r ≡ Some s
      → has_type w h (types.Class x) (To self) ≡ true → have_types w h s.params args ≡ true → AllGood h is → AllGood h (with_held way r self args answers x o is)
  held_good h way r self args answers x None s is e d t a rest = rest
  held_good h way r self args answers x (Some b) s is e d t a rest = (record { sig = s; is = d; held = e; self = t; args = a }, rest)

  hooks_good : (h : Heap) (way : Manner) (r : MethodRef) (self : Ref) (args : List Value) (ks : List ClassKey) (s : Sig) (is : List Invocation) → ((k : ClassKey) → Mem k ks → has_type w h (types.Class k) (To self) ≡ true) → w.sig r ≡ Some s
      → have_types w h s.params args ≡ true → AllGood h is → AllGood h (with_hooks w way r self args ks is)
  hooks_good h way r self args [] s is e d a rest = rest
  hooks_good h way r self args (k ∷ ks) s is e d a rest =
      held_good h way r self args false k (w.held k r) s (with_hooks w way r self args ks is) refl d (e k (inl refl)) a (hooks_good h way r self args ks s is (λ c m. e c (inr m)) d a rest)

  hook_above : (x : ClassKey) (p : Option ClassKey) (b : Bool) (k : ClassKey) → Mem k (elim p [ None ↦ if b then [] else w.hooks (w.meta x) | Some z ↦ [] ]) → w.is_a (w.meta x) k ≡ true
  hook_above x None true k m = absurd m
  hook_above x None false k m = sound.hooks (w.meta x) k m
  hook_above x (Some p) b k m = absurd m

  -- the class that answers a call, from self's class or from a parent
  answering : (h : Heap) (x : ClassKey) (self : Ref) (r : MethodRef) (p : Option ClassKey) (s : Sig) → class_of w h self ≡ x → w.sig r ≡ Some s → has_type w h (types.Class r.class) (To self) ≡ true → AtParent w h self r p
      → (y : ClassKey) × ((elim p [ None ↦ w.impl x r | Some z ↦ w.impl z r ]) ≡ Some y) × (has_type w h (types.Class y) (To self) ≡ true)
  answering h x self r None s is sig e a =
      let t = both (is_there w h self) (w.is_a (class_of w h self) r.class) e in
      let f = sound.answered x r s sig (subst (λ z. w.is_a z r.class ≡ true) is t.1) in
      (f.class, f.found, both_true (is_there w h self) (w.is_a (class_of w h self) f.class) t.0 (subst (λ z. w.is_a z f.class ≡ true) (sym is) f.above))
  answering h x self r (Some p) s is sig e a =
      let t = both (is_there w h self) (w.is_a (class_of w h self) p) a.0 in
      let f = sound.answered p r s sig a.1 in
      (f.class, f.found, both_true (is_there w h self) (w.is_a (class_of w h self) f.class) t.0 (sound.through (class_of w h self) p f.class t.1 f.above))

  bodies_good : (h : Heap) (q : Request) (s : Sig) → AreTyped w h → w.sig q.method ≡ Some s → has_type w h (types.Class q.method.class) (To q.self) ≡ true → have_types w h s.params q.args ≡ true → AtParent w h q.self q.method q.parent
      → AllGood h (call_bodies w (class_of w h q.self) q)
  bodies_good h q s typed is e a p =
      let x = class_of w h q.self in
      let seen : List Value = To q.self ∷ Str q.method.name ∷ [] in
      let hooks : List ClassKey = hooks_of w x q in
      let self_is = (both (is_there w h q.self) (w.is_a x q.method.class) e).0 in
      let seen_is : have_types w h (an_object ∷ types.Str ∷ []) seen ≡ true = both_true (has_type w h an_object (To q.self)) true (an_object_is w known sound h q.self typed self_is) refl in
      let on_class : (k : ClassKey) → Mem k hooks → has_type w h (types.Class k) (To (ClassObject x)) ≡ true = λ k m. both_true (w.is_a x som_object) (w.is_a (w.meta x) k) (there_object w known sound h q.self typed self_is) (hook_above x q.parent (is_kernel q.method.class) k m) in
      let f = answering h x q.self q.method q.parent s refl is e p in
      let after : List Invocation = with_hooks w After after_method (ClassObject x) seen (reverse hooks) [] in
      hooks_good h Before before_method (ClassObject x) seen hooks _ (with_method w q (body_class w x q) after) on_class sound.before.sig seen_is
      (subst (λ o. AllGood h (with_method w q o after)) (sym f.1)
      (held_good h q.way q.method q.self q.args true f.0 (w.held f.0 q.method) s after refl is f.2 a
      (hooks_good h After after_method (ClassObject x) seen (reverse hooks) _ [] (λ k m. on_class k (reverse_mem k hooks m)) sound.after.sig seen_is tt)))

  -- ---- bodies with tests

  module _ (tests : Tests) (implied : AreImplied w tests) where
    module _ (call other : Calls) (keep : CallsKeep w call other) where
      -- what calls do with tests keeps types too
      keep_too : CallsKeep w other other
      keep_too h q s is e a p =
          let k = keep h q s is e a p in
          record { same = λ t le ty. refl; left = λ t le ty. subst (Leaves w (Has w s.result)) (sym (k.same t le ty)) (k.left t le ty) }

      body_both : (h : Heap) (i : Invocation) → Good h i → AreTyped w h → Keeps w h (body_does w call i.body i.class i.method i.self i.args) (body_does w other i.body i.class i.method i.self i.args) (Any w)
      body_both h i o ty =
          let fits = sound.bodies i.class i.method o.sig i.body o.is o.held in
          let one = body_keeps w known sound (pure tt) call other keep h i.body i.class i.method i.self i.args o.sig o.is fits o.self o.args ty in
          let two = body_keeps w known sound (pure tt) other other keep_too h i.body i.class i.method i.self i.args o.sig o.is fits o.self o.args ty in
          weaker_keeps w h (Has w o.sig.result) (Any w) (body_does w call i.body i.class i.method i.self i.args) (body_does w other i.body i.class i.method i.self i.args) (λ v g le t f. tt)
          (record { same = λ s le t. sym (two.same s le t) ∙ one.same s le t; left = one.left })

      can : (h g : Heap) (i : Invocation) → IsLater h g → Good h i → can_run w i.method i.class i.self i.args g ≡ true
      can h g i le o =
          both_true (stands w i.class (To i.self) g) (are_arguments w g (w.sig i.method) i.args) (type_later w h g le (types.Class i.class) (To i.self) o.self)
          (subst (λ z. are_arguments w g z i.args ≡ true) (sym o.is) (types_later w h g le o.sig.params i.args o.args))

      invoked_keeps : (h : Heap) (i : Invocation) → Good h i → Keeps w h (invoking w call i) (invoked w tests other i) (Any w)
      invoked_keeps h i o =
          let event = emit (Called i.method i.way i.class) in
          let does : Calls → Act Value = λ c. body_does w c i.body i.class i.method i.self i.args in
          check_keeps w (fault faults.Nil (place_of i)) h (Any w) (tests.body i) (take_unit >>= λ u. event >>= λ v. does call) (take_unit >>= λ u. event >>= λ v. does other)
          (λ g le ty. implied.body i g (can h g i le o))
          (bind_keeps w h (Any w) (Any w) (λ u. event >>= λ v. does call) (λ u. event >>= λ v. does other)
          (λ u g le ty f. bind_keeps w g (Any w) (Any w) (λ v. does call) (λ v. does other)
          (λ v g2 le2 ty2 f2. body_both g2 i (good_later h g2 i (later_on h g g2 le le2) o) ty2)
          event event (emit_keeps w g (Called i.method i.way i.class)))
          take_unit take_unit (unit_keeps w h))

      all_keep : (is : List Invocation) (h : Heap) → AllGood h is → (v : Value) → Keeps w h (all_plain w call is v) (all_invoked w tests other is v) (Any w)
      all_keep [] h o v = pure_keeps w h (Any w) v (λ g le ty. tt)
      all_keep (i ∷ is) h o v =
          bind_keeps w h (Any w) (Any w) (λ u. all_plain w call is (if i.answers then u else v)) (λ u. all_invoked w tests other is (if i.answers then u else v))
          (λ u g le ty f. all_keep is g (all_later h g is le o.1) (if i.answers then u else v)) (invoking w call i) (invoked w tests other i) (invoked_keeps h i o.0)

      bodies_keep : (h : Heap) (x : ClassKey) (q : Request) → AllGood h (call_bodies w x q) → Keeps w h (bodies w call x q) (all_invoked w tests other (call_bodies w x q) Nil) (Any w)
      bodies_keep h x q o =
          let k = all_keep (call_bodies w x q) h o Nil in
          record {
            same = λ s le ty. k.same s le ty ∙ sym (bodies_plain w call x q s);
            left = λ s le ty. subst (Leaves w (Any w)) (sym (bodies_plain w call x q s)) (k.left s le ty);
          }

    -- ---- calls

    tested_none : (q : Request) → tested w tests zero q ≡ (passes q.from (tests.call q) >> fault faults.Depth q.from)
    unfolding tested
    tested_none q = refl

    tested_some : (l : ℕ) (q : Request) → tested w tests (suc l) q ≡ (passes q.from (tests.call q) >> reading (λ h. all_invoked w tests (tested w tests l) (call_bodies w (class_of w h q.self) q) Nil))
    unfolding tested
    tested_some l q = refl

    below_there : (h : Heap) (r : MethodRef) (self : Ref) (p : Option ClassKey) → AtParent w h self r p → is_below w r.class p ≡ true
    below_there h r self None a = refl
    below_there h r self (Some p) a = a.1

    method_there : (h g : Heap) (q : Request) (s : Sig) → IsLater h g → w.sig q.method ≡ Some s → has_type w h (types.Class q.method.class) (To q.self) ≡ true → AtParent w h q.self q.method q.parent → has_method w q g ≡ true
    method_there h g q s le is e p =
        both_true (stands w q.method.class (To q.self) g) (is_some (w.sig q.method) && is_below w q.method.class q.parent) (type_later w h g le (types.Class q.method.class) (To q.self) e)
        (both_true (is_some (w.sig q.method)) (is_below w q.method.class q.parent) (ap is_some is) (below_there h q.method q.self q.parent p))

    parent_later : (h g : Heap) (self : Ref) (r : MethodRef) (p : Option ClassKey) → IsLater h g → AtParent w h self r p → AtParent w g self r p
    parent_later h g self r None le a = tt
    parent_later h g self r (Some p) le a = (type_later w h g le (types.Class p) (To self) a.0, a.1)

    -- what such a call does with its test, where it does so without
    passes_same : (h : Heap) (q : Request) (s : Sig) (m n : Act Value) → w.sig q.method ≡ Some s → has_type w h (types.Class q.method.class) (To q.self) ≡ true → AtParent w h q.self q.method q.parent → Keeps w h m n (Any w)
        → Keeps w h m (passes q.from (tests.call q) >>= λ _. n) (Any w)
    passes_same h q s m n is e p k = check_keeps w (fault faults.Nil q.from) h (Any w) (tests.call q) m n (λ g le ty. implied.call q g (method_there h g q s le is e p)) k

    pub tested_keep : (l : ℕ) → CallsKeep w (calls w l) (tested w tests l)
    tested_keep zero h q s is e a p =
        let same : Keeps w h (fault faults.Depth q.from) (passes q.from (tests.call q) >>= λ _. fault faults.Depth q.from) (Any w) = passes_same h q s (fault faults.Depth q.from) (fault faults.Depth q.from) is e p (fault_keeps w h (Any w) faults.Depth q.from) in
        let known_left = all_calls_keep w known sound (pure tt) zero h q s is e a p in
        subst (λ (n : Act Value). Keeps w h (calls w zero q) n (Has w s.result)) (sym (tested_none q))
        (record { same = λ t le ty. same.same t le ty ∙ ap (λ (m : Act Value). m.does t) (sym (call_none w q)); left = known_left.left })
    tested_keep (suc l) h q s is e a p =
        let plain : Act Value = reading (λ g. bodies w (calls w l) (class_of w g q.self) q) in
        let with_tests : Act Value = reading (λ g. all_invoked w tests (tested w tests l) (call_bodies w (class_of w g q.self) q) Nil) in
        let read : Keeps w h plain with_tests (Any w) = reading_keeps w h (Any w) (λ g. bodies w (calls w l) (class_of w g q.self) q) (λ g. all_invoked w tests (tested w tests l) (call_bodies w (class_of w g q.self) q) Nil)
        (λ g le ty. bodies_keep (calls w l) (tested w tests l) (tested_keep l) g (class_of w g q.self) q
        (bodies_good g q s ty is (type_later w h g le (types.Class q.method.class) (To q.self) e) (types_later w h g le s.params q.args a) (parent_later h g q.self q.method q.parent le p))) in
        let same : Keeps w h plain (passes q.from (tests.call q) >>= λ _. with_tests) (Any w) = passes_same h q s plain with_tests is e p read in
        let known_left = all_calls_keep w known sound (pure tt) (suc l) h q s is e a p in
        subst (λ (n : Act Value). Keeps w h (calls w (suc l) q) n (Has w s.result)) (sym (tested_some l q))
        (record { same = λ t le ty. same.same t le ty ∙ ap (λ (m : Act Value). m.does t) (sym (call_some w l q)); left = known_left.left })

    -- ---- main

    pub main_same : (main : Block) (after : Scope) → block_scope (facts_of w known) in_main main [] ≡ Ok after → (fuel : ℕ) → tested_in w tests main fuel ≡ means_in w main fuel
    main_same main after e fuel =
        let h : Heap = nothing_yet w in
        let from : Here = record { me = Nil; place = InMain } in
        let keep = tested_keep MAX_DEPTH in
        let one = block_keeps w known sound (pure tt) (calls w MAX_DEPTH) (tested w tests MAX_DEPTH) keep from in_main main [] after e h [] tt refl in
        let two = block_keeps w known sound (pure tt) (tested w tests MAX_DEPTH) (tested w tests MAX_DEPTH) (keep_too (calls w MAX_DEPTH) (tested w tests MAX_DEPTH) keep) from in_main main [] after e h [] tt refl in
        let done : Ran Flow → Ran (Unit {0}) = λ r. follow r (λ flow t. Goes (tt {0}) t) in
        ap done (sym (two.same (beginning w fuel) (later_self h) (nothing_typed w)) ∙ one.same (beginning w fuel) (later_self h) (nothing_typed w))
