-- Classes that can be loaded are as a typed run needs them.
use Rattle.std.proofs.Common.{◌≡◌, ℕ, inl, inr, Bool, true, false, not, ◌&&◌, ◌||◌, if◌then◌else◌, List, [], ◌∷◌, ◌++◌, filter, Option, Some, None, Ok, Err, refl, sym, ap, ◌∙◌, subst}
use Rattle.std.specs.Prelude.{codes}
use Rattle.som_model.specs.declared.key.Module.TheVariants as modules
use Rattle.som_model.specs.declared.key.ClassKey.{ClassKey}
use Rattle.som_model.specs.declared.key.MethodRef.{MethodRef}
use Rattle.som_model.specs.declared.key.ValueType.TheVariants as types
use Rattle.som_model.specs.declared.class.Sig.{Sig}
use Rattle.som_model.specs.declared.syntax.Block.{Block}
use Rattle.som_model.specs.Lists.{Mem}
use Rattle.som_model.specs.Keys.{same_key}
use Rattle.som_model.specs.Ancestors.{itself}
use Rattle.som_model.specs.Resolution.{byname}
use Rattle.som_model.specs.Class.{Class, bare, class_in, entry_of, introduced_sig}
use Rattle.som_model.specs.Kernel.{kernel, som_object, som_class, som_class_mgr, before_after, object_face, class_face, before_after_face, before_method, after_method, an_object}
use Rattle.som_model.specs.Classes.{class_at, ancestors, hierarchy, is_a}
use Rattle.som_model.specs.Owner.{introduces, owner, sig_of}
use Rattle.som_model.specs.Implementation.{has_body}
use Rattle.som_model.specs.Metaclass.{hooks}
use Rattle.som_semantics.specs.World.{world, answers_of, reference}
use Rattle.som_semantics.proofs.WorldLaws.{answers_are}
use Rattle.som_model.specs.Typing.{ClassFacts, Ruled, in_main, running_facts}
use Rattle.som_model.specs.TypedBlocks.{Scope, block_scope}
use Rattle.som_model.specs.Conforming.{main_typed_by}
use Rattle.som_model.specs.Loads.{IsOrdered, Loads}
use Rattle.som_model_laws.proofs.Laws.{ancestors as ancestors_are, descends_through}
use Rattle.som_model_laws.proofs.Standing.{falls, tells}
use Rattle.som_model_laws.proofs.Owners.{entry_is}
use Rattle.som_release_laws.specs.Releasing.{HaveParents}
use Rattle.som_release_laws.proofs.Facing.{tested, tests}
use Rattle.som_type_soundness.proofs.Heaps.{some_is}
use Rattle.som_type_soundness.proofs.Facts.{IsMethod, IsSound, facts_of, sig}
use Rattle.som_type_soundness.proofs.Classes.{before_after_at, class_class_at, class_object, known_object, manager_object, manager_real, manager_slots, meta_class, meta_real, named_object, object_at, one_proxied, proxy_of}
use Rattle.som_type_soundness.proofs.Methods.{answers, named_above, own_owner, owner_above, some_sig}
use Rattle.som_type_soundness.proofs.Fitting.{all_fit, known_in}

filter_mem : {A : Type 0} (test : A → Bool) (x : A) (xs : List A) → Mem x (filter test xs) → Mem x xs
filter_mem test x [] m = m
filter_mem test x (y ∷ xs) m = by (test y) (filter_mem test x xs) m
  where
    by : (b : Bool) → (Mem x (filter test xs) → Mem x xs) → Mem x (if b then y ∷ filter test xs else filter test xs) → Mem x (y ∷ xs)
    by true f (inl e) = inl e
    by true f (inr n) = inr (f n)
    by false f n = inr (f n)

module _ (cs : List Class) (main : Block) (l : Loads cs main) where
  abbrev all : List Class
  all = kernel ++ cs

  abbrev o : IsOrdered cs
  o = l.faces.ordered

  have : HaveParents cs
  have c m = (l.counted c m).face.some_parent

  named_well : (k : ClassKey) (name : List ℕ) (r : MethodRef) (q : Option ClassKey) → byname (hierarchy all) (introduces all name) k ≡ q → reference name q ≡ Some r → (is_a all k r.class ≡ true) × ((s : Sig) × (sig_of all r ≡ Some s))
  named_well k name r None e f = absurd (let z = f in cc)
  named_well k name r (Some a) e f =
      let n = named_above cs l.faces k a name e in
      let is : record { class = a; name = name } ≡ r = (let z = f in cc) in
      let s = some_sig (sig_of all (record { class = a; name = name })) n.1 in
      subst (λ (z : MethodRef). (is_a all k z.class ≡ true) × ((s : Sig) × (sig_of all z ≡ Some s))) is (tests cs o k a n.0, s)

  hook_above : (m k : ClassKey) → Mem k (hooks all m) → is_a all m k ≡ true
  hook_above m k n = by (λ x. not (same_key x before_after) && (has_body all before_method x || has_body all after_method x)) (is_a all m before_after) n
    where
      by : (test : ClassKey → Bool) (b : Bool) → Mem k (if b then filter test (ancestors all m) else []) → is_a all m k ≡ true
      by test true n = tests cs o m k ((ancestors_are (hierarchy all) (tells cs o) (falls cs o) m k).0 (filter_mem test k (ancestors all m) n))
      by test false n = absurd n

  -- a method that a class of the kernel introduces
  kernel_method : (k : ClassKey) (name : List ℕ) (c : Class) (s : Sig) → class_at all k ≡ Some c → introduced_sig (entry_of c.decl.face.entries name) ≡ Some s → IsMethod (answers_of all) (record { class = k; name = name }) s
  kernel_method k name c s e f =
      let is : sig_of all (record { class = k; name = name }) ≡ Some s = ap introduced_sig (entry_is all k name c e) ∙ f in
      record { owner = own_owner cs l.faces (record { class = k; name = name }) s is; sig = is }

  sound : IsSound (answers_of all) (known_in all)
  sound = record {
    itself = λ k. tests cs o k k itself;
    through = λ a b c p q. tests cs o a c (descends_through (hierarchy all) a b c (tested cs o a b p) (tested cs o b c q));
    class = λ k e. (let c = some_is (class_at all k) e in tests cs o k som_object (known_object cs o have k c.0 c.1));
    meta = λ k. tests cs o _ som_class (meta_class cs o have k);
    metaclass = tests cs o som_class som_object (class_object cs o);
    manager = tests cs o som_class_mgr som_object (manager_object cs o);
    real = λ k c e. meta_real cs o k c (tested cs o _ _ e);
    real_manager = λ c e. manager_real cs o c (tested cs o _ _ e);
    slots = λ k n e. manager_slots cs o k n (tested cs o som_class_mgr k e);
    named = λ name k e. tests cs o k som_object (named_object cs o have name k e);
    proxy = λ k. tests cs o _ k (proxy_of cs o k);
    proxied = λ k c e d. (let x = some_is (class_at all k) e in one_proxied cs o k c x.0 x.1 (tested cs o _ _ d));
    owner = λ r s e. tests cs o r.class (owner all r).class (owner_above cs l.faces r s e);
    own = λ r s e. own_owner cs l.faces r s e;
    byname = λ k name r e. named_well k name r (byname (hierarchy all) (introduces all name) k) refl e;
    answered = λ x r s e d. (let a = answers cs l.faces l.bodies l.inherited x r s e d in record { class = a.0; found = a.2; body = a.1; held = a.3; above = a.4 });
    bodies = λ y r s b e f. all_fit cs main l y r s b e f;
    hooks = hook_above;
    init = kernel_method som_object (codes "somInit") (class_in modules.Kernel (bare object_face)) (sig types.Void []) (object_at cs o) refl;
    uninit = kernel_method som_object (codes "somUninit") (class_in modules.Kernel (bare object_face)) (sig types.Void []) (object_at cs o) refl;
    free = kernel_method som_object (codes "somFree") (class_in modules.Kernel (bare object_face)) (sig types.Void []) (object_at cs o) refl;
    new = kernel_method som_class (codes "somNew") (class_in modules.Kernel (bare class_face)) (sig an_object []) (class_class_at cs o) refl;
    dispatch = kernel_method som_object (codes "somDispatchName") (class_in modules.Kernel (bare object_face)) (sig types.Str (types.Str ∷ [])) (object_at cs o) refl;
    before = kernel_method before_after (codes "sommBeforeMethod") (class_in modules.Kernel (bare before_after_face)) (sig types.Void (an_object ∷ types.Str ∷ [])) (before_after_at cs o) refl;
    after = kernel_method before_after (codes "sommAfterMethod") (class_in modules.Kernel (bare before_after_face)) (sig types.Void (an_object ∷ types.Str ∷ [])) (before_after_at cs o) refl;
  }

  -- the classes of a run, and typing by them, are these
  pub sound_world : IsSound (world all) (known_in all)
  sound_world = subst (λ w. IsSound w (known_in all)) (answers_are all) sound

  pub facts_are : running_facts all ≡ facts_of (world all) (known_in all)
  unfolding world running_facts
  facts_are = refl

  pub main_scope : (after : Scope) × (block_scope (facts_of (world all) (known_in all)) in_main main [] ≡ Ok after)
  main_scope =
      let at = well (block_scope (running_facts all) in_main main []) refl l.main_typed in
      (at.0, ap (λ (f : ClassFacts). block_scope f in_main main []) (sym facts_are) ∙ at.1)
    where
      well : (x : Ruled Scope) → block_scope (running_facts all) in_main main [] ≡ x → main_typed_by (running_facts all) main ≡ [] → (after : Scope) × (block_scope (running_facts all) in_main main [] ≡ Ok after)
      well (Ok after) e f = (after, e)
      well (Err rule) e f = absurd (let g = rw e at f in cc)
