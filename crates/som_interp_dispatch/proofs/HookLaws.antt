-- Hooks descend from SOMMBeforeAfter, and a class that has a body of its own answers itself.
use Rattle.std.proofs.Common.{◌≡◌, ℕ, zero, suc, inl, inr, Bool, true, false, not, ◌&&◌, ◌||◌, if◌then◌else◌, List, [], ◌∷◌, ◌++◌, filter, Option, Some, None, refl, sym, ap, ◌∙◌, subst, true≢false}
use Rattle.std.specs.Prelude.{is_some}
use Rattle.som_model.specs.declared.key.ClassKey.{ClassKey, out-ClassKey}
use Rattle.som_model.specs.declared.key.ClassKey.TheOpen.{ClassKey-F}
use Rattle.som_model.specs.declared.key.MethodRef.{MethodRef}
use Rattle.som_model.specs.declared.key.ClassKey.TheVariants as keys
use Rattle.som_model.specs.declared.class.Override.{Override}
use Rattle.som_model.specs.declared.class.Sig.{Sig}
use Rattle.som_model.specs.declared.syntax.Block.{Block}
use Rattle.som_model.specs.Lists.{Mem, or_else, some}
use Rattle.som_model.specs.Keys.{same_key, same_method}
use Rattle.som_model.specs.Hierarchy.{Hierarchy}
use Rattle.som_model.specs.Ancestors.{itself}
use Rattle.som_model.specs.Resolution.{impl_within}
use Rattle.som_model.specs.Class.{Class}
use Rattle.som_model.specs.Kernel.{kernel, before_after, before_method, after_method, som_init, som_uninit}
use Rattle.som_model.specs.Classes.{class_at, ancestors, hierarchy, is_a}
use Rattle.som_model.specs.Owner.{owner}
use Rattle.som_model.specs.Implementation.{Held, User, Forward, Nothing, has_body, held, held_by, declared_held, introduced_body, override_of, proxy_held, forwards, selected, implementation}
use Rattle.som_model.specs.Metaclass.{hooks}
use Rattle.som_model.specs.Loads.{IsOrdered, Loads}
use Rattle.som_model.proofs.KeyLaws.{both, exact_keys}
use Rattle.som_model.proofs.NamedLaws.{same_named}
use Rattle.som_semantics.specs.World.{answers_of}
use Rattle.som_semantics.proofs.WorldLaws.{answers_are}
use Rattle.som_model_laws.proofs.Members.{mem_split}
use Rattle.som_model_laws.proofs.Standing.{found_is}
use Rattle.som_release_laws.proofs.Facing.{tests}
use Rattle.som_release_laws.proofs.Inheriting.{s10_says}
use Rattle.som_type_soundness.proofs.Facts.{IsSound}
use Rattle.som_type_soundness.proofs.Fitting.{known_in}
use Rattle.som_type_soundness.proofs.Methods.{one_method}
use Rattle.som_type_soundness.proofs.Loading.{sound_world}

-- ---- who has a body answers

own_within : {K : Type 0} (h : Hierarchy K) (has : K → Bool) (chosen : K → Option K) (a : K) (n : ℕ) (x : K) → has x ≡ true → impl_within h has chosen a n x ≡ Some x
own_within h has chosen a zero x e = rw e refl
own_within h has chosen a (suc n) x e = rw e refl

pub own_answers : (cs : List Class) (x : ClassKey) (r : MethodRef) (b : Held) → held cs x r ≡ Some b → implementation cs x r ≡ Some x
own_answers cs x r b e = own_within (hierarchy cs) (has_body cs r) (selected cs r) r.class ((hierarchy cs).height x) x (ap is_some e)

-- ---- hooks

there : {A : Type 0} (o : Option A) → is_some o ≡ true → (a : A) × (o ≡ Some a)
there None e = absurd (true≢false (sym e))
there (Some a) e = (a, refl)

-- what passes a filter passes its test, and is one of the list
filter_says : {A : Type 0} (test : A → Bool) (x : A) (xs : List A) → Mem x (filter test xs) → test x ≡ true
filter_says test x [] m = absurd m
filter_says test x (y ∷ xs) m = by (test y) refl (filter_says test x xs) m
  where
    by : (b : Bool) → test y ≡ b → (Mem x (filter test xs) → test x ≡ true) → Mem x (if b then y ∷ filter test xs else filter test xs) → test x ≡ true
    by true t f (inl e) = ap test e ∙ t
    by true t f (inr n) = f n
    by false t f n = f n

kernel_overrides : (c : Class) → Mem c kernel → c.decl.overrides ≡ []
kernel_overrides c (inl e) = ap (λ (z : Class). z.decl.overrides) e
kernel_overrides c (inr (inl e)) = ap (λ (z : Class). z.decl.overrides) e
kernel_overrides c (inr (inr (inl e))) = ap (λ (z : Class). z.decl.overrides) e
kernel_overrides c (inr (inr (inr (inl e)))) = ap (λ (z : Class). z.decl.overrides) e
kernel_overrides c (inr (inr (inr (inr m)))) = absurd m

module _ (cs : List Class) (main : Block) (l : Loads cs main) where
  abbrev all : List Class
  all = kernel ++ cs

  abbrev o : IsOrdered cs
  o = l.faces.ordered

  -- an override of a method is one of the class's
  override_there : (r : MethodRef) (os : List Override) (b : Held) → override_of all r os ≡ Some b → (x : Override) × Mem x os × (owner all x.method ≡ r)
  override_there r [] b e = absurd (let z = e in cc)
  override_there r (x ∷ os) b e = by (same_method (owner all x.method) r) refl e (override_there r os b)
    where
      by : (t : Bool) → same_method (owner all x.method) r ≡ t → (if t then Some (User x.block) else override_of all r os) ≡ Some b → (override_of all r os ≡ Some b → (y : Override) × Mem y os × (owner all y.method ≡ r))
          → (y : Override) × Mem y (x ∷ os) × (owner all y.method ≡ r)
      by true t f further = (x, inl refl, one_method (owner all x.method) r t)
      by false t f further = let y = further f in (y.0, inr y.1, y.2)

  -- a class overrides a method of an ancestor
  overrides_above : (c : Class) (r : MethodRef) (b : Held) → Mem c all → override_of all r c.decl.overrides ≡ Some b → is_a all c.key r.class ≡ true
  overrides_above c r b m e =
      let x = override_there r c.decl.overrides b e in
      elim (mem_split c kernel cs m) [
        | inl k ↦ absurd (subst (λ z. Mem x.0 z) (kernel_overrides c k) x.1)
        | inr k ↦ (let p = ((s10_says all c (l.inherited c k)).overrides.0 x.0 x.1).0 in
            subst (λ (z : MethodRef). is_a all c.key z.class ≡ true) x.2 (both (not (same_key (owner all x.0.method).class c.key)) (is_a all c.key (owner all x.0.method).class) p).1)
      ]

  declared_above : (x : ClassKey) (r : MethodRef) (b : Held) (q : Option Class) → class_at all x ≡ q → declared_held all q r ≡ Some b → is_a all x r.class ≡ true
  declared_above x r b None e f = absurd (let z = f in cc)
  declared_above x r b (Some c) e f =
      let is = found_is cs o x c e in
      by (same_key c.key r.class) refl is.0 is.1 f
    where
      first : (t : Option Held) → Mem c all → c.key ≡ x → (t ≡ None) → or_else t (override_of all r c.decl.overrides) ≡ Some b → is_a all x r.class ≡ true
      first None m k none g = subst (λ z. is_a all z r.class ≡ true) k (overrides_above c r b m g)
      first (Some h) m k none g = absurd (let z = none in cc)

      by : (t : Bool) → same_key c.key r.class ≡ t → Mem c all → c.key ≡ x → or_else (if t then introduced_body c r.name else None) (override_of all r c.decl.overrides) ≡ Some b → is_a all x r.class ≡ true
      by true t m k g = subst (λ z. is_a all x z ≡ true) (sym k ∙ exact_keys.two c.key r.class t) (tests cs o x x itself)
      by false t m k g = first None m k refl g

  plain_sound : IsSound (answers_of all) (known_in all)
  plain_sound = subst (λ w. IsSound w (known_in all)) (sym (answers_are all)) (sound_world cs main l)

  -- a proxy's class has bodies for methods of the class that it is a proxy of
  proxy_above : (x c : ClassKey) (r : MethodRef) (s : Sig) (b : Held) → (answers_of all).sig r ≡ Some s → (same_method r som_init || same_method r som_uninit) ≡ false → held all x r ≡ proxy_held all c r → proxy_held all c r ≡ Some b → is_a all x r.class ≡ true
  proxy_above x c r s b known not_init is f = by (same_method r som_init || same_method r som_uninit) not_init (some (same_method r) (forwards all c)) is f
    where
      by : (u : Bool) → u ≡ false → (t : Bool) → held all x r ≡ (if u then Some Nothing else (if t then Some Forward else None)) → (if u then Some Nothing else (if t then Some Forward else None)) ≡ Some b → is_a all x r.class ≡ true
      by true u t h g = absurd (true≢false u)
      by false u false h g = absurd (let z = g in cc)
      by false u true h g =
          let k = plain_sound.bodies x r s Forward known h in
          subst (λ z. is_a all z r.class ≡ true) (sym k.1) (plain_sound.through (keys.Proxy k.0) k.0 r.class (plain_sound.proxy k.0) k.2)

  -- a class that has a body for a method descends from the method's class
  pub body_above : (x : ClassKey) (r : MethodRef) (s : Sig) (b : Held) → (answers_of all).sig r ≡ Some s → (same_method r som_init || same_method r som_uninit) ≡ false → held all x r ≡ Some b → is_a all x r.class ≡ true
  body_above x r s b known not_init e = by (out-ClassKey x) refl e
    where
      by : (y : ClassKey-F ClassKey) → out-ClassKey x ≡ y → held_by all y x r ≡ Some b → is_a all x r.class ≡ true
      by (ClassKey-F.Named m n) t f = declared_above x r b (class_at all x) refl f
      by (ClassKey-F.Derived ks) t f = absurd (let z = f in cc)
      by (ClassKey-F.Proxy c) t f = proxy_above x c r s b known not_init (ap (λ z. held_by all z x r) t) f

  not_before : (same_method before_method som_init || same_method before_method som_uninit) ≡ false
  not_before = simp same_named

  not_after : (same_method after_method som_init || same_method after_method som_uninit) ≡ false
  not_after = simp same_named

  -- a hook descends from SOMMBeforeAfter
  pub hook_above : (m k : ClassKey) → Mem k (hooks all m) → is_a all k before_after ≡ true
  hook_above m k n = by (is_a all m before_after) n
    where
      body : (x y : Bool) → has_body all before_method k ≡ x → has_body all after_method k ≡ y → (x || y) ≡ true → is_a all k before_after ≡ true
      body true y e f g = let b = there (held all k before_method) e in body_above k before_method _ b.0 plain_sound.before.sig not_before b.1
      body false true e f g = let b = there (held all k after_method) f in body_above k after_method _ b.0 plain_sound.after.sig not_after b.1
      body false false e f g = absurd (true≢false (sym g))

      by : (b : Bool) → Mem k (if b then filter (λ x. not (same_key x before_after) && (has_body all before_method x || has_body all after_method x)) (ancestors all m) else []) → is_a all k before_after ≡ true
      by true n =
          let t = filter_says (λ x. not (same_key x before_after) && (has_body all before_method x || has_body all after_method x)) k (ancestors all m) n in
          body (has_body all before_method k) (has_body all after_method k) refl refl (both (not (same_key k before_after)) (has_body all before_method k || has_body all after_method k) t).1
      by false n = absurd n
