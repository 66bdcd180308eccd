-- Who owns what, and which bodies of the kernel's look something up.
use Rattle.std.proofs.Common.{◌≡◌, ◌≤◌, ℕ, zero, suc, inl, inr, Bool, true, false, not, ◌&&◌, ◌||◌, if◌then◌else◌, List, [], ◌∷◌, ◌++◌, Option, Some, None, refl, sym, ap, ◌∙◌, subst, arith, true≢false}
use Rattle.std.specs.Prelude.{is_some}
use Rattle.std.specs.Str.{bytes_eq}
use Rattle.som_model.specs.declared.key.ClassKey.{ClassKey, out-ClassKey}
use Rattle.som_model.specs.declared.key.ClassKey.TheOpen.{ClassKey-F}
use Rattle.som_model.specs.declared.key.MethodRef.{MethodRef}
use Rattle.som_model.specs.declared.class.Entry.{Entry}
use Rattle.som_model.specs.declared.class.Entry.TheVariants as entries
use Rattle.som_model.specs.declared.class.Body.{Body}
use Rattle.som_model.specs.declared.class.Body.TheVariants as bodies
use Rattle.som_model.specs.declared.class.Override.{Override}
use Rattle.som_model.specs.Lists.{Mem, or_else, some}
use Rattle.som_model.specs.Keys.{same_key, same_method}
use Rattle.som_model.specs.Class.{Class, entry_name, entry_of}
use Rattle.som_model.specs.Classes.{class_at, hierarchy}
use Rattle.som_model.specs.Kernel.{kernel, som_init, som_uninit}
use Rattle.som_model.specs.Implementation.{Held, User, Get, Set, OfKernel, Forward, Nothing, body_named, declared_held, forwards, held, held_by, introduced_body, is_kernel, override_of, proxy_held}
use Rattle.som_semantics.specs.Invoked.{kernel_body, table}
use Rattle.som_model.specs.Loads.{FacesLoad, IsOrdered}
use Rattle.som_model.specs.Owner.{entry_at, owner}
use Rattle.som_model.proofs.KeyLaws.{exact_keys}
use Rattle.som_model.proofs.NamedLaws.{same_named}
use Rattle.som_model_laws.proofs.Members.{mem_split}
use Rattle.som_model_laws.proofs.Owners.{entry_mem, moved_lower, moved_to, owner_moved, owner_stays}
use Rattle.som_model_laws.proofs.Standing.{found_is}
use Rattle.som_type_soundness.proofs.Methods.{own_is}
use Rattle.som_machine_laws.specs.Searching.{is_asking, looks_up}
use Rattle.som_machine_laws.proofs.Tests.{none_passes}

-- ---- owners

module _ (cs : List Class) (o : IsOrdered cs) where
  abbrev all : List Class
  all = kernel ++ cs

  abbrev ref : ClassKey → List ℕ → MethodRef
  ref k name = record { class = k; name = name }

  abbrev Rests : MethodRef → Type 0
  Rests r = owner all (owner all r) ≡ owner all r

  rests_there : (k : ClassKey) (name : List ℕ) → moved_to (entry_at all k name) ≡ None → Rests (ref k name)
  rests_there k name e = ap (owner all) (owner_stays cs o k name e)

  rests_by : (n : ℕ) (k : ClassKey) (name : List ℕ) → (hierarchy all).height k ≤ n → (q : Option Entry) → entry_at all k name ≡ q
      → ((m : ℕ) → n ≡ suc m → (to : ClassKey) → (hierarchy all).height to ≤ m → Rests (ref to name)) → Rests (ref k name)
  rests_by n k name le None e further = rests_there k name (ap moved_to e)
  rests_by n k name le (Some (entries.Introduced x sig way)) e further = rests_there k name (ap moved_to e)
  rests_by zero k name le (Some (entries.Moved x to)) e further = absurd (let r = (moved_lower cs o k name x to e).2 in omega (arith, r, le))
  rests_by (suc n) k name le (Some (entries.Moved x to)) e further =
      let r = (moved_lower cs o k name x to e).2 in
      subst (λ z. owner all z ≡ z) (sym (owner_moved cs o k name x to e)) (further n refl to (omega (arith, r, le)))

  rests : (n : ℕ) (k : ClassKey) (name : List ℕ) → (hierarchy all).height k ≤ n → Rests (ref k name)
  rests zero k name le = rests_by zero k name le (entry_at all k name) refl (λ m e. absurd (omega (arith, e)))
  rests (suc n) k name le = rests_by (suc n) k name le (entry_at all k name) refl (λ m e to lower. let is : n ≡ m = omega (arith, e) in rests n to name (omega (arith, lower, is)))

  -- an owner owns itself
  pub owner_rests : (r : MethodRef) → owner all (owner all r) ≡ owner all r
  owner_rests r = rests ((hierarchy all).height r.class) r.class r.name (omega arith)

-- ---- bodies of the kernel's

-- a body of the kernel's that looks something up, of a method that doesn't ask
abbrev strange : Class → Entry → Bool
strange c e = looks_up (kernel_body table (entry_name e)) && not (is_asking (record { class = c.key; name = entry_name e }))

none_strange : some (λ (c : Class). some (strange c) c.decl.face.entries) kernel ≡ false
none_strange = simp same_named

not_strange : (b a : Bool) → (b && not a) ≡ false → a ≡ false → b ≡ false
not_strange true false e f = e
not_strange true true e f = absurd (true≢false f)
not_strange false a e f = refl

-- a method of the kernel's that doesn't ask has a body that looks nothing up
kernel_quiet : (c : Class) (r : MethodRef) → Mem c kernel → c.key ≡ r.class → (q : Option Entry) → entry_of c.decl.face.entries r.name ≡ q → is_some q ≡ true → is_asking r ≡ false → looks_up (kernel_body table r.name) ≡ false
kernel_quiet c r m is None e some_entry other = absurd (true≢false (sym some_entry))
kernel_quiet c r m is (Some x) e some_entry other =
    let p = entry_mem c.decl.face.entries r.name x e in
    let fine = none_passes (strange c) c.decl.face.entries (none_passes (λ (d : Class). some (strange d) d.decl.face.entries) kernel none_strange c m) x p.0 in
    let named : (looks_up (kernel_body table r.name) && not (is_asking (record { class = c.key; name = r.name }))) ≡ false = subst (λ (name : List ℕ). (looks_up (kernel_body table name) && not (is_asking (record { class = c.key; name = name }))) ≡ false) p.1 fine in
    not_strange (looks_up (kernel_body table r.name)) (is_asking r) (subst (λ (k : ClassKey). (looks_up (kernel_body table r.name) && not (is_asking (record { class = k; name = r.name }))) ≡ false) is named) other

-- ---- who has a body of the kernel's

module _ (cs : List Class) (f : FacesLoad cs) (r : MethodRef) (name : List ℕ) where
  abbrev every : List Class
  every = kernel ++ cs

  -- what is had, is had by a class of the kernel's for a method of its own
  pub record OfKernels : Type 0 where
    pub class : Class
    pub mem : Mem class kernel
    pub key : class.key ≡ r.class
    pub entry : is_some (entry_of class.decl.face.entries r.name) ≡ true
    pub name_is : name ≡ r.name

  not_overridden : (os : List Override) → override_of every r os ≡ Some (OfKernel name) → ⊥
  not_overridden [] e = cc
  not_overridden (o ∷ os) e = by (same_method (owner every o.method) r) e (not_overridden os)
    where
      by : (b : Bool) → (if b then Some (User o.block) else override_of every r os) ≡ Some (OfKernel name) → (override_of every r os ≡ Some (OfKernel name) → ⊥) → ⊥
      by true g further = cc
      by false g further = further g

  not_named : (es : List Entry) (bs : List Body) (x : List ℕ) → body_named es bs x ≡ Some (OfKernel name) → ⊥
  not_named [] bs x e = cc
  not_named (entries.Moved n to ∷ es) bs x e = not_named es bs x e
  not_named (entries.Introduced n sig way ∷ es) [] x e = cc
  not_named (entries.Introduced n sig way ∷ es) (bodies.User b ∷ bs) x e = by (bytes_eq n x) e (not_named es bs x)
    where
      by : (t : Bool) → (if t then Some (User b) else body_named es bs x) ≡ Some (OfKernel name) → (body_named es bs x ≡ Some (OfKernel name) → ⊥) → ⊥
      by true g further = cc
      by false g further = further g
  not_named (entries.Introduced n sig way ∷ es) (bodies.Get v ∷ bs) x e = by (bytes_eq n x) e (not_named es bs x)
    where
      by : (t : Bool) → (if t then Some (Get v) else body_named es bs x) ≡ Some (OfKernel name) → (body_named es bs x ≡ Some (OfKernel name) → ⊥) → ⊥
      by true g further = cc
      by false g further = further g
  not_named (entries.Introduced n sig way ∷ es) (bodies.Set v ∷ bs) x e = by (bytes_eq n x) e (not_named es bs x)
    where
      by : (t : Bool) → (if t then Some (Set v) else body_named es bs x) ≡ Some (OfKernel name) → (body_named es bs x ≡ Some (OfKernel name) → ⊥) → ⊥
      by true g further = cc
      by false g further = further g

  same_name : (x : List ℕ) → Some (OfKernel x) ≡ Some (OfKernel name) → name ≡ x
  same_name x e = cc

  -- a class of which it is the body for a name that it introduces
  introduces_it : (c : Class) → introduced_body c r.name ≡ Some (OfKernel name) → (is_kernel c.key ≡ true) × (is_some (entry_of c.decl.face.entries r.name) ≡ true) × (name ≡ r.name)
  introduces_it c e = by (is_kernel c.key) (is_some (entry_of c.decl.face.entries r.name)) e
    where
      by : (k t : Bool) → (if k then (if t then Some (OfKernel r.name) else None) else body_named c.decl.face.entries c.decl.bodies r.name) ≡ Some (OfKernel name) → (k ≡ true) × (t ≡ true) × (name ≡ r.name)
      by true true g = (refl, refl, same_name r.name g)
      by true false g = absurd (let z = g in cc)
      by false t g = absurd (not_named c.decl.face.entries c.decl.bodies r.name g)

  of_kernel : (c : Class) → Mem c every → is_kernel c.key ≡ true → Mem c kernel
  of_kernel c m e = elim (mem_split c kernel cs m) [ inl k ↦ k | inr k ↦ absurd (true≢false (sym e ∙ own_is cs f c k)) ]

  class_has : (c : Class) → Mem c every → declared_held every (Some c) r ≡ Some (OfKernel name) → OfKernels
  class_has c m e = by (same_key c.key r.class) refl e
    where
      either : c.key ≡ r.class → (q : Option Held) → introduced_body c r.name ≡ q → or_else q (override_of every r c.decl.overrides) ≡ Some (OfKernel name) → OfKernels
      either is None g h = absurd (not_overridden c.decl.overrides h)
      either is (Some x) g h = let i = introduces_it c (g ∙ h) in record { class = c; mem = of_kernel c m i.0; key = is; entry = i.1; name_is = i.2 }

      by : (t : Bool) → same_key c.key r.class ≡ t → or_else (if t then introduced_body c r.name else None) (override_of every r c.decl.overrides) ≡ Some (OfKernel name) → OfKernels
      by true t h = either (exact_keys.two c.key r.class t) (introduced_body c r.name) refl h
      by false t h = absurd (not_overridden c.decl.overrides h)

  declared_has : (k : ClassKey) (q : Option Class) → class_at every k ≡ q → declared_held every q r ≡ Some (OfKernel name) → OfKernels
  declared_has k None g e = absurd (let z = e in cc)
  declared_has k (Some c) g e = class_has c (found_is cs f.ordered k c g).0 e

  no_proxy : (c : ClassKey) → proxy_held every c r ≡ Some (OfKernel name) → ⊥
  no_proxy c e = by (same_method r som_init) (same_method r som_uninit) (some (same_method r) (forwards every c)) e
    where
      by : (x y z : Bool) → (if x || y then Some Nothing else (if z then Some Forward else None)) ≡ Some (OfKernel name) → ⊥
      by true y z g = cc
      by false true z g = cc
      by false false true g = cc
      by false false false g = cc

  held_layer : (k : ClassKey) (l : ClassKey-F ClassKey) → held_by every l k r ≡ Some (OfKernel name) → OfKernels
  held_layer k (ClassKey-F.Named m n) e = declared_has k (class_at every k) refl e
  held_layer k (ClassKey-F.Derived ks) e = absurd (let z = e in cc)
  held_layer k (ClassKey-F.Proxy c) e = absurd (no_proxy c e)

  -- a body of the kernel's that a class has for a method that doesn't ask looks nothing up
  pub held_quiet : (k : ClassKey) → held every k r ≡ Some (OfKernel name) → is_asking r ≡ false → looks_up (kernel_body table name) ≡ false
  held_quiet k e other =
      let h = held_layer k (out-ClassKey k) e in
      subst (λ (n : List ℕ). looks_up (kernel_body table n) ≡ false) (sym h.name_is) (kernel_quiet h.class r h.mem h.key (entry_of h.class.decl.face.entries r.name) refl h.entry other)
