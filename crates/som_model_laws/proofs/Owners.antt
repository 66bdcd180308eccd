-- Owners, which may be several moves away.
use Rattle.std.proofs.Common.{◌≡◌, ℕ, zero, suc, ◌<◌, ◌≤◌, Bool, true, false, not, List, ◌++◌, Option, Some, None, IsSome, slice_get, refl, sym, ap, ◌∙◌, subst, arith, true≢false}
use Rattle.std.specs.Prelude.{is_some}
use Rattle.std.specs.Str.{bytes_eq}
use Rattle.som_model.specs.declared.key.ClassKey.{ClassKey}
use Rattle.som_model.specs.declared.key.MethodRef.{MethodRef}
use Rattle.som_model.specs.declared.class.Entry.{Entry}
use Rattle.som_model.specs.declared.class.Entry.TheVariants as entries
use Rattle.som_model.specs.Lists.{Mem, every}
use Rattle.som_model.specs.Keys.{same_key}
use Rattle.som_model.specs.Hierarchy.{Hierarchy}
use Rattle.som_model.specs.Ancestors.{Descends, itself}
use Rattle.som_model.specs.Class.{Class, entry_name, entry_of, introduced_sig}
use Rattle.som_model.specs.Classes.{class_at, hierarchy, is_a}
use Rattle.som_model.specs.Kernel.{kernel}
use Rattle.som_model.specs.Metaclass.{rank}
use Rattle.som_model.specs.Owner.{entry_at, owner, owner_within}
use Rattle.som_model.proofs.KeyLaws.{exact_bytes, both}
use Rattle.som_model_laws.proofs.Laws.{descends_test, descends_through}
use Rattle.som_model.specs.Loads.{FacesLoad, IsOrdered}
use Rattle.som_model_laws.specs.Owning.{Owns}
use Rattle.som_model_laws.proofs.Lists.{find_mem, get_mem, every_mem}
use Rattle.som_model_laws.proofs.Standing.{earlier_at, falls, found, found_is, height_at, place, rank_at, tells}
use Rattle.som_model_laws.proofs.Metas.{kernel_none, first_four}

-- to where an entry was moved, if it was
abbrev pub moved_to : Option Entry → Option ClassKey
moved_to None = None
moved_to (Some (entries.Introduced name sig way)) = None
moved_to (Some (entries.Moved name to)) = Some to

pub stays : (cs : List Class) (n : ℕ) (r : MethodRef) → moved_to (entry_at cs r.class r.name) ≡ None → owner_within cs n r ≡ r
stays cs zero r e = refl
stays cs (suc n) r e = rw e refl

pub moves : (cs : List Class) (n : ℕ) (r : MethodRef) (to : ClassKey) → moved_to (entry_at cs r.class r.name) ≡ Some to
    → owner_within cs (suc n) r ≡ owner_within cs n (record { class = to; name = r.name })
moves cs n r to e = rw e refl

abbrev stays_there : Entry → Bool
stays_there (entries.Introduced name sig way) = true
stays_there (entries.Moved name to) = false

kernel_stays : every (λ (c : Class). every stays_there c.decl.face.entries) kernel ≡ true
kernel_stays = refl

-- no class of the kernel has a moved entry
pub kernel_unmoved : (c : Class) (x : List ℕ) (to : ClassKey) → Mem c kernel → Mem (entries.Moved x to) c.decl.face.entries → ⊥
kernel_unmoved c x to m n =
    true≢false (sym (every_mem stays_there (entries.Moved x to) c.decl.face.entries (every_mem (λ (c : Class). every stays_there c.decl.face.entries) c kernel kernel_stays m) n))

pub entry_unknown : (cs : List Class) (k : ClassKey) (name : List ℕ) → class_at cs k ≡ None → entry_at cs k name ≡ None
entry_unknown cs k name e = rw e refl

pub entry_is : (cs : List Class) (k : ClassKey) (name : List ℕ) (c : Class) → class_at cs k ≡ Some c → entry_at cs k name ≡ entry_of c.decl.face.entries name
entry_is cs k name c e = rw e refl

-- an entry that is found by its name is one of the class's
pub entry_mem : (es : List Entry) (name : List ℕ) (e : Entry) → entry_of es name ≡ Some e → Mem e es × (entry_name e ≡ name)
entry_mem es name e f = let r = find_mem (λ z. bytes_eq (entry_name z) name) es e f in (r.0, exact_bytes.two (entry_name e) name r.1)

pub entry_class : (cs : List Class) (k : ClassKey) (name : List ℕ) (e : Entry) → entry_at cs k name ≡ Some e
    → (c : Class) × (class_at cs k ≡ Some c) × (entry_of c.decl.face.entries name ≡ Some e)
entry_class cs k name e f = by (class_at cs k) refl
  where
    by : (q : Option Class) → class_at cs k ≡ q → (c : Class) × (class_at cs k ≡ Some c) × (entry_of c.decl.face.entries name ≡ Some e)
    by None g = absurd (let z = sym (entry_unknown cs k name g) ∙ f in cc)
    by (Some c) g = (c, g, sym (entry_is cs k name c g) ∙ f)

-- a reference to an owner keeps its name
pub owner_name : (cs : List Class) (n : ℕ) (r : MethodRef) → (owner_within cs n r).name ≡ r.name
owner_name cs zero r = refl
owner_name cs (suc n) r = by (moved_to (entry_at cs r.class r.name)) refl (λ to. owner_name cs n (record { class = to; name = r.name }))
  where
    by : (q : Option ClassKey) → moved_to (entry_at cs r.class r.name) ≡ q → ((to : ClassKey) → (owner_within cs n (record { class = to; name = r.name })).name ≡ r.name) → (owner_within cs (suc n) r).name ≡ r.name
    by None e f = ap (λ (z : MethodRef). z.name) (stays cs (suc n) r e)
    by (Some to) e f = ap (λ (z : MethodRef). z.name) (moves cs n r to e) ∙ f to

module _ (cs : List Class) (o : IsOrdered cs) where
  abbrev all : List Class
  all = kernel ++ cs

  abbrev h : Hierarchy ClassKey
  h = hierarchy all

  -- a class that isn't the kernel's stands in the list
  pub past_kernel : (c : Class) (i : ℕ) → slice_get all i ≡ Some c → (Mem c kernel → ⊥) → (j : ℕ) × (i ≡ suc (suc (suc (suc j)))) × (slice_get cs j ≡ Some c)
  past_kernel c zero e g = absurd (g (first_four cs 0 c (omega arith) e))
  past_kernel c (suc zero) e g = absurd (g (first_four cs 1 c (omega arith) e))
  past_kernel c (suc (suc zero)) e g = absurd (g (first_four cs 2 c (omega arith) e))
  past_kernel c (suc (suc (suc zero))) e g = absurd (g (first_four cs 3 c (omega arith) e))
  past_kernel c (suc (suc (suc (suc j)))) e g = (j, refl, e)

  -- a declared metaclass is known, and of lower rank
  pub metaclass_known : (k : ClassKey) (c : Class) (m : ClassKey) → class_at all k ≡ Some c → c.decl.face.metaclass ≡ Some m → (d : Class) × (class_at all m ≡ Some d) × (rank all m < rank all k)
  metaclass_known k c m e is =
      let i = place cs o k c e in
      let p = past_kernel c i.0 i.1 (λ n. kernel_none c m n is) in
      let r = earlier_at cs o p.0 m (o.metaclasses p.0 c m p.2 is) in
      let a = rank_at cs o i.0 c k i.1 (found_is cs o k c e).1 in
      let b = rank_at cs o r.0 r.1 m r.3 r.4 in
      let less = r.2 in
      let at = p.1 in
      (r.1, found cs o r.1 m (get_mem all r.0 r.1 r.3) r.4, omega (arith, a, b, less, at))

  -- the class to which an entry was moved is known, and stands lower
  pub moved_lower : (k : ClassKey) (name x : List ℕ) (to : ClassKey) → entry_at all k name ≡ Some (entries.Moved x to) → (d : Class) × (class_at all to ≡ Some d) × (h.height to < h.height k)
  moved_lower k name x to e =
      let r = entry_class all k name (entries.Moved x to) e in
      let m = entry_mem r.0.decl.face.entries name (entries.Moved x to) r.2 in
      let i = place cs o k r.0 r.1 in
      let p = past_kernel r.0 i.0 i.1 (λ n. kernel_unmoved r.0 x to n m.0) in
      let q = earlier_at cs o p.0 to (o.targets p.0 r.0 x to p.2 m.0) in
      let a = height_at cs o i.0 r.0 k i.1 (found_is cs o k r.0 r.1).1 in
      let b = height_at cs o q.0 q.1 to q.3 q.4 in
      let less = q.2 in
      let at = p.1 in
      (q.1, found cs o q.1 to (get_mem all q.0 q.1 q.3) q.4, omega (arith, a, b, less, at))

  abbrev pub ref : ClassKey → List ℕ → MethodRef
  ref k name = record { class = k; name = name }

  -- nothing at the bottom was moved
  unmoved : (k : ClassKey) (name : List ℕ) → h.height k ≤ 0 → moved_to (entry_at all k name) ≡ None
  unmoved k name le = by (entry_at all k name) refl
    where
      by : (q : Option Entry) → entry_at all k name ≡ q → moved_to q ≡ None
      by None e = refl
      by (Some (entries.Introduced x sig way)) e = refl
      by (Some (entries.Moved x to)) e = absurd (let r = (moved_lower k name x to e).2 in omega (arith, r, le))

  -- more levels than the height change nothing
  stable_by : (n m : ℕ) (k : ClassKey) (name : List ℕ) → h.height k ≤ suc n → h.height k ≤ suc m → (q : Option Entry) → entry_at all k name ≡ q
      → ((to : ClassKey) → h.height to ≤ n → h.height to ≤ m → owner_within all n (ref to name) ≡ owner_within all m (ref to name)) → owner_within all (suc n) (ref k name) ≡ owner_within all (suc m) (ref k name)
  stable_by n m k name le lm None e g = stays all (suc n) (ref k name) (ap moved_to e) ∙ sym (stays all (suc m) (ref k name) (ap moved_to e))
  stable_by n m k name le lm (Some (entries.Introduced x sig way)) e g = stays all (suc n) (ref k name) (ap moved_to e) ∙ sym (stays all (suc m) (ref k name) (ap moved_to e))
  stable_by n m k name le lm (Some (entries.Moved x to)) e g =
      let r = (moved_lower k name x to e).2 in
      moves all n (ref k name) to (ap moved_to e) ∙ g to (omega (arith, r, le)) (omega (arith, r, lm)) ∙ sym (moves all m (ref k name) to (ap moved_to e))

  pub stable : (n m : ℕ) (k : ClassKey) (name : List ℕ) → h.height k ≤ n → h.height k ≤ m → owner_within all n (ref k name) ≡ owner_within all m (ref k name)
  stable zero m k name le lm = sym (stays all m (ref k name) (unmoved k name le))
  stable (suc n) zero k name le lm = stays all (suc n) (ref k name) (unmoved k name lm)
  stable (suc n) (suc m) k name le lm = stable_by n m k name le lm (entry_at all k name) refl (λ to a b. stable n m to name a b)

  -- the owner of a reference whose entry was moved is that of where it was moved to
  pub owner_moved : (k : ClassKey) (name x : List ℕ) (to : ClassKey) → entry_at all k name ≡ Some (entries.Moved x to) → owner all (ref k name) ≡ owner all (ref to name)
  owner_moved k name x to e =
      let r = (moved_lower k name x to e).2 in
      let up : h.height k ≤ suc (h.height k) = omega arith in
      let le : h.height to ≤ h.height k = omega (arith, r) in
      stable (h.height k) (suc (h.height k)) k name (omega arith) up
      ∙ moves all (h.height k) (ref k name) to (ap moved_to e)
      ∙ stable (h.height k) (h.height to) to name le (omega arith)

  pub owner_stays : (k : ClassKey) (name : List ℕ) → moved_to (entry_at all k name) ≡ None → owner all (ref k name) ≡ ref k name
  owner_stays k name e = stays all (h.height k) (ref k name) e

module _ (cs : List Class) (f : FacesLoad cs) where
  abbrev every_class : List Class
  every_class = kernel ++ cs

  abbrev hier : Hierarchy ClassKey
  hier = hierarchy every_class

  is_false : (b : Bool) → not b ≡ true → b ≡ false
  is_false true e = sym e
  is_false false e = refl

  -- the class to which an entry was moved is a proper ancestor, and has an entry of that name
  pub moved : (k : ClassKey) (name x : List ℕ) (to : ClassKey) → entry_at every_class k name ≡ Some (entries.Moved x to) → Descends hier k to × IsSome (entry_at every_class to name) × (same_key to k ≡ false)
  moved k name x to e =
      let r = entry_class every_class k name (entries.Moved x to) e in
      let m = entry_mem r.0.decl.face.entries name (entries.Moved x to) r.2 in
      let i = place cs f.ordered k r.0 r.1 in
      let key = (found_is cs f.ordered k r.0 r.1).1 in
      let p = past_kernel cs f.ordered r.0 i.0 i.1 (λ n. kernel_unmoved r.0 x to n m.0) in
      let here = get_mem cs p.0 r.0 p.2 in
      let proper = both (not (same_key to r.0.key)) (is_a every_class r.0.key to) (f.above r.0 x to here m.0) in (
        subst (λ z. Descends hier z to) key ((descends_test hier (tells cs f.ordered) (falls cs f.ordered) r.0.key to).0 proper.1),
        subst (λ z. IsSome (entry_at every_class to z)) m.1 (f.there r.0 x to here m.0),
        is_false (same_key to k) (subst (λ z. not (same_key to z) ≡ true) key proper.0),
      )

  -- who owns the reference of an entry introduces its name, and is an ancestor
  owns_by : (n : ℕ) (k : ClassKey) (name : List ℕ) → hier.height k ≤ n → (q : Option Entry) → entry_at every_class k name ≡ q → IsSome q
      → ((m : ℕ) → n ≡ suc m → (to : ClassKey) → hier.height to ≤ m → IsSome (entry_at every_class to name) → Owns every_class (owner every_class (ref cs f.ordered to name)) (ref cs f.ordered to name)) → Owns every_class (owner every_class (ref cs f.ordered k name)) (ref cs f.ordered k name)
  owns_by n k name le None e some g = absurd (true≢false (sym some))
  owns_by n k name le (Some (entries.Introduced x sig way)) e some g =
      let same = owner_stays cs f.ordered k name (ap moved_to e) in
      subst (λ z. Owns every_class z (ref cs f.ordered k name)) (sym same) (record { name = refl; introduced = ap (λ z. is_some (introduced_sig z)) e; above = itself })
  owns_by zero k name le (Some (entries.Moved x to)) e some g = absurd (let r = (moved_lower cs f.ordered k name x to e).2 in omega (arith, r, le))
  owns_by (suc n) k name le (Some (entries.Moved x to)) e some g =
      let r = moved k name x to e in
      let less = (moved_lower cs f.ordered k name x to e).2 in
      let own = g n refl to (omega (arith, less, le)) r.1 in
      subst (λ z. Owns every_class z (ref cs f.ordered k name)) (sym (owner_moved cs f.ordered k name x to e))
      (record { name = own.name; introduced = own.introduced; above = descends_through hier k to (owner every_class (ref cs f.ordered to name)).class r.0 own.above })

  owns_within : (n : ℕ) (k : ClassKey) (name : List ℕ) → hier.height k ≤ n → IsSome (entry_at every_class k name) → Owns every_class (owner every_class (ref cs f.ordered k name)) (ref cs f.ordered k name)
  owns_within zero k name le some = owns_by zero k name le (entry_at every_class k name) refl some (λ m e. absurd (omega (arith, e)))
  owns_within (suc n) k name le some = owns_by (suc n) k name le (entry_at every_class k name) refl some (λ m e to lower there.
      let is : n ≡ m = omega (arith, e) in owns_within n to name (omega (arith, lower, is)) there)

  pub owner_owns : (r : MethodRef) → IsSome (entry_at every_class r.class r.name) → Owns every_class (owner every_class r) r
  owner_owns r some = owns_within (hier.height r.class) r.class r.name (omega arith) some
