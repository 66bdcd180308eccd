-- What a typed run needs of methods holds of classes that can be loaded: owners, names, who answers, and bodies that fit.
use Rattle.std.proofs.Common.{◌≡◌, ◌==◌, ℕ, inl, inr, Bool, true, false, if◌then◌else◌, List, [], ◌∷◌, ◌++◌, length, Option, Some, None, IsSome, slice_get, refl, sym, ap, ◌∙◌, subst, arith, true≢false}
use Rattle.std.specs.Prelude.{is_some}
use Rattle.std.specs.Option.{option_and_then}
use Rattle.std.specs.Str.{bytes_eq}
use Rattle.som_model.specs.declared.key.Module.{Module}
use Rattle.som_model.specs.declared.key.Module.TheVariants as modules
use Rattle.som_model.specs.declared.key.ClassKey.{ClassKey}
use Rattle.som_model.specs.declared.key.ClassKey.TheVariants as keys
use Rattle.som_model.specs.declared.key.MethodRef.{MethodRef}
use Rattle.som_model.specs.declared.class.Sig.{Sig}
use Rattle.som_model.specs.declared.class.Entry.{Entry}
use Rattle.som_model.specs.declared.class.Entry.TheVariants as entries
use Rattle.som_model.specs.declared.class.Body.{Body}
use Rattle.som_model.specs.declared.class.Body.TheVariants as bodies
use Rattle.som_model.specs.declared.class.Select.{Select}
use Rattle.som_model.specs.declared.syntax.Block.{Block}
use Rattle.som_model.specs.Lists.{Mem, or_else}
use Rattle.som_model.specs.Keys.{same_key, same_module, same_method}
use Rattle.som_model.specs.Hierarchy.{Hierarchy}
use Rattle.som_model.specs.Ancestors.{Descends, anc}
use Rattle.som_model.specs.Resolution.{Chooses, byname}
use Rattle.som_model.specs.Class.{Class, entry_of, introduced, introduced_sig}
use Rattle.som_model.specs.Kernel.{kernel}
use Rattle.som_model.specs.Classes.{class_at, hierarchy, is_a}
use Rattle.som_model.specs.Owner.{introduces, owner, sig_of}
use Rattle.som_model.specs.Implementation.{Held, is_kernel, has_body, held, held_by, declared_held, introduced_body, body_named, override_of, proxy_held, forwards, select_of, selected_in, selected, implementation}
use Rattle.som_model.specs.Implementation as helds
use Rattle.som_model.specs.Rules.{RuleBreach, body_fits, demand, demand_of, is_parent_below, s10, s14}
use Rattle.som_model.specs.Conforming.{block_breach_by, bodies_typed_by}
use Rattle.som_model.specs.Typing.{ClassFacts}
use Rattle.som_model.specs.Loads.{FacesLoad, IsOrdered}
use Rattle.som_model.proofs.KeyLaws.{both, exact_bytes, exact_keys}
use Rattle.som_model.proofs.NamedLaws.{held_named, kernel_named}
use Rattle.som_model_laws.proofs.Members.{mem_split}
use Rattle.som_model_laws.proofs.Laws.{ancestors as ancestors_are, implementation_above, implementation_body, implementation_exists}
use Rattle.som_model_laws.proofs.Lists.{find_mem, get_mem}
use Rattle.som_model_laws.proofs.Standing.{falls, found_is, keyed, parents_known, tells}
use Rattle.som_model_laws.proofs.Owners.{entry_class, owner_owns, owner_stays, moved_to}
use Rattle.som_release_laws.proofs.Facing.{demanded, demanded_of, tested, tests}
use Rattle.som_release_laws.proofs.Facts.{introduced_entry}
use Rattle.som_release_laws.proofs.Inheriting.{s10_says}
use Rattle.som_release_laws.proofs.OneOwner.{ref_one}
use Rattle.som_release_laws.proofs.Lists.{none_left}
use Rattle.som_release_laws.proofs.Prefix.{signature_entry}

pub one_method : (r s : MethodRef) → same_method r s ≡ true → r ≡ s
one_method r s e = let p = both (same_key r.class s.class) (bytes_eq r.name s.name) e in ref_one r s (exact_keys.two r.class s.class p.0) (exact_bytes.two r.name s.name p.1)

-- a declared body
abbrev pub held_body : Body → Held
held_body (bodies.User b) = helds.User b
held_body (bodies.Get n) = helds.Get n
held_body (bodies.Set n) = helds.Set n

-- that bodies fit their signatures, as it is asked for
abbrev pub fits_from : Class → List Entry → List Body → List RuleBreach
fits_from c [] bs = []
fits_from c (entries.Moved name to ∷ es) bs = fits_from c es bs
fits_from c (entries.Introduced name sig way ∷ es) [] = []
fits_from c (entries.Introduced name sig way ∷ es) (b ∷ bs) = demand_of 14 c name (body_fits c.decl.variables sig b) ++ fits_from c es bs

-- a body of a class, which fits a signature
abbrev pub Fits : Class → ClassFacts → Sig → Held → Type 0
Fits c F s b = (body : Body) × (b ≡ held_body body) × (body_fits c.decl.variables s body ≡ true) × ((block : Block) → body ≡ bodies.User block → (n : List ℕ) × (block_breach_by F c n s block ≡ []))

one_fits : (c : Class) (F : ClassFacts) (x : List ℕ) (sig : Sig) (way : _) (es : List Entry) (bs : List Body) (body : Body) (name : List ℕ) (s : Sig) (b : Held)
    → introduced_sig (entry_of (entries.Introduced x sig way ∷ es) name) ≡ Some s → body_named (entries.Introduced x sig way ∷ es) (body ∷ bs) name ≡ Some b → body_fits c.decl.variables sig body ≡ true
    → ((block : Block) → body ≡ bodies.User block → (n : List ℕ) × (block_breach_by F c n sig block ≡ [])) → (introduced_sig (entry_of es name) ≡ Some s → body_named es bs name ≡ Some b → Fits c F s b) → Fits c F s b
one_fits c F x sig way es bs body name s b e g fit typed further = by (bytes_eq x name) e g
  where
    by : (z : Bool) → introduced_sig (if z then Some (entries.Introduced x sig way) else entry_of es name) ≡ Some s → (if z then Some (held_body body) else body_named es bs name) ≡ Some b → Fits c F s b
    by true u v =
        let same : sig ≡ s = cc in
        (body, let z = v in cc, subst (λ z. body_fits c.decl.variables z body ≡ true) same fit, λ block is. let t = typed block is in (t.0, subst (λ z. block_breach_by F c t.0 z block ≡ []) same t.1))
    by false u v = further u v

-- ---- signatures and owners

pub some_sig : (q : Option Sig) → is_some q ≡ true → (s : Sig) × (q ≡ Some s)
some_sig None e = absurd (true≢false (sym e))
some_sig (Some s) e = (s, refl)

pub sig_introduces : (cs : List Class) (r : MethodRef) (s : Sig) → sig_of cs r ≡ Some s → introduces cs r.name r.class ≡ true
sig_introduces cs r s e = ap is_some e

module _ (cs : List Class) (f : FacesLoad cs) where
  abbrev all : List Class
  all = kernel ++ cs

  abbrev o : IsOrdered cs
  o = f.ordered

  abbrev h : Hierarchy ClassKey
  h = hierarchy all

  pub owner_above : (r : MethodRef) (s : Sig) → sig_of all (owner all r) ≡ Some s → Descends h r.class (owner all r).class
  owner_above r s e = let t = signature_entry all r.class r.name s e in (owner_owns cs f r (ap is_some t.1)).above

  pub own_owner : (r : MethodRef) (s : Sig) → sig_of all r ≡ Some s → owner all r ≡ r
  own_owner r s e = let t = introduced_entry all r.name r.class (sig_introduces all r s e) in owner_stays cs o r.class r.name (ap moved_to t.1 ∙ t.2)

  -- a name means a method of an ancestor
  pub named_above : (k a : ClassKey) (name : List ℕ) → byname h (introduces all name) k ≡ Some a → Descends h k a × (introduces all name a ≡ true)
  named_above k a name e = let r = find_mem (introduces all name) (anc h k) a e in ((ancestors_are h (tells cs o) (falls cs o) k a).0 r.0, r.1)

  -- ---- selects

  abbrev parent_has : Class → MethodRef → Select → Bool
  parent_has c r s = is_parent_below all r.class (slice_get c.decl.face.parents s.parent)

  kernel_selects : (c : Class) → Mem c kernel → c.decl.selects ≡ []
  kernel_selects c (inl e) = ap (λ (z : Class). z.decl.selects) e
  kernel_selects c (inr (inl e)) = ap (λ (z : Class). z.decl.selects) e
  kernel_selects c (inr (inr (inl e))) = ap (λ (z : Class). z.decl.selects) e
  kernel_selects c (inr (inr (inr (inl e)))) = ap (λ (z : Class). z.decl.selects) e
  kernel_selects c (inr (inr (inr (inr m)))) = absurd m

  -- the first select of a method
  first_select : (r : MethodRef) (ss : List Select) (n : ℕ) → select_of all r ss ≡ Some n → (s : Select) × Mem s ss × (owner all s.method ≡ r) × (s.parent ≡ n)
  first_select r [] n e = absurd (let z = e in cc)
  first_select r (s ∷ ss) n e = by (same_method (owner all s.method) r) refl e (first_select r ss n)
    where
      by : (b : Bool) → same_method (owner all s.method) r ≡ b → (if b then Some s.parent else select_of all r ss) ≡ Some n → (select_of all r ss ≡ Some n → (x : Select) × Mem x ss × (owner all x.method ≡ r) × (x.parent ≡ n))
          → (x : Select) × Mem x (s ∷ ss) × (owner all x.method ≡ r) × (x.parent ≡ n)
      by true t g further = (s, inl refl, one_method (owner all s.method) r t, let z = g in cc)
      by false t g further = let x = further g in (x.0, inr x.1, x.2, x.3)

  parent_is : (q : Option ClassKey) (a p : ClassKey) → q ≡ Some p → is_parent_below all a q ≡ true → is_a all p a ≡ true
  parent_is q a p e f = subst (λ z. is_parent_below all a z ≡ true) e f

  module _ (inherited : (c : Class) → Mem c cs → s10 all c ≡ []) where
    -- a parent that is selected is one of the class's, and descends from the method's class
    selects_well : (r : MethodRef) (x p : ClassKey) (q : Option Class) → class_at all x ≡ q → selected_in all r q ≡ Some p → Mem p (h.parents x) × Descends h p r.class
    selects_well r x p None e g = absurd (let z = g in cc)
    selects_well r x p (Some c) e g = by (select_of all r c.decl.selects) refl g
      where
        by : (n : Option ℕ) → select_of all r c.decl.selects ≡ n → option_and_then (slice_get c.decl.face.parents) n ≡ Some p → Mem p (h.parents x) × Descends h p r.class
        by None t k = absurd (let z = k in cc)
        by (Some n) t k =
            let s = first_select r c.decl.selects n t in
            elim (mem_split c kernel cs (found_is cs o x c e).0) [
              | inl m ↦ absurd (subst (λ z. Mem s.0 z) (kernel_selects c m) s.1)
              | inr m ↦ (
                  let fine = (s10_says all c (inherited c m)).selects.0 s.0 s.1 in
                  let below = parent_is (slice_get c.decl.face.parents s.0.parent) (owner all s.0.method).class p (ap (slice_get c.decl.face.parents) s.3 ∙ k) fine.2 in
                  (subst (λ z. Mem p z) (sym (parents_known cs o x c e)) (get_mem c.decl.face.parents n p k), tested cs o p r.class (subst (λ (z : MethodRef). is_a all p z.class ≡ true) s.2 below)))
            ]

    chooses : (r : MethodRef) → Chooses h (selected all r) r.class
    chooses r = record { parent = λ x p e. (selects_well r x p (class_at all x) refl e).0; below = λ x p e. (selects_well r x p (class_at all x) refl e).1 }

  -- ---- the class that introduces a method has a body for it

  named_body : (es : List Entry) (bs : List Body) (name : List ℕ) (e : Entry) → length bs ≡ length (introduced es) → entry_of es name ≡ Some e → moved_to (Some e) ≡ None → IsSome (body_named es bs name)
  named_body [] bs name e n f g = absurd (let z = f in cc)
  named_body (entries.Moved x to ∷ es) bs name e n f g = by (bytes_eq x name) f (named_body es bs name e n)
    where
      by : (b : Bool) → (if b then Some (entries.Moved x to) else entry_of es name) ≡ Some e → (entry_of es name ≡ Some e → moved_to (Some e) ≡ None → IsSome (body_named es bs name)) → IsSome (body_named es bs name)
      by true t further = absurd (let z = ap moved_to t ∙ g in cc)
      by false t further = further t g
  named_body (entries.Introduced x sig way ∷ es) [] name e n f g = absurd (omega (arith, n))
  named_body (entries.Introduced x sig way ∷ es) (b ∷ bs) name e n f g = by (bytes_eq x name) f (named_body es bs name e (omega (arith, n)))
    where
      by : (c : Bool) → (if c then Some (entries.Introduced x sig way) else entry_of es name) ≡ Some e → (entry_of es name ≡ Some e → moved_to (Some e) ≡ None → IsSome (body_named es bs name)) → IsSome (if c then Some (held_body b) else body_named es bs name)
      by true t further = refl
      by false t further = further t g

  own_or : (q s : Option Held) → IsSome q → IsSome (or_else q s)
  own_or None s e = absurd (true≢false (sym e))
  own_or (Some x) s e = refl

  pub kernel_is : (c : Class) → Mem c kernel → is_kernel c.key ≡ true
  kernel_is c (inl e) = ap (λ (z : Class). is_kernel z.key) e ∙ kernel_named modules.Kernel _
  kernel_is c (inr (inl e)) = ap (λ (z : Class). is_kernel z.key) e ∙ kernel_named modules.Kernel _
  kernel_is c (inr (inr (inl e))) = ap (λ (z : Class). is_kernel z.key) e ∙ kernel_named modules.Kernel _
  kernel_is c (inr (inr (inr (inl e)))) = ap (λ (z : Class). is_kernel z.key) e ∙ kernel_named modules.Kernel _
  kernel_is c (inr (inr (inr (inr m)))) = absurd m

  pub own_is : (c : Class) → Mem c cs → is_kernel c.key ≡ false
  own_is c m = let k = o.own c m in ap is_kernel k.is ∙ kernel_named k.module_ _ ∙ outside k.module_ k.outside
    where
      outside : (n : Module) → (n ≡ modules.Kernel → ⊥) → same_module n modules.Kernel ≡ false
      outside modules.Kernel g = absurd (g refl)
      outside modules.Library g = refl
      outside (modules.Upper i) g = refl
      outside modules.Client g = refl

  module _ (bodied : (c : Class) → Mem c cs → s14 c ≡ []) where
    as_many_bodies : (c : Class) → Mem c cs → length c.decl.bodies ≡ length (introduced c.decl.face.entries)
    as_many_bodies c m =
        let p = none_left (demand 14 c (length c.decl.bodies == length (introduced c.decl.face.entries))) (fits_from c c.decl.face.entries c.decl.bodies) (bodied c m) in
        numbers (length c.decl.bodies) (length (introduced c.decl.face.entries)) (demanded 14 c (length c.decl.bodies == length (introduced c.decl.face.entries)) p.0)
      where
        numbers : (m n : ℕ) → (m == n) ≡ true → m ≡ n
        numbers m n e = grind (arith, e)

    introduced_there : (c : Class) (name : List ℕ) (e : Entry) → Mem c all → entry_of c.decl.face.entries name ≡ Some e → moved_to (Some e) ≡ None → IsSome (introduced_body c name)
    introduced_there c name e m g k = elim (mem_split c kernel cs m) [
      | inl a ↦ subst (λ b. IsSome (if b then (if is_some (entry_of c.decl.face.entries name) then Some (helds.OfKernel name) else None) else body_named c.decl.face.entries c.decl.bodies name)) (sym (kernel_is c a))
          (subst (λ (q : Option Entry). IsSome (if is_some q then Some (helds.OfKernel name) else None)) (sym g) refl)
      | inr a ↦ subst (λ b. IsSome (if b then (if is_some (entry_of c.decl.face.entries name) then Some (helds.OfKernel name) else None) else body_named c.decl.face.entries c.decl.bodies name)) (sym (own_is c a))
          (named_body c.decl.face.entries c.decl.bodies name e (as_many_bodies c a) g k)
    ]

    pub owner_body : (r : MethodRef) (s : Sig) → sig_of all r ≡ Some s → has_body all r r.class ≡ true
    owner_body r s e =
        let t = introduced_entry all r.name r.class (sig_introduces all r s e) in
        let c = entry_class all r.class r.name t.0 t.1 in
        let is = found_is cs o r.class c.0 c.1 in
        let n = keyed cs o c.0 is.0 in
        let named : r.class ≡ keys.Named n.0 n.1 = sym is.1 ∙ n.2 in
        let at : held all r.class r ≡ declared_held all (Some c.0) r = ap (λ k. held all k r) named ∙ held_named all n.0 n.1 r ∙ ap (λ k. declared_held all (class_at all k) r) (sym named) ∙ ap (λ q. declared_held all q r) c.1 in
        let same : same_key c.0.key r.class ≡ true = ap (λ k. same_key k r.class) is.1 ∙ exact_keys.one r.class in
        ap is_some at ∙ own_or (if same_key c.0.key r.class then introduced_body c.0 r.name else None) (override_of all r c.0.decl.overrides)
        (subst (λ b. IsSome (if b then introduced_body c.0 r.name else None)) (sym same) (introduced_there c.0 r.name t.0 is.0 c.2 t.2))

    pub answers : ((c : Class) → Mem c cs → s10 all c ≡ []) → (x : ClassKey) (r : MethodRef) (s : Sig) → sig_of all r ≡ Some s → is_a all x r.class ≡ true
        → (y : ClassKey) × (b : Held) × (implementation all x r ≡ Some y) × (held all y r ≡ Some b) × (is_a all x y ≡ true)
    answers inherited x r s e d =
        let own = owner_body r s e in
        let i = some_of (implementation all x r) (implementation_exists h (has_body all r) (selected all r) r.class (chooses inherited r) (tells cs o) (falls cs o) own x (tested cs o x r.class d)) in
        let b = some_of (held all i.0 r) (implementation_body h (has_body all r) (selected all r) r.class x i.0 i.1) in
        (i.0, b.0, i.1, b.1, tests cs o x i.0 (implementation_above h (has_body all r) (selected all r) r.class (chooses inherited r) x i.0 i.1))
      where
        some_of : {A : Type 0} (q : Option A) → IsSome q → (a : A) × (q ≡ Some a)
        some_of None e = absurd (true≢false (sym e))
        some_of (Some a) e = (a, refl)

    -- ---- bodies fit

    -- a body by its name, with the entry's signature
    pub named_fits : (c : Class) (F : ClassFacts) (es : List Entry) (bs : List Body) (name : List ℕ) (s : Sig) (b : Held) → introduced_sig (entry_of es name) ≡ Some s → body_named es bs name ≡ Some b → bodies_typed_by F c es bs ≡ [] → fits_from c es bs ≡ []
        → Fits c F s b
    named_fits c F [] bs name s b e g t k = absurd (let z = g in cc)
    named_fits c F (entries.Moved x to ∷ es) bs name s b e g t k = by (bytes_eq x name) e (named_fits c F es bs name s b)
      where
        by : (z : Bool) → introduced_sig (if z then Some (entries.Moved x to) else entry_of es name) ≡ Some s
            → (introduced_sig (entry_of es name) ≡ Some s → body_named es bs name ≡ Some b → bodies_typed_by F c es bs ≡ [] → fits_from c es bs ≡ [] → Fits c F s b)
            → Fits c F s b
        by true u further = absurd (let z = u in cc)
        by false u further = further u g t k
    named_fits c F (entries.Introduced x sig way ∷ es) [] name s b e g t k = absurd (let z = g in cc)
    named_fits c F (entries.Introduced x sig way ∷ es) (bodies.User block ∷ bs) name s b e g t k =
        let p = none_left (block_breach_by F c x sig block) (bodies_typed_by F c es bs) t in
        let q = none_left (demand_of 14 c x (body_fits c.decl.variables sig (bodies.User block))) (fits_from c es bs) k in
        one_fits c F x sig way es bs (bodies.User block) name s b e g (demanded_of 14 c x (body_fits c.decl.variables sig (bodies.User block)) q.0) (λ z is. (x, subst (λ y. block_breach_by F c x sig y ≡ []) (let v = is in cc) p.0))
        (λ u v. named_fits c F es bs name s b u v p.1 q.1)
    named_fits c F (entries.Introduced x sig way ∷ es) (bodies.Get n ∷ bs) name s b e g t k =
        let q = none_left (demand_of 14 c x (body_fits c.decl.variables sig (bodies.Get n))) (fits_from c es bs) k in
        one_fits c F x sig way es bs (bodies.Get n) name s b e g (demanded_of 14 c x (body_fits c.decl.variables sig (bodies.Get n)) q.0) (λ z is. absurd (let v = is in cc)) (λ u v. named_fits c F es bs name s b u v t q.1)
    named_fits c F (entries.Introduced x sig way ∷ es) (bodies.Set n ∷ bs) name s b e g t k =
        let q = none_left (demand_of 14 c x (body_fits c.decl.variables sig (bodies.Set n))) (fits_from c es bs) k in
        one_fits c F x sig way es bs (bodies.Set n) name s b e g (demanded_of 14 c x (body_fits c.decl.variables sig (bodies.Set n)) q.0) (λ z is. absurd (let v = is in cc)) (λ u v. named_fits c F es bs name s b u v t q.1)
