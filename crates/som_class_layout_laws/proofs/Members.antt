-- What the rules say of bodies, overrides and selects.
use Rattle.std.proofs.Common.{◌≡◌, ℕ, zero, suc, ◌<◌, inl, inr, ◌&&◌, not, Bool, true, false, if◌then◌else◌, List, [], ◌∷◌, ◌++◌, length, flat_map, get_or, Option, Some, None, is_some, slice_get, refl, sym, ap, ◌∙◌, subst, arith, true≢false}
use Rattle.std.specs.Prelude.{option_and_then}
use Rattle.std.specs.Str.{bytes_eq}
use Rattle.som_model.specs.declared.key.ClassKey.{ClassKey}
use Rattle.som_model.specs.declared.key.MethodRef.{MethodRef}
use Rattle.som_model.specs.declared.class.Entry.{Entry}
use Rattle.som_model.specs.declared.class.Entry.TheVariants as entries
use Rattle.som_model.specs.declared.class.Body.{Body}
use Rattle.som_model.specs.declared.class.Override.{Override}
use Rattle.som_model.specs.declared.class.Select.{Select}
use Rattle.som_model.specs.Lists.{Mem, some}
use Rattle.som_model.specs.Keys.{same_key, same_method}
use Rattle.som_model.specs.Class.{Class, entry_of, introduced}
use Rattle.som_model.specs.Classes.{is_a}
use Rattle.som_model.specs.Implementation.{Held, User, body_named, override_of, select_of}
use Rattle.som_model.specs.Owner.{introduces, owner}
use Rattle.som_model.specs.Rules.{demand, demand_of, is_parent_below, is_proper, is_replaced_once, s10_from, s10_selects}
use Rattle.som_model.proofs.KeyLaws.{both, exact_bytes, exact_keys}
use Rattle.som_model_laws.proofs.Members.{mem_split}

pub none_left : {A : Type 0} (xs ys : List A) → (xs ++ ys) ≡ [] → (xs ≡ []) × (ys ≡ [])
none_left [] ys e = (refl, e)
none_left (x ∷ xs) ys e = absurd (cc)

pub demanded : (n : ℕ) (c : Class) (b : Bool) → demand n c b ≡ [] → b ≡ true
demanded n c true e = refl
demanded n c false e = absurd (cc)

pub demanded_of : (n : ℕ) (c : Class) (member : List ℕ) (b : Bool) → demand_of n c member b ≡ [] → b ≡ true
demanded_of n c member true e = refl
demanded_of n c member false e = absurd (cc)

pub same_methods : (r s : MethodRef) → same_method r s ≡ true → r ≡ s
same_methods r s e =
    let h = both (same_key r.class s.class) (bytes_eq r.name s.name) e in
    ap (λ (k : ClassKey). record { class = k; name = r.name }) (exact_keys.two r.class s.class h.0) ∙ ap (λ (n : List ℕ). record { class = s.class; name = n }) (exact_bytes.two r.name s.name h.1)

-- an introduced name has an entry, and a body where there are as many bodies
pub entry_some : (es : List Entry) (name : List ℕ) → Mem name (introduced es) → is_some (entry_of es name) ≡ true
entry_some [] name m = absurd m
entry_some (entries.Introduced x sig way ∷ es) name (inl e) = let t : bytes_eq x name ≡ true = ap (bytes_eq x) e ∙ exact_bytes.one x in rw t refl
entry_some (entries.Introduced x sig way ∷ es) name (inr m) = by (bytes_eq x name) (entry_some es name m)
  where
    by : (b : Bool) → is_some (entry_of es name) ≡ true → is_some (if b then Some (entries.Introduced x sig way) else entry_of es name) ≡ true
    by true h = refl
    by false h = h
entry_some (entries.Moved x to ∷ es) name m = by (bytes_eq x name) (entry_some es name m)
  where
    by : (b : Bool) → is_some (entry_of es name) ≡ true → is_some (if b then Some (entries.Moved x to) else entry_of es name) ≡ true
    by true h = refl
    by false h = h

pub body_some : (es : List Entry) (bs : List Body) (name : List ℕ) → length bs ≡ length (introduced es) → Mem name (introduced es) → is_some (body_named es bs name) ≡ true
body_some [] bs name l m = absurd m
body_some (entries.Moved x to ∷ es) bs name l m = body_some es bs name l m
body_some (entries.Introduced x sig way ∷ es) [] name l m = absurd (omega (arith, l))
body_some (entries.Introduced x sig way ∷ es) (b ∷ bs) name l (inl e) = let t : bytes_eq x name ≡ true = ap (bytes_eq x) e ∙ exact_bytes.one x in rw t refl
body_some (entries.Introduced x sig way ∷ es) (b ∷ bs) name l (inr m) = by _ (bytes_eq x name) (body_some es bs name (omega (arith, l)) m)
  where
    by : (h : Held) (v : Bool) → is_some (body_named es bs name) ≡ true → is_some (if v then Some h else body_named es bs name) ≡ true
    by h true e = refl
    by h false e = e

-- the override that a class has for a method
override_by : (cs : List Class) (r : MethodRef) (o : Override) (os : List Override) (b : Bool) → same_method (owner cs o.method) r ≡ b
    → (is_some (override_of cs r os) ≡ true → (p : Override) × Mem p os × (same_method (owner cs p.method) r ≡ true))
    → is_some (if b then Some (User o.block) else override_of cs r os) ≡ true → (p : Override) × Mem p (o ∷ os) × (same_method (owner cs p.method) r ≡ true)
override_by cs r o os true t f e = (o, inl refl, t)
override_by cs r o os false t f e = let w = f e in (w.0, inr w.1, w.2)

pub override_found : (cs : List Class) (r : MethodRef) (os : List Override) → is_some (override_of cs r os) ≡ true → (p : Override) × Mem p os × (same_method (owner cs p.method) r ≡ true)
override_found cs r [] e = absurd (true≢false (sym e))
override_found cs r (o ∷ os) e = override_by cs r o os (same_method (owner cs o.method) r) refl (override_found cs r os) e

pub override_proper : (cs : List Class) (c : Class) (before : List MethodRef) (os : List Override) → s10_from cs c before os ≡ [] → (p : Override) → Mem p os → is_a cs c.key (owner cs p.method).class ≡ true
override_proper cs c before [] e p m = absurd m
override_proper cs c before (o ∷ os) e p m =
    let r = owner cs o.method in
    let h = none_left (demand_of 10 c o.method.name (is_replaced_once cs c before r)) (s10_from cs c (before ++ r ∷ []) os) e in
    elim m [
      | inl is ↦ (
          let all = demanded_of 10 c o.method.name (is_replaced_once cs c before r) h.0 in
          let once = both (is_proper cs c r.class && introduces cs r.name r.class) (not (some (same_method r) before)) all in
          let proper = both (is_proper cs c r.class) (introduces cs r.name r.class) once.0 in
          let below = both (not (same_key r.class c.key)) (is_a cs c.key r.class) proper.0 in
          subst (λ (z : Override). is_a cs c.key (owner cs z.method).class ≡ true) (sym is) below.1)
      | inr k ↦ override_proper cs c (before ++ r ∷ []) os h.1 p k
    ]

-- the parent that a class selects for a method
select_by : (cs : List Class) (r : MethodRef) (s : Select) (ss : List Select) (i : ℕ) (b : Bool) → same_method (owner cs s.method) r ≡ b
    → (select_of cs r ss ≡ Some i → (p : Select) × Mem p ss × (same_method (owner cs p.method) r ≡ true) × (p.parent ≡ i))
    → (if b then Some s.parent else select_of cs r ss) ≡ Some i → (p : Select) × Mem p (s ∷ ss) × (same_method (owner cs p.method) r ≡ true) × (p.parent ≡ i)
select_by cs r s ss i true t f e = (s, inl refl, t, cc)
select_by cs r s ss i false t f e = let w = f e in (w.0, inr w.1, w.2, w.3)

pub select_found : (cs : List Class) (r : MethodRef) (ss : List Select) (i : ℕ) → select_of cs r ss ≡ Some i → (p : Select) × Mem p ss × (same_method (owner cs p.method) r ≡ true) × (p.parent ≡ i)
select_found cs r [] i e = absurd (cc)
select_found cs r (s ∷ ss) i e = select_by cs r s ss i (same_method (owner cs s.method) r) refl (select_found cs r ss i) e

pub select_below : (cs : List Class) (c : Class) (before : List MethodRef) (ss : List Select) → s10_selects cs c before ss ≡ [] → (p : Select) → Mem p ss → is_parent_below cs (owner cs p.method).class (slice_get c.decl.face.parents p.parent) ≡ true
select_below cs c before [] e p m = absurd m
select_below cs c before (s ∷ ss) e p m =
    let r = owner cs s.method in
    let h = none_left (demand_of 10 c s.method.name (is_replaced_once cs c before r && is_parent_below cs r.class (slice_get c.decl.face.parents s.parent))) (s10_selects cs c (before ++ r ∷ []) ss) e in
    elim m [
      | inl is ↦ (
          let all = demanded_of 10 c s.method.name (is_replaced_once cs c before r && is_parent_below cs r.class (slice_get c.decl.face.parents s.parent)) h.0 in
          let two = both (is_replaced_once cs c before r) (is_parent_below cs r.class (slice_get c.decl.face.parents s.parent)) all in
          subst (λ (z : Select). is_parent_below cs (owner cs z.method).class (slice_get c.decl.face.parents z.parent) ≡ true) (sym is) two.1)
      | inr k ↦ select_below cs c (before ++ r ∷ []) ss h.1 p k
    ]

pub then_some : {A B : Type 0} (f : A → Option B) (o : Option A) (b : B) → option_and_then f o ≡ Some b → (a : A) × (o ≡ Some a) × (f a ≡ Some b)
then_some f None b e = absurd (cc)
then_some f (Some a) b e = (a, refl, e)

pub flat_member : {A B : Type 0} (f : A → List B) (b : B) (xs : List A) → Mem b (flat_map f xs) → (a : A) × Mem a xs × Mem b (f a)
flat_member f b [] m = absurd m
flat_member f b (x ∷ xs) m = elim (mem_split b (f x) (flat_map f xs) m) [ inl k ↦ (x, inl refl, k) | inr k ↦ (let r = flat_member f b xs k in (r.0, inr r.1, r.2)) ]

pub get_member : (xs : List (List ℕ)) (i : ℕ) → i < length xs → Mem (get_or xs i []) xs
get_member [] i lt = absurd (omega (arith, lt))
get_member (x ∷ xs) zero lt = inl refl
get_member (x ∷ xs) (suc i) lt = inr (get_member xs i (omega (arith, lt)))
