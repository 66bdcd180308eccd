-- What declared classes have bodies for and select is what the tokens say.
use Rattle.std.proofs.Common.{◌≡◌, ◌≢◌, ℕ, zero, suc, ◌<◌, inl, inr, Bool, true, false, if◌then◌else◌, List, [], ◌∷◌, ◌++◌, length, map, Option, Some, None, IfSome, IfNone, is_some, slice_get, refl, sym, ap, ◌∙◌, subst, arith}
use Rattle.std.specs.Prelude.{option_and_then, option_map}
use Rattle.som_model.specs.declared.key.ClassKey.{ClassKey}
use Rattle.som_model.specs.declared.key.ClassKey.TheVariants as keys
use Rattle.som_model.specs.declared.key.MethodRef.{MethodRef}
use Rattle.som_model.specs.declared.class.Override.{Override}
use Rattle.som_model.specs.declared.class.Select.{Select}
use Rattle.som_model.specs.Lists.{Mem, or_else}
use Rattle.som_model.specs.Keys.{same_key}
use Rattle.som_model.specs.Class.{Class}
use Rattle.som_model.specs.Classes.{class_at, hierarchy}
use Rattle.som_model.specs.Kernel.{kernel}
use Rattle.som_model.specs.Owner.{introduced_in}
use Rattle.som_model.specs.Implementation.{User, declared_held, has_body, held, introduced_body, override_of, select_of, selected, selected_in}
use Rattle.som_model.proofs.KeyLaws.{exact_keys}
use Rattle.som_model.proofs.NamedLaws.{held_named}
use Rattle.som_model_laws.proofs.Members.{Apart, not_true}
use Rattle.som_model_laws.proofs.Lists.{find_mem, get_mem}
use Rattle.som_model_laws.proofs.Standing as standing
use Rattle.som_meta.specs.Numbering.{IsNumbered, IsToken, Numbering, key_at, method_at, names_of}
use Rattle.som_class_layout_laws.specs.Laying.{IsScheme}
use Rattle.som_class_layout_laws.specs.Schemes.{numbered, scheme_of}
use Rattle.som_class_layout_laws.proofs.Scheme.{is_scheme}
use Rattle.som_class_ids.specs.Numbers.{AreFirst}
use Rattle.som_class_methods.specs.Owners.{AreFaces}
use Rattle.som_class_methods.proofs.Facts.{Facts, facts}
use Rattle.som_class_methods.specs.Members.{AreNamed, CanLay, Exist, IsFirst, IsNotBefore, override_method, select_method}
use Rattle.som_class_methods.specs.declared.tokens.Own.{Own}
use Rattle.som_class_methods.specs.Own.{AreOwn, IsOwn}
use Rattle.som_class_methods.proofs.Standing.{get_more, names_apart, none_by, overrides_by, selects_by, some_by}

-- the tokens of one class more
pub own_more : (k : Numbering) (all : List Own) (own : Own) (c : Class) → AreOwn k all → slice_get k.classes (length all) ≡ Some c → IsOwn k c.decl own → AreOwn k (all ++ own ∷ [])
own_more k all own c have is one n d o at there = elim (get_more all own o n there) [
  | inl before ↦ have n d o at before
  | inr last ↦ (
      let same : c ≡ d = (let two : Some c ≡ Some d = sym is ∙ ap (slice_get k.classes) (sym last.0) ∙ at in cc) in
      subst (λ (z : Class). IsOwn k z.decl o) same (subst (λ (z : Own). IsOwn k c.decl z) last.1 one))
]

pub none_own : (k : Numbering) → AreOwn k []
none_own k n c o at there = absurd (cc)

get_map : {A B : Type 0} (f : A → B) (xs : List A) (i : ℕ) → slice_get (map f xs) i ≡ option_map f (slice_get xs i)
get_map f [] i = refl
get_map f (x ∷ xs) zero = refl
get_map f (x ∷ xs) (suc i) = get_map f xs i

not_there : (ts : List (ℕ × ℕ)) (t : ℕ × ℕ) → IsNotBefore ts t (length ts) → (i : ℕ) → slice_get ts i ≡ Some t → ⊥
not_there ts t away i e = away i (within ts i e) e
  where
    within : (xs : List (ℕ × ℕ)) (i : ℕ) → slice_get xs i ≡ Some t → i < length xs
    within [] i e = absurd (cc)
    within (y ∷ xs) zero e = omega arith
    within (y ∷ xs) (suc i) e = let l = within xs i e in omega (arith, l)

module _ (k : Numbering) (faces : AreFaces k.classes) (laid : CanLay k) (first : AreFirst k) where
  abbrev f : Facts k.classes
  f = facts k.classes faces

  is_numbered : k ≡ numbered laid.others k.keys
  is_numbered = ap (λ (l : List Class). let z : Numbering = record { classes = l; keys = k.keys } in z) laid.is

  scheme : IsScheme (scheme_of k)
  scheme = subst (λ (z : Numbering). IsScheme (scheme_of z)) (sym is_numbered) (is_scheme laid.others k.keys laid.can)

  names : (n : ℕ) → Apart (names_of k n)
  names n = by (class_at k.classes (key_at k n)) refl
    where
      by : (o : Option Class) → class_at k.classes (key_at k n) ≡ o → Apart (introduced_in (class_at k.classes (key_at k n)))
      by None e = subst (λ (o : Option Class). Apart (introduced_in o)) (sym e) tt
      by (Some c) e = subst (λ (o : Option Class). Apart (introduced_in o)) (sym e)
          (names_apart c.decl.face.entries (f.names c (find_mem (λ (z : Class). same_key z.key (key_at k n)) k.classes c e).0))

  pub body_own : (t : ℕ × ℕ) → IsToken k t → (n : ℕ) → t.0 ≡ n → true ≡ has_body k.classes (method_at k t) (key_at k n)
  body_own t is n e = sym (subst (λ m. has_body k.classes (method_at k t) (key_at k m) ≡ true) e ((scheme.methods t is).own))

  module _ (t : ℕ × ℕ) (is : IsToken k t) (n : ℕ) (c : Class) (at : slice_get k.classes n ≡ Some c) (own : Own) (have : IsOwn k c.decl own) where
    abbrev r : MethodRef
    r = method_at k t

    found : class_at k.classes (key_at k n) ≡ Some c
    found = ap (class_at k.classes) (first.key n c at) ∙ f.found_at c (get_mem k.classes n c at)

    held_is : t.0 ≢ n → held k.classes (key_at k n) r ≡ override_of k.classes r c.decl.overrides
    held_is away =
        let mem = subst (λ (l : List Class). Mem c l) laid.is (get_mem k.classes n c at) in
        let named = standing.keyed laid.others laid.can.faces.ordered c mem in
        let key : key_at k n ≡ keys.Named named.0 named.1 = first.key n c at ∙ named.2 in
        let other : same_key c.key r.class ≡ false = not_true (same_key c.key r.class) (λ e. away (scheme.apart t.0 n is.0 (first.numbered n c at) (sym (first.key n c at ∙ exact_keys.two c.key r.class e)))) in
        ap (λ z. held k.classes z r) key ∙ held_named k.classes named.0 named.1 r ∙ ap (λ z. declared_held k.classes (class_at k.classes z) r) (sym key) ∙ ap (λ o. declared_held k.classes o r) found
        ∙ ap (λ (b : Bool). or_else (if b then introduced_body c r.name else None) (override_of k.classes r c.decl.overrides)) other

    pub body_other : t.0 ≢ n → (o : Option ℕ) → IfSome o (λ i. IsFirst own.overrides t i) → IfNone o (IsNotBefore own.overrides t (length own.overrides)) → is_some o ≡ has_body k.classes r (key_at k n)
    body_other away None s m =
        sym (ap is_some (held_is away ∙ overrides_by k.classes r c.decl.overrides
        ∙ none_by k scheme.apart names t is override_method (λ (o : Override). User o.block) c.decl.overrides own.overrides have.overrides (not_there own.overrides t m)))
    body_other away (Some i) s m =
        sym (ap is_some (held_is away ∙ overrides_by k.classes r c.decl.overrides
        ∙ (some_by k scheme.apart names t is override_method (λ (o : Override). User o.block) c.decl.overrides own.overrides have.overrides i s).2))

    chosen_is : selected k.classes r (key_at k n) ≡ option_and_then (slice_get c.decl.face.parents) (select_of k.classes r c.decl.selects)
    chosen_is = ap (selected_in k.classes r) found

    pub none_selected : IsNotBefore own.selects t (length own.selects) → selected k.classes r (key_at k n) ≡ None
    none_selected m =
        chosen_is ∙ ap (option_and_then (slice_get c.decl.face.parents)) (selects_by k.classes r c.decl.selects
        ∙ none_by k scheme.apart names t is select_method (λ (s : Select). s.parent) c.decl.selects own.selects have.selects (not_there own.selects t m))

    pub select_there : (i : ℕ) → IsFirst own.selects t i → (s : Select) × (slice_get c.decl.selects i ≡ Some s) × (selected k.classes r (key_at k n) ≡ slice_get c.decl.face.parents s.parent)
    select_there i w =
        let h = some_by k scheme.apart names t is select_method (λ (s : Select). s.parent) c.decl.selects own.selects have.selects i w in
        (h.0, h.1, chosen_is ∙ ap (option_and_then (slice_get c.decl.face.parents)) (selects_by k.classes r c.decl.selects ∙ h.2))

    parents_are : (hierarchy k.classes).parents (key_at k n) ≡ c.decl.face.parents
    parents_are = by laid.is found
      where
        by : k.classes ≡ kernel ++ laid.others → class_at k.classes (key_at k n) ≡ Some c → (hierarchy k.classes).parents (key_at k n) ≡ c.decl.face.parents
        by e at = ap (λ (l : List Class). (hierarchy l).parents (key_at k n)) e
            ∙ standing.parents_known laid.others laid.can.faces.ordered (key_at k n) c (subst (λ (l : List Class). class_at l (key_at k n) ≡ Some c) e at)

    pub parent_picked : (ps : List ℕ) → map (key_at k) ps ≡ (hierarchy k.classes).parents (key_at k n) → (i place : ℕ) → IsFirst own.selects t i
        → ((s : Select) → slice_get c.decl.selects i ≡ Some s → place ≡ s.parent) → (o : Option ℕ) → o ≡ slice_get ps place → selected k.classes r (key_at k n) ≡ option_map (key_at k) o
    parent_picked ps keys i place w chosen o e =
        let h = select_there i w in
        h.2 ∙ ap (slice_get c.decl.face.parents) (sym (chosen h.0 h.1)) ∙ ap (λ l. slice_get l place) (sym (keys ∙ parents_are)) ∙ get_map (key_at k) ps place ∙ ap (option_map (key_at k)) (sym e)

  pub if_picked : (n : ℕ) → IsNumbered k n → (ps : List ℕ) → ((p : ℕ) → Mem p ps → p < n) → (place : ℕ) (sel : Option ClassKey) (o : Option ℕ) → o ≡ slice_get ps place → sel ≡ option_map (key_at k) o
      → IfSome o (λ p. IsNumbered k p × (sel ≡ Some (key_at k p)))
  if_picked n is ps lower place sel None e h = tt
  if_picked n is ps lower place sel (Some p) e h = let lt = lower p (get_mem ps place p (sym e)) in let m = is in (omega (arith, lt, m), h)

  pub if_none : (sel : Option ClassKey) (o : Option ℕ) → sel ≡ option_map (key_at k) o → IfNone o (sel ≡ None)
  if_none sel None h = h
  if_none sel (Some p) h = tt

pub named_at : (k : Numbering) → AreNamed k.classes → (n : ℕ) (c : Class) → slice_get k.classes n ≡ Some c → Exist k.classes (map override_method c.decl.overrides) × Exist k.classes (map select_method c.decl.selects)
named_at k named n c at = let m = get_mem k.classes n c at in (named.overrides c m, named.selects c m)

pub some_class : (xs : List Class) (i : ℕ) → i < length xs → (c : Class) × (slice_get xs i ≡ Some c)
some_class [] i lt = absurd (omega (arith, lt))
some_class (x ∷ xs) zero lt = (x, refl)
some_class (x ∷ xs) (suc i) lt = some_class xs i (omega (arith, lt))

pub first_there : {A : Type 0} (xs : List A) (i : ℕ) (x : A) → slice_get xs i ≡ Some x → i < length xs
first_there [] i x e = absurd (cc)
first_there (y ∷ xs) zero x e = omega arith
first_there (y ∷ xs) (suc i) x e = let l = first_there xs i x e in omega (arith, l)
