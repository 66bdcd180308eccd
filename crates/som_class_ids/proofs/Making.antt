-- What kinds and keys say of the classes that have numbers.
use Rattle.std.proofs.Common.{◌≡◌, ℕ, zero, suc, ◌<◌, ◌≤◌, inl, inr, List, [], ◌∷◌, length, map, drop, Option, Some, None, slice_get, refl, sym, ap, ◌∙◌, subst, arith}
use Rattle.std.proofs.lemmas.Bool.{cases_lt}
use Rattle.std.specs.Option.{IfNone, IfSome}
use Rattle.som_model.specs.declared.key.ClassKey.{ClassKey, out-ClassKey}
use Rattle.som_model.specs.declared.key.ClassKey.TheOpen.{ClassKey-F}
use Rattle.som_model.specs.declared.key.ClassKey.TheVariants as keys
use Rattle.som_model.specs.Lists.{Mem}
use Rattle.som_model.specs.Class.{Class}
use Rattle.som_model.specs.Classes.{hierarchy}
use Rattle.som_model.specs.Loads.{keys_of}
use Rattle.som_model_laws.specs.Metaclasses.{IsDeclared}
use Rattle.som_model_laws.proofs.Lists.{get_mem}
use Rattle.som_model_laws.proofs.Standing as standing
use Rattle.som_meta.specs.Numbering.{IsNumbered, Numbering, key_at}
use Rattle.som_class_ids.specs.declared.position.Kind.{Kind}
use Rattle.som_class_ids.specs.declared.position.Kind.TheVariants as kinds
use Rattle.som_class_ids.specs.declared.position.Position.{Position}
use Rattle.som_class_ids.specs.Classes.{AreDeclared}
use Rattle.som_class_ids.specs.Numbers.{AreFirst, IsNumbers, IsProxy, at, first_key, keys_by, made_key}
use Rattle.som_class_ids.proofs.Adding.{keys_first, named_at, not_named, one_list, one_parent, out_derived, out_proxy, some_position}
use Rattle.som_class_ids.proofs.Declaring.{at_mem, keys_length}
use Rattle.som_class_ids.proofs.Numbered.{parents_keys, parents_low}

pub some_class : (xs : List Class) (i : ℕ) → i < length xs → (c : Class) × (slice_get xs i ≡ Some c)
some_class [] i l = absurd (omega (arith, l))
some_class (x ∷ xs) zero l = (x, refl)
some_class (x ∷ xs) (suc i) l = some_class xs i (omega (arith, l))

-- no declared class is derived
pub declared_not : (k : Numbering) → AreDeclared k.classes → AreFirst k → (ks : List ClassKey) (n : ℕ) → n < length k.classes → key_at k n ≡ keys.Derived ks → ⊥
declared_not k d first ks n lt e =
    let c = some_class k.classes n lt in
    let r = standing.keyed d.others d.ordered c.0 (subst (λ z. Mem c.0 z) d.is (get_mem k.classes n c.0 c.1)) in
    not_named kinds.Derived ks (λ f. cc) r.0 r.1 (sym e ∙ first.key n c.0 c.1 ∙ r.2)

module _ (cs : List Class) (ps : List Position) (ok : IsNumbers cs ps) where
  abbrev k : Numbering
  k = record { classes = cs; keys = keys_by cs ps }

  pub kind_made : (n : ℕ) (p : Position) → length cs ≤ n → slice_get ps n ≡ Some p → p.kind ≡ kinds.Declared → ⊥
  kind_made n p le is = (ok.made n p le is).0

  pub kind_derived : (n : ℕ) (p : Position) → length cs ≤ n → slice_get ps n ≡ Some p → p.kind ≡ kinds.Derived → key_at k n ≡ keys.Derived ((hierarchy cs).parents (key_at k n))
  kind_derived n p le is e = (ok.made n p le is).1 ∙ ap (λ z. made_key z (map (at (keys_by cs ps)) p.parents)) e ∙ ap keys.Derived (parents_keys cs ps ok n p is)

  pub kind_proxy : (n : ℕ) (p : Position) → length cs ≤ n → slice_get ps n ≡ Some p → p.kind ≡ kinds.Proxy → IsProxy k n
  kind_proxy n p le is e = record {
    of = first_key (map (at (keys_by cs ps)) p.parents);
    parents = sym (parents_keys cs ps ok n p is) ∙ one_list (map (at (keys_by cs ps)) p.parents) (one_parent cs ps ok n p le is e);
    key = (ok.made n p le is).1 ∙ ap (λ z. made_key z (map (at (keys_by cs ps)) p.parents)) e;
  }

  one_number : (ns : List ℕ) (of : ClassKey) → map (at (keys_by cs ps)) ns ≡ of ∷ [] → (m : ℕ) × Mem m ns × (at (keys_by cs ps) m ≡ of)
  one_number [] of e = absurd (cc)
  one_number (m ∷ ns) of e = (m, inl refl, cc)

  -- the target of a proxy has a number
  pub target : (n : ℕ) (of : ClassKey) → IsNumbered k n → key_at k n ≡ keys.Proxy of → (m : ℕ) × IsNumbered k m × (key_at k m ≡ of)
  target n of lt e = elim (cases_lt n (length cs)) [
    | inl low ↦ (let r = named_at cs ps ok n low in absurd (not_named kinds.Proxy (of ∷ []) (λ f. cc) r.0 r.1 (sym e ∙ r.2)))
    | inr ge ↦ (let r = some_position ps n (omega (arith, lt, ok.each)) in by r.0 ge r.1 r.0.kind refl)
  ]
    where
      by : (p : Position) → length cs ≤ n → slice_get ps n ≡ Some p → (kind : Kind) → p.kind ≡ kind → (m : ℕ) × IsNumbered k m × (key_at k m ≡ of)
      by p ge is kinds.Declared f = absurd (kind_made n p ge is f)
      by p ge is kinds.Derived f =
          let xs = (hierarchy cs).parents (key_at k n) in
          let out : ClassKey-F.Proxy of ≡ ClassKey-F.Derived xs = sym (out_proxy of) ∙ ap out-ClassKey (sym e ∙ kind_derived n p ge is f) ∙ out_derived xs in
          cc
      by p ge is kinds.Proxy f =
          let proxy = kind_proxy n p ge is f in
          let out : ClassKey-F.Proxy proxy.of ≡ ClassKey-F.Proxy of = sym (out_proxy proxy.of) ∙ ap out-ClassKey (sym proxy.key ∙ e) ∙ out_proxy of in
          let same : proxy.of ≡ of = cc in
          let r = one_number p.parents proxy.of (parents_keys cs ps ok n p is ∙ proxy.parents) in
          let low = parents_low cs ps ok n p is r.0 r.1 in
          (r.0, omega (arith, low, lt), r.2 ∙ same)

  -- so where it has none, nor have its proxies
  pub proxy_none : (of : ClassKey) → ((n : ℕ) → IsNumbered k n → key_at k n ≡ of → ⊥) → (n : ℕ) → IsNumbered k n → key_at k n ≡ keys.Proxy of → ⊥
  proxy_none of none n lt e = let r = target n of lt e in none r.0 r.1 r.2

  -- a class that is declared has the number of its place or none
  pub named_some : (key : ClassKey) (o : Option ℕ) → IfSome o (λ n. (n < length cs) × (at (keys_by cs ps) n ≡ key)) → IfSome o (λ n. IsNumbered k n × (key_at k n ≡ key))
  named_some key None h = h
  named_some key (Some n) h = (let lt = h.0 in omega (arith, lt, ok.first, ok.each), h.1)

  pub named_none : (key : ClassKey) → IsDeclared key → (o : Option ℕ) → IfNone o (Mem key (keys_of cs) → ⊥) → IfNone o ((n : ℕ) → IsNumbered k n → key_at k n ≡ key → ⊥)
  named_none key d (Some n) h = h
  named_none key d None h = λ n lt e. elim (cases_lt n (length cs)) [
    | inl low ↦ (
        let w : n < length (keys_of cs) = omega (arith, low, keys_length cs) in
        h (subst (λ z. Mem z (keys_of cs)) (sym (keys_first (keys_of cs) (drop (length cs) ps) n w) ∙ e) (at_mem (keys_of cs) n w)))
    | inr ge ↦ (
        let r = some_position ps n (omega (arith, lt, ok.each)) in
        let m = ok.made n r.0 ge r.1 in
        not_named r.0.kind (map (at (keys_by cs ps)) r.0.parents) m.0 d.module_ d.name (sym m.1 ∙ e ∙ d.is))
  ]
