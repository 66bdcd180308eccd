-- The classes of a run, which can be loaded, as the kernel's and others.
use Rattle.std.proofs.Common.{◌≡◌, ℕ, ◌≤◌, true, if◌then◌else◌, List, [], ◌∷◌, ◌++◌, length, Option, Some, None, refl, sym, ap, ◌∙◌, subst, arith}
use Rattle.som_model.specs.declared.key.ClassKey.{ClassKey, out-ClassKey}
use Rattle.som_model.specs.declared.key.ClassKey.TheOpen.{ClassKey-F}
use Rattle.som_model.specs.declared.key.ClassKey.TheVariants as keys
use Rattle.som_model.specs.declared.key.MethodRef.{MethodRef}
use Rattle.som_model.specs.declared.class.Entry.{Entry}
use Rattle.som_model.specs.declared.class.Entry.TheVariants as entries
use Rattle.som_model.specs.declared.syntax.Block.{Block}
use Rattle.som_model.specs.Lists.{or_else}
use Rattle.som_model.specs.Keys.{same_key, same_method}
use Rattle.som_model.specs.Class.{Class, introduced}
use Rattle.som_model.specs.Classes.{class_at}
use Rattle.som_model.specs.Kernel.{kernel}
use Rattle.som_model.specs.Loads.{IsOrdered, Loads}
use Rattle.som_model.specs.Owner.{introduced_by, introduced_in}
use Rattle.som_model.specs.Implementation.{declared_held, held, introduced_body, override_of}
use Rattle.som_model.proofs.NamedLaws.{held_named, out_named}
use Rattle.som_model.proofs.KeyLaws.{exact_bytes, exact_keys}
use Rattle.som_model_laws.proofs.Members.{Apart}
use Rattle.som_model_laws.proofs.Lists.{find_mem}
use Rattle.som_model_laws.proofs.Standing as standing
use Rattle.som_meta.specs.Numbering.{AreApart, IsToken, Numbering, key_at, method_at, names_of}
use Rattle.som_class_layout_laws.specs.Laying.{IsScheme}
use Rattle.som_class_ids.specs.Numbers.{AreFirst}
use Rattle.som_class_methods.proofs.Facts.{Facts, facts}
use Rattle.som_class_layout_laws.specs.Schemes.{CanBeLaid, numbered, scheme_of}
use Rattle.som_class_layout_laws.proofs.Scheme.{is_scheme}
use Rattle.som_class_methods.proofs.Standing.{names_apart, same_token}
use Rattle.som_class_table.specs.Targets.{HaveTargets}
use Rattle.som_class_table.proofs.Loading.{are_faces, can_be_laid}
use Rattle.som_class_table.proofs.LoadedProxies.{not_named, out_derived}
use Rattle.som_class_table.specs.Loaded.{AreLoaded}

pub exact_methods : (r : MethodRef) → same_method r r ≡ true
exact_methods r = let a = exact_keys.one r.class in let b = exact_bytes.one r.name in rw (a, b) refl

pub record IsRun (cs : List Class) (ks : List ClassKey) : Type 0 where
  pub main : Block
  pub loads : Loads cs main
  pub first : AreFirst (numbered cs ks)
  pub apart : AreApart (numbered cs ks)
  pub targets : HaveTargets (numbered cs ks)

pub same_numbering : (k : Numbering) (l : AreLoaded k) → k ≡ numbered l.others k.keys
same_numbering k l = ap (λ (cs : List Class). let z : Numbering = record { classes = cs; keys = k.keys } in z) l.is

pub run_of : (k : Numbering) (l : AreLoaded k) → IsRun l.others k.keys
run_of k l =
    let same = same_numbering k l in
    record { main = l.main; loads = l.loads; first = subst AreFirst same l.first; apart = subst AreApart same l.apart; targets = subst HaveTargets same l.targets }

module _ (cs : List Class) (ks : List ClassKey) (run : IsRun cs ks) where
  abbrev all : List Class
  all = kernel ++ cs

  abbrev k : Numbering
  k = numbered cs ks

  abbrev o : IsOrdered cs
  o = run.loads.faces.ordered

  pub can : CanBeLaid cs ks
  can = can_be_laid cs run.main run.loads ks run.apart run.targets

  pub scheme : IsScheme (scheme_of k)
  scheme = is_scheme cs ks can

  f : Facts all
  f = facts all (are_faces cs run.main run.loads)

  -- the names that a class introduces differ
  pub names_by : (key : ClassKey) → Apart (introduced_by all key)
  names_by key = by (class_at all key) refl
    where
      by : (q : Option Class) → class_at all key ≡ q → Apart (introduced_in (class_at all key))
      by None e = subst (λ (z : Option Class). Apart (introduced_in z)) (sym e) tt
      by (Some c) e = subst (λ (z : Option Class). Apart (introduced_in z)) (sym e)
          (names_apart c.decl.face.entries (f.names c (find_mem (λ (z : Class). same_key z.key key) all c e).0))

  pub names : (n : ℕ) → Apart (names_of k n)
  names n = names_by (key_at k n)

  -- a method has one token
  pub one_token : (t u : ℕ × ℕ) → IsToken k t → IsToken k u → method_at k t ≡ method_at k u → t ≡ u
  one_token t u is there e =
      same_token k run.apart names u there t (method_at k t) (record { token = is; method = refl }) (ap (λ r. same_method r (method_at k u)) e ∙ exact_methods (method_at k u))

  -- made classes are not declared
  pub proxy_unknown : (key of : ClassKey) → key ≡ keys.Proxy of → class_at all key ≡ None
  proxy_unknown key of is = by (class_at all key) refl
    where
      by : (q : Option Class) → class_at all key ≡ q → q ≡ None
      by None e = refl
      by (Some c) e = absurd (let m = standing.found_is cs o key c e in let n = standing.keyed cs o c m.0 in not_named of n.0 n.1 (sym is ∙ sym m.1 ∙ n.2))

  pub derived_unknown : (key : ClassKey) (ps : List ClassKey) → key ≡ keys.Derived ps → class_at all key ≡ None
  derived_unknown key ps is = by (class_at all key) refl
    where
      by : (q : Option Class) → class_at all key ≡ q → q ≡ None
      by None e = refl
      by (Some c) e = absurd (let m = standing.found_is cs o key c e in let n = standing.keyed cs o c m.0 in
          let out : ClassKey-F.Derived ps ≡ ClassKey-F.Named n.0 n.1 = sym (out_derived ps) ∙ ap out-ClassKey (sym is ∙ sym m.1 ∙ n.2) ∙ out_named n.0 n.1 in cc)

  -- what a declared class holds for a method
  pub held_known : (key : ClassKey) (c : Class) → class_at all key ≡ Some c → (r : MethodRef)
      → held all key r ≡ or_else (if same_key c.key r.class then introduced_body c r.name else None) (override_of all r c.decl.overrides)
  held_known key c e r =
      let m = standing.found_is cs o key c e in
      let n = standing.keyed cs o c m.0 in
      let is : key ≡ keys.Named n.0 n.1 = sym m.1 ∙ n.2 in
      ap (λ z. held all z r) is ∙ held_named all n.0 n.1 r ∙ ap (λ z. declared_held all (class_at all z) r) (sym is) ∙ ap (λ q. declared_held all q r) e

  -- the class of a token is declared
  pub token_class : (t : ℕ × ℕ) → IsToken k t → (c : Class) × (class_at all (key_at k t.0) ≡ Some c) × (names_of k t.0 ≡ introduced c.decl.face.entries)
  token_class t is = by (class_at all (key_at k t.0)) refl
    where
      by : (q : Option Class) → class_at all (key_at k t.0) ≡ q → (c : Class) × (class_at all (key_at k t.0) ≡ Some c) × (names_of k t.0 ≡ introduced c.decl.face.entries)
      by None e = absurd (let none : length (introduced_in (class_at all (key_at k t.0))) ≡ 0 = ap (λ z. length (introduced_in z)) e in let lt = is.1 in omega (arith, none, lt))
      by (Some c) e = (c, e, ap introduced_in e)

  -- a class introduces few methods
  introduced_few : (es : List Entry) → length (introduced es) ≤ length es
  introduced_few [] = omega arith
  introduced_few (entries.Introduced x sig way ∷ es) = let l = introduced_few es in omega (arith, l)
  introduced_few (entries.Moved x to ∷ es) = let l = introduced_few es in omega (arith, l)

  pub names_few : (n : ℕ) → length (names_of k n) ≤ 65535
  names_few n = by (class_at all (key_at k n)) refl
    where
      by : (q : Option Class) → class_at all (key_at k n) ≡ q → length (introduced_in (class_at all (key_at k n))) ≤ 65535
      by None e = let none : length (introduced_in (class_at all (key_at k n))) ≡ 0 = ap (λ z. length (introduced_in z)) e in omega (arith, none)
      by (Some c) e =
          let is : length (introduced_in (class_at all (key_at k n))) ≡ length (introduced c.decl.face.entries) = ap (λ z. length (introduced_in z)) e in
          let few = introduced_few c.decl.face.entries in
          let counted = (are_faces cs run.main run.loads).counted c (standing.found_is cs o (key_at k n) c e).0 in
          omega (arith, is, few, counted)
