-- The class of a signature's result is one of the classes.
use Rattle.std.proofs.Common.{◌≡◌, inl, inr, Bool, true, false, ◌&&◌, ◌||◌, List, [], ◌++◌, flat_map, Option, Some, None, refl, sym, ap, ◌∙◌, subst, true≢false}
use Rattle.std.specs.Prelude.{is_some}
use Rattle.som_model.specs.declared.key.MethodRef.{MethodRef}
use Rattle.som_model.specs.declared.key.ValueType.{ValueType}
use Rattle.som_model.specs.declared.key.ValueType.TheVariants as types
use Rattle.som_model.specs.declared.class.Entry.{Entry}
use Rattle.som_model.specs.declared.class.Entry.TheVariants as entries
use Rattle.som_model.specs.declared.class.Sig.{Sig}
use Rattle.som_model.specs.declared.class.Variable.{Variable}
use Rattle.som_model.specs.Lists.{Mem, every}
use Rattle.som_model.specs.Keys.{same_key}
use Rattle.som_model.specs.Class.{Class, introduced_sig}
use Rattle.som_model.specs.Kernel.{kernel, som_object, som_class}
use Rattle.som_model.specs.Classes.{class_at}
use Rattle.som_model.specs.Owner.{entry_at, sig_of}
use Rattle.som_model.specs.Rules.{RuleBreach, demand_of, is_known, is_value_type}
use Rattle.som_model.specs.Loads.{FacesLoad}
use Rattle.som_model.proofs.KeyLaws.{both, exact_keys}
use Rattle.som_model.proofs.NamedLaws.{same_named}
use Rattle.som_model_laws.proofs.Members.{mem_split}
use Rattle.som_model_laws.proofs.Standing.{found_is}
use Rattle.som_model_laws.proofs.Owners.{entry_class, entry_mem}
use Rattle.som_model_laws.proofs.Lists.{every_mem}
use Rattle.som_release_laws.proofs.Facing.{demanded_of}
use Rattle.som_release_laws.proofs.Lists.{flat_at, none_left}
use Rattle.som_type_soundness.proofs.Classes.{object_at, class_class_at}

-- what a class has to have of its entries' types
abbrev entry_types : List Class → Class → Entry → List RuleBreach
entry_types known c (entries.Introduced name sig way) = demand_of 5 c name (is_known known sig.result && every (is_value_type known) sig.params)
entry_types known c (entries.Moved name to) = []

-- the type is none of classes, or SOMObject or SOMClass
abbrev is_plain : ValueType → Bool
is_plain (types.Class k) = same_key k som_object || same_key k som_class
is_plain _ = true

abbrev entry_plain : Entry → Bool
entry_plain (entries.Introduced name sig way) = is_plain sig.result
entry_plain (entries.Moved name to) = true

kernel_plain : every (λ (c : Class). every entry_plain c.decl.face.entries) kernel ≡ true
kernel_plain = simp same_named

module _ (cs : List Class) (f : FacesLoad cs) where
  abbrev all : List Class
  all = kernel ++ cs

  plain_known : (kind : ValueType) → is_plain kind ≡ true → is_known all kind ≡ true
  plain_known types.Void e = refl
  plain_known types.Long e = refl
  plain_known types.Boolean e = refl
  plain_known types.Str e = refl
  plain_known (types.Class k) e = by (same_key k som_object) refl (same_key k som_class) refl e
    where
      by : (a : Bool) → same_key k som_object ≡ a → (b : Bool) → same_key k som_class ≡ b → (a || b) ≡ true → is_some (class_at all k) ≡ true
      by true p b q g = ap (λ z. is_some (class_at all z)) (exact_keys.two k som_object p) ∙ ap is_some (object_at cs f.ordered)
      by false p true q g = ap (λ z. is_some (class_at all z)) (exact_keys.two k som_class q) ∙ ap is_some (class_class_at cs f.ordered)
      by false p false q g = absurd (true≢false (sym g))

  entry_known : (c : Class) (e : Entry) (s : Sig) → Mem c all → Mem e c.decl.face.entries → introduced_sig (Some e) ≡ Some s → is_known all s.result ≡ true
  entry_known c (entries.Moved name to) s m n is = absurd (let z = is in cc)
  entry_known c (entries.Introduced name sig way) s m n is =
      let same : sig ≡ s = (let z = is in cc) in
      subst (λ (z : Sig). is_known all z.result ≡ true) same
      (elim (mem_split c kernel cs m) [
        | inl k ↦ plain_known sig.result (every_mem entry_plain (entries.Introduced name sig way) c.decl.face.entries (every_mem (λ (z : Class). every entry_plain z.decl.face.entries) c kernel kernel_plain k) n)
        | inr k ↦ (let p = none_left (flat_map (entry_types all c) c.decl.face.entries) (flat_map (λ (v : Variable). demand_of 5 c v.name (is_value_type all v.kind)) c.decl.variables) (f.types c k) in
            (both (is_known all sig.result) (every (is_value_type all) sig.params) (demanded_of 5 c name (is_known all sig.result && every (is_value_type all) sig.params) (flat_at (entry_types all c) c.decl.face.entries (entries.Introduced name sig way) p.0 n))).0)
      ])

  entry_there : (r : MethodRef) (s : Sig) (q : Option Entry) → entry_at all r.class r.name ≡ q → introduced_sig q ≡ Some s → (e : Entry) × (entry_at all r.class r.name ≡ Some e) × (introduced_sig (Some e) ≡ Some s)
  entry_there r s None e f = absurd (let z = f in cc)
  entry_there r s (Some x) e f = (x, e, f)

  -- the result of a signature names one of the classes, if it names any
  pub result_known : (r : MethodRef) (s : Sig) → sig_of all r ≡ Some s → is_known all s.result ≡ true
  result_known r s e =
      let t = entry_there r s (entry_at all r.class r.name) refl e in
      let c = entry_class all r.class r.name t.0 t.1 in
      entry_known c.0 t.0 s (found_is cs f.ordered r.class c.0 c.1).0 (entry_mem c.0.decl.face.entries r.name t.0 c.2).0 t.2
