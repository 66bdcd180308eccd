-- The types of a signature name classes that are known, also where a class of the kernel introduces the method.
use Rattle.std.proofs.Common.{◌≡◌, ℕ, inl, inr, Bool, true, not, ◌&&◌, List, [], ◌++◌, flat_map, Option, Some, None, IsSome, refl, sym, ap, subst, true≢false}
use Rattle.std.specs.Prelude.{is_some}
use Rattle.som_model.specs.declared.key.ClassKey.{ClassKey}
use Rattle.som_model.specs.declared.key.MethodRef.{MethodRef}
use Rattle.som_model.specs.declared.key.ValueType.{ValueType}
use Rattle.som_model.specs.declared.key.ValueType.TheVariants as types
use Rattle.som_model.specs.declared.class.Sig.{Sig}
use Rattle.som_model.specs.declared.class.Way.{Way}
use Rattle.som_model.specs.declared.class.Entry.{Entry}
use Rattle.som_model.specs.declared.class.Entry.TheVariants as entries
use Rattle.som_model.specs.declared.program.Interface.{Interface}
use Rattle.som_model.specs.Lists.{Mem, every}
use Rattle.som_model.specs.Keys.{same_key}
use Rattle.som_model.specs.Class.{Class, introduced_sig}
use Rattle.som_model.specs.Classes.{class_at, interface_classes}
use Rattle.som_model.specs.Kernel.{kernel}
use Rattle.som_model.specs.Owner.{entry_at, owner, sig_of}
use Rattle.som_model.specs.Rules.{RuleBreach, demand_of, is_known, is_value_type, is_void}
use Rattle.som_model.specs.Compatible.{order_of, release_of, signature}
use Rattle.som_model.proofs.KeyLaws.{both}
use Rattle.som_model.proofs.NamedLaws.{same_named}
use Rattle.som_model_laws.proofs.Lists.{every_mem, find_left, mem_every}
use Rattle.som_model_laws.proofs.Members.{mem_split}
use Rattle.som_model_laws.proofs.Owners.{entry_class, entry_is, entry_mem, owner_owns}
use Rattle.som_model_laws.proofs.Standing.{found_is}
use Rattle.som_release_laws.proofs.Facing.{demanded_of}
use Rattle.som_release_laws.proofs.Lists.{both_true, flat_at, named_entry, none_left}
use Rattle.som_breach_laws.proofs.Moving.{Stands}

-- the types of a signature are known, and its parameters aren't void
abbrev pub sig_known : List Class → Sig → Bool
sig_known cs s = is_known cs s.result && every (is_value_type cs) s.params

abbrev entry_known : List Class → Entry → Bool
entry_known cs (entries.Introduced name sig way) = sig_known cs sig
entry_known cs (entries.Moved name to) = true

kernel_known : every (λ (c : Class). every (entry_known kernel) c.decl.face.entries) kernel ≡ true
kernel_known = simp same_named

known_left : (xs ys : List Class) (k : ClassKey) (o : Option Class) → class_at xs k ≡ o → is_some o ≡ true → is_some (class_at (xs ++ ys) k) ≡ true
known_left xs ys k None e s = absurd (true≢false (sym s))
known_left xs ys k (Some c) e s = ap is_some (find_left (λ (z : Class). same_key z.key k) xs ys c e)

pub type_left : (xs ys : List Class) (t : ValueType) → is_known xs t ≡ true → is_known (xs ++ ys) t ≡ true
type_left xs ys types.Void e = refl
type_left xs ys types.Long e = refl
type_left xs ys types.Boolean e = refl
type_left xs ys types.Str e = refl
type_left xs ys (types.Class k) e = known_left xs ys k (class_at xs k) refl e

pub value_left : (xs ys : List Class) (t : ValueType) → is_value_type xs t ≡ true → is_value_type (xs ++ ys) t ≡ true
value_left xs ys t e = let p = both (not (is_void t)) (is_known xs t) e in both_true (not (is_void t)) (is_known (xs ++ ys) t) p.0 (type_left xs ys t p.1)

pub sig_left : (xs ys : List Class) (s : Sig) → sig_known xs s ≡ true → sig_known (xs ++ ys) s ≡ true
sig_left xs ys s e =
    let p = both (is_known xs s.result) (every (is_value_type xs) s.params) e in
    both_true (is_known (xs ++ ys) s.result) (every (is_value_type (xs ++ ys)) s.params) (type_left xs ys s.result p.0)
    (mem_every (is_value_type (xs ++ ys)) s.params (λ t m. value_left xs ys t (every_mem (is_value_type xs) t s.params p.1 m)))

abbrev types_of : List Class → Class → Entry → List RuleBreach
types_of cs c (entries.Introduced name sig way) = demand_of 5 c name (is_known cs sig.result && every (is_value_type cs) sig.params)
types_of cs c (entries.Moved name to) = []

is_there : (o : Option Sig) → is_some o ≡ true → (s : Sig) × (o ≡ Some s)
is_there None e = absurd (true≢false (sym e))
is_there (Some s) e = (s, refl)

module _ (i : Interface) (st : Stands i) where
  abbrev cs : List Class
  cs = interface_classes i

  abbrev R : List Class
  R = release_of i

  entry_types : (c : Class) (name : List ℕ) (sig : Sig) (way : Way) → Mem c R → Mem (entries.Introduced name sig way) c.decl.face.entries → sig_known R sig ≡ true
  entry_types c name sig way m n = elim (mem_split c kernel cs m) [
    | inl a ↦ sig_left kernel cs sig (every_mem (entry_known kernel) (entries.Introduced name sig way) c.decl.face.entries (every_mem (λ (c : Class). every (entry_known kernel) c.decl.face.entries) c kernel kernel_known a) n)
    | inr b ↦ (
        let p = none_left (flat_map (types_of R c) c.decl.face.entries) (flat_map (λ v. demand_of 5 c v.name (is_value_type R v.kind)) c.decl.variables) (st.load.types c b) in
        demanded_of 5 c name (sig_known R sig) (flat_at (types_of R c) c.decl.face.entries (entries.Introduced name sig way) p.0 n))
  ]

  one_sig : (a b : Sig) (o : Option Sig) → o ≡ Some a → o ≡ Some b → a ≡ b
  one_sig a b o g h = cc

  no_sig : (a : Sig) (o : Option Sig) → o ≡ None → o ≡ Some a → ⊥
  no_sig a o g h = cc

  sig_by : (r : MethodRef) (s : Sig) (o : Option Entry) → entry_at R r.class r.name ≡ o → sig_of R r ≡ Some s → sig_known R s ≡ true
  sig_by r s None e f = absurd (no_sig s (sig_of R r) (ap introduced_sig e) f)
  sig_by r s (Some (entries.Introduced name sig way)) e f =
      let c = entry_class R r.class r.name (entries.Introduced name sig way) e in
      let here = found_is cs st.load.ordered r.class c.0 c.1 in
      let m = entry_mem c.0.decl.face.entries r.name (entries.Introduced name sig way) c.2 in
      subst (λ z. sig_known R z ≡ true) (one_sig sig s (sig_of R r) (ap introduced_sig e) f) (entry_types c.0 name sig way here.0 m.0)
  sig_by r s (Some (entries.Moved name to)) e f = absurd (no_sig s (sig_of R r) (ap introduced_sig e) f)

  -- the types of a signature are known
  pub signature_known : (k : ClassKey) (name : List ℕ) (s : Sig) → signature R k name ≡ Some s → sig_known R s ≡ true
  signature_known k name s e =
      let o = owner R (record { class = k; name = name }) in
      sig_by o s (entry_at R o.class o.name) refl e

  -- each entry has a signature, through its owner
  pub has_signature : (k : ClassKey) (c : Class) (name : List ℕ) → class_at R k ≡ Some c → Mem name (order_of c) → (s : Sig) × (signature R k name ≡ Some s)
  has_signature k c name at m =
      let r : MethodRef = record { class = k; name = name } in
      let own = owner_owns cs st.load r (subst (λ e. IsSome e) (sym (entry_is R k name c at)) (named_entry c.decl.face.entries name m)) in
      is_there (signature R k name) own.introduced
