-- What typing asks of classes, of some and of those that have what these had.
use Rattle.std.proofs.Common.{◌≡◌, ℕ, true, false, not, ◌&&◌, List, ◌++◌, Option, Some, None, IsSome, refl, sym, ap, ◌∙◌, subst, arith, true≢false}
use Rattle.std.specs.Prelude.{is_some, unwrap_or}
use Rattle.som_model.specs.declared.key.ClassKey.{ClassKey}
use Rattle.som_model.specs.declared.key.MethodRef.{MethodRef}
use Rattle.som_model.specs.declared.class.Sig.{Sig}
use Rattle.som_model.specs.declared.class.Entry.{Entry}
use Rattle.som_model.specs.declared.class.Entry.TheVariants as entries
use Rattle.som_model.specs.Keys.{same_key}
use Rattle.som_model.specs.Ancestors.{Descends}
use Rattle.som_model.specs.Class.{Class, introduced_sig}
use Rattle.som_model.specs.Classes.{class_at, hierarchy, is_a}
use Rattle.som_model.specs.Kernel.{kernel, som_class}
use Rattle.som_model.specs.Metaclass.{meta}
use Rattle.som_model.specs.Owner.{entry_at, introduces, owner, sig_of}
use Rattle.som_model.specs.Typing.{class_facts, running_facts}
use Rattle.som_model.specs.Loads.{FacesLoad}
use Rattle.som_model.proofs.KeyLaws.{both, exact_keys}
use Rattle.som_model.proofs.ListLaws.{is_false}
use Rattle.som_model_laws.proofs.Members.{not_true}
use Rattle.som_model_laws.proofs.Laws.{descends_through}
use Rattle.som_model_laws.specs.Owning.{Owns}
use Rattle.som_model_laws.proofs.Metas.{at_most, lower_by}
use Rattle.som_model_laws.proofs.Owners.{entry_class, owner_owns, moved_to}
use Rattle.som_release_laws.specs.Growing.{Grows}
use Rattle.som_release_laws.specs.Refining.{Refines}
use Rattle.som_release_laws.proofs.Facing.{is_a_grows, known_grows, tested, tests}
use Rattle.som_release_laws.proofs.Lists.{both_true}
use Rattle.som_release_laws.proofs.Prefix.{signature_entry}

-- the type of a class object, as far as it is declared
abbrev pub object_of : Option Class → ClassKey
object_of None = som_class
object_of (Some c) = unwrap_or c.decl.face.metaclass som_class

pub introduced_entry : (cs : List Class) (name : List ℕ) (k : ClassKey) → introduces cs name k ≡ true → (e : Entry) × (entry_at cs k name ≡ Some e) × (moved_to (Some e) ≡ None)
introduced_entry cs name k i = by (entry_at cs k name) refl
  where
    by : (q : Option Entry) → entry_at cs k name ≡ q → (e : Entry) × (entry_at cs k name ≡ Some e) × (moved_to (Some e) ≡ None)
    by None f = absurd (true≢false (sym i ∙ ap (λ z. is_some (introduced_sig z)) f))
    by (Some (entries.Introduced x sig way)) f = (entries.Introduced x sig way, f, refl)
    by (Some (entries.Moved x to)) f = absurd (true≢false (sym i ∙ ap (λ z. is_some (introduced_sig z)) f))

other_way : (a b : ClassKey) → same_key a b ≡ false → same_key b a ≡ false
other_way a b e = not_true (same_key b a) (λ t. true≢false (sym (ap (λ z. same_key a z) (exact_keys.two b a t) ∙ exact_keys.one a) ∙ e))

module _ (olds news : List Class) (fa : FacesLoad olds) (fb : FacesLoad news) (grows : Grows (kernel ++ olds) (kernel ++ news))
    (one_owner : (r : MethodRef) → IsSome (entry_at (kernel ++ olds) r.class r.name) → owner (kernel ++ news) r ≡ owner (kernel ++ news) (owner (kernel ++ olds) r)) where
  abbrev A : List Class
  A = kernel ++ olds

  abbrev B : List Class
  B = kernel ++ news

  -- the owner among the new is an ancestor of the owner among the old
  pub owner_above : (r : MethodRef) → IsSome (entry_at A r.class r.name) → Owns B (owner B r) (owner A r)
  owner_above r some =
      let own = owner_owns olds fa r some in
      let e = introduced_entry A (owner A r).name (owner A r).class own.introduced in
      let there = grows.entries (owner A r).class (owner A r).name (ap is_some e.1) in
      subst (λ z. Owns B z (owner A r)) (sym (one_owner r some)) (owner_owns news fb (owner A r) there)

  -- and a proper ancestor of a class of which that was one
  pub proper_still : (r : MethodRef) (c : ClassKey) → IsSome (entry_at A r.class r.name) → (not (same_key (owner A r).class c) && is_a A c (owner A r).class) ≡ true
      → (not (same_key (owner B r).class c) && is_a B c (owner B r).class) ≡ true
  proper_still r c some e =
      let h = hierarchy B in
      let a = (owner A r).class in
      let b = (owner B r).class in
      let p = both (not (same_key a c)) (is_a A c a) e in
      let d = grows.descends c a (tested olds fa.ordered c a p.1) in
      let up = (owner_above r some).above in
      let low = at_most news fb.ordered a b up in
      let less = lower_by news fb.ordered c a d (other_way a c (is_false (same_key a c) p.0)) in
      let other : same_key b c ≡ false = not_true (same_key b c) (λ t. let same = ap h.height (exact_keys.two b c t) in omega (arith, low, less, same)) in
      both_true (not (same_key b c)) (is_a B c b) (ap not other) (tests news fb.ordered c b (descends_through h c a b d up))

  signature_some : (r : MethodRef) (s : Sig) → sig_of A (owner A r) ≡ Some s → IsSome (entry_at A r.class r.name)
  signature_some r s e = let f = signature_entry A r.class r.name s e in ap is_some f.1

  signature_class : (r : MethodRef) (s : Sig) → sig_of A (owner A r) ≡ Some s → is_some (class_at A r.class) ≡ true
  signature_class r s e = let f = signature_entry A r.class r.name s e in let c = entry_class A r.class r.name f.0 f.1 in ap is_some c.1

  through_new : (a b c : ClassKey) → is_a B a b ≡ true → is_a B b c ≡ true → is_a B a c ≡ true
  through_new a b c x y = tests news fb.ordered a c (descends_through (hierarchy B) a b c (tested news fb.ordered a b x) (tested news fb.ordered b c y))

  module _ (object : (k : ClassKey) (c : Class) → class_at A k ≡ Some c → Descends (hierarchy B) (meta B k) (object_of (Some c))) where
    object_known : (k : ClassKey) → is_some (class_at A k) ≡ true → is_a B (meta B k) (object_of (class_at A k)) ≡ true
    object_known k e = by (class_at A k) refl e
      where
        by : (q : Option Class) → class_at A k ≡ q → is_some q ≡ true → is_a B (meta B k) (object_of q) ≡ true
        by None f s = absurd (true≢false (sym s))
        by (Some c) f s = tests news fb.ordered (meta B k) (object_of (Some c)) (object k c f)

    pub refines : Refines (class_facts A) (running_facts B)
    unfolding class_facts running_facts
    refines = record {
      known = known_grows olds news fa.ordered fb.ordered grows;
      is_a = is_a_grows olds news fa.ordered fb.ordered grows;
      through = through_new;
      object = object_known;
      signature = λ r s e. grows.signatures r.class r.name s e;
      referred = signature_class;
      proper = λ r s c e p. proper_still r c (signature_some r s e) p;
    }

  module _ (object : (k : ClassKey) (c : Class) → class_at A k ≡ Some c → Descends (hierarchy B) (meta B k) (meta A k)) where
    running_known : (k : ClassKey) → is_some (class_at A k) ≡ true → is_a B (meta B k) (meta A k) ≡ true
    running_known k e = by (class_at A k) refl e
      where
        by : (q : Option Class) → class_at A k ≡ q → is_some q ≡ true → is_a B (meta B k) (meta A k) ≡ true
        by None f s = absurd (true≢false (sym s))
        by (Some c) f s = tests news fb.ordered (meta B k) (meta A k) (object k c f)

    pub running_refines : Refines (running_facts A) (running_facts B)
    unfolding running_facts
    running_refines = record {
      known = known_grows olds news fa.ordered fb.ordered grows;
      is_a = is_a_grows olds news fa.ordered fb.ordered grows;
      through = through_new;
      object = running_known;
      signature = λ r s e. grows.signatures r.class r.name s e;
      referred = signature_class;
      proper = λ r s c e p. proper_still r c (signature_some r s e) p;
    }
