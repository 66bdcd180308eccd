-- Classes that were compiled against an older release can be loaded with a newer one.
use Rattle.std.proofs.Common.{◌≡◌, inl, inr, true, List, [], ◌++◌, flat_map, length, Option, Some, None, IsSome, refl, subst}
use Rattle.std.specs.Prelude.{is_some}
use Rattle.std.proofs.lemmas.Bool.{eqb-true}
use Rattle.som_model.specs.declared.key.ClassKey.{ClassKey}
use Rattle.som_model.specs.declared.key.MethodRef.{MethodRef}
use Rattle.som_model.specs.declared.syntax.Block.{Block}
use Rattle.som_model.specs.declared.class.Sig.{Sig}
use Rattle.som_model.specs.declared.class.Override.{Override}
use Rattle.som_model.specs.declared.class.Select.{Select}
use Rattle.som_model.specs.declared.class.Variable.{Variable}
use Rattle.som_model.specs.Lists.{Mem}
use Rattle.som_model.specs.Ancestors.{Descends, itself}
use Rattle.som_model.specs.Class.{Class, introduced}
use Rattle.som_model.specs.Classes.{class_at, hierarchy}
use Rattle.som_model.specs.Kernel.{kernel}
use Rattle.som_model.specs.Metaclass.{meta}
use Rattle.som_model.specs.Owner.{entry_at, owner, sig_of}
use Rattle.som_model.specs.Rules.{s10, s14}
use Rattle.som_model.specs.Typing.{ClassFacts, class_facts, running_facts}
use Rattle.som_model.specs.Conforming.{class_typed_by, main_typed_by}
use Rattle.som_model.specs.Named.{block_names, body_names, decl_names, face_names, method_names, override_names, select_names, type_names}
use Rattle.som_model.specs.Loads.{FacesLoad, IsOrdered}
use Rattle.som_model_laws.proofs.Members.{mem_right, mem_split}
use Rattle.som_model_laws.specs.Keeping.{ClassesKeep}
use Rattle.som_release_laws.specs.Growing.{Grows}
use Rattle.som_release_laws.specs.Refining.{AreKnown, Refines}
use Rattle.som_release_laws.specs.Releasing.{AreLoadable, IsCompiled, IsReleased, OwnersAreKept}
use Rattle.som_release_laws.proofs.Exchange.{exchange_grows, new_ordered}
use Rattle.som_release_laws.proofs.FaceNames.{faces_named, variables_known}
use Rattle.som_release_laws.proofs.Facing.{demanded}
use Rattle.som_release_laws.proofs.Facts.{refines, running_refines}
use Rattle.som_release_laws.proofs.Inheriting.{Inherits, front_owner, inherits_new, once_owner, s10_says, says_s10}
use Rattle.som_release_laws.proofs.Lists.{none_left}
use Rattle.som_release_laws.proofs.Objects.{exchange_object, object_here}
use Rattle.som_release_laws.proofs.OneOwner.{exchange_owner, owner_itself, prefix_owner}
use Rattle.som_release_laws.proofs.Prefix.{prefix_grows}
use Rattle.som_release_laws.proofs.SameMetaclasses.{meta_same}
use Rattle.som_release_laws.proofs.Together.{faces_together}
use Rattle.som_release_laws.proofs.TypedClasses.{class_carried, main_carried}
use Rattle.som_release_laws.proofs.TypesBelow.{both_named, method_named}

facts_signature : (cs : List Class) (m : MethodRef) (s : Sig) → sig_of cs (owner cs m) ≡ Some s → (class_facts cs).signature m ≡ Some s
unfolding class_facts
facts_signature cs m s e = e

running_signature : (cs : List Class) (m : MethodRef) (s : Sig) → sig_of cs (owner cs m) ≡ Some s → (running_facts cs).signature m ≡ Some s
unfolding running_facts
running_signature cs m s e = e

facts_known : (cs : List Class) (k : ClassKey) → is_some (class_at cs k) ≡ true → (class_facts cs).is_known k ≡ true
unfolding class_facts
facts_known cs k e = e

some_sig : (o : Option Sig) → is_some o ≡ true → (s : Sig) × (o ≡ Some s)
some_sig None e = absurd (let z = e in cc)
some_sig (Some s) e = (s, refl)

as_many : (c : Class) → s14 c ≡ [] → length c.decl.bodies ≡ length (introduced c.decl.face.entries)
as_many c e = eqb-true (length c.decl.bodies) (length (introduced c.decl.face.entries)) (demanded 14 c _ (none_left _ _ e).0)

-- classes that have among others what they had are typed as they were
module _ (olds news : List Class) (fa : FacesLoad olds) (w : ClassFacts) (said : (m : MethodRef) (s : Sig) → sig_of (kernel ++ olds) (owner (kernel ++ olds) m) ≡ Some s → w.signature m ≡ Some s)
    (r : Refines w (running_facts (kernel ++ news))) (grows : Grows (kernel ++ olds) (kernel ++ news)) (c : Class) where
  abbrev A : List Class
  A = kernel ++ olds

  abbrev B : List Class
  B = kernel ++ news

  override_sig : Inherits A c → (o : Override) → Mem o c.decl.overrides → (s : Sig) × (sig_of A (owner A o.method) ≡ Some s)
  override_sig i o m = some_sig (sig_of A (owner A o.method)) (i.overrides.0 o m).1

  select_sig : Inherits A c → (x : Select) → Mem x c.decl.selects → (s : Sig) × (sig_of A (owner A x.method) ≡ Some s)
  select_sig i x m = some_sig (sig_of A (owner A x.method)) (i.selects.0 x m).1

  method_known : (m : MethodRef) (s : Sig) → sig_of A (owner A m) ≡ Some s → AreKnown w (method_names m)
  method_known m s e = let f = said m s e in method_named w m s f (r.referred m s f)

  pub typed_still : s10 A c ≡ [] → s14 c ≡ [] → class_typed_by w A c ≡ []
      → (class_typed_by (running_facts B) B c ≡ []) × AreKnown w (flat_map body_names c.decl.bodies ++ (flat_map override_names c.decl.overrides ++ flat_map select_names c.decl.selects))
  typed_still s e t =
      let i = s10_says A c s in
      class_carried w (running_facts B) r c A B (λ m s e. grows.signatures m.class m.name s e) method_known (as_many c e) (override_sig i) (select_sig i) t

module _ (olds news own : List Class) (main : Block) (compiled : IsCompiled olds own main) (loadable : AreLoadable news) (keep : ClassesKeep olds news) (kept : OwnersAreKept olds news)
    (apart : (c d : Class) → Mem c news → Mem d own → c.key ≡ d.key → ⊥) where
  abbrev both : List Class
  both = news ++ own

  abbrev was : List Class
  was = olds ++ own

  abbrev fa : FacesLoad was
  fa = compiled.faces

  abbrev fn : FacesLoad news
  fn = loadable.faces

  abbrev ob : IsOrdered both
  ob = new_ordered olds news own fa.ordered fn.ordered keep apart

  pub faces : FacesLoad both
  faces = faces_together olds news own fa fn keep apart

  big : Grows (kernel ++ was) (kernel ++ both)
  big = exchange_grows olds news own fa.ordered fn.ordered keep apart

  small : Grows (kernel ++ news) (kernel ++ both)
  small = prefix_grows news own ob

  big_owner : (r : MethodRef) → IsSome (entry_at (kernel ++ was) r.class r.name) → owner (kernel ++ both) r ≡ owner (kernel ++ both) (owner (kernel ++ was) r)
  big_owner = exchange_owner olds news own fa fn keep apart kept

  small_owner : (r : MethodRef) → IsSome (entry_at (kernel ++ news) r.class r.name) → owner (kernel ++ both) r ≡ owner (kernel ++ both) (owner (kernel ++ news) r)
  small_owner = prefix_owner news own faces fn

  pub big_refines : Refines (class_facts (kernel ++ was)) (running_facts (kernel ++ both))
  big_refines = refines was both fa faces big big_owner (exchange_object olds news own fa.ordered fn.ordered keep apart compiled.parents)

  same_object : (k : ClassKey) (c : Class) → class_at (kernel ++ news) k ≡ Some c → Descends (hierarchy (kernel ++ both)) (meta (kernel ++ both) k) (meta (kernel ++ news) k)
  same_object k c e = subst (λ (z : ClassKey). Descends (hierarchy (kernel ++ both)) (meta (kernel ++ both) k) z) (meta_same news own ob k c e) itself

  small_refines : Refines (running_facts (kernel ++ news)) (running_facts (kernel ++ both))
  small_refines = running_refines news both fn faces small small_owner same_object

  pub inherited : (c : Class) → Mem c both → s10 (kernel ++ both) c ≡ []
  inherited c m = elim (mem_split c news own m) [
    | inl a ↦ says_s10 (kernel ++ both) c (inherits_new news both fn faces small small_owner c (front_owner news own ob fn c) (s10_says (kernel ++ news) c (loadable.inherited c a)))
    | inr b ↦ says_s10 (kernel ++ both) c (inherits_new was both fa faces big big_owner c (once_owner was fa c (λ x y name. compiled.once c x y name b) (kernel ++ both)) (s10_says (kernel ++ was) c (compiled.inherited c b)))
  ]

  pub bodies : (c : Class) → Mem c both → s14 c ≡ []
  bodies c m = elim (mem_split c news own m) [ inl a ↦ loadable.bodies c a | inr b ↦ compiled.bodies c b ]

  pub typed : (c : Class) → Mem c both → class_typed_by (running_facts (kernel ++ both)) (kernel ++ both) c ≡ []
  typed c m = elim (mem_split c news own m) [
    | inl a ↦ (typed_still news both fn (running_facts (kernel ++ news)) (running_signature (kernel ++ news)) small_refines small c (loadable.inherited c a) (loadable.bodies c a) (loadable.typed c a)).0
    | inr b ↦ (typed_still was both fa (class_facts (kernel ++ was)) (facts_signature (kernel ++ was)) big_refines big c (compiled.inherited c b) (compiled.bodies c b) (compiled.typed c b)).0
  ]

  pub main_typed : main_typed_by (running_facts (kernel ++ both)) main ≡ []
  main_typed = (main_carried (class_facts (kernel ++ was)) (running_facts (kernel ++ both)) big_refines main compiled.main).0

  pub loadable_both : AreLoadable both
  loadable_both = record { faces = faces; inherited = inherited; bodies = bodies; typed = typed }

  -- all that was compiled is known

  pub main_known : AreKnown (class_facts (kernel ++ was)) (block_names main)
  main_known = (main_carried (class_facts (kernel ++ was)) (running_facts (kernel ++ both)) big_refines main compiled.main).1

  pub face_known : (c : Class) → Mem c was → AreKnown (class_facts (kernel ++ was)) (face_names c.decl.face)
  face_known c m = faces_named was fa.ordered c m (fa.types c m)

  pub decl_known : (c : Class) → Mem c own → AreKnown (class_facts (kernel ++ was)) (decl_names c.decl)
  decl_known c m =
      let w = class_facts (kernel ++ was) in
      let n = mem_right c olds own m in
      let t = typed_still was both fa w (facts_signature (kernel ++ was)) big_refines big c (compiled.inherited c m) (compiled.bodies c m) (compiled.typed c m) in
      let rest = flat_map body_names c.decl.bodies ++ (flat_map override_names c.decl.overrides ++ flat_map select_names c.decl.selects) in
      both_named w (face_names c.decl.face) (flat_map (λ (v : Variable). type_names v.kind) c.decl.variables ++ rest) (face_known c n)
      (both_named w (flat_map (λ (v : Variable). type_names v.kind) c.decl.variables) rest
      (variables_known (kernel ++ was) w (facts_known (kernel ++ was)) c (fa.types c n)) t.1)

-- a release that keeps the rules, typed where the type of a class object is the metaclass that it declares
module _ (news : List Class) (released : IsReleased news) where
  abbrev N : List Class
  N = kernel ++ news

  abbrev fr : FacesLoad news
  fr = released.faces

  itself_grows : Grows N N
  itself_grows = record { known = λ k c e. (c, e); descends = λ x y d. d; entries = λ k name s. s; signatures = λ k name s e. e }

  itself_refines : Refines (class_facts N) (running_facts N)
  itself_refines = refines news news fr fr itself_grows (owner_itself news fr) (object_here news fr.ordered released.parents)

  pub released_loadable : AreLoadable news
  released_loadable = record {
    faces = fr;
    inherited = released.inherited;
    bodies = released.bodies;
    typed = λ c m. (typed_still news news fr (class_facts N) (facts_signature N) itself_refines itself_grows c (released.inherited c m) (released.bodies c m) (released.typed c m)).0;
  }
