-- Classes whose faces can stand together name no others, and so do bodies that are well typed among them.
use Rattle.std.proofs.Common.{◌≡◌, inl, inr, true, not, List, [], ◌++◌, map, flat_map, length, Option, Some, None, is_some, refl, sym, ap, ◌∙◌, true≢false}
use Rattle.std.proofs.lemmas.Bool.{eqb-true}
use Rattle.som_model.specs.declared.key.ClassKey.{ClassKey}
use Rattle.som_model.specs.declared.key.MethodRef.{MethodRef}
use Rattle.som_model.specs.declared.key.ValueType.{ValueType}
use Rattle.som_model.specs.declared.key.ValueType.TheVariants as types
use Rattle.som_model.specs.declared.syntax.Block.{Block}
use Rattle.som_model.specs.declared.class.Sig.{Sig}
use Rattle.som_model.specs.declared.class.Entry.{Entry}
use Rattle.som_model.specs.declared.class.Entry.TheVariants as entries
use Rattle.som_model.specs.declared.class.Variable.{Variable}
use Rattle.som_model.specs.Lists.{Mem, every, option_list}
use Rattle.som_model.specs.Ancestors.{itself}
use Rattle.som_model.specs.Class.{Class, introduced}
use Rattle.som_model.specs.Classes.{class_at, hierarchy}
use Rattle.som_model.specs.Conforming.{class_typed_by, main_typed_by}
use Rattle.som_model.specs.Kernel.{kernel}
use Rattle.som_model.specs.Loads.{IsOrdered, FacesLoad}
use Rattle.som_model.specs.Named.{Named, AClass, type_names, entry_names, face_names, body_names, override_names, select_names, method_names, block_names}
use Rattle.som_model.specs.Owner.{owner, sig_of}
use Rattle.som_model.specs.Rules.{demand_of, is_known, is_void, is_value_type, s10, s14}
use Rattle.som_model.specs.Typing.{ClassFacts, class_facts, running_facts}
use Rattle.som_model.proofs.KeyLaws.{both}
use Rattle.som_model_laws.proofs.Laws.{descends_through}
use Rattle.som_model_laws.proofs.Members.{mem_right, mem_split}
use Rattle.som_model_laws.proofs.Lists.{map_mem, flat_mem, every_mem}
use Rattle.som_model_laws.proofs.Owners.{entry_class}
use Rattle.som_release_laws.specs.Refining.{AreKnown, Refines}
use Rattle.som_release_laws.proofs.Facing.{demanded, demanded_of, tested, tests}
use Rattle.som_release_laws.proofs.Inheriting.{s10_says}
use Rattle.som_release_laws.proofs.Lists.{flat_at, none_left}
use Rattle.som_release_laws.proofs.Prefix.{signature_entry}
use Rattle.som_release_laws.proofs.TypedClasses.{class_carried, main_carried}
use Rattle.som_release_laws.proofs.TypesBelow.{method_named}
use Rattle.som_rekey_laws.specs.Apart.{Names, is_named, names_of}
use Rattle.som_rekey_laws.proofs.OrderedNames.{class_named, ordered_named, ordered_targets, ordered_metaclasses}
use Rattle.som_rekey_rules.specs.NamesAlone.{AreOf, IsTypeNamed, AreFacesNamed, IsClassNamed}
use Rattle.som_rekey_rules.proofs.TypesRekeyed.{none_of, class_of}
use Rattle.som_rekey_rules.proofs.RulesRekeyed.{s5_entry}

both_of : (names : Names) (ns ms : List Named) → AreOf names ns → AreOf names ms → AreOf names (ns ++ ms)
both_of names ns ms a b k m = elim (mem_split (AClass k) ns ms m) [ inl n ↦ a k n | inr n ↦ b k n ]

flat_of : {A : Type 0} (names : Names) (g : A → List Named) (xs : List A) → ((x : A) → Mem x xs → AreOf names (g x)) → AreOf names (flat_map g xs)
flat_of names g xs h k m = let r = flat_mem g (AClass k) xs m in h r.0 r.1 k r.2

keys_of_names : (names : Names) (ks : List ClassKey) → ((k : ClassKey) → Mem k ks → is_named names k ≡ true) → AreOf names (map AClass ks)
keys_of_names names ks h k m = let r = map_mem AClass (AClass k) ks m in let z : k ≡ r.0 = (let e = r.2 in cc) in ap (is_named names) z ∙ h r.0 r.1

some_sig : (o : Option Sig) → is_some o ≡ true → (s : Sig) × (o ≡ Some s)
some_sig None e = absurd (true≢false (sym e))
some_sig (Some s) e = (s, refl)

some_class : (o : Option Class) → is_some o ≡ true → (c : Class) × (o ≡ Some c)
some_class None e = absurd (true≢false (sym e))
some_class (Some c) e = (c, refl)

as_many : (c : Class) → s14 c ≡ [] → length c.decl.bodies ≡ length (introduced c.decl.face.entries)
as_many c e = eqb-true (length c.decl.bodies) (length (introduced c.decl.face.entries)) (demanded 14 c _ (none_left _ _ e).0)

module _ (cs : List Class) (l : FacesLoad cs) where
  abbrev all : List Class
  all = kernel ++ cs

  abbrev names : Names
  names = names_of all

  abbrev o : IsOrdered cs
  o = l.ordered

  pub known_named : (k : ClassKey) → is_some (class_at all k) ≡ true → is_named names k ≡ true
  known_named k e = let c = some_class (class_at all k) e in class_named cs o k c.0 c.1

  type_named : (t : ValueType) → is_known all t ≡ true → IsTypeNamed names t
  type_named types.Void e = none_of names
  type_named types.Long e = none_of names
  type_named types.Boolean e = none_of names
  type_named types.Str e = none_of names
  type_named (types.Class k) e = class_of names k (known_named k e)

  value_named : (t : ValueType) → is_value_type all t ≡ true → IsTypeNamed names t
  value_named t e = type_named t (both (not (is_void t)) (is_known all t) e).1

  entry_named : (c : Class) → Mem c cs → (e : Entry) → Mem e c.decl.face.entries → s5_entry all c e ≡ [] → AreOf names (entry_names e)
  entry_named c m (entries.Moved name to) i e = class_of names to (ordered_targets cs o c name to (mem_right c kernel cs m) i)
  entry_named c m (entries.Introduced name sig way) i e =
      let d = both (is_known all sig.result) (every (is_value_type all) sig.params) (demanded_of 5 c name _ e) in
      both_of names (type_names sig.result) (flat_map type_names sig.params) (type_named sig.result d.0)
      (flat_of names type_names sig.params (λ t k. value_named t (every_mem (is_value_type all) t sig.params d.1 k)))

  -- ---- faces and variables

  types_of : (c : Class) → Mem c cs → (flat_map (s5_entry all c) c.decl.face.entries ≡ []) × (flat_map (λ (v : Variable). demand_of 5 c v.name (is_value_type all v.kind)) c.decl.variables ≡ [])
  types_of c m = none_left (flat_map (s5_entry all c) c.decl.face.entries) (flat_map (λ (v : Variable). demand_of 5 c v.name (is_value_type all v.kind)) c.decl.variables) (l.types c m)

  option_is : (p : Option ClassKey) (k : ClassKey) → Mem k (option_list p) → p ≡ Some k
  option_is None k m = absurd m
  option_is (Some q) k (inl e) = ap Some (sym e)
  option_is (Some q) k (inr m) = absurd m

  pub faces_named : AreFacesNamed names cs
  faces_named c m =
      let face = c.decl.face in
      let there = mem_right c kernel cs m in
      record {
        key = (ordered_named cs o).keys c there;
        named = both_of names (map AClass face.parents) (map AClass (option_list face.metaclass) ++ flat_map entry_names face.entries)
            (keys_of_names names face.parents (λ k i. (ordered_named cs o).parents c k there i))
            (both_of names (map AClass (option_list face.metaclass)) (flat_map entry_names face.entries)
            (keys_of_names names (option_list face.metaclass) (λ k i. ordered_metaclasses cs o c k there (option_is face.metaclass k i)))
            (flat_of names entry_names face.entries (λ e i. entry_named c m e i (flat_at (s5_entry all c) face.entries e (types_of c m).0 i))));
      }

  pub variables_named : (c : Class) → Mem c cs → (v : Variable) → Mem v c.decl.variables → IsTypeNamed names v.kind
  variables_named c m v i = value_named v.kind (demanded_of 5 c v.name _ (flat_at (λ (v : Variable). demand_of 5 c v.name (is_value_type all v.kind)) c.decl.variables v (types_of c m).1 i))

  -- ---- bodies

  abbrev inner_names : Class → List Named
  inner_names c = flat_map body_names c.decl.bodies ++ (flat_map override_names c.decl.overrides ++ flat_map select_names c.decl.selects)

  whole_named : (c : Class) → Mem c cs → AreOf names (inner_names c) → IsClassNamed names c
  whole_named c m inner = record {
    key = (faces_named c m).key;
    named = both_of names (face_names c.decl.face) (flat_map (λ v. type_names v.kind) c.decl.variables ++ inner_names c) (faces_named c m).named
        (both_of names (flat_map (λ v. type_names v.kind) c.decl.variables) (inner_names c) (flat_of names (λ v. type_names v.kind) c.decl.variables (variables_named c m)) inner);
  }

  module _ (w : ClassFacts) (same : Refines w w) (known : (k : ClassKey) → w.is_known k ≡ true → is_some (class_at all k) ≡ true)
      (signature_is : (m : MethodRef) (s : Sig) → sig_of all (owner all m) ≡ Some s → w.signature m ≡ Some s) where
    known_of : (ns : List Named) → AreKnown w ns → AreOf names ns
    known_of ns a k m = known_named k (known k (a.classes k m))

    method_known : (m : MethodRef) (s : Sig) → sig_of all (owner all m) ≡ Some s → AreKnown w (method_names m)
    method_known m s e = let f = signature_is m s e in method_named w m s f (same.referred m s f)

    pub typed_named : (c : Class) → Mem c cs → s10 all c ≡ [] → s14 c ≡ [] → class_typed_by w all c ≡ [] → IsClassNamed names c
    typed_named c m inherited fit typed =
        let i = s10_says all c inherited in
        whole_named c m (known_of (inner_names c)
        (class_carried w w same c all all (λ m s e. e) method_known (as_many c fit)
        (λ x n. some_sig (sig_of all (owner all x.method)) (i.overrides.0 x n).1) (λ x n. some_sig (sig_of all (owner all x.method)) (i.selects.0 x n).1) typed).1)

    pub main_named : (main : Block) → main_typed_by w main ≡ [] → AreOf names (block_names main)
    main_named main e = known_of (block_names main) (main_carried w w same main e).1

  referred : (r : MethodRef) (s : Sig) → sig_of all (owner all r) ≡ Some s → is_some (class_at all r.class) ≡ true
  referred r s e = let f = signature_entry all r.class r.name s e in let c = entry_class all r.class r.name f.0 f.1 in ap is_some c.1

  pub running_same : Refines (running_facts all) (running_facts all)
  unfolding running_facts
  running_same = record {
    known = λ k e. e;
    is_a = λ k a e. e;
    through = λ a b c x y. tests cs o a c (descends_through (hierarchy all) a b c (tested cs o a b x) (tested cs o b c y));
    object = λ k e. tests cs o _ _ itself;
    signature = λ r s e. e;
    referred = referred;
    proper = λ r s c e p. p;
  }

  pub declared_same : Refines (class_facts all) (class_facts all)
  unfolding class_facts
  declared_same = record {
    known = λ k e. e;
    is_a = λ k a e. e;
    through = λ a b c x y. tests cs o a c (descends_through (hierarchy all) a b c (tested cs o a b x) (tested cs o b c y));
    object = λ k e. tests cs o _ _ itself;
    signature = λ r s e. e;
    referred = referred;
    proper = λ r s c e p. p;
  }

  pub running_known : (k : ClassKey) → (running_facts all).is_known k ≡ true → is_some (class_at all k) ≡ true
  unfolding running_facts
  running_known k e = e

  pub declared_known : (k : ClassKey) → (class_facts all).is_known k ≡ true → is_some (class_at all k) ≡ true
  unfolding class_facts
  declared_known k e = e

  pub running_signature : (m : MethodRef) (s : Sig) → sig_of all (owner all m) ≡ Some s → (running_facts all).signature m ≡ Some s
  unfolding running_facts
  running_signature m s e = e

  pub declared_signature : (m : MethodRef) (s : Sig) → sig_of all (owner all m) ≡ Some s → (class_facts all).signature m ≡ Some s
  unfolding class_facts
  declared_signature m s e = e
