-- What classes that speak of some names alone have: keys, parents, metaclasses, targets, types, overrides and selects of these names.
use Rattle.std.proofs.Common.{◌≡◌, inl, ℕ, true, List, ◌++◌, map, flat_map, Option, Some, None, is_some, unwrap_or, refl, sym, ap, subst, true≢false}
use Rattle.som_model.specs.declared.key.ClassKey.{ClassKey}
use Rattle.som_model.specs.declared.key.MethodRef.{MethodRef}
use Rattle.som_model.specs.declared.class.Sig.{Sig}
use Rattle.som_model.specs.declared.class.Entry.{Entry}
use Rattle.som_model.specs.declared.class.Entry.TheVariants as entries
use Rattle.som_model.specs.declared.class.Body.{Body}
use Rattle.som_model.specs.declared.class.Override.{Override}
use Rattle.som_model.specs.declared.class.Select.{Select}
use Rattle.som_model.specs.Lists.{Mem, option_list}
use Rattle.som_model.specs.Keys.{same_key}
use Rattle.som_model.specs.Class.{Class, introduced_sig}
use Rattle.som_model.specs.Classes.{class_at}
use Rattle.som_model.specs.Kernel.{som_class}
use Rattle.som_model.specs.Named.{Named, AClass, type_names, sig_names, entry_names, face_names, body_names, override_names, select_names}
use Rattle.som_model.specs.Owner.{entry_at, owner, sig_of}
use Rattle.som_model.specs.Typing.{class_facts, running_facts}
use Rattle.som_model_laws.proofs.Members.{mem_left}
use Rattle.som_model_laws.proofs.Lists.{mem_map}
use Rattle.som_model_laws.proofs.Owners.{entry_class, entry_mem}
use Rattle.som_rekey_laws.specs.Rekeying.{ModuleChange}
use Rattle.som_rekey_laws.specs.Apart.{Names, is_named, IsApart, KeepsKernel, AreNamed, AreTargetsNamed, AreMetaclassesNamed, AreInheritedNamed}
use Rattle.som_rekey_laws.proofs.Places.{found_mem}
use Rattle.som_rekey_laws.proofs.OwnersKept.{owner_named}
use Rattle.som_rekey_laws.proofs.BodiesKept.{class_named}
use Rattle.som_rekey_laws.proofs.MetasKept.{meta_named}
use Rattle.som_rekey_rules.specs.NamesAlone.{AreOf, IsFaceNamed, AreFacesNamed, IsClassNamed, AreClassesNamed, AreAnswersNamed}
use Rattle.som_rekey_rules.proofs.TypesRekeyed.{left_of, right_of, each_of}
use Rattle.som_rekey_rules.proofs.ExpressionsRekeyed.{face_of, parent_named}

-- ---- the parts of a class

module _ (names : Names) (c : Class) (is : IsFaceNamed names c) where
  abbrev parents_named : List Named
  parents_named = map AClass c.decl.face.parents

  abbrev metaclass_named : List Named
  metaclass_named = map AClass (option_list c.decl.face.metaclass)

  abbrev entries_named : List Named
  entries_named = flat_map entry_names c.decl.face.entries

  after_parents : AreOf names (metaclass_named ++ entries_named)
  after_parents = right_of names parents_named (metaclass_named ++ entries_named) is.named

  pub metaclass_is_named : (k : ClassKey) → Mem k (option_list c.decl.face.metaclass) → is_named names k ≡ true
  metaclass_is_named k m = after_parents k (mem_left (AClass k) metaclass_named entries_named (mem_map AClass k (option_list c.decl.face.metaclass) m))

  pub entry_is_named : (e : Entry) → Mem e c.decl.face.entries → AreOf names (entry_names e)
  entry_is_named e m = each_of names entry_names c.decl.face.entries (right_of names metaclass_named entries_named after_parents) e m

module _ (names : Names) (c : Class) (is : IsClassNamed names c) where
  abbrev variables_named : List Named
  variables_named = flat_map (λ v. type_names v.kind) c.decl.variables

  abbrev bodies_named : List Named
  bodies_named = flat_map body_names c.decl.bodies

  abbrev overrides_named : List Named
  overrides_named = flat_map override_names c.decl.overrides

  abbrev selects_named : List Named
  selects_named = flat_map select_names c.decl.selects

  after_variables : AreOf names (bodies_named ++ (overrides_named ++ selects_named))
  after_variables =
      right_of names variables_named (bodies_named ++ (overrides_named ++ selects_named))
      (right_of names (face_names c.decl.face) (variables_named ++ (bodies_named ++ (overrides_named ++ selects_named))) is.named)

  after_bodies : AreOf names (overrides_named ++ selects_named)
  after_bodies = right_of names bodies_named (overrides_named ++ selects_named) after_variables

  pub body_is_named : (b : Body) → Mem b c.decl.bodies → AreOf names (body_names b)
  body_is_named b m = each_of names body_names c.decl.bodies (left_of names bodies_named (overrides_named ++ selects_named) after_variables) b m

  pub override_is_named : (o : Override) → Mem o c.decl.overrides → AreOf names (override_names o)
  override_is_named o m = each_of names override_names c.decl.overrides (left_of names overrides_named selects_named after_bodies) o m

  pub overridden_is_named : (o : Override) → Mem o c.decl.overrides → is_named names o.method.class ≡ true
  overridden_is_named o m = override_is_named o m o.method.class (inl refl)

  pub selected_is_named : (s : Select) → Mem s c.decl.selects → is_named names s.method.class ≡ true
  selected_is_named s m = each_of names select_names c.decl.selects (right_of names overrides_named selects_named after_bodies) s m s.method.class (inl refl)

pub faces_of : (names : Names) (cs : List Class) → AreClassesNamed names cs → AreFacesNamed names cs
faces_of names cs are c m = face_of names c (are c m)

pub all_inherited : (names : Names) (cs : List Class) → AreClassesNamed names cs → AreInheritedNamed names cs
all_inherited names cs are = record {
  overrides = λ c o m i. overridden_is_named names c (are c m) o i;
  selects = λ c s m i. selected_is_named names c (are c m) s i;
}

option_there : {A : Type 0} (o : Option A) (x : A) → o ≡ Some x → Mem x (option_list o)
option_there None x e = absurd (true≢false (ap is_some (sym e)))
option_there (Some y) x e = inl (ap (λ o. unwrap_or o x) (sym e))

-- ---- lists of classes

module _ (names : Names) (cs : List Class) (are : AreFacesNamed names cs) where
  pub all_named : AreNamed names cs
  all_named = record {
    keys = λ c m. (are c m).key;
    parents = λ c k m i. parent_named names c (are c m) k i;
  }

  pub all_targets : AreTargetsNamed names cs
  all_targets c name to m i = entry_is_named names c (are c m) (entries.Moved name to) i to (inl refl)

  pub all_metaclasses : AreMetaclassesNamed names cs
  all_metaclasses c k m e = metaclass_is_named names c (are c m) k (option_there c.decl.face.metaclass k e)

  -- ---- signatures

  entry_sig : (k : ClassKey) (name : List ℕ) (s : Sig) (o : Option Entry) → entry_at cs k name ≡ o → introduced_sig o ≡ Some s → AreOf names (sig_names s)
  entry_sig k name s None e i = absurd (true≢false (ap is_some (sym i)))
  entry_sig k name s (Some (entries.Moved x to)) e i = absurd (true≢false (ap is_some (sym i)))
  entry_sig k name s (Some (entries.Introduced x sig way)) e i =
      let d = entry_class cs k name (entries.Introduced x sig way) e in
      let m = found_mem (λ (c : Class). same_key c.key k) cs d.0 d.1 in
      let at = (entry_mem d.0.decl.face.entries name (entries.Introduced x sig way) d.2).0 in
      subst (λ z. AreOf names (sig_names z)) (ap (λ o. unwrap_or o s) i) (entry_is_named names d.0 (are d.0 m) (entries.Introduced x sig way) at)

  pub signature_named : (r : MethodRef) (s : Sig) → sig_of cs r ≡ Some s → AreOf names (sig_names s)
  signature_named r s e = entry_sig r.class r.name s (entry_at cs r.class r.name) refl e

  -- ---- answers

  abbrev object_class : Option Class → ClassKey
  object_class None = som_class
  object_class (Some c) = unwrap_or c.decl.face.metaclass som_class

  module _ (f : ModuleChange) (kk : KeepsKernel f names) where
    metaclass_or : (o : Option ClassKey) → ((k : ClassKey) → Mem k (option_list o) → is_named names k ≡ true) → is_named names (unwrap_or o som_class) ≡ true
    metaclass_or None h = class_named f names kk
    metaclass_or (Some k) h = h k (inl refl)

    object_named : (k : ClassKey) (o : Option Class) → class_at cs k ≡ o → is_named names (object_class o) ≡ true
    object_named k None e = class_named f names kk
    object_named k (Some c) e = metaclass_or c.decl.face.metaclass (metaclass_is_named names c (are c (found_mem (λ (c : Class). same_key c.key k) cs c e)))

    module _ (apart : IsApart f names) where
      owners : (r : MethodRef) → is_named names r.class ≡ true → is_named names (owner cs r).class ≡ true
      owners = owner_named f names cs apart all_named all_targets

      pub declared_answers : AreAnswersNamed names (class_facts cs)
      unfolding class_facts
      declared_answers = record {
        class_object = λ k n. object_named k (class_at cs k) refl;
        owner = owners;
        signature = λ r s n e. signature_named (owner cs r) s e;
      }

      pub running_answers : AreAnswersNamed names (running_facts cs)
      unfolding running_facts
      running_answers = record {
        class_object = meta_named f names kk cs apart all_named all_metaclasses;
        owner = owners;
        signature = λ r s n e. signature_named (owner cs r) s e;
      }
