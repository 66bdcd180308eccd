-- Binding by all that a program names is binding by what its own classes and its main name, and that the release has the classes which the faces before it name.
use Rattle.std.proofs.Common.{◌≡◌, ℕ, inl, inr, List, [], ◌∷◌, ◌++◌, map, flat_map, Option, Some, None, refl, sym, ap, ◌∙◌, subst}
use Rattle.som_model.specs.declared.key.Module.TheVariants as modules
use Rattle.som_model.specs.declared.key.ClassKey.{ClassKey}
use Rattle.som_model.specs.declared.key.ClassKey.TheVariants as keys
use Rattle.som_model.specs.declared.key.MethodRef.{MethodRef}
use Rattle.som_model.specs.declared.key.ValueType.{ValueType}
use Rattle.som_model.specs.declared.key.ValueType.TheVariants as types
use Rattle.som_model.specs.declared.class.Sig.{Sig}
use Rattle.som_model.specs.declared.class.Entry.{Entry}
use Rattle.som_model.specs.declared.class.Entry.TheVariants as entries
use Rattle.som_model.specs.declared.class.ClassFace.{ClassFace}
use Rattle.som_model.specs.declared.program.Release.{Release}
use Rattle.som_model.specs.declared.program.ClientProgram.{ClientProgram}
use Rattle.som_model.specs.Lists.{Mem, option_list}
use Rattle.som_model.specs.Named.{AClass, AMethod, AProxy, Named, entry_names, face_names, sig_names, type_names}
use Rattle.som_model.specs.Binds.{Binds}
use Rattle.som_model_laws.proofs.Members.{mem_left, mem_right, mem_split}
use Rattle.som_breach_laws.specs.OwnNames.{AreReleased, AreSlotted, BindsOwn, base_names, own_names}

-- none of these names is a method's
abbrev NoMethod : List Named → Type 0
NoMethod names = (m : MethodRef) → Mem (AMethod m) names → ⊥

no_method_in : (xs ys : List Named) → NoMethod xs → NoMethod ys → NoMethod (xs ++ ys)
no_method_in xs ys f g m k = elim (mem_split (AMethod m) xs ys k) [ inl a ↦ f m a | inr a ↦ g m a ]

no_method_each : {A : Type 0} (f : A → List Named) → ((x : A) → NoMethod (f x)) → (xs : List A) → NoMethod (flat_map f xs)
no_method_each f g [] m k = absurd k
no_method_each f g (x ∷ xs) m k = no_method_in (f x) (flat_map f xs) (g x) (no_method_each f g xs) m k

other_name : (m : MethodRef) (k : ClassKey) → AMethod m ≡ AClass k → ⊥
other_name m k e = cc

no_method_keys : (ks : List ClassKey) → NoMethod (map AClass ks)
no_method_keys [] m k = absurd k
no_method_keys (x ∷ ks) m (inl e) = absurd (other_name m x e)
no_method_keys (x ∷ ks) m (inr k) = no_method_keys ks m k

no_method_type : (t : ValueType) → NoMethod (type_names t)
no_method_type types.Void m k = absurd k
no_method_type types.Long m k = absurd k
no_method_type types.Boolean m k = absurd k
no_method_type types.Str m k = absurd k
no_method_type (types.Class c) m (inl e) = absurd (other_name m c e)
no_method_type (types.Class c) m (inr k) = absurd k

no_method_sig : (s : Sig) → NoMethod (sig_names s)
no_method_sig s = no_method_in (type_names s.result) (flat_map type_names s.params) (no_method_type s.result) (no_method_each type_names no_method_type s.params)

no_method_entry : (e : Entry) → NoMethod (entry_names e)
no_method_entry (entries.Introduced name sig way) m k = no_method_sig sig m k
no_method_entry (entries.Moved name to) m (inl e) = absurd (other_name m to e)
no_method_entry (entries.Moved name to) m (inr k) = absurd k

no_method_face : (f : ClassFace) → NoMethod (face_names f)
no_method_face f =
    no_method_in (map AClass f.parents) (map AClass (option_list f.metaclass) ++ flat_map entry_names f.entries) (no_method_keys f.parents)
    (no_method_in (map AClass (option_list f.metaclass)) (flat_map entry_names f.entries) (no_method_keys (option_list f.metaclass)) (no_method_each entry_names no_method_entry f.entries))

pub binds_own : (p : ClientProgram) (r : Release) → Binds p r → BindsOwn p r × AreReleased (base_names p.base) r
binds_own p r b = (
  record {
    known = λ name m. b.known name (mem_right (AClass (keys.Named modules.Library name)) (base_names p.base) (own_names p) m);
    slots = λ x m. b.slots x (mem_right (AMethod x) (base_names p.base) (own_names p) m);
    typed = b.typed;
    main_typed = b.main_typed;
  },
  λ name m. b.known name (mem_left (AClass (keys.Named modules.Library name)) (base_names p.base) (own_names p) m),
)

pub own_binds : (p : ClientProgram) (r : Release) → BindsOwn p r × AreReleased (base_names p.base) r → Binds p r
own_binds p r b = record {
  known = λ name m. elim (mem_split (AClass (keys.Named modules.Library name)) (base_names p.base) (own_names p) m) [ inl a ↦ b.1 name a | inr a ↦ b.0.known name a ];
  slots = λ x m. elim (mem_split (AMethod x) (base_names p.base) (own_names p) m) [
    | inl a ↦ absurd (no_method_each face_names no_method_face p.base.classes x a)
    | inr a ↦ b.0.slots x a
  ];
  typed = b.0.typed;
  main_typed = b.0.main_typed;
}
