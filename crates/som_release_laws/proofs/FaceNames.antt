-- What the faces and variables of classes name is known.
use Rattle.std.proofs.Common.{◌≡◌, ℕ, inl, inr, true, not, ◌&&◌, List, [], ◌∷◌, ◌++◌, map, flat_map, Some, refl, ap}
use Rattle.std.specs.Prelude.{is_some}
use Rattle.som_model.specs.declared.key.ClassKey.{ClassKey}
use Rattle.som_model.specs.declared.key.ValueType.{ValueType}
use Rattle.som_model.specs.declared.key.ValueType.TheVariants as types
use Rattle.som_model.specs.declared.class.Entry.{Entry}
use Rattle.som_model.specs.declared.class.Entry.TheVariants as entries
use Rattle.som_model.specs.declared.class.Variable.{Variable}
use Rattle.som_model.specs.Lists.{Mem, every, option_list}
use Rattle.som_model.specs.Class.{Class}
use Rattle.som_model.specs.Classes.{class_at}
use Rattle.som_model.specs.Kernel.{kernel}
use Rattle.som_model.specs.Named.{AClass, entry_names, face_names, sig_names, type_names}
use Rattle.som_model.specs.Rules.{RuleBreach, demand_of, is_known, is_value_type, is_void, s5}
use Rattle.som_model.specs.Typing.{ClassFacts, class_facts}
use Rattle.som_model.specs.Loads.{IsOrdered}
use Rattle.som_model.proofs.KeyLaws.{both}
use Rattle.som_model_laws.proofs.Members.{mem_right}
use Rattle.som_model_laws.proofs.Lists.{get_mem, mem_get, option_mem, every_mem}
use Rattle.som_model_laws.proofs.Owners.{metaclass_known}
use Rattle.som_model_laws.proofs.Standing.{earlier_at, found, stands}
use Rattle.som_release_laws.specs.Refining.{AreKnown}
use Rattle.som_release_laws.proofs.Facing.{demanded_of}
use Rattle.som_release_laws.proofs.Lists.{flat_at, none_left}
use Rattle.som_release_laws.proofs.TypesBelow.{both_named, class_named, none_named}

facts_known : (cs : List Class) (k : ClassKey) → is_some (class_at cs k) ≡ true → (class_facts cs).is_known k ≡ true
unfolding class_facts
facts_known cs k e = e

pub known_facts : (cs : List Class) (k : ClassKey) → (class_facts cs).is_known k ≡ true → is_some (class_at cs k) ≡ true
unfolding class_facts
known_facts cs k e = e

module _ (cs : List Class) (w : ClassFacts) (known : (k : ClassKey) → is_some (class_at cs k) ≡ true → w.is_known k ≡ true) where
  type_named : (t : ValueType) → is_known cs t ≡ true → AreKnown w (type_names t)
  type_named types.Void e = none_named w
  type_named types.Long e = none_named w
  type_named types.Boolean e = none_named w
  type_named types.Str e = none_named w
  type_named (types.Class k) e = class_named w k [] (known k e) (none_named w)

  types_named : (ts : List ValueType) → ((t : ValueType) → Mem t ts → is_value_type cs t ≡ true) → AreKnown w (flat_map type_names ts)
  types_named [] f = none_named w
  types_named (t ∷ ts) f = both_named w (type_names t) (flat_map type_names ts) (type_named t (both (not (is_void t)) (is_known cs t) (f t (inl refl))).1) (types_named ts (λ x m. f x (inr m)))

  keys_named : (ks : List ClassKey) → ((k : ClassKey) → Mem k ks → w.is_known k ≡ true) → AreKnown w (map AClass ks)
  keys_named [] f = none_named w
  keys_named (k ∷ ks) f = class_named w k (map AClass ks) (f k (inl refl)) (keys_named ks (λ x m. f x (inr m)))

  abbrev types_of : Class → Entry → List RuleBreach
  types_of c (entries.Introduced name sig way) = demand_of 5 c name (is_known cs sig.result && every (is_value_type cs) sig.params)
  types_of c (entries.Moved name to) = []

  entries_named : (c : Class) (es : List Entry) → ((e : Entry) → Mem e es → types_of c e ≡ []) → ((name : List ℕ) (to : ClassKey) → Mem (entries.Moved name to) es → w.is_known to ≡ true) → AreKnown w (flat_map entry_names es)
  entries_named c [] f g = none_named w
  entries_named c (entries.Introduced name sig way ∷ es) f g =
      let d = demanded_of 5 c name (is_known cs sig.result && every (is_value_type cs) sig.params) (f (entries.Introduced name sig way) (inl refl)) in
      let p = both (is_known cs sig.result) (every (is_value_type cs) sig.params) d in
      both_named w (sig_names sig) (flat_map entry_names es)
      (both_named w (type_names sig.result) (flat_map type_names sig.params) (type_named sig.result p.0) (types_named sig.params (λ t m. every_mem (is_value_type cs) t sig.params p.1 m)))
      (entries_named c es (λ e m. f e (inr m)) (λ x k m. g x k (inr m)))
  entries_named c (entries.Moved name to ∷ es) f g =
      class_named w to (flat_map entry_names es) (g name to (inl refl)) (entries_named c es (λ e m. f e (inr m)) (λ x k m. g x k (inr m)))

  variables_named : (c : Class) (vs : List Variable) → ((v : Variable) → Mem v vs → demand_of 5 c v.name (is_value_type cs v.kind) ≡ []) → AreKnown w (flat_map (λ (v : Variable). type_names v.kind) vs)
  variables_named c [] f = none_named w
  variables_named c (v ∷ vs) f =
      let d = demanded_of 5 c v.name (is_value_type cs v.kind) (f v (inl refl)) in
      both_named w (type_names v.kind) (flat_map (λ (v : Variable). type_names v.kind) vs) (type_named v.kind (both (not (is_void v.kind)) (is_known cs v.kind) d).1) (variables_named c vs (λ x m. f x (inr m)))

  -- S5 says that all types of a face and its variables are known
  pub face_named : (c : Class) → s5 cs c ≡ [] → ((k : ClassKey) → Mem k c.decl.face.parents → w.is_known k ≡ true) → ((k : ClassKey) → c.decl.face.metaclass ≡ Some k → w.is_known k ≡ true)
      → ((name : List ℕ) (to : ClassKey) → Mem (entries.Moved name to) c.decl.face.entries → w.is_known to ≡ true) → AreKnown w (face_names c.decl.face)
  face_named c e f g h =
      let p = none_left (flat_map (types_of c) c.decl.face.entries) (flat_map (λ (v : Variable). demand_of 5 c v.name (is_value_type cs v.kind)) c.decl.variables) e in
      both_named w (map AClass c.decl.face.parents) (map AClass (option_list c.decl.face.metaclass) ++ flat_map entry_names c.decl.face.entries) (keys_named c.decl.face.parents f)
      (both_named w (map AClass (option_list c.decl.face.metaclass)) (flat_map entry_names c.decl.face.entries) (keys_named (option_list c.decl.face.metaclass) (λ k m. g k (option_mem c.decl.face.metaclass k m)))
      (entries_named c c.decl.face.entries (λ x m. flat_at (types_of c) c.decl.face.entries x p.0 m) h))

  pub variables_known : (c : Class) → s5 cs c ≡ [] → AreKnown w (flat_map (λ (v : Variable). type_names v.kind) c.decl.variables)
  variables_known c e =
      let p = none_left (flat_map (types_of c) c.decl.face.entries) (flat_map (λ (v : Variable). demand_of 5 c v.name (is_value_type cs v.kind)) c.decl.variables) e in
      variables_named c c.decl.variables (λ v m. flat_at (λ (v : Variable). demand_of 5 c v.name (is_value_type cs v.kind)) c.decl.variables v p.1 m)

-- among classes in order all that a face names is known
module _ (cs : List Class) (o : IsOrdered cs) where
  known_here : (k : ClassKey) (d : Class) → class_at (kernel ++ cs) k ≡ Some d → (class_facts (kernel ++ cs)).is_known k ≡ true
  known_here k d e = facts_known (kernel ++ cs) k (ap is_some e)

  target_known : (c : Class) (name : List ℕ) (to : ClassKey) → Mem c cs → Mem (entries.Moved name to) c.decl.face.entries → (d : Class) × (class_at (kernel ++ cs) to ≡ Some d)
  target_known c name to m n =
      let i = mem_get cs c m in
      let q = earlier_at cs o i.0 to (o.targets i.0 c name to i.1 n) in
      (q.1, found cs o q.1 to (get_mem (kernel ++ cs) q.0 q.1 q.3) q.4)

  pub faces_named : (c : Class) → Mem c cs → s5 (kernel ++ cs) c ≡ [] → AreKnown (class_facts (kernel ++ cs)) (face_names c.decl.face)
  faces_named c m e =
      let here = found cs o c c.key (mem_right c kernel cs m) refl in
      face_named (kernel ++ cs) (class_facts (kernel ++ cs)) (facts_known (kernel ++ cs)) c e
      (λ k n. let d = stands cs o c.key c k here n in known_here k d.0 d.1)
      (λ k is. let d = metaclass_known cs o c.key c k here is in known_here k d.0 d.1)
      (λ name to n. let d = target_known c name to m n in known_here to d.0 d.1)
