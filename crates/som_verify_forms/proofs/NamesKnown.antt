-- Where no rule on faces is broken, whatever classes name is known.
use Rattle.std.proofs.Common.{◌≡◌, ℕ, zero, suc, ◌<◌, ◌⊎◌, inl, inr, Bool, true, false, List, [], ◌∷◌, ◌++◌, take, drop, map, flat_map, length, slice_get, Option, Some, None, is_some, refl, sym, ap, ◌∙◌, subst, arith, true≢false}
use Rattle.std.specs.Str.{bytes_eq}
use Rattle.std.proofs.lemmas.List.{take-append-drop}
use Rattle.std.proofs.lemmas.Option.{slice_get-get_or}
use Rattle.som_model.specs.Lists.{Mem, first, every, option_list}
use Rattle.som_model.specs.Class.{Class, entry_name, entry_of, introduced_sig}
use Rattle.som_model.specs.Classes.{class_at}
use Rattle.som_model.specs.Conforming.{each_after, first_of_names, first_of_members}
use Rattle.som_model.specs.Kernel.{kernel, som_class, som_object}
use Rattle.som_model.specs.Rules.{is_known, s1, s2, s5, s6, s7, s8, s9}
use Rattle.som_model.specs.declared.key.ClassKey.{ClassKey}
use Rattle.som_model.specs.declared.key.ValueType.{ValueType}
use Rattle.som_model.specs.declared.key.ValueType.TheVariants as types
use Rattle.som_model.specs.declared.class.Entry.{Entry}
use Rattle.som_model.specs.declared.class.Entry.TheVariants as entries
use Rattle.som_model.specs.declared.class.Sig.{Sig}
use Rattle.som_model.specs.declared.class.Way.{Way}
use Rattle.som_model.specs.declared.class.Variable.{Variable}
use Rattle.som_model_laws.proofs.Members.{find_first, mem_split, mem_left, mem_right}
use Rattle.som_model_laws.proofs.Lists.{get_mem, every_mem, mem_every}
use Rattle.som_verify_classes.specs.Faces.{classes_breach}
use Rattle.som_verify_forms.specs.Knowing.{NamesKnown, sig_is_known}
use Rattle.som_verify_classes.specs.Places.{class_of_place, face_at, nobody, with_kernel}
use Rattle.som_verify_classes.specs.Plainly.{IsAmong, TypesKnown}
use Rattle.som_verify_classes.proofs.Before.{known_by_s2, mem_known, none_both}
use Rattle.som_verify_classes.proofs.Owners.{mem_middle}
use Rattle.som_verify_classes.proofs.Conformity.{or_none}
use Rattle.som_verify_classes.proofs.PlainMembers.{both_true, types_say}

abbrev entry_known : List Class → Entry → Bool
entry_known all (entries.Introduced name sig way) = sig_is_known all sig
entry_known all (entries.Moved name to) = true

abbrev no_metaclass : Option ClassKey → Bool
no_metaclass None = true
no_metaclass (Some k) = false

-- ---- the kernel's classes name SOMClass and SOMObject alone

kernel_entries : (all : List Class) → is_some (class_at all som_class) ≡ true → is_some (class_at all som_object) ≡ true → every (λ (c : Class). every (entry_known all) c.decl.face.entries) kernel ≡ true
kernel_entries all e f = rw (e, f) refl

kernel_parents : (all : List Class) → is_some (class_at all som_class) ≡ true → is_some (class_at all som_object) ≡ true → every (λ (c : Class). every (λ k. is_some (class_at all k)) c.decl.face.parents) kernel ≡ true
kernel_parents all e f = rw (e, f) refl

kernel_metaclasses : every (λ (c : Class). no_metaclass c.decl.face.metaclass) kernel ≡ true
kernel_metaclasses = refl

class_known : (cs : List Class) → is_some (class_at (with_kernel cs) som_class) ≡ true
class_known cs = mem_known (with_kernel cs) som_class (class_of_place (with_kernel cs) 1) (inr (inl refl)) refl

object_known : (cs : List Class) → is_some (class_at (with_kernel cs) som_object) ≡ true
object_known cs = mem_known (with_kernel cs) som_object (class_of_place (with_kernel cs) 0) (inl refl) refl

-- ---- places

-- a class of the kernel, or a declared one
abbrev Placed : List Class → Class → Type 0
Placed cs c = Mem c kernel ⊎ ((i : ℕ) × (i < length cs) × (slice_get cs i ≡ Some c))

placed : (cs : List Class) (p : ℕ) → p < length (with_kernel cs) → Placed cs (class_of_place (with_kernel cs) p)
placed cs zero lt = inl (inl refl)
placed cs (suc zero) lt = inl (inr (inl refl))
placed cs (suc (suc zero)) lt = inl (inr (inr (inl refl)))
placed cs (suc (suc (suc zero))) lt = inl (inr (inr (inr (inl refl))))
placed cs (suc (suc (suc (suc i)))) lt = inr (i, omega arith, slice_get-get_or cs i nobody (omega arith))

-- ---- types

among_more : (cs : List Class) (n : ℕ) (k : ClassKey) → IsAmong (kernel ++ take n cs) k → IsAmong (with_kernel cs) k
among_more cs n k a = record {
  class = a.class;
  there = elim (mem_split a.class kernel (take n cs) a.there) [
    | inl m ↦ mem_left a.class kernel cs m
    | inr m ↦ mem_right a.class kernel cs (subst (λ z. Mem a.class z) (take-append-drop n cs) (mem_left a.class (take n cs) (drop n cs) m))
  ];
  named = a.named;
}

known_by : (cs : List Class) (t : ValueType) → ((k : ClassKey) → t ≡ types.Class k → IsAmong cs k) → is_known cs t ≡ true
known_by cs types.Void f = refl
known_by cs types.Long f = refl
known_by cs types.Boolean f = refl
known_by cs types.Str f = refl
known_by cs (types.Class k) f = let a = f k refl in mem_known cs k a.class a.there a.named

-- S5 says that what a declared class names is known
module _ (n : ℕ) (cs : List Class) (base : TypesKnown (kernel ++ take n cs) (take n cs)) (own : TypesKnown (with_kernel cs) (drop n cs)) where
  pub declared_sig : (c : Class) (name : List ℕ) (sig : Sig) (way : Way) → Mem c cs → Mem (entries.Introduced name sig way) c.decl.face.entries → sig_is_known (with_kernel cs) sig ≡ true
  declared_sig c name sig way m at = elim (mem_split c (take n cs) (drop n cs) (subst (λ z. Mem c z) (sym (take-append-drop n cs)) m)) [
    | inl h ↦ both_true _ _
        (known_by (with_kernel cs) sig.result (λ k e. among_more cs n k ((base.results c name sig way h at).by k e)))
        (mem_every (is_known (with_kernel cs)) sig.params (λ t q. known_by (with_kernel cs) t (λ k e. among_more cs n k ((base.params c name sig way t h at q).named.by k e))))
    | inr h ↦ both_true _ _
        (known_by (with_kernel cs) sig.result (own.results c name sig way h at).by)
        (mem_every (is_known (with_kernel cs)) sig.params (λ t q. known_by (with_kernel cs) t (own.params c name sig way t h at q).named.by))
  ]

  declared_variable : (c : Class) (v : Variable) → Mem c cs → Mem v c.decl.variables → is_known (with_kernel cs) v.kind ≡ true
  declared_variable c v m at = elim (mem_split c (take n cs) (drop n cs) (subst (λ z. Mem c z) (sym (take-append-drop n cs)) m)) [
    | inl h ↦ known_by (with_kernel cs) v.kind (λ k e. among_more cs n k ((base.variables c v h at).named.by k e))
    | inr h ↦ known_by (with_kernel cs) v.kind (own.variables c v h at).named.by
  ]

introduced_at : (es : List Entry) (name : List ℕ) (sig : Sig) → introduced_sig (entry_of es name) ≡ Some sig → (x : List ℕ) × (way : Way) × Mem (entries.Introduced x sig way) es
introduced_at es name sig e = found (entry_of es name) refl e
  where
    found : (o : Option Entry) → entry_of es name ≡ o → introduced_sig o ≡ Some sig → (x : List ℕ) × (way : Way) × Mem (entries.Introduced x sig way) es
    found None is e = absurd (cc)
    found (Some (entries.Moved x to)) is e = absurd (cc)
    found (Some (entries.Introduced x s way)) is e =
        let same : s ≡ sig = cc in
        let f = find_first (λ e. bytes_eq (entry_name e) name) es (entries.Introduced x s way) is in
        (x, way, subst (λ z. Mem (entries.Introduced x z way) es) same (mem_middle es f.before f.after (entries.Introduced x s way) f.parts))

kind_mem : (vs : List Variable) (i : ℕ) (t : ValueType) → slice_get (map (λ v. v.kind) vs) i ≡ Some t → (v : Variable) × Mem v vs × (v.kind ≡ t)
kind_mem [] i t e = absurd (cc)
kind_mem (v ∷ vs) zero t e = (v, inl refl, cc)
kind_mem (v ∷ vs) (suc i) t e = let r = kind_mem vs i t e in (r.0, inr r.1, r.2)

-- moved entries lead to where their names are introduced
pub moved_holds : (n : ℕ) (cs : List Class) → classes_breach n cs ≡ None → first (flat_map (s9 (with_kernel cs)) cs) ≡ None
moved_holds n cs e =
    let types = or_none _ (first_of_members kernel cs) (or_none (first_of_names kernel cs) _ e).1 in
    let s6s = or_none (first (flat_map s6 cs)) _ types.1 in
    let s7s = or_none (first (flat_map s7 cs)) _ s6s.1 in
    let s8s = or_none (first (flat_map (s8 (kernel ++ cs)) cs)) _ s7s.1 in
    (or_none (first (flat_map (s9 (kernel ++ cs)) cs)) _ s8s.1).0

-- S2 says so of parents and metaclasses, and the kernel's faces name two of its own
pub names_known : (n : ℕ) (cs : List Class) → classes_breach n cs ≡ None → NamesKnown (with_kernel cs)
names_known n cs e =
    let names = or_none (first_of_names kernel cs) _ e in
    let types = or_none _ (first_of_members kernel cs) names.1 in
    let s5s = none_both (flat_map (s5 (kernel ++ take n cs)) (take n cs)) (flat_map (s5 (kernel ++ cs)) (drop n cs)) types.0 in
    let base = types_say (kernel ++ take n cs) (take n cs) s5s.0 in
    let own = types_say (kernel ++ cs) (drop n cs) s5s.1 in
    let s2s = (or_none (first (each_after s2 kernel cs)) _ (or_none (first (each_after s1 kernel cs)) _ names.0).1).0 in
    record {
      signatures = λ p name sig lt e. (let r = introduced_at (face_at (with_kernel cs) p).entries name sig e in elim (placed cs p lt) [
        | inl m ↦ every_mem (entry_known (with_kernel cs)) (entries.Introduced r.0 sig r.1) (face_at (with_kernel cs) p).entries
            (every_mem (λ (c : Class). every (entry_known (with_kernel cs)) c.decl.face.entries) (class_of_place (with_kernel cs) p) kernel (kernel_entries (with_kernel cs) (class_known cs) (object_known cs)) m) r.2
        | inr q ↦ declared_sig n cs base own (class_of_place (with_kernel cs) p) r.0 sig r.1 (get_mem cs q.0 (class_of_place (with_kernel cs) p) q.2) r.2
      ]);
      variables = λ p i t lt e. (let r = kind_mem (class_of_place (with_kernel cs) p).decl.variables i t e in elim (placed cs p lt) [
        | inl m ↦ absurd (no_variables (class_of_place (with_kernel cs) p) r.0 m r.1)
        | inr q ↦ subst (λ z. is_known (with_kernel cs) z ≡ true) r.2 (declared_variable n cs base own (class_of_place (with_kernel cs) p) r.0 (get_mem cs q.0 (class_of_place (with_kernel cs) p) q.2) r.1)
      ]);
      parents = λ p k lt m. elim (placed cs p lt) [
        | inl q ↦ every_mem (λ k. is_some (class_at (with_kernel cs) k)) k (face_at (with_kernel cs) p).parents
            (every_mem (λ (c : Class). every (λ k. is_some (class_at (with_kernel cs) k)) c.decl.face.parents) (class_of_place (with_kernel cs) p) kernel (kernel_parents (with_kernel cs) (class_known cs) (object_known cs)) q) m
        | inr q ↦ known_by_s2 cs q.0 (class_of_place (with_kernel cs) p) s2s q.2 k (mem_left k (face_at (with_kernel cs) p).parents (option_list (face_at (with_kernel cs) p).metaclass) m)
      ];
      metaclasses = λ p k lt is. elim (placed cs p lt) [
        | inl q ↦ absurd (true≢false (sym (every_mem (λ (c : Class). no_metaclass c.decl.face.metaclass) (class_of_place (with_kernel cs) p) kernel kernel_metaclasses q) ∙ ap no_metaclass is))
        | inr q ↦ known_by_s2 cs q.0 (class_of_place (with_kernel cs) p) s2s q.2 k (mem_right k (face_at (with_kernel cs) p).parents (option_list (face_at (with_kernel cs) p).metaclass)
            (subst (λ (o : Option ClassKey). Mem k (option_list o)) (sym is) (inl refl)))
      ];
    }
  where
    none_of : List Variable → Bool
    none_of [] = true
    none_of (v ∷ vs) = false

    none_there : (vs : List Variable) (v : Variable) → none_of vs ≡ true → Mem v vs → ⊥
    none_there [] v e m = m
    none_there (x ∷ vs) v e m = true≢false (sym e)

    no_variables : (c : Class) (v : Variable) → Mem c kernel → Mem v c.decl.variables → ⊥
    no_variables c v m at = none_there c.decl.variables v (every_mem (λ (c : Class). none_of c.decl.variables) c kernel refl m) at
