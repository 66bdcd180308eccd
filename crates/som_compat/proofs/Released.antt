-- The interface of a release that conforms may be compared.
use Rattle.std.proofs.Common.{◌≡◌, ℕ, ◌≤◌, Bool, not, ◌&&◌, List, [], ◌∷◌, ◌++◌, length, map, flat_map, None, refl, sym, ap, ◌∙◌, subst}
use Rattle.std.proofs.Math.Path.{fun_ext}
use Rattle.std.specs.Prelude.{All}
use Rattle.std.specs.Str.{bytes_eq}
use Rattle.std.proofs.lemmas.List.{append-nil}
use Rattle.std.proofs.lemmas.List.Elements.{All-map}
use Rattle.som_model.specs.declared.key.Module.TheVariants as modules
use Rattle.som_model.specs.declared.key.ClassKey.{ClassKey}
use Rattle.som_model.specs.declared.key.ValueType.{ValueType}
use Rattle.som_model.specs.declared.class.Entry.{Entry}
use Rattle.som_model.specs.declared.class.Entry.TheVariants as entries
use Rattle.som_model.specs.declared.class.ClassDecl.{ClassDecl}
use Rattle.som_model.specs.declared.program.Release.{Release}
use Rattle.som_model.specs.Lists.{among, doubles, every, first, option_list, or_else}
use Rattle.som_model.specs.Class.{Class, bare, class_in, interface_of}
use Rattle.som_model.specs.Classes.{ancestors, is_a, library_classes}
use Rattle.som_model.specs.Conforming.{ReleaseOk, each_after, first_of_members, first_of_names, declared_breach}
use Rattle.som_model.specs.Kernel.{kernel, som_class}
use Rattle.som_model.specs.Keys.{same_key}
use Rattle.som_model.specs.Owner.{introduces}
use Rattle.som_model.specs.Rules.{RuleBreach, breach, demand, demand_of, introduced_by, is_known, is_value_type, name_of, s1, s2, s3, s4, s5, s6, s7, s8, s9, s10, s14}
use Rattle.som_verify_classes.specs.Faces.{faces_breach}
use Rattle.som_verify_classes.specs.Inherited.{inherits, moved_entry}
use Rattle.som_verify_classes.proofs.Before.{both_none, none_both}
use Rattle.som_verify_classes.proofs.Conformity.{faces_first, none_or, or_none}
use Rattle.som_verify_classes.proofs.DeclaredClasses.{long_map}
use Rattle.som_compat.specs.Conditions.{Conforms, IsCounted}
use Rattle.som_verify_classes.proofs.FacesOnly.{ancestors_faces, face_only, introduced_faces, introduces_faces, is_a_faces, known_faces, names_faces, type_faces, value_faces}

faces_more : (before : List Class) (c : Class) → map face_only before ++ face_only c ∷ [] ≡ map face_only (before ++ c ∷ [])
faces_more [] c = refl
faces_more (x ∷ before) c = ap (λ z. face_only x ∷ z) (faces_more before c)

-- a rule that looks at the classes before each
each_same : (rule : List Class → Class → List RuleBreach) → ((before : List Class) (c : Class) → rule (map face_only before) (face_only c) ≡ rule before c)
    → (before cs : List Class) → each_after rule (map face_only before) (map face_only cs) ≡ each_after rule before cs
each_same rule same before [] = refl
each_same rule same before (c ∷ cs) =
    ap (λ z. rule (map face_only before) (face_only c) ++ each_after rule z (map face_only cs)) (faces_more before c)
    ∙ ap (λ z. z ++ each_after rule (map face_only (before ++ c ∷ [])) (map face_only cs)) (same before c)
    ∙ ap (λ z. rule before c ++ z) (each_same rule same (before ++ c ∷ []) cs)

-- a rule that looks at each class
all_none : (rule more : Class → List RuleBreach) → ((c : Class) → first (rule c) ≡ None → first (more (face_only c)) ≡ None)
    → (cs : List Class) → first (flat_map rule cs) ≡ None → first (flat_map more (map face_only cs)) ≡ None
all_none rule more same [] e = refl
all_none rule more same (c ∷ cs) e =
    let p = none_both (rule c) (flat_map rule cs) e in
    both_none (more (face_only c)) (flat_map more (map face_only cs)) (same c p.0) (all_none rule more same cs p.1)

s1_same : (before : List Class) (c : Class) → s1 (map face_only before) (face_only c) ≡ s1 before c
s1_same before c = ap (λ names. demand 1 c (not (among (name_of c) names))) (names_faces before)

s2_same : (before : List Class) (c : Class) → s2 (map face_only before) (face_only c) ≡ s2 before c
s2_same before c = ap (λ (known : ClassKey → Bool). demand 2 c (every known (c.decl.face.parents ++ option_list c.decl.face.metaclass))) (fun_ext (known_faces before))

module _ (cs : List Class) where
  abbrev less : List Class
  less = map face_only cs

  s4_same : (c : Class) → s4 less (face_only c) ≡ s4 cs c
  s4_same c = ap (λ (descends : ClassKey → Bool). demand 4 c (every descends (option_list c.decl.face.metaclass))) (fun_ext (λ k. is_a_faces cs k som_class))

  abbrev types_known : (ValueType → Bool) → (ValueType → Bool) → Class → Entry → List RuleBreach
  types_known known value c (entries.Introduced name sig way) = demand_of 5 c name (known sig.result && every value sig.params)
  types_known known value c (entries.Moved name to) = []

  s5_none : (c : Class) → first (s5 cs c) ≡ None → first (s5 less (face_only c)) ≡ None
  s5_none c e =
      let p = none_both (flat_map (types_known (is_known cs) (is_value_type cs) c) c.decl.face.entries) (flat_map (λ v. demand_of 5 c v.name (is_value_type cs v.kind)) c.decl.variables) e in
      ap first (append-nil (flat_map (types_known (is_known less) (is_value_type less) c) c.decl.face.entries))
      ∙ ap (λ (known : ValueType → Bool). first (flat_map (types_known known (is_value_type less) c) c.decl.face.entries)) (fun_ext (type_faces cs))
      ∙ ap (λ (value : ValueType → Bool). first (flat_map (types_known (is_known cs) value c) c.decl.face.entries)) (fun_ext (value_faces cs))
      ∙ p.0

  s8_same : (c : Class) → s8 less (face_only c) ≡ s8 cs c
  s8_same c =
      ap (λ list. map (breach 8 c) (doubles bytes_eq [] (flat_map (introduced_by less) list))) (ancestors_faces cs c.key)
      ∙ ap (λ (by : ClassKey → List (List ℕ)). map (breach 8 c) (doubles bytes_eq [] (flat_map by (ancestors cs c.key)))) (fun_ext (introduced_faces cs))

  inherits_same : (k from : ClassKey) (name : List ℕ) → inherits less k from name ≡ inherits cs k from name
  inherits_same k from name =
      ap (λ (b : Bool). (not (same_key from k) && b) && introduces less name from) (is_a_faces cs k from)
      ∙ ap (λ (b : Bool). (not (same_key from k) && is_a cs k from) && b) (introduces_faces cs name from)

  moved_same : (c : Class) (e : Entry) → moved_entry less c.key (face_only c) e ≡ moved_entry cs c.key c e
  moved_same c (entries.Introduced name sig way) = refl
  moved_same c (entries.Moved name to) = ap (demand_of 9 c name) (inherits_same c.key to name)

  s9_same : (c : Class) → s9 less (face_only c) ≡ s9 cs c
  s9_same c = ap (λ (by : Entry → List RuleBreach). flat_map by c.decl.face.entries) (fun_ext (moved_same c))

-- classes that break none of the rules S1 to S10 break none where the faces alone are left
pub faces_none : (cs : List Class) → faces_breach cs ≡ None → faces_breach (map face_only cs) ≡ None
faces_none cs e =
    let all = kernel ++ cs in
    let less = map face_only cs in
    let n = or_none (first_of_names kernel cs) (or_else (first (flat_map (s5 all) cs)) (first_of_members kernel cs)) e in
    let n1 = or_none (first (each_after s1 kernel cs)) (or_else (first (each_after s2 kernel cs)) (or_else (first (flat_map s3 cs)) (first (flat_map (s4 all) cs)))) n.0 in
    let n2 = or_none (first (each_after s2 kernel cs)) (or_else (first (flat_map s3 cs)) (first (flat_map (s4 all) cs))) n1.1 in
    let n3 = or_none (first (flat_map s3 cs)) (first (flat_map (s4 all) cs)) n2.1 in
    let n5 = or_none (first (flat_map (s5 all) cs)) (first_of_members kernel cs) n.1 in
    let n6 = or_none (first (flat_map s6 cs)) (or_else (first (flat_map s7 cs)) (or_else (first (flat_map (s8 all) cs)) (or_else (first (flat_map (s9 all) cs)) (first (flat_map (s10 all) cs))))) n5.1 in
    let n7 = or_none (first (flat_map s7 cs)) (or_else (first (flat_map (s8 all) cs)) (or_else (first (flat_map (s9 all) cs)) (first (flat_map (s10 all) cs)))) n6.1 in
    let n8 = or_none (first (flat_map (s8 all) cs)) (or_else (first (flat_map (s9 all) cs)) (first (flat_map (s10 all) cs))) n7.1 in
    let n9 = or_none (first (flat_map (s9 all) cs)) (first (flat_map (s10 all) cs)) n8.1 in
    let m1 : first (each_after s1 kernel less) ≡ None = ap first (each_same s1 s1_same kernel cs) ∙ n1.0 in
    let m2 : first (each_after s2 kernel less) ≡ None = ap first (each_same s2 s2_same kernel cs) ∙ n2.0 in
    let m3 : first (flat_map s3 less) ≡ None = all_none s3 s3 (λ c h. h) cs n3.0 in
    let m4 : first (flat_map (s4 (kernel ++ less)) less) ≡ None = all_none (s4 all) (s4 (map face_only all)) (λ c h. ap first (s4_same all c) ∙ h) cs n3.1 in
    let m5 : first (flat_map (s5 (kernel ++ less)) less) ≡ None = all_none (s5 all) (s5 (map face_only all)) (s5_none all) cs n5.0 in
    let m6 : first (flat_map s6 less) ≡ None = all_none s6 s6 (λ c h. h) cs n6.0 in
    let m7 : first (flat_map s7 less) ≡ None = all_none s7 s7 (λ c h. refl) cs n7.0 in
    let m8 : first (flat_map (s8 (kernel ++ less)) less) ≡ None = all_none (s8 all) (s8 (map face_only all)) (λ c h. ap first (s8_same all c) ∙ h) cs n8.0 in
    let m9 : first (flat_map (s9 (kernel ++ less)) less) ≡ None = all_none (s9 all) (s9 (map face_only all)) (λ c h. ap first (s9_same all c) ∙ h) cs n9.0 in
    let m10 : first (flat_map (s10 (kernel ++ less)) less) ≡ None = all_none (s10 all) (s10 (map face_only all)) (λ c h. refl) cs n9.1 in
    none_or _ _ (none_or _ _ m1 (none_or _ _ m2 (none_or _ _ m3 m4)))
    (none_or _ _ m5 (none_or _ _ m6 (none_or _ _ m7 (none_or _ _ m8 (none_or _ _ m9 m10)))))

library_faces : (ds : List ClassDecl) → map (λ f. class_in modules.Library (bare f)) (map (λ (d : ClassDecl). d.face) ds) ≡ map face_only (map (class_in modules.Library) ds)
library_faces [] = refl
library_faces (d ∷ ds) = ap (λ (l : List Class). class_in modules.Library (bare d.face) ∷ l) (library_faces ds)

-- a release that breaks no rule of its classes, and is within the counts, has an interface that may be compared
pub may_be_compared : (r : Release) → declared_breach r ≡ None → length r.classes ≤ 4096 → All (λ (d : ClassDecl). IsCounted d.face) r.classes → Conforms (interface_of r)
may_be_compared r e few counts = record {
  rules = ap faces_breach (library_faces r.classes)
      ∙ faces_none (library_classes r) (or_none (faces_breach (library_classes r)) (first (flat_map s14 (library_classes r))) (faces_first r ∙ e)).0;
  classes = subst (λ n. n ≤ 4096) (sym (long_map (λ (d : ClassDecl). d.face) r.classes)) few;
  counts = All-map IsCounted (λ (d : ClassDecl). d.face) r.classes counts;
}

-- a release that conforms, and is within the counts, has an interface that may be compared
pub interface_conforms : (r : Release) → ReleaseOk r → length r.classes ≤ 4096 → All (λ (d : ClassDecl). IsCounted d.face) r.classes → Conforms (interface_of r)
interface_conforms r ok few counts = may_be_compared r ok.rules few counts
