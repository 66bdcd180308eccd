-- What breaks a rule of the flat interface breaks S1 or S8.
use Rattle.std.proofs.Common.{◌≡◌, ◌⊎◌, ℕ, inl, inr, Bool, true, false, List, [], ◌∷◌, ◌++◌, map, flat_map, Option, Some, None, refl, sym, ap, ◌∙◌, subst}
use Rattle.std.specs.Str.{bytes_eq}
use Rattle.som_model.specs.declared.program.Interface.{Interface}
use Rattle.som_model.specs.Lists.{Mem, doubles, first, or_else}
use Rattle.som_model.specs.Class.{Class}
use Rattle.som_model.specs.Classes.{ancestors, interface_classes}
use Rattle.som_model.specs.Compatible.{release_of}
use Rattle.som_model.specs.Kernel.{kernel}
use Rattle.som_model.specs.Owner.{introduced_by}
use Rattle.som_model.specs.Rules.{RuleBreach, breach, demand, name_of, s1, s8}
use Rattle.som_model.specs.Conforming.{each_after, faces_breach}
use Rattle.som_model.specs.Loads.{FacesLoad}
use Rattle.som_model_laws.proofs.Lists.{flat_mem, map_mem}
use Rattle.som_model_laws.proofs.Members.{Apart, mem_split}
use Rattle.som_verify_classes.proofs.PlainLists.{differ_apart, s1_doubles}
use Rattle.som_verify_classes.proofs.PlainNames.{names_say}
use Rattle.som_rekey_laws.specs.Rekeying.{rekey_class, rekey_classes}
use Rattle.som_rekey_laws.specs.Apart.{Names, names_of}
use Rattle.som_rekey_laws.proofs.Lists.{map_twice}
use Rattle.som_rekey_laws.proofs.KernelKept.{with_kernel}
use Rattle.som_rekey_rules.proofs.ClassesNamed.{faces_of}
use Rattle.som_rekey_rules.proofs.ClassesTyped.{flat_same}
use Rattle.som_rekey_rules.proofs.ConformingRekeyed.{faces_kept}
use Rattle.som_rekey_rules.proofs.ExpressionsRekeyed.{face_of}
use Rattle.som_rekey_rules.proofs.KernelNamed.{with_kernel_named}
use Rattle.som_rekey_rules.proofs.RulesRekeyed.{s8_kept}
use Rattle.som_level_laws.specs.Levels.{level_classes}
use Rattle.som_flat_laws.specs.Flat.{flat_interface, flat_module, class_by_owners}
use Rattle.som_flat_laws.proofs.Flattening.{flat_classes, keeps_apart, keeps_kernel, named_by_owners}
use Rattle.som_flat_laws.proofs.Lists.{first_mem}
use Rattle.som_flat_laws.proofs.Rules.{breach_by_owners}

-- ---- the number of a breach's rule

demand_rule : (n : ℕ) (c : Class) (holds : Bool) (b : RuleBreach) → Mem b (demand n c holds) → b.rule ≡ n
demand_rule n c true b m = absurd m
demand_rule n c false b (inl e) = ap (λ (z : RuleBreach). z.rule) e
demand_rule n c false b (inr m) = absurd m

names_rule : (before cs : List Class) (b : RuleBreach) → Mem b (each_after s1 before cs) → b.rule ≡ 1
names_rule before [] b m = absurd m
names_rule before (c ∷ cs) b m = elim (mem_split b (s1 before c) (each_after s1 (before ++ c ∷ []) cs) m) [
  | inl h ↦ demand_rule 1 c _ b h
  | inr h ↦ names_rule (before ++ c ∷ []) cs b h
]

once_rule : (all cs : List Class) (b : RuleBreach) → Mem b (flat_map (s8 all) cs) → b.rule ≡ 8
once_rule all cs b m =
    let c = flat_mem (s8 all) b cs m in
    let r = map_mem (breach 8 c.0) b (doubles bytes_eq [] (flat_map (introduced_by all) (ancestors all c.0.key))) c.2 in
    ap (λ (z : RuleBreach). z.rule) r.2

either_rule : (names members : List RuleBreach) (b : RuleBreach) → ((x : RuleBreach) → Mem x names → x.rule ≡ 1) → ((x : RuleBreach) → Mem x members → x.rule ≡ 8)
    → or_else (first names) (first members) ≡ Some b → (b.rule ≡ 1) ⊎ (b.rule ≡ 8)
either_rule [] members b one eight e = inr (eight b (first_mem members b e))
either_rule (x ∷ xs) members b one eight e = inl (one b (inl (cc)))

-- what is told first is told, whatever else is asked
told_first : {A : Type 0} (o p q r : Option A) (x : A) → o ≡ Some x → or_else (or_else o p) q ≡ or_else o r
told_first None p q r x h = absurd (cc)
told_first (Some y) p q r x h = refl

-- ---- the flat interface

names_flat : (cs : List Class) → map name_of (rekey_classes flat_module (map (class_by_owners (kernel ++ cs)) cs)) ≡ map name_of cs
names_flat cs = map_twice name_of (rekey_class flat_module) (map (class_by_owners (kernel ++ cs)) cs) ∙ map_twice name_of (class_by_owners (kernel ++ cs)) cs

-- where no two classes have one name, the flat interface breaks what the levels do
pub apart_breach : (cs : List Class) → FacesLoad cs → Apart (map name_of cs) → faces_breach (rekey_classes flat_module (map (class_by_owners (kernel ++ cs)) cs)) ≡ faces_breach (map (class_by_owners (kernel ++ cs)) cs)
apart_breach cs f p = faces_kept flat_module (names_of (kernel ++ cs)) (keeps_kernel cs f.ordered) (keeps_apart cs f.ordered p) (map (class_by_owners (kernel ++ cs)) cs) (named_by_owners cs f)

-- no two classes have one name where S1 isn't broken
pub apart_names : (cs : List Class) → first (each_after s1 kernel (rekey_classes flat_module (map (class_by_owners (kernel ++ cs)) cs))) ≡ None → Apart (map name_of cs)
apart_names cs e =
    let X = rekey_classes flat_module (map (class_by_owners (kernel ++ cs)) cs) in
    subst Apart (names_flat cs) (differ_apart name_of X (names_say X e).own)

module _ (cs : List Class) (f : FacesLoad cs) where
  -- the classes by owners, and these under their flat keys
  abbrev T : List Class
  T = map (class_by_owners (kernel ++ cs)) cs

  abbrev X : List Class
  X = rekey_classes flat_module T

  abbrev names : Names
  names = names_of (kernel ++ cs)

  -- S8 is broken by the same members
  same_once : Apart (map name_of cs) → flat_map (s8 (kernel ++ X)) X ≡ flat_map (s8 (kernel ++ T)) T
  same_once p =
      let keeps = keeps_kernel cs f.ordered in
      let apart = keeps_apart cs f.ordered p in
      let named = named_by_owners cs f in
      let faces = with_kernel_named flat_module names keeps T (faces_of names T named) in
      ap (λ (z : List Class). flat_map (s8 z) X) (sym (with_kernel flat_module names keeps T))
      ∙ flat_same (s8 (kernel ++ T)) (s8 (rekey_classes flat_module (kernel ++ T))) (rekey_class flat_module) T
      (λ c m. s8_kept flat_module names apart c (face_of names c (named c m)) keeps (kernel ++ T) faces)

  same_names : first (each_after s1 kernel X) ≡ None → first (each_after s1 kernel T) ≡ None
  same_names e = (s1_doubles kernel T).1 (subst (λ z. doubles bytes_eq (map name_of kernel) z ≡ []) (map_twice name_of (rekey_class flat_module) T) ((s1_doubles kernel X).0 e))

  by_names : (o : Option RuleBreach) → first (each_after s1 kernel X) ≡ o → faces_breach X ≡ or_else (first (each_after s1 kernel X)) (first (flat_map (s8 (kernel ++ X)) X))
  by_names (Some x) h = told_first (first (each_after s1 kernel X)) _ _ (first (flat_map (s8 (kernel ++ X)) X)) x h
  by_names None h =
      let p = apart_names cs h in
      apart_breach cs f p ∙ breach_by_owners cs f
      ∙ ap (λ o. or_else o (first (flat_map (s8 (kernel ++ T)) T))) (same_names h ∙ sym h)
      ∙ ap (λ (l : List RuleBreach). or_else (first (each_after s1 kernel X)) (first l)) (sym (same_once p))

  pub exact : faces_breach X ≡ or_else (first (each_after s1 kernel X)) (first (flat_map (s8 (kernel ++ X)) X))
  exact = by_names (first (each_after s1 kernel X)) refl

-- the first breach of the flat interface is that of S1, or else that of S8
pub flat_exact : (is : List Interface) → FacesLoad (level_classes is) → faces_breach (interface_classes (flat_interface is))
    ≡ or_else (first (each_after s1 kernel (interface_classes (flat_interface is)))) (first (flat_map (s8 (release_of (flat_interface is))) (interface_classes (flat_interface is))))
flat_exact is f =
    subst (λ (X : List Class). faces_breach X ≡ or_else (first (each_after s1 kernel X)) (first (flat_map (s8 (kernel ++ X)) X))) (sym (flat_classes is)) (exact (level_classes is) f)

pub flat_breach : (is : List Interface) → FacesLoad (level_classes is) → (b : RuleBreach) → faces_breach (interface_classes (flat_interface is)) ≡ Some b → (b.rule ≡ 1) ⊎ (b.rule ≡ 8)
flat_breach is f b e =
    let X = interface_classes (flat_interface is) in
    either_rule (each_after s1 kernel X) (flat_map (s8 (kernel ++ X)) X) b (names_rule kernel X) (once_rule (kernel ++ X) X) (sym (flat_exact is f) ∙ e)
