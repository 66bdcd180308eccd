-- The rules of lists of classes are broken under new keys by the same members.
use Rattle.std.proofs.Common.{◌≡◌, inl, inr, List, [], ◌∷◌, ◌++◌, Option, flat_map, refl, sym, ap, ◌∙◌, subst}
use Rattle.som_model.specs.Lists.{Mem, first, or_else}
use Rattle.som_model.specs.Class.{Class}
use Rattle.som_model.specs.Kernel.{kernel}
use Rattle.som_model.specs.Rules.{RuleBreach, s1, s2, s3, s4, s5, s6, s7, s8, s9, s10, s14}
use Rattle.som_model.specs.Conforming.{each_after, first_of_names, first_of_members, faces_breach, class_typed}
use Rattle.som_model.specs.Typing.{class_facts}
use Rattle.som_rekey_laws.specs.Rekeying.{ModuleChange, rekey_class, rekey_classes}
use Rattle.som_rekey_laws.specs.Apart.{Names, IsApart, KeepsKernel}
use Rattle.som_rekey_laws.proofs.Lists.{map_append}
use Rattle.som_rekey_laws.proofs.FactsKept.{facts_kept}
use Rattle.som_rekey_laws.proofs.KernelKept.{kernel_classes_stay, with_kernel}
use Rattle.som_rekey_rules.specs.NamesAlone.{IsClassNamed, AreFacesNamed, AreClassesNamed}
use Rattle.som_rekey_rules.proofs.ExpressionsRekeyed.{face_of, variable_named}
use Rattle.som_rekey_rules.proofs.ClassesNamed.{faces_of, overridden_is_named, selected_is_named, all_named, all_targets, declared_answers}
use Rattle.som_rekey_rules.proofs.ClassesTyped.{flat_same, class_typed_kept}
use Rattle.som_rekey_rules.proofs.KernelNamed.{both_faces, kernel_named, with_kernel_named}
use Rattle.som_rekey_rules.proofs.RulesRekeyed.{s1_kept, s2_kept, s3_kept, s4_kept, s5_kept, s6_kept, s7_kept, s8_kept, s9_kept, s10_kept, s14_kept}

module _ (f : ModuleChange) (names : Names) (kk : KeepsKernel f names) (apart : IsApart f names) where
  abbrev R : List Class → List Class
  R = rekey_classes f

  abbrev Named : List Class → Type 0
  Named = AreClassesNamed names

  abbrev Faced : List Class → Type 0
  Faced = AreFacesNamed names

  facing : (cs : List Class) → Named cs → Faced cs
  facing = faces_of names

  -- a rule that looks at the classes before each class
  after_kept : (rule : List Class → Class → List RuleBreach) → ((before : List Class) (c : Class) → Faced before → IsClassNamed names c → rule (R before) (rekey_class f c) ≡ rule before c)
      → (before cs : List Class) → Faced before → Named cs → each_after rule (R before) (R cs) ≡ each_after rule before cs
  after_kept rule e before [] a b = refl
  after_kept rule e before (c ∷ cs) a b =
      let more : Faced (before ++ c ∷ []) = both_faces names before (c ∷ []) a (facing (c ∷ []) (λ d m. one c d m (b c (inl refl)))) in
      ap (λ l. l ++ each_after rule (R before ++ rekey_class f c ∷ []) (R cs)) (e before c a (b c (inl refl)))
      ∙ ap (λ l. rule before c ++ each_after rule l (R cs)) (sym (map_append (rekey_class f) before (c ∷ [])))
      ∙ ap (λ l. rule before c ++ l) (after_kept rule e (before ++ c ∷ []) cs more (λ d m. b d (inr m)))
    where
      one : (x d : Class) → Mem d (x ∷ []) → IsClassNamed names x → IsClassNamed names d
      one x d (inl is) n = subst (IsClassNamed names) (sym is) n
      one x d (inr m) n = absurd m

  -- a rule that looks at a class
  each_kept : (old new : Class → List RuleBreach) (cs : List Class) → Named cs → ((c : Class) → IsClassNamed names c → new (rekey_class f c) ≡ old c) → flat_map new (R cs) ≡ flat_map old cs
  each_kept old new cs b e = flat_same old new (rekey_class f) cs (λ c m. e c (b c m))

  all_kept : (before cs : List Class) → R before ++ R cs ≡ R (before ++ cs)
  all_kept before cs = sym (map_append (rekey_class f) before cs)

  -- a rule that looks at a class among all
  among_kept : (rule : List Class → Class → List RuleBreach) → ((ds : List Class) → Faced ds → (c : Class) → IsClassNamed names c → rule (R ds) (rekey_class f c) ≡ rule ds c)
      → (before cs : List Class) → Faced before → Named cs → flat_map (rule (R before ++ R cs)) (R cs) ≡ flat_map (rule (before ++ cs)) cs
  among_kept rule e before cs a b =
      ap (λ l. flat_map (rule l) (R cs)) (all_kept before cs)
      ∙ each_kept (rule (before ++ cs)) (rule (R (before ++ cs))) cs b (e (before ++ cs) (both_faces names before cs a (facing cs b)))

  abbrev first_or : List RuleBreach → Option RuleBreach → Option RuleBreach
  first_or l o = or_else (first l) o

  names_kept : (before cs : List Class) → Faced before → Named cs → first_of_names (R before) (R cs) ≡ first_of_names before cs
  names_kept before cs a b =
      let one = after_kept s1 (λ xs c p q. s1_kept f c xs) before cs a b in
      let two = after_kept s2 (λ xs c p q. s2_kept f names apart c (face_of names c q) xs p) before cs a b in
      let three = each_kept s3 s3 cs b (λ c q. s3_kept f names apart c (face_of names c q)) in
      let four = among_kept s4 (λ ds n c q. s4_kept f names apart c (face_of names c q) kk ds n) before cs a b in
      ap (λ l. first_or l (first_or (each_after s2 (R before) (R cs)) (first_or (flat_map s3 (R cs)) (first (flat_map (s4 (R before ++ R cs)) (R cs)))))) one
      ∙ ap (λ l. first_or (each_after s1 before cs) (first_or l (first_or (flat_map s3 (R cs)) (first (flat_map (s4 (R before ++ R cs)) (R cs)))))) two
      ∙ ap (λ l. first_or (each_after s1 before cs) (first_or (each_after s2 before cs) (first_or l (first (flat_map (s4 (R before ++ R cs)) (R cs)))))) three
      ∙ ap (λ l. first_or (each_after s1 before cs) (first_or (each_after s2 before cs) (first_or (flat_map s3 cs) (first l)))) four

  members_kept : (before cs : List Class) → Faced before → Named cs → first_of_members (R before) (R cs) ≡ first_of_members before cs
  members_kept before cs a b =
      let six = each_kept s6 s6 cs b (λ c q. s6_kept f c) in
      let seven = each_kept s7 s7 cs b (λ c q. s7_kept f c) in
      let eight = among_kept s8 (λ ds n c q. s8_kept f names apart c (face_of names c q) kk ds n) before cs a b in
      let nine = among_kept s9 (λ ds n c q. s9_kept f names apart c (face_of names c q) kk ds n) before cs a b in
      let ten = among_kept s10 (λ ds n c q. s10_kept f names apart c (face_of names c q) kk ds n (overridden_is_named names c q) (selected_is_named names c q)) before cs a b in
      let n8 = flat_map (s8 (R before ++ R cs)) (R cs) in
      let n9 = flat_map (s9 (R before ++ R cs)) (R cs) in
      let n10 = first (flat_map (s10 (R before ++ R cs)) (R cs)) in
      ap (λ l. first_or l (first_or (flat_map s7 (R cs)) (first_or n8 (first_or n9 n10)))) six
      ∙ ap (λ l. first_or (flat_map s6 cs) (first_or l (first_or n8 (first_or n9 n10)))) seven
      ∙ ap (λ l. first_or (flat_map s6 cs) (first_or (flat_map s7 cs) (first_or l (first_or n9 n10)))) eight
      ∙ ap (λ l. first_or (flat_map s6 cs) (first_or (flat_map s7 cs) (first_or (flat_map (s8 (before ++ cs)) cs) (first_or l n10)))) nine
      ∙ ap (λ l. first_or (flat_map s6 cs) (first_or (flat_map s7 cs) (first_or (flat_map (s8 (before ++ cs)) cs) (first_or (flat_map (s9 (before ++ cs)) cs) (first l))))) ten

  -- ---- after the kernel's classes

  pub after_kernel_names : (cs : List Class) → Named cs → first_of_names kernel (R cs) ≡ first_of_names kernel cs
  after_kernel_names cs b = ap (λ l. first_of_names l (R cs)) (sym (kernel_classes_stay f names kk)) ∙ names_kept kernel cs (facing kernel (kernel_named f names kk)) b

  pub after_kernel_members : (cs : List Class) → Named cs → first_of_members kernel (R cs) ≡ first_of_members kernel cs
  after_kernel_members cs b = ap (λ l. first_of_members l (R cs)) (sym (kernel_classes_stay f names kk)) ∙ members_kept kernel cs (facing kernel (kernel_named f names kk)) b

  -- a rule that looks at a class among the kernel's classes and others
  kernel_among : (rule : List Class → Class → List RuleBreach) → ((ds : List Class) → Faced ds → (c : Class) → IsClassNamed names c → rule (R ds) (rekey_class f c) ≡ rule ds c)
      → (known cs : List Class) → Faced known → Named cs → flat_map (rule (kernel ++ R known)) (R cs) ≡ flat_map (rule (kernel ++ known)) cs
  kernel_among rule e known cs a b =
      ap (λ l. flat_map (rule l) (R cs)) (sym (with_kernel f names kk known))
      ∙ each_kept (rule (kernel ++ known)) (rule (R (kernel ++ known))) cs b (e (kernel ++ known) (with_kernel_named f names kk known a))

  pub types_kept : (known cs : List Class) → Faced known → Named cs → flat_map (s5 (kernel ++ R known)) (R cs) ≡ flat_map (s5 (kernel ++ known)) cs
  types_kept = kernel_among s5 (λ ds n c q. s5_kept f names apart c (face_of names c q) ds n (variable_named names c q))

  pub bodies_kept : (cs : List Class) → Named cs → flat_map s14 (R cs) ≡ flat_map s14 cs
  bodies_kept cs b = each_kept s14 s14 cs b (λ c q. s14_kept f names apart c (face_of names c q) (variable_named names c q))

  pub blocks_kept : (known cs : List Class) → Faced known → Named cs → flat_map (class_typed (kernel ++ R known)) (R cs) ≡ flat_map (class_typed (kernel ++ known)) cs
  blocks_kept = kernel_among class_typed (λ ds n c q.
      class_typed_kept f names kk apart (class_facts ds) (class_facts (R ds)) (facts_kept f names kk ds apart (all_named names ds n) (all_targets names ds n)) (declared_answers names ds n f kk apart) c q ds n)

  pub faces_kept : (cs : List Class) → Named cs → faces_breach (R cs) ≡ faces_breach cs
  faces_kept cs b =
      ap (λ o. or_else o (first_or (flat_map (s5 (kernel ++ R cs)) (R cs)) (first_of_members kernel (R cs)))) (after_kernel_names cs b)
      ∙ ap (λ l. or_else (first_of_names kernel cs) (first_or l (first_of_members kernel (R cs)))) (types_kept cs cs (facing cs b) b)
      ∙ ap (λ o. or_else (first_of_names kernel cs) (first_or (flat_map (s5 (kernel ++ cs)) cs) o)) (after_kernel_members cs b)
