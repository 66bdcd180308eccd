-- The first breach of the flat interface, with the level of its class.
use Rattle.std.proofs.Common.{◌≡◌, ℕ, inl, inr, List, [], ◌∷◌, ◌++◌, map, flat_map, Some, None, not, if◌then◌else◌, codes, refl, sym, ap, ◌∙◌, subst, append_assoc}
use Rattle.std.proofs.lemmas.List.{map-append}
use Rattle.std.specs.Option.{option_map}
use Rattle.std.specs.Prelude.{Result, Ok, Err}
use Rattle.std.specs.Str.{bytes_eq}
use Rattle.som_model.specs.declared.class.ClassDecl.{ClassDecl}
use Rattle.som_model.specs.declared.class.Entry.{Entry}
use Rattle.som_model.specs.declared.class.Entry.TheVariants as entries
use Rattle.som_model.specs.declared.key.ClassKey.{ClassKey}
use Rattle.som_model.specs.declared.program.Interface.{Interface}
use Rattle.som_model.specs.Lists.{Mem, among, doubles, first, or_else}
use Rattle.som_model.specs.Class.{Class, bare, introduced}
use Rattle.som_model.specs.Classes.{ancestors, interface_classes}
use Rattle.som_model.specs.Compatible.{release_of}
use Rattle.som_model.specs.Kernel.{kernel}
use Rattle.som_model.specs.Loads.{FacesLoad}
use Rattle.som_model.specs.Owner.{introduced_by}
use Rattle.som_model.specs.Rules.{RuleBreach, breach, name_of, s1, s8}
use Rattle.som_model.specs.Conforming.{each_after, faces_breach}
use Rattle.som_model_laws.proofs.Lists.{flat_mem, map_mem, mem_map}
use Rattle.som_model_laws.proofs.Members.{Apart, mem_split}
use Rattle.som_rekey_laws.specs.Rekeying.{rekey_class}
use Rattle.som_rekey_laws.proofs.Lists.{map_twice, or_else_map}
use Rattle.som_rekey_laws.proofs.OwnersKept.{list_introduced}
use Rattle.som_rekey_rules.proofs.ClassesTyped.{flat_same}
use Rattle.som_verify_classes.specs.Modules.{module_of}
use Rattle.som_verify_classes.specs.Told.{of_library, of_release, told}
use Rattle.som_verify_classes.proofs.PlainNames.{names_say}
use Rattle.som_verify_rules.specs.Shared.{Twice, all_introduced}
use Rattle.som_level_laws.specs.Levels.{all_levels, level_classes}
use Rattle.som_compat_levels.specs.Told.{level_of}
use Rattle.som_flat_laws.specs.Flat.{class_by_owners, entry_by_owner, flat_interface, flat_module}
use Rattle.som_flat_laws.proofs.Breaches.{apart_names, flat_exact}
use Rattle.som_flat_laws.proofs.Flattening.{flat_classes}
use Rattle.som_flat_laws.proofs.Lists.{first_mem, one_of}
use Rattle.som_flat.specs.declared.breach.FlatFault.{FlatFault}
use Rattle.som_flat.specs.declared.breach.FlatFault.TheVariants as faults
use Rattle.som_flat.specs.Breaches.{at_level, flat_breach, introduced_again, named_again}
use Rattle.som_flat.specs.Told.{IsLevelOf, TellsFlat, TellsNamed}
use Rattle.som_flat.proofs.Lists.{first_map, flat_on, map_flat, map_nothing, map_something}
use Rattle.som_flat.proofs.Once.{all_keep_s8}

abbrev second : ℕ × RuleBreach → RuleBreach
second p = p.1

no_level : (k : ℕ) (bs : List RuleBreach) → map second (map (λ (b : RuleBreach). (k, b)) bs) ≡ bs
no_level k [] = refl
no_level k (b ∷ bs) = ap (λ z. b ∷ z) (no_level k bs)

-- S1 asks for names alone
same_names : (before other : List Class) (c d : Class) → map name_of other ≡ map name_of before → name_of d ≡ name_of c → s1 before c ≡ s1 other d
same_names before other c d e f =
    ap (λ z. if not (among (name_of c) z) then [] else breach 1 c (codes "-") ∷ []) (sym e)
    ∙ ap (λ (z : List ℕ). if not (among z (map name_of other)) then [] else record { rule = 1; class = z; member = codes "-" } ∷ []) (sym f)

again_told : (R : Class → Class) → ((c : Class) → name_of (R c) ≡ name_of c) → (before other cs : List Class) → map name_of other ≡ map name_of before
    → map second (named_again before cs) ≡ each_after s1 other (map R cs)
again_told R keeps before other [] e = refl
again_told R keeps before other (c ∷ cs) e =
    map-append second (at_level c (s1 before c)) (named_again (before ++ c ∷ []) cs)
    ∙ ap (λ z. z ++ map second (named_again (before ++ c ∷ []) cs)) (no_level (level_of (module_of c)) (s1 before c) ∙ same_names before other c (R c) e (keeps c))
    ∙ ap (λ z. s1 other (R c) ++ z) (again_told R keeps (before ++ c ∷ []) (other ++ R c ∷ []) cs
    (map-append name_of other (R c ∷ []) ∙ ap (λ z. z ++ name_of (R c) ∷ []) e ∙ ap (λ z. map name_of before ++ z ∷ []) (keeps c) ∙ sym (map-append name_of before (c ∷ []))))

-- a class introduces the same names by owners and under its flat key
by_owner : (all : List Class) (k : ClassKey) (es : List Entry) → introduced (map (entry_by_owner all k) es) ≡ introduced es
by_owner all k [] = refl
by_owner all k (entries.Introduced name sig way ∷ es) = ap (λ z. name ∷ z) (by_owner all k es)
by_owner all k (entries.Moved name to ∷ es) = by_owner all k es

flat_introduced : (all cs : List Class) → all_introduced (map (λ c. rekey_class flat_module (class_by_owners all c)) cs) ≡ all_introduced cs
flat_introduced all [] = refl
flat_introduced all (c ∷ cs) =
    ap (λ z. z ++ all_introduced (map (λ c. rekey_class flat_module (class_by_owners all c)) cs))
    (list_introduced flat_module (map (entry_by_owner all c.key) c.decl.face.entries) ∙ by_owner all c.key c.decl.face.entries)
    ∙ ap (λ z. introduced c.decl.face.entries ++ z) (flat_introduced all cs)

kernel_joined : (cs : List Class) → all_introduced (kernel ++ cs) ≡ all_introduced kernel ++ all_introduced cs
kernel_joined cs = joined kernel
  where
    joined : (xs : List Class) → all_introduced (xs ++ cs) ≡ all_introduced xs ++ all_introduced cs
    joined [] = refl
    joined (x ∷ xs) = ap (λ z. introduced x.decl.face.entries ++ z) (joined xs) ∙ sym (append_assoc (introduced x.decl.face.entries) (all_introduced xs) (all_introduced cs))

module _ (is : List Interface) (f : FacesLoad (level_classes is)) where
  abbrev cs : List Class
  cs = level_classes is

  -- a class as it is by owners, under its flat key
  abbrev R : Class → Class
  R c = rekey_class flat_module (class_by_owners (kernel ++ cs) c)

  abbrev flat : List Class
  flat = interface_classes (flat_interface is)

  all_flat : flat ≡ map R cs
  all_flat = flat_classes is ∙ map_twice (rekey_class flat_module) (class_by_owners (kernel ++ cs)) cs

  names_told : map second (named_again kernel cs) ≡ each_after s1 kernel flat
  names_told = again_told R (λ c. refl) kernel kernel cs refl ∙ ap (each_after s1 kernel) (sym all_flat)

  members_told : map second (flat_map (introduced_again is) cs) ≡ flat_map (s8 (release_of (flat_interface is))) flat
  members_told =
      map_flat second (introduced_again is) cs
      ∙ flat_on (λ c. map second (introduced_again is c)) (λ c. s8 (release_of (flat_interface is)) (R c)) cs (λ c. no_level (level_of (module_of c)) (s8 (release_of (flat_interface is)) (R c)))
      ∙ sym (flat_same (λ c. s8 (release_of (flat_interface is)) (R c)) (s8 (release_of (flat_interface is))) R cs (λ c m. refl))
      ∙ ap (flat_map (s8 (release_of (flat_interface is)))) (sym all_flat)

  pub breach_told : option_map second (flat_breach is) ≡ faces_breach flat
  breach_told =
      sym (or_else_map second (first (named_again kernel cs)) (first (flat_map (introduced_again is) cs)))
      ∙ ap (λ z. or_else z (option_map second (first (flat_map (introduced_again is) cs)))) (first_map second (named_again kernel cs) ∙ ap first names_told)
      ∙ ap (or_else (first (each_after s1 kernel flat))) (first_map second (flat_map (introduced_again is) cs) ∙ ap first members_told)
      ∙ sym (flat_exact is f)

  -- where no two classes have one name
  module _ (none : first (named_again kernel cs) ≡ None) where
    no_names : first (each_after s1 kernel (map R cs)) ≡ None
    no_names = ap (λ z. first (each_after s1 kernel z)) (sym all_flat) ∙ ap first (sym names_told) ∙ sym (first_map second (named_again kernel cs)) ∙ ap (option_map second) none

    apart : Apart (map name_of cs)
    apart = apart_names cs (ap (λ z. first (each_after s1 kernel z)) (map_twice (rekey_class flat_module) (class_by_owners (kernel ++ cs)) cs) ∙ no_names)

    -- where no name is introduced twice, the flat interface breaks no rule
    pub none_once : ((n : List ℕ) → Twice n (all_introduced (kernel ++ cs)) → ⊥) → faces_breach flat ≡ None
    none_once once =
        let same : all_introduced (kernel ++ flat) ≡ all_introduced (kernel ++ cs) =
        ap (λ z. all_introduced (kernel ++ z)) all_flat ∙ kernel_joined (map R cs) ∙ ap (λ z. all_introduced kernel ++ z) (flat_introduced (kernel ++ cs) cs) ∙ sym (kernel_joined cs) in
        flat_exact is f
        ∙ ap (λ z. or_else z (first (flat_map (s8 (kernel ++ flat)) flat))) (ap (λ z. first (each_after s1 kernel z)) all_flat ∙ no_names)
        ∙ ap first (all_keep_s8 (kernel ++ flat) (λ n t. once n (subst (Twice n) same t)) flat)

    -- a class of the name is the one
    one_class : (c d : Class) → Mem c cs → Mem d (kernel ++ cs) → name_of d ≡ name_of c → d ≡ c
    one_class c d m n e = elim (mem_split d kernel cs n) [
      | inl k ↦ absurd ((names_say (map R cs) no_names).kernels d (R c) k (mem_map R c cs m) e)
      | inr h ↦ one_of name_of cs d c apart h m e
    ]

    members_left : flat_breach is ≡ first (flat_map (introduced_again is) cs)
    members_left = ap (λ z. or_else z (first (flat_map (introduced_again is) cs))) none

    -- the class whose breach is told
    teller : (p : ℕ × RuleBreach) → flat_breach is ≡ Some p → (c : Class) × Mem c cs × (p.0 ≡ level_of (module_of c)) × (p.1.class ≡ name_of c)
    teller p e =
        let m = first_mem (flat_map (introduced_again is) cs) p (sym members_left ∙ e) in
        let c = flat_mem (introduced_again is) p cs m in
        let b = map_mem (λ (b : RuleBreach). (level_of (module_of c.0), b)) p (s8 (release_of (flat_interface is)) (rekey_class flat_module c.0)) c.2 in
        let X = release_of (flat_interface is) in
        let n = map_mem (breach 8 (rekey_class flat_module c.0)) b.0 (doubles bytes_eq [] (flat_map (introduced_by X) (ancestors X (rekey_class flat_module c.0).key))) b.1 in
        (c.0, c.1, ap (λ (z : ℕ × RuleBreach). z.0) b.2, ap (λ (z : ℕ × RuleBreach). z.1.class) b.2 ∙ ap (λ (z : RuleBreach). z.class) n.2)

    pub level_told : (b : RuleBreach) (level : ℕ) → faces_breach flat ≡ Some b → (Mem b.class (map name_of (kernel ++ cs)) → IsLevelOf (kernel ++ cs) b.class level) → flat_breach is ≡ Some (level, b)
    level_told b level e find =
        let p = map_something second (flat_breach is) b (breach_told ∙ e) in
        let c = teller p.0 p.1 in
        let named : b.class ≡ name_of c.0 = ap (λ (z : RuleBreach). z.class) (sym p.2) ∙ c.3 in
        let l = find (subst (λ z. Mem z (map name_of (kernel ++ cs))) (sym named) (mem_map name_of c.0 (kernel ++ cs) (after c.0 c.1))) in
        let same : l.class ≡ c.0 = one_class c.0 l.class c.1 l.among (l.named ∙ named) in
        p.1 ∙ ap (λ (z : ℕ). Some (z, p.0.1)) (c.2 ∙ ap (λ (z : Class). level_of (module_of z)) (sym same) ∙ sym l.level_is) ∙ ap (λ (z : RuleBreach). Some (level, z)) p.2
      where
        after : (c : Class) → Mem c cs → Mem c (kernel ++ cs)
        after c m = inr (inr (inr (inr m)))

-- the classes of bare faces
pub bare_faces : (i : Interface) (ds : List ClassDecl) → ds ≡ map bare i.classes → of_release ds ≡ interface_classes i
bare_faces i ds e = ap of_release e ∙ map_twice of_library bare i.classes

pub none_broken : (is : List Interface) → FacesLoad (level_classes is) → faces_breach (interface_classes (flat_interface is)) ≡ None → flat_breach is ≡ None
none_broken is f e = map_nothing second (flat_breach is) (breach_told is f ∙ e)

-- so it is where no two classes have one name and no name is introduced twice
pub flat_once : (is : List Interface) (all : List Class) (i : Interface) → FacesLoad (level_classes is) → i ≡ flat_interface is → all ≡ all_levels is
    → first (named_again [] all) ≡ None → ((n : List ℕ) → Twice n (all_introduced all) → ⊥) → faces_breach (interface_classes i) ≡ None
flat_once is all i f e g none once =
    ap (λ z. faces_breach (interface_classes z)) e
    ∙ none_once is f (ap (λ z. first (named_again [] z)) (sym g) ∙ none) (λ n t. once n (subst (λ z. Twice n (all_introduced z)) (sym g) t))

-- what is told of the flat interface, where no two classes have one name
pub told_flat : (is : List Interface) (all : List Class) (i : Interface) (r : Result (Unit {0}) FlatFault) → FacesLoad (level_classes is) → i ≡ flat_interface is → all ≡ all_levels is
    → first (named_again [] all) ≡ None → TellsNamed all (faces_breach (interface_classes i)) r → TellsFlat (flat_breach is) r
told_flat is all i (Ok _) f e g none t = none_broken is f (ap (λ z. faces_breach (interface_classes z)) (sym e) ∙ t)
told_flat is all i (Err (faults.Rule level broken)) f e g none t =
    level_told is f (ap (λ z. first (named_again [] z)) (sym g) ∙ none) (told broken) level (ap (λ z. faces_breach (interface_classes z)) (sym e) ∙ t.0)
    (λ m. subst (λ z. IsLevelOf z broken.class level) g (t.1 (subst (λ z. Mem broken.class (map name_of z)) (sym g) m)))
told_flat is all i (Err faults.NoMemory) f e g none t = tt
