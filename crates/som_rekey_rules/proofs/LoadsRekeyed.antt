-- What can be loaded, and what was compiled, can be and was under new keys.
use Rattle.std.proofs.Common.{◌≡◌, ℕ, ◌≤◌, true, List, [], ◌++◌, length, map, sym, ap, ◌∙◌, subst}
use Rattle.som_model.specs.declared.key.ClassKey.{ClassKey}
use Rattle.som_model.specs.declared.syntax.Block.{Block}
use Rattle.som_model.specs.declared.limits.TheConstants.{MAX_LAID_CLASSES}
use Rattle.som_model.specs.Lists.{Mem}
use Rattle.som_model.specs.Ancestors.{Descends}
use Rattle.som_model.specs.Class.{Class}
use Rattle.som_model.specs.Classes.{ancestors, hierarchy}
use Rattle.som_model.specs.Conforming.{class_typed, class_typed_by, main_typed, main_typed_by}
use Rattle.som_model.specs.Counts.{ClassCounted}
use Rattle.som_model.specs.Kernel.{kernel}
use Rattle.som_model.specs.Loads.{FacesLoad, IsOrdered, Loads}
use Rattle.som_model.specs.Owner.{introduces}
use Rattle.som_model.specs.Rules.{s10, s14}
use Rattle.som_model.specs.Typing.{class_facts, running_facts}
use Rattle.som_model_laws.proofs.Laws as laws
use Rattle.som_model_laws.proofs.Standing.{falls, tells}
use Rattle.som_model_laws.proofs.Members.{mem_right}
use Rattle.som_model_laws.proofs.Lists.{map_mem}
use Rattle.som_release_laws.specs.Releasing.{AreLoadable, HaveParents, IsCompiled, Once}
use Rattle.som_rekey_laws.specs.Rekeying.{ModuleChange, rekey, rekey_block, rekey_class, rekey_classes}
use Rattle.som_rekey_laws.specs.Apart.{Names, is_named, names_of, IsApart, KeepsKernel}
use Rattle.som_rekey_laws.proofs.Lists.{map_append}
use Rattle.som_rekey_laws.proofs.Places.{ancestors_kept}
use Rattle.som_rekey_laws.proofs.OwnersKept.{introduces_kept}
use Rattle.som_rekey_laws.proofs.BodiesKept.{above_named}
use Rattle.som_rekey_laws.proofs.FactsKept.{facts_kept, running_kept}
use Rattle.som_rekey_laws.proofs.KernelKept.{with_kernel}
use Rattle.som_rekey_laws.proofs.OrderedNames.{ordered_named}
use Rattle.som_rekey_rules.specs.NamesAlone.{AreFacesNamed, IsClassNamed, AreClassesNamed, IsBlockNamed}
use Rattle.som_rekey_rules.proofs.ExpressionsRekeyed.{face_of, variable_named}
use Rattle.som_rekey_rules.proofs.ClassesNamed.{all_named, all_targets, all_metaclasses, overridden_is_named, selected_is_named, declared_answers, running_answers}
use Rattle.som_rekey_rules.proofs.ClassesTyped.{class_typed_kept, main_kept}
use Rattle.som_rekey_rules.proofs.KernelNamed.{with_kernel_named}
use Rattle.som_rekey_rules.proofs.RulesRekeyed.{as_long, s10_kept, s14_kept}
use Rattle.som_rekey_rules.proofs.FacesRekeyed.{each_rule, faces_kept, ordered_kept}
use Rattle.som_rekey_rules.proofs.CountsRekeyed.{block_same, class_counted}
use Rattle.som_rekey_rules.proofs.LoadedNames.{faces_named, variables_named, typed_named, main_named, running_same, running_known, running_signature, declared_same, declared_known, declared_signature}

-- ---- what is named

pub loadable_named : (cs : List Class) → AreLoadable cs → AreClassesNamed (names_of (kernel ++ cs)) cs
loadable_named cs l c m =
    typed_named cs l.faces (running_facts (kernel ++ cs)) (running_same cs l.faces) (running_known cs l.faces) (running_signature cs l.faces) c m (l.inherited c m) (l.bodies c m) (l.typed c m)

pub of_loads : (cs : List Class) (main : Block) → Loads cs main → AreLoadable cs
of_loads cs main l = record { faces = l.faces; inherited = l.inherited; bodies = l.bodies; typed = l.typed }

pub loads_main_named : (cs : List Class) (main : Block) → Loads cs main → IsBlockNamed (names_of (kernel ++ cs)) main
loads_main_named cs main l =
    main_named cs l.faces (running_facts (kernel ++ cs)) (running_same cs l.faces) (running_known cs l.faces) (running_signature cs l.faces) main l.main_typed

pub compiled_named : (olds own : List Class) (main : Block) → IsCompiled olds own main → AreClassesNamed (names_of (kernel ++ (olds ++ own))) own
compiled_named olds own main p c m =
    let cs = olds ++ own in
    typed_named cs p.faces (class_facts (kernel ++ cs)) (declared_same cs p.faces) (declared_known cs p.faces) (declared_signature cs p.faces) c (mem_right c olds own m) (p.inherited c m) (p.bodies c m) (p.typed c m)

pub compiled_main_named : (olds own : List Class) (main : Block) → IsCompiled olds own main → IsBlockNamed (names_of (kernel ++ (olds ++ own))) main
compiled_main_named olds own main p =
    let cs = olds ++ own in
    main_named cs p.faces (class_facts (kernel ++ cs)) (declared_same cs p.faces) (declared_known cs p.faces) (declared_signature cs p.faces) main p.main

-- ---- under new keys

module _ (f : ModuleChange) (cs : List Class) (kk : KeepsKernel f (names_of (kernel ++ cs))) (apart : IsApart f (names_of (kernel ++ cs))) where
  abbrev all : List Class
  all = kernel ++ cs

  abbrev names : Names
  names = names_of all

  abbrev later : List Class
  later = rekey_classes f cs

  after : kernel ++ later ≡ rekey_classes f all
  after = sym (with_kernel f names kk cs)

  pub is_ordered : IsOrdered cs → IsOrdered later
  is_ordered o = ordered_kept f names kk apart cs (λ c m. (ordered_named cs o).keys c (mem_right c kernel cs m)) o

  pub faces_load : FacesLoad cs → FacesLoad later
  faces_load l = faces_kept f names kk apart cs (faces_named cs l) (variables_named cs l) l

  module _ (faces : AreFacesNamed names cs) where
    all_faces : AreFacesNamed names all
    all_faces = with_kernel_named f names kk cs faces

    pub inherited_kept : (c : Class) → IsClassNamed names c → s10 (kernel ++ later) (rekey_class f c) ≡ s10 all c
    inherited_kept c is =
        ap (λ ds. s10 ds (rekey_class f c)) after
        ∙ s10_kept f names apart c (face_of names c is) kk all all_faces (overridden_is_named names c is) (selected_is_named names c is)

    pub bodies_kept : (c : Class) → IsClassNamed names c → s14 (rekey_class f c) ≡ s14 c
    bodies_kept c is = s14_kept f names apart c (face_of names c is) (variable_named names c is)

    pub running_typed : (c : Class) → IsClassNamed names c → class_typed_by (running_facts (kernel ++ later)) (kernel ++ later) (rekey_class f c) ≡ class_typed_by (running_facts all) all c
    running_typed c is =
        ap (λ ds. class_typed_by (running_facts ds) ds (rekey_class f c)) after
        ∙ class_typed_kept f names kk apart (running_facts all) (running_facts (rekey_classes f all))
        (running_kept f names kk all apart (all_named names all all_faces) (all_targets names all all_faces) (all_metaclasses names all all_faces))
        (running_answers names all all_faces f kk apart) c is all all_faces

    pub declared_typed : (c : Class) → IsClassNamed names c → class_typed (kernel ++ later) (rekey_class f c) ≡ class_typed all c
    declared_typed c is =
        ap (λ ds. class_typed ds (rekey_class f c)) after
        ∙ class_typed_kept f names kk apart (class_facts all) (class_facts (rekey_classes f all))
        (facts_kept f names kk all apart (all_named names all all_faces) (all_targets names all all_faces))
        (declared_answers names all all_faces f kk apart) c is all all_faces

    pub running_main : (main : Block) → IsBlockNamed names main → main_typed_by (running_facts (kernel ++ later)) (rekey_block f main) ≡ main_typed_by (running_facts all) main
    running_main main n =
        ap (λ ds. main_typed_by (running_facts ds) (rekey_block f main)) after
        ∙ main_kept f names kk apart (running_facts all) (running_facts (rekey_classes f all))
        (running_kept f names kk all apart (all_named names all all_faces) (all_targets names all all_faces) (all_metaclasses names all all_faces))
        (running_answers names all all_faces f kk apart) main n

    pub declared_main : (main : Block) → IsBlockNamed names main → main_typed (kernel ++ later) (rekey_block f main) ≡ main_typed all main
    declared_main main n =
        ap (λ ds. main_typed ds (rekey_block f main)) after
        ∙ main_kept f names kk apart (class_facts all) (class_facts (rekey_classes f all))
        (facts_kept f names kk all apart (all_named names all all_faces) (all_targets names all all_faces))
        (declared_answers names all all_faces f kk apart) main n

    -- an ancestor under a new key was one
    was_ancestor : IsOrdered cs → (k : ClassKey) → is_named names k ≡ true → (a : ClassKey) → Descends (hierarchy (kernel ++ later)) (rekey f k) a
        → (b : ClassKey) × Descends (hierarchy all) k b × (is_named names b ≡ true) × (a ≡ rekey f b)
    was_ancestor o k n a d =
        let new = is_ordered o in
        let there : Mem a (ancestors (kernel ++ later) (rekey f k)) = (laws.ancestors (hierarchy (kernel ++ later)) (tells later new) (falls later new) (rekey f k) a).1 d in
        let list : ancestors (kernel ++ later) (rekey f k) ≡ map (rekey f) (ancestors all k) =
        ap (λ ds. ancestors ds (rekey f k)) after ∙ ancestors_kept f names all apart (all_named names all all_faces) k n in
        let r = map_mem (rekey f) a (ancestors all k) (subst (λ z. Mem a z) list there) in
        (r.0, (laws.ancestors (hierarchy all) (tells cs o) (falls cs o) k r.0).0 r.1, above_named f names kk all apart (all_named names all all_faces) k n r.0 r.1, r.2)

    introduces_same : (name : List ℕ) (b : ClassKey) → is_named names b ≡ true → introduces (kernel ++ later) name (rekey f b) ≡ introduces all name b
    introduces_same name b n = ap (λ ds. introduces ds name (rekey f b)) after ∙ introduces_kept f names all apart (all_named names all all_faces) name b n

    pub once_kept : (own : List Class) → IsOrdered cs → ((c : Class) → Mem c own → is_named names c.key ≡ true) → Once all own → Once (kernel ++ later) (rekey_classes f own)
    once_kept own o keyed once d a b name m da db ia ib =
        let r = map_mem (rekey_class f) d own m in
        let n = keyed r.0 r.1 in
        let x = was_ancestor o r.0.key n a (subst (λ (z : Class). Descends (hierarchy (kernel ++ later)) z.key a) r.2 da) in
        let y = was_ancestor o r.0.key n b (subst (λ (z : Class). Descends (hierarchy (kernel ++ later)) z.key b) r.2 db) in
        let ix = sym (introduces_same name x.0 x.2) ∙ ap (introduces (kernel ++ later) name) (sym x.3) ∙ ia in
        let iy = sym (introduces_same name y.0 y.2) ∙ ap (introduces (kernel ++ later) name) (sym y.3) ∙ ib in
        x.3 ∙ ap (rekey f) (once r.0 x.0 y.0 name r.1 x.1 y.1 ix iy) ∙ sym y.3

  pub loadable_kept : AreLoadable cs → AreLoadable later
  loadable_kept l =
      let faces = faces_named cs l.faces in
      let named = loadable_named cs l in
      record {
        faces = faces_load l.faces;
        inherited = each_rule f names kk apart cs (s10 all) (s10 (kernel ++ later)) (λ c m. inherited_kept faces c (named c m)) l.inherited;
        bodies = each_rule f names kk apart cs s14 s14 (λ c m. bodies_kept faces c (named c m)) l.bodies;
        typed = each_rule f names kk apart cs (class_typed_by (running_facts all) all) (class_typed_by (running_facts (kernel ++ later)) (kernel ++ later)) (λ c m. running_typed faces c (named c m)) l.typed;
      }

  pub loads_kept : (main : Block) → Loads cs main → Loads later (rekey_block f main)
  loads_kept main l =
      let new = loadable_kept (of_loads cs main l) in
      record {
        few = subst (λ n. n ≤ MAX_LAID_CLASSES) (sym (as_long (rekey_class f) cs)) l.few;
        counted = λ d m. (let r = map_mem (rekey_class f) d cs m in subst (λ (z : Class). ClassCounted z.decl) (sym r.2) (class_counted f r.0.decl (l.counted r.0 r.1)));
        main_counted = block_same f main ∙ l.main_counted;
        faces = new.faces;
        inherited = new.inherited;
        bodies = new.bodies;
        typed = new.typed;
        main_typed = running_main (faces_named cs l.faces) main (loads_main_named cs main l) ∙ l.main_typed;
      }

parents_kept : (f : ModuleChange) (cs : List Class) → HaveParents cs → HaveParents (rekey_classes f cs)
parents_kept f cs h d m =
    let r = map_mem (rekey_class f) d cs m in
    subst (λ (z : Class). 1 ≤ length z.decl.face.parents) (sym r.2) (subst (λ n. 1 ≤ n) (sym (as_long (rekey f) r.0.decl.face.parents)) (h r.0 r.1))

pub compiled_kept : (f : ModuleChange) (olds own : List Class) (main : Block) → KeepsKernel f (names_of (kernel ++ (olds ++ own))) → IsApart f (names_of (kernel ++ (olds ++ own)))
    → IsCompiled olds own main → IsCompiled (rekey_classes f olds) (rekey_classes f own) (rekey_block f main)
compiled_kept f olds own main kk apart p =
    let cs = olds ++ own in
    let all = kernel ++ cs in
    let names = names_of all in
    let faces = faces_named cs p.faces in
    let named = compiled_named olds own main p in
    let both : rekey_classes f cs ≡ rekey_classes f olds ++ rekey_classes f own = map_append (rekey_class f) olds own in
    let new = kernel ++ rekey_classes f cs in
    record {
      faces = subst FacesLoad both (faces_load f cs kk apart p.faces);
      parents = subst HaveParents both (parents_kept f cs p.parents);
      once = subst (λ l. Once (kernel ++ l) (rekey_classes f own)) both (once_kept f cs kk apart faces own p.faces.ordered (λ c m. (named c m).key) p.once);
      inherited = subst (λ l. (d : Class) → Mem d (rekey_classes f own) → s10 (kernel ++ l) d ≡ []) both
          (each_rule f names kk apart own (s10 all) (s10 new) (λ c m. inherited_kept f cs kk apart faces c (named c m)) p.inherited);
      bodies = each_rule f names kk apart own s14 s14 (λ c m. bodies_kept f cs kk apart faces c (named c m)) p.bodies;
      typed = subst (λ l. (d : Class) → Mem d (rekey_classes f own) → class_typed (kernel ++ l) d ≡ []) both
          (each_rule f names kk apart own (class_typed all) (class_typed new) (λ c m. declared_typed f cs kk apart faces c (named c m)) p.typed);
      main = ap (λ l. main_typed (kernel ++ l) (rekey_block f main)) (sym both) ∙ declared_main f cs kk apart faces main (compiled_main_named olds own main p) ∙ p.main;
    }
