-- Each class for which texts stand is what its interface says.
use Rattle.std.proofs.Common.{◌≡◌, ℕ, inl, inr, Bool, true, false, if◌then◌else◌, List, [], ◌∷◌, ◌++◌, map, Some, None, Ok, refl, sym, ap, ◌∙◌, subst}
use Rattle.std.specs.Prelude.{codes, slice_get}
use Rattle.som_model.specs.declared.class.ClassDecl.{ClassDecl}
use Rattle.som_model.specs.declared.class.ClassFace.{ClassFace}
use Rattle.som_model.specs.declared.class.Override.{Override}
use Rattle.som_model.specs.declared.class.Select.{Select}
use Rattle.som_model.specs.declared.class.Sig.{Sig}
use Rattle.som_model.specs.declared.class.Way.{Way}
use Rattle.som_model.specs.declared.key.ClassKey.{ClassKey}
use Rattle.som_model.specs.declared.key.ClassKey.TheVariants as keys
use Rattle.som_model.specs.declared.key.MethodRef.{MethodRef}
use Rattle.som_model.specs.declared.key.Module.{Module}
use Rattle.som_model.specs.declared.key.Module.TheVariants as modules
use Rattle.som_model.specs.declared.program.ClientProgram.{ClientProgram}
use Rattle.som_model.specs.declared.program.Interface.{Interface}
use Rattle.som_model.specs.declared.program.Release.{Release}
use Rattle.som_model.specs.Class.{Class, bare, class_in, introduced}
use Rattle.som_model.specs.Classes.{hierarchy, interface_classes}
use Rattle.som_model.specs.Kernel.{kernel, kernel_interface, object_face, som_object}
use Rattle.som_model.specs.Lists.{Mem, among}
use Rattle.som_model.specs.Owner.{introduces}
use Rattle.som_model.specs.Resolution.{byname}
use Rattle.som_model_laws.proofs.Laws.{among_mem}
use Rattle.som_model_laws.proofs.Members.{Apart, mem_left, mem_right, not_true}
use Rattle.som_ast.specs.declared.body.BlockText.{BlockText}
use Rattle.som_ast.specs.declared.body.BodyText.{BodyText}
use Rattle.som_ast.specs.declared.interface.IdlInterface.{IdlInterface}
use Rattle.som_verify_classes.specs.Faces.{faces_breach}
use Rattle.som_verify_classes.specs.Places.{with_kernel}
use Rattle.som_verify_classes.specs.Plainly.{Differ, NamesApart}
use Rattle.som_verify_classes.proofs.FacesOnly.{face_only}
use Rattle.som_verify_classes.proofs.PlainLists.{differ_apart, map_mem, mem_map}
use Rattle.som_sema_scope.specs.ClassNames.{face_names, kernel_names, key_of}
use Rattle.som_sema_scope.specs.Words.{interface_names, once}
use Rattle.som_sema_drafts.specs.Drafts.{InterfaceDraft, draft_classes, draft_of}
use Rattle.som_sema_drafts.specs.Drafts.{introduces as own_entries}
use Rattle.som_sema_drafts.specs.Items.{Chosen, chosen, given, is_override, is_select, item_words, listed, overridden, with_modifier}
use Rattle.som_sema_decls.specs.Finished.{introducer}
use Rattle.som_sema_decls.specs.Known.{after_base}
use Rattle.som_sema.specs.Building.{declarations, module_over, texts_breach}
use Rattle.som_sema.specs.PlainTexts.{ModifiersStand}
use Rattle.som_sema.proofs.TextInherited.{from_inherited}
use Rattle.som_sema.proofs.TextLaws.{items_law, map_same, mem_of_once, modifiers_law, names_law, says_once}
use Rattle.som_elab.specs.Elaboration.{among_over, classes_over, drafts_over, elaborated_program, elaborated_release, nothing_before}
use Rattle.som_elab.proofs.Apart.{program_apart, release_apart}
use Rattle.som_elab.proofs.Conforms.{declarations_hold}
use Rattle.som_elab.proofs.Declared.{draft_classes_are, drafts_are, own}
use Rattle.som_elab_laws.specs.Keeping.{interfaces_over, known_classes, own_classes}
use Rattle.som_elab_laws.specs.Bodies.{no_override, no_select, one_override, one_select}
use Rattle.som_elab_laws.specs.Bodies.{OverridesSay as OverridesAre, SelectsSay as SelectsAre}
use Rattle.som_elab_laws.specs.Named.{HasMethod}
use Rattle.som_elab_laws.specs.Modules.{ClassSays, no_class, one_class}
use Rattle.som_elab_laws.specs.Modules.{ClassesSay as ClassesAre}
use Rattle.som_elab_laws.proofs.KeepingLaws.{keeping_law, none_broken}
use Rattle.som_elab_laws.proofs.MethodLaws.{has_method}
use Rattle.som_elab_laws.proofs.ModuleLaws.{program_says, release_says}
use Rattle.som_sema_laws.specs.Faces.{DeclaredNames, FaceSays, VariablesSay, class_of}
use Rattle.som_sema_laws.specs.Modules.{InterfacesSay, InterfacesSayOver}
use Rattle.som_sema_laws.specs.Replacing.{ClassesSay, InterfaceSays, IsInherited}
use Rattle.som_sema_laws.specs.Replacing.{no_class as all_said, one_class as one_said}
use Rattle.som_sema_laws.proofs.Declaring.{declared_names, one_order}
use Rattle.som_sema_laws.proofs.Facing.{Stands, face_says, variables_say}
use Rattle.som_sema_laws.proofs.ItemLaws.{Inherited, IsTaken, Methods, Selects, no_method, none_chosen, one_chosen, one_method, overrides_say, selects_say}
use Rattle.som_sema_laws.proofs.SameFaces.{byname_other, face_other}

stand_apart : (xs : List (List ℕ)) → Differ (λ (x : List ℕ). x) xs → Apart xs
stand_apart xs e = subst Apart (map_same xs) (differ_apart (λ (x : List ℕ). x) xs e)

module _ (m : Module) (base : Interface) (is : List IdlInterface) where
  abbrev module_of : List ℕ → Module
  module_of = module_over m base is

  abbrev known : List Class
  known = with_kernel (known_classes m base is)

  -- an interface's own name stands for its class
  own_module : (i : IdlInterface) → Mem i is → module_of i.name.text ≡ m
  own_module i n =
      let there : Mem i.name.text (interface_names is) = mem_map (λ (x : IdlInterface). x.name.text) i is n in
      let found : among i.name.text (once (interface_names is)) ≡ true = (among_mem i.name.text (once (interface_names is))).1 (says_once i.name.text [] (interface_names is) there) in
      ap (λ (b : Bool). if b then m else (if among i.name.text (once (face_names base.classes)) then modules.Library else (if among i.name.text kernel_names then modules.Kernel else m))) found

  own_key : (i : IdlInterface) → Mem i is → class_of module_of i.name ≡ keys.Named m i.name.text
  own_key i n = ap (λ (z : Module). keys.Named z i.name.text) (own_module i n)

  module _ (conforms : faces_breach (interface_classes base) ≡ None) (rules : texts_breach m base is ≡ None) (i : IdlInterface) (there : Mem i is) where
    abbrev draft : InterfaceDraft
    draft = draft_of module_of i

    draft_there : Mem draft (interfaces_over m base is)
    draft_there = mem_map (draft_of module_of) i is there

    once_said : Apart (item_words i.items)
    once_said = stand_apart (item_words i.items) (((items_law (interfaces_over m base is)).0 (none_broken m base is rules).twelve).by draft draft_there)

    moved_so : (name : List ℕ) → Mem name (listed i.items) → (Mem name (introduced (own_entries module_of i)) → ⊥)
        → byname (hierarchy (classes_over m base is)) (introduces (classes_over m base is) name) (class_of module_of i.name) ≡ Some (introducer known (keys.Named m i.name.text) name)
    moved_so name n f =
        let k = keys.Named m i.name.text in
        let r = ((keeping_law m base is conforms).0 rules).orders.by draft name draft_there n f in
        let h = has_method m base is (declarations_hold m base is conforms rules).classes rules i there name (from_inherited known k name r.0 r.1) in
        subst (λ (z : ClassKey). byname (hierarchy (classes_over m base is)) (introduces (classes_over m base is) name) z ≡ Some (introducer known k name)) (sym (own_key i there)) h.2.first

    -- the name SOMObject stands for the kernel's class, since no other class has it
    abbrev object_name : List ℕ
    object_name = codes "SOMObject"

    all_apart : NamesApart (known_classes m base is)
    all_apart = ((keeping_law m base is conforms).0 rules).names

    abbrev object_class : Class
    object_class = class_in modules.Kernel (bare object_face)

    not_own : among object_name (once (interface_names is)) ≡ false
    not_own = not_true (among object_name (once (interface_names is))) (λ t.
        (let r = map_mem (λ (x : IdlInterface). x.name.text) object_name is (mem_of_once object_name (interface_names is) t) in
        let x = draft_of module_of r.0 in
        let n = mem_map (class_in m) x.class (draft_classes (interfaces_over m base is)) (mem_map (λ (z : InterfaceDraft). z.class) x (interfaces_over m base is) (mem_map (draft_of module_of) r.0 is r.1)) in
        all_apart.kernels object_class (class_in m x.class) (inl refl) (mem_right (class_in m x.class) (interface_classes base) (own_classes m base is) n) r.2))

    not_base : among object_name (once (face_names base.classes)) ≡ false
    not_base = not_true (among object_name (once (face_names base.classes))) (λ t.
        (let r = map_mem (λ (x : ClassFace). x.name) object_name base.classes (mem_of_once object_name (face_names base.classes) t) in
        let x = class_in modules.Library (bare r.0) in
        let n = mem_map (λ (f : ClassFace). class_in modules.Library (bare f)) r.0 base.classes r.1 in
        all_apart.kernels object_class x (inl refl) (mem_left x (interface_classes base) (own_classes m base is) n) r.2))

    in_kernel : among object_name kernel_names ≡ true
    in_kernel = (among_mem object_name kernel_names).1 (says_once object_name [] (face_names kernel_interface.classes) (inl refl))

    object_module : module_of object_name ≡ modules.Kernel
    object_module =
        ap (λ (b : Bool). if b then m else (if among object_name (once (face_names base.classes)) then modules.Library else (if among object_name kernel_names then modules.Kernel else m))) not_own
        ∙ ap (λ (b : Bool). if b then modules.Library else (if among object_name kernel_names then modules.Kernel else m)) not_base
        ∙ ap (λ (b : Bool). if b then modules.Kernel else m) in_kernel

    object_so : key_of module_of object_name ≡ som_object
    object_so = ap (λ (z : Module). keys.Named z object_name) object_module

    stands : Stands module_of (classes_over m base is) known (keys.Named m i.name.text) i
    stands = record { object = object_so; once = once_said; moved = moved_so }

    -- its face
    pub own_face : FaceSays module_of (classes_over m base is) i (own m base is i).class.face
    own_face = face_says module_of (classes_over m base is) known (keys.Named m i.name.text) i stands

    pub own_variables : VariablesSay module_of i (own m base is i).class.variables
    own_variables = variables_say module_of i

-- interfaces that break no rule declare no name twice
pub names_differ : (m : Module) (base : Interface) (is : List IdlInterface) (i : IdlInterface) (names : List (List ℕ)) → texts_breach m base is ≡ None → Mem i is → DeclaredNames (i.before ++ i.after) names
    → Differ (λ (name : List ℕ). name) names
names_differ m base is i names rules there said =
    let ds = interfaces_over m base is in
    let d = draft_of (module_over m base is) i in
    subst (Differ (λ (name : List ℕ). name)) (one_order (i.before ++ i.after) (introduced (own_entries (module_over m base is) i)) names (declared_names (module_over m base is) i) said)
    (((names_law ds).0 (none_broken m base is rules).six).introduced d (mem_map (draft_of (module_over m base is)) i is there))

-- ---- the classes for which the texts stand have the faces that are declared

front_same : {A B : Type 0} (f : A → B) (xs ys zs : List A) → map f ys ≡ map f zs → map f (xs ++ ys) ≡ map f (xs ++ zs)
front_same f [] ys zs e = e
front_same f (x ∷ xs) ys zs e = ap (λ z. f x ∷ z) (front_same f xs ys zs e)

abbrev faced : Module → ClassFace → Class
faced m f = record { key = keys.Named m f.name; decl = bare f }

module _ (m : Module) (base : Interface) (is : List IdlInterface) (bs : List BodyText) where
  faces_same : (ds : List InterfaceDraft) (cs : List ClassDecl) → ClassesAre (among_over m base is) m bs ds cs → map face_only (map (class_in m) (draft_classes ds)) ≡ map face_only (map (class_in m) cs)
  faces_same ds cs no_class = refl
  faces_same ds cs (one_class {d = d} {ds = rest} {c = c} {cs = more} s p) =
      ap (λ (f : ClassFace). faced m f ∷ map face_only (map (class_in m) (draft_classes rest))) (sym s.face)
      ∙ ap (λ z. faced m c.face ∷ z) (faces_same rest more p)

  module _ (cs : List ClassDecl) (said : ClassesAre (among_over m base is) m bs (drafts_over m base is) cs) where
    abbrev finished : List Class
    finished = with_kernel (after_base m (interface_classes base) cs)

    all_same : map face_only (classes_over m base is) ≡ map face_only finished
    all_same =
        let declared = map (class_in m) (declarations m base is) in
        let made = map (class_in m) cs in
        let own_same : map face_only declared ≡ map face_only made =
        subst (λ (z : List ClassDecl). map face_only (map (class_in m) z) ≡ map face_only made) (draft_classes_are m base is) (faces_same (drafts_over m base is) cs said) in
        front_same face_only kernel (interface_classes base ++ declared) (interface_classes base ++ made) (front_same face_only (interface_classes base) declared made own_same)

    module _ (conforms : faces_breach (interface_classes base) ≡ None) (rules : texts_breach m base is ≡ None) (i : IdlInterface) (there : Mem i is) where
      abbrev scope : List ℕ → Module
      scope = module_over m base is

      inherited : (name : List ℕ) (method : MethodRef) (sig : Sig) (way : Way) → HasMethod (classes_over m base is) (keys.Named m i.name.text) name method sig way → IsInherited scope finished i name method
      inherited name method sig way h = record {
        named = h.named;
        first =
            sym (byname_other (classes_over m base is) finished all_same name (class_of scope i.name))
            ∙ subst (λ (k : ClassKey). byname (hierarchy (classes_over m base is)) (introduces (classes_over m base is) name) k ≡ Some method.class) (sym (own_key m base is i there)) h.first;
      }

      abbrev here : Class
      here = class_in m (own m base is i).class

      methods_say : (ns : List (List ℕ)) (os : List Override) → OverridesAre (among_over m base is) bs here ns os → Methods (Inherited scope finished i) ns os
      methods_say ns os no_override = no_method
      methods_say ns os (one_override {name = name} {o = o} {names = rest} {os = more} s p) = one_method (inherited name o.method s.sig s.way s.method) (methods_say rest more p)

      chosen_say : (parents : List ClassKey) → here.decl.face.parents ≡ parents → (ss : List Chosen) (all : List Select) → SelectsAre (among_over m base is) here ss all → Selects (IsTaken scope finished i parents) ss all
      chosen_say parents e ss all no_select = none_chosen
      chosen_say parents e ss all (one_select {s = s} {made = made} {ss = rest} {all = more} t p) =
          one_chosen (record {
            method = inherited s.method made.method t.sig t.way t.method;
            parent = subst (λ (z : List ClassKey). slice_get z made.parent ≡ Some (key_of scope s.parent)) e t.parent;
          }) (chosen_say parents e rest more p)

      modifiers_stand : ModifiersStand (interfaces_over m base is)
      modifiers_stand = (modifiers_law (interfaces_over m base is)).0 (none_broken m base is rules).eleven

      interface_says : (c : ClassDecl) → ClassSays (among_over m base is) m bs (own m base is i) c → InterfaceSays scope finished i c
      interface_says c s =
          let d = draft_of scope i in
          let n = draft_there m base is conforms rules i there in
          record {
            face = subst (FaceSays scope finished i) (sym s.face) (face_other scope (classes_over m base is) finished all_same i (own m base is i).class.face (own_face m base is conforms rules i there));
            variables = subst (VariablesSay scope i) (sym s.variables) (own_variables m base is conforms rules i there);
            overrides = overrides_say scope finished i c.overrides (stand_apart (with_modifier is_override (given i.items)) (modifiers_stand.overridden d n)) (methods_say (overridden i.items) c.overrides s.overrides);
            selects = selects_say scope finished i c.face.parents c.selects (stand_apart (with_modifier is_select (given i.items)) (modifiers_stand.selecting d n))
                (chosen_say c.face.parents (sym (ap (λ (f : ClassFace). f.parents) s.face)) (chosen i.items) c.selects s.selects);
          }

    each_says : faces_breach (interface_classes base) ≡ None → texts_breach m base is ≡ None → (ks : List IdlInterface) → ((i : IdlInterface) → Mem i ks → Mem i is) → (ds : List ClassDecl)
        → ClassesAre (among_over m base is) m bs (map (own m base is) ks) ds → ClassesSay (module_over m base is) finished ks ds
    each_says conforms rules [] part [] s = all_said
    each_says conforms rules [] part (d ∷ ds) s = elim s [ ]
    each_says conforms rules (i ∷ ks) part [] s = elim s [ ]
    each_says conforms rules (i ∷ ks) part (d ∷ ds) (one_class s p) =
        one_said (interface_says conforms rules i (part i (inl refl)) d s) (each_says conforms rules ks (λ k n. part k (inr n)) ds p)

    pub classes_say : faces_breach (interface_classes base) ≡ None → texts_breach m base is ≡ None → ClassesSay (module_over m base is) finished is cs
    classes_say conforms rules = each_says conforms rules is (λ i n. n) cs (subst (λ (ds : List InterfaceDraft). ClassesAre (among_over m base is) m bs ds cs) (drafts_are m base is) said)

-- ---- releases and client programs

pub release_declares : (is : List IdlInterface) (bs : List BodyText) (r : Release) → elaborated_release is bs ≡ Ok r → InterfacesSay is r
release_declares is bs r h = classes_say modules.Library nothing_before is bs r.classes (release_says is bs r h) refl (release_apart is bs r h).faces

pub program_declares : (base : Interface) (is : List IdlInterface) (bs : List BodyText) (main : BlockText) (p : ClientProgram) → faces_breach (interface_classes base) ≡ None → elaborated_program base is bs main ≡ Ok p
    → InterfacesSayOver base is p
program_declares base is bs main p conforms h =
    classes_say modules.Client base is bs p.classes (program_says base is bs main p conforms h).classes conforms (program_apart base is bs main p h).classes.faces
