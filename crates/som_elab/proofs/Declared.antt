-- The classes that texts declare, each beside its text, and what each introduces.
use Rattle.std.proofs.Common.{◌≡◌, ℕ, inl, inr, Bool, true, false, if◌then◌else◌, List, [], ◌∷◌, ◌++◌, length, map, flat_map, Option, Some, None, option_map, refl, sym, ap, ◌∙◌, subst, true≢false}
use Rattle.std.specs.Str.{bytes_eq}
use Rattle.som_model.specs.declared.key.ClassKey.{ClassKey}
use Rattle.som_model.specs.declared.key.Module.{Module}
use Rattle.som_model.specs.declared.class.Sig.{Sig}
use Rattle.som_model.specs.declared.class.Way.{Way}
use Rattle.som_model.specs.declared.class.Entry.{Entry}
use Rattle.som_model.specs.declared.class.Entry.TheVariants as entries
use Rattle.som_model.specs.declared.class.Variable.{Variable}
use Rattle.som_model.specs.declared.class.Body.{Body}
use Rattle.som_model.specs.declared.class.ClassDecl.{ClassDecl}
use Rattle.som_model.specs.declared.program.Interface.{Interface}
use Rattle.som_model.specs.Lists.{Mem, among, find, first, or_else}
use Rattle.som_model.specs.Class.{Class, class_in, entry_name, entry_of, introduced}
use Rattle.som_model.specs.Classes.{interface_classes}
use Rattle.som_model.specs.Conforming.{each_after}
use Rattle.som_model.specs.Rules.{s1, s3, s5, s7}
use Rattle.som_model.proofs.KeyLaws.{exact_bytes}
use Rattle.som_model_laws.proofs.Members.{Apart, find_first, find_none, mem_left, mem_right, mem_some, mem_split}
use Rattle.som_model_laws.proofs.Lists.{flat_mem, mem_flat}
use Rattle.som_ast.specs.declared.words.Word.{Word}
use Rattle.som_ast.specs.declared.words.TypeName.{TypeName}
use Rattle.som_ast.specs.declared.interface.IdlInterface.{IdlInterface}
use Rattle.som_ast.specs.declared.interface.Export.{Export}
use Rattle.som_ast.specs.declared.interface.Export.TheVariants as exports
use Rattle.som_verify_classes.specs.Places.{with_kernel}
use Rattle.som_verify_classes.specs.Plainly.{Fits}
use Rattle.som_verify_classes.proofs.Conformity.{or_none}
use Rattle.som_verify_classes.proofs.PlainLists.{differ_apart, map_mem, mem_map}
use Rattle.som_verify_classes.proofs.PlainMembers.{variables_say}
use Rattle.som_elab_methods.specs.Accessors.{Access, accessor_body, accessors_of, attribute_accessors, body_of, export_accessors}
use Rattle.som_sema_decls.specs.Known.{after_base}
use Rattle.som_sema.specs.Building.{declarations, declared_all, draft_breach, finished_breach, members_breach, module_over, named_breach, texts_breach}
use Rattle.som_sema_decls.specs.Finished.{declare, entry_for, entry_or_moved, introducer}
use Rattle.som_sema_scope.specs.ClassNames.{key_of, type_of}
use Rattle.std.proofs.lemmas.List.{length-map}
use Rattle.som_sema_drafts.specs.Items.{by_name, or_object}
use Rattle.som_sema_drafts.specs.Drafts.{InterfaceDraft, accessors, draft_of, export_entries, getter, introduces, setter, draft_class, draft_classes, variables}
use Rattle.som_sema_local.specs.OwnRules.{text_s6}
use Rattle.som_sema.specs.TextRules.{text_s2_from, text_s4}
use Rattle.som_sema.proofs.TextLaws.{map_same, names_law}
use Rattle.som_elab.specs.Contexts.{ParentsCounted}
use Rattle.som_elab.specs.Elaboration.{drafts_of_classes, drafts_over}
use Rattle.som_elab_methods.specs.Bodies.{operation_name, operations}
use Rattle.som_elab_methods.proofs.Fitting.{accessed, accessor_fits, both_flat}

-- ---- the one of a name

pub find_own : {A : Type 0} (key : A → List ℕ) (test : A → Bool) (xs : List A) (x : A) → Apart (map key xs) → Mem x xs → test x ≡ true → ((y : A) → test y ≡ true → key y ≡ key x) → find test xs ≡ Some x
find_own key test [] x apart m passes only = absurd m
find_own key test (y ∷ xs) x apart m passes only = by (test y) refl m (λ n. find_own key test xs x apart.1 n passes only)
  where
    by : (b : Bool) → test y ≡ b → Mem x (y ∷ xs) → (Mem x xs → find test xs ≡ Some x) → (if b then Some y else find test xs) ≡ Some x
    by true e (inl is) further = ap Some (sym is)
    by true e (inr n) further = absurd (apart.0 (subst (λ z. Mem z (map key xs)) (sym (only y e)) (mem_map key x xs n)))
    by false e (inl is) further = absurd (true≢false (sym passes ∙ ap test is ∙ e))
    by false e (inr n) further = further n

pub find_mem : {A : Type 0} (test : A → Bool) (xs : List A) (a : A) → find test xs ≡ Some a → Mem a xs
find_mem test xs a e = let r = find_first test xs a e in subst (λ z. Mem a z) (sym r.parts) (mem_right a r.before (a ∷ r.after) (inl refl))

-- ---- an entry that is introduced is one that the interface declares

own_by : (es : List Entry) (to : ClassKey) (listed name : List ℕ) (sig : Sig) (way : Way) (o : Option Entry) → entry_of es listed ≡ o → entries.Introduced name sig way ≡ entry_or_moved to listed o → Mem (entries.Introduced name sig way) es
own_by es to listed name sig way None e f = absurd (cc)
own_by es to listed name sig way (Some x) e f = subst (λ (z : Entry). Mem z es) (sym f) (find_mem _ es x e)

own_entry : (cs : List Class) (k : ClassKey) (es : List Entry) (order : List (List ℕ)) (name : List ℕ) (sig : Sig) (way : Way)
    → Mem (entries.Introduced name sig way) (map (entry_for cs k es) order) → Mem (entries.Introduced name sig way) es
own_entry cs k es order name sig way m =
    let r = map_mem (entry_for cs k es) (entries.Introduced name sig way) order m in
    own_by es (introducer cs k r.0) r.0 name sig way (entry_of es r.0) refl r.2

-- ---- a method that is introduced is an operation or an accessor

pub data Source (i : IdlInterface) (name : List ℕ) : Type 0 where
  an_operation : among name (operations i) ≡ true → Source i name
  an_accessor : (a : Access) → Mem a (accessors_of i) → a.name ≡ name → Source i name

module _ (module_of : List ℕ → Module) (i : IdlInterface) (name : List ℕ) (sig : Sig) (way : Way) where
  attribute_source : (readonly : Bool) (kind : TypeName) (names : List Word) (w : Word) → Mem (exports.Attribute readonly kind names) (i.before ++ i.after) → Mem w names
      → Mem (entries.Introduced name sig way) (accessors (by_name i.items) readonly (type_of module_of kind) w.text) → Source i name
  attribute_source readonly kind names w x n (inl e) =
      let a : Access = record { name = getter w.text; attribute = w.text; sets = false } in
      an_accessor a
      (both_flat export_accessors a (exports.Attribute readonly kind names) i.before i.after x (mem_flat (λ (w : Word). attribute_accessors readonly w.text) a w names n (inl refl)))
      (sym (ap entry_name e))
  attribute_source true kind names w x n (inr k) = absurd k
  attribute_source false kind names w x n (inr (inl e)) =
      let a : Access = record { name = setter w.text; attribute = w.text; sets = true } in
      an_accessor a
      (both_flat export_accessors a (exports.Attribute false kind names) i.before i.after x (mem_flat (λ (w : Word). attribute_accessors false w.text) a w names n (inr (inl refl))))
      (sym (ap entry_name e))
  attribute_source false kind names w x n (inr (inr k)) = absurd k

  export_source : (x : Export) → Mem x (i.before ++ i.after) → Mem (entries.Introduced name sig way) (export_entries module_of (by_name i.items) x) → Source i name
  export_source (exports.Attribute readonly kind names) m n =
      let r = flat_mem (λ (w : Word). accessors (by_name i.items) readonly (type_of module_of kind) w.text) (entries.Introduced name sig way) names n in
      attribute_source readonly kind names r.0 m r.1 r.2
  export_source (exports.Operation result w params) m (inl e) =
      an_operation (mem_some (bytes_eq name) name (operations i)
      (both_flat operation_name name (exports.Operation result w params) i.before i.after m (inl (ap entry_name e))) (exact_bytes.one name))
  export_source (exports.Operation result w params) m (inr k) = absurd k

  pub source : Mem (entries.Introduced name sig way) (introduces module_of i) → Source i name
  source m =
      let f = export_entries module_of (by_name i.items) in
      elim (mem_split (entries.Introduced name sig way) (flat_map f i.before) (flat_map f i.after) m) [
        | inl n ↦ (let r = flat_mem f (entries.Introduced name sig way) i.before n in export_source r.0 (mem_left r.0 i.before i.after r.1) r.2)
        | inr n ↦ (let r = flat_mem f (entries.Introduced name sig way) i.after n in export_source r.0 (mem_right r.0 i.before i.after r.1) r.2)
      ]

-- ---- each interface with its declaration, one by one

drafts_of_classes_map : (f : InterfaceDraft → ClassDecl) (g : IdlInterface → InterfaceDraft) (is : List IdlInterface) → drafts_of_classes is (map f (map g is)) ≡ map (λ i. record { text = i; class = f (g i) }) is
drafts_of_classes_map f g [] = refl
drafts_of_classes_map f g (i ∷ is) = ap (λ z. record { text = i; class = f (g i) } ∷ z) (drafts_of_classes_map f g is)

classes_of_drafts : (f : InterfaceDraft → ClassDecl) (g : IdlInterface → InterfaceDraft) (is : List IdlInterface) → draft_classes (drafts_of_classes is (map f (map g is))) ≡ map f (map g is)
classes_of_drafts f g [] = refl
classes_of_drafts f g (i ∷ is) = ap (λ z. f (g i) ∷ z) (classes_of_drafts f g is)

module _ (m : Module) (base : Interface) (is : List IdlInterface) where
  abbrev pub text_module_of : List ℕ → Module
  text_module_of = module_over m base is

  abbrev text_drafts : List InterfaceDraft
  text_drafts = map (draft_of text_module_of) is

  abbrev texts_known : List Class
  texts_known = with_kernel (after_base m (interface_classes base) (draft_classes text_drafts))

  -- an interface with its declaration
  abbrev pub own : IdlInterface → InterfaceDraft
  own i = record { text = i; class = declare texts_known m (draft_of text_module_of i) }

  pub drafts_are : drafts_over m base is ≡ map own is
  drafts_are = drafts_of_classes_map (declare texts_known m) (draft_of text_module_of) is

  pub draft_classes_are : draft_classes (drafts_over m base is) ≡ declarations m base is
  draft_classes_are = classes_of_drafts (declare texts_known m) (draft_of text_module_of) is

  -- the rules S6 and S7 among those that hold
  module _ (holds : texts_breach m base is ≡ None) where
    names_and_variables : (first (flat_map text_s6 text_drafts) ≡ None) × (first (flat_map s7 (map (class_in m) (draft_classes text_drafts))) ≡ None)
    names_and_variables =
        let before = interface_classes base in
        let known = after_base m before (draft_classes text_drafts) in
        let drafted = map (class_in m) (draft_classes text_drafts) in
        let seven = first (flat_map s7 drafted) in
        let six = first (flat_map text_s6 text_drafts) in
        let five = first (flat_map (s5 (with_kernel known)) drafted) in
        let four = first (flat_map (text_s4 text_module_of (with_kernel known)) text_drafts) in
        let members = members_breach text_module_of known drafted text_drafts in
        let three = first (flat_map s3 drafted) in
        let two = first (text_s2_from text_module_of (with_kernel known) (length (with_kernel before)) text_drafts) in
        let one = first (each_after s1 (with_kernel before) drafted) in
        let p = or_none (draft_breach text_module_of known before drafted text_drafts) (finished_breach text_module_of m before text_drafts (declared_all m before text_drafts)) holds in
        let q = or_none one (named_breach text_module_of known before drafted text_drafts) p.0 in
        let r = or_none two (or_else three members) q.1 in
        let s = or_none three members r.1 in
        let t = or_none four (or_else five (or_else six seven)) s.1 in
        let u = or_none five (or_else six seven) t.1 in
        let v = or_none six seven u.1 in
        (v.0, v.1)

    names_apart : (i : IdlInterface) → Mem i is → Apart (introduced (introduces text_module_of i))
    names_apart i m =
        rw (map_same (introduced (introduces text_module_of i))) at
        (differ_apart (λ (name : List ℕ). name) (introduced (introduces text_module_of i)) (((names_law text_drafts).0 names_and_variables.0).introduced (draft_of text_module_of i) (mem_map (draft_of text_module_of) i is m)))

    pub variables_apart : (i : IdlInterface) → Mem i is → Apart (map (λ (v : Variable). v.name) (variables text_module_of i))
    variables_apart i n =
        differ_apart (λ (v : Variable). v.name) (variables text_module_of i)
        ((variables_say (map (class_in m) (draft_classes text_drafts)) names_and_variables.1).by (class_in m (draft_class text_module_of i))
        (mem_map (class_in m) (draft_class text_module_of i) (draft_classes text_drafts)
        (mem_map (λ (d : InterfaceDraft). d.class) (draft_of text_module_of i) text_drafts (mem_map (draft_of text_module_of) i is n))))

    -- the body of an accessor fits the signature of its entry
    pub body_fits : (i : IdlInterface) → Mem i is → (name : List ℕ) (sig : Sig) (way : Way) (b : Body) → Mem (entries.Introduced name sig way) (own i).class.face.entries → body_of (own i) name ≡ Some b
        → Fits (own i).class.variables sig b
    body_fits i m name sig way b n e =
        let a = accessed (own i) name b e in
        let there : Mem (entries.Introduced name sig way) (introduces text_module_of i) = own_entry _ _ (introduces text_module_of i) _ name sig way n in
        subst (Fits (variables text_module_of i) sig) a.is
        (accessor_fits text_module_of i (names_apart i m) (variables_apart i m) a.accessor sig way a.there
        (subst (λ z. Mem (entries.Introduced z sig way) (introduces text_module_of i)) a.named there))

  -- a method that is introduced and has no body of an accessor is an operation
  pub operation_there : (i : IdlInterface) (name : List ℕ) (sig : Sig) (way : Way) → Mem (entries.Introduced name sig way) (own i).class.face.entries → body_of (own i) name ≡ None → among name (operations i) ≡ true
  operation_there i name sig way n none =
      by (source text_module_of i name sig way (own_entry _ _ (introduces text_module_of i) _ name sig way n)) (find (λ (a : Access). bytes_eq name a.name) (accessors_of i)) refl none
    where
      by : Source i name → (o : Option Access) → find (λ (a : Access). bytes_eq name a.name) (accessors_of i) ≡ o → option_map (accessor_body (own i).class.variables) o ≡ None → among name (operations i) ≡ true
      by (an_operation is) o e f = is
      by (an_accessor a m s) (Some b) e f = absurd (cc)
      by (an_accessor a m s) None e f =
          absurd (true≢false (sym (exact_bytes.one name) ∙ ap (bytes_eq name) (sym s) ∙ find_none (λ (a : Access). bytes_eq name a.name) (accessors_of i) e a m))

  -- each class has as many parents as its text names
  pub parents_counted : ParentsCounted (drafts_over m base is)
  parents_counted = record {
    by = λ d n.
        (let r = map_mem own d is (subst (λ z. Mem d z) drafts_are n) in
        subst (λ (z : InterfaceDraft). length (or_object z.text.parents) ≡ length z.class.face.parents) (sym r.2) (sym (length-map (or_object r.0.parents) (key_of text_module_of))));
  }
