-- The bodies of accessors fit their signatures.
use Rattle.std.proofs.Common.{◌≡◌, ℕ, suc, inl, inr, Bool, true, false, if◌then◌else◌, List, [], ◌∷◌, ◌++◌, map, flat_map, slice_get, Option, Some, None, option_map, refl, sym, ap, ◌∙◌, subst, true≢false}
use Rattle.std.specs.Str.{bytes_eq}
use Rattle.som_model.specs.declared.key.Module.{Module}
use Rattle.som_model.specs.declared.key.ValueType.TheVariants as types
use Rattle.som_model.specs.declared.class.Sig.{Sig}
use Rattle.som_model.specs.declared.class.Way.{Way}
use Rattle.som_model.specs.declared.class.Entry.{Entry}
use Rattle.som_model.specs.declared.class.Entry.TheVariants as entries
use Rattle.som_model.specs.declared.class.Variable.{Variable}
use Rattle.som_model.specs.declared.class.Body.{Body}
use Rattle.som_model.specs.declared.class.Body.TheVariants as bodies
use Rattle.som_model.specs.Lists.{Mem, find}
use Rattle.som_model.specs.Class.{introduced, introduced_sig, entry_name}
use Rattle.som_model.proofs.KeyLaws.{exact_bytes}
use Rattle.som_model_laws.proofs.Members.{Apart, find_first, mem_left, mem_right, mem_split}
use Rattle.som_model_laws.proofs.Lists.{flat_mem, mem_flat}
use Rattle.som_ast.specs.declared.words.Word.{Word}
use Rattle.som_ast.specs.declared.words.TypeName.{TypeName}
use Rattle.som_ast.specs.declared.interface.IdlInterface.{IdlInterface}
use Rattle.som_ast.specs.declared.interface.Export.{Export}
use Rattle.som_ast.specs.declared.interface.Export.TheVariants as exports
use Rattle.som_verify_classes.specs.Plainly.{Fits, a_reader, a_writer}
use Rattle.som_verify_classes.proofs.PlainLists.{mem_map}
use Rattle.som_sema_scope.specs.ClassNames.{type_of}
use Rattle.som_sema_drafts.specs.Items.{by_name}
use Rattle.som_sema_drafts.specs.Drafts.{InterfaceDraft, accessors, export_entries, export_variables, getter, introduces, item_variables, setter, variables, variables_of, way_of}
use Rattle.som_elab_methods.specs.Accessors.{Access, accessor_body, accessors_of, attribute_accessors, body_of, export_accessors, place_of}

-- the attribute that declares an accessor
pub record OfAttribute (i : IdlInterface) (a : Access) : Type 0 where
  pub readonly : Bool
  pub kind : TypeName
  pub names : List Word
  pub word : Word
  pub export : Mem (exports.Attribute readonly kind names) (i.before ++ i.after)
  pub named : Mem word names
  pub is : Mem a (attribute_accessors readonly word.text)

made_in : (x : Export) (i : IdlInterface) (a : Access) → Mem x (i.before ++ i.after) → Mem a (export_accessors x) → OfAttribute i a
made_in (exports.Attribute readonly kind names) i a m n =
    let r = flat_mem (λ (w : Word). attribute_accessors readonly w.text) a names n in
    record { readonly = readonly; kind = kind; names = names; word = r.0; export = m; named = r.1; is = r.2 }
made_in (exports.Operation result name params) i a m n = absurd n

pub made : (i : IdlInterface) (a : Access) → Mem a (accessors_of i) → OfAttribute i a
made i a m = elim (mem_split a (flat_map export_accessors i.before) (flat_map export_accessors i.after) m) [
  | inl n ↦ (let r = flat_mem export_accessors a i.before n in made_in r.0 i a (mem_left r.0 i.before i.after r.1) r.2)
  | inr n ↦ (let r = flat_mem export_accessors a i.after n in made_in r.0 i a (mem_right r.0 i.before i.after r.1) r.2)
]

-- what comes of a member of two lists
pub both_flat : {A B : Type 0} (f : A → List B) (b : B) (x : A) (xs ys : List A) → Mem x (xs ++ ys) → Mem b (f x) → Mem b (flat_map f xs ++ flat_map f ys)
both_flat f b x xs ys m n = elim (mem_split x xs ys m) [
  | inl p ↦ mem_left b (flat_map f xs) (flat_map f ys) (mem_flat f b x xs p n)
  | inr p ↦ mem_right b (flat_map f xs) (flat_map f ys) (mem_flat f b x ys p n)
]

module _ (module_of : List ℕ → Module) (i : IdlInterface) (readonly : Bool) (kind : TypeName) (names : List Word) (w : Word)
    (export : Mem (exports.Attribute readonly kind names) (i.before ++ i.after)) (named : Mem w names) where
  entry_made : (e : Entry) → Mem e (accessors (by_name i.items) readonly (type_of module_of kind) w.text) → Mem e (introduces module_of i)
  entry_made e m =
      both_flat (export_entries module_of (by_name i.items)) e (exports.Attribute readonly kind names) i.before i.after export
      (mem_flat (λ (w : Word). accessors (by_name i.items) readonly (type_of module_of kind) w.text) e w names named m)

  pub variable_made : Mem (record { name = w.text; kind = type_of module_of kind }) (variables module_of i)
  variable_made =
      let v : Variable = record { name = w.text; kind = type_of module_of kind } in
      let own : Mem v (variables_of (type_of module_of kind) names) = mem_map (λ (w : Word). record { name = w.text; kind = type_of module_of kind }) w names named in
      let front = flat_map (export_variables module_of) i.before in
      let middle = flat_map (item_variables module_of) i.items in
      let back = flat_map (export_variables module_of) i.after in
      elim (mem_split (exports.Attribute readonly kind names) i.before i.after export) [
        | inl p ↦ mem_left v (front ++ middle) back (mem_left v front middle (mem_flat (export_variables module_of) v (exports.Attribute readonly kind names) i.before p own))
        | inr p ↦ mem_right v (front ++ middle) back (mem_flat (export_variables module_of) v (exports.Attribute readonly kind names) i.after p own)
      ]

-- a name is introduced with one signature
pub introduced_there : (es : List Entry) (name : List ℕ) (sig : Sig) (way : Way) → Mem (entries.Introduced name sig way) es → Mem name (introduced es)
introduced_there [] name sig way m = absurd m
introduced_there (entries.Moved x to ∷ es) name sig way (inl e) = absurd (cc)
introduced_there (entries.Moved x to ∷ es) name sig way (inr m) = introduced_there es name sig way m
introduced_there (entries.Introduced x s w ∷ es) name sig way (inl e) = inl (ap entry_name e)
introduced_there (entries.Introduced x s w ∷ es) name sig way (inr m) = inr (introduced_there es name sig way m)

one_sig : (es : List Entry) (name : List ℕ) (s t : Sig) (v w : Way) → Apart (introduced es) → Mem (entries.Introduced name s v) es → Mem (entries.Introduced name t w) es → s ≡ t
one_sig [] name s t v w o m n = absurd m
one_sig (entries.Moved x to ∷ es) name s t v w o (inl e) n = absurd (cc)
one_sig (entries.Moved x to ∷ es) name s t v w o (inr m) (inl e) = absurd (cc)
one_sig (entries.Moved x to ∷ es) name s t v w o (inr m) (inr n) = one_sig es name s t v w o m n
one_sig (entries.Introduced x q u ∷ es) name s t v w o (inl e) (inl f) =
    let a : Some s ≡ Some q = ap (λ z. introduced_sig (Some z)) e in
    let b : Some t ≡ Some q = ap (λ z. introduced_sig (Some z)) f in
    cc
one_sig (entries.Introduced x q u ∷ es) name s t v w o (inl e) (inr n) = absurd (o.0 (subst (λ z. Mem z (introduced es)) (ap entry_name e) (introduced_there es name t w n)))
one_sig (entries.Introduced x q u ∷ es) name s t v w o (inr m) (inl f) = absurd (o.0 (subst (λ z. Mem z (introduced es)) (ap entry_name f) (introduced_there es name s v m)))
one_sig (entries.Introduced x q u ∷ es) name s t v w o (inr m) (inr n) = one_sig es name s t v w o.1 m n

-- a variable stands at the place of its name
abbrev called : List Variable → List (List ℕ)
called vs = map (λ (v : Variable). v.name) vs

there_by : (b : Bool) (x v : Variable) (vs : List Variable) (n : ℕ) → (b ≡ true → x ≡ v) → (b ≡ false → slice_get vs n ≡ Some v) → slice_get (x ∷ vs) (if b then 0 else suc n) ≡ Some v
there_by true x v vs n f g = ap Some (f refl)
there_by false x v vs n f g = g refl

pub at_place : (vs : List Variable) (v : Variable) → Apart (called vs) → Mem v vs → slice_get vs (place_of (called vs) v.name) ≡ Some v
at_place [] v o m = absurd m
at_place (x ∷ vs) v o (inl e) =
    there_by (bytes_eq v.name x.name) x v vs (place_of (called vs) v.name) (λ t. sym e) (λ f. absurd (true≢false (sym (exact_bytes.one v.name) ∙ ap (λ (z : Variable). bytes_eq v.name z.name) e ∙ f)))
at_place (x ∷ vs) v o (inr m) =
    there_by (bytes_eq v.name x.name) x v vs (place_of (called vs) v.name)
    (λ t. absurd (o.0 (subst (λ z. Mem z (called vs)) (exact_bytes.two v.name x.name t) (mem_map (λ (v : Variable). v.name) v vs m))))
    (λ f. at_place vs v o.1 m)

module _ (module_of : List ℕ → Module) (i : IdlInterface) (entries_apart : Apart (introduced (introduces module_of i))) (variables_apart : Apart (called (variables module_of i))) where
  reads : (readonly : Bool) (kind : TypeName) (names : List Word) (w : Word) (sig : Sig) (way : Way) → Mem (exports.Attribute readonly kind names) (i.before ++ i.after) → Mem w names
      → Mem (entries.Introduced (getter w.text) sig way) (introduces module_of i) → Fits (variables module_of i) sig (bodies.Get (place_of (called (variables module_of i)) w.text))
  reads readonly kind names w sig way x n m =
      let s : Sig = record { result = type_of module_of kind; params = [] } in
      let same : sig ≡ s = one_sig (introduces module_of i) (getter w.text) sig s way (way_of (by_name i.items) (getter w.text)) entries_apart m
      (entry_made module_of i readonly kind names w x n (entries.Introduced (getter w.text) s (way_of (by_name i.items) (getter w.text))) (inl refl)) in
      a_reader (place_of (called (variables module_of i)) w.text) (record { name = w.text; kind = type_of module_of kind })
      (at_place (variables module_of i) (record { name = w.text; kind = type_of module_of kind }) variables_apart (variable_made module_of i readonly kind names w x n))
      (ap (λ (z : Sig). z.result) same) (ap (λ (z : Sig). z.params) same)

  writes : (kind : TypeName) (names : List Word) (w : Word) (sig : Sig) (way : Way) → Mem (exports.Attribute false kind names) (i.before ++ i.after) → Mem w names
      → Mem (entries.Introduced (setter w.text) sig way) (introduces module_of i) → Fits (variables module_of i) sig (bodies.Set (place_of (called (variables module_of i)) w.text))
  writes kind names w sig way x n m =
      let s : Sig = record { result = types.Void; params = type_of module_of kind ∷ [] } in
      let same : sig ≡ s = one_sig (introduces module_of i) (setter w.text) sig s way (way_of (by_name i.items) (setter w.text)) entries_apart m
      (entry_made module_of i false kind names w x n (entries.Introduced (setter w.text) s (way_of (by_name i.items) (setter w.text))) (inr (inl refl))) in
      a_writer (place_of (called (variables module_of i)) w.text) (record { name = w.text; kind = type_of module_of kind })
      (at_place (variables module_of i) (record { name = w.text; kind = type_of module_of kind }) variables_apart (variable_made module_of i false kind names w x n))
      (ap (λ (z : Sig). z.result) same) (ap (λ (z : Sig). z.params) same)

  fits_by : (readonly : Bool) (kind : TypeName) (names : List Word) (w : Word) (a : Access) (sig : Sig) (way : Way) → Mem (exports.Attribute readonly kind names) (i.before ++ i.after) → Mem w names
      → Mem a (attribute_accessors readonly w.text) → Mem (entries.Introduced a.name sig way) (introduces module_of i) → Fits (variables module_of i) sig (accessor_body (variables module_of i) a)
  fits_by readonly kind names w a sig way x n (inl e) m =
      subst (λ (z : Access). Fits (variables module_of i) sig (accessor_body (variables module_of i) z)) (sym e)
      (reads readonly kind names w sig way x n (subst (λ (z : Access). Mem (entries.Introduced z.name sig way) (introduces module_of i)) e m))
  fits_by true kind names w a sig way x n (inr k) m = absurd k
  fits_by false kind names w a sig way x n (inr (inl e)) m =
      subst (λ (z : Access). Fits (variables module_of i) sig (accessor_body (variables module_of i) z)) (sym e)
      (writes kind names w sig way x n (subst (λ (z : Access). Mem (entries.Introduced z.name sig way) (introduces module_of i)) e m))
  fits_by false kind names w a sig way x n (inr (inr k)) m = absurd k

  -- the body of an accessor fits the signature with which it is introduced
  pub accessor_fits : (a : Access) (sig : Sig) (way : Way) → Mem a (accessors_of i) → Mem (entries.Introduced a.name sig way) (introduces module_of i) → Fits (variables module_of i) sig (accessor_body (variables module_of i) a)
  accessor_fits a sig way m n = let r = made i a m in fits_by r.readonly r.kind r.names r.word a sig way r.export r.named r.is n

-- the accessor of which a body is
pub record Accessed (d : InterfaceDraft) (name : List ℕ) (b : Body) : Type 0 where
  pub accessor : Access
  pub there : Mem accessor (accessors_of d.text)
  pub named : name ≡ accessor.name
  pub is : accessor_body d.class.variables accessor ≡ b

accessed_by : (d : InterfaceDraft) (name : List ℕ) (b : Body) (o : Option Access) → find (λ (a : Access). bytes_eq name a.name) (accessors_of d.text) ≡ o → option_map (accessor_body d.class.variables) o ≡ Some b → Accessed d name b
accessed_by d name b None e f = absurd (cc)
accessed_by d name b (Some a) e f =
    let r = find_first (λ (a : Access). bytes_eq name a.name) (accessors_of d.text) a e in
    let same : accessor_body d.class.variables a ≡ b = cc in
    record {
      accessor = a;
      there = subst (λ z. Mem a z) (sym r.parts) (mem_right a r.before (a ∷ r.after) (inl refl));
      named = exact_bytes.two name a.name r.passes;
      is = same;
    }

pub accessed : (d : InterfaceDraft) (name : List ℕ) (b : Body) → body_of d name ≡ Some b → Accessed d name b
accessed d name b e = accessed_by d name b (find (λ (a : Access). bytes_eq name a.name) (accessors_of d.text)) refl e
