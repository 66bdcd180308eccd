-- No method that an operation declares is the reader or the writer of an attribute, where no name is declared twice.
use Rattle.std.proofs.Common.{◌≡◌, ℕ, inl, inr, ◌⊎◌, Bool, true, false, List, [], ◌∷◌, ◌++◌, map, flat_map, Option, Some, None, refl, sym, ap, ◌∙◌, subst}
use Rattle.som_model.specs.declared.class.Body.{Body}
use Rattle.som_model.specs.declared.key.Module.{Module}
use Rattle.som_model.specs.Class.{introduced}
use Rattle.som_model.specs.Lists.{Mem}
use Rattle.som_model_laws.proofs.Members.{Apart, mem_left, mem_right, mem_split}
use Rattle.som_ast.specs.declared.words.TypeName.{TypeName}
use Rattle.som_ast.specs.declared.words.Word.{Word}
use Rattle.som_ast.specs.declared.interface.Param.{Param}
use Rattle.som_ast.specs.declared.interface.Export.{Export}
use Rattle.som_ast.specs.declared.interface.Export.TheVariants as exports
use Rattle.som_ast.specs.declared.interface.IdlInterface.{IdlInterface}
use Rattle.som_model_laws.proofs.Lists.{flat_mem}
use Rattle.som_sema_drafts.specs.Drafts.{InterfaceDraft, getter, setter}
use Rattle.som_elab_methods.specs.Accessors.{Access, attribute_accessors, body_of}
use Rattle.som_elab_methods.specs.Bodies.{operation_name, operations}
use Rattle.som_elab_methods.proofs.Fitting.{accessed, made}
use Rattle.som_elab_laws.specs.Bodies.{HasAttribute}
use Rattle.som_sema_laws.specs.Faces.{AccessorNames, DeclaredNames, no_export, no_word, one_attribute, one_operation, one_reader, reader, reader_and_writer, writer}

-- the reader or the writer of an attribute
pub data IsAccessor : Bool → List ℕ → List ℕ → Type 0 where
  reads : {readonly : Bool} {word name : List ℕ} → name ≡ getter word → IsAccessor readonly word name
  writes : {word name : List ℕ} → name ≡ setter word → IsAccessor false word name

-- ---- names that are declared

accessor_there : (readonly : Bool) (ws : List Word) (own : List (List ℕ)) → AccessorNames readonly ws own → (w : Word) (name : List ℕ) → Mem w ws → IsAccessor readonly w.text name → Mem name own
accessor_there readonly ws own no_word w name m is = absurd m
accessor_there readonly ws own (one_reader p) w name (inl e) (reads is) = inl (is ∙ ap (λ (z : Word). getter z.text) e)
accessor_there readonly ws own (one_reader {ws = vs} {names = names} p) w name (inr m) is = inr (accessor_there true vs names p w name m is)
accessor_there readonly ws own (reader_and_writer p) w name (inl e) (reads is) = inl (is ∙ ap (λ (z : Word). getter z.text) e)
accessor_there readonly ws own (reader_and_writer p) w name (inl e) (writes is) = inr (inl (is ∙ ap (λ (z : Word). setter z.text) e))
accessor_there readonly ws own (reader_and_writer {ws = vs} {names = names} p) w name (inr m) is = inr (inr (accessor_there false vs names p w name m is))

-- an operation of this name
pub record HasOperation (es : List Export) (name : List ℕ) : Type 0 where
  pub result : Option TypeName
  pub word : Word
  pub params : List Param
  pub export : Mem (exports.Operation result word params) es
  pub named : name ≡ word.text

operation_there : (es : List Export) (names : List (List ℕ)) → DeclaredNames es names → (name : List ℕ) → HasOperation es name → Mem name names
operation_there es names no_export name o = absurd o.export
operation_there es names (one_operation {w = w} {es = rest} {names = more} p) name o = elim o.export [
  | inl e ↦ (let same : o.word ≡ w = (let z = e in cc) in inl (o.named ∙ ap (λ (z : Word). z.text) same))
  | inr m ↦ inr (operation_there rest more p name (record { result = o.result; word = o.word; params = o.params; export = m; named = o.named }))
]
operation_there es names (one_attribute {es = rest} {own = own} {names = more} a p) name o = elim o.export [
  | inl e ↦ absurd (let z = e in cc)
  | inr m ↦ mem_right name own more (operation_there rest more p name (record { result = o.result; word = o.word; params = o.params; export = m; named = o.named }))
]

-- an attribute of which this is the reader or the writer
pub record HasAccessor (es : List Export) (name : List ℕ) : Type 0 where
  pub readonly : Bool
  pub kind : TypeName
  pub words : List Word
  pub word : Word
  pub export : Mem (exports.Attribute readonly kind words) es
  pub there : Mem word words
  pub is : IsAccessor readonly word.text name

attribute_there : (es : List Export) (names : List (List ℕ)) → DeclaredNames es names → (name : List ℕ) → HasAccessor es name → Mem name names
attribute_there es names no_export name a = absurd a.export
attribute_there es names (one_operation {es = rest} {names = more} p) name a = elim a.export [
  | inl e ↦ absurd (let z = e in cc)
  | inr m ↦ inr (attribute_there rest more p name (record { readonly = a.readonly; kind = a.kind; words = a.words; word = a.word; export = m; there = a.there; is = a.is }))
]
attribute_there es names (one_attribute {readonly = readonly} {ws = ws} {es = rest} {own = own} {names = more} acc p) name a = elim a.export [
  | inl e ↦ mem_left name own more (here e)
  | inr m ↦ mem_right name own more (attribute_there rest more p name (record { readonly = a.readonly; kind = a.kind; words = a.words; word = a.word; export = m; there = a.there; is = a.is }))
]
  where
    here : {kind : TypeName} → exports.Attribute a.readonly a.kind a.words ≡ exports.Attribute readonly kind ws → Mem name own
    here e =
        let same : a.readonly ≡ readonly = (let z = e in cc) in
        let words : a.words ≡ ws = (let z = e in cc) in
        accessor_there readonly ws own acc a.word name (subst (λ (z : List Word). Mem a.word z) words a.there) (subst (λ z. IsAccessor z a.word.text name) same a.is)

-- ---- nothing is both

parts_more : {A : Type 0} (x : A) (xs ys : List A) → (Mem x (xs ++ ys) → ⊥) → Apart ys × ((a : A) → Mem a xs → Mem a ys → ⊥) → (a : A) → Mem a (x ∷ xs) → Mem a ys → ⊥
parts_more x xs ys fresh rest a (inl e) n = fresh (mem_right x xs ys (subst (λ z. Mem z ys) e n))
parts_more x xs ys fresh rest a (inr m) n = rest.1 a m n

apart_parts : {A : Type 0} (xs ys : List A) → Apart (xs ++ ys) → Apart ys × ((a : A) → Mem a xs → Mem a ys → ⊥)
apart_parts [] ys o = (o, λ a m n. m)
apart_parts (x ∷ xs) ys o = ((apart_parts xs ys o.1).0, parts_more x xs ys o.0 (apart_parts xs ys o.1))

module _ (name : List ℕ) where
  -- behind an operation
  past_operation : (result : Option TypeName) (w : Word) (ps : List Param) (rest : List Export) (more : List (List ℕ)) → DeclaredNames rest more → (Mem w.text more → ⊥) → (HasOperation rest name → HasAccessor rest name → ⊥)
      → (o : HasOperation (exports.Operation result w ps ∷ rest) name) (a : HasAccessor (exports.Operation result w ps ∷ rest) name) → Mem (exports.Operation o.result o.word o.params) (exports.Operation result w ps ∷ rest)
      → Mem (exports.Attribute a.readonly a.kind a.words) (exports.Operation result w ps ∷ rest) → ⊥
  past_operation result w ps rest more p fresh further o a m (inl f) = absurd (let z = f in cc)
  past_operation result w ps rest more p fresh further o a (inl e) (inr n) =
      let same : o.word ≡ w = (let z = e in cc) in
      let there = attribute_there rest more p name (record { readonly = a.readonly; kind = a.kind; words = a.words; word = a.word; export = n; there = a.there; is = a.is }) in
      fresh (subst (λ z. Mem z more) (o.named ∙ ap (λ (z : Word). z.text) same) there)
  past_operation result w ps rest more p fresh further o a (inr m) (inr n) =
      further (record { result = o.result; word = o.word; params = o.params; export = m; named = o.named })
      (record { readonly = a.readonly; kind = a.kind; words = a.words; word = a.word; export = n; there = a.there; is = a.is })

  -- behind an attribute
  past_attribute : (readonly : Bool) (kind : TypeName) (ws : List Word) (rest : List Export) (own more : List (List ℕ)) → AccessorNames readonly ws own → DeclaredNames rest more → (Mem name own → Mem name more → ⊥)
      → (HasOperation rest name → HasAccessor rest name → ⊥) → (o : HasOperation (exports.Attribute readonly kind ws ∷ rest) name) (a : HasAccessor (exports.Attribute readonly kind ws ∷ rest) name)
      → Mem (exports.Operation o.result o.word o.params) (exports.Attribute readonly kind ws ∷ rest) → Mem (exports.Attribute a.readonly a.kind a.words) (exports.Attribute readonly kind ws ∷ rest) → ⊥
  past_attribute readonly kind ws rest own more acc p fresh further o a (inl e) n = absurd (let z = e in cc)
  past_attribute readonly kind ws rest own more acc p fresh further o a (inr m) (inl f) =
      let same : a.readonly ≡ readonly = (let z = f in cc) in
      let words : a.words ≡ ws = (let z = f in cc) in
      let here = accessor_there readonly ws own acc a.word name (subst (λ (z : List Word). Mem a.word z) words a.there) (subst (λ z. IsAccessor z a.word.text name) same a.is) in
      fresh here (operation_there rest more p name (record { result = o.result; word = o.word; params = o.params; export = m; named = o.named }))
  past_attribute readonly kind ws rest own more acc p fresh further o a (inr m) (inr n) =
      further (record { result = o.result; word = o.word; params = o.params; export = m; named = o.named })
      (record { readonly = a.readonly; kind = a.kind; words = a.words; word = a.word; export = n; there = a.there; is = a.is })

  not_both : (es : List Export) (names : List (List ℕ)) → DeclaredNames es names → Apart names → HasOperation es name → HasAccessor es name → ⊥
  not_both es names no_export once o a = o.export
  not_both es names (one_operation {result = result} {w = w} {ps = ps} {es = rest} {names = more} p) once o a = past_operation result w ps rest more p once.0 (not_both rest more p once.1) o a o.export a.export
  not_both es names (one_attribute {readonly = readonly} {kind = kind} {ws = ws} {es = rest} {own = own} {names = more} acc p) once o a =
      past_attribute readonly kind ws rest own more acc p ((apart_parts own more once).1 name) (not_both rest more p (apart_parts own more once).0) o a o.export a.export

-- ---- an interface

is_operation : (x : Export) (es : List Export) (name : List ℕ) → Mem x es → Mem name (operation_name x) → HasOperation es name
is_operation (exports.Operation result word params) es name m (inl e) = record { result = result; word = word; params = params; export = m; named = e }
is_operation (exports.Operation result word params) es name m (inr n) = absurd n
is_operation (exports.Attribute readonly kind words) es name m n = absurd n

pub of_operations : (i : IdlInterface) (name : List ℕ) → Mem name (operations i) → HasOperation (i.before ++ i.after) name
of_operations i name m = elim (mem_split name (flat_map operation_name i.before) (flat_map operation_name i.after) m) [
  | inl n ↦ (let r = flat_mem operation_name name i.before n in is_operation r.0 (i.before ++ i.after) name (mem_left r.0 i.before i.after r.1) r.2)
  | inr n ↦ (let r = flat_mem operation_name name i.after n in is_operation r.0 (i.before ++ i.after) name (mem_right r.0 i.before i.after r.1) r.2)
]

pub of_reader : (i : IdlInterface) (readonly : Bool) (word name : List ℕ) → HasAttribute i readonly word → name ≡ getter word → HasAccessor (i.before ++ i.after) name
of_reader i readonly word name h e =
    record { readonly = readonly; kind = h.kind; words = h.names; word = h.word; export = h.export; there = h.there; is = reads (e ∙ ap getter (sym h.named)) }

pub of_writer : (i : IdlInterface) (word name : List ℕ) → HasAttribute i false word → name ≡ setter word → HasAccessor (i.before ++ i.after) name
of_writer i word name h e =
    record { readonly = false; kind = h.kind; words = h.names; word = h.word; export = h.export; there = h.there; is = writes (e ∙ ap setter (sym h.named)) }

access_is : (readonly : Bool) (word : List ℕ) (x : Access) → Mem x (attribute_accessors readonly word) → IsAccessor readonly word x.name
access_is readonly word x (inl e) = reads (ap (λ (z : Access). z.name) e)
access_is true word x (inr m) = absurd m
access_is false word x (inr (inl e)) = writes (ap (λ (z : Access). z.name) e)
access_is false word x (inr (inr m)) = absurd m

module _ (i : IdlInterface) (names : List (List ℕ)) (said : DeclaredNames (i.before ++ i.after) names) (once : Apart names) where
  pub apart : (name : List ℕ) → Mem name (operations i) → HasAccessor (i.before ++ i.after) name → ⊥
  apart name m a = not_both name (i.before ++ i.after) names said once (of_operations i name m) a

  -- an operation has no body of an accessor
  pub no_accessor : (d : InterfaceDraft) → d.text ≡ i → (name : List ℕ) → Mem name (operations i) → body_of d name ≡ None
  no_accessor d text name m = by (body_of d name) refl
    where
      by : (o : Option Body) → body_of d name ≡ o → o ≡ None
      by None e = refl
      by (Some b) e =
          let x = accessed d name b e in
          let o = made d.text x.accessor x.there in
          let a : HasAccessor (i.before ++ i.after) name =
          record {
            readonly = o.readonly;
            kind = o.kind;
            words = o.names;
            word = o.word;
            export = subst (λ (z : IdlInterface). Mem (exports.Attribute o.readonly o.kind o.names) (z.before ++ z.after)) text o.export;
            there = o.named;
            is = subst (λ z. IsAccessor o.readonly o.word.text z) (sym x.named) (access_is o.readonly o.word.text x.accessor o.is);
          } in
          absurd (apart name m a)
