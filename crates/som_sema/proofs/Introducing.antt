-- What a declaration introduces is what its draft introduces, so the introducers of names are the same.
use Rattle.std.proofs.Common.{◌≡◌, ℕ, inl, inr, Bool, true, false, if◌then◌else◌, List, [], ◌∷◌, ◌++◌, map, flat_map, Option, Some, None, refl, sym, ap, ◌∙◌, subst, true≢false}
use Rattle.std.specs.Prelude.{unwrap_or}
use Rattle.std.specs.Str.{bytes_eq}
use Rattle.som_model.specs.declared.key.Module.{Module}
use Rattle.som_model.specs.declared.key.ClassKey.{ClassKey}
use Rattle.som_model.specs.declared.key.ValueType.{ValueType}
use Rattle.som_model.specs.declared.class.Entry.{Entry}
use Rattle.som_model.specs.declared.class.Entry.TheVariants as entries
use Rattle.som_model.specs.declared.class.Sig.{Sig}
use Rattle.som_model.specs.declared.class.Way.{Way}
use Rattle.som_model.specs.declared.class.ClassDecl.{ClassDecl}
use Rattle.som_model.specs.Lists.{Mem, among, find}
use Rattle.som_model.specs.Keys.{same_key}
use Rattle.som_model.specs.Class.{Class, class_in, entry_name, entry_of, introduced}
use Rattle.som_model.specs.Classes.{ancestors, class_at, hierarchy}
use Rattle.som_model.specs.Ancestors.{anc}
use Rattle.som_model.specs.Hierarchy.{Hierarchy}
use Rattle.som_model.specs.EffectiveOrder.{effective_order}
use Rattle.som_model.specs.Owner.{introduced_by, introduced_in}
use Rattle.som_model.proofs.KeyLaws.{exact_bytes}
use Rattle.som_model_laws.proofs.Laws.{among_mem, introduced_in as order_has}
use Rattle.som_model_laws.proofs.Members.{both_or_none, find_none, mem_split}
use Rattle.som_model_laws.proofs.Lists.{flat_mem}
use Rattle.som_verify_classes.proofs.PlainLists.{mem_map}
use Rattle.som_verify_classes.proofs.Outlines.{outline, hierarchy_outline}
use Rattle.som_ast.specs.declared.words.Word.{Word}
use Rattle.som_ast.specs.declared.interface.IdlInterface.{IdlInterface}
use Rattle.som_ast.specs.declared.interface.Export.{Export}
use Rattle.som_ast.specs.declared.interface.Export.TheVariants as exports
use Rattle.som_sema_scope.specs.ClassNames.{type_of}
use Rattle.som_sema_drafts.specs.Items.{by_name, listed}
use Rattle.som_sema_drafts.specs.Drafts.{InterfaceDraft, accessors, draft_class, export_entries, introduces}
use Rattle.som_sema_decls.specs.Finished.{declare, entry_for, entry_or_moved, introducer}
use Rattle.som_sema.proofs.OwnClasses.{entry_there, order_own}

pub introduced_mem : (es : List Entry) (name : List ℕ) → Mem name (introduced es) → (sig : Sig) × (way : Way) × Mem (entries.Introduced name sig way) es
introduced_mem [] name m = absurd m
introduced_mem (entries.Moved x to ∷ es) name m = let r = introduced_mem es name m in (r.0, r.1, inr r.2)
introduced_mem (entries.Introduced x sig way ∷ es) name (inl e) = (sig, way, inl (ap (λ z. entries.Introduced z sig way) e))
introduced_mem (entries.Introduced x sig way ∷ es) name (inr m) = let r = introduced_mem es name m in (r.0, r.1, inr r.2)

mem_introduced : (es : List Entry) (name : List ℕ) (sig : Sig) (way : Way) → Mem (entries.Introduced name sig way) es → Mem name (introduced es)
mem_introduced [] name sig way m = absurd m
mem_introduced (entries.Moved x to ∷ es) name sig way (inl e) = absurd (cc)
mem_introduced (entries.Moved x to ∷ es) name sig way (inr m) = mem_introduced es name sig way m
mem_introduced (entries.Introduced x s w ∷ es) name sig way (inl e) = let same : name ≡ x = cc in inl same
mem_introduced (entries.Introduced x s w ∷ es) name sig way (inr m) = inr (mem_introduced es name sig way m)

-- ---- a draft has introduced entries alone

record NoneMoved (es : List Entry) : Type 0 where
  by : (name : List ℕ) (to : ClassKey) → Mem (entries.Moved name to) es → ⊥

accessors_stay : (names : List (List ℕ)) (readonly : Bool) (kind : ValueType) (name x : List ℕ) (to : ClassKey) → Mem (entries.Moved x to) (accessors names readonly kind name) → ⊥
accessors_stay names true kind name x to (inl e) = absurd (cc)
accessors_stay names true kind name x to (inr m) = m
accessors_stay names false kind name x to (inl e) = absurd (cc)
accessors_stay names false kind name x to (inr (inl e)) = absurd (cc)
accessors_stay names false kind name x to (inr (inr m)) = m

export_stays : (module_of : List ℕ → Module) (names : List (List ℕ)) (e : Export) (x : List ℕ) (to : ClassKey) → Mem (entries.Moved x to) (export_entries module_of names e) → ⊥
export_stays module_of names (exports.Attribute readonly kind ws) x to m =
    let r = flat_mem (λ (w : Word). accessors names readonly (type_of module_of kind) w.text) (entries.Moved x to) ws m in
    accessors_stay names readonly (type_of module_of kind) r.0.text x to r.2
export_stays module_of names (exports.Operation result name params) x to (inl e) = absurd (cc)
export_stays module_of names (exports.Operation result name params) x to (inr m) = m

draft_stays : (module_of : List ℕ → Module) (i : IdlInterface) → NoneMoved (introduces module_of i)
draft_stays module_of i = record {
  by = λ x to m. elim (mem_split (entries.Moved x to) (flat_map (export_entries module_of (by_name i.items)) i.before) (flat_map (export_entries module_of (by_name i.items)) i.after) m) [
    | inl n ↦ (let r = flat_mem (export_entries module_of (by_name i.items)) (entries.Moved x to) i.before n in export_stays module_of (by_name i.items) r.0 x to r.2)
    | inr n ↦ (let r = flat_mem (export_entries module_of (by_name i.items)) (entries.Moved x to) i.after n in export_stays module_of (by_name i.items) r.0 x to r.2)
  ];
}

-- ---- what is introduced stays so

staying : (own : List Entry) → NoneMoved own → (name : List ℕ) (e : Entry) → Mem e own → entry_name e ≡ name → (sig : Sig) × (way : Way) × (e ≡ entries.Introduced name sig way)
staying own none name (entries.Moved x to) m n = absurd (none.by x to m)
staying own none name (entries.Introduced x sig way) m n = (sig, way, ap (λ z. entries.Introduced z sig way) n)

found_there : (own : List Entry) (name : List ℕ) (o : Option Entry) → entry_of own name ≡ o → Mem name (introduced own) → (e : Entry) × (entry_of own name ≡ Some e)
found_there own name (Some e) is m = (e, is)
found_there own name None is m =
    let r = introduced_mem own name m in
    absurd (true≢false (sym (exact_bytes.one name) ∙ find_none (λ (e : Entry). bytes_eq (entry_name e) name) own is (entries.Introduced name r.0 r.1) r.2))

module _ (cs : List Class) (k : ClassKey) (own : List Entry) (none : NoneMoved own) (names : List (List ℕ)) where
  abbrev kept : List Entry
  kept = map (entry_for cs k own) (effective_order names (introduced own))

  goes : (name : List ℕ) → Mem name (introduced own) → Mem name (introduced kept)
  goes name m =
      let r = found_there own name (entry_of own name) refl m in
      let there = entry_there own name r.0 r.1 in
      let s = staying own none name r.0 there.0 there.1 in
      let here : entry_for cs k own name ≡ entries.Introduced name s.0 s.1 = ap (entry_or_moved (introducer cs k name) name) r.1 ∙ s.2 in
      mem_introduced kept name s.0 s.1
      (subst (λ (e : Entry). Mem e kept) here (mem_map (entry_for cs k own) name (effective_order names (introduced own)) (order_has names (introduced own) name m)))

  comes : (name : List ℕ) → Mem name (introduced kept) → Mem name (introduced own)
  comes name m =
      let r = introduced_mem kept name m in
      mem_introduced own name r.0 r.1 (order_own cs k own (effective_order names (introduced own)) name r.0 r.1 r.2)

  same_introduced : (name : List ℕ) → among name (introduced own) ≡ among name (introduced kept)
  same_introduced name = both_or_none (among name (introduced own)) (among name (introduced kept))
      (λ e. (among_mem name (introduced kept)).1 (goes name ((among_mem name (introduced own)).0 e)))
      (λ e. (among_mem name (introduced own)).1 (comes name ((among_mem name (introduced kept)).0 e)))

-- ---- classes of the same keys that introduce the same names

pub record IntroduceSame (x y : Class) : Type 0 where
  pub key : x.key ≡ y.key
  pub names : (name : List ℕ) → among name (introduced x.decl.face.entries) ≡ among name (introduced y.decl.face.entries)

abbrev pub AllSame : List Class → List Class → Type 0
AllSame [] [] = Unit {0}
AllSame (x ∷ xs) (y ∷ ys) = IntroduceSame x y × AllSame xs ys
AllSame [] (y ∷ ys) = ⊥
AllSame (x ∷ xs) [] = ⊥

pub all_self : (xs : List Class) → AllSame xs xs
all_self [] = tt
all_self (x ∷ xs) = (record { key = refl; names = λ name. refl }, all_self xs)

pub all_both : (xs ys us vs : List Class) → AllSame xs ys → AllSame us vs → AllSame (xs ++ us) (ys ++ vs)
all_both [] [] us vs a b = b
all_both (x ∷ xs) (y ∷ ys) us vs a b = (a.0, all_both xs ys us vs a.1 b)
all_both [] (y ∷ ys) us vs a b = absurd a
all_both (x ∷ xs) [] us vs a b = absurd a

pub own_same : (m : Module) (cs : List Class) (module_of : List ℕ → Module) (d : InterfaceDraft) → d.class ≡ draft_class module_of d.text → IntroduceSame (class_in m d.class) (class_in m (declare cs m d))
own_same m cs module_of d is = record {
  key = refl;
  names = same_introduced cs (class_in m d.class).key d.class.face.entries (subst (λ (c : ClassDecl). NoneMoved c.face.entries) (sym is) (draft_stays module_of d.text)) (listed d.text.items);
}

one_by : (b c : Bool) (x y : Class) (o r : Option Class) (name : List ℕ) → b ≡ c → among name (introduced x.decl.face.entries) ≡ among name (introduced y.decl.face.entries)
    → among name (introduced_in o) ≡ among name (introduced_in r) → among name (introduced_in (if b then Some x else o)) ≡ among name (introduced_in (if c then Some y else r))
one_by true true x y o r name e f g = f
one_by false false x y o r name e f g = g
one_by true false x y o r name e f g = cc
one_by false true x y o r name e f g = cc

pub introduced_so : (xs ys : List Class) → AllSame xs ys → (k : ClassKey) (name : List ℕ) → among name (introduced_by xs k) ≡ among name (introduced_by ys k)
introduced_so [] [] a k name = refl
introduced_so (x ∷ xs) (y ∷ ys) a k name =
    one_by (same_key x.key k) (same_key y.key k) x y (class_at xs k) (class_at ys k) name (ap (λ z. same_key z k) a.0.key) (a.0.names name) (introduced_so xs ys a.1 k name)
introduced_so [] (y ∷ ys) a k name = absurd a
introduced_so (x ∷ xs) [] a k name = absurd a

find_so : {A : Type 0} (f g : A → Bool) (xs : List A) → ((a : A) → f a ≡ g a) → find f xs ≡ find g xs
find_so f g [] e = refl
find_so f g (x ∷ xs) e = ap (λ (b : Bool). if b then Some x else find f xs) (e x) ∙ ap (λ o. if g x then Some x else o) (find_so f g xs e)

-- a name has one introducer in classes of one outline that introduce one list of names each
pub same_introducer : (xs ys : List Class) → map outline xs ≡ map outline ys → AllSame xs ys → (k : ClassKey) (name : List ℕ) → introducer xs k name ≡ introducer ys k name
same_introducer xs ys same all k name =
    let h : hierarchy xs ≡ hierarchy ys = sym (hierarchy_outline xs) ∙ ap hierarchy same ∙ hierarchy_outline ys in
    ap (λ (z : Hierarchy ClassKey). unwrap_or (find (λ a. among name (introduced_by xs a)) (anc z k)) k) h
    ∙ ap (λ o. unwrap_or o k) (find_so (λ a. among name (introduced_by xs a)) (λ a. among name (introduced_by ys a)) (ancestors ys k) (λ a. introduced_so xs ys all a name))
