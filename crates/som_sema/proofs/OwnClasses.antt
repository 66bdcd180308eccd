-- What the rules say of drafts and of their texts holds of the declarations.
use Rattle.std.proofs.Common.{◌≡◌, ℕ, inl, inr, Bool, true, false, if◌then◌else◌, List, [], ◌∷◌, ◌++◌, map, flat_map, Option, Some, None, option_map, refl, sym, ap, ◌∙◌, subst, true≢false}
use Rattle.std.specs.Str.{bytes_eq}
use Rattle.som_model.specs.declared.key.Module.{Module}
use Rattle.som_model.specs.declared.key.ClassKey.{ClassKey}
use Rattle.som_model.specs.declared.key.ValueType.{ValueType}
use Rattle.som_model.specs.declared.class.Entry.{Entry}
use Rattle.som_model.specs.declared.class.Entry.TheVariants as entries
use Rattle.som_model.specs.declared.class.Sig.{Sig}
use Rattle.som_model.specs.declared.class.Way.{Way}
use Rattle.som_model.specs.declared.class.ClassDecl.{ClassDecl}
use Rattle.som_model.specs.Lists.{Mem, among, doubles, every, first, option_list, without}
use Rattle.som_model.specs.Class.{Class, class_in, entry_name, entry_of, introduced}
use Rattle.som_model.specs.Classes.{is_a}
use Rattle.som_model.specs.EffectiveOrder.{effective_order}
use Rattle.som_model.specs.Kernel.{som_class}
use Rattle.som_model.specs.Rules.{breach, s4, s6, s7}
use Rattle.som_model.proofs.KeyLaws.{exact_bytes}
use Rattle.som_model_laws.proofs.Laws.{among_mem}
use Rattle.som_model_laws.proofs.Members.{Apart, find_first, mem_split, without_fails, without_mem}
use Rattle.som_verify_classes.specs.Plainly.{IsAmong, IsNamed, IsValue, TypesKnown}
use Rattle.som_verify_classes.proofs.Before.{both_none, none_both}
use Rattle.som_verify_classes.proofs.Owners.{mem_middle}
use Rattle.som_verify_classes.proofs.PlainLists.{apart_by, by_apart, map_mem, map_none, none_map}
use Rattle.som_verify_classes.proofs.PlainNames.{demand_none}
use Rattle.som_verify_classes.proofs.Outlines.{outline}
use Rattle.som_sema_scope.specs.ClassNames.{key_of}
use Rattle.som_sema_drafts.specs.Items.{listed, metaclass_names}
use Rattle.som_sema_drafts.specs.Drafts.{InterfaceDraft, draft_class, draft_classes}
use Rattle.som_sema_drafts.specs.Demands.{text_breach}
use Rattle.som_sema_decls.specs.Finished.{declare, entry_for, entry_or_moved, introducer}
use Rattle.som_sema_local.specs.OwnRules.{second, text_s6}
use Rattle.som_sema.specs.TextRules.{makes_classes, text_s4}
use Rattle.som_sema.proofs.TextBases.{demanded_text}

-- entries

pub entry_there : (own : List Entry) (name : List ℕ) (e : Entry) → entry_of own name ≡ Some e → Mem e own × (entry_name e ≡ name)
entry_there own name e is =
    let r = find_first (λ (e : Entry). bytes_eq (entry_name e) name) own e is in
    (mem_middle own r.before r.after e r.parts, exact_bytes.two (entry_name e) name r.passes)

named_so : (to : ClassKey) (own : List Entry) (name : List ℕ) (o : Option Entry) → entry_of own name ≡ o → entry_name (entry_or_moved to name o) ≡ name
named_so to own name None e = refl
named_so to own name (Some x) e = (entry_there own name x e).1

own_entry : (to : ClassKey) (own : List Entry) (x name : List ℕ) (sig : Sig) (way : Way) (o : Option Entry) → entry_of own x ≡ o
    → entries.Introduced name sig way ≡ entry_or_moved to x o → Mem (entries.Introduced name sig way) own
own_entry to own x name sig way None e is = absurd (cc)
own_entry to own x name sig way (Some y) e is = subst (λ (z : Entry). Mem z own) (sym is) (entry_there own x y e).0

module _ (cs : List Class) (k : ClassKey) (own : List Entry) where
  -- the release order has the names that were listed
  order_names : (names : List (List ℕ)) → map entry_name (map (entry_for cs k own) names) ≡ names
  order_names [] = refl
  order_names (name ∷ names) =
      ap (λ z. z ∷ map entry_name (map (entry_for cs k own) names)) (named_so (introducer cs k name) own name (entry_of own name) refl)
      ∙ ap (λ z. name ∷ z) (order_names names)

  -- an introduced entry of it is one that the interface declares
  pub order_own : (names : List (List ℕ)) (name : List ℕ) (sig : Sig) (way : Way) → Mem (entries.Introduced name sig way) (map (entry_for cs k own) names) → Mem (entries.Introduced name sig way) own
  order_own names name sig way m =
      let r = map_mem (entry_for cs k own) (entries.Introduced name sig way) names m in
      own_entry (introducer cs k r.0) own r.0 name sig way (entry_of own r.0) refl r.2

-- S6

pub join_apart : {A : Type 0} (xs ys : List A) → Apart xs → Apart ys → ((a : A) → Mem a xs → Mem a ys → ⊥) → Apart (xs ++ ys)
join_apart [] ys o p f = p
join_apart (x ∷ xs) ys o p f = (
  (λ m. elim (mem_split x xs ys m) [ inl n ↦ o.0 n | inr n ↦ f x (inl refl) n ]),
  join_apart xs ys o.1 p (λ a m n. f a (inr m) n),
)

kept_apart : {A : Type 0} (b : Bool) (x : A) (ys : List A) → (Mem x ys → ⊥) → Apart ys → Apart (if b then ys else x ∷ ys)
kept_apart true x ys n o = o
kept_apart false x ys n o = (n, o)

pub left_apart : {A : Type 0} (test : A → Bool) (xs : List A) → Apart xs → Apart (without test xs)
left_apart test [] o = tt
left_apart test (x ∷ xs) o = kept_apart (test x) x (without test xs) (λ m. o.0 (without_mem test x xs m)) (left_apart test xs o.1)

order_apart : (list own : List (List ℕ)) → Apart list → Apart own → Apart (effective_order list own)
order_apart list own l o =
    join_apart list (without (λ name. among name list) own) l (left_apart (λ name. among name list) own o)
    (λ name m n. true≢false (sym ((among_mem name list).1 m) ∙ without_fails (λ name. among name list) name own n))

names_apart : (d : InterfaceDraft) (names : List (List ℕ)) → first (second 6 d names) ≡ None → Apart names
names_apart d names e = apart_by bytes_eq exact_bytes names (none_map (text_breach 6 d) (doubles bytes_eq [] names) e)

module _ (cs : List Class) (m : Module) where
  one_s6 : (d : InterfaceDraft) → first (text_s6 d) ≡ None → first (s6 (class_in m (declare cs m d))) ≡ None
  one_s6 d e =
      let own = introduced d.class.face.entries in
      let list = listed d.text.items in
      let p = none_both (second 6 d own) (second 6 d list) e in
      let c = class_in m (declare cs m d) in
      map_none (breach 6 c) (doubles bytes_eq [] (map entry_name c.decl.face.entries))
      (by_apart bytes_eq exact_bytes (map entry_name c.decl.face.entries)
      (subst Apart (sym (order_names cs (class_in m d.class).key d.class.face.entries (effective_order list own))) (order_apart list own (names_apart d list p.1) (names_apart d own p.0))))

  pub own_s6 : (ds : List InterfaceDraft) → first (flat_map text_s6 ds) ≡ None → first (flat_map s6 (map (class_in m) (map (declare cs m) ds))) ≡ None
  own_s6 [] e = refl
  own_s6 (d ∷ ds) e =
      let p = none_both (text_s6 d) (flat_map text_s6 ds) e in
      both_none (s6 (class_in m (declare cs m d))) (flat_map s6 (map (class_in m) (map (declare cs m) ds))) (one_s6 d p.0) (own_s6 ds p.1)

  -- S7
  pub own_s7 : (ds : List InterfaceDraft) → flat_map s7 (map (class_in m) (map (declare cs m) ds)) ≡ flat_map s7 (map (class_in m) (draft_classes ds))
  own_s7 [] = refl
  own_s7 (d ∷ ds) = ap (λ z. s7 (class_in m d.class) ++ z) (own_s7 ds)

  -- the declarations have the outlines of the drafts
  pub own_outlines : (ds : List InterfaceDraft) → map outline (map (class_in m) (draft_classes ds)) ≡ map outline (map (class_in m) (map (declare cs m) ds))
  own_outlines [] = refl
  own_outlines (d ∷ ds) = ap (λ z. outline (class_in m d.class) ∷ z) (own_outlines ds)

  -- S5
  draft_from : (ds : List InterfaceDraft) (c : Class) → Mem c (map (class_in m) (map (declare cs m) ds)) → (d : InterfaceDraft) × Mem (class_in m d.class) (map (class_in m) (draft_classes ds)) × (c ≡ class_in m (declare cs m d))
  draft_from [] c n = absurd n
  draft_from (d ∷ ds) c (inl e) = (d, inl refl, e)
  draft_from (d ∷ ds) c (inr n) = let r = draft_from ds c n in (r.0, inr r.1, r.2)

  draft_entry : (d : InterfaceDraft) (c : Class) (name : List ℕ) (sig : Sig) (way : Way) → c ≡ class_in m (declare cs m d) → Mem (entries.Introduced name sig way) c.decl.face.entries
      → Mem (entries.Introduced name sig way) d.class.face.entries
  draft_entry d c name sig way e n =
      order_own cs (class_in m d.class).key d.class.face.entries (effective_order (listed d.text.items) (introduced d.class.face.entries)) name sig way
      (subst (λ (z : Class). Mem (entries.Introduced name sig way) z.decl.face.entries) e n)

  module _ (known more : List Class) (goes : (k : ClassKey) → IsAmong known k → IsAmong more k) where
    named_more : (t : ValueType) → IsNamed known t → IsNamed more t
    named_more t n = record { by = λ k is. goes k (n.by k is) }

    value_more : (t : ValueType) → IsValue known t → IsValue more t
    value_more t n = record { not_void = n.not_void; named = named_more t n.named }

    pub own_types : (ds : List InterfaceDraft) → TypesKnown known (map (class_in m) (draft_classes ds)) → TypesKnown more (map (class_in m) (map (declare cs m) ds))
    own_types ds h = record {
      results = λ c name sig way n e. (let r = draft_from ds c n in named_more sig.result (h.results (class_in m r.0.class) name sig way r.1 (draft_entry r.0 c name sig way r.2 e)));
      params = λ c name sig way t n e p. (let r = draft_from ds c n in value_more t (h.params (class_in m r.0.class) name sig way t r.1 (draft_entry r.0 c name sig way r.2 e) p));
      variables = λ c v n e. (let r = draft_from ds c n in value_more v.kind (h.variables (class_in m r.0.class) v r.1 (subst (λ (z : Class). Mem v z.decl.variables) r.2 e)));
    }

  -- S4
  module _ (module_of : List ℕ → Module) (known more : List Class) (same : (k a : ClassKey) → is_a known k a ≡ is_a more k a) where
    metaclass_is : (d : InterfaceDraft) (names : List (List ℕ)) → first (flat_map (makes_classes module_of known d) names) ≡ None
        → every (λ k. is_a more k som_class) (option_list (option_map (key_of module_of) (first names))) ≡ true
    metaclass_is d [] e = refl
    metaclass_is d (name ∷ names) e =
        let p = none_both (makes_classes module_of known d name) (flat_map (makes_classes module_of known d) names) e in
        let here : is_a more (key_of module_of name) som_class ≡ true = sym (same (key_of module_of name) som_class) ∙ demanded_text 4 d _ (is_a known (key_of module_of name) som_class) p.0 in
        rw here refl

    one_s4 : (d : InterfaceDraft) → d.class ≡ draft_class module_of d.text → first (text_s4 module_of known d) ≡ None → first (s4 more (class_in m (declare cs m d))) ≡ None
    one_s4 d is e =
        demand_none 4 (class_in m (declare cs m d)) _
        (subst (λ (z : ClassDecl). every (λ k. is_a more k som_class) (option_list z.face.metaclass) ≡ true) (sym is) (metaclass_is d (metaclass_names d.text.items) e))

    pub own_s4 : (ds : List InterfaceDraft) → ((d : InterfaceDraft) → Mem d ds → d.class ≡ draft_class module_of d.text) → first (flat_map (text_s4 module_of known) ds) ≡ None
        → first (flat_map (s4 more) (map (class_in m) (map (declare cs m) ds))) ≡ None
    own_s4 [] are e = refl
    own_s4 (d ∷ ds) are e =
        let p = none_both (text_s4 module_of known d) (flat_map (text_s4 module_of known) ds) e in
        both_none (s4 more (class_in m (declare cs m d))) (flat_map (s4 more) (map (class_in m) (map (declare cs m) ds)))
        (one_s4 d (are d (inl refl)) p.0) (own_s4 ds (λ x n. are x (inr n)) p.1)
