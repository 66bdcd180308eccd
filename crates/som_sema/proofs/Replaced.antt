-- What the modifiers of texts replace is inherited in the declarations, as S10 has it of classes.
use Rattle.std.proofs.Common.{◌≡◌, ℕ, zero, suc, ◌+◌, inl, inr, Bool, true, false, if◌then◌else◌, List, [], ◌∷◌, ◌++◌, length, map, flat_map, slice_get, Option, Some, None, is_some, refl, sym, ap, ◌∙◌, subst, arith, append_assoc, length-append, true≢false}
use Rattle.std.specs.Prelude.{unwrap_or}
use Rattle.std.specs.Str.{bytes_eq}
use Rattle.som_model.specs.declared.key.Module.{Module}
use Rattle.som_model.specs.declared.key.ClassKey.{ClassKey}
use Rattle.som_model.specs.declared.key.MethodRef.{MethodRef}
use Rattle.som_model.specs.declared.class.ClassDecl.{ClassDecl}
use Rattle.som_model.specs.declared.class.Entry.{Entry}
use Rattle.som_model.specs.declared.class.Entry.TheVariants as entries
use Rattle.som_model.specs.declared.class.Override.{Override}
use Rattle.som_model.specs.declared.class.Select.{Select}
use Rattle.som_model.specs.Keys.{same_key}
use Rattle.som_model.specs.Lists.{Mem, among, first, place_from}
use Rattle.som_model.specs.Hierarchy.{Falls, Hierarchy, Tells}
use Rattle.som_model.specs.Ancestors.{anc}
use Rattle.som_model.specs.Class.{Class, class_in, introduced, introduced_sig}
use Rattle.som_model.specs.Classes.{ancestors, class_at, hierarchy}
use Rattle.som_model.specs.Kernel.{kernel}
use Rattle.som_model.specs.Owner.{entry_at, introduced_by, introduces, owner, owner_within}
use Rattle.som_model.specs.Rules.{s6}
use Rattle.som_model.proofs.KeyLaws.{both, exact_bytes, exact_keys}
use Rattle.som_model.proofs.NamedLaws.{hierarchy_same}
use Rattle.som_model.proofs.ListLaws.{map_map, get_map}
use Rattle.som_model_laws.proofs.Laws.{among_mem, ancestors as ancestors_law}
use Rattle.som_model_laws.proofs.Members.{Apart, find_first, mem_split, without_fails}
use Rattle.som_verify_classes.specs.Modules.{AreDeclared}
use Rattle.som_verify_classes.specs.Places.{key_at, with_kernel}
use Rattle.som_verify_classes.specs.Plainly.{Differ, EntriesDiffer, Introduces, IsAbove, NamesApart, OverridesInherited, ParentsBefore, SelectsInherited, TakesFrom}
use Rattle.som_verify_classes.proofs.Before.{none_both}
use Rattle.som_verify_classes.proofs.Owners.{mem_middle}
use Rattle.som_verify_classes.proofs.PlainLists.{apart_differ, differ_apart, map_mem, mem_map}
use Rattle.som_verify_classes.proofs.PlainMoves.{descent, lower, says_inherits}
use Rattle.som_verify_classes.proofs.Outlines.{hierarchy_outline, outline, same_descent}
use Rattle.som_model_laws.specs.Once.{add_new, adds}
use Rattle.som_sema_scope.specs.ClassNames.{key_of}
use Rattle.som_sema_drafts.specs.Items.{Chosen, Given, chosen, chosen_by, chosen_in, given, is_override, is_select, or_object, overridden, replaced, selecting, with_modifier}
use Rattle.som_ast.specs.declared.interface.Modifier.{Modifier}
use Rattle.som_ast.specs.declared.interface.Modifier.TheVariants as modifiers
use Rattle.som_sema_drafts.specs.Drafts.{InterfaceDraft, draft_class, draft_classes}
use Rattle.som_sema_decls.specs.Finished.{declare, introducer, override_of, place_of, select_of}
use Rattle.som_sema_local.specs.OwnRules.{text_s11}
use Rattle.som_sema.specs.TextRules.{is_inherited, text_s10, text_s10_from}
use Rattle.som_sema.proofs.Introducing.{AllSame, all_both, all_self, introduced_mem, introduced_so, own_same}
use Rattle.som_sema_names.proofs.Noting.{at_end}
use Rattle.som_sema.proofs.OwnClasses.{join_apart, left_apart}
use Rattle.som_sema.proofs.TextInherited.{Takes, inherits_from, overridden_says, selected_says}
use Rattle.som_sema.proofs.TextLaws.{map_same, modifiers_law, says_once}

-- a declaration with what is selected
abbrev pub filled : List Class → Module → (InterfaceDraft → List Select) → InterfaceDraft → ClassDecl
filled cs m fill d = record (declare cs m d) { selects = fill d }

-- ---- names

new_apart : (b : Bool) (seen : List (List ℕ)) (x : List ℕ) → among x seen ≡ b → Apart seen → Apart (if b then seen else seen ++ x ∷ [])
new_apart true seen x e o = o
new_apart false seen x e o = join_apart seen (x ∷ []) o ((λ m. m), tt) (λ a m n. elim n [
  | inl is ↦ true≢false (sym ((among_mem x seen).1 (subst (λ z. Mem z seen) is m)) ∙ e)
  | inr z ↦ z
])

adds_apart : (seen names : List (List ℕ)) → Apart seen → Apart (adds bytes_eq seen names)
adds_apart seen [] o = o
adds_apart seen (x ∷ names) o = adds_apart (add_new bytes_eq seen x) names (new_apart (among x seen) seen x refl o)

map_apart : {A B : Type 0} (f : A → B) (xs : List A) → ((a b : A) → f a ≡ f b → a ≡ b) → Apart xs → Apart (map f xs)
map_apart f [] one o = tt
map_apart f (x ∷ xs) one o = ((λ m. let r = map_mem f (f x) xs m in o.0 (subst (λ z. Mem z xs) (sym (one x r.0 r.2)) r.1)), map_apart f xs one o.1)

pub map_where : {A B : Type 0} (f g : A → B) (xs : List A) → ((a : A) → Mem a xs → f a ≡ g a) → map f xs ≡ map g xs
map_where f g [] e = refl
map_where f g (x ∷ xs) e = ap (λ z. z ∷ map f xs) (e x (inl refl)) ∙ ap (λ z. g x ∷ z) (map_where f g xs (λ a m. e a (inr m)))

-- a name stands at its place
abbrev IsPlaced : ℕ → List ℕ → List (List ℕ) → Type 0
IsPlaced n name names = (i : ℕ) × (place_from n (bytes_eq name) names ≡ Some (i + n)) × (slice_get names i ≡ Some name)

place_step : (x : List ℕ) (names : List (List ℕ)) (name : List ℕ) (n : ℕ) (b : Bool) → bytes_eq name x ≡ b → Mem name (x ∷ names) → (Mem name names → IsPlaced (suc n) name names) → IsPlaced n name (x ∷ names)
place_step x names name n true e m rest = (0, rw e (ap (λ z. Some z) (omega arith)), ap (λ z. Some z) (sym (exact_bytes.two name x e)))
place_step x names name n false e (inl is) rest = absurd (true≢false (sym (ap (bytes_eq name) (sym is) ∙ exact_bytes.one name) ∙ e))
place_step x names name n false e (inr k) rest =
    let r = rest k in
    let sum : r.0 + suc n ≡ suc r.0 + n = omega arith in
    (suc r.0, rw e (r.1 ∙ ap (λ z. Some z) sum), r.2)

place_there : (names : List (List ℕ)) (name : List ℕ) (n : ℕ) → Mem name names → IsPlaced n name names
place_there [] name n m = absurd m
place_there (x ∷ names) name n m = place_step x names name n (bytes_eq name x) refl m (place_there names name (suc n))

parent_at : {B : Type 0} (f : List ℕ → B) (names : List (List ℕ)) (name : List ℕ) → Mem name names → slice_get (map f names) (place_of names name) ≡ Some (f name)
parent_at f names name m =
    let r = place_there names name 0 m in
    let at : place_of names name ≡ r.0 = ap (λ o. unwrap_or o 0) r.1 ∙ omega arith in
    ap (slice_get (map f names)) at ∙ get_map f names r.0 name r.2

-- the methods that are chosen are those with `select`
chosen_methods : (gs : List Given) → map (λ (s : Chosen). s.method) (flat_map chosen_by gs) ≡ with_modifier is_select gs
chosen_methods [] = refl
chosen_methods (g ∷ gs) = by g.method g.modifier gs (chosen_methods gs)
  where
    by : (x : List ℕ) (m : Modifier) (gs : List Given) → map (λ (s : Chosen). s.method) (flat_map chosen_by gs) ≡ with_modifier is_select gs
        → map (λ (s : Chosen). s.method) (chosen_in x m ++ flat_map chosen_by gs) ≡ (if is_select m then x ∷ [] else []) ++ with_modifier is_select gs
    by x modifiers.Override gs e = e
    by x modifiers.NameLookup gs e = e
    by x modifiers.Offset gs e = e
    by x (modifiers.Select p) gs e = ap (λ z. x ∷ z) e

-- ---- owners

not_moved : (cs : List Class) (n : ℕ) (r : MethodRef) (o : Option Entry) → entry_at cs r.class r.name ≡ o → is_some (introduced_sig o) ≡ true → owner_within cs n r ≡ r
not_moved cs zero r o e t = refl
not_moved cs (suc n) r (Some (entries.Introduced x sig way)) e t = rw e refl
not_moved cs (suc n) r (Some (entries.Moved x to)) e t = absurd (true≢false (sym t))
not_moved cs (suc n) r None e t = absurd (true≢false (sym t))

owner_own : (cs : List Class) (r : MethodRef) → introduces cs r.name r.class ≡ true → owner cs r ≡ r
owner_own cs r t = not_moved cs ((hierarchy cs).height r.class) r (entry_at cs r.class r.name) refl t

class_found : (cs : List Class) (k : ClassKey) (c : Class) → class_at cs k ≡ Some c → Mem c cs × (c.key ≡ k)
class_found cs k c e =
    let r = find_first (λ (x : Class). same_key x.key k) cs c e in
    (mem_middle cs r.before r.after c r.parts, exact_keys.two c.key k r.passes)

introduces_by : (cs : List Class) (k : ClassKey) (name : List ℕ) (o : Option Class) → class_at cs k ≡ o → among name (introduced_by cs k) ≡ true → Introduces cs k name
introduces_by cs k name None e t = absurd (true≢false (sym t ∙ rw e refl))
introduces_by cs k name (Some c) e t =
    let r = introduced_mem c.decl.face.entries name ((among_mem name (introduced c.decl.face.entries)).0 (sym (rw e refl) ∙ t)) in
    let f = class_found cs k c e in
    record { class = c; there = f.0; named = f.1; sig = r.0; way = r.1; entry = r.2 }

module _ (module_of : List ℕ → Module) (m : Module) (base : List Class) (ds : List InterfaceDraft) (are : (d : InterfaceDraft) → Mem d ds → d.class ≡ draft_class module_of d.text) where
  abbrev all : List Class
  all = with_kernel (base ++ map (class_in m) (draft_classes ds))

  abbrev key : InterfaceDraft → ClassKey
  key d = (class_in m d.class).key

  -- S10 of a text, by the key of its class
  pub inherited_own : (front : List Class) (xs : List InterfaceDraft) (place : ℕ) → place ≡ length front → all ≡ front ++ map (class_in m) (draft_classes xs)
      → first (text_s10_from module_of all place xs) ≡ None → (d : InterfaceDraft) → Mem d xs → first (text_s10 module_of all (key d) d) ≡ None
  inherited_own front [] place at is e d n = absurd n
  inherited_own front (x ∷ xs) place at is e d n =
      let c = class_in m x.class in
      let p = none_both (text_s10 module_of all (key_at all place) x) (text_s10_from module_of all (suc place) xs) e in
      let here : key_at all place ≡ c.key =
      ap (key_at all) at ∙ ap (λ (z : List Class). key_at z (length front)) is ∙ ap (λ (z : Class). z.key) (at_end front (map (class_in m) (draft_classes xs)) c _) in
      let next : suc place ≡ length (front ++ c ∷ []) = omega (arith, at, length-append front (c ∷ [])) in
      elim n [
        | inl same ↦ subst (λ (z : InterfaceDraft). first (text_s10 module_of all (key z) z) ≡ None) (sym same) (subst (λ k. first (text_s10 module_of all k x) ≡ None) here p.0)
        | inr k ↦ inherited_own (front ++ c ∷ []) xs (suc place) next (is ∙ sym (append_assoc front (c ∷ []) (map (class_in m) (draft_classes xs)))) p.1 d k
      ]

  module _ (fill : InterfaceDraft → List Select) where
    abbrev own : List Class
    own = map (class_in m) (map (filled all m fill) ds)

    abbrev full : List Class
    full = base ++ own

    pub same_outlines : (xs : List InterfaceDraft) → map outline (map (class_in m) (draft_classes xs)) ≡ map outline (map (class_in m) (map (filled all m fill) xs))
    same_outlines [] = refl
    same_outlines (d ∷ xs) = ap (λ z. outline (class_in m d.class) ∷ z) (same_outlines xs)

    outlined_both : (xs ys zs : List Class) → map outline ys ≡ map outline zs → map outline (xs ++ ys) ≡ map outline (xs ++ zs)
    outlined_both [] ys zs e = e
    outlined_both (x ∷ xs) ys zs e = ap (λ z. outline x ∷ z) (outlined_both xs ys zs e)

    pub outlines : map outline all ≡ map outline (with_kernel full)
    outlines = outlined_both kernel (base ++ map (class_in m) (draft_classes ds)) full (outlined_both base (map (class_in m) (draft_classes ds)) own (same_outlines ds))

    own_all : (xs : List InterfaceDraft) → ((d : InterfaceDraft) → Mem d xs → d.class ≡ draft_class module_of d.text) → AllSame (map (class_in m) (draft_classes xs)) (map (class_in m) (map (filled all m fill) xs))
    own_all [] g = tt
    own_all (d ∷ xs) g = let h = own_same m all module_of d (g d (inl refl)) in (record { key = h.key; names = h.names }, own_all xs (λ x n. g x (inr n)))

    pub introduce_same : AllSame all (with_kernel full)
    introduce_same = all_both kernel kernel (base ++ map (class_in m) (draft_classes ds)) full (all_self kernel) (all_both base base (map (class_in m) (draft_classes ds)) own (all_self base) (own_all ds are))

    class_from : (c : Class) → Mem c own → (d : InterfaceDraft) × Mem d ds × (c ≡ class_in m (filled all m fill d))
    class_from c n =
        let r = map_mem (class_in m) c (map (filled all m fill) ds) n in
        let q = map_mem (filled all m fill) r.0 ds r.1 in
        (q.0, q.1, r.2 ∙ ap (class_in m) q.2)

    pub same_entries : (xs : List InterfaceDraft) → flat_map s6 (map (class_in m) (map (filled all m fill) xs)) ≡ flat_map s6 (map (class_in m) (map (declare all m) xs))
    same_entries [] = refl
    same_entries (d ∷ xs) = ap (λ z. s6 (class_in m (declare all m d)) ++ z) (same_entries xs)

    -- where nothing is selected
    no_select : ((c : Class) → Mem c base → (c.decl.overrides ≡ []) × (c.decl.selects ≡ [])) → ((d : InterfaceDraft) → fill d ≡ []) → (c : Class) (s : Select) → Mem c full → Mem s c.decl.selects → ⊥
    no_select bare none c s n k = elim (mem_split c base own n) [
      | inl b ↦ subst (λ (z : List Select). Mem s z) (bare c b).1 k
      | inr b ↦ (let r = class_from c b in subst (λ (z : List Select). Mem s z) (none r.0) (subst (λ (z : Class). Mem s z.decl.selects) r.2 k))
    ]

    no_selects : ((c : Class) → Mem c base → (c.decl.overrides ≡ []) × (c.decl.selects ≡ [])) → ((d : InterfaceDraft) → fill d ≡ []) → (c : Class) → Mem c full → c.decl.selects ≡ []
    no_selects bare none c n = elim (mem_split c base own n) [
      | inl b ↦ (bare c b).1
      | inr b ↦ (let r = class_from c b in ap (λ (z : Class). z.decl.selects) r.2 ∙ none r.0)
    ]

    pub none_selected : ((c : Class) → Mem c base → (c.decl.overrides ≡ []) × (c.decl.selects ≡ [])) → ((d : InterfaceDraft) → fill d ≡ []) → SelectsInherited full
    none_selected bare none = record {
      above = λ c s n k. absurd (no_select bare none c s n k);
      introduced = λ c s n k. absurd (no_select bare none c s n k);
      parent = λ c s n k. absurd (no_select bare none c s n k);
      once = λ c n. subst (λ (z : List Select). Differ (λ (s : Select). owner (with_kernel full) s.method) z) (sym (no_selects bare none c n)) (apart_differ (λ (s : Select). owner (with_kernel full) s.method) [] tt);
      apart = λ c o s n k l same. no_select bare none c s n l;
    }

    module _ (declared : AreDeclared full) (differ : NamesApart full) (stand : ParentsBefore full) (rule : EntriesDiffer full)
        (bare : (c : Class) → Mem c base → (c.decl.overrides ≡ []) × (c.decl.selects ≡ []))
        (inherited : (d : InterfaceDraft) → Mem d ds → first (text_s10 module_of all (key d) d) ≡ None) where
      low : Falls (hierarchy (with_kernel full))
      low = lower full declared differ stand

      keys_tell : Tells (hierarchy (with_kernel full))
      keys_tell = record {
        one = λ x. hierarchy_same (with_kernel full) x x ∙ exact_keys.one x;
        two = λ x y e. exact_keys.two x y (sym (hierarchy_same (with_kernel full) x y) ∙ e);
      }

      hierarchies : hierarchy all ≡ hierarchy (with_kernel full)
      hierarchies = sym (hierarchy_outline all) ∙ ap hierarchy outlines ∙ hierarchy_outline (with_kernel full)

      -- what a method that is inherited is in the declarations
      record Inherited (d : InterfaceDraft) (name : List ℕ) : Type 0 where
        above : IsAbove full (class_in m (filled all m fill d)) (introducer all (key d) name)
        introduced : Introduces (with_kernel full) (introducer all (key d) name) name
        owner : owner (with_kernel full) (record { class = introducer all (key d) name; name = name }) ≡ record { class = introducer all (key d) name; name = name }

      inherited_so : (d : InterfaceDraft) (name : List ℕ) → is_inherited all (key d) name ≡ true → Inherited d name
      inherited_so d name e =
          let h = inherits_from all (key d) name e in
          let a = introducer all (key d) name in
          let there : Mem a (ancestors all (key d)) = mem_middle (ancestors all (key d)) h.first.before h.first.after a h.first.parts in
          let moved : Mem a (anc (hierarchy (with_kernel full)) (key d)) = subst (λ (z : Hierarchy ClassKey). Mem a (anc z (key d))) hierarchies there in
          let up : IsAbove full (class_in m (filled all m fill d)) a = record { other = h.other; above = (ancestors_law (hierarchy (with_kernel full)) keys_tell low (key d) a).0 moved } in
          let named : Introduces (with_kernel full) a name = introduces_by (with_kernel full) a name (class_at (with_kernel full) a) refl (sym (introduced_so all (with_kernel full) introduce_same a name) ∙ h.first.passes) in
          record {
            above = up;
            introduced = named;
            owner = owner_own (with_kernel full) (record { class = a; name = name })
                (both _ (introduces (with_kernel full) name a) (says_inherits full declared differ stand rule (class_in m (filled all m fill d)) a name up named)).1;
          }

      abbrev ref : InterfaceDraft → List ℕ → MethodRef
      ref d name = record { class = introducer all (key d) name; name = name }

      over_of : (d : InterfaceDraft) → Mem d ds → (name : List ℕ) → Mem name (overridden d.text.items) → Inherited d name
      over_of d n name k = inherited_so d name (overridden_says module_of all (key d) d (inherited d n) name k)

      overridden_apart : (d : InterfaceDraft) → Apart (overridden d.text.items)
      overridden_apart d = left_apart (λ name. among name (selecting d.text.items)) (replaced d.text.items) (adds_apart [] (with_modifier is_override (given d.text.items)) tt)

      one_ref : (d : InterfaceDraft) (x y : List ℕ) → ref d x ≡ ref d y → x ≡ y
      one_ref d x y e = ap (λ (r : MethodRef). r.name) e

      over_owners : (d : InterfaceDraft) → Mem d ds → map (λ (o : Override). owner (with_kernel full) o.method) (map (override_of all (key d)) (overridden d.text.items)) ≡ map (ref d) (overridden d.text.items)
      over_owners d n =
          map_map (λ (o : Override). owner (with_kernel full) o.method) (override_of all (key d)) (overridden d.text.items)
          ∙ map_where (λ name. owner (with_kernel full) (ref d name)) (ref d) (overridden d.text.items) (λ name k. (over_of d n name k).owner)

      -- an override of a class, and the method of which it is one
      override_from : (c : Class) (o : Override) → Mem c full → Mem o c.decl.overrides
          → (d : InterfaceDraft) × Mem d ds × (c ≡ class_in m (filled all m fill d)) × (name : List ℕ) × Mem name (overridden d.text.items) × (o ≡ override_of all (key d) name)
      override_from c o n k = elim (mem_split c base own n) [
        | inl b ↦ absurd (subst (λ (z : List Override). Mem o z) (bare c b).0 k)
        | inr b ↦ (let r = class_from c b in
            let q = map_mem (override_of all (key r.0)) o (overridden r.0.text.items) (subst (λ (z : Class). Mem o z.decl.overrides) r.2 k) in
            (r.0, r.1, r.2, q.0, q.1, q.2))
      ]

      pub overrides_inherited : OverridesInherited full
      overrides_inherited = record {
        above = λ c o n k.
            let r = override_from c o n k in
            let h = over_of r.0 r.1 r.3 r.4 in
            subst (λ (z : Class). IsAbove full z (owner (with_kernel full) o.method).class) (sym r.2)
            (subst (λ (z : Override). IsAbove full (class_in m (filled all m fill r.0)) (owner (with_kernel full) z.method).class) (sym r.5)
            (subst (λ (z : MethodRef). IsAbove full (class_in m (filled all m fill r.0)) z.class) (sym h.owner) h.above));
        introduced = λ c o n k.
            let r = override_from c o n k in
            let h = over_of r.0 r.1 r.3 r.4 in
            subst (λ (z : Override). Introduces (with_kernel full) (owner (with_kernel full) z.method).class (owner (with_kernel full) z.method).name) (sym r.5)
            (subst (λ (z : MethodRef). Introduces (with_kernel full) z.class z.name) (sym h.owner) h.introduced);
        once = λ c n. elim (mem_split c base own n) [
          | inl b ↦ subst (λ (z : List Override). Differ (λ (o : Override). owner (with_kernel full) o.method) z) (sym (bare c b).0) (apart_differ (λ (o : Override). owner (with_kernel full) o.method) [] tt)
          | inr b ↦ (let r = class_from c b in
              subst (λ (z : Class). Differ (λ (o : Override). owner (with_kernel full) o.method) z.decl.overrides) (sym r.2)
              (apart_differ (λ (o : Override). owner (with_kernel full) o.method) (map (override_of all (key r.0)) (overridden r.0.text.items))
              (subst Apart (sym (over_owners r.0 r.1)) (map_apart (ref r.0) (overridden r.0.text.items) (one_ref r.0) (overridden_apart r.0)))))
        ];
      }

      -- ---- selects

      module _ (fills : (d : InterfaceDraft) → Mem d ds → fill d ≡ map (select_of all (key d) (or_object d.text.parents)) (chosen d.text.items))
          (standing : first (flat_map text_s11 ds) ≡ None) where
        taken_of : (d : InterfaceDraft) → Mem d ds → (s : Chosen) → Mem s (chosen d.text.items) → Takes module_of all (key d) d s
        taken_of d n s k = selected_says module_of all (key d) d (inherited d n) s k

        chosen_of : (d : InterfaceDraft) → Mem d ds → (s : Chosen) → Mem s (chosen d.text.items) → Inherited d s.method
        chosen_of d n s k = inherited_so d s.method (taken_of d n s k).1

        abbrev make : InterfaceDraft → Chosen → Select
        make d s = select_of all (key d) (or_object d.text.parents) s

        select_from : (c : Class) (s : Select) → Mem c full → Mem s c.decl.selects
            → (d : InterfaceDraft) × Mem d ds × (c ≡ class_in m (filled all m fill d)) × (x : Chosen) × Mem x (chosen d.text.items) × (s ≡ make d x)
        select_from c s n k = elim (mem_split c base own n) [
          | inl b ↦ absurd (subst (λ (z : List Select). Mem s z) (bare c b).1 k)
          | inr b ↦ (let r = class_from c b in
              let q = map_mem (make r.0) s (chosen r.0.text.items) (subst (λ (z : List Select). Mem s z) (fills r.0 r.1) (subst (λ (z : Class). Mem s z.decl.selects) r.2 k)) in
              (r.0, r.1, r.2, q.0, q.1, q.2))
        ]

        methods_apart : (d : InterfaceDraft) → Mem d ds → Apart (map (λ (s : Chosen). s.method) (chosen d.text.items))
        methods_apart d n =
            let h = differ_apart (λ (name : List ℕ). name) (with_modifier is_select (given d.text.items)) (((modifiers_law ds).0 standing).selecting d n) in
            subst Apart (map_same (with_modifier is_select (given d.text.items)) ∙ sym (chosen_methods (given d.text.items))) h

        select_owners : (d : InterfaceDraft) → Mem d ds → map (λ (s : Select). owner (with_kernel full) s.method) (map (make d) (chosen d.text.items)) ≡ map (ref d) (map (λ (s : Chosen). s.method) (chosen d.text.items))
        select_owners d n =
            map_map (λ (s : Select). owner (with_kernel full) s.method) (make d) (chosen d.text.items)
            ∙ map_where (λ (s : Chosen). owner (with_kernel full) (ref d s.method)) (λ (s : Chosen). ref d s.method) (chosen d.text.items) (λ s k. (chosen_of d n s k).owner)
            ∙ sym (map_map (ref d) (λ (s : Chosen). s.method) (chosen d.text.items))

        takes_from : (d : InterfaceDraft) → Mem d ds → (x : Chosen) → Mem x (chosen d.text.items) → TakesFrom full (class_in m (filled all m fill d)) (place_of (or_object d.text.parents) x.parent) (introducer all (key d) x.method)
        takes_from d n x k =
            let t = taken_of d n x k in
            record {
              parent = key_of module_of x.parent;
              there = ap (λ (z : ClassDecl). slice_get z.face.parents (place_of (or_object d.text.parents) x.parent)) (are d n)
                  ∙ parent_at (key_of module_of) (or_object d.text.parents) x.parent ((among_mem x.parent (or_object d.text.parents)).0 t.0);
              above = (descent full declared differ stand (key_of module_of x.parent) (introducer all (key d) x.method)).0
                  (sym (same_descent all (with_kernel full) outlines (key_of module_of x.parent) (introducer all (key d) x.method)) ∙ t.2);
            }

        -- no method is overridden and selected
        never_both : (d : InterfaceDraft) (name : List ℕ) (x : Chosen) → Mem name (overridden d.text.items) → Mem x (chosen d.text.items) → name ≡ x.method → ⊥
        never_both d name x over sel same =
            let fails = without_fails (λ name. among name (selecting d.text.items)) name (replaced d.text.items) over in
            let there : Mem x.method (with_modifier is_select (given d.text.items)) =
            subst (λ (z : List (List ℕ)). Mem x.method z) (chosen_methods (given d.text.items)) (mem_map (λ (s : Chosen). s.method) x (chosen d.text.items) sel) in
            true≢false (sym (ap (λ z. among z (selecting d.text.items)) same ∙ (among_mem x.method (selecting d.text.items)).1 (says_once x.method [] (with_modifier is_select (given d.text.items)) there)) ∙ fails)

        pub selects_inherited : SelectsInherited full
        selects_inherited = record {
          above = λ c s n k.
              let r = select_from c s n k in
              let h = chosen_of r.0 r.1 r.3 r.4 in
              subst (λ (z : Class). IsAbove full z (owner (with_kernel full) s.method).class) (sym r.2)
              (subst (λ (z : Select). IsAbove full (class_in m (filled all m fill r.0)) (owner (with_kernel full) z.method).class) (sym r.5)
              (subst (λ (z : MethodRef). IsAbove full (class_in m (filled all m fill r.0)) z.class) (sym h.owner) h.above));
          introduced = λ c s n k.
              let r = select_from c s n k in
              let h = chosen_of r.0 r.1 r.3 r.4 in
              subst (λ (z : Select). Introduces (with_kernel full) (owner (with_kernel full) z.method).class (owner (with_kernel full) z.method).name) (sym r.5)
              (subst (λ (z : MethodRef). Introduces (with_kernel full) z.class z.name) (sym h.owner) h.introduced);
          parent = λ c s n k.
              let r = select_from c s n k in
              let h = chosen_of r.0 r.1 r.3 r.4 in
              subst (λ (z : Class). TakesFrom full z s.parent (owner (with_kernel full) s.method).class) (sym r.2)
              (subst (λ (z : Select). TakesFrom full (class_in m (filled all m fill r.0)) z.parent (owner (with_kernel full) z.method).class) (sym r.5)
              (subst (λ (z : MethodRef). TakesFrom full (class_in m (filled all m fill r.0)) (place_of (or_object r.0.text.parents) r.3.parent) z.class) (sym h.owner) (takes_from r.0 r.1 r.3 r.4)));
          once = λ c n. elim (mem_split c base own n) [
            | inl b ↦ subst (λ (z : List Select). Differ (λ (s : Select). owner (with_kernel full) s.method) z) (sym (bare c b).1) (apart_differ (λ (s : Select). owner (with_kernel full) s.method) [] tt)
            | inr b ↦ (let r = class_from c b in
                subst (λ (z : Class). Differ (λ (s : Select). owner (with_kernel full) s.method) z.decl.selects) (sym r.2)
                (subst (λ (z : List Select). Differ (λ (s : Select). owner (with_kernel full) s.method) z) (sym (fills r.0 r.1))
                (apart_differ (λ (s : Select). owner (with_kernel full) s.method) (map (make r.0) (chosen r.0.text.items))
                (subst Apart (sym (select_owners r.0 r.1)) (map_apart (ref r.0) (map (λ (s : Chosen). s.method) (chosen r.0.text.items)) (one_ref r.0) (methods_apart r.0 r.1))))))
          ];
          apart = λ c o s n k l same. elim (mem_split c base own n) [
            | inl b ↦ absurd (subst (λ (z : List Select). Mem s z) (bare c b).1 l)
            | inr b ↦ (let r = class_from c b in
                let p = map_mem (override_of all (key r.0)) o (overridden r.0.text.items) (subst (λ (z : Class). Mem o z.decl.overrides) r.2 k) in
                let q = map_mem (make r.0) s (chosen r.0.text.items) (subst (λ (z : List Select). Mem s z) (fills r.0 r.1) (subst (λ (z : Class). Mem s z.decl.selects) r.2 l)) in
                let left : owner (with_kernel full) o.method ≡ ref r.0 p.0 = ap (λ (z : Override). owner (with_kernel full) z.method) p.2 ∙ (over_of r.0 r.1 p.0 p.1).owner in
                let right : owner (with_kernel full) s.method ≡ ref r.0 q.0.method = ap (λ (z : Select). owner (with_kernel full) z.method) q.2 ∙ (chosen_of r.0 r.1 q.0 q.1).owner in
                never_both r.0 p.0 q.0 p.1 q.1 (one_ref r.0 p.0 q.0.method (sym left ∙ same ∙ right)))
          ];
        }
