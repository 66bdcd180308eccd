-- From lists of breaches to plain words and back.
use Rattle.std.proofs.Common.{◌≡◌, ◌↔◌, ℕ, zero, suc, ◌+◌, inl, inr, ◌⊎◌, Bool, true, false, not, ◌&&◌, if◌then◌else◌, List, [], ◌∷◌, ◌++◌, map, flat_map, take, Some, None, slice_get, refl, sym, ap, ◌∙◌, subst, arith}
use Rattle.std.specs.Prelude.{codes}
use Rattle.std.specs.Str.{bytes_eq}
use Rattle.som_model.specs.declared.key.Module.{Module}
use Rattle.som_model.specs.Lists.{Mem, among, doubles, first, some}
use Rattle.som_model.specs.Hierarchy.{Falls, Tells}
use Rattle.som_model.specs.Ancestors.{Descends}
use Rattle.som_model.specs.Class.{Class, introduced}
use Rattle.som_model.specs.Classes.{hierarchy, is_a}
use Rattle.som_model.specs.Kernel.{som_class}
use Rattle.som_model.proofs.KeyLaws.{both, exact_bytes, exact_keys}
use Rattle.som_model.proofs.NamedLaws.{hierarchy_same}
use Rattle.som_model.proofs.ListLaws.{is_false}
use Rattle.som_model_laws.proofs.Laws.{among_mem, descends_test}
use Rattle.som_model_laws.proofs.Members.{mem_left, mem_right, mem_split}
use Rattle.som_model_laws.proofs.Lists.{flat_mem, mem_flat}
use Rattle.som_ast.specs.declared.words.Word.{Word}
use Rattle.som_ast.specs.declared.interface.Item.{Item}
use Rattle.som_ast.specs.declared.interface.Item.TheVariants as items
use Rattle.som_ast.specs.declared.interface.Modifier.{Modifier}
use Rattle.som_ast.specs.declared.interface.Modifier.TheVariants as modifiers
use Rattle.som_verify_classes.specs.Plainly.{Differ, IsAmong}
use Rattle.som_model_laws.specs.Once.{add_new, adds}
use Rattle.som_verify_classes.proofs.Before.{both_none, none_both}
use Rattle.som_verify_classes.proofs.Owners.{flat_none}
use Rattle.som_verify_classes.proofs.PlainLists.{apart_by, apart_differ, by_apart, differ_apart, map_mem, map_none, mem_map, none_flat, none_map}
use Rattle.som_verify_classes.proofs.PlainNames.{among_known, known_among}
use Rattle.som_sema_scope.specs.ClassNames.{key_of}
use Rattle.som_sema_drafts.specs.Items.{Given, given, is_call, is_override, is_select, item_words, listed, metaclass_in, metaclass_names, or_object, replaced, with_modifier}
use Rattle.som_sema_scope.specs.Words.{once}
use Rattle.som_sema_drafts.specs.Drafts.{InterfaceDraft}
use Rattle.som_sema_drafts.specs.Demands.{text_breach, text_demand}
use Rattle.som_sema_local.specs.OwnRules.{Said, may_be, misplaced, nothing_said, said_after, second, text_s6, text_s11, text_s12}
use Rattle.som_sema.specs.TextRules.{base_stands, bases, makes_classes, text_s2, text_s2_from, text_s4}
use Rattle.som_sema.specs.PlainTexts.{BasesStand, ItemsDiffer, MetaclassesDescend, ModifiersStand, NamesDiffer}
use Rattle.som_sema.proofs.TextBases.{demanded_text}

pub says_text : (n : ℕ) (d : InterfaceDraft) (member : List ℕ) (b : Bool) → b ≡ true → first (text_demand n d member b) ≡ None
says_text n d member b e = rw e refl

pub map_same : {A : Type 0} (xs : List A) → map (λ (x : A). x) xs ≡ xs
map_same [] = refl
map_same (x ∷ xs) = ap (λ z. x ∷ z) (map_same xs)

-- nothing stands a second time

second_says : (n : ℕ) (d : InterfaceDraft) (names : List (List ℕ)) → first (second n d names) ≡ None → Differ (λ (name : List ℕ). name) names
second_says n d names e =
    apart_differ (λ (name : List ℕ). name) names (rw (map_same names) (apart_by bytes_eq exact_bytes names (none_map (text_breach n d) (doubles bytes_eq [] names) e)))

says_second : (n : ℕ) (d : InterfaceDraft) (names : List (List ℕ)) → Differ (λ (name : List ℕ). name) names → first (second n d names) ≡ None
says_second n d names r =
    map_none (text_breach n d) (doubles bytes_eq [] names) (by_apart bytes_eq exact_bytes names (rw (map_same names) at (differ_apart (λ (name : List ℕ). name) names r)))

-- S6
pub names_law : (ds : List InterfaceDraft) → (first (flat_map text_s6 ds) ≡ None) ↔ NamesDiffer ds
names_law ds = (
  (λ e. record {
    introduced = λ d m. second_says 6 d _ (none_both (second 6 d (introduced d.class.face.entries)) (second 6 d (listed d.text.items)) (flat_none text_s6 ds d e m)).0;
    listed = λ d m. second_says 6 d _ (none_both (second 6 d (introduced d.class.face.entries)) (second 6 d (listed d.text.items)) (flat_none text_s6 ds d e m)).1;
  }),
  (λ r. none_flat text_s6 ds (λ d m.
      both_none (second 6 d (introduced d.class.face.entries)) (second 6 d (listed d.text.items)) (says_second 6 d _ (r.introduced d m)) (says_second 6 d _ (r.listed d m)))),
)

-- S12
pub items_law : (ds : List InterfaceDraft) → (first (flat_map text_s12 ds) ≡ None) ↔ ItemsDiffer ds
items_law ds = (
  (λ e. record { by = λ d m. second_says 12 d (item_words d.text.items) (flat_none text_s12 ds d e m) }),
  (λ r. none_flat text_s12 ds (λ d m. says_second 12 d (item_words d.text.items) (r.by d m))),
)

-- metaclass items

item_named : (w : Word) (is : List Item) → Mem (items.Metaclass w) is → Mem w.text (metaclass_names is)
item_named w is m = mem_flat metaclass_in w.text (items.Metaclass w) is m (inl refl)

named_in : (x : Item) (name : List ℕ) → Mem name (metaclass_in x) → (w : Word) × (x ≡ items.Metaclass w) × (name ≡ w.text)
named_in (items.Metaclass w) name (inl e) = (w, refl, e)
named_in (items.Metaclass w) name (inr m) = absurd m
named_in (items.ReleaseOrder ws) name m = absurd m
named_in (items.Major n) name m = absurd m
named_in (items.Minor n) name m = absurd m
named_in (items.Method w ms) name m = absurd m
named_in (items.Variables t ws) name m = absurd m

named_item : (is : List Item) (name : List ℕ) → Mem name (metaclass_names is) → (w : Word) × Mem (items.Metaclass w) is × (name ≡ w.text)
named_item is name m =
    let r = flat_mem metaclass_in name is m in
    let s = named_in r.0 name r.2 in
    (s.0, subst (λ (z : Item). Mem z is) s.1 r.1, s.2)

-- S4
module _ (module_of : List ℕ → Module) (cs : List Class) (low : Falls (hierarchy cs)) where
  tells : Tells (hierarchy cs)
  tells = record {
    one = λ x. hierarchy_same cs x x ∙ exact_keys.one x;
    two = λ x y e. exact_keys.two x y (sym (hierarchy_same cs x y) ∙ e);
  }

  pub metaclasses_law : (ds : List InterfaceDraft) → (first (flat_map (text_s4 module_of cs) ds) ≡ None) ↔ MetaclassesDescend module_of cs ds
  metaclasses_law ds = (
    (λ e. record {
      by = λ d w m n. (descends_test (hierarchy cs) tells low (key_of module_of w.text) som_class).0
          (demanded_text 4 d (codes "-") (is_a cs (key_of module_of w.text) som_class)
          (flat_none (makes_classes module_of cs d) (metaclass_names d.text.items) w.text (flat_none (text_s4 module_of cs) ds d e m) (item_named w d.text.items n)));
    }),
    (λ r. none_flat (text_s4 module_of cs) ds (λ d m. none_flat (makes_classes module_of cs d) (metaclass_names d.text.items) (λ name n.
        (let s = named_item d.text.items name n in
        says_text 4 d (codes "-") (is_a cs (key_of module_of name) som_class)
        ((descends_test (hierarchy cs) tells low (key_of module_of name) som_class).1
        (subst (λ (z : List ℕ). Descends (hierarchy cs) (key_of module_of z) som_class) (sym s.2) (r.by d s.0 m s.1))))))),
  )

-- S2

word_named : (w : Word) (ws : List Word) → Mem w ws → Mem w.text (or_object ws)
word_named w [] m = absurd m
word_named w (x ∷ ws) m = mem_map (λ (w : Word). w.text) w (x ∷ ws) m

named_word : (ws : List Word) (name : List ℕ) → Mem name (or_object ws) → ((ws ≡ []) × (name ≡ codes "SOMObject")) ⊎ ((w : Word) × Mem w ws × (name ≡ w.text))
named_word [] name (inl e) = inl (refl, e)
named_word [] name (inr m) = absurd m
named_word (x ∷ ws) name m = inr (map_mem (λ (w : Word). w.text) name (x ∷ ws) m)

stands_at : (module_of : List ℕ → Module) (cs : List Class) (n : ℕ) (ds : List InterfaceDraft) → first (text_s2_from module_of cs n ds) ≡ None → (i : ℕ) (d : InterfaceDraft) → slice_get ds i ≡ Some d → first (text_s2 module_of (take (i + n) cs) d) ≡ None
stands_at module_of cs n [] e i d at = absurd (cc)
stands_at module_of cs n (x ∷ ds) e zero d at =
    let same : x ≡ d = cc in
    let here : 0 + n ≡ n = omega arith in
    subst (λ (z : InterfaceDraft). first (text_s2 module_of (take (0 + n) cs) z) ≡ None) same
    (subst (λ k. first (text_s2 module_of (take k cs) x) ≡ None) (sym here) (none_both (text_s2 module_of (take n cs) x) (text_s2_from module_of cs (suc n) ds) e).0)
stands_at module_of cs n (x ∷ ds) e (suc i) d at =
    let sum : i + suc n ≡ suc i + n = omega arith in
    subst (λ k. first (text_s2 module_of (take k cs) d) ≡ None) sum (stands_at module_of cs (suc n) ds (none_both (text_s2 module_of (take n cs) x) (text_s2_from module_of cs (suc n) ds) e).1 i d at)

at_stands : (module_of : List ℕ → Module) (cs : List Class) (n : ℕ) (ds : List InterfaceDraft) → ((i : ℕ) (d : InterfaceDraft) → slice_get ds i ≡ Some d → first (text_s2 module_of (take (i + n) cs) d) ≡ None) → first (text_s2_from module_of cs n ds) ≡ None
at_stands module_of cs n [] f = refl
at_stands module_of cs n (x ∷ ds) f =
    let here : 0 + n ≡ n = omega arith in
    both_none (text_s2 module_of (take n cs) x) (text_s2_from module_of cs (suc n) ds)
    (subst (λ k. first (text_s2 module_of (take k cs) x) ≡ None) here (f 0 x refl))
    (at_stands module_of cs (suc n) ds (λ i d at. (let sum : suc i + n ≡ i + suc n = omega arith in subst (λ k. first (text_s2 module_of (take k cs) d) ≡ None) sum (f (suc i) d at))))

module _ (module_of : List ℕ → Module) where
  base_says : (before : List Class) (d : InterfaceDraft) (name : List ℕ) → first (text_s2 module_of before d) ≡ None → Mem name (bases d.text) → IsAmong before (key_of module_of name)
  base_says before d name e m = known_among before (key_of module_of name) (demanded_text 2 d name _ (flat_none (base_stands module_of before d) (bases d.text) name e m))

  says_base : (before : List Class) (d : InterfaceDraft) → ((name : List ℕ) → Mem name (bases d.text) → IsAmong before (key_of module_of name)) → first (text_s2 module_of before d) ≡ None
  says_base before d f = none_flat (base_stands module_of before d) (bases d.text) (λ name m. says_text 2 d name _ (among_known before (key_of module_of name) (f name m)))

  pub bases_law : (cs : List Class) (n : ℕ) (ds : List InterfaceDraft) → (first (text_s2_from module_of cs n ds) ≡ None) ↔ BasesStand module_of cs n ds
  bases_law cs n ds = (
    (λ e. record {
      parents = λ i d w at m. base_says (take (i + n) cs) d w.text (stands_at module_of cs n ds e i d at) (mem_left w.text (or_object d.text.parents) (metaclass_names d.text.items) (word_named w d.text.parents m));
      object = λ i d at none. base_says (take (i + n) cs) d (codes "SOMObject") (stands_at module_of cs n ds e i d at)
          (mem_left (codes "SOMObject") (or_object d.text.parents) (metaclass_names d.text.items) (subst (λ (z : List Word). Mem (codes "SOMObject") (or_object z)) (sym none) (inl refl)));
      metaclasses = λ i d w at m. base_says (take (i + n) cs) d w.text (stands_at module_of cs n ds e i d at) (mem_right w.text (or_object d.text.parents) (metaclass_names d.text.items) (item_named w d.text.items m));
    }),
    (λ r. at_stands module_of cs n ds (λ i d at. says_base (take (i + n) cs) d (λ name m.
        elim (mem_split name (or_object d.text.parents) (metaclass_names d.text.items) m) [
          | inl p ↦ (elim (named_word d.text.parents name p) [
            | inl o ↦ subst (λ (z : List ℕ). IsAmong (take (i + n) cs) (key_of module_of z)) (sym o.1) (r.object i d at o.0)
            | inr q ↦ subst (λ (z : List ℕ). IsAmong (take (i + n) cs) (key_of module_of z)) (sym q.2) (r.parents i d q.0 at q.1)
          ])
          | inr p ↦ (let s = named_item d.text.items name p in subst (λ (z : List ℕ). IsAmong (take (i + n) cs) (key_of module_of z)) (sym s.2) (r.metaclasses i d s.0 at s.1))
        ]))),
  )

-- S11

allowed : (b : Bool) (x : List ℕ) → first (if b then [] else x ∷ []) ≡ None → b ≡ true
allowed true x e = refl
allowed false x e = absurd (cc)

one_double : (b : Bool) (x : List ℕ) (before ys : List (List ℕ)) → (if b then x ∷ doubles bytes_eq before ys else doubles bytes_eq (before ++ x ∷ []) ys) ≡ [] → (b ≡ false) × (doubles bytes_eq (before ++ x ∷ []) ys ≡ [])
one_double true x before ys e = absurd (cc)
one_double false x before ys e = (refl, e)

no_double : (x : List ℕ) (before ys : List (List ℕ)) → among x before ≡ false → doubles bytes_eq (before ++ x ∷ []) ys ≡ [] → doubles bytes_eq before (x ∷ ys) ≡ []
no_double x before ys n e = rw n e

record Placed (own known : List (List ℕ)) (before : Said) (replacing calling selecting : List (List ℕ)) : Type 0 where
  once_replaced : doubles bytes_eq before.replaced replacing ≡ []
  once_called : doubles bytes_eq before.called calling ≡ []
  once_selecting : doubles bytes_eq before.selecting selecting ≡ []
  introduced : (name : List ℕ) → Mem name calling → among name own ≡ true
  replaced : (name : List ℕ) → Mem name selecting → among name known ≡ true

abbrev Places : List (List ℕ) → List (List ℕ) → Said → List Given → Type 0
Places own known before gs = Placed own known before (with_modifier is_override gs) (with_modifier is_call gs) (with_modifier is_select gs)

abbrev said_one : List ℕ → Modifier → Said → Said
said_one x m before = said_after (record { method = x; modifier = m }) before

placed_by : (m : Modifier) (own known : List (List ℕ)) (before : Said) (x : List ℕ) (gs : List Given)
    → ((b : Said) → first (misplaced own known b gs) ≡ None → Places own known b gs)
    → first ((if may_be own known before x m then [] else x ∷ []) ++ misplaced own known (said_one x m before) gs) ≡ None
    → Placed own known before ((if is_override m then x ∷ [] else []) ++ with_modifier is_override gs) ((if is_call m then x ∷ [] else []) ++ with_modifier is_call gs)
    ((if is_select m then x ∷ [] else []) ++ with_modifier is_select gs)
placed_by modifiers.Override own known before x gs f e =
    let p = none_both (if not (among x before.replaced) then [] else x ∷ []) (misplaced own known (said_one x modifiers.Override before) gs) e in
    let r = f (said_one x modifiers.Override before) p.1 in
    record {
      once_replaced = no_double x before.replaced (with_modifier is_override gs) (is_false (among x before.replaced) (allowed (not (among x before.replaced)) x p.0)) r.once_replaced;
      once_called = r.once_called;
      once_selecting = r.once_selecting;
      introduced = r.introduced;
      replaced = r.replaced;
    }
placed_by modifiers.NameLookup own known before x gs f e =
    let p = none_both (if among x own && not (among x before.called) then [] else x ∷ []) (misplaced own known (said_one x modifiers.NameLookup before) gs) e in
    let q = both (among x own) (not (among x before.called)) (allowed (among x own && not (among x before.called)) x p.0) in
    let r = f (said_one x modifiers.NameLookup before) p.1 in
    record {
      once_replaced = r.once_replaced;
      once_called = no_double x before.called (with_modifier is_call gs) (is_false (among x before.called) q.1) r.once_called;
      once_selecting = r.once_selecting;
      introduced = λ name m. elim m [ inl is ↦ subst (λ z. among z own ≡ true) (sym is) q.0 | inr n ↦ r.introduced name n ];
      replaced = r.replaced;
    }
placed_by modifiers.Offset own known before x gs f e =
    let p = none_both (if among x own && not (among x before.called) then [] else x ∷ []) (misplaced own known (said_one x modifiers.Offset before) gs) e in
    let q = both (among x own) (not (among x before.called)) (allowed (among x own && not (among x before.called)) x p.0) in
    let r = f (said_one x modifiers.Offset before) p.1 in
    record {
      once_replaced = r.once_replaced;
      once_called = no_double x before.called (with_modifier is_call gs) (is_false (among x before.called) q.1) r.once_called;
      once_selecting = r.once_selecting;
      introduced = λ name m. elim m [ inl is ↦ subst (λ z. among z own ≡ true) (sym is) q.0 | inr n ↦ r.introduced name n ];
      replaced = r.replaced;
    }
placed_by (modifiers.Select parent) own known before x gs f e =
    let p = none_both (if among x known && not (among x before.selecting) then [] else x ∷ []) (misplaced own known (said_one x (modifiers.Select parent) before) gs) e in
    let q = both (among x known) (not (among x before.selecting)) (allowed (among x known && not (among x before.selecting)) x p.0) in
    let r = f (said_one x (modifiers.Select parent) before) p.1 in
    record {
      once_replaced = r.once_replaced;
      once_called = r.once_called;
      once_selecting = no_double x before.selecting (with_modifier is_select gs) (is_false (among x before.selecting) q.1) r.once_selecting;
      introduced = r.introduced;
      replaced = λ name m. elim m [ inl is ↦ subst (λ z. among z known ≡ true) (sym is) q.0 | inr n ↦ r.replaced name n ];
    }

placed_says : (own known : List (List ℕ)) (before : Said) (gs : List Given) → first (misplaced own known before gs) ≡ None → Places own known before gs
placed_says own known before [] e = record { once_replaced = refl; once_called = refl; once_selecting = refl; introduced = λ name m. absurd m; replaced = λ name m. absurd m }
placed_says own known before (g ∷ gs) e = placed_by g.modifier own known before g.method gs (λ b. placed_says own known b gs) e

by_placed : (m : Modifier) (own known : List (List ℕ)) (before : Said) (x : List ℕ) (gs : List Given)
    → ((b : Said) → Places own known b gs → first (misplaced own known b gs) ≡ None)
    → Placed own known before ((if is_override m then x ∷ [] else []) ++ with_modifier is_override gs) ((if is_call m then x ∷ [] else []) ++ with_modifier is_call gs)
    ((if is_select m then x ∷ [] else []) ++ with_modifier is_select gs)
    → first ((if may_be own known before x m then [] else x ∷ []) ++ misplaced own known (said_one x m before) gs) ≡ None
by_placed modifiers.Override own known before x gs f p =
    let d = one_double (among x before.replaced) x before.replaced (with_modifier is_override gs) p.once_replaced in
    let rest = f (said_one x modifiers.Override before) (record { once_replaced = d.1; once_called = p.once_called; once_selecting = p.once_selecting; introduced = p.introduced; replaced = p.replaced }) in
    let new = d.0 in
    rw new rest
by_placed modifiers.NameLookup own known before x gs f p =
    let d = one_double (among x before.called) x before.called (with_modifier is_call gs) p.once_called in
    let mine = p.introduced x (inl refl) in
    let rest = f (said_one x modifiers.NameLookup before) (record { once_replaced = p.once_replaced; once_called = d.1; once_selecting = p.once_selecting; introduced = λ name m. p.introduced name (inr m); replaced = p.replaced }) in
    let new = d.0 in
    rw (mine, new) rest
by_placed modifiers.Offset own known before x gs f p =
    let d = one_double (among x before.called) x before.called (with_modifier is_call gs) p.once_called in
    let mine = p.introduced x (inl refl) in
    let rest = f (said_one x modifiers.Offset before) (record { once_replaced = p.once_replaced; once_called = d.1; once_selecting = p.once_selecting; introduced = λ name m. p.introduced name (inr m); replaced = p.replaced }) in
    let new = d.0 in
    rw (mine, new) rest
by_placed (modifiers.Select parent) own known before x gs f p =
    let d = one_double (among x before.selecting) x before.selecting (with_modifier is_select gs) p.once_selecting in
    let mine = p.replaced x (inl refl) in
    let rest = f (said_one x (modifiers.Select parent) before) (record { once_replaced = p.once_replaced; once_called = p.once_called; once_selecting = d.1; introduced = p.introduced; replaced = λ name m. p.replaced name (inr m) }) in
    let new = d.0 in
    rw (mine, new) rest

says_placed : (own known : List (List ℕ)) (before : Said) (gs : List Given) → Places own known before gs → first (misplaced own known before gs) ≡ None
says_placed own known before [] p = refl
says_placed own known before (g ∷ gs) p = by_placed g.modifier own known before g.method gs (λ b. says_placed own known b gs) p

-- names, each once, are the names

new_split : (b : Bool) (a x : List ℕ) (seen : List (List ℕ)) → Mem a (if b then seen else seen ++ x ∷ []) → Mem a seen ⊎ (a ≡ x)
new_split true a x seen m = inl m
new_split false a x seen m = elim (mem_split a seen (x ∷ []) m) [ inl n ↦ inl n | inr n ↦ elim n [ inl e ↦ inr e | inr z ↦ absurd z ] ]

once_says : (a : List ℕ) (seen xs : List (List ℕ)) → Mem a (adds bytes_eq seen xs) → Mem a seen ⊎ Mem a xs
once_says a seen [] m = inl m
once_says a seen (x ∷ xs) m = elim (once_says a (add_new bytes_eq seen x) xs m) [
  | inl n ↦ elim (new_split (some (bytes_eq x) seen) a x seen n) [ inl k ↦ inl k | inr e ↦ inr (inl e) ]
  | inr n ↦ inr (inr n)
]

seen_new : (b : Bool) (a x : List ℕ) (seen : List (List ℕ)) → Mem a seen → Mem a (if b then seen else seen ++ x ∷ [])
seen_new true a x seen m = m
seen_new false a x seen m = mem_left a seen (x ∷ []) m

seen_once : (a : List ℕ) (seen xs : List (List ℕ)) → Mem a seen → Mem a (adds bytes_eq seen xs)
seen_once a seen [] m = m
seen_once a seen (x ∷ xs) m = seen_once a (add_new bytes_eq seen x) xs (seen_new (some (bytes_eq x) seen) a x seen m)

new_there : (b : Bool) (x : List ℕ) (seen : List (List ℕ)) → among x seen ≡ b → Mem x (if b then seen else seen ++ x ∷ [])
new_there true x seen e = (among_mem x seen).0 e
new_there false x seen e = mem_right x seen (x ∷ []) (inl refl)

pub says_once : (a : List ℕ) (seen xs : List (List ℕ)) → Mem a xs → Mem a (adds bytes_eq seen xs)
says_once a seen [] m = absurd m
says_once a seen (x ∷ xs) (inl e) = seen_once a (add_new bytes_eq seen x) xs (subst (λ z. Mem z (add_new bytes_eq seen x)) (sym e) (new_there (among x seen) x seen refl))
says_once a seen (x ∷ xs) (inr m) = says_once a (add_new bytes_eq seen x) xs m

pub mem_of_once : (a : List ℕ) (xs : List (List ℕ)) → among a (once xs) ≡ true → Mem a xs
mem_of_once a xs e = elim (once_says a [] xs ((among_mem a (once xs)).0 e)) [ inl z ↦ absurd z | inr m ↦ m ]

differ_once : (names : List (List ℕ)) → doubles bytes_eq [] names ≡ [] → Differ (λ (name : List ℕ). name) names
differ_once names e = apart_differ (λ (name : List ℕ). name) names (rw (map_same names) (apart_by bytes_eq exact_bytes names e))

once_differ : (names : List (List ℕ)) → Differ (λ (name : List ℕ). name) names → doubles bytes_eq [] names ≡ []
once_differ names r = by_apart bytes_eq exact_bytes names (rw (map_same names) at (differ_apart (λ (name : List ℕ). name) names r))

own_placed : (d : InterfaceDraft) → first (text_s11 d) ≡ None → Places (once (introduced d.class.face.entries)) (replaced d.text.items) nothing_said (given d.text.items)
own_placed d e = placed_says (once (introduced d.class.face.entries)) (replaced d.text.items) nothing_said (given d.text.items)
    (ap first (none_map (text_breach 11 d) (misplaced (once (introduced d.class.face.entries)) (replaced d.text.items) nothing_said (given d.text.items)) e))

empty : {A : Type 0} (xs : List A) → first xs ≡ None → xs ≡ []
empty [] e = refl
empty (x ∷ xs) e = absurd (cc)

pub modifiers_law : (ds : List InterfaceDraft) → (first (flat_map text_s11 ds) ≡ None) ↔ ModifiersStand ds
modifiers_law ds = (
  (λ e. record {
    overridden = λ d m. differ_once (with_modifier is_override (given d.text.items)) (own_placed d (flat_none text_s11 ds d e m)).once_replaced;
    called = λ d m. differ_once (with_modifier is_call (given d.text.items)) (own_placed d (flat_none text_s11 ds d e m)).once_called;
    own = λ d name m n. mem_of_once name (introduced d.class.face.entries) ((own_placed d (flat_none text_s11 ds d e m)).introduced name n);
    selecting = λ d m. differ_once (with_modifier is_select (given d.text.items)) (own_placed d (flat_none text_s11 ds d e m)).once_selecting;
    replaced = λ d name m n. mem_of_once name (with_modifier is_override (given d.text.items)) ((own_placed d (flat_none text_s11 ds d e m)).replaced name n);
  }),
  (λ r. none_flat text_s11 ds (λ d m.
      map_none (text_breach 11 d) (misplaced (once (introduced d.class.face.entries)) (replaced d.text.items) nothing_said (given d.text.items))
      (empty (misplaced (once (introduced d.class.face.entries)) (replaced d.text.items) nothing_said (given d.text.items))
      (says_placed (once (introduced d.class.face.entries)) (replaced d.text.items) nothing_said (given d.text.items) (record {
        once_replaced = once_differ (with_modifier is_override (given d.text.items)) (r.overridden d m);
        once_called = once_differ (with_modifier is_call (given d.text.items)) (r.called d m);
        once_selecting = once_differ (with_modifier is_select (given d.text.items)) (r.selecting d m);
        introduced = λ name n. (among_mem name (once (introduced d.class.face.entries))).1 (says_once name [] (introduced d.class.face.entries) (r.own d name m n));
        replaced = λ name n. (among_mem name (replaced d.text.items)).1 (says_once name [] (with_modifier is_override (given d.text.items)) (r.replaced d name m n));
      }))))),
)
