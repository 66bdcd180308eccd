-- An interface says one face.
use Rattle.std.proofs.Common.{◌≡◌, ℕ, inl, inr, ◌⊎◌, List, [], ◌∷◌, ◌++◌, map, Option, Some, refl, sym, ap, ◌∙◌, subst}
use Rattle.som_model.specs.declared.key.Module.{Module}
use Rattle.som_model.specs.declared.key.ClassKey.{ClassKey}
use Rattle.som_model.specs.declared.class.Sig.{Sig}
use Rattle.som_model.specs.declared.class.Way.{Way}
use Rattle.som_model.specs.declared.class.Entry.{Entry}
use Rattle.som_model.specs.declared.class.Entry.TheVariants as entries
use Rattle.som_model.specs.declared.class.ClassFace.{ClassFace}
use Rattle.som_model.specs.declared.class.Variable.{Variable}
use Rattle.som_model.specs.Class.{Class, entry_name, introduced, introduced_sig}
use Rattle.som_model.specs.Classes.{hierarchy}
use Rattle.som_model.specs.Lists.{Mem}
use Rattle.som_model.specs.Owner.{introduces}
use Rattle.som_model.specs.Resolution.{byname}
use Rattle.som_model_laws.proofs.Members.{Apart}
use Rattle.som_ast.specs.declared.words.Word.{Word}
use Rattle.som_ast.specs.declared.interface.IdlInterface.{IdlInterface}
use Rattle.som_ast.specs.declared.interface.Export.{Export}
use Rattle.som_ast.specs.declared.interface.Item.{Item}
use Rattle.som_ast.specs.declared.interface.Item.TheVariants as items
use Rattle.som_verify_classes.specs.Plainly.{Differ}
use Rattle.som_verify_classes.proofs.PlainLists.{differ_apart}
use Rattle.som_sema_drafts.specs.Items.{by_name}
use Rattle.som_sema_drafts.specs.Drafts.{way_of}
use Rattle.som_sema_drafts.specs.Drafts.{introduces as own_entries}
use Rattle.som_sema_laws.specs.Faces.{AttributeVariables, DeclaredNames, Declares, EntrySays, FaceSays, ItemVariables, ListSays, MetaclassSays, Misses, OrderSays, ParentsSay, VariablesSay, VersionSays, WaySays, a_declared_entry, a_method, a_moved_entry, an_attribute, an_item, another_item, class_of, no_attribute, no_item, no_parent, some_parents, text_of, variable_of}
use Rattle.som_sema_laws.proofs.Placed.{only_placed}
use Rattle.som_sema_laws.proofs.Declaring.{declared_names, declared_there, one_order, one_rest, one_way}

-- ---- whether there is such an item

-- a thing is one of the items, or none is
abbrev pub IsOrNot : {B : Type 0} → (B → Item) → Item → Type 0
IsOrNot {B = B} item x = ((b : B) × (item b ≡ x)) ⊎ ((b : B) → item b ≡ x → ⊥)

abbrev pub HasOrNot : {B : Type 0} → (B → Item) → List Item → Type 0
HasOrNot {B = B} item is = ((b : B) × Mem (item b) is) ⊎ ((b : B) → Mem (item b) is → ⊥)

has_next : {B : Type 0} (item : B → Item) (x : Item) (is : List Item) → IsOrNot item x → HasOrNot item is → HasOrNot item (x ∷ is)
has_next item x is (inl r) h = inl (r.0, inl r.1)
has_next item x is (inr f) (inl r) = inl (r.0, inr r.1)
has_next {B = B} item x is (inr f) (inr g) = inr none
  where
    none : (b : B) → Mem (item b) (x ∷ is) → ⊥
    none b (inl e) = f b e
    none b (inr m) = g b m

has_or_not : {B : Type 0} (item : B → Item) → ((x : Item) → IsOrNot item x) → (is : List Item) → HasOrNot item is
has_or_not item one [] = inr (λ b m. m)
has_or_not item one (x ∷ is) = has_next item x is (one x) (has_or_not item one is)

is_major : (x : Item) → IsOrNot items.Major x
is_major (items.Major n) = inl (n, refl)
is_major _ = inr (λ n e. absurd (cc))

is_minor : (x : Item) → IsOrNot items.Minor x
is_minor (items.Minor n) = inl (n, refl)
is_minor _ = inr (λ n e. absurd (cc))

is_metaclass : (x : Item) → IsOrNot items.Metaclass x
is_metaclass (items.Metaclass w) = inl (w, refl)
is_metaclass _ = inr (λ w e. absurd (cc))

is_list : (x : Item) → IsOrNot items.ReleaseOrder x
is_list (items.ReleaseOrder ws) = inl (ws, refl)
is_list _ = inr (λ ws e. absurd (cc))

-- ---- what is said once

one_version : (item : ℕ → Item) (is : List Item) (a b : ℕ) → HasOrNot item is → VersionSays item is a → VersionSays item is b → a ≡ b
one_version item is a b (inl r) p q = p.said r.0 r.1 ∙ sym (q.said r.0 r.1)
one_version item is a b (inr f) p q = p.unsaid f ∙ sym (q.unsaid f)

one_metaclass : (module_of : List ℕ → Module) (is : List Item) (a b : Option ClassKey) → HasOrNot items.Metaclass is → MetaclassSays module_of is a → MetaclassSays module_of is b → a ≡ b
one_metaclass module_of is a b (inl r) p q = p.said r.0 r.1 ∙ sym (q.said r.0 r.1)
one_metaclass module_of is a b (inr f) p q = p.unsaid f ∙ sym (q.unsaid f)

one_list : (is : List Item) (a b : List (List ℕ)) → HasOrNot items.ReleaseOrder is → ListSays is a → ListSays is b → a ≡ b
one_list is a b (inl r) p q = only_placed text_of r.0 a (p.said r.0 r.1) ∙ sym (only_placed text_of r.0 b (q.said r.0 r.1))
one_list is a b (inr f) p q = p.unsaid f ∙ sym (q.unsaid f)

one_parents : (module_of : List ℕ → Module) (ws : List Word) (a b : List ClassKey) → ParentsSay module_of ws a → ParentsSay module_of ws b → a ≡ b
one_parents module_of ws a b no_parent no_parent = refl
one_parents module_of ws a b (some_parents {w = w} {ws = vs} p) (some_parents q) = only_placed (class_of module_of) (w ∷ vs) a p ∙ sym (only_placed (class_of module_of) (w ∷ vs) b q)

one_names : (i : IdlInterface) (a b : List (List ℕ)) → OrderSays i a → OrderSays i b → a ≡ b
one_names i a b p q =
    let lists = one_list i.items p.listed q.listed (has_or_not items.ReleaseOrder is_list i.items) p.front q.front in
    let names = one_order (i.before ++ i.after) p.declared q.declared p.names q.names in
    let rest = one_rest q.listed q.declared p.missed q.missed (subst (λ z. Misses q.listed z p.missed) names (subst (λ z. Misses z p.declared p.missed) lists p.behind)) q.behind in
    p.is ∙ ap (λ z. z ++ p.missed) lists ∙ ap (λ z. q.listed ++ z) rest ∙ sym q.is

-- ---- methods

introduced_there : (es : List Entry) (name : List ℕ) (sig : Sig) (way : Way) → Mem (entries.Introduced name sig way) es → Mem name (introduced es)
introduced_there [] name sig way m = absurd m
introduced_there (entries.Moved x to ∷ es) name sig way (inl e) = absurd (cc)
introduced_there (entries.Moved x to ∷ es) name sig way (inr m) = introduced_there es name sig way m
introduced_there (entries.Introduced x s w ∷ es) name sig way (inl e) = inl (ap entry_name e)
introduced_there (entries.Introduced x s w ∷ es) name sig way (inr m) = inr (introduced_there es name sig way m)

one_sig : (es : List Entry) (name : List ℕ) (s t : Sig) (way : Way) → Apart (introduced es) → Mem (entries.Introduced name s way) es → Mem (entries.Introduced name t way) es → s ≡ t
one_sig [] name s t way o m n = absurd m
one_sig (entries.Moved x to ∷ es) name s t way o (inl e) n = absurd (cc)
one_sig (entries.Moved x to ∷ es) name s t way o (inr m) (inl e) = absurd (cc)
one_sig (entries.Moved x to ∷ es) name s t way o (inr m) (inr n) = one_sig es name s t way o m n
one_sig (entries.Introduced x q u ∷ es) name s t way o (inl e) (inl f) =
    let a : Some s ≡ Some q = ap (λ z. introduced_sig (Some z)) e in
    let b : Some t ≡ Some q = ap (λ z. introduced_sig (Some z)) f in
    cc
one_sig (entries.Introduced x q u ∷ es) name s t way o (inl e) (inr n) = absurd (o.0 (subst (λ z. Mem z (introduced es)) (ap entry_name e) (introduced_there es name t way n)))
one_sig (entries.Introduced x q u ∷ es) name s t way o (inr m) (inl f) = absurd (o.0 (subst (λ z. Mem z (introduced es)) (ap entry_name f) (introduced_there es name s way m)))
one_sig (entries.Introduced x q u ∷ es) name s t way o (inr m) (inr n) = one_sig es name s t way o.1 m n

map_same : {A : Type 0} (xs : List A) → map (λ (x : A). x) xs ≡ xs
map_same [] = refl
map_same (x ∷ xs) = ap (λ z. x ∷ z) (map_same xs)

module _ (module_of : List ℕ → Module) (cs : List Class) (i : IdlInterface) (names : List (List ℕ)) (said : DeclaredNames (i.before ++ i.after) names) (once : Differ (λ (name : List ℕ). name) names) where
  apart : Apart (introduced (own_entries module_of i))
  apart = subst Apart (map_same names ∙ one_order (i.before ++ i.after) names (introduced (own_entries module_of i)) said (declared_names module_of i)) (differ_apart (λ (name : List ℕ). name) names once)

  one_signature : (name : List ℕ) (s t : Sig) → Declares module_of i name s → Declares module_of i name t → s ≡ t
  one_signature name s t p q = one_sig (own_entries module_of i) name s t (way_of (by_name i.items) name) apart (declared_there module_of i name s p) (declared_there module_of i name t q)

  one_entry : (e f : Entry) → entry_name e ≡ entry_name f → EntrySays module_of i cs e → EntrySays module_of i cs f → e ≡ f
  one_entry (entries.Introduced x s v) (entries.Introduced y t w) n (a_declared_entry p a) (a_declared_entry q b) =
      let sigs = one_signature x s t p (subst (λ z. Declares module_of i z t) (sym n) q) in
      let ways = one_way module_of i x v w a (subst (λ z. WaySays module_of i z w) (sym n) b) in
      ap (λ z. entries.Introduced z s v) n ∙ ap (λ z. entries.Introduced y z v) sigs ∙ ap (λ z. entries.Introduced y t z) ways
  one_entry (entries.Introduced x s v) (entries.Moved y to) n (a_declared_entry p a) (a_moved_entry f b) = absurd (f s (subst (λ z. Declares module_of i z s) n p))
  one_entry (entries.Moved x to) (entries.Introduced y t w) n (a_moved_entry f b) (a_declared_entry q a) = absurd (f t (subst (λ z. Declares module_of i z t) (sym n) q))
  one_entry (entries.Moved x a) (entries.Moved y b) n (a_moved_entry f p) (a_moved_entry g q) =
      let r : byname (hierarchy cs) (introduces cs x) (class_of module_of i.name) ≡ Some b = subst (λ z. byname (hierarchy cs) (introduces cs z) (class_of module_of i.name) ≡ Some b) (sym n) q in
      let same : a ≡ b = one_some (sym p ∙ r) in
      ap (λ z. entries.Moved z a) n ∙ ap (λ z. entries.Moved y z) same
    where
      one_some : {u v : ClassKey} → Some u ≡ Some v → u ≡ v
      one_some e = let z = e in cc

  one_entries : (es fs : List Entry) → map entry_name es ≡ map entry_name fs → ((e : Entry) → Mem e es → EntrySays module_of i cs e) → ((f : Entry) → Mem f fs → EntrySays module_of i cs f) → es ≡ fs
  one_entries [] [] n p q = refl
  one_entries [] (f ∷ fs) n p q = absurd (cc)
  one_entries (e ∷ es) [] n p q = absurd (cc)
  one_entries (e ∷ es) (f ∷ fs) n p q =
      let here : entry_name e ≡ entry_name f = (let z = n in cc) in
      let later : map entry_name es ≡ map entry_name fs = (let z = n in cc) in
      ap (λ z. z ∷ es) (one_entry e f here (p e (inl refl)) (q f (inl refl)))
      ∙ ap (λ z. f ∷ z) (one_entries es fs later (λ x m. p x (inr m)) (λ x m. q x (inr m)))

  -- an interface that declares no name twice says one face
  pub one_face : (f g : ClassFace) → FaceSays module_of cs i f → FaceSays module_of cs i g → f ≡ g
  one_face f g p q =
      let name : f.name ≡ g.name = p.name ∙ sym q.name in
      let major : f.major ≡ g.major = one_version items.Major i.items f.major g.major (has_or_not items.Major is_major i.items) p.major q.major in
      let minor : f.minor ≡ g.minor = one_version items.Minor i.items f.minor g.minor (has_or_not items.Minor is_minor i.items) p.minor q.minor in
      let parents : f.parents ≡ g.parents = one_parents module_of i.parents f.parents g.parents p.parents q.parents in
      let metaclass : f.metaclass ≡ g.metaclass = one_metaclass module_of i.items f.metaclass g.metaclass (has_or_not items.Metaclass is_metaclass i.items) p.metaclass q.metaclass in
      let own : f.entries ≡ g.entries = one_entries f.entries g.entries (one_names i (map entry_name f.entries) (map entry_name g.entries) p.order q.order) p.entries q.entries in
      ap (λ (z : List ℕ). let r : ClassFace = record f { name = z } in r) name
      ∙ ap (λ (z : ℕ). let r : ClassFace = record f { name = g.name; major = z } in r) major
      ∙ ap (λ (z : ℕ). let r : ClassFace = record f { name = g.name; major = g.major; minor = z } in r) minor
      ∙ ap (λ (z : List ClassKey). let r : ClassFace = record g { parents = z; metaclass = f.metaclass; entries = f.entries } in r) parents
      ∙ ap (λ (z : Option ClassKey). let r : ClassFace = record g { metaclass = z; entries = f.entries } in r) metaclass
      ∙ ap (λ (z : List Entry). let r : ClassFace = record g { entries = z } in r) own

-- ---- variables

one_attributes : (module_of : List ℕ → Module) (es : List Export) (a b : List Variable) → AttributeVariables module_of es a → AttributeVariables module_of es b → a ≡ b
one_attributes module_of es a b no_attribute no_attribute = refl
one_attributes module_of es a b (a_method p) (a_method q) = one_attributes module_of _ _ _ p q
one_attributes module_of es a b (an_attribute {kind = kind} {ws = ws} {own = own} {vs = vs} x p) (an_attribute {own = other} {vs = us} y q) =
    ap (λ z. z ++ vs) (only_placed (variable_of module_of kind) ws own x ∙ sym (only_placed (variable_of module_of kind) ws other y)) ∙ ap (λ z. other ++ z) (one_attributes module_of _ vs us p q)

one_items : (module_of : List ℕ → Module) (is : List Item) (a b : List Variable) → ItemVariables module_of is a → ItemVariables module_of is b → a ≡ b
one_items module_of is a b no_item no_item = refl
one_items module_of is a b (another_item f p) (another_item g q) = one_items module_of _ _ _ p q
one_items module_of is a b (another_item f p) (an_item {kind = kind} {ws = ws} x q) = absurd (f kind ws refl)
one_items module_of is a b (an_item {kind = kind} {ws = ws} x p) (another_item f q) = absurd (f kind ws refl)
one_items module_of is a b (an_item {kind = kind} {ws = ws} {own = own} {vs = vs} x p) (an_item {own = other} {vs = us} y q) =
    ap (λ z. z ++ vs) (only_placed (variable_of module_of kind) ws own x ∙ sym (only_placed (variable_of module_of kind) ws other y)) ∙ ap (λ z. other ++ z) (one_items module_of _ vs us p q)

-- and one list of variables
pub one_variables : (module_of : List ℕ → Module) (i : IdlInterface) (a b : List Variable) → VariablesSay module_of i a → VariablesSay module_of i b → a ≡ b
one_variables module_of i a b p q =
    let x = one_attributes module_of i.before p.before q.before p.of_first q.of_first in
    let y = one_items module_of i.items p.inside q.inside p.of_items q.of_items in
    let z = one_attributes module_of i.after p.after q.after p.of_last q.of_last in
    p.are ∙ ap (λ u. u ++ p.inside ++ p.after) x ∙ ap (λ u. q.before ++ u ++ p.after) y ∙ ap (λ u. q.before ++ q.inside ++ u) z ∙ sym q.are
