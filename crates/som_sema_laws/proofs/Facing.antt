-- What an interface declares is what it says.
use Rattle.std.proofs.Common.{◌≡◌, ℕ, inl, inr, List, [], ◌∷◌, map, flat_map, Option, Some, None, refl, sym, ap, ◌∙◌, subst, true≢false}
use Rattle.std.specs.Prelude.{codes}
use Rattle.std.specs.Str.{bytes_eq}
use Rattle.som_model.specs.declared.key.Module.{Module}
use Rattle.som_model.specs.declared.key.ClassKey.{ClassKey}
use Rattle.som_model.specs.declared.class.Sig.{Sig}
use Rattle.som_model.specs.declared.class.Way.{Way}
use Rattle.som_model.specs.declared.class.Entry.{Entry}
use Rattle.som_model.specs.declared.class.Entry.TheVariants as entries
use Rattle.som_model.specs.Class.{Class, entry_name, entry_of, introduced}
use Rattle.som_model.specs.Classes.{hierarchy}
use Rattle.som_model.specs.EffectiveOrder.{effective_order}
use Rattle.som_model.specs.Kernel.{som_object}
use Rattle.som_model.specs.Lists.{Mem, among, without}
use Rattle.som_model.specs.Owner.{introduces}
use Rattle.som_model.specs.Resolution.{byname}
use Rattle.som_model.proofs.KeyLaws.{exact_bytes}
use Rattle.som_model_laws.proofs.Members.{Apart, find_none, mem_split, without_mem}
use Rattle.som_ast.specs.declared.words.Word.{Word}
use Rattle.som_ast.specs.declared.interface.IdlInterface.{IdlInterface}
use Rattle.som_ast.specs.declared.interface.Export.{Export}
use Rattle.som_ast.specs.declared.interface.Export.TheVariants as exports
use Rattle.som_ast.specs.declared.interface.Item.{Item}
use Rattle.som_ast.specs.declared.interface.Item.TheVariants as items
use Rattle.som_verify_classes.proofs.PlainLists.{map_mem}
use Rattle.som_sema_scope.specs.ClassNames.{key_of}
use Rattle.som_sema_drafts.specs.Items.{item_words, listed, or_object}
use Rattle.som_sema_drafts.specs.Drafts.{draft_of, export_variables, item_variables, variables}
use Rattle.som_sema_drafts.specs.Drafts.{introduces as own_entries}
use Rattle.som_sema_decls.specs.Finished.{declare_at, entry_for, entry_or_moved, introducer}
use Rattle.som_sema.proofs.Introducing.{introduced_mem}
use Rattle.som_sema.proofs.OwnClasses.{entry_there}
use Rattle.som_sema_laws.specs.Faces.{AttributeVariables, EntrySays, FaceSays, ItemVariables, ParentsSay, PlaceByPlace, VariablesSay, WaySays, a_declared_entry, a_method, a_moved_entry, an_attribute, an_item, another_item, class_of, no_attribute, no_item, no_parent, some_parents, variable_of}
use Rattle.som_sema_laws.proofs.Placed.{map_both, placed}
use Rattle.som_sema_laws.proofs.Once.{list_says, major_says, metaclass_says, minor_says}
use Rattle.som_sema_laws.proofs.Declaring.{declared, declared_names, declared_there, misses, way_says}

-- ---- parents

parents_say : (module_of : List ℕ → Module) → key_of module_of (codes "SOMObject") ≡ som_object → (ws : List Word) → ParentsSay module_of ws (map (key_of module_of) (or_object ws))
parents_say module_of e [] = subst (λ (k : ClassKey). ParentsSay module_of [] (k ∷ [])) (sym e) no_parent
parents_say module_of e (w ∷ ws) =
    some_parents (subst (PlaceByPlace (class_of module_of) (w ∷ ws)) (ap (λ z. class_of module_of w ∷ z) (sym (map_both (key_of module_of) (λ (x : Word). x.text) ws))) (placed (class_of module_of) (w ∷ ws)))

-- ---- variables

attributes_say : (module_of : List ℕ → Module) (es : List Export) → AttributeVariables module_of es (flat_map (export_variables module_of) es)
attributes_say module_of [] = no_attribute
attributes_say module_of (exports.Operation result w ps ∷ es) = a_method (attributes_say module_of es)
attributes_say module_of (exports.Attribute readonly kind ws ∷ es) = an_attribute (placed (variable_of module_of kind) ws) (attributes_say module_of es)

items_say : (module_of : List ℕ → Module) (is : List Item) → ItemVariables module_of is (flat_map (item_variables module_of) is)
items_say module_of [] = no_item
items_say module_of (items.Variables kind ws ∷ is) = an_item (placed (variable_of module_of kind) ws) (items_say module_of is)
items_say module_of (items.ReleaseOrder vs ∷ is) = another_item (λ kind ws e. absurd (cc)) (items_say module_of is)
items_say module_of (items.Metaclass w ∷ is) = another_item (λ kind ws e. absurd (cc)) (items_say module_of is)
items_say module_of (items.Major n ∷ is) = another_item (λ kind ws e. absurd (cc)) (items_say module_of is)
items_say module_of (items.Minor n ∷ is) = another_item (λ kind ws e. absurd (cc)) (items_say module_of is)
items_say module_of (items.Method w ms ∷ is) = another_item (λ kind ws e. absurd (cc)) (items_say module_of is)

pub variables_say : (module_of : List ℕ → Module) (i : IdlInterface) → VariablesSay module_of i (variables module_of i)
variables_say module_of i = record {
  before = flat_map (export_variables module_of) i.before;
  inside = flat_map (item_variables module_of) i.items;
  after = flat_map (export_variables module_of) i.after;
  of_first = attributes_say module_of i.before;
  of_items = items_say module_of i.items;
  of_last = attributes_say module_of i.after;
  are = refl;
}

-- ---- entries

named_so : (to : ClassKey) (own : List Entry) (name : List ℕ) (o : Option Entry) → entry_of own name ≡ o → entry_name (entry_or_moved to name o) ≡ name
named_so to own name None e = refl
named_so to own name (Some x) e = (entry_there own name x e).1

order_names : (known : List Class) (k : ClassKey) (own : List Entry) (names : List (List ℕ)) → map entry_name (map (entry_for known k own) names) ≡ names
order_names known k own [] = refl
order_names known k own (name ∷ names) =
    ap (λ z. z ∷ map entry_name (map (entry_for known k own) names)) (named_so (introducer known k name) own name (entry_of own name) refl)
    ∙ ap (λ z. name ∷ z) (order_names known k own names)

not_there : (own : List Entry) (name : List ℕ) → entry_of own name ≡ None → (sig : Sig) (way : Way) → Mem (entries.Introduced name sig way) own → ⊥
not_there own name e sig way m = true≢false (sym (exact_bytes.one name) ∙ find_none (λ (x : Entry). bytes_eq (entry_name x) name) own e (entries.Introduced name sig way) m)

-- SOMObject is the kernel's, the items are said once, and what was moved up is where the classes have it
pub record Stands (module_of : List ℕ → Module) (cs known : List Class) (k : ClassKey) (i : IdlInterface) : Type 0 where
  pub object : key_of module_of (codes "SOMObject") ≡ som_object
  pub once : Apart (item_words i.items)
  pub moved : (name : List ℕ) → Mem name (listed i.items) → (Mem name (introduced (own_entries module_of i)) → ⊥)
      → byname (hierarchy cs) (introduces cs name) (class_of module_of i.name) ≡ Some (introducer known k name)

module _ (module_of : List ℕ → Module) (cs known : List Class) (k : ClassKey) (i : IdlInterface) (stands : Stands module_of cs known k i) where
  abbrev own : List Entry
  own = own_entries module_of i

  abbrev list : List (List ℕ)
  list = listed i.items

  abbrev order : List (List ℕ)
  order = effective_order list (introduced own)

  not_own : (name : List ℕ) → entry_of own name ≡ None → Mem name (introduced own) → ⊥
  not_own name e m = let r = introduced_mem own name m in not_there own name e r.0 r.1 r.2

  moved_says : (name : List ℕ) → Mem name order → entry_of own name ≡ None → EntrySays module_of i cs (entries.Moved name (introducer known k name))
  moved_says name n e =
      let inside : Mem name list = elim (mem_split name list (without (λ x. among x list) (introduced own)) n) [
        | inl p ↦ p
        | inr p ↦ absurd (not_own name e (without_mem (λ x. among x list) name (introduced own) p))
      ] in
      a_moved_entry (λ sig d. not_there own name e sig _ (declared_there module_of i name sig d)) (stands.moved name inside (not_own name e))

  entry_says : (name : List ℕ) → Mem name order → (o : Option Entry) → entry_of own name ≡ o → EntrySays module_of i cs (entry_or_moved (introducer known k name) name o)
  entry_says name n None e = moved_says name n e
  entry_says name n (Some (entries.Moved x to)) e = absurd (declared module_of i (entries.Moved x to) (entry_there own name (entries.Moved x to) e).0)
  entry_says name n (Some (entries.Introduced x sig way)) e =
      let d = declared module_of i (entries.Introduced x sig way) (entry_there own name (entries.Introduced x sig way) e).0 in
      a_declared_entry d.0 (subst (WaySays module_of i x) (sym d.1) (way_says module_of i x))

  -- the face that the interface declares is what it says
  pub face_says : FaceSays module_of cs i (declare_at known k (draft_of module_of i)).face
  face_says = record {
    name = refl;
    major = major_says i.items stands.once;
    minor = minor_says i.items stands.once;
    parents = parents_say module_of stands.object i.parents;
    metaclass = metaclass_says module_of i.items stands.once;
    order = record {
      listed = list;
      declared = introduced own;
      missed = without (λ name. among name list) (introduced own);
      front = list_says i.items stands.once;
      names = declared_names module_of i;
      behind = misses list (introduced own);
      is = order_names known k own order;
    };
    entries = λ e m.
        (let r = map_mem (entry_for known k own) e order m in
        subst (EntrySays module_of i cs) (sym r.2) (entry_says r.0 r.1 (entry_of own r.0) refl));
  }
