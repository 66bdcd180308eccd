-- What a class of texts overrides and selects is a method that it has.
use Rattle.std.proofs.Common.{◌≡◌, ℕ, zero, suc, ◌+◌, inl, inr, Bool, true, false, List, [], ◌∷◌, map, slice_get, Option, Some, None, is_some, refl, sym, ap, ◌∙◌, subst, arith, true≢false}
use Rattle.std.specs.Prelude.{unwrap_or}
use Rattle.std.specs.Str.{bytes_eq}
use Rattle.som_model.specs.declared.key.ClassKey.{ClassKey}
use Rattle.som_model.specs.declared.key.MethodRef.{MethodRef}
use Rattle.som_model.specs.declared.key.Module.{Module}
use Rattle.som_model.specs.declared.class.Entry.{Entry}
use Rattle.som_model.specs.declared.class.Entry.TheVariants as entries
use Rattle.som_model.specs.declared.class.Sig.{Sig}
use Rattle.som_model.specs.declared.class.Way.{Way}
use Rattle.som_model.specs.declared.program.Interface.{Interface}
use Rattle.som_model.specs.Ancestors.{anc}
use Rattle.som_model.specs.Class.{Class, class_in, entry_name, entry_of, introduced_sig}
use Rattle.som_model.specs.Classes.{class_at, hierarchy, interface_classes}
use Rattle.som_model.specs.Keys.{same_key}
use Rattle.som_model.specs.Lists.{Mem, first, place_from}
use Rattle.som_model.specs.Owner.{entry_at, introduces, owner, owner_within}
use Rattle.som_model.specs.Resolution.{byname}
use Rattle.som_model.proofs.KeyLaws.{both, exact_bytes, exact_keys}
use Rattle.som_model.proofs.ListLaws.{get_map}
use Rattle.som_model_laws.proofs.Laws.{among_mem, ancestors as ancestors_law, byname_found, byname_none}
use Rattle.som_model_laws.proofs.Members.{find_first}
use Rattle.som_ast.specs.declared.interface.IdlInterface.{IdlInterface}
use Rattle.som_verify_classes.specs.Modules.{AreDeclared}
use Rattle.som_verify_classes.specs.Places.{with_kernel}
use Rattle.som_verify_classes.specs.Plainly.{ClassesHold, Introduces}
use Rattle.som_verify_classes.proofs.Owners.{mem_middle}
use Rattle.som_verify_classes.proofs.PlainLists.{mem_map}
use Rattle.som_verify_classes.proofs.PlainMoves.{says_inherits}
use Rattle.som_sema_scope.specs.ClassNames.{key_of}
use Rattle.som_sema_drafts.specs.Drafts.{InterfaceDraft, draft_of}
use Rattle.som_sema_drafts.specs.Items.{Chosen, chosen, or_object}
use Rattle.som_sema_decls.specs.Known.{after_base}
use Rattle.som_sema.specs.Building.{declarations, module_over, texts_breach}
use Rattle.som_sema_decls.specs.Finished.{introducer, place_of, select_of}
use Rattle.som_sema.specs.TextRules.{is_inherited, text_s10}
use Rattle.som_sema.proofs.Introducing.{same_introducer}
use Rattle.som_sema.proofs.Replaced.{inherited_own}
use Rattle.som_sema.proofs.TextInherited.{selected_says}
use Rattle.som_elab.specs.Elaboration.{classes_over, among_over}
use Rattle.som_elab.proofs.Declared.{find_mem, own}
use Rattle.som_elab.proofs.Signatures.{class_there}
use Rattle.som_elab_laws.specs.Bodies.{SelectSays, SelectsSay, no_select, one_select}
use Rattle.som_elab_laws.specs.Keeping.{first_place, interfaces_over, known_classes}
use Rattle.som_elab_laws.specs.Named.{HasMethod}
use Rattle.som_elab_laws.proofs.InheritedLaws.{Above, above_so, are, declared_of, low, same_methods, same_outlines, tells}
use Rattle.som_elab_laws.proofs.KeepingLaws.{none_broken}
use Rattle.som_elab_laws.proofs.NamedLaws.{entry_named}

-- ---- a name stands at its place

abbrev IsPlaced : ℕ → List ℕ → List (List ℕ) → Type 0
IsPlaced n name names = (i : ℕ) × (place_from n (bytes_eq name) names ≡ Some (i + n)) × (slice_get names i ≡ Some name)

place_step : (x : List ℕ) (names : List (List ℕ)) (name : List ℕ) (n : ℕ) (b : Bool) → bytes_eq name x ≡ b → Mem name (x ∷ names) → (Mem name names → IsPlaced (suc n) name names) → IsPlaced n name (x ∷ names)
place_step x names name n true e m rest = (0, rw e (ap (λ z. Some z) (omega arith)), ap (λ z. Some z) (sym (exact_bytes.two name x e)))
place_step x names name n false e (inl is) rest = absurd (true≢false (sym (ap (bytes_eq name) (sym is) ∙ exact_bytes.one name) ∙ e))
place_step x names name n false e (inr k) rest =
    let r = rest k in
    let sum : r.0 + suc n ≡ suc r.0 + n = omega arith in
    (suc r.0, rw e (r.1 ∙ ap (λ z. Some z) sum), r.2)

place_there : (names : List (List ℕ)) (name : List ℕ) (n : ℕ) → Mem name names → IsPlaced n name names
place_there [] name n m = absurd m
place_there (x ∷ names) name n m = place_step x names name n (bytes_eq name x) refl m (place_there names name (suc n))

parent_at : {B : Type 0} (f : List ℕ → B) (names : List (List ℕ)) (name : List ℕ) → Mem name names → slice_get (map f names) (place_of names name) ≡ Some (f name)
parent_at f names name m =
    let r = place_there names name 0 m in
    let at : place_of names name ≡ r.0 = ap (λ o. unwrap_or o 0) r.1 ∙ omega arith in
    ap (slice_get (map f names)) at ∙ get_map f names r.0 name r.2

-- ---- what a class introduces

-- the entry by which a class introduces a name
pub introduced_entry : (cs : List Class) (k : ClassKey) (name : List ℕ) → introduces cs name k ≡ true → (sig : Sig) × (way : Way) × (entry_at cs k name ≡ Some (entries.Introduced name sig way))
introduced_entry cs k name e = by (entry_at cs k name) refl e
  where
    by : (o : Option Entry) → entry_at cs k name ≡ o → is_some (introduced_sig o) ≡ true → (sig : Sig) × (way : Way) × (entry_at cs k name ≡ Some (entries.Introduced name sig way))
    by None is t = absurd (true≢false (sym t))
    by (Some (entries.Moved n to)) is t = absurd (true≢false (sym t))
    by (Some (entries.Introduced n sig way)) is t =
        (sig, way, is ∙ ap (λ z. Some (entries.Introduced z sig way)) (entry_named cs k name (entries.Introduced n sig way) is))

introduces_says : (cs : List Class) (k : ClassKey) (name : List ℕ) → introduces cs name k ≡ true → Introduces cs k name
introduces_says cs k name i =
    let r = introduced_entry cs k name i in
    by (class_at cs k) refl r.0 r.1 r.2
  where
    by : (o : Option Class) → class_at cs k ≡ o → (sig : Sig) (way : Way) → entry_at cs k name ≡ Some (entries.Introduced name sig way) → Introduces cs k name
    by None is sig way e = absurd (let z : None ≡ Some (entries.Introduced name sig way) = rw is at e in cc)
    by (Some c) is sig way e =
        let z : entry_of c.decl.face.entries name ≡ Some (entries.Introduced name sig way) = rw is at e in
        record {
          class = c;
          there = find_mem (λ (x : Class). same_key x.key k) cs c is;
          named = exact_keys.two c.key k (find_first (λ (x : Class). same_key x.key k) cs c is).passes;
          sig = sig;
          way = way;
          entry = find_mem (λ (x : Entry). bytes_eq (entry_name x) name) c.decl.face.entries (entries.Introduced name sig way) z;
        }

-- a method that is named by its owner
owner_stays : (cs : List Class) (n : ℕ) (r : MethodRef) (sig : Sig) (way : Way) → entry_at cs r.class r.name ≡ Some (entries.Introduced r.name sig way) → owner_within cs n r ≡ r
owner_stays cs zero r sig way e = refl
owner_stays cs (suc n) r sig way e = rw e refl

pub owner_own : (cs : List Class) (r : MethodRef) (sig : Sig) (way : Way) → entry_at cs r.class r.name ≡ Some (entries.Introduced r.name sig way) → owner cs r ≡ r
owner_own cs r sig way e = owner_stays cs ((hierarchy cs).height r.class) r sig way e

-- ---- the methods that a class of texts has

module _ (m : Module) (base : Interface) (is : List IdlInterface) (holds : ClassesHold (after_base m (interface_classes base) (declarations m base is)))
    (rules : texts_breach m base is ≡ None) (i : IdlInterface) (there : Mem i is) where
  abbrev module_of : List ℕ → Module
  module_of = module_over m base is

  abbrev ds : List InterfaceDraft
  ds = interfaces_over m base is

  abbrev before : List Class
  before = interface_classes base

  abbrev known : List Class
  known = with_kernel (known_classes m base is)

  abbrev finished : List Class
  finished = after_base m before (declarations m base is)

  abbrev cs : List Class
  cs = classes_over m base is

  abbrev d : InterfaceDraft
  d = draft_of module_of i

  abbrev c : Class
  c = class_in m (own m base is i).class

  pub inherited_here : first (text_s10 module_of known c.key d) ≡ None
  inherited_here =
      inherited_own module_of m before ds (are m base is).by (with_kernel before) ds (first_place base) refl refl (none_broken m base is rules).ten d (mem_map (draft_of module_of) i is there)

  declared : AreDeclared finished
  declared = declared_of m base is (declarations m base is)

  module _ (name : List ℕ) (a : ClassKey) (up : Above m base is c name a) where
    introduces_it : introduces cs name a ≡ true
    introduces_it = (both _ (introduces cs name a) (says_inherits finished declared holds.names holds.stand holds.entries c a name up.above up.introduced)).1

    -- of the ancestors only one introduces it
    first_is : byname (hierarchy cs) (introduces cs name) c.key ≡ Some a
    first_is = by (byname (hierarchy cs) (introduces cs name) c.key) refl
      where
        by : (o : Option ClassKey) → byname (hierarchy cs) (introduces cs name) c.key ≡ o → o ≡ Some a
        by None e = absurd (true≢false (sym introduces_it ∙ (byname_none (hierarchy cs) (introduces cs name) c.key).0 e a up.ancestor))
        by (Some b) e =
            let f = (byname_found (hierarchy cs) (introduces cs name) c.key b).0 e in
            let below : Mem b (anc (hierarchy cs) c.key) = mem_middle (anc (hierarchy cs) c.key) f.before f.after b f.parts in
            ap Some (sym (holds.once.by c a b name (class_there m base is holds i there) up.above.above ((ancestors_law (hierarchy cs) (tells m base is) (low m base is holds.names holds.stand) c.key b).0 below) up.introduced (introduces_says cs b name f.passes)))

  -- the class has a method that it inherits: the one of the first ancestor that introduces the name
  pub has_method : (name : List ℕ) → is_inherited known c.key name ≡ true → (sig : Sig) × (way : Way) × HasMethod cs c.key name (record { class = introducer known c.key name; name = name }) sig way
  has_method name e =
      let a = introducer known c.key name in
      let up = above_so m base is holds.names holds.stand c name e in
      let r = introduced_entry cs a name (introduces_it name a up) in
      (r.0, r.1, record { named = refl; first = first_is name a up; entry = r.2 })

  -- ---- what it selects

  select_says : (s : Chosen) → Mem s (chosen i.items) → SelectSays (among_over m base is) c s (select_of cs c.key (or_object i.parents) s)
  select_says s n =
      let t = selected_says module_of known c.key d inherited_here s n in
      let h = has_method s.method t.1 in
      record {
        sig = h.0;
        way = h.1;
        method = subst (λ (k : ClassKey). HasMethod cs c.key s.method (record { class = k; name = s.method }) h.0 h.1) (same_introducer known cs (same_outlines m base is) (same_methods m base is) c.key s.method) h.2;
        parent = parent_at (key_of module_of) (or_object i.parents) s.parent ((among_mem s.parent (or_object i.parents)).0 t.0);
      }

  pub selects_say : (ss : List Chosen) → ((s : Chosen) → Mem s ss → Mem s (chosen i.items)) → SelectsSay (among_over m base is) c ss (map (select_of cs c.key (or_object i.parents)) ss)
  selects_say [] part = no_select
  selects_say (s ∷ ss) part = one_select (select_says s (part s (inl refl))) (selects_say ss (λ x n. part x (inr n)))
