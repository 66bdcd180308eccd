-- The signature of a method that has a body in the texts, and that a body has as many parameters.
use Rattle.std.proofs.Common.{◌≡◌, ℕ, zero, suc, ◌&&◌, inl, inr, Bool, true, false, if◌then◌else◌, List, [], ◌∷◌, ◌++◌, length, map, flat_map, Option, Some, None, refl, sym, ap, ◌∙◌, subst, true≢false}
use Rattle.std.specs.Str.{bytes_eq}
use Rattle.std.proofs.lemmas.Bool.{eqb-true}
use Rattle.som_model.specs.declared.key.ClassKey.{ClassKey}
use Rattle.som_model.specs.declared.key.MethodRef.{MethodRef}
use Rattle.som_model.specs.declared.key.Module.{Module}
use Rattle.som_model.specs.declared.class.Sig.{Sig}
use Rattle.som_model.specs.declared.class.Way.{Way}
use Rattle.som_model.specs.declared.class.Entry.{Entry}
use Rattle.som_model.specs.declared.class.Entry.TheVariants as entries
use Rattle.som_model.specs.declared.class.Override.{Override}
use Rattle.som_model.specs.declared.program.Interface.{Interface}
use Rattle.som_model.specs.Lists.{Mem, among, find, first, or_else}
use Rattle.som_model.specs.Ancestors.{itself}
use Rattle.som_model.specs.Class.{Class, class_in, entry_name, entry_of, introduced_sig}
use Rattle.som_model.specs.Classes.{hierarchy, interface_classes}
use Rattle.som_model.specs.Kernel.{kernel}
use Rattle.som_model.specs.Owner.{entry_at, owner, owner_within, sig_of}
use Rattle.som_model.specs.Rules.{RuleBreach, name_of}
use Rattle.som_model.proofs.KeyLaws.{both, exact_bytes}
use Rattle.som_model_laws.proofs.Members.{Apart, find_first, find_none, mem_right}
use Rattle.som_ast.specs.declared.interface.IdlInterface.{IdlInterface}
use Rattle.som_ast.specs.declared.body.BodyText.{BodyText}
use Rattle.som_verify_classes.specs.Plainly.{ClassesHold, Introduces}
use Rattle.som_verify_classes.proofs.Owners.{flat_none}
use Rattle.som_verify_classes.proofs.PlainLists.{differ_apart, map_mem, mem_map}
use Rattle.som_elab_methods.specs.Accessors.{body_of}
use Rattle.som_sema_decls.specs.Known.{after_base}
use Rattle.som_sema.specs.Building.{declarations}
use Rattle.som_sema_decls.specs.Finished.{override_of}
use Rattle.som_sema_drafts.specs.Items.{overridden}
use Rattle.som_sema_drafts.specs.Drafts.{InterfaceDraft}
use Rattle.som_elab_methods.specs.Bodies.{body_sig, draft_named, operation_sig, operations, overridden_sig, override_sig, stands_for, takes_as_many, text_s13, texts_for}
use Rattle.som_elab.specs.Elaboration.{classes_over, drafts_over}
use Rattle.som_elab.proofs.Declared.{drafts_are, draft_classes_are, find_mem, find_own, operation_there, own}

-- ---- the body that is taken for a method is of its class and its name

pub record IsFor (bs : List BodyText) (class name : List ℕ) (b : BodyText) : Type 0 where
  pub there : Mem b bs
  pub class_is : b.class.text ≡ class
  pub name_is : b.method.text ≡ name

pub is_for : (bs : List BodyText) (class name : List ℕ) (b : BodyText) (rest : List BodyText) → texts_for bs class name ≡ b ∷ rest → IsFor bs class name b
is_for [] class name b rest e = absurd (let z = e in cc)
is_for (x ∷ bs) class name b rest e = by (bytes_eq x.class.text class && bytes_eq x.method.text name) refl e (is_for bs class name b rest)
  where
    by : (t : Bool) → (bytes_eq x.class.text class && bytes_eq x.method.text name) ≡ t → (if t then x ∷ texts_for bs class name else texts_for bs class name) ≡ b ∷ rest
        → (texts_for bs class name ≡ b ∷ rest → IsFor bs class name b) → IsFor (x ∷ bs) class name b
    by true t e further =
        let p = both (bytes_eq x.class.text class) (bytes_eq x.method.text name) t in
        let same : x ≡ b = let z = e in cc in
        subst (IsFor (x ∷ bs) class name) same (record { there = inl refl; class_is = exact_bytes.two x.class.text class p.0; name_is = exact_bytes.two x.method.text name p.1 })
    by false t e further = let r = further e in record { there = inr r.there; class_is = r.class_is; name_is = r.name_is }

-- ---- owners keep names

owner_name : (cs : List Class) (n : ℕ) (r : MethodRef) → (owner_within cs n r).name ≡ r.name
owner_name cs zero r = refl
owner_name cs (suc n) r = by (entry_at cs r.class r.name) refl (owner_name cs n)
  where
    by : (o : Option Entry) → entry_at cs r.class r.name ≡ o → ((q : MethodRef) → (owner_within cs n q).name ≡ q.name) → (owner_within cs (suc n) r).name ≡ r.name
    by None e further = rw e refl
    by (Some (entries.Introduced name sig way)) e further = rw e refl
    by (Some (entries.Moved name to)) e further = rw e (further (record { class = to; name = r.name }))

apart_right : {A : Type 0} (xs ys : List A) → Apart (xs ++ ys) → Apart ys
apart_right [] ys o = o
apart_right (x ∷ xs) ys o = apart_right xs ys o.1

names_both : (xs ys : List Class) → map name_of (xs ++ ys) ≡ map name_of xs ++ map name_of ys
names_both [] ys = refl
names_both (x ∷ xs) ys = ap (λ z. name_of x ∷ z) (names_both xs ys)

names_of_drafts : (m : Module) (ds : List InterfaceDraft) → map name_of (map (class_in m) (map (λ (d : InterfaceDraft). d.class) ds)) ≡ map (λ (d : InterfaceDraft). d.class.face.name) ds
names_of_drafts m [] = refl
names_of_drafts m (d ∷ ds) = ap (λ z. d.class.face.name ∷ z) (names_of_drafts m ds)

module _ (m : Module) (base : Interface) (is : List IdlInterface) (holds : ClassesHold (after_base m (interface_classes base) (declarations m base is))) where
  abbrev cs : List Class
  cs = classes_over m base is

  abbrev ds : List InterfaceDraft
  ds = drafts_over m base is

  abbrev of_text : IdlInterface → InterfaceDraft
  of_text i = own m base is i

  abbrev declared : List Class
  declared = map (class_in m) (declarations m base is)

  pub draft_there : (i : IdlInterface) → Mem i is → Mem (of_text i) ds
  draft_there i n = subst (λ z. Mem (of_text i) z) (sym (drafts_are m base is)) (mem_map of_text i is n)

  pub class_there : (i : IdlInterface) → Mem i is → Mem (class_in m (of_text i).class) (after_base m (interface_classes base) (declarations m base is))
  class_there i n =
      mem_right (class_in m (of_text i).class) (interface_classes base) declared
      (mem_map (class_in m) (of_text i).class (declarations m base is)
      (subst (λ z. Mem (of_text i).class z) (draft_classes_are m base is) (mem_map (λ (d : InterfaceDraft). d.class) (of_text i) ds (draft_there i n))))

  names_apart : Apart (map (λ (d : InterfaceDraft). d.class.face.name) ds)
  names_apart =
      subst (λ (z : List (List ℕ)). Apart z) (ap (λ z. map name_of (map (class_in m) z)) (sym (draft_classes_are m base is)) ∙ names_of_drafts m ds)
      (apart_right (map name_of (interface_classes base)) (map name_of declared)
      (subst (λ (z : List (List ℕ)). Apart z) (names_both (interface_classes base) declared) (differ_apart name_of (after_base m (interface_classes base) (declarations m base is)) holds.names.own)))

  pub named : (i : IdlInterface) → Mem i is → draft_named ds (of_text i).class.face.name ≡ Some (of_text i)
  named i n =
      find_own (λ (d : InterfaceDraft). d.class.face.name) (λ (d : InterfaceDraft). bytes_eq (of_text i).class.face.name d.class.face.name) ds (of_text i) names_apart (draft_there i n)
      (exact_bytes.one (of_text i).class.face.name) (λ d e. sym (exact_bytes.two (of_text i).class.face.name d.class.face.name e))

  -- ---- S13 of a body that is taken

  abbrev breach_unless : BodyText → Bool → List RuleBreach
  breach_unless b stands = if stands then [] else record { rule = 13; class = b.class.text; member = b.method.text } ∷ []

  demanded_s13 : (b : BodyText) (t : Bool) → first (breach_unless b t) ≡ None → t ≡ true
  demanded_s13 b true e = refl
  demanded_s13 b false e = absurd (cc)

  pub as_many : (bs : List BodyText) → first (flat_map (text_s13 cs ds) bs) ≡ None → (i : IdlInterface) → Mem i is → (name : List ℕ) (sig : Sig) → body_sig cs (of_text i) name ≡ Some sig
      → (b : BodyText) (rest : List BodyText) → texts_for bs (of_text i).class.face.name name ≡ b ∷ rest → length b.params ≡ length sig.params
  as_many bs s13 i n name sig is_sig b rest e =
      let f = is_for bs (of_text i).class.face.name name b rest e in
      let stands = demanded_s13 b (stands_for cs b (draft_named ds b.class.text)) (flat_none (text_s13 cs ds) bs b s13 f.there) in
      let here : draft_named ds b.class.text ≡ Some (of_text i) = ap (draft_named ds) f.class_is ∙ named i n in
      let signed : body_sig cs (of_text i) b.method.text ≡ Some sig = ap (body_sig cs (of_text i)) f.name_is ∙ is_sig in
      eqb-true (length b.params) (length sig.params) (sym (ap (stands_for cs b) here ∙ ap (takes_as_many b) signed) ∙ stands)

  signed_by : (b : BodyText) (o : Option Sig) → takes_as_many b o ≡ true → (sig : Sig) × (o ≡ Some sig)
  signed_by b None e = absurd (true≢false (sym e))
  signed_by b (Some sig) e = (sig, refl)

  -- a body for a method is of one that has a signature
  pub body_signed : (bs : List BodyText) → first (flat_map (text_s13 cs ds) bs) ≡ None → (i : IdlInterface) → Mem i is → (name : List ℕ) (b : BodyText) (rest : List BodyText)
      → texts_for bs (of_text i).class.face.name name ≡ b ∷ rest → (sig : Sig) × (body_sig cs (of_text i) name ≡ Some sig)
  body_signed bs s13 i n name b rest e =
      let f = is_for bs (of_text i).class.face.name name b rest e in
      let stands = demanded_s13 b (stands_for cs b (draft_named ds b.class.text)) (flat_none (text_s13 cs ds) bs b s13 f.there) in
      let here : draft_named ds b.class.text ≡ Some (of_text i) = ap (draft_named ds) f.class_is ∙ named i n in
      let r = signed_by b (body_sig cs (of_text i) b.method.text) (sym (ap (stands_for cs b) here) ∙ stands) in
      (r.0, ap (body_sig cs (of_text i)) (sym f.name_is) ∙ r.1)

  -- ---- the signatures of the methods that have bodies

  pub entry_there : (i : IdlInterface) → Mem i is → (name : List ℕ) (sig : Sig) (way : Way) → Mem (entries.Introduced name sig way) (of_text i).class.face.entries
      → entry_of (of_text i).class.face.entries name ≡ Some (entries.Introduced name sig way)
  entry_there i n name sig way e =
      find_own entry_name (λ (x : Entry). bytes_eq (entry_name x) name) (of_text i).class.face.entries (entries.Introduced name sig way)
      (differ_apart entry_name (of_text i).class.face.entries (holds.entries.by (class_in m (of_text i).class) (class_there i n))) e
      (exact_bytes.one name) (λ x t. exact_bytes.two (entry_name x) name t)

  pub operation_signed : (i : IdlInterface) → Mem i is → (name : List ℕ) (sig : Sig) (way : Way) → Mem (entries.Introduced name sig way) (of_text i).class.face.entries → body_of (of_text i) name ≡ None
      → body_sig cs (of_text i) name ≡ Some sig
  operation_signed i n name sig way e none =
      ap (λ o. or_else o (override_sig cs (of_text i) name))
      (ap (λ (t : Bool). if t then introduced_sig (entry_of (of_text i).class.face.entries name) else None) (operation_there m base is i name sig way e none)
      ∙ ap introduced_sig (entry_there i n name sig way e))

  -- a class that overrides a method introduces none of that name
  not_both : (i : IdlInterface) → Mem i is → (o : Override) → Mem o (of_text i).class.overrides → (sig : Sig) (way : Way) → Mem (entries.Introduced o.method.name sig way) (of_text i).class.face.entries → ⊥
  not_both i n o there sig way e =
      let c = class_in m (of_text i).class in
      let mine = class_there i n in
      let above = holds.overrides.above c o mine there in
      let r : MethodRef = owner cs o.method in
      let own_one : Introduces cs c.key o.method.name =
      record { class = c; there = mem_right c kernel (after_base m (interface_classes base) (declarations m base is)) mine; named = refl; sig = sig; way = way; entry = e } in
      let inherited : Introduces cs r.class o.method.name =
      subst (λ z. Introduces cs r.class z) (owner_name cs ((hierarchy cs).height o.method.class) o.method) (holds.overrides.introduced c o mine there) in
      above.other (holds.once.by c r.class c.key o.method.name mine above.above itself inherited own_one)

  none_by : (i : IdlInterface) → Mem i is → (o : Override) → Mem o (of_text i).class.overrides → (p : Option Entry) → entry_of (of_text i).class.face.entries o.method.name ≡ p → introduced_sig p ≡ None
  none_by i n o there None e = refl
  none_by i n o there (Some (entries.Moved name to)) e = refl
  none_by i n o there (Some (entries.Introduced name sig way)) e =
      let f = find_first (λ (x : Entry). bytes_eq (entry_name x) o.method.name) (of_text i).class.face.entries (entries.Introduced name sig way) e in
      absurd (not_both i n o there sig way
      (subst (λ z. Mem (entries.Introduced z sig way) (of_text i).class.face.entries) (exact_bytes.two name o.method.name f.passes)
      (find_mem (λ (x : Entry). bytes_eq (entry_name x) o.method.name) (of_text i).class.face.entries (entries.Introduced name sig way) e)))

  no_operation : (i : IdlInterface) → Mem i is → (o : Override) → Mem o (of_text i).class.overrides → operation_sig (of_text i) o.method.name ≡ None
  no_operation i n o there = by (among o.method.name (operations i))
    where
      by : (t : Bool) → (if t then introduced_sig (entry_of (of_text i).class.face.entries o.method.name) else None) ≡ None
      by true = none_by i n o there (entry_of (of_text i).class.face.entries o.method.name) refl
      by false = refl

  -- the overrides of one name are of one method
  one_method : (known : List Class) (k : ClassKey) (names : List (List ℕ)) (o p : Override) → Mem o (map (override_of known k) names) → Mem p (map (override_of known k) names) → o.method.name ≡ p.method.name → o.method ≡ p.method
  one_method known k names o p x y e =
      let a = map_mem (override_of known k) o names x in
      let b = map_mem (override_of known k) p names y in
      let named_so : a.0 ≡ b.0 = sym (ap (λ (z : Override). z.method.name) a.2) ∙ e ∙ ap (λ (z : Override). z.method.name) b.2 in
      ap (λ (z : Override). z.method) a.2 ∙ ap (λ name. (override_of known k name).method) named_so ∙ sym (ap (λ (z : Override). z.method) b.2)

  pub override_signed : (i : IdlInterface) → Mem i is → (o : Override) → Mem o (of_text i).class.overrides → (sig : Sig) → sig_of cs (owner cs o.method) ≡ Some sig → body_sig cs (of_text i) o.method.name ≡ Some sig
  override_signed i n o there sig e =
      ap (λ z. or_else z (override_sig cs (of_text i) o.method.name)) (no_operation i n o there) ∙ by (find (λ (p : Override). bytes_eq o.method.name p.method.name) (of_text i).class.overrides) refl
    where
      by : (p : Option Override) → find (λ (p : Override). bytes_eq o.method.name p.method.name) (of_text i).class.overrides ≡ p → overridden_sig cs p ≡ Some sig
      by None f = absurd (true≢false (sym (exact_bytes.one o.method.name) ∙ find_none (λ (p : Override). bytes_eq o.method.name p.method.name) (of_text i).class.overrides f o there))
      by (Some p) f =
          let q = find_first (λ (p : Override). bytes_eq o.method.name p.method.name) (of_text i).class.overrides p f in
          let same : o.method ≡ p.method =
          one_method _ _ (overridden i.items) o p there (find_mem (λ (p : Override). bytes_eq o.method.name p.method.name) (of_text i).class.overrides p f) (exact_bytes.two o.method.name p.method.name q.passes) in
          ap (λ (r : MethodRef). sig_of cs (owner cs r)) (sym same) ∙ e

  -- a body of an overridden method is of its owner's signature
  pub override_has_sig : (i : IdlInterface) → Mem i is → (o : Override) → Mem o (of_text i).class.overrides → (sig : Sig) → body_sig cs (of_text i) o.method.name ≡ Some sig → sig_of cs (owner cs o.method) ≡ Some sig
  override_has_sig i n o there sig e =
      by (find (λ (p : Override). bytes_eq o.method.name p.method.name) (of_text i).class.overrides) refl
      (sym (ap (λ z. or_else z (override_sig cs (of_text i) o.method.name)) (no_operation i n o there)) ∙ e)
    where
      by : (p : Option Override) → find (λ (p : Override). bytes_eq o.method.name p.method.name) (of_text i).class.overrides ≡ p → overridden_sig cs p ≡ Some sig → sig_of cs (owner cs o.method) ≡ Some sig
      by None f h = absurd (let z = h in cc)
      by (Some p) f h =
          let q = find_first (λ (p : Override). bytes_eq o.method.name p.method.name) (of_text i).class.overrides p f in
          let same : o.method ≡ p.method =
          one_method _ _ (overridden i.items) o p there (find_mem (λ (p : Override). bytes_eq o.method.name p.method.name) (of_text i).class.overrides p f) (exact_bytes.two o.method.name p.method.name q.passes) in
          ap (λ (r : MethodRef). sig_of cs (owner cs r)) same ∙ h
