-- S13 and S14 hold exactly where each body stands where it may and each method that has one has one.
use Rattle.std.proofs.Common.{◌≡◌, ℕ, ◌==◌, inl, inr, Bool, true, false, if◌then◌else◌, List, [], ◌∷◌, length, flat_map, Option, Some, None, refl, sym, ap, ◌∙◌, subst, true≢false}
use Rattle.std.specs.Prelude.{◌↔◌}
use Rattle.std.specs.Str.{bytes_eq}
use Rattle.std.proofs.lemmas.Bool.{eqb-true, eq-eqb}
use Rattle.som_model.specs.declared.class.Entry.{Entry}
use Rattle.som_model.specs.declared.class.Entry.TheVariants as entries
use Rattle.som_model.specs.declared.class.Override.{Override}
use Rattle.som_model.specs.declared.class.Sig.{Sig}
use Rattle.som_model.specs.declared.class.Way.{Way}
use Rattle.som_model.specs.declared.key.Module.{Module}
use Rattle.som_model.specs.declared.program.Interface.{Interface}
use Rattle.som_model.specs.Class.{Class, entry_name, entry_of, introduced, introduced_sig}
use Rattle.som_model.specs.Classes.{interface_classes}
use Rattle.som_model.specs.Lists.{Mem, among, find, first, or_else}
use Rattle.som_model.specs.Owner.{owner, sig_of}
use Rattle.som_model.proofs.KeyLaws.{exact_bytes}
use Rattle.som_model_laws.proofs.Laws.{among_mem}
use Rattle.som_model_laws.proofs.Members.{find_first}
use Rattle.som_ast.specs.declared.interface.IdlInterface.{IdlInterface}
use Rattle.som_ast.specs.declared.body.BodyText.{BodyText}
use Rattle.som_verify_classes.specs.Plainly.{ClassesHold}
use Rattle.som_verify_classes.proofs.Before.{both_none, none_both}
use Rattle.som_verify_classes.proofs.Owners.{flat_none}
use Rattle.som_verify_classes.proofs.Conformity.{none_or, or_none}
use Rattle.som_verify_classes.proofs.PlainLists.{map_mem, none_flat}
use Rattle.som_sema_decls.specs.Known.{after_base}
use Rattle.som_sema.specs.Building.{declarations}
use Rattle.som_sema_drafts.specs.Drafts.{InterfaceDraft}
use Rattle.som_sema_drafts.specs.Demands.{text_demand}
use Rattle.som_sema.proofs.TextBases.{demanded_text}
use Rattle.som_elab_methods.specs.Bodies.{bodies_breach, body_sig, draft_named, entry_has_one, has_one, operations, override_sig, overridden_sig, stands_for, takes_as_many, text_s13, text_s14, texts_for}
use Rattle.som_elab.specs.Elaboration.{classes_over, drafts_over}
use Rattle.som_elab.proofs.Declared.{drafts_are, find_mem, own}
use Rattle.som_elab_methods.proofs.Fitting.{introduced_there}
use Rattle.som_elab.proofs.Signatures.{entry_there, named, override_signed}
use Rattle.som_elab_laws.specs.Conforming.{BodiesStand, HasBody, HasOneBody, IsNamed, by_operation, by_override}
use Rattle.som_elab_laws.proofs.OneBody.{one_body, one_counted}

demand_met : (n : ℕ) (d : InterfaceDraft) (member : List ℕ) (b : Bool) → b ≡ true → first (text_demand n d member b) ≡ None
demand_met n d member true e = refl
demand_met n d member false e = absurd (true≢false (sym e))

has_sig : (b : BodyText) (o : Option Sig) → takes_as_many b o ≡ true → (sig : Sig) × (o ≡ Some sig)
has_sig b None e = absurd (true≢false (sym e))
has_sig b (Some sig) e = (sig, refl)

-- ---- the signature of a method that has a body

overridden_has : (cs : List Class) (d : InterfaceDraft) (name : List ℕ) (sig : Sig) (o : Option Override) → find (λ (p : Override). bytes_eq name p.method.name) d.class.overrides ≡ o → overridden_sig cs o ≡ Some sig
    → HasBody cs d name (Some sig)
overridden_has cs d name sig None f h = absurd (let z = h in cc)
overridden_has cs d name sig (Some o) f h =
    let q = find_first (λ (p : Override). bytes_eq name p.method.name) d.class.overrides o f in
    by_override o (find_mem (λ (p : Override). bytes_eq name p.method.name) d.class.overrides o f) (sym (exact_bytes.two name o.method.name q.passes)) h

has_body : (cs : List Class) (d : InterfaceDraft) (name : List ℕ) (sig : Sig) → body_sig cs d name ≡ Some sig → HasBody cs d name (Some sig)
has_body cs d name sig e = by (among name (operations d.text)) refl (entry_of d.class.face.entries name) refl e
  where
    by : (t : Bool) → among name (operations d.text) ≡ t → (o : Option Entry) → entry_of d.class.face.entries name ≡ o
        → or_else (if t then introduced_sig o else None) (override_sig cs d name) ≡ Some sig → HasBody cs d name (Some sig)
    by true t None f h = overridden_has cs d name sig (find (λ (p : Override). bytes_eq name p.method.name) d.class.overrides) refl h
    by true t (Some (entries.Moved n to)) f h = overridden_has cs d name sig (find (λ (p : Override). bytes_eq name p.method.name) d.class.overrides) refl h
    by true t (Some (entries.Introduced n s way)) f h =
        let q = find_first (λ (x : Entry). bytes_eq (entry_name x) name) d.class.face.entries (entries.Introduced n s way) f in
        let same : s ≡ sig = let z = h in cc in
        let there = find_mem (λ (x : Entry). bytes_eq (entry_name x) name) d.class.face.entries (entries.Introduced n s way) f in
        subst (λ z. HasBody cs d name (Some z)) same
        (by_operation way ((among_mem name (operations d.text)).0 t) (subst (λ z. Mem (entries.Introduced z s way) d.class.face.entries) (exact_bytes.two n name q.passes) there))
    by false t o f h = overridden_has cs d name sig (find (λ (p : Override). bytes_eq name p.method.name) d.class.overrides) refl h

introduced_entry : (es : List Entry) (name : List ℕ) → Mem name (introduced es) → (sig : Sig) × (way : Way) × Mem (entries.Introduced name sig way) es
introduced_entry [] name m = absurd m
introduced_entry (entries.Moved x to ∷ es) name m = let r = introduced_entry es name m in (r.0, r.1, inr r.2)
introduced_entry (entries.Introduced x sig way ∷ es) name (inl e) = (sig, way, inl (ap (λ z. entries.Introduced z sig way) e))
introduced_entry (entries.Introduced x sig way ∷ es) name (inr m) = let r = introduced_entry es name m in (r.0, r.1, inr r.2)

stands_so : (cs : List Class) (ds : List InterfaceDraft) (b : BodyText) (t : Bool) → stands_for cs b (draft_named ds b.class.text) ≡ t → first (text_s13 cs ds b) ≡ None → t ≡ true
stands_so cs ds b true e f = refl
stands_so cs ds b false e f = absurd (let z = rw e at f in cc)

stands_well : (cs : List Class) (ds : List InterfaceDraft) (b : BodyText) → stands_for cs b (draft_named ds b.class.text) ≡ true → first (text_s13 cs ds b) ≡ None
stands_well cs ds b e = rw e refl

-- ---- from the rules to what they say

module _ (cs : List Class) (ds : List InterfaceDraft) (bs : List BodyText) where
  named_so : (b : BodyText) (o : Option InterfaceDraft) → draft_named ds b.class.text ≡ o → stands_for cs b o ≡ true → IsNamed cs ds b
  named_so b None f h = absurd (true≢false (sym h))
  named_so b (Some d) f h =
      let q = find_first (λ (d : InterfaceDraft). bytes_eq b.class.text d.class.face.name) ds d f in
      let s = has_sig b (body_sig cs d b.method.text) h in
      record {
        draft = d;
        there = find_mem (λ (d : InterfaceDraft). bytes_eq b.class.text d.class.face.name) ds d f;
        of_class = sym (exact_bytes.two b.class.text d.class.face.name q.passes);
        sig = s.0;
        of_method = has_body cs d b.method.text s.0 s.1;
        long = eqb-true (length b.params) (length s.0.params) (sym (ap (takes_as_many b) s.1) ∙ h);
      }

  one_so : (d : InterfaceDraft) (name : List ℕ) → first (has_one bs d name) ≡ None → length (texts_for bs d.class.face.name name) ≡ 1
  one_so d name e = eqb-true (length (texts_for bs d.class.face.name name)) 1 (demanded_text 14 d name (length (texts_for bs d.class.face.name name) == 1) e)

  once_so : (d : InterfaceDraft) (name : List ℕ) (sig : Option Sig) → first (text_s14 bs d) ≡ None → HasBody cs d name sig → HasOneBody bs d name
  once_so d name _ e (by_operation {sig = sig} way m n) =
      let p = (none_both (flat_map (entry_has_one bs d) (introduced d.class.face.entries)) (flat_map (λ (o : Override). has_one bs d o.method.name) d.class.overrides) e).0 in
      let q = flat_none (entry_has_one bs d) (introduced d.class.face.entries) name p (introduced_there d.class.face.entries name sig way n) in
      one_body d name bs (one_so d name (subst (λ (t : Bool). first (if t then has_one bs d name else []) ≡ None) ((among_mem name (operations d.text)).1 m) q))
  once_so d name sig e (by_override o m n s) =
      let p = (none_both (flat_map (entry_has_one bs d) (introduced d.class.face.entries)) (flat_map (λ (o : Override). has_one bs d o.method.name) d.class.overrides) e).1 in
      one_body d name bs (one_so d name (subst (λ z. first (has_one bs d z) ≡ None) n (flat_none (λ (o : Override). has_one bs d o.method.name) d.class.overrides o p m)))

  pub bodies_say : bodies_breach cs ds bs ≡ None → BodiesStand cs ds bs
  bodies_say e =
      let p = or_none (first (flat_map (text_s13 cs ds) bs)) (first (flat_map (text_s14 bs) ds)) e in
      record {
        named = λ b n. named_so b (draft_named ds b.class.text) refl (stands_so cs ds b (stands_for cs b (draft_named ds b.class.text)) refl (flat_none (text_s13 cs ds) bs b p.0 n));
        once = λ d name sig n h. once_so d name sig (flat_none (text_s14 bs) ds d p.1 n) h;
      }

  -- ---- and back, S14

  one_demanded : (d : InterfaceDraft) (name : List ℕ) → HasOneBody bs d name → first (has_one bs d name) ≡ None
  one_demanded d name e = demand_met 14 d name (length (texts_for bs d.class.face.name name) == 1) (eq-eqb (length (texts_for bs d.class.face.name name)) 1 (one_counted d name bs e))

  entry_demanded : BodiesStand cs ds bs → (d : InterfaceDraft) → Mem d ds → (name : List ℕ) → Mem name (introduced d.class.face.entries) → (t : Bool) → among name (operations d.text) ≡ t
      → first (if t then has_one bs d name else []) ≡ None
  entry_demanded r d n name m false t = refl
  entry_demanded r d n name m true t =
      let x = introduced_entry d.class.face.entries name m in
      one_demanded d name (r.once d name (Some x.0) n (by_operation x.1 ((among_mem name (operations d.text)).0 t) x.2))

  pub say_once : BodiesStand cs ds bs → first (flat_map (text_s14 bs) ds) ≡ None
  say_once r = none_flat (text_s14 bs) ds (λ d n.
      both_none (flat_map (entry_has_one bs d) (introduced d.class.face.entries)) (flat_map (λ (o : Override). has_one bs d o.method.name) d.class.overrides)
      (none_flat (entry_has_one bs d) (introduced d.class.face.entries) (λ name m. entry_demanded r d n name m (among name (operations d.text)) refl))
      (none_flat (λ (o : Override). has_one bs d o.method.name) d.class.overrides (λ o m. one_demanded d o.method.name (r.once d o.method.name (sig_of cs (owner cs o.method)) n (by_override o m refl refl)))))

-- ---- and S13, of interfaces that keep the rules before

module _ (m : Module) (base : Interface) (is : List IdlInterface) (bs : List BodyText) (holds : ClassesHold (after_base m (interface_classes base) (declarations m base is))) where
  abbrev cs : List Class
  cs = classes_over m base is

  abbrev ds : List InterfaceDraft
  ds = drafts_over m base is

  signed_so : (i : IdlInterface) → Mem i is → (name : List ℕ) (s : Option Sig) (sig : Sig) → s ≡ Some sig → HasBody cs (own m base is i) name s → body_sig cs (own m base is i) name ≡ Some sig
  signed_so i n name _ sig is_sig (by_operation {sig = s} way o e) =
      ap (λ z. or_else z (override_sig cs (own m base is i) name))
      (ap (λ (t : Bool). if t then introduced_sig (entry_of (own m base is i).class.face.entries name) else None) ((among_mem name (operations i)).1 o)
      ∙ ap introduced_sig (entry_there m base is holds i n name s way e))
      ∙ is_sig
  signed_so i n name s sig is_sig (by_override o k e h) =
      subst (λ z. body_sig cs (own m base is i) z ≡ Some sig) e (override_signed m base is holds i n o k sig (h ∙ is_sig))

  body_stands : (b : BodyText) → IsNamed cs ds b → stands_for cs b (draft_named ds b.class.text) ≡ true
  body_stands b r =
      let x = map_mem (own m base is) r.draft is (subst (λ z. Mem r.draft z) (drafts_are m base is) r.there) in
      let here : draft_named ds b.class.text ≡ Some (own m base is x.0) = ap (draft_named ds) (sym r.of_class ∙ ap (λ (d : InterfaceDraft). d.class.face.name) x.2) ∙ named m base is holds x.0 x.1 in
      let signed = signed_so x.0 x.1 b.method.text (Some r.sig) r.sig refl (subst (λ (d : InterfaceDraft). HasBody cs d b.method.text (Some r.sig)) x.2 r.of_method) in
      ap (stands_for cs b) here ∙ ap (takes_as_many b) signed ∙ eq-eqb (length b.params) (length r.sig.params) r.long

  pub bodies_law : (bodies_breach cs ds bs ≡ None) ↔ BodiesStand cs ds bs
  bodies_law = (
    bodies_say cs ds bs,
    (λ r. none_or (first (flat_map (text_s13 cs ds) bs)) (first (flat_map (text_s14 bs) ds))
        (none_flat (text_s13 cs ds) bs (λ b n. stands_well cs ds b (body_stands b (r.named b n)))) (say_once cs ds bs r)),
  )
