-- Parents and metaclasses that texts name.
use Rattle.std.proofs.Common.{◌≡◌, ℕ, zero, suc, ◌+◌, ◌<◌, inl, inr, Bool, true, false, List, [], ◌∷◌, ◌++◌, length, map, take, drop, slice_index_or, Option, None, is_some, option_map, Err, refl, sym, ap, ◌∙◌, subst, arith, append_assoc, length-append}
use Rattle.som_model.specs.Lists.{Mem, every, first, option_list, or_else}
use Rattle.som_model.specs.Class.{Class, class_in}
use Rattle.som_model.specs.Classes.{class_at}
use Rattle.som_model.specs.Conforming.{each_after}
use Rattle.som_model.specs.Rules.{RuleBreach, s2}
use Rattle.som_model.specs.declared.key.Module.{Module}
use Rattle.som_model.specs.declared.key.ClassKey.{ClassKey}
use Rattle.som_model_laws.proofs.Members.{mem_left, mem_right, mem_split}
use Rattle.som_model_laws.proofs.Lists.{mem_every}
use Rattle.som_verify_classes.proofs.Before.{both_none, none_both}
use Rattle.som_verify_classes.proofs.Owners.{flat_none}
use Rattle.som_verify_classes.proofs.PlainLists.{map_mem}
use Rattle.som_verify_classes.proofs.PlainNames.{demand_none}
use Rattle.som_ast.specs.declared.interface.IdlInterface.{IdlInterface}
use Rattle.som_verify_classes.specs.declared.types.VerifyFault.{VerifyFault}
use Rattle.som_verify_classes.specs.Told.{Tells}
use Rattle.som_verify_classes.proofs.Passes.{first_both, tells_first}
use Rattle.som_sema_drafts.specs.declared.drafts.Draft.{Draft}
use Rattle.som_sema_scope.specs.ClassNames.{key_of}
use Rattle.som_sema_drafts.specs.Items.{metaclass_names, or_object}
use Rattle.som_sema_drafts.specs.Drafts.{InterfaceDraft, plain_drafts, draft_of, plain_draft, draft_class, draft_classes}
use Rattle.som_sema_drafts.specs.Demands.{text_demand}
use Rattle.som_sema.specs.TextRules.{base_stands, bases, text_s2, text_s2_from}
use Rattle.som_sema.specs.Ancestry.{AreDrafts}

pub demanded_text : (n : ℕ) (d : InterfaceDraft) (member : List ℕ) (b : Bool) → first (text_demand n d member b) ≡ None → b ≡ true
demanded_text n d member true e = refl
demanded_text n d member false e = cc

first_mem : {A B : Type 0} (f : A → B) (xs : List A) (b : B) → Mem b (option_list (option_map f (first xs))) → Mem b (map f xs)
first_mem f [] b m = absurd m
first_mem f (x ∷ xs) b (inl e) = inl e
first_mem f (x ∷ xs) b (inr m) = absurd m

module _ (module_of : List ℕ → Module) (m : Module) where
  named_stands : (before : List Class) (d : InterfaceDraft) → first (text_s2 module_of before d) ≡ None → (name : List ℕ) → Mem name (bases d.text) → is_some (class_at before (key_of module_of name)) ≡ true
  named_stands before d e name n = demanded_text 2 d name _ (flat_none (base_stands module_of before d) (bases d.text) name e n)

  key_stands : (before : List Class) (d : InterfaceDraft) (k : ClassKey) → first (text_s2 module_of before d) ≡ None
      → Mem k (map (key_of module_of) (or_object d.text.parents) ++ option_list (option_map (key_of module_of) (first (metaclass_names d.text.items)))) → is_some (class_at before k) ≡ true
  key_stands before d k e n = elim (mem_split k (map (key_of module_of) (or_object d.text.parents)) (option_list (option_map (key_of module_of) (first (metaclass_names d.text.items)))) n) [
    | inl p ↦ (let r = map_mem (key_of module_of) k (or_object d.text.parents) p in
        ap (λ z. is_some (class_at before z)) r.2 ∙ named_stands before d e r.0 (mem_left r.0 (or_object d.text.parents) (metaclass_names d.text.items) r.1))
    | inr p ↦ (let r = map_mem (key_of module_of) k (metaclass_names d.text.items) (first_mem (key_of module_of) (metaclass_names d.text.items) k p) in
        ap (λ z. is_some (class_at before z)) r.2 ∙ named_stands before d e r.0 (mem_right r.0 (or_object d.text.parents) (metaclass_names d.text.items) r.1))
  ]

  draft_stands : (before : List Class) (d : InterfaceDraft) → d.class ≡ draft_class module_of d.text → first (text_s2 module_of before d) ≡ None → first (s2 before (class_in m d.class)) ≡ None
  draft_stands before d is e =
      demand_none 2 (class_in m d.class) _ (
      subst (λ z. every (λ k. is_some (class_at before k)) (z.face.parents ++ option_list z.face.metaclass) ≡ true) (sym is)
      (mem_every (λ k. is_some (class_at before k)) (map (key_of module_of) (or_object d.text.parents) ++ option_list (option_map (key_of module_of) (first (metaclass_names d.text.items))))
      (λ k n. key_stands before d k e n)))

  take_front : (xs ys : List Class) → take (length xs) (xs ++ ys) ≡ xs
  take_front [] ys = refl
  take_front (x ∷ xs) ys = ap (λ z. x ∷ z) (take_front xs ys)

  -- the rule of texts is that of classes
  pub texts_stand : (cs before : List Class) (ds : List InterfaceDraft) (place : ℕ) → ((d : InterfaceDraft) → Mem d ds → d.class ≡ draft_class module_of d.text)
      → place ≡ length before → cs ≡ before ++ map (class_in m) (draft_classes ds)
      → first (text_s2_from module_of cs place ds) ≡ None → first (each_after s2 before (map (class_in m) (draft_classes ds))) ≡ None
  texts_stand cs before [] place are at is e = refl
  texts_stand cs before (d ∷ ds) place are at is e =
      let c = class_in m d.class in
      let p = none_both (text_s2 module_of (take place cs) d) (text_s2_from module_of cs (suc place) ds) e in
      let front : take place cs ≡ before = ap (λ n. take n cs) at ∙ ap (take (length before)) is ∙ take_front before (map (class_in m) (draft_classes (d ∷ ds))) in
      let here : first (text_s2 module_of before d) ≡ None = subst (λ (z : List Class). first (text_s2 module_of z d) ≡ None) front p.0 in
      let next : suc place ≡ length (before ++ c ∷ []) = omega (arith, at, length-append before (c ∷ [])) in
      both_none (s2 before c) (each_after s2 (before ++ c ∷ []) (map (class_in m) (draft_classes ds)))
      (draft_stands before d (are d (inl refl)) here)
      (texts_stand cs (before ++ c ∷ []) ds (suc place) (λ x n. are x (inr n)) next (is ∙ sym (append_assoc before (c ∷ []) (map (class_in m) (draft_classes ds)))) p.1)

-- each draft is that of its text
pub are_drafts : (module_of : List ℕ → Module) (is : List IdlInterface) (ds : List InterfaceDraft) → ds ≡ map (draft_of module_of) is → AreDrafts module_of ds
are_drafts module_of is ds e = record {
  by = λ d m. (let r = map_mem (draft_of module_of) d is (subst (λ (z : List InterfaceDraft). Mem d z) e m) in
      subst (λ (z : InterfaceDraft). z.class ≡ draft_class module_of z.text) (sym r.2) refl);
}

-- one class more
next_bases : (module_of : List ℕ → Module) (cs : List Class) (ds : List Draft) (i place : ℕ) (d : Draft) → i < length ds
    → first (text_s2_from module_of cs place (plain_drafts (drop i ds))) ≡ or_else (first (text_s2 module_of (take place cs) (plain_draft (slice_index_or ds i d)))) (first (text_s2_from module_of cs (place + 1) (plain_drafts (drop (i + 1) ds))))
next_bases module_of cs [] i place d lt = absurd (omega arith)
next_bases module_of cs (x ∷ ds) zero place d lt =
    let e : suc place ≡ place + 1 = omega arith in
    first_both (text_s2 module_of (take place cs) (plain_draft x)) (text_s2_from module_of cs (suc place) (plain_drafts ds))
    ∙ ap (λ n. or_else (first (text_s2 module_of (take place cs) (plain_draft x))) (first (text_s2_from module_of cs n (plain_drafts ds)))) e
next_bases module_of cs (x ∷ ds) (suc i) place d lt = let e : suc i + 1 ≡ suc (i + 1) = omega arith in rw e (next_bases module_of cs ds i place d (omega arith))

none_first : {A : Type 0} (o r : Option A) → o ≡ None → or_else o r ≡ r
none_first o r e = rw e refl

pub bases_more : (module_of : List ℕ → Module) (cs : List Class) (ds : List Draft) (i place : ℕ) (d : Draft) (whole : Option RuleBreach) → i < length ds → d ≡ slice_index_or ds i d
    → first (text_s2 module_of (take place cs) (plain_draft d)) ≡ None
    → first (text_s2_from module_of cs place (plain_drafts (drop i ds))) ≡ whole → first (text_s2_from module_of cs (place + 1) (plain_drafts (drop (i + 1) ds))) ≡ whole
bases_more module_of cs ds i place d whole lt is none same =
    let here : first (text_s2 module_of (take place cs) (plain_draft (slice_index_or ds i d))) ≡ None = subst (λ (z : Draft). first (text_s2 module_of (take place cs) (plain_draft z)) ≡ None) is none in
    sym (none_first _ _ here) ∙ sym (next_bases module_of cs ds i place d lt) ∙ same

pub bases_stop : (module_of : List ℕ → Module) (cs : List Class) (ds : List Draft) (i place : ℕ) (d : Draft) (whole : Option RuleBreach) (e : VerifyFault) → i < length ds → d ≡ slice_index_or ds i d
    → Tells {A = Unit {0}} (first (text_s2 module_of (take place cs) (plain_draft d))) (Err e)
    → first (text_s2_from module_of cs place (plain_drafts (drop i ds))) ≡ whole → Tells {A = Unit {0}} whole (Err e)
bases_stop module_of cs ds i place d whole e lt is t same =
    tells_first (first (text_s2 module_of (take place cs) (plain_draft (slice_index_or ds i d)))) _ whole e
    (subst (λ (z : Draft). Tells {A = Unit {0}} (first (text_s2 module_of (take place cs) (plain_draft z))) (Err e)) is t)
    (sym (next_bases module_of cs ds i place d lt) ∙ same)
