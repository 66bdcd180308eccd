-- S10 of texts: what modifiers replace is inherited.
use Rattle.std.proofs.Common.{◌≡◌, ◌↔◌, ℕ, zero, suc, ◌+◌, ◌<◌, inl, inr, Bool, true, false, not, ◌||◌, if◌then◌else◌, List, [], ◌∷◌, length, drop, slice_index_or, slice_get, Option, Some, None, Err, refl, sym, ap, ◌∙◌, subst, arith, true≢false}
use Rattle.std.specs.Prelude.{unwrap_or}
use Rattle.som_model.specs.declared.key.Module.{Module}
use Rattle.som_model.specs.declared.key.ClassKey.{ClassKey}
use Rattle.som_model.specs.Lists.{Mem, among, find, first, or_else}
use Rattle.som_model.specs.Hierarchy.{Falls, Tells as TellsKeys}
use Rattle.som_model.specs.Ancestors.{Descends}
use Rattle.som_model.specs.Keys.{same_key}
use Rattle.som_model.specs.Class.{Class}
use Rattle.som_model.specs.Classes.{ancestors, hierarchy, is_a}
use Rattle.som_model.specs.Owner.{introduced_by}
use Rattle.som_model.specs.Rules.{RuleBreach}
use Rattle.som_model.proofs.KeyLaws.{both, exact_keys}
use Rattle.som_model_laws.proofs.Laws.{among_mem, descends_test}
use Rattle.som_model_laws.proofs.Members.{find_first, first_find, mem_without, without_fails, without_mem}
use Rattle.som_model_laws.proofs.Lists.{flat_mem, mem_flat}
use Rattle.som_model.proofs.NamedLaws.{hierarchy_same}
use Rattle.som_ast.specs.declared.words.Word.{Word}
use Rattle.som_ast.specs.declared.interface.Modifier.{Modifier}
use Rattle.som_ast.specs.declared.interface.Modifier.TheVariants as modifiers
use Rattle.som_verify_classes.specs.declared.types.VerifyFault.{VerifyFault}
use Rattle.som_verify_classes.specs.Places.{key_at}
use Rattle.som_verify_classes.specs.Told.{Tells}
use Rattle.som_verify_classes.proofs.Before.{both_none, none_both}
use Rattle.som_verify_classes.proofs.Owners.{flat_none}
use Rattle.som_verify_classes.proofs.Passes.{first_both, tells_first}
use Rattle.som_verify_classes.proofs.PlainLists.{none_flat}
use Rattle.som_verify_classes.proofs.PlainMembers.{both_true}
use Rattle.som_sema_scope.specs.ClassNames.{key_of}
use Rattle.som_sema_drafts.specs.declared.drafts.Draft.{Draft}
use Rattle.som_sema_drafts.specs.Items.{Chosen, Given, chosen, chosen_by, chosen_in, given, if_given, is_override, or_object, overridden, replaced, selecting, with_modifier}
use Rattle.som_sema_drafts.specs.Drafts.{InterfaceDraft, plain_draft, plain_drafts}
use Rattle.som_sema_decls.specs.Finished.{introducer}
use Rattle.som_sema.specs.TextRules.{is_inherited, may_take, replaces, replaces_inherited, text_s10, text_s10_from}
use Rattle.som_sema.specs.PlainTexts.{Inherits, ReplacedInherited}
use Rattle.som_sema.proofs.TextBases.{demanded_text}
use Rattle.som_sema.proofs.TextLaws.{mem_of_once, says_once, says_text}

-- one class more
next_inherited : (module_of : List ℕ → Module) (cs : List Class) (ds : List Draft) (i place : ℕ) (d : Draft) → i < length ds
    → first (text_s10_from module_of cs place (plain_drafts (drop i ds))) ≡ or_else (first (text_s10 module_of cs (key_at cs place) (plain_draft (slice_index_or ds i d)))) (first (text_s10_from module_of cs (place + 1) (plain_drafts (drop (i + 1) ds))))
next_inherited module_of cs [] i place d lt = absurd (omega arith)
next_inherited module_of cs (x ∷ ds) zero place d lt =
    let e : suc place ≡ place + 1 = omega arith in
    first_both (text_s10 module_of cs (key_at cs place) (plain_draft x)) (text_s10_from module_of cs (suc place) (plain_drafts ds))
    ∙ ap (λ n. or_else (first (text_s10 module_of cs (key_at cs place) (plain_draft x))) (first (text_s10_from module_of cs n (plain_drafts ds)))) e
next_inherited module_of cs (x ∷ ds) (suc i) place d lt = let e : suc i + 1 ≡ suc (i + 1) = omega arith in rw e (next_inherited module_of cs ds i place d (omega arith))

none_first : {A : Type 0} (o r : Option A) → o ≡ None → or_else o r ≡ r
none_first o r e = rw e refl

pub inherited_more : (module_of : List ℕ → Module) (cs : List Class) (ds : List Draft) (i place : ℕ) (d : Draft) (whole : Option RuleBreach) → i < length ds → d ≡ slice_index_or ds i d
    → first (text_s10 module_of cs (key_at cs place) (plain_draft d)) ≡ None
    → first (text_s10_from module_of cs place (plain_drafts (drop i ds))) ≡ whole → first (text_s10_from module_of cs (place + 1) (plain_drafts (drop (i + 1) ds))) ≡ whole
inherited_more module_of cs ds i place d whole lt is none same =
    let here : first (text_s10 module_of cs (key_at cs place) (plain_draft (slice_index_or ds i d))) ≡ None = subst (λ (z : Draft). first (text_s10 module_of cs (key_at cs place) (plain_draft z)) ≡ None) is none in
    sym (none_first _ _ here) ∙ sym (next_inherited module_of cs ds i place d lt) ∙ same

pub inherited_stop : (module_of : List ℕ → Module) (cs : List Class) (ds : List Draft) (i place : ℕ) (d : Draft) (whole : Option RuleBreach) (e : VerifyFault) → i < length ds → d ≡ slice_index_or ds i d
    → Tells {A = Unit {0}} (first (text_s10 module_of cs (key_at cs place) (plain_draft d))) (Err e)
    → first (text_s10_from module_of cs place (plain_drafts (drop i ds))) ≡ whole → Tells {A = Unit {0}} whole (Err e)
inherited_stop module_of cs ds i place d whole e lt is t same =
    tells_first (first (text_s10 module_of cs (key_at cs place) (plain_draft (slice_index_or ds i d)))) _ whole e
    (subst (λ (z : Draft). Tells {A = Unit {0}} (first (text_s10 module_of cs (key_at cs place) (plain_draft z))) (Err e)) is t)
    (sym (next_inherited module_of cs ds i place d lt) ∙ same)

-- ---- in plain words

either : (a b : Bool) → (a || b) ≡ true → a ≡ false → b ≡ true
either true b e f = absurd (true≢false f)
either false b e f = e

or_true : (a b : Bool) → (a ≡ true → ⊥) → b ≡ true → (a || b) ≡ true
or_true true b f e = refl
or_true false b f e = e

or_first : (a b : Bool) → a ≡ true → (a || b) ≡ true
or_first true b e = refl
or_first false b e = cc

not_same : (b : Bool) → not b ≡ true → b ≡ true → ⊥
not_same true e f = true≢false (sym e)
not_same false e f = true≢false (sym f)

are_not : (b : Bool) → (b ≡ true → ⊥) → not b ≡ true
are_not true f = absurd (f refl)
are_not false f = refl

module _ (cs : List Class) (k : ClassKey) (name : List ℕ) where
  abbrev introduces_it : ClassKey → Bool
  introduces_it b = among name (introduced_by cs b)

  pub inherits_by : (o : Option ClassKey) → find introduces_it (ancestors cs k) ≡ o → not (same_key (unwrap_or o k) k) ≡ true → Inherits cs k (unwrap_or o k) name
  inherits_by None is e = absurd (not_same (same_key k k) e (exact_keys.one k))
  inherits_by (Some a) is e = record { first = find_first introduces_it (ancestors cs k) a is; other = λ same. not_same (same_key a k) e (ap (λ z. same_key z k) same ∙ exact_keys.one k) }

  -- a method that is inherited is so from its introducer
  pub inherits_from : is_inherited cs k name ≡ true → Inherits cs k (introducer cs k name) name
  inherits_from e = inherits_by (find introduces_it (ancestors cs k)) refl e

  pub from_introducer : (a : ClassKey) → Inherits cs k a name → introducer cs k name ≡ a
  from_introducer a h = ap (λ o. unwrap_or o k) (first_find introduces_it (ancestors cs k) a h.first)

  pub from_inherited : (a : ClassKey) → Inherits cs k a name → is_inherited cs k name ≡ true
  from_inherited a h =
      ap (λ z. not (same_key z k)) (from_introducer a h)
      ∙ are_not (same_key a k) (λ e. h.other (exact_keys.two a k e))

-- what was given

one_given : (c : Bool) (x name : List ℕ) → Mem name (if c then x ∷ [] else []) → (c ≡ true) × (name ≡ x)
one_given true x name (inl is) = (refl, is)
one_given true x name (inr n) = absurd n
one_given false x name n = absurd n

given_method : (test : Modifier → Bool) (gs : List Given) (name : List ℕ) → Mem name (with_modifier test gs) → (g : Given) × Mem g gs × (test g.modifier ≡ true) × (name ≡ g.method)
given_method test gs name m =
    let r = flat_mem (if_given test) name gs m in
    let s = one_given (test r.0.modifier) r.0.method name r.2 in
    (r.0, r.1, s.0, s.1)

method_given : (test : Modifier → Bool) (gs : List Given) (g : Given) → Mem g gs → test g.modifier ≡ true → Mem g.method (with_modifier test gs)
method_given test gs g m e = mem_flat (if_given test) g.method g gs m (rw e (inl refl))

one_chosen : (x : List ℕ) (m : Modifier) (s : Chosen) → Mem s (chosen_in x m) → (p : Word) × (m ≡ modifiers.Select p) × (s ≡ record { method = x; parent = p.text })
one_chosen x modifiers.Override s n = absurd n
one_chosen x modifiers.NameLookup s n = absurd n
one_chosen x modifiers.Offset s n = absurd n
one_chosen x (modifiers.Select p) s (inl e) = (p, refl, e)
one_chosen x (modifiers.Select p) s (inr n) = absurd n

module _ (module_of : List ℕ → Module) (cs : List Class) (k : ClassKey) (d : InterfaceDraft) where
  abbrev parents : List (List ℕ)
  parents = or_object d.text.parents

  abbrev selects_it : List ℕ → Bool
  selects_it name = among name (selecting d.text.items)

  abbrev Replaces : List ℕ → Modifier → Type 0
  Replaces name m = replaces module_of cs k parents (selecting d.text.items) name m ≡ true

  given_says : first (text_s10 module_of cs k d) ≡ None → (g : Given) → Mem g (given d.text.items) → Replaces g.method g.modifier
  given_says e g m =
      demanded_text 10 d g.method (replaces module_of cs k parents (selecting d.text.items) g.method g.modifier)
      (flat_none (replaces_inherited module_of cs k d) (given d.text.items) g e m)

  by_override : (m : Modifier) (name : List ℕ) → is_override m ≡ true → Replaces name m → selects_it name ≡ false → is_inherited cs k name ≡ true
  by_override modifiers.Override name e r n = either (selects_it name) (is_inherited cs k name) r n
  by_override modifiers.NameLookup name e r n = absurd (true≢false (sym e))
  by_override modifiers.Offset name e r n = absurd (true≢false (sym e))
  by_override (modifiers.Select p) name e r n = absurd (true≢false (sym e))

  pub overridden_says : first (text_s10 module_of cs k d) ≡ None → (name : List ℕ) → Mem name (overridden d.text.items) → is_inherited cs k name ≡ true
  overridden_says e name m =
      let there = without_mem selects_it name (replaced d.text.items) m in
      let g = given_method is_override (given d.text.items) name (mem_of_once name (with_modifier is_override (given d.text.items)) ((among_mem name (replaced d.text.items)).1 there)) in
      by_override g.0.modifier name g.2 (subst (λ z. Replaces z g.0.modifier) (sym g.3) (given_says e g.0 g.1)) (without_fails selects_it name (replaced d.text.items) m)

  -- what a select has to be
  abbrev pub Takes : Chosen → Type 0
  Takes s = (among s.parent parents ≡ true) × (is_inherited cs k s.method ≡ true) × (is_a cs (key_of module_of s.parent) (introducer cs k s.method) ≡ true)

  taken_by : (name : List ℕ) (p : Word) → Replaces name (modifiers.Select p) → Takes (record { method = name; parent = p.text })
  taken_by name p r =
      let a = both (among p.text parents) (may_take module_of cs k name p.text) r in
      let b = both (is_inherited cs k name) (is_a cs (key_of module_of p.text) (introducer cs k name)) a.1 in
      (a.0, b.0, b.1)

  pub selected_says : first (text_s10 module_of cs k d) ≡ None → (s : Chosen) → Mem s (chosen d.text.items) → Takes s
  selected_says e s m =
      let r = flat_mem chosen_by s (given d.text.items) m in
      let q = one_chosen r.0.method r.0.modifier s r.2 in
      subst Takes (sym q.2) (taken_by r.0.method q.0 (subst (Replaces r.0.method) q.1 (given_says e r.0 r.1)))

  module _ (over : (name : List ℕ) → Mem name (overridden d.text.items) → is_inherited cs k name ≡ true) (takes : (s : Chosen) → Mem s (chosen d.text.items) → Takes s) where
    over_by : (name : List ℕ) (b : Bool) → selects_it name ≡ b → Mem name (replaced d.text.items) → (b || is_inherited cs k name) ≡ true
    over_by name true e m = refl
    over_by name false e m = over name (mem_without selects_it name (replaced d.text.items) (λ t. true≢false (sym t ∙ e)) m)

    replaces_by : (m : Modifier) (g : Given) → Mem g (given d.text.items) → g.modifier ≡ m → Replaces g.method m
    replaces_by modifiers.Override g n e =
        over_by g.method (selects_it g.method) refl
        (says_once g.method [] (with_modifier is_override (given d.text.items)) (method_given is_override (given d.text.items) g n (ap is_override e)))
    replaces_by modifiers.NameLookup g n e = refl
    replaces_by modifiers.Offset g n e = refl
    replaces_by (modifiers.Select p) g n e =
        let s : Chosen = record { method = g.method; parent = p.text } in
        let there : Mem s (chosen_in g.method g.modifier) = subst (λ (m : Modifier). Mem s (chosen_in g.method m)) (sym e) (inl refl) in
        let t = takes s (mem_flat chosen_by s g (given d.text.items) n there) in
        both_true (among p.text parents) (may_take module_of cs k g.method p.text) t.0
        (both_true (is_inherited cs k g.method) (is_a cs (key_of module_of p.text) (introducer cs k g.method)) t.1 t.2)

    says_inherited : first (text_s10 module_of cs k d) ≡ None
    says_inherited = none_flat (replaces_inherited module_of cs k d) (given d.text.items) (λ g m. says_text 10 d g.method _ (replaces_by g.modifier g m refl))

inherited_at : (module_of : List ℕ → Module) (cs : List Class) (n : ℕ) (ds : List InterfaceDraft) → first (text_s10_from module_of cs n ds) ≡ None → (i : ℕ) (d : InterfaceDraft) → slice_get ds i ≡ Some d → first (text_s10 module_of cs (key_at cs (i + n)) d) ≡ None
inherited_at module_of cs n [] e i d at = absurd (cc)
inherited_at module_of cs n (x ∷ ds) e zero d at =
    let same : x ≡ d = cc in
    let here : 0 + n ≡ n = omega arith in
    subst (λ (z : InterfaceDraft). first (text_s10 module_of cs (key_at cs (0 + n)) z) ≡ None) same
    (subst (λ j. first (text_s10 module_of cs (key_at cs j) x) ≡ None) (sym here) (none_both (text_s10 module_of cs (key_at cs n) x) (text_s10_from module_of cs (suc n) ds) e).0)
inherited_at module_of cs n (x ∷ ds) e (suc i) d at =
    let sum : i + suc n ≡ suc i + n = omega arith in
    subst (λ j. first (text_s10 module_of cs (key_at cs j) d) ≡ None) sum (inherited_at module_of cs (suc n) ds (none_both (text_s10 module_of cs (key_at cs n) x) (text_s10_from module_of cs (suc n) ds) e).1 i d at)

at_inherited : (module_of : List ℕ → Module) (cs : List Class) (n : ℕ) (ds : List InterfaceDraft) → ((i : ℕ) (d : InterfaceDraft) → slice_get ds i ≡ Some d → first (text_s10 module_of cs (key_at cs (i + n)) d) ≡ None) → first (text_s10_from module_of cs n ds) ≡ None
at_inherited module_of cs n [] f = refl
at_inherited module_of cs n (x ∷ ds) f =
    let here : 0 + n ≡ n = omega arith in
    both_none (text_s10 module_of cs (key_at cs n) x) (text_s10_from module_of cs (suc n) ds)
    (subst (λ j. first (text_s10 module_of cs (key_at cs j) x) ≡ None) here (f 0 x refl))
    (at_inherited module_of cs (suc n) ds (λ i d at. (let sum : suc i + n ≡ i + suc n = omega arith in subst (λ j. first (text_s10 module_of cs (key_at cs j) d) ≡ None) sum (f (suc i) d at))))

module _ (module_of : List ℕ → Module) (cs : List Class) (low : Falls (hierarchy cs)) where
  tells : TellsKeys (hierarchy cs)
  tells = record {
    one = λ x. hierarchy_same cs x x ∙ exact_keys.one x;
    two = λ x y e. exact_keys.two x y (sym (hierarchy_same cs x y) ∙ e);
  }

  descent : (x a : ClassKey) → (is_a cs x a ≡ true) ↔ Descends (hierarchy cs) x a
  descent x a = descends_test (hierarchy cs) tells low x a

  taken : (k : ClassKey) (d : InterfaceDraft) (s : Chosen) (a : ClassKey) → Inherits cs k a s.method → Mem s.parent (or_object d.text.parents) → Descends (hierarchy cs) (key_of module_of s.parent) a → Takes module_of cs k d s
  taken k d s a h m t = (
    (among_mem s.parent (or_object d.text.parents)).1 m,
    from_inherited cs k s.method a h,
    ap (is_a cs (key_of module_of s.parent)) (from_introducer cs k s.method a h) ∙ (descent (key_of module_of s.parent) a).1 t,
  )

  pub inherited_law : (n : ℕ) (ds : List InterfaceDraft) → (first (text_s10_from module_of cs n ds) ≡ None) ↔ ReplacedInherited module_of cs n ds
  inherited_law n ds = (
    (λ e. record {
      overridden = λ i d name at m. (introducer cs (key_at cs (i + n)) name, inherits_from cs (key_at cs (i + n)) name (overridden_says module_of cs (key_at cs (i + n)) d (inherited_at module_of cs n ds e i d at) name m));
      selected = λ i d s at m.
          let k = key_at cs (i + n) in
          let t = selected_says module_of cs k d (inherited_at module_of cs n ds e i d at) s m in (
            introducer cs k s.method,
            inherits_from cs k s.method t.1,
            (among_mem s.parent (or_object d.text.parents)).0 t.0,
            (descent (key_of module_of s.parent) (introducer cs k s.method)).0 t.2,
          );
    }),
    (λ r. at_inherited module_of cs n ds (λ i d at. says_inherited module_of cs (key_at cs (i + n)) d
        (λ name m. (let h = r.overridden i d name at m in from_inherited cs (key_at cs (i + n)) name h.0 h.1))
        (λ s m. (let h = r.selected i d s at m in taken (key_at cs (i + n)) d s h.0 h.1 h.2 h.3)))),
  )
