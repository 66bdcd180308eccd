-- The limits, from lists to plain words and back.
use Rattle.std.proofs.Common.{◌≡◌, ◌↔◌, ℕ, ◌+◌, ◌<◌, ◌≤◌, Bool, true, false, if◌then◌else◌, nat_le, List, [], ◌∷◌, ◌++◌, length, drop, get_or, flat_map, Some, None, Err, refl, sym, ap, ◌∙◌, subst, le-leb, leb-true}
use Rattle.std.proofs.lemmas.List.{at_drop_more}
use Rattle.std.specs.Prelude.{codes}
use Rattle.som_model.specs.Lists.{Mem, first}
use Rattle.som_model.specs.declared.class.Sig.{Sig}
use Rattle.som_model.specs.declared.class.Way.{Way}
use Rattle.som_model.specs.declared.class.Entry.{Entry}
use Rattle.som_model.specs.declared.class.Entry.TheVariants as entries
use Rattle.som_model.specs.declared.limits.TheConstants.{MAX_ENTRIES, MAX_OVERRIDES, MAX_PARAMETERS, MAX_PARENTS, MAX_SELECTS, MAX_VARIABLES}
use Rattle.som_verify_classes.proofs.Before.{both_none, none_both}
use Rattle.som_verify_classes.proofs.Owners.{flat_none}
use Rattle.som_verify_classes.proofs.PlainLists.{none_flat}
use Rattle.som_elab_methods.specs.PlainLimits.{LimitsKept}
use Rattle.som_elab_methods.specs.Limits.{KeepsLimit, Passed, at_most, class_limits, entry_limits, limit_passed}
use Rattle.som_sema_drafts.specs.Drafts.{InterfaceDraft, plain_draft, plain_drafts}
use Rattle.som_sema_drafts.specs.declared.drafts.Draft.{Draft}
use Rattle.som_sema_drafts.specs.declared.types.Refused.{Refused}
use Rattle.som_sema_drafts.specs.declared.types.Refused.TheVariants as refusals
use Rattle.som_sema_drafts.specs.Items.{chosen}

kept_by : (b : Bool) (p : Passed) → first (if b then [] else p ∷ []) ≡ None → b ≡ true
kept_by true p e = refl
kept_by false p e = cc

pub is_at_most : (q : List ℕ) (n count : ℕ) → first (at_most q n count) ≡ None → count ≤ n
is_at_most q n count e = leb-true count n (kept_by (nat_le count n) (record { quantity = q; number = n }) e)

pub says_at_most : (q : List ℕ) (n count : ℕ) → count ≤ n → first (at_most q n count) ≡ None
says_at_most q n count le = let t : nat_le count n ≡ true = le-leb count n le in rw t refl

entry_says : (e : Entry) (name : List ℕ) (sig : Sig) (way : Way) → e ≡ entries.Introduced name sig way → first (entry_limits e) ≡ None → length sig.params ≤ MAX_PARAMETERS
entry_says e name sig way is n = is_at_most (codes "parameters") MAX_PARAMETERS (length sig.params) (rw is at n)

says_entry : (e : Entry) → ((name : List ℕ) (sig : Sig) (way : Way) → e ≡ entries.Introduced name sig way → length sig.params ≤ MAX_PARAMETERS) → first (entry_limits e) ≡ None
says_entry (entries.Introduced name sig way) f = says_at_most (codes "parameters") MAX_PARAMETERS (length sig.params) (f name sig way refl)
says_entry (entries.Moved name to) f = refl

-- the limits of one class
record Kept (d : InterfaceDraft) : Type 0 where
  parents : length d.class.face.parents ≤ MAX_PARENTS
  entries : length d.class.face.entries ≤ MAX_ENTRIES
  overrides : length d.class.overrides ≤ MAX_OVERRIDES
  selects : length (chosen d.text.items) ≤ MAX_SELECTS
  variables : length d.class.variables ≤ MAX_VARIABLES
  parameters : first (flat_map entry_limits d.class.face.entries) ≡ None

-- the lists of what passes each, one after the other
module _ (d : InterfaceDraft) where
  abbrev parents : List Passed
  parents = at_most (codes "parents") MAX_PARENTS (length d.class.face.parents)

  abbrev entries_passed : List Passed
  entries_passed = at_most (codes "entries") MAX_ENTRIES (length d.class.face.entries)

  abbrev overrides : List Passed
  overrides = at_most (codes "overrides") MAX_OVERRIDES (length d.class.overrides)

  abbrev selects : List Passed
  selects = at_most (codes "selects") MAX_SELECTS (length (chosen d.text.items))

  abbrev variables : List Passed
  variables = at_most (codes "variables") MAX_VARIABLES (length d.class.variables)

  class_says : first (class_limits d) ≡ None → Kept d
  class_says e =
      let p = none_both (parents ++ entries_passed ++ overrides ++ selects ++ variables) (flat_map entry_limits d.class.face.entries) e in
      let q = none_both (parents ++ entries_passed ++ overrides ++ selects) variables p.0 in
      let r = none_both (parents ++ entries_passed ++ overrides) selects q.0 in
      let s = none_both (parents ++ entries_passed) overrides r.0 in
      let t = none_both parents entries_passed s.0 in
      record {
        parents = is_at_most (codes "parents") MAX_PARENTS (length d.class.face.parents) t.0;
        entries = is_at_most (codes "entries") MAX_ENTRIES (length d.class.face.entries) t.1;
        overrides = is_at_most (codes "overrides") MAX_OVERRIDES (length d.class.overrides) s.1;
        selects = is_at_most (codes "selects") MAX_SELECTS (length (chosen d.text.items)) r.1;
        variables = is_at_most (codes "variables") MAX_VARIABLES (length d.class.variables) q.1;
        parameters = p.1;
      }

  says_class : Kept d → first (class_limits d) ≡ None
  says_class k =
      both_none (parents ++ entries_passed ++ overrides ++ selects ++ variables) (flat_map entry_limits d.class.face.entries)
      (both_none (parents ++ entries_passed ++ overrides ++ selects) variables
      (both_none (parents ++ entries_passed ++ overrides) selects
      (both_none (parents ++ entries_passed) overrides
      (both_none parents entries_passed
      (says_at_most (codes "parents") MAX_PARENTS (length d.class.face.parents) k.parents) (says_at_most (codes "entries") MAX_ENTRIES (length d.class.face.entries) k.entries))
      (says_at_most (codes "overrides") MAX_OVERRIDES (length d.class.overrides) k.overrides))
      (says_at_most (codes "selects") MAX_SELECTS (length (chosen d.text.items)) k.selects))
      (says_at_most (codes "variables") MAX_VARIABLES (length d.class.variables) k.variables))
      k.parameters

pub few_variables : (d : InterfaceDraft) → first (class_limits d) ≡ None → length d.class.variables ≤ MAX_VARIABLES
few_variables d e = (class_says d e).variables

pub few_parents : (d : InterfaceDraft) → first (class_limits d) ≡ None → length d.class.face.parents ≤ MAX_PARENTS
few_parents d e = (class_says d e).parents

-- the methods that entries introduce have few parameters
pub few_parameters : (es : List Entry) → first (flat_map entry_limits es) ≡ None → (name : List ℕ) (sig : Sig) (way : Way) → Mem (entries.Introduced name sig way) es → length sig.params ≤ MAX_PARAMETERS
few_parameters es e name sig way m = entry_says (entries.Introduced name sig way) name sig way refl (flat_none entry_limits es (entries.Introduced name sig way) e m)

pub limits_law : (ds : List InterfaceDraft) → (limit_passed ds ≡ None) ↔ LimitsKept ds
limits_law ds =
    let each = λ (e : limit_passed ds ≡ None) (d : InterfaceDraft) (m : Mem d ds). class_says d (flat_none class_limits ds d e m) in (
      (λ e. record {
        parents = λ d m. (each e d m).parents;
        entries = λ d m. (each e d m).entries;
        overrides = λ d m. (each e d m).overrides;
        selects = λ d m. (each e d m).selects;
        variables = λ d m. (each e d m).variables;
        parameters = λ d name sig way m n. few_parameters d.class.face.entries (each e d m).parameters name sig way n;
      }),
      (λ r. none_flat class_limits ds (λ d m. says_class d (record {
        parents = r.parents d m;
        entries = r.entries d m;
        overrides = r.overrides d m;
        selects = r.selects d m;
        variables = r.variables d m;
        parameters = none_flat entry_limits d.class.face.entries (λ e n. says_entry e (λ name sig way is. r.parameters d name sig way m (subst (λ z. Mem z d.class.face.entries) is n)));
      }))),
    )

-- ---- the first class that passes a limit

first_here : {A : Type 0} (xs ys : List A) (x : A) → first xs ≡ Some x → first (xs ++ ys) ≡ Some x
first_here [] ys x e = absurd (let z = e in cc)
first_here (a ∷ xs) ys x e = e

pub limit_stops : (ds : List Draft) (i : ℕ) (d : Draft) (e : Refused) → i < length ds → d ≡ get_or ds i d → limit_passed (plain_drafts (drop i ds)) ≡ limit_passed (plain_drafts ds)
    → KeepsLimit (first (class_limits (plain_draft d))) (Err e) → KeepsLimit (limit_passed (plain_drafts ds)) (Err e)
limit_stops ds i d (refusals.Rule b) lt is so k = absurd k
limit_stops ds i d (refusals.Limit q n) lt is so k =
    let one : limit_passed (plain_drafts (drop i ds)) ≡ limit_passed (plain_drafts (d ∷ drop (i + 1) ds)) =
    at_drop_more (λ (z : List Draft). limit_passed (plain_drafts z)) ds i d lt ∙ ap (λ (x : Draft). limit_passed (plain_drafts (x ∷ drop (i + 1) ds))) (sym is) in
    sym so ∙ one ∙ first_here (class_limits (plain_draft d)) (flat_map class_limits (plain_drafts (drop (i + 1) ds))) (record { quantity = q; number = n }) k
limit_stops ds i d refusals.NoMemory lt is so k = tt
