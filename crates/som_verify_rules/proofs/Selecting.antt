-- Selects, one after the other.
use Rattle.std.proofs.Common.{◌≡◌, ℕ, suc, ◌+◌, ◌<◌, ◌≤◌, Bool, true, false, if◌then◌else◌, List, [], ◌∷◌, ◌++◌, length, drop, slice_get, slice_index_or, Option, Some, None, sym, ap, ◌∙◌, arith, drop-cons}
use Rattle.som_model.specs.Lists.{first, or_else}
use Rattle.som_model.specs.Class.{Class}
use Rattle.som_model.specs.Owner.{owner}
use Rattle.som_model.specs.Rules.{RuleBreach, breach, demand_of}
use Rattle.som_model.specs.declared.key.ClassKey.{ClassKey}
use Rattle.som_model.specs.declared.key.MethodRef.{MethodRef}
use Rattle.som_model.specs.declared.class.Select.{Select}
use Rattle.som_verify_classes.specs.Inherited.{may_select, selects_from}
use Rattle.som_verify_classes.proofs.ClassTable.{drop_end}
use Rattle.som_verify_rules.proofs.Overriding.{demanded, refused}
use Rattle.som_verify_classes.proofs.Passes.{first_both}

drop_here : (ss : List Select) (i : ℕ) (s : Select) → i < length ss → s ≡ slice_index_or ss i s → drop i ss ≡ s ∷ drop (i + 1) ss
drop_here ss i s lt is =
    let e : suc i ≡ i + 1 = omega arith in
    drop-cons ss i s lt ∙ ap (λ z. z ∷ drop (suc i) ss) (sym is) ∙ ap (λ n. s ∷ drop n ss) e

module _ (cs : List Class) (k : ClassKey) (c : Class) (before : List MethodRef) (ss : List Select) (i : ℕ) (whole : Option RuleBreach) (so : first (selects_from cs k c before (drop i ss)) ≡ whole) where
  pub selects_end : length ss ≤ i → whole ≡ None
  selects_end le = sym so ∙ ap (λ z. first (selects_from cs k c before z)) (drop_end ss i le)

  module _ (s : Select) (lt : i < length ss) (is : s ≡ slice_index_or ss i s) (r : MethodRef) (owns : r ≡ owner cs s.method) (asked : Bool) (asks : asked ≡ may_select cs k before r (slice_get c.decl.face.parents s.parent)) where
    one : or_else (first (if asked then [] else breach 10 c s.method.name ∷ [])) (first (selects_from cs k c (before ++ r ∷ []) (drop (i + 1) ss))) ≡ whole
    one =
        let parent = slice_get c.decl.face.parents s.parent in
        ap (λ b. or_else (first (if b then [] else breach 10 c s.method.name ∷ [])) (first (selects_from cs k c (before ++ r ∷ []) (drop (i + 1) ss)))) asks
        ∙ ap (λ m. or_else (first (demand_of 10 c s.method.name (may_select cs k before m parent))) (first (selects_from cs k c (before ++ m ∷ []) (drop (i + 1) ss)))) owns
        ∙ sym (first_both (demand_of 10 c s.method.name (may_select cs k before (owner cs s.method) parent)) (selects_from cs k c (before ++ owner cs s.method ∷ []) (drop (i + 1) ss)))
        ∙ ap (λ z. first (selects_from cs k c before z)) (sym (drop_here ss i s lt is))
        ∙ so

    -- a method that may be selected
    pub selects_go_on : (more : List MethodRef) → asked ≡ true → more ≡ before ++ r ∷ [] → first (selects_from cs k c more (drop (i + 1) ss)) ≡ whole
    selects_go_on more yes_ grown =
        ap (λ z. first (selects_from cs k c z (drop (i + 1) ss))) grown
        ∙ sym (demanded asked (breach 10 c s.method.name) (first (selects_from cs k c (before ++ r ∷ []) (drop (i + 1) ss))) yes_)
        ∙ one

    -- one that may not
    pub select_stops : asked ≡ false → whole ≡ Some (breach 10 c s.method.name)
    select_stops no_ = sym one ∙ refused asked (breach 10 c s.method.name) (first (selects_from cs k c (before ++ r ∷ []) (drop (i + 1) ss))) no_
