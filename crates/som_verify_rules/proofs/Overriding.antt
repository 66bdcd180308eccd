-- Overrides, one after the other.
use Rattle.std.proofs.Common.{◌≡◌, ℕ, zero, suc, ◌+◌, ◌<◌, ◌≤◌, Bool, true, false, if◌then◌else◌, List, [], ◌∷◌, ◌++◌, length, drop, take, slice_index_or, Option, Some, None, refl, sym, ap, ◌∙◌, arith, drop-cons, append_assoc}
use Rattle.std.proofs.lemmas.List.{take_all}
use Rattle.som_model.specs.Lists.{first, or_else}
use Rattle.som_model.specs.Class.{Class}
use Rattle.som_model.specs.Owner.{owner}
use Rattle.som_model.specs.Rules.{RuleBreach, breach, demand_of}
use Rattle.som_model.specs.declared.key.ClassKey.{ClassKey}
use Rattle.som_model.specs.declared.key.MethodRef.{MethodRef}
use Rattle.som_model.specs.declared.class.Override.{Override}
use Rattle.som_verify_classes.specs.Inherited.{may_override, overridden, overrides_from}
use Rattle.som_verify_classes.proofs.ClassTable.{drop_end}
use Rattle.som_verify_classes.proofs.Passes.{first_both}

drop_here : (os : List Override) (i : ℕ) (o : Override) → i < length os → o ≡ slice_index_or os i o → drop i os ≡ o ∷ drop (i + 1) os
drop_here os i o lt is =
    let e : suc i ≡ i + 1 = omega arith in
    drop-cons os i o lt ∙ ap (λ z. z ∷ drop (suc i) os) (sym is) ∙ ap (λ n. o ∷ drop n os) e

pub demanded : (b : Bool) (x : RuleBreach) (later : Option RuleBreach) → b ≡ true → or_else (first (if b then [] else x ∷ [])) later ≡ later
demanded true x later e = refl
demanded false x later e = cc

pub refused : (b : Bool) (x : RuleBreach) (later : Option RuleBreach) → b ≡ false → or_else (first (if b then [] else x ∷ [])) later ≡ Some x
refused true x later e = cc
refused false x later e = refl

module _ (cs : List Class) (k : ClassKey) (c : Class) (before : List MethodRef) (os : List Override) (i : ℕ) (whole : Option RuleBreach) (so : first (overrides_from cs k c before (drop i os)) ≡ whole) where
  pub overrides_end : length os ≤ i → whole ≡ None
  overrides_end le = sym so ∙ ap (λ z. first (overrides_from cs k c before z)) (drop_end os i le)

  module _ (o : Override) (lt : i < length os) (is : o ≡ slice_index_or os i o) (r : MethodRef) (owns : r ≡ owner cs o.method) (asked : Bool) (asks : asked ≡ may_override cs k before r) where
    one : or_else (first (if asked then [] else breach 10 c o.method.name ∷ [])) (first (overrides_from cs k c (before ++ r ∷ []) (drop (i + 1) os))) ≡ whole
    one =
        ap (λ b. or_else (first (if b then [] else breach 10 c o.method.name ∷ [])) (first (overrides_from cs k c (before ++ r ∷ []) (drop (i + 1) os)))) asks
        ∙ ap (λ m. or_else (first (demand_of 10 c o.method.name (may_override cs k before m))) (first (overrides_from cs k c (before ++ m ∷ []) (drop (i + 1) os)))) owns
        ∙ sym (first_both (demand_of 10 c o.method.name (may_override cs k before (owner cs o.method))) (overrides_from cs k c (before ++ owner cs o.method ∷ []) (drop (i + 1) os)))
        ∙ ap (λ z. first (overrides_from cs k c before z)) (sym (drop_here os i o lt is))
        ∙ so

    -- a method that may be overridden
    pub overrides_go_on : (more : List MethodRef) → asked ≡ true → more ≡ before ++ r ∷ [] → first (overrides_from cs k c more (drop (i + 1) os)) ≡ whole
    overrides_go_on more yes_ grown =
        ap (λ z. first (overrides_from cs k c z (drop (i + 1) os))) grown
        ∙ sym (demanded asked (breach 10 c o.method.name) (first (overrides_from cs k c (before ++ r ∷ []) (drop (i + 1) os))) yes_)
        ∙ one

    -- one that may not
    pub override_stops : asked ≡ false → whole ≡ Some (breach 10 c o.method.name)
    override_stops no_ = sym one ∙ refused asked (breach 10 c o.method.name) (first (overrides_from cs k c (before ++ r ∷ []) (drop (i + 1) os))) no_

-- the owners of the overrides so far

taken_one : (cs : List Class) (os : List Override) (i : ℕ) (o : Override) → i < length os → o ≡ slice_index_or os i o → overridden cs (take (i + 1) os) ≡ overridden cs (take i os) ++ owner cs o.method ∷ []
taken_one cs [] i o lt is = absurd (omega arith)
taken_one cs (x ∷ os) zero o lt is = ap (λ (z : Override). owner cs z.method ∷ []) (sym is)
taken_one cs (x ∷ os) (suc i) o lt is =
    let e : suc i + 1 ≡ suc (i + 1) = omega arith in
    ap (λ n. overridden cs (take n (x ∷ os))) e
    ∙ ap (λ z. owner cs x.method ∷ z) (taken_one cs os i o (omega arith) is)

pub owners_grow : (cs : List Class) (os : List Override) (i : ℕ) (o : Override) (r : MethodRef) (old before more : List MethodRef) → i < length os → o ≡ slice_index_or os i o → r ≡ owner cs o.method
    → before ≡ old ++ overridden cs (take i os) → more ≡ before ++ r ∷ [] → more ≡ old ++ overridden cs (take (i + 1) os)
owners_grow cs os i o r old before more lt is owns so grown =
    grown
    ∙ ap (λ z. z ++ r ∷ []) so
    ∙ append_assoc old (overridden cs (take i os)) (r ∷ [])
    ∙ ap (λ z. old ++ (overridden cs (take i os) ++ z ∷ [])) owns
    ∙ ap (λ z. old ++ z) (sym (taken_one cs os i o lt is))

pub owners_end : (cs : List Class) (os : List Override) (i : ℕ) (old before : List MethodRef) → length os ≤ i → before ≡ old ++ overridden cs (take i os) → before ≡ old ++ overridden cs os
owners_end cs os i old before le so = so ∙ ap (λ z. old ++ overridden cs z) (take_all i os le)
