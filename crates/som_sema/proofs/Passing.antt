-- Passes over what a list comes to, told by its first.
use Rattle.std.proofs.Common.{◌≡◌, ℕ, ◌+◌, ◌<◌, Bool, true, false, ◌&&◌, List, [], ◌∷◌, ◌++◌, length, drop, slice_index_or, Option, Some, None, refl, sym, ap, ◌∙◌}
use Rattle.std.proofs.lemmas.List.{drop_more}
use Rattle.som_model.specs.declared.key.Module.{Module}
use Rattle.som_model.specs.declared.key.ClassKey.{ClassKey}
use Rattle.som_model.specs.Lists.{among, first, or_else}
use Rattle.som_model.specs.Class.{Class}
use Rattle.som_model_laws.proofs.Laws.{among_mem}
use Rattle.som_model_laws.proofs.Members.{both_or_none}
use Rattle.som_ast.specs.declared.interface.Modifier.{Modifier}
use Rattle.som_ast.specs.declared.interface.Modifier.TheVariants as modifiers
use Rattle.som_verify_classes.proofs.Passes.{first_both}
use Rattle.som_sema_scope.specs.Words.{once}
use Rattle.som_sema_drafts.specs.Drafts.{InterfaceDraft}
use Rattle.som_sema_drafts.specs.Items.{Given}
use Rattle.som_sema_drafts.specs.Demands.{text_breach, text_demand}
use Rattle.som_sema.specs.TextRules.{may_take, replaces}
use Rattle.som_sema.proofs.TextLaws.{mem_of_once, says_once}

one_more : {A B : Type 0} (F : List A → List B) (xs : List A) (i : ℕ) (x d : A) (ys : List B) → i < length xs → x ≡ slice_index_or xs i d
    → F (x ∷ drop (i + 1) xs) ≡ ys ++ F (drop (i + 1) xs) → first (F (drop i xs)) ≡ or_else (first ys) (first (F (drop (i + 1) xs)))
one_more F xs i x d ys lt is one =
    ap (λ z. first (F z)) (drop_more xs i d lt ∙ ap (λ z. z ∷ drop (i + 1) xs) (sym is)) ∙ ap first one ∙ first_both ys (F (drop (i + 1) xs))

none_first : {A : Type 0} (o r : Option A) → o ≡ None → or_else o r ≡ r
none_first o r e = rw e refl

pub stays : {A B : Type 0} (F : List A → List B) (xs : List A) (i : ℕ) (x d : A) (ys : List B) (whole : Option B) → i < length xs → x ≡ slice_index_or xs i d
    → F (x ∷ drop (i + 1) xs) ≡ ys ++ F (drop (i + 1) xs) → first ys ≡ None → first (F (drop i xs)) ≡ whole → first (F (drop (i + 1) xs)) ≡ whole
stays F xs i x d ys whole lt is one none same = sym (none_first (first ys) (first (F (drop (i + 1) xs))) none) ∙ sym (one_more F xs i x d ys lt is one) ∙ same

pub breaks : {A B : Type 0} (F : List A → List B) (xs : List A) (i : ℕ) (x d : A) (ys : List B) (whole : Option B) (b : B) → i < length xs → x ≡ slice_index_or xs i d
    → F (x ∷ drop (i + 1) xs) ≡ ys ++ F (drop (i + 1) xs) → first ys ≡ Some b → first (F (drop i xs)) ≡ whole → whole ≡ Some b
breaks F xs i x d ys whole b lt is one some same =
    sym same ∙ one_more F xs i x d ys lt is one ∙ ap (λ o. or_else o (first (F (drop (i + 1) xs)))) some

-- names, each once, are the names
pub among_once : (x : List ℕ) (xs : List (List ℕ)) → among x (once xs) ≡ among x xs
among_once x xs = both_or_none (among x (once xs)) (among x xs)
    (λ e. (among_mem x xs).1 (mem_of_once x xs e))
    (λ e. (among_mem x (once xs)).1 (says_once x [] xs ((among_mem x xs).0 e)))

replaces_once : (m : Modifier) (module_of : List ℕ → Module) (cs : List Class) (k : ClassKey) (parents selecting : List (List ℕ)) (name : List ℕ)
    → replaces module_of cs k (once parents) selecting name m ≡ replaces module_of cs k parents selecting name m
replaces_once modifiers.Override module_of cs k parents selecting name = refl
replaces_once modifiers.NameLookup module_of cs k parents selecting name = refl
replaces_once modifiers.Offset module_of cs k parents selecting name = refl
replaces_once (modifiers.Select p) module_of cs k parents selecting name = ap (λ b. b && may_take module_of cs k name p.text) (among_once p.text parents)

module _ (module_of : List ℕ → Module) (cs : List Class) (k : ClassKey) (d : InterfaceDraft) (parents selecting names methods : List (List ℕ)) (named : names ≡ once parents) (with_it : methods ≡ selecting) (g : Given) where
  shown : replaces module_of cs k names methods g.method g.modifier ≡ replaces module_of cs k parents selecting g.method g.modifier
  shown =
      ap (λ z. replaces module_of cs k z methods g.method g.modifier) named
      ∙ ap (λ z. replaces module_of cs k (once parents) z g.method g.modifier) with_it
      ∙ replaces_once g.modifier module_of cs k parents selecting g.method

  demand_by : (b c : Bool) → b ≡ c → b ≡ true → first (text_demand 10 d g.method c) ≡ None
  demand_by true true e t = refl
  demand_by true false e t = cc
  demand_by false c e t = cc

  demand_not : (b c : Bool) → b ≡ c → b ≡ false → first (text_demand 10 d g.method c) ≡ Some (text_breach 10 d g.method)
  demand_not false false e t = refl
  demand_not false true e t = cc
  demand_not true c e t = cc

  pub holds : (b : Bool) → b ≡ replaces module_of cs k names methods g.method g.modifier → b ≡ true → first (text_demand 10 d g.method (replaces module_of cs k parents selecting g.method g.modifier)) ≡ None
  holds b e t = demand_by b (replaces module_of cs k parents selecting g.method g.modifier) (e ∙ shown) t

  pub fails : (b : Bool) → b ≡ replaces module_of cs k names methods g.method g.modifier → b ≡ false
      → first (text_demand 10 d g.method (replaces module_of cs k parents selecting g.method g.modifier)) ≡ Some (text_breach 10 d g.method)
  fails b e t = demand_not b (replaces module_of cs k parents selecting g.method g.modifier) (e ∙ shown) t
