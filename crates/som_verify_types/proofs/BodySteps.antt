-- Bodies one after the other, and the block of each.
use Rattle.std.proofs.Common.{◌≡◌, ℕ, zero, suc, ◌+◌, ◌-◌, ◌<◌, ◌≤◌, List, [], ◌∷◌, ◌++◌, length, take, drop, get_or, slice_index_or, flat_map, codes, true, Option, Some, None, Result, Ok, Err, refl, sym, ap, ◌∙◌, subst, arith}
use Rattle.std.proofs.lemmas.List.{at_drop_more}
use Rattle.som_model.specs.declared.syntax.Block.{Block}
use Rattle.som_model.specs.declared.class.Sig.{Sig}
use Rattle.som_model.specs.declared.class.Override.{Override}
use Rattle.som_model.specs.declared.class.Way.{Way}
use Rattle.som_model.specs.declared.class.Entry.{Entry}
use Rattle.som_model.specs.declared.class.Entry.TheVariants as entries
use Rattle.som_model.specs.declared.class.Body.{Body}
use Rattle.som_model.specs.declared.class.Body.TheVariants as bodies
use Rattle.som_model.specs.Lists.{Mem, every, first, or_else}
use Rattle.som_model.specs.Class.{Class}
use Rattle.som_model.specs.Conforming.{bodies_typed, block_breach, main_typed, override_typed}
use Rattle.som_model.specs.Rules.{RuleBreach, breach, is_known}
use Rattle.som_model.specs.Typing.{Ruled, class_facts, in_body}
use Rattle.som_model.specs.TypedBlocks.{Scope, block_scope}
use Rattle.som_verify_forms.specs.declared.kind.Kind.{Kind}
use Rattle.som_verify_forms.specs.declared.kind.Kind.TheVariants as kinds
use Rattle.som_verify_classes.specs.declared.types.VerifyFault.{VerifyFault}
use Rattle.som_verify_classes.specs.declared.types.VerifyFault.TheVariants as faults
use Rattle.som_verify_forms.specs.declared.knowledge.Knowledge.{Knowledge}
use Rattle.som_verify_types.specs.Bodies.{AllSigsKnown, SigsKnown, StandsAt, body_breaks}
use Rattle.som_verify_classes.specs.declared.types.Declared.{Declared}
use Rattle.som_verify_classes.specs.Modules.{class_of, classes_of}
use Rattle.som_verify_classes.specs.Places.{class_of_place, nobody, with_kernel}
use Rattle.som_verify_forms.specs.Kinds.{type_at}
use Rattle.som_verify_forms.specs.Knowing.{all_of, facts_of, sig_is_known}
use Rattle.som_verify_forms.specs.Scopes.{Ends, blocked_by, scope_at}
use Rattle.som_verify_classes.specs.Told.{Tells}
use Rattle.som_verify_classes.proofs.DeclaredClasses.{item_of, long_map}
use Rattle.som_model.proofs.KeyLaws.{both}
use Rattle.som_verify_forms.proofs.Facts.{signature_said}
use Rattle.som_verify_forms.proofs.KindLists.{item_mem}
use Rattle.som_verify_classes.proofs.PlainLists.{mem_map}
use Rattle.som_verify_classes.proofs.Rows.{take_whole}
use Rattle.som_verify_classes.proofs.Passes.{first_both, tells_first}

-- ---- one block

-- what a block that breaks a rule is told as
abbrev told_of : Class → List ℕ → Ruled Scope → List RuleBreach
told_of c name (Ok scope) = []
told_of c name (Err rule) = breach rule c name ∷ []

module _ (known : Knowledge) (place : ℕ) (c : Class) (sig : Sig) (block : Block) (k : Kind) (scope : List Kind)
    (stands : StandsAt (all_of known) place c) (result : type_at (all_of known) k ≡ sig.result) (params : scope_at (all_of known) scope ≡ sig.params) where
  -- the block of a method, by kinds
  block_is : blocked_by known (record { class = Some place; result = k }) scope block ≡ block_scope (class_facts (all_of known)) (in_body c sig.result) block sig.params
  block_is =
      ap (λ (z : Class). block_scope (facts_of known) (record { class = Some z; result = type_at (all_of known) k }) block (scope_at (all_of known) scope)) stands.is
      ∙ ap (λ z. block_scope (facts_of known) (in_body c z) block (scope_at (all_of known) scope)) result
      ∙ ap (λ (z : Scope). block_scope (facts_of known) (in_body c sig.result) block z) params

  pub block_holds : (name : List ℕ) (after : List Kind) → Ends (blocked_by known (record { class = Some place; result = k }) scope block) scope after → first (block_breach (all_of known) c name sig block) ≡ None
  block_holds name after ends = ap (λ (z : Ruled Scope). first (told_of c name z)) (sym block_is ∙ ends.ends)

  pub block_breaks : (name : List ℕ) (rule : ℕ) (e : VerifyFault) → blocked_by known (record { class = Some place; result = k }) scope block ≡ Err rule
      → e ≡ faults.Rule (record { rule = rule; class = c.decl.face.name; member = name }) → Tells {A = Unit {0}} (first (block_breach (all_of known) c name sig block)) (Err e)
  block_breaks name rule e is fault =
      subst (λ (z : VerifyFault). Tells {A = Unit {0}} (first (block_breach (all_of known) c name sig block)) (Err z)) (sym fault)
      (ap (λ (z : Ruled Scope). first (told_of c name z)) (sym block_is ∙ is))

-- ---- one member after the other

module _ {A : Type 0} (one : A → List RuleBreach) (xs : List A) (i : ℕ) (x : A) (lt : i < length xs) (is : x ≡ get_or xs i x) where
  next_is : first (flat_map one (drop i xs)) ≡ or_else (first (one x)) (first (flat_map one (drop (i + 1) xs)))
  next_is =
      at_drop_more (λ l. first (flat_map one l)) xs i x lt
      ∙ ap (λ z. first (one z ++ flat_map one (drop (i + 1) xs))) (sym is)
      ∙ first_both (one x) (flat_map one (drop (i + 1) xs))

  pub next_holds : (whole : Option RuleBreach) → first (one x) ≡ None → first (flat_map one (drop i xs)) ≡ whole → first (flat_map one (drop (i + 1) xs)) ≡ whole
  next_holds whole none same = sym (ap (λ o. or_else o (first (flat_map one (drop (i + 1) xs)))) none) ∙ sym next_is ∙ same

  pub next_breaks : (whole : Option RuleBreach) (e : VerifyFault) → Tells {A = Unit {0}} (first (one x)) (Err e) → first (flat_map one (drop i xs)) ≡ whole → Tells {A = Unit {0}} whole (Err e)
  next_breaks whole e t same = tells_first (first (one x)) (first (flat_map one (drop (i + 1) xs))) whole e t (sym next_is ∙ same)

-- ---- introduced bodies

pub entry_mem : (es : List Entry) (i : ℕ) (x : Entry) (name : List ℕ) (sig : Sig) (way : Way) → i < length es → x ≡ slice_index_or es i x → x ≡ entries.Introduced name sig way → Mem (entries.Introduced name sig way) es
entry_mem es i x name sig way lt is form = subst (λ (z : Entry). Mem z es) form (item_mem es i x lt is)

-- a list that isn't empty is its first and the rest
pub first_and_rest : {A : Type 0} (xs : List A) (x : A) → 1 ≤ length xs → x ≡ slice_index_or xs 0 x → xs ≡ x ∷ take (length xs - 1) (drop 1 xs)
first_and_rest [] x le is = absurd (omega arith)
first_and_rest (y ∷ xs) x le is = ap (λ z. z ∷ xs) (sym is) ∙ ap (λ z. x ∷ z) (sym (take_whole xs (length (y ∷ xs) - 1) (omega arith)))

module _ (cs : List Class) (c : Class) where
  body_first : (name : List ℕ) (sig : Sig) (way : Way) (es : List Entry) (b : Body) (bs : List Body)
      → bodies_typed cs c (entries.Introduced name sig way ∷ es) (b ∷ bs) ≡ body_breaks cs c name sig b ++ bodies_typed cs c es bs
  body_first name sig way es (bodies.User block) bs = refl
  body_first name sig way es (bodies.Get n) bs = refl
  body_first name sig way es (bodies.Set n) bs = refl

  module _ (es : List Entry) (bs later : List Body) (i : ℕ) (x : Entry) (name : List ℕ) (sig : Sig) (way : Way) (b : Body)
      (lt : i < length es) (is : x ≡ get_or es i x) (form : x ≡ entries.Introduced name sig way) (front : bs ≡ b ∷ later) where
    body_next : first (bodies_typed cs c (drop i es) bs) ≡ or_else (first (body_breaks cs c name sig b)) (first (bodies_typed cs c (drop (i + 1) es) later))
    body_next =
        at_drop_more (λ l. first (bodies_typed cs c l bs)) es i x lt
        ∙ ap (λ z. first (bodies_typed cs c (z ∷ drop (i + 1) es) bs)) (sym is ∙ form)
        ∙ ap (λ z. first (bodies_typed cs c (entries.Introduced name sig way ∷ drop (i + 1) es) z)) front
        ∙ ap first (body_first name sig way (drop (i + 1) es) b later)
        ∙ first_both (body_breaks cs c name sig b) (bodies_typed cs c (drop (i + 1) es) later)

    pub body_holds : (whole : Option RuleBreach) → first (body_breaks cs c name sig b) ≡ None → first (bodies_typed cs c (drop i es) bs) ≡ whole → first (bodies_typed cs c (drop (i + 1) es) later) ≡ whole
    body_holds whole none same = sym (ap (λ o. or_else o (first (bodies_typed cs c (drop (i + 1) es) later))) none) ∙ sym body_next ∙ same

    pub body_stops : (whole : Option RuleBreach) (e : VerifyFault) → Tells {A = Unit {0}} (first (body_breaks cs c name sig b)) (Err e) → first (bodies_typed cs c (drop i es) bs) ≡ whole → Tells {A = Unit {0}} whole (Err e)
    body_stops whole e t same = tells_first (first (body_breaks cs c name sig b)) (first (bodies_typed cs c (drop (i + 1) es) later)) whole e t (sym body_next ∙ same)

-- ---- one list of bodies and then another

pub both_here : (xs ys : List RuleBreach) (e : VerifyFault) → Tells {A = Unit {0}} (first xs) (Err e) → Tells {A = Unit {0}} (first (xs ++ ys)) (Err e)
both_here xs ys e t = tells_first (first xs) (first ys) (first (xs ++ ys)) e t (sym (first_both xs ys))

pub both_later : (xs ys : List RuleBreach) (r : Result (Unit {0}) VerifyFault) → first xs ≡ None → Tells (first ys) r → Tells (first (xs ++ ys)) r
both_later xs ys r none t = subst (λ o. Tells o r) (sym (first_both xs ys ∙ ap (λ o. or_else o (first ys)) none)) t

-- ---- a declared class at its place

any_or : (cs : List Class) (i : ℕ) (d e : Class) → i < length cs → slice_index_or cs i d ≡ slice_index_or cs i e
any_or [] i d e lt = absurd (omega arith)
any_or (x ∷ cs) zero d e lt = refl
any_or (x ∷ cs) (suc i) d e lt = any_or cs i d e (omega arith)

pub declared_stands : (ds : List Declared) (place : ℕ) (d : Declared) → place < length ds → d ≡ slice_index_or ds place d → StandsAt (with_kernel (classes_of ds)) (place + 4) (class_of d)
declared_stands ds place d lt is =
    let four : suc (suc (suc (suc place))) ≡ place + 4 = omega arith in
    record {
      there = (omega arith, omega (arith, lt, long_map class_of ds));
      is = ap (class_of_place (with_kernel (classes_of ds))) (sym four) ∙ any_or (classes_of ds) place nobody (class_of d) (omega (arith, lt, long_map class_of ds)) ∙ sym (item_of ds place d lt) ∙ ap class_of (sym is);
    }

pub declared_sigs : (cs : List Class) (ds : List Declared) (place : ℕ) (d : Declared) → place < length ds → d ≡ slice_index_or ds place d → AllSigsKnown cs (classes_of ds) → SigsKnown cs (class_of d)
declared_sigs cs ds place d lt is all = all.by (class_of d) (mem_map class_of d ds (item_mem ds place d lt is))

-- ---- an override by its signature

abbrev by_sig : List Class → Class → Override → Option Sig → List RuleBreach
by_sig cs c o None = []
by_sig cs c o (Some sig) = block_breach cs c o.method.name sig o.block

pub unsigned : (cs : List Class) (c : Class) (o : Override) → None ≡ (class_facts cs).signature o.method → first (override_typed cs c o) ≡ None
unsigned cs c o e = ap (λ z. first (by_sig cs c o z)) (sym (e ∙ signature_said cs o.method))

pub signed : (cs : List Class) (c : Class) (o : Override) (sig : Sig) (r : Result (Unit {0}) VerifyFault) → Some sig ≡ (class_facts cs).signature o.method
    → Tells (first (block_breach cs c o.method.name sig o.block)) r → Tells (first (override_typed cs c o)) r
signed cs c o sig r e t = subst (λ z. Tells (first (by_sig cs c o z)) r) (e ∙ signature_said cs o.method) t

-- ---- main

-- what main that breaks a rule is told as
abbrev main_told : Ruled Scope → List RuleBreach
main_told (Ok scope) = []
main_told (Err rule) = record { rule = rule; class = codes "main"; member = codes "-" } ∷ []

module _ (known : Knowledge) (main : Block) where
  pub main_holds : (after : List Kind) → Ends (blocked_by known (record { class = None; result = kinds.Void }) [] main) [] after → first (main_typed (all_of known) main) ≡ None
  main_holds after ends = ap (λ (z : Ruled Scope). first (main_told z)) ends.ends

  pub main_breaks : (rule : ℕ) (class member : List ℕ) → blocked_by known (record { class = None; result = kinds.Void }) [] main ≡ Err rule → class ≡ codes "main" → member ≡ codes "-"
      → Tells {A = Unit {0}} (first (main_typed (all_of known) main)) (Err (faults.Rule (record { rule = rule; class = class; member = member })))
  main_breaks rule class member is named shown =
      ap (λ (z : Ruled Scope). first (main_told z)) is ∙ ap (λ z. Some (record { rule = rule; class = z; member = codes "-" })) (sym named) ∙ ap (λ z. Some (record { rule = rule; class = class; member = z })) (sym shown)

-- each type of a signature is known
pub sig_parts : (cs : List Class) (sig : Sig) → sig_is_known cs sig ≡ true → (is_known cs sig.result ≡ true) × (every (is_known cs) sig.params ≡ true)
sig_parts cs sig e = both (is_known cs sig.result) (every (is_known cs) sig.params) e
