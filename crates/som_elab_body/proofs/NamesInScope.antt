-- Names in scope, and one more local among them.
use Rattle.std.proofs.Common.{◌≡◌, ℕ, suc, ◌+◌, ◌<◌, ◌≤◌, Bool, true, false, not, if◌then◌else◌, nat_lt, inl, inr, List, [], ◌∷◌, ◌++◌, length, is_some, Option, Some, Ok, Err, refl, sym, ap, ◌∙◌, subst, arith}
use Rattle.std.specs.Str.{bytes_eq}
use Rattle.std.proofs.lemmas.List.{length_push, map_push}
use Rattle.som_model.specs.declared.key.ValueType.{ValueType}
use Rattle.som_model.specs.declared.syntax.Stmt.TheVariants as stmts
use Rattle.som_model.specs.declared.limits.TheConstants.{MAX_LOCALS, MAX_PARAMETERS}
use Rattle.som_model.specs.Lists.{place_from, some}
use Rattle.som_model.specs.Steps.{◌>>=◌}
use Rattle.som_model.specs.Class.{Class}
use Rattle.som_model.specs.Typing.{fits, kind_is_known, needs}
use Rattle.som_verify_forms.specs.Kinds.{IsType}
use Rattle.som_model_laws.proofs.Members.{mem_split}
use Rattle.som_verify_classes.proofs.DeclaredClasses.{long_map}
use Rattle.som_elab_body.specs.declared.local.Local.{Local}
use Rattle.som_elab_body.specs.Locals.{Named, Names, in_scope, local_of, names_of}
use Rattle.som_elab_body.specs.Expressions.{Among, Elab, Elaborated, facts_among}
use Rattle.som_elab_body.specs.Code.{AreLocals, named_at, names_at}
use Rattle.som_elab_body.specs.Statements.{Breaks, ManyLocals, Placed, Told, declared, ruled, with_local}
use Rattle.som_elab_body.specs.Stated.{Leaves, Opens, declared_by}

placed_if : {A : Type 0} (b : Bool) (x : A) (rest : Option A) (r : Bool) → is_some rest ≡ r → is_some (if b then Some x else rest) ≡ (if b then true else r)
placed_if true x rest r e = refl
placed_if false x rest r e = e

some_place : {A : Type 0} (n : ℕ) (test : A → Bool) (xs : List A) → is_some (place_from n test xs) ≡ some test xs
some_place n test [] = refl
some_place n test (x ∷ xs) = placed_if (test x) n (place_from (suc n) test xs) (some test xs) (some_place (suc n) test xs)

-- a name is in scope where it has a place
pub scope_by : (scope : Names) (name : List ℕ) → is_some (local_of scope name) ≡ in_scope scope name
scope_by scope name = some_place 0 (bytes_eq name) (names_of scope)

one_more : (n : ℕ) → n < MAX_LOCALS → n + 1 ≤ MAX_LOCALS
one_more n lt = omega arith

-- few parameters are within the limit of locals
pub few_placed : (n i all : ℕ) → n ≡ i → i < all → all ≤ MAX_PARAMETERS → n < MAX_LOCALS
few_placed n i all same lt le = omega arith

-- one more local that has a type, where there may be one
pub one_local : (cs : List Class) (before : List Local) (l : Local) → AreLocals cs before → IsType cs l.kind → length before < MAX_LOCALS → AreLocals cs (before ++ l ∷ [])
one_local cs before l are one lt = record {
  types = λ x m. elim (mem_split x before (l ∷ []) m) [
    | inl n ↦ are.types x n
    | inr n ↦ elim n [ inl same ↦ subst (λ (z : Local). IsType cs z.kind) (sym same) one | inr z ↦ absurd z ]
  ];
  few = subst (λ n. n ≤ MAX_LOCALS) (sym (length_push before l)) (one_more (length before) lt);
}

-- ---- a declaration

module _ (cs : List Class) (a : Among) (ls : List Local) (name : List ℕ) (kind : ValueType) (p : Elaborated) where
  -- after the rules, the limit
  abbrev limited : Elaborated → Told Placed
  limited q = with_local (names_at cs ls) (record { name = name; kind = kind }) (stmts.Var kind q.expr)

  var_by : (seen known fit : Bool) → in_scope (names_at cs ls) name ≡ seen → kind_is_known (facts_among a) kind ≡ known → fits (facts_among a) kind p.type ≡ fit
      → declared a (names_at cs ls) name kind p ≡ (ruled (needs 15 (not seen) (needs 16 known (needs 17 fit (Ok p)))) >>= limited)
  var_by seen known fit e f g =
      ap (λ (z : Bool). ruled (needs 15 (not z) (needs 16 (kind_is_known (facts_among a) kind) (needs 17 (fits (facts_among a) kind p.type) (Ok p)))) >>= limited) e
      ∙ ap (λ (z : Bool). ruled (needs 15 (not seen) (needs 16 z (needs 17 (fits (facts_among a) kind p.type) (Ok p)))) >>= limited) f
      ∙ ap (λ (z : Bool). ruled (needs 15 (not seen) (needs 16 known (needs 17 z (Ok p)))) >>= limited) g

  -- there is a place for one more, or not
  var_limited : (b : Bool) → nat_lt (length ls) MAX_LOCALS ≡ b
      → limited p ≡ (if b then Ok (record { stmt = stmts.Var kind p.expr; scope = names_at cs ls ++ (record { name = name; kind = kind }) ∷ [] }) else Err ManyLocals)
  var_limited b e =
      ap (λ (z : Bool). if z then Ok (record { stmt = stmts.Var kind p.expr; scope = names_at cs ls ++ (record { name = name; kind = kind }) ∷ [] }) else Err ManyLocals)
      (ap (λ n. nat_lt n MAX_LOCALS) (long_map (named_at cs) ls) ∙ e)

  pub var_seen : in_scope (names_at cs ls) name ≡ true → declared a (names_at cs ls) name kind p ≡ Err (Breaks 15)
  var_seen e = var_by true (kind_is_known (facts_among a) kind) (fits (facts_among a) kind p.type) e refl refl

  module _ (fresh : in_scope (names_at cs ls) name ≡ false) where
    pub var_unknown : kind_is_known (facts_among a) kind ≡ false → declared a (names_at cs ls) name kind p ≡ Err (Breaks 16)
    var_unknown f = var_by false false (fits (facts_among a) kind p.type) fresh f refl

    pub var_misfits : kind_is_known (facts_among a) kind ≡ true → fits (facts_among a) kind p.type ≡ false → declared a (names_at cs ls) name kind p ≡ Err (Breaks 17)
    var_misfits f g = var_by false true false fresh f g

    pub var_many : kind_is_known (facts_among a) kind ≡ true → fits (facts_among a) kind p.type ≡ true → nat_lt (length ls) MAX_LOCALS ≡ false → declared a (names_at cs ls) name kind p ≡ Err ManyLocals
    var_many f g le = var_by false true true fresh f g ∙ var_limited false le

    pub var_opens : kind_is_known (facts_among a) kind ≡ true → fits (facts_among a) kind p.type ≡ true → nat_lt (length ls) MAX_LOCALS ≡ true
        → declared a (names_at cs ls) name kind p ≡ Ok (record { stmt = stmts.Var kind p.expr; scope = names_at cs ls ++ (record { name = name; kind = kind }) ∷ [] })
    var_opens f g lt = var_by false true true fresh f g ∙ var_limited true lt

-- a local that may be declared, where its value is there
pub declares : (cs : List Class) (before after : List Local) (name : List ℕ) (kind : ValueType) (value : Elab) (f : Elaborated → Told Placed) (p : Elaborated) (l : Local)
    → value ≡ Ok p → Opens cs (f p) before name kind p.expr (Ok l.kind) → l.name.now ≡ name → AreLocals cs before → after ≡ before ++ l ∷ [] → Leaves cs (declared_by value f) (stmts.Var kind p.expr) before after
declares cs before after name kind value f p l e o named are more = record {
  makes =
      ap (λ (z : Elab). declared_by z f) e
      ∙ o.0
      ∙ ap (λ (z : Named). Ok (record { stmt = stmts.Var kind p.expr; scope = names_at cs before ++ z ∷ [] }))
      (ap (λ n. record { name = n; kind = kind }) (sym named) ∙ ap (λ k. record { name = l.name.now; kind = k }) (sym o.1))
      ∙ ap (λ (z : Names). Ok (record { stmt = stmts.Var kind p.expr; scope = z })) (sym (map_push (named_at cs) before l))
      ∙ ap (λ (z : List Local). Ok (record { stmt = stmts.Var kind p.expr; scope = names_at cs z })) (sym more);
  locals = subst (λ z. AreLocals cs z) (sym more) (one_local cs before l are o.2 o.3);
  declared = l ∷ [];
  more = more;
}
