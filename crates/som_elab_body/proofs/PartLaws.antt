-- Parts, one after the other, and forms by their parts.
use Rattle.std.proofs.Common.{◌≡◌, ℕ, suc, ◌<◌, List, [], ◌∷◌, ◌++◌, drop, map, length, slice_index_or, Result, Ok, Err, refl, sym, ap, ◌∙◌, subst, append_assoc, drop-cons, arith}
use Rattle.som_model.specs.declared.syntax.Expr.{Expr}
use Rattle.som_model.specs.Class.{Class}
use Rattle.som_model.specs.Steps.{◌>>=◌}
use Rattle.som_model.specs.Typing.{ExprType, Ruled, Typed}
use Rattle.som_verify_forms.specs.declared.kind.Kind.{Kind}
use Rattle.som_verify_forms.specs.declared.code_place.TypeFault.{TypeFault}
use Rattle.som_verify_forms.specs.declared.code_place.TypeFault.TheVariants as faults
use Rattle.som_verify_forms.specs.Kinds.{AllStand, Fails, Stands, kind_at}
use Rattle.som_verify_forms.proofs.KindLaws.{all_stand_more, part_there}
use Rattle.som_ast.specs.declared.expression.ExprText.{ExprText}
use Rattle.som_elab_body.specs.declared.typed_expr.TypedExpr.{TypedExpr}
use Rattle.som_elab_body.specs.declared.parts.Parts.{Parts}
use Rattle.som_elab_body.specs.Expressions.{Elab, Elaborated, exprs_of, formed, part, parts, types_of, valued}
use Rattle.som_elab_body.specs.Code.{Makes}
use Rattle.som_elab_body.specs.Forms.{Adds, AreParts, of_one, parts_at, typed_parts}

-- ---- expressions and their types

exprs_back : (cs : List Class) (es : List Expr) (ks : List Kind) → length es ≡ length ks → exprs_of (typed_parts cs es ks) ≡ es
exprs_back cs [] ks long = refl
exprs_back cs (e ∷ es) [] long = absurd (omega (arith, long))
exprs_back cs (e ∷ es) (k ∷ ks) long = ap (λ z. e ∷ z) (exprs_back cs es ks (omega (arith, long)))

pub types_back : (cs : List Class) (es : List Expr) (ks : List Kind) → length es ≡ length ks → types_of (typed_parts cs es ks) ≡ map (kind_at cs) ks
types_back cs [] [] long = refl
types_back cs [] (k ∷ ks) long = absurd (omega (arith, long))
types_back cs (e ∷ es) [] long = absurd (omega (arith, long))
types_back cs (e ∷ es) (k ∷ ks) long = ap (λ z. kind_at cs k ∷ z) (types_back cs es ks (omega (arith, long)))

typed_more : (cs : List Class) (es : List Expr) (ks : List Kind) (e : Expr) (k : Kind) → length es ≡ length ks
    → typed_parts cs (es ++ e ∷ []) (ks ++ k ∷ []) ≡ typed_parts cs es ks ++ record { expr = e; type = kind_at cs k } ∷ []
typed_more cs [] [] e k long = refl
typed_more cs [] (j ∷ ks) e k long = absurd (omega (arith, long))
typed_more cs (d ∷ es) [] e k long = absurd (omega (arith, long))
typed_more cs (d ∷ es) (j ∷ ks) e k long = ap (λ z. record { expr = d; type = kind_at cs j } ∷ z) (typed_more cs es ks e k (omega (arith, long)))

long_more : {A : Type 0} (xs : List A) (x : A) → length (xs ++ x ∷ []) ≡ suc (length xs)
long_more [] x = refl
long_more (y ∷ ys) x = ap suc (long_more ys x)

-- one more part
pub adds : (cs : List Class) (p : Parts) (m : TypedExpr) (q : Parts) → q.exprs ≡ p.exprs ++ m.expr ∷ [] → q.kinds.items ≡ p.kinds.items ++ m.kind ∷ [] → AreParts cs p → Stands cs m.kind → Adds cs p m q
adds cs p m q es ks are stands =
    let one = long_more p.exprs m.expr in
    let two = long_more p.kinds.items m.kind in
    record {
      parts =
          ap (λ z. typed_parts cs z q.kinds.items) es
          ∙ ap (λ z. typed_parts cs (p.exprs ++ m.expr ∷ []) z) ks
          ∙ typed_more cs p.exprs p.kinds.items m.expr m.kind are.long;
      are = record {
        stand = subst (AllStand cs) (sym ks) (all_stand_more cs p.kinds.items m.kind are.stand stands);
        long = ap length es ∙ one ∙ ap suc are.long ∙ sym two ∙ ap length (sym ks);
      };
    }

-- ---- lists of parts

-- parts that are left, after those that are made
abbrev pub after_parts : List Elaborated → Ruled (List Elaborated) → Ruled (List Elaborated)
after_parts seen rest = rest >>= λ ps. Ok (seen ++ ps)

pub parts_more : (seen : List Elaborated) (e : Elab) (p : Elaborated) (rest : Ruled (List Elaborated)) → part e ≡ Ok p
    → after_parts seen (part e >>= λ p. rest >>= λ ps. Ok (p ∷ ps)) ≡ after_parts (seen ++ p ∷ []) rest
parts_more seen e p (Ok ps) is = ap (after_parts seen) (part_there (part e) (λ p. Ok (p ∷ ps)) p is) ∙ ap (λ z. Ok z) (sym (append_assoc seen (p ∷ []) ps))
parts_more seen e p (Err rule) is = ap (after_parts seen) (part_there (part e) (λ p. Err rule) p is)

drop_at : (es : List ExprText) (i : ℕ) (e : ExprText) → i < length es → e ≡ slice_index_or es i e → drop i es ≡ e ∷ drop (suc i) es
drop_at es i e lt is = drop-cons es i e lt ∙ ap (λ z. z ∷ drop (suc i) es) (sym is)

module _ (cs : List Class) (elab : ExprText → Elab) (es : List ExprText) (given : List Elaborated) (i : ℕ) (before : parts (map elab es) ≡ after_parts given (parts (map elab (drop i es)))) where
  -- a further part is made
  pub parts_go_on : (j : ℕ) (e : ExprText) (p : Elaborated) (more : List Elaborated) → j ≡ suc i → i < length es → e ≡ slice_index_or es i e → part (elab e) ≡ Ok p → more ≡ given ++ p ∷ []
      → parts (map elab es) ≡ after_parts more (parts (map elab (drop j es)))
  parts_go_on j e p more next lt is made pushed =
      before
      ∙ ap (λ z. after_parts given (parts (map elab z))) (drop_at es i e lt is)
      ∙ parts_more given (elab e) p (parts (map elab (drop (suc i) es))) made
      ∙ ap (λ z. after_parts z (parts (map elab (drop (suc i) es)))) (sym pushed)
      ∙ ap (λ z. after_parts more (parts (map elab (drop z es)))) (sym next)

  -- a part fails, and nothing after it is looked at
  pub parts_fail : (e : ExprText) (fault : TypeFault) → i < length es → e ≡ slice_index_or es i e → Fails (part (elab e)) fault → Fails (parts (map elab es)) fault
  parts_fail e (faults.Rule rule) lt is told =
      before
      ∙ ap (λ z. after_parts given (parts (map elab z))) (drop_at es i e lt is)
      ∙ ap (λ z. after_parts given (z >>= λ p. parts (map elab (drop (suc i) es)) >>= λ ps. Ok (p ∷ ps))) told
  parts_fail e faults.NoMemory lt is told = told

none_seen : (rest : Ruled (List Elaborated)) → rest ≡ after_parts [] rest
none_seen (Ok ps) = refl
none_seen (Err rule) = refl

-- no part is made so far
pub parts_start : (given : List Elaborated) (rest : Ruled (List Elaborated)) → given ≡ [] → rest ≡ after_parts given rest
parts_start given rest none = subst (λ z. rest ≡ after_parts z rest) (sym none) (none_seen rest)

-- ---- forms

-- where a part is made, the rest decides
pub part_goes_on : (cs : List Class) (e : Elab) (p : Elaborated) (r : Result TypedExpr TypeFault) → e ≡ Ok p → Makes cs (valued p) r → Makes cs (part e) r
part_goes_on cs e p r is m = subst (λ z. Makes cs (z >>= valued) r) (sym is) m

pub one_goes_on : (cs : List Class) (e x : ExprText) (elab : ExprText → Elab) (form : Elaborated → Elab) (p : Elaborated) (r : Result TypedExpr TypeFault) → e ≡ x → part (elab e) ≡ Ok p
    → Makes cs (form p) r → Makes cs (of_one (elab x) form) r
one_goes_on cs e x elab form p r is made m = subst (λ z. Makes cs (z >>= form) r) (sym (ap (λ z. part (elab z)) (sym is) ∙ made)) m

-- what an expression comes to, one that equals it comes to
pub form_as : (cs : List Class) (e x : Expr) (type : Typed) (r : Result TypedExpr TypeFault) → e ≡ x → Makes cs (formed e type) r → Makes cs (formed x type) r
form_as cs e x type r is m = subst (λ z. Makes cs (formed z type) r) is m

-- the parts of a form are those that are made
pub with_parts : (cs : List Class) (args : Parts) (F : List Expr → List ExprType → Elab) (r : Result TypedExpr TypeFault) → AreParts cs args
    → Makes cs (F args.exprs (map (kind_at cs) args.kinds.items)) r → Makes cs (F (exprs_of (parts_at cs args)) (types_of (parts_at cs args))) r
with_parts cs args F r are m =
    subst (λ z. Makes cs (F z (types_of (parts_at cs args))) r) (sym (exprs_back cs args.exprs args.kinds.items are.long))
    (subst (λ z. Makes cs (F args.exprs z) r) (sym (types_back cs args.exprs args.kinds.items are.long)) m)
