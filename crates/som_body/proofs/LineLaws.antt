-- The reader of each line of the grammar of expressions reads its language.
use Rattle.std.proofs.Common.{◌≡◌, ℕ, zero, suc, ◌+◌, List, [], ◌∷◌, ◌++◌, Option, Some, refl, subst, append_assoc, arith}
use Rattle.std.proofs.lemmas.List.{append-nil}
use Rattle.som_parse.specs.Languages.{Lang}
use Rattle.som_parse.specs.Readers.{Parser, repeat}
use Rattle.som_parse.specs.declared.cursor.Turn.{Turn}
use Rattle.som_parse.specs.declared.cursor.Turn.TheVariants.{More, Done}
use Rattle.som_parse.specs.declared.token.Key.TheVariants as key
use Rattle.som_parse.specs.declared.token.Sign.TheVariants as sign
use Rattle.som_parse.specs.declared.token.Token.{Token}
use Rattle.som_parse.specs.declared.token.Token.TheVariants as token
use Rattle.som_ast.specs.declared.words.TypeName.{TypeName}
use Rattle.som_ast.specs.declared.words.Word.{Word}
use Rattle.som_parse.proofs.Laws.{Lawful, wider, bind_law, pure_law}
use Rattle.som_parse.proofs.Steps.{after_sign, after_key, expect_then}
use Rattle.som_parse.proofs.Turns.{IsLong}
use Rattle.som_body.specs.Grammar as g
use Rattle.som_body.specs.Levels.{top, down}
use Rattle.som_body.specs.Reading as r
use Rattle.som_body.specs.Reading.{tall, given, called, combined, named_call, named_height}
use Rattle.som_body.specs.declared.level.Given.{Given}
use Rattle.som_body.specs.declared.level.Line.{Line}
use Rattle.som_body.specs.declared.level.Line.TheVariants as line
use Rattle.som_body.specs.declared.level.NamedCall.{NamedCall}
use Rattle.som_body.specs.declared.level.Tall.{Tall}
use Rattle.som_ast.specs.declared.expression.ExprText.TheVariants as expr
use Rattle.som_body.proofs.LevelLists.{top_append, top_down, level_eq, pushed_eq}
use Rattle.som_body.proofs.OperatorLaws.{operator_law, pushed_sign, pushed_key, turned, chain_law}
use Rattle.som_body.proofs.PrimaryLaws.{OnLine, Arguments, arguments_law, primary_law}
use Rattle.som_body.proofs.StartLaws.{at_zero_law}
use Rattle.som_body.proofs.WordLaws.{any_word_law, name_law, outcome_law}

-- an operation of the table on what was read, whose right operand is in R; or none
data Operation (ops : Token → Option ℕ) (R : Lang Tall) (a : Tall) : List Token → Turn Tall Tall → Type 0 where
  no_operation : Operation ops R a [] (Done a)
  an_operation : (t : Token) {op : ℕ} {v : List Token} {b : Tall} → ops t ≡ Some op → R v b → Operation ops R a (t ∷ v) (More (combined op a b))

module _ (ops : Token → Option ℕ) (R : Lang Tall) where
  last_operation : (v : List Token) (a b : Tall) → Operation ops R a v (Done b) → (v ≡ []) × (b ≡ a)
  last_operation v a b no_operation = (refl, refl)

  long_operation : (a c : Tall) (u : List Token) → Operation ops R a u (More c) → IsLong u
  long_operation a c u (an_operation t e h) = omega arith

module _ (text_at : ℕ → List ℕ) where
  abbrev pub Stepped : Lang Tall
  Stepped u a = (l : List ℕ) × (top l ≡ a.height) × g.IsStepped text_at l u a.tree

  -- a step, or none
  data Step (a : Tall) : List Token → Turn Tall Tall → Type 0 where
    no_step : Step a [] (Done a)
    a_step : {u v : List Token} {m : Word} {x : Given} → g.IsWord text_at u m → Arguments text_at v x → Step a (token.Mark sign.Dot ∷ (u ++ v)) (More (called a m x))

  onwards_step : (u v : List Token) (a c : Tall) → Stepped u a → Step a v (More c) → Stepped (u ++ v) c
  onwards_step u v a c h (a_step {x = x} i j) = (h.0 ++ down (top h.0 ∷ 0 ∷ j.0), pushed_eq h.0 (0 ∷ j.0) a.height x.height h.1 (omega (arith, j.1)), g.a_step h.2 i j.2)

  last_step : (v : List Token) (a b : Tall) → Step a v (Done b) → (v ≡ []) × (b ≡ a)
  last_step v a b no_step = (refl, refl)

  long_step : (a c : Tall) (u : List Token) → Step a u (More c) → IsLong u
  long_step a c u (a_step i j) = omega arith

  -- ---- calls by name

  -- a call by name so far
  abbrev IsNamed : Lang NamedCall
  IsNamed u s = (l : List ℕ) × (suc (top l) ≡ named_height s) × g.IsNamedCall text_at l u s.receiver.tree s.method s.given.args

  data NamedStep (s : NamedCall) : List Token → Turn NamedCall NamedCall → Type 0 where
    no_named_step : NamedStep s [] (Done s)
    a_named_step : {u v : List Token} {m : Word} {x : Given} → g.IsWord text_at u m → Arguments text_at v x
        → NamedStep s (token.Mark sign.Dot ∷ (u ++ v)) (More (named_call (called s.receiver s.method s.given) m x))

  onwards_named_step : (u v : List Token) (s c : NamedCall) → IsNamed u s → NamedStep s v (More c) → IsNamed (u ++ v) c
  onwards_named_step u v s c h (a_named_step {x = x} i j) = (h.0 ++ suc (top h.0) ∷ 0 ∷ j.0, omega (arith, h.1, j.1, top_append h.0 (suc (top h.0) ∷ 0 ∷ j.0)), g.a_further_step h.2 i j.2)

  last_named_step : (v : List Token) (s b : NamedCall) → NamedStep s v (Done b) → (v ≡ []) × (b ≡ s)
  last_named_step v s b no_named_step = (refl, refl)

  long_named_step : (s c : NamedCall) (u : List Token) → NamedStep s u (More c) → IsLong u
  long_named_step s c u (a_named_step i j) = omega arith

  looked_up : (x : ℕ) {r' u : List Token} {t : Option TypeName} (s : NamedCall) → g.IsResult text_at r' t → IsNamed u s
      → OnLine text_at line.Postfix (token.Word key.Lookup x ∷ (r' ++ u)) (tall (expr.Lookup t s.receiver.tree s.method s.given.args) (named_height s))
  looked_up x s h i = (down (0 ∷ 0 ∷ i.0), omega (arith, i.1, top_down 0 (0 ∷ i.0)), g.a_lookup h i.2)

  dispatched : (x : ℕ) {r' u : List Token} {t : Option TypeName} (s : NamedCall) → g.IsResult text_at r' t → IsNamed u s
      → OnLine text_at line.Postfix (token.Word key.Dispatch x ∷ (r' ++ u)) (tall (expr.Dispatch t s.receiver.tree s.method s.given.args) (named_height s))
  dispatched x s h i = (down (0 ∷ 0 ∷ i.0), omega (arith, i.1, top_down 0 (0 ∷ i.0)), g.a_dispatch h i.2)

  -- ---- casts
  data CastStep (a : Tall) : List Token → Turn Tall Tall → Type 0 where
    no_cast_step : CastStep a [] (Done a)
    a_cast_step : (p : ℕ) {u : List Token} {n : Word} → g.IsName text_at u n → CastStep a (token.Word key.As p ∷ u) (More (tall (expr.Cast n a.tree) (a.height + 1)))

  onwards_cast : (u v : List Token) (a c : Tall) → OnLine text_at line.Cast u a → CastStep a v (More c) → OnLine text_at line.Cast (u ++ v) c
  onwards_cast u v a c h (a_cast_step p i) = (h.0 ++ down (top h.0 ∷ 0 ∷ []), (let e = pushed_eq h.0 (0 ∷ []) a.height 0 h.1 refl in omega (arith, e)), g.a_cast p h.2 i)

  last_cast : (v : List Token) (a b : Tall) → CastStep a v (Done b) → (v ≡ []) × (b ≡ a)
  last_cast v a b no_cast_step = (refl, refl)

  long_cast : (a c : Tall) (u : List Token) → CastStep a u (More c) → IsLong u
  long_cast a c u (a_cast_step p i) = omega arith

  -- ---- operations, each over the line below it
  onwards_prod : (u v : List Token) (a c : Tall) → OnLine text_at line.Prod u a → Operation g.product_operator (OnLine text_at line.Unary) a v (More c) → OnLine text_at line.Prod (u ++ v) c
  onwards_prod u v a c h (an_operation t {b = b} e i) = (h.0 ++ down (top h.0 ∷ i.0), pushed_eq h.0 i.0 a.height b.height h.1 i.1, g.a_product t e h.2 i.2)

  onwards_sum : (u v : List Token) (a c : Tall) → OnLine text_at line.Sum u a → Operation g.sum_operator (OnLine text_at line.Prod) a v (More c) → OnLine text_at line.Sum (u ++ v) c
  onwards_sum u v a c h (an_operation t {b = b} e i) = (h.0 ++ down (top h.0 ∷ i.0), pushed_eq h.0 i.0 a.height b.height h.1 i.1, g.a_sum t e h.2 i.2)

  onwards_conj : (u v : List Token) (a c : Tall) → OnLine text_at line.Conj u a → Operation g.and_operator (OnLine text_at line.Neg) a v (More c) → OnLine text_at line.Conj (u ++ v) c
  onwards_conj u v a c h (an_operation t {b = b} e i) = (h.0 ++ down (top h.0 ∷ i.0), pushed_eq h.0 i.0 a.height b.height h.1 i.1, g.an_and t e h.2 i.2)

  onwards_expr : (u v : List Token) (a c : Tall) → OnLine text_at line.Expr u a → Operation g.or_operator (OnLine text_at line.Conj) a v (More c) → OnLine text_at line.Expr (u ++ v) c
  onwards_expr u v a c h (an_operation t {b = b} e i) = (h.0 ++ down (top h.0 ∷ i.0), pushed_eq h.0 i.0 a.height b.height h.1 i.1, g.an_or t e h.2 i.2)

  module _ (inner : Line → Parser Tall) (law : (l : Line) → Lawful (OnLine text_at l) (inner l)) (d : ℕ) where
    step_law : (a : Tall) → Lawful (Step a) (r.step text_at inner d a)
    step_law a = pushed_sign (Step a) d a.height _ _ sign.Dot
        (bind_law (g.IsWord text_at) _ _ _ (any_word_law text_at) (λ u m h. bind_law (Arguments text_at) _ _ _ (arguments_law text_at inner law) (λ v x i. pure_law _ _ (rw append-nil (a_step h i)))))
        (pure_law _ _ no_step)

    pub steps_law : (u : List Token) (a : Tall) → Stepped u a → Lawful (λ v. Stepped (u ++ v)) (repeat (r.step text_at inner d) a)
    steps_law u a h = turned Stepped Step (r.step text_at inner d) onwards_step last_step (λ x. no_step) long_step step_law u a h

    stepped_law : Lawful Stepped (r.stepped text_at inner d)
    unfolding r.stepped
    stepped_law = chain_law Stepped Step (r.step text_at inner d) onwards_step last_step (λ x. no_step) long_step step_law
        (OnLine text_at line.Primary) (r.primary text_at inner) (λ u a h. (h.0, h.1, g.no_step h.2)) (primary_law text_at inner law)

    named_step_law : (s : NamedCall) → Lawful (NamedStep s) (r.named_step text_at inner d s)
    named_step_law s = pushed_sign (NamedStep s) d (named_height s) _ _ sign.Dot
        (bind_law (g.IsWord text_at) _ _ _ (any_word_law text_at) (λ u m h. bind_law (Arguments text_at) _ _ _ (arguments_law text_at inner law) (λ v x i. pure_law _ _ (rw append-nil (a_named_step h i)))))
        (pure_law _ _ no_named_step)

    first_step_law : (u : List Token) (a : Tall) → OnLine text_at line.Primary u a → Lawful (λ v. IsNamed (u ++ token.Mark sign.Dot ∷ v)) (r.first_step text_at inner a)
    first_step_law u a h = bind_law (g.IsWord text_at) _ _ _ (any_word_law text_at) (λ v m i. bind_law (Arguments text_at) _ _ _ (arguments_law text_at inner law) (λ w x j. pure_law _ (named_call a m x) (h.0 ++ 0 ∷ 0 ∷ j.0, omega (arith, h.1, j.1, top_append h.0 (0 ∷ 0 ∷ j.0)), rw append-nil (g.a_first_step h.2 i j.2))))

    -- further steps of a call by name
    named_steps_law : (u v : List Token) (s : NamedCall) → IsNamed (u ++ token.Mark sign.Dot ∷ v) s → Lawful (λ w. IsNamed (u ++ token.Mark sign.Dot ∷ (v ++ w))) (repeat (r.named_step text_at inner d) s)
    named_steps_law u v s h = wider (λ w. IsNamed ((u ++ token.Mark sign.Dot ∷ v) ++ w)) (λ w. IsNamed (u ++ token.Mark sign.Dot ∷ (v ++ w))) _
        (λ w b i. subst (λ y. IsNamed y b) (append_assoc u (token.Mark sign.Dot ∷ v) w) i)
        (turned IsNamed NamedStep (r.named_step text_at inner d) onwards_named_step last_named_step (λ x. no_named_step) long_named_step named_step_law (u ++ token.Mark sign.Dot ∷ v) s h)

    call_by_name_law : Lawful IsNamed (r.call_by_name text_at inner d)
    unfolding r.call_by_name
    call_by_name_law = bind_law (OnLine text_at line.Primary) IsNamed _ _ (law line.Primary) (λ u a h. expect_then _ _ sign.Dot
        (bind_law (λ v. IsNamed (u ++ token.Mark sign.Dot ∷ v)) _ _ _ (first_step_law u a h) (λ v s i. named_steps_law u v s i)))

    lookup_law : (x : ℕ) → Lawful (λ u. OnLine text_at line.Postfix (token.Word key.Lookup x ∷ u)) (r.lookup text_at inner d)
    unfolding r.lookup
    lookup_law x = bind_law (g.IsResult text_at) _ _ _ (outcome_law text_at) (λ u t h. bind_law IsNamed _ _ _ call_by_name_law (λ v s i.
        pure_law _ (tall (expr.Lookup t s.receiver.tree s.method s.given.args) (named_height s)) (let k = looked_up x s h i in (k.0, k.1, rw append-nil k.2))))

    dispatch_law : (x : ℕ) → Lawful (λ u. OnLine text_at line.Postfix (token.Word key.Dispatch x ∷ u)) (r.dispatch text_at inner d)
    unfolding r.dispatch
    dispatch_law x = bind_law (g.IsResult text_at) _ _ _ (outcome_law text_at) (λ u t h. bind_law IsNamed _ _ _ call_by_name_law (λ v s i.
        pure_law _ (tall (expr.Dispatch t s.receiver.tree s.method s.given.args) (named_height s)) (let k = dispatched x s h i in (k.0, k.1, rw append-nil k.2))))

    pub postfix_law : Lawful (OnLine text_at line.Postfix) (r.postfix text_at inner d)
    unfolding r.postfix
    postfix_law = after_key (OnLine text_at line.Postfix) _ _ key.Lookup lookup_law (after_key (OnLine text_at line.Postfix) _ _ key.Dispatch dispatch_law
        (wider Stepped (OnLine text_at line.Postfix) _ (λ u a h. (h.0, h.1, g.a_stepped h.2)) stepped_law))

    cast_step_law : (a : Tall) → Lawful (CastStep a) (r.cast_step text_at inner d a)
    cast_step_law a = pushed_key (CastStep a) d a.height _ _ key.As (λ x. bind_law (g.IsName text_at) _ _ _ (name_law text_at) (λ u n h. pure_law _ (More (tall (expr.Cast n a.tree) (a.height + 1))) (rw append-nil (a_cast_step x h)))) (pure_law _ _ no_cast_step)

    cast_law : Lawful (OnLine text_at line.Cast) (r.cast text_at inner d)
    unfolding r.cast
    cast_law = chain_law (OnLine text_at line.Cast) CastStep (r.cast_step text_at inner d) onwards_cast last_cast (λ x. no_cast_step) long_cast cast_step_law
        (OnLine text_at line.Postfix) (r.postfix text_at inner d) (λ u a h. (h.0, h.1, g.no_cast h.2)) postfix_law

    unary_law : Lawful (OnLine text_at line.Unary) (r.unary text_at inner d)
    unfolding r.unary
    unary_law = after_sign (OnLine text_at line.Unary) _ _ sign.Minus
        (bind_law (OnLine text_at line.Unary) _ _ _ (law line.Unary) (λ u a h. pure_law _ (tall (expr.Unary 0 a.tree) (a.height + 1)) (down (0 ∷ h.0), level_eq h.0 a.height h.1, rw append-nil (g.a_minus h.2))))
        (wider (OnLine text_at line.Cast) (OnLine text_at line.Unary) _ (λ u a h. (h.0, h.1, g.no_minus h.2)) cast_law)

    operation_law : (ops : Token → Option ℕ) (l : Line) (a : Tall) → Lawful (Operation ops (OnLine text_at l) a) (r.operation text_at inner ops l d a)
    operation_law ops l a = operator_law (Operation ops (OnLine text_at l) a) ops d a.height _ _
        (λ t op e. bind_law (OnLine text_at l) _ _ _ (law l) (λ v b h. pure_law _ _ (rw append-nil (an_operation t e h)))) (pure_law _ _ no_operation)

    prod_law : Lawful (OnLine text_at line.Prod) (r.prod text_at inner d)
    unfolding r.prod
    prod_law = chain_law (OnLine text_at line.Prod) (Operation g.product_operator (OnLine text_at line.Unary)) (r.operation text_at inner g.product_operator line.Unary d)
        onwards_prod (last_operation _ _) (λ x. no_operation) (long_operation _ _) (operation_law g.product_operator line.Unary) (OnLine text_at line.Unary) (r.unary text_at inner d) (λ u a h. (h.0, h.1, g.no_product h.2)) unary_law

    sum_law : Lawful (OnLine text_at line.Sum) (r.sum text_at inner d)
    unfolding r.sum
    sum_law = chain_law (OnLine text_at line.Sum) (Operation g.sum_operator (OnLine text_at line.Prod)) (r.operation text_at inner g.sum_operator line.Prod d)
        onwards_sum (last_operation _ _) (λ x. no_operation) (long_operation _ _) (operation_law g.sum_operator line.Prod) (OnLine text_at line.Prod) (r.prod text_at inner d) (λ u a h. (h.0, h.1, g.no_sum h.2)) prod_law

    compared_law : (u : List Token) (a : Tall) → OnLine text_at line.Sum u a → Lawful (λ v. OnLine text_at line.Cmp (u ++ v)) (r.compared text_at inner d a)
    compared_law u a h = operator_law (λ v. OnLine text_at line.Cmp (u ++ v)) g.comparison d a.height _ _
        (λ t op e. bind_law (OnLine text_at line.Sum) _ _ _ (law line.Sum) (λ v b i. pure_law _ (combined op a b) (h.0 ++ down (top h.0 ∷ i.0), pushed_eq h.0 i.0 a.height b.height h.1 i.1, rw append-nil (g.a_comparison t e h.2 i.2))))
        (pure_law _ a (h.0, h.1, rw append-nil (g.no_comparison h.2)))

    cmp_law : Lawful (OnLine text_at line.Cmp) (r.cmp text_at inner d)
    unfolding r.cmp
    cmp_law = bind_law (OnLine text_at line.Sum) (OnLine text_at line.Cmp) _ _ sum_law (λ u a h. compared_law u a h)

    neg_law : Lawful (OnLine text_at line.Neg) (r.neg text_at inner d)
    unfolding r.neg
    neg_law = after_key (OnLine text_at line.Neg) _ _ key.Not
        (λ x. bind_law (OnLine text_at line.Neg) _ _ _ (law line.Neg) (λ u a h. pure_law _ (tall (expr.Unary 1 a.tree) (a.height + 1)) (down (0 ∷ h.0), level_eq h.0 a.height h.1, rw append-nil (g.a_not h.2))))
        (wider (OnLine text_at line.Cmp) (OnLine text_at line.Neg) _ (λ u a h. (h.0, h.1, g.no_not h.2)) cmp_law)

    conj_law : Lawful (OnLine text_at line.Conj) (r.conj text_at inner d)
    unfolding r.conj
    conj_law = chain_law (OnLine text_at line.Conj) (Operation g.and_operator (OnLine text_at line.Neg)) (r.operation text_at inner g.and_operator line.Neg d)
        onwards_conj (last_operation _ _) (λ x. no_operation) (long_operation _ _) (operation_law g.and_operator line.Neg) (OnLine text_at line.Neg) (r.neg text_at inner d) (λ u a h. (h.0, h.1, g.no_and h.2)) neg_law

    expression_law : Lawful (OnLine text_at line.Expr) (r.expression text_at inner d)
    unfolding r.expression
    expression_law = chain_law (OnLine text_at line.Expr) (Operation g.or_operator (OnLine text_at line.Conj)) (r.operation text_at inner g.or_operator line.Conj d)
        onwards_expr (last_operation _ _) (λ x. no_operation) (long_operation _ _) (operation_law g.or_operator line.Conj) (OnLine text_at line.Conj) (r.conj text_at inner d) (λ u a h. (h.0, h.1, g.no_or h.2)) conj_law

    read_law : (l : Line) → Lawful (OnLine text_at l) (r.read text_at inner d l)
    read_law line.Primary = primary_law text_at inner law
    read_law line.Postfix = postfix_law
    read_law line.Cast = cast_law
    read_law line.Unary = unary_law
    read_law line.Prod = prod_law
    read_law line.Sum = sum_law
    read_law line.Cmp = cmp_law
    read_law line.Neg = neg_law
    read_law line.Conj = conj_law
    read_law line.Expr = expression_law

  pub at_law : (d : ℕ) (l : Line) → Lawful (OnLine text_at l) (r.at text_at d l)
  unfolding r.at
  at_law zero l = at_zero_law text_at l
  at_law (suc d) l = read_law (r.at text_at d) (at_law d) (suc d) l
