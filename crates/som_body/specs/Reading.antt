-- The readers of expressions, with one token in hand. `at text_at d l` reads the line l of the grammar where d levels are left.
use Rattle.std.specs.Prelude.{ℕ, zero, suc, ◌+◌, ◌-◌, max, Bool, true, false, if◌then◌else◌, nat_le, List, [], ◌∷◌, ◌++◌, drop, Option, Some, None, Err}
use Rattle.som_model.specs.declared.syntax.HostCode.{HostCode}
use Rattle.som_parse.specs.Readers.{Parser, ◌>>=◌, ◌>>◌, pure, stop, after, expect, take_word, repeat}
use Rattle.som_parse.specs.Tokens.{head, is_sign, is_key, word}
use Rattle.som_parse.specs.declared.cursor.Stop.TheVariants.{Syntax, Nesting}
use Rattle.som_parse.specs.declared.cursor.Turn.{Turn}
use Rattle.som_parse.specs.declared.cursor.Turn.TheVariants.{More, Done}
use Rattle.som_parse.specs.declared.token.Key.{Key}
use Rattle.som_parse.specs.declared.token.Key.TheVariants as key
use Rattle.som_parse.specs.declared.token.Sign.TheVariants as sign
use Rattle.som_parse.specs.declared.token.Token.{Token}
use Rattle.som_parse.specs.declared.token.Token.TheVariants as token
use Rattle.som_ast.specs.declared.words.TypeName.{TypeName}
use Rattle.som_ast.specs.declared.words.TypeName.TheVariants as types
use Rattle.som_ast.specs.declared.words.Word.{Word}
use Rattle.som_body.specs.Grammar.{is_name, host_code, or_operator, and_operator, comparison, sum_operator, product_operator, atom}
use Rattle.som_body.specs.declared.level.Given.{Given}
use Rattle.som_body.specs.declared.level.Line.{Line}
use Rattle.som_body.specs.declared.level.Line.TheVariants as line
use Rattle.som_body.specs.declared.level.NamedCall.{NamedCall}
use Rattle.som_body.specs.declared.level.Tall.{Tall}
use Rattle.som_ast.specs.declared.expression.ExprText.{ExprText}
use Rattle.som_ast.specs.declared.expression.ExprText.TheVariants as expr

abbrev pub tall : ExprText → ℕ → Tall
tall a h = record { tree = a; height = h }

abbrev pub given : List ExprText → ℕ → Given
given g h = record { args = g; height = h }

abbrev pub named_call : Tall → Word → Given → NamedCall
named_call a m g = record { receiver = a; method = m; given = g }

-- what the table has for the token in hand
abbrev pub found : {A : Type 0} → (Token → Option A) → Option Token → Option A
found f (Some t) = f t
found f None = None

-- p after the token in hand where the table has something for it, else q
abbrev pub by_found : {A B : Type 0} → Option A → (A → Parser B) → Parser B → Parser B
by_found (Some a) p q = λ ts. p a (drop 1 ts)
by_found None p q = q

abbrev pub by_table : {A B : Type 0} → (Token → Option A) → (A → Parser B) → Parser B → Parser B
by_table f p q = λ ts. by_found (found f (head ts)) p q ts

-- Where the token in hand makes what was read an operand, one level down, p after it. What was read has h levels where d are left. Else q.
abbrev pub pushed : {B : Type 0} → (Option Token → Bool) → ℕ → ℕ → Parser B → Parser B → Parser B
pushed test d h p q = λ ts. if test (head ts) then (if nat_le (h + 1) d then p (drop 1 ts) else Err (Nesting, ts)) else q ts

-- Where a table has an operator for the token in hand, p by its number after it, one level down. Else q.
abbrev pub operator_by : {B : Type 0} → Option ℕ → ℕ → ℕ → (ℕ → Parser B) → Parser B → Parser B
operator_by (Some op) d h p q = λ ts. if nat_le (h + 1) d then p op (drop 1 ts) else Err (Nesting, ts)
operator_by None d h p q = q

abbrev pub operator : {B : Type 0} → (Token → Option ℕ) → ℕ → ℕ → (ℕ → Parser B) → Parser B → Parser B
operator ops d h p q = λ ts. operator_by (found ops (head ts)) d h p q ts

-- ---- what begins each line
abbrev pub begins_word : Key → Bool
begins_word key.True = true
begins_word key.False = true
begins_word key.Nil = true
begins_word key.Me = true
begins_word key.Manager = true
begins_word key.SomThis = true
begins_word key.Length = true
begins_word key.TextOf = true
begins_word key.New = true
begins_word key.Class = true
begins_word key.Isa = true
begins_word key.Proxy = true
begins_word key.Host = true
begins_word key.Parent = true
begins_word key.Parents = true
begins_word k = is_name k

abbrev pub begins_primary : Option Token → Bool
begins_primary (Some (token.Number n)) = true
begins_primary (Some (token.Literal p)) = true
begins_primary (Some (token.Mark sign.Open)) = true
begins_primary (Some (token.Word k p)) = begins_word k
begins_primary _ = false

abbrev pub begins_postfix : Option Token → Bool
begins_postfix (Some (token.Word key.Lookup p)) = true
begins_postfix (Some (token.Word key.Dispatch p)) = true
begins_postfix o = begins_primary o

abbrev pub begins_unary : Option Token → Bool
begins_unary (Some (token.Mark sign.Minus)) = true
begins_unary o = begins_postfix o

abbrev pub begins_neg : Option Token → Bool
begins_neg (Some (token.Word key.Not p)) = true
begins_neg o = begins_unary o

abbrev pub begins : Line → Option Token → Bool
begins line.Primary = begins_primary
begins line.Postfix = begins_postfix
begins line.Cast = begins_postfix
begins line.Unary = begins_unary
begins line.Prod = begins_unary
begins line.Sum = begins_unary
begins line.Cmp = begins_unary
begins line.Neg = begins_neg
begins line.Conj = begins_neg
begins line.Expr = begins_neg

-- no level is left
unfoldable pub too_deep : {A : Type 0} → (Option Token → Bool) → Parser A
too_deep test = λ ts. if test (head ts) then Err (Nesting, ts) else Err (Syntax, ts)

abbrev pub combined : ℕ → Tall → Tall → Tall
combined op a b = tall (expr.Binary op a.tree b.tree) (max a.height b.height + 1)

abbrev pub called : Tall → Word → Given → Tall
called a m g = tall (expr.Call a.tree m g.args) (max a.height g.height + 1)

-- the levels of a call by name
abbrev pub named_height : NamedCall → ℕ
named_height s = max s.receiver.height s.given.height + 1

module _ (text_at : ℕ → List ℕ) where
  abbrev pub worded : Key → ℕ → Option Word
  worded k p = Some (word text_at p)

  unfoldable pub any_word : Parser Word
  any_word = take_word worded

  abbrev pub named : Key → ℕ → Option Word
  named k p = if is_name k then Some (word text_at p) else None

  unfoldable pub name : Parser Word
  name = take_word named

  abbrev pub hosted : Key → ℕ → Option HostCode
  hosted k p = host_code k

  unfoldable pub host : Parser HostCode
  host = take_word hosted

  unfoldable pub kind : Parser TypeName
  kind = after (is_key key.Long) (pure types.Long) (after (is_key key.Boolean) (pure types.Boolean) (after (is_key key.Str) (pure types.Str) (name >>= λ n. pure (types.Class n))))

  unfoldable pub outcome : Parser (Option TypeName)
  outcome = after (is_key key.Void) (pure None) (kind >>= λ t. pure (Some t))

  -- `inner l` reads the line l one level down, and d levels are left
  module _ (inner : Line → Parser Tall) where
    -- ---- args
    abbrev pub argument_added : Given → Parser (Turn Given Given)
    argument_added g = inner line.Expr >>= λ a. pure (More (given (g.args ++ a.tree ∷ []) (max g.height a.height)))

    abbrev pub argument : Given → Parser (Turn Given Given)
    argument g = after (is_sign sign.Comma) (argument_added g) (pure (Done g))

    unfoldable pub arguments_listed : Parser Given
    arguments_listed = inner line.Expr >>= λ a. repeat argument (given (a.tree ∷ []) a.height)

    abbrev pub arguments_left : Parser Given
    arguments_left = arguments_listed >>= λ g. expect sign.Close >> pure g

    unfoldable pub arguments : Parser Given
    arguments = expect sign.Open >> after (is_sign sign.Close) (pure (given [] 0)) arguments_left

    -- ---- primary; each after its first token
    unfoldable pub own_variable : Parser Tall
    own_variable = expect sign.Dot >> (any_word >>= λ w. pure (tall (expr.Variable w) 1))

    unfoldable pub grouped : Parser Tall
    grouped = inner line.Expr >>= λ a. expect sign.Close >> pure (tall a.tree (a.height + 1))

    unfoldable pub measured : ℕ → Parser Tall
    measured op = expect sign.Open >> (inner line.Expr >>= λ a. expect sign.Close >> pure (tall (expr.Unary op a.tree) (a.height + 1)))

    unfoldable pub new_object : Parser Tall
    new_object = name >>= λ n. pure (tall (expr.New n) 1)

    unfoldable pub class_object : Parser Tall
    class_object = name >>= λ n. pure (tall (expr.Class n) 1)

    unfoldable pub isa : Parser Tall
    isa = expect sign.Open >> (inner line.Expr >>= λ a. expect sign.Comma >> (name >>= λ n. expect sign.Close >> pure (tall (expr.Isa n a.tree) (a.height + 1))))

    unfoldable pub proxy : Parser Tall
    proxy = expect sign.Open >> (name >>= λ n. expect sign.Comma >> (inner line.Expr >>= λ a. expect sign.Close >> pure (tall (expr.Proxy n a.tree) (a.height + 1))))

    unfoldable pub host_call : Parser Tall
    host_call = host >>= λ c. expect sign.Open >> (inner line.Expr >>= λ a. expect sign.Comma >> (inner line.Expr >>= λ b. expect sign.Close >> pure (tall (expr.Host c a.tree b.tree) (max a.height b.height + 1))))

    unfoldable pub parent_call : Parser Tall
    parent_call = name >>= λ n. expect sign.Dot >> (any_word >>= λ m. arguments >>= λ g. pure (tall (expr.Parent n m g.args) (g.height + 1)))

    unfoldable pub parents_call : Parser Tall
    parents_call = expect sign.Dot >> (any_word >>= λ m. arguments >>= λ g. pure (tall (expr.Parents m g.args) (g.height + 1)))

    unfoldable pub form : Parser Tall
    form = after (is_key key.Isa) isa (after (is_key key.Proxy) proxy (after (is_key key.Host) host_call (after (is_key key.Parent) parent_call (after (is_key key.Parents) parents_call (stop Syntax)))))

    unfoldable pub compound : Parser Tall
    compound = after (is_sign sign.Open) grouped (after (is_key key.SomThis) own_variable (after (is_key key.Length) (measured 2) (after (is_key key.TextOf) (measured 3)
        (after (is_key key.New) new_object (after (is_key key.Class) class_object form)))))

    unfoldable pub primary : Parser Tall
    primary = by_table (atom text_at) (λ a. pure (tall a 1)) compound

    -- ---- postfix
    abbrev pub step_taken : Tall → Parser (Turn Tall Tall)
    step_taken a = any_word >>= λ m. arguments >>= λ g. pure (More (called a m g))

    abbrev pub step : ℕ → Tall → Parser (Turn Tall Tall)
    step d a = pushed (is_sign sign.Dot) d a.height (step_taken a) (pure (Done a))

    unfoldable pub stepped : ℕ → Parser Tall
    stepped d = primary >>= repeat (step d)

    -- a further step makes the last one part of the receiver
    abbrev pub named_step_taken : NamedCall → Parser (Turn NamedCall NamedCall)
    named_step_taken s = any_word >>= λ m. arguments >>= λ g. pure (More (named_call (called s.receiver s.method s.given) m g))

    abbrev pub named_step : ℕ → NamedCall → Parser (Turn NamedCall NamedCall)
    named_step d s = pushed (is_sign sign.Dot) d (named_height s) (named_step_taken s) (pure (Done s))

    abbrev pub first_step : Tall → Parser NamedCall
    first_step a = any_word >>= λ m. arguments >>= λ g. pure (named_call a m g)

    -- primary "." WORD args { "." WORD args }, where the last step is the call by name
    unfoldable pub call_by_name : ℕ → Parser NamedCall
    call_by_name d = inner line.Primary >>= λ a. expect sign.Dot >> (first_step a >>= repeat (named_step d))

    unfoldable pub lookup : ℕ → Parser Tall
    lookup d = outcome >>= λ t. call_by_name d >>= λ s. pure (tall (expr.Lookup t s.receiver.tree s.method s.given.args) (named_height s))

    unfoldable pub dispatch : ℕ → Parser Tall
    dispatch d = outcome >>= λ t. call_by_name d >>= λ s. pure (tall (expr.Dispatch t s.receiver.tree s.method s.given.args) (named_height s))

    unfoldable pub postfix : ℕ → Parser Tall
    postfix d = after (is_key key.Lookup) (lookup d) (after (is_key key.Dispatch) (dispatch d) (stepped d))

    -- ---- the other lines
    abbrev pub cast_step : ℕ → Tall → Parser (Turn Tall Tall)
    cast_step d a = pushed (is_key key.As) d a.height (name >>= λ n. pure (More (tall (expr.Cast n a.tree) (a.height + 1)))) (pure (Done a))

    unfoldable pub cast : ℕ → Parser Tall
    cast d = postfix d >>= repeat (cast_step d)

    unfoldable pub unary : ℕ → Parser Tall
    unary d = after (is_sign sign.Minus) (inner line.Unary >>= λ a. pure (tall (expr.Unary 0 a.tree) (a.height + 1))) (cast d)

    -- an operator of the table, whose right operand is on the line l
    abbrev pub operation : (Token → Option ℕ) → Line → ℕ → Tall → Parser (Turn Tall Tall)
    operation ops l d a = operator ops d a.height (λ op. inner l >>= λ b. pure (More (combined op a b))) (pure (Done a))

    unfoldable pub prod : ℕ → Parser Tall
    prod d = unary d >>= repeat (operation product_operator line.Unary d)

    unfoldable pub sum : ℕ → Parser Tall
    sum d = prod d >>= repeat (operation sum_operator line.Prod d)

    -- at most one comparison
    abbrev pub compared : ℕ → Tall → Parser Tall
    compared d a = operator comparison d a.height (λ op. inner line.Sum >>= λ b. pure (combined op a b)) (pure a)

    unfoldable pub cmp : ℕ → Parser Tall
    cmp d = sum d >>= compared d

    unfoldable pub neg : ℕ → Parser Tall
    neg d = after (is_key key.Not) (inner line.Neg >>= λ a. pure (tall (expr.Unary 1 a.tree) (a.height + 1))) (cmp d)

    unfoldable pub conj : ℕ → Parser Tall
    conj d = neg d >>= repeat (operation and_operator line.Neg d)

    unfoldable pub expression : ℕ → Parser Tall
    expression d = conj d >>= repeat (operation or_operator line.Conj d)

    abbrev pub read : ℕ → Line → Parser Tall
    read d line.Primary = primary
    read d line.Postfix = postfix d
    read d line.Cast = cast d
    read d line.Unary = unary d
    read d line.Prod = prod d
    read d line.Sum = sum d
    read d line.Cmp = cmp d
    read d line.Neg = neg d
    read d line.Conj = conj d
    read d line.Expr = expression d

  -- the line l where d levels are left
  unfoldable pub at : ℕ → Line → Parser Tall
  at zero l = too_deep (begins l)
  at (suc d) l = read (at d) (suc d) l

  -- further steps on what was read, where e levels are left
  abbrev pub steps_from : ℕ → Tall → Parser Tall
  steps_from e = repeat (step (at (e - 1)) e)
