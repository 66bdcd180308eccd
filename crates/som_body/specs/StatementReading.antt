-- The readers of statements, bodies and mains, with one token in hand. `statement_at text_at d` reads a statement where d levels are left.
use Rattle.std.specs.Prelude.{ℕ, zero, suc, Bool, true, false, if◌then◌else◌, List, [], ◌∷◌, Option, Some, None}
use Rattle.som_parse.specs.Readers.{Parser, ◌>>=◌, ◌>>◌, pure, stop, when, after, expect, keyword, end, listed, repeated, keeping}
use Rattle.som_parse.specs.Tokens.{is_sign, is_key}
use Rattle.som_parse.specs.declared.cursor.Stop.TheVariants.{Syntax}
use Rattle.som_parse.specs.declared.token.Key.TheVariants as key
use Rattle.som_parse.specs.declared.token.Sign.TheVariants as sign
use Rattle.som_parse.specs.declared.token.Token.{Token}
use Rattle.som_parse.specs.declared.token.Token.TheVariants as token
use Rattle.som_ast.specs.declared.words.Word.{Word}
use Rattle.som_body.specs.Grammar.{is_name}
use Rattle.som_body.specs.Reading.{tall, begins_postfix, too_deep, any_word, name, kind, at, steps_from}
use Rattle.som_body.specs.declared.level.Line.TheVariants as line
use Rattle.som_body.specs.declared.level.Tall.{Tall}
use Rattle.som_ast.specs.declared.expression.ExprText.{ExprText}
use Rattle.som_ast.specs.declared.expression.ExprText.TheVariants as expr
use Rattle.som_body.specs.Statements.{is_call, block_of}
use Rattle.som_ast.specs.declared.body.BlockText.{BlockText}
use Rattle.som_ast.specs.declared.body.BodyFile.{BodyFile}
use Rattle.som_ast.specs.declared.body.BodyText.{BodyText}
use Rattle.som_ast.specs.declared.body.MainFile.{MainFile}
use Rattle.som_ast.specs.declared.body.StmtText.{StmtText}
use Rattle.som_ast.specs.declared.body.StmtText.TheVariants as stmt

abbrev pub begins_name : Option Token → Bool
begins_name (Some (token.Word k p)) = is_name k
begins_name _ = false

-- what begins a statement
abbrev pub begins_stmt : Option Token → Bool
begins_stmt (Some (token.Word key.Var p)) = true
begins_stmt (Some (token.Word key.If p)) = true
begins_stmt (Some (token.Word key.While p)) = true
begins_stmt (Some (token.Word key.Return p)) = true
begins_stmt (Some (token.Word key.Print p)) = true
begins_stmt (Some (token.Word key.Free p)) = true
begins_stmt o = begins_postfix o

abbrev pub ends_file : Option Token → Bool
ends_file None = true
ends_file (Some t) = false

-- the end of a call statement, after its expression
abbrev pub finish : Tall → Parser StmtText
finish a = if is_call a.tree then (expect sign.Semicolon >> pure (stmt.Call a.tree)) else stop Syntax

module _ (text_at : ℕ → List ℕ) where
  -- ---- where e levels are left for the expressions of a statement

  -- an expression that ends a statement
  unfoldable pub ending : ℕ → (ExprText → StmtText) → Parser StmtText
  ending e f = at text_at e line.Expr >>= λ a. expect sign.Semicolon >> pure (f a.tree)

  -- after "var"
  unfoldable pub variable : ℕ → Parser StmtText
  variable e = name text_at >>= λ n. expect sign.Colon >> (kind text_at >>= λ t. expect sign.Assign >> ending e (λ a. stmt.Var n t a))

  unfoldable pub named_statement : ℕ → Parser StmtText
  named_statement e = name text_at >>= λ n. after (is_sign sign.Assign) (ending e (λ a. stmt.Set n a)) (steps_from text_at e (tall (expr.Name n) 1) >>= finish)

  -- after "somThis"
  unfoldable pub own_statement : ℕ → Parser StmtText
  own_statement e = expect sign.Dot >> (any_word text_at >>= λ m. after (is_sign sign.Assign) (ending e (λ a. stmt.SetVariable m a)) (steps_from text_at e (tall (expr.Variable m) 1) >>= finish))

  -- after "return"
  unfoldable pub returned : ℕ → Parser StmtText
  returned e = after (is_sign sign.Semicolon) (pure (stmt.Return None)) (ending e (λ a. stmt.Return (Some a)))

  unfoldable pub call_statement : ℕ → Parser StmtText
  call_statement e = at text_at e line.Postfix >>= finish

  -- `inner` reads a statement one level down, and `inner_if` one that begins with "if"
  module _ (inner inner_if : Parser StmtText) where
    unfoldable pub block : Parser BlockText
    block = expect sign.OpenBrace >> (repeated (is_sign sign.CloseBrace) (keeping inner) >>= λ ss. expect sign.CloseBrace >> pure (block_of ss))

    -- after "while"
    unfoldable pub while_statement : ℕ → Parser StmtText
    while_statement e = expect sign.Open >> (at text_at e line.Expr >>= λ a. expect sign.Close >> (block >>= λ b. pure (stmt.While a.tree b)))

    unfoldable pub else_part : Parser BlockText
    else_part = after (is_key key.Else) (when (is_sign sign.OpenBrace) block (inner_if >>= λ s. pure (block_of (s ∷ [])))) (pure (block_of []))

    unfoldable pub if_statement : ℕ → Parser StmtText
    if_statement e = keyword key.If >> (expect sign.Open >> (at text_at e line.Expr >>= λ a. expect sign.Close >> (block >>= λ b. else_part >>= λ c. pure (stmt.If a.tree b c))))

    abbrev pub other_statement : ℕ → Parser StmtText
    other_statement e = after (is_key key.SomThis) (own_statement e) (when begins_name (named_statement e) (call_statement e))

    unfoldable pub statement : ℕ → Parser StmtText
    statement e = when (is_key key.If) (if_statement e) (after (is_key key.Var) (variable e) (after (is_key key.While) (while_statement e) (after (is_key key.Return) (returned e)
        (after (is_key key.Print) (ending e (λ a. stmt.Print a)) (after (is_key key.Free) (ending e (λ a. stmt.Free a)) (other_statement e))))))

  unfoldable mutual
    -- a statement where d levels are left
    pub statement_at : ℕ → Parser StmtText
    statement_at zero = too_deep begins_stmt
    statement_at (suc e) = statement (statement_at e) (if_at e) e

    pub if_at : ℕ → Parser StmtText
    if_at zero = too_deep (is_key key.If)
    if_at (suc e) = if_statement (statement_at e) (if_at e) e

  -- ---- whole texts, where statements have d levels
  unfoldable pub params : Parser (List Word)
  params = expect sign.Open >> after (is_sign sign.Close) (pure []) (listed (name text_at) >>= λ ns. expect sign.Close >> pure ns)

  unfoldable pub body : ℕ → Parser BodyText
  body d = any_word text_at >>= λ c. expect sign.DoubleColon >> (any_word text_at >>= λ m. params >>= λ ns. block (statement_at d) (if_at d) >>= λ b.
      pure (record { class = c; method = m; params = ns; block = b }))

  unfoldable pub body_file : ℕ → Parser BodyFile
  body_file d = repeated ends_file (keeping (body d)) >>= λ bs. end >> pure (record { bodies = bs })

  unfoldable pub main_file : ℕ → Parser MainFile
  main_file d = (keyword key.Main >> block (statement_at d) (if_at d)) >>= λ b. end >> pure (record { block = b })
