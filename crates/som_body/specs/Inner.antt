-- What the code's reader of statements is made of.
use Rattle.std.specs.Prelude.{ℕ, List}
use Rattle.som_parse.specs.Readers.{Parser, ◌>>=◌, after, when}
use Rattle.som_parse.specs.Tokens.{is_sign, is_key}
use Rattle.som_parse.specs.declared.token.Key.TheVariants as key
use Rattle.som_parse.specs.declared.token.Sign.TheVariants as sign
use Rattle.som_ast.specs.declared.words.Word.{Word}
use Rattle.som_body.specs.Reading.{tall, steps_from}
use Rattle.som_ast.specs.declared.expression.ExprText.TheVariants as expr
use Rattle.som_body.specs.StatementReading.{ending, returned, begins_name, own_statement, named_statement, call_statement, finish}
use Rattle.som_ast.specs.declared.body.StmtText.{StmtText}
use Rattle.som_ast.specs.declared.body.StmtText.TheVariants as stmt

-- a statement after "somThis", "." and the word
abbrev pub own_rest : (ℕ → List ℕ) → ℕ → Word → Parser StmtText
own_rest text_at e m = after (is_sign sign.Assign) (ending text_at e (λ a. stmt.SetVariable m a)) (steps_from text_at e (tall (expr.Variable m) 1) >>= finish)

-- a statement that begins with "return", "print", "free" or an expression
abbrev pub plain_statement : (ℕ → List ℕ) → ℕ → Parser StmtText
plain_statement text_at e = after (is_key key.Return) (returned text_at e) (after (is_key key.Print) (ending text_at e (λ a. stmt.Print a)) (after (is_key key.Free) (ending text_at e (λ a. stmt.Free a))
    (after (is_key key.SomThis) (own_statement text_at e) (when begins_name (named_statement text_at e) (call_statement text_at e)))))
