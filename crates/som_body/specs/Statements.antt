-- The grammar of statements, bodies and mains. `IsStmt text_at l u s`: the tokens u are a statement, s is its tree, and l the levels with each of the tokens.
use Rattle.std.specs.Prelude.{◌≡◌, ℕ, Bool, true, false, if◌then◌else◌, List, [], ◌∷◌, ◌++◌, drop, map, Some, None}
use Rattle.som_parse.specs.Languages.{Listed}
use Rattle.som_parse.specs.declared.token.Key.TheVariants as key
use Rattle.som_parse.specs.declared.token.Sign.TheVariants as sign
use Rattle.som_parse.specs.declared.token.Token.{Token}
use Rattle.som_parse.specs.declared.token.Token.TheVariants as token
use Rattle.som_ast.specs.declared.words.TypeName.{TypeName}
use Rattle.som_ast.specs.declared.words.Word.{Word}
use Rattle.som_body.specs.Levels.{down}
use Rattle.som_body.specs.Grammar.{is_name, IsWord, IsName, IsType, IsExpr, IsPostfix}
use Rattle.som_ast.specs.declared.expression.ExprText.{ExprText, out-ExprText}
use Rattle.som_ast.specs.declared.expression.ExprText.TheOpen.{ExprText-F}
use Rattle.som_ast.specs.declared.body.BlockText.{BlockText}
use Rattle.som_ast.specs.declared.body.BodyFile.{BodyFile}
use Rattle.som_ast.specs.declared.body.BodyText.{BodyText}
use Rattle.som_ast.specs.declared.body.MainFile.{MainFile}
use Rattle.som_ast.specs.declared.body.StmtText.{StmtText}
use Rattle.som_ast.specs.declared.body.StmtText.TheVariants as stmt

-- whether the outermost form of an expression is a call
abbrev pub is_call_form : {A : Type 0} → ExprText-F A → Bool
is_call_form (ExprText-F.Call a m g) = true
is_call_form (ExprText-F.Lookup t a m g) = true
is_call_form (ExprText-F.Dispatch t a m g) = true
is_call_form (ExprText-F.Parent n m g) = true
is_call_form (ExprText-F.Parents m g) = true
is_call_form _ = false

unfoldable pub is_call : ExprText → Bool
is_call a = is_call_form (out-ExprText a)

-- the block of these statements
abbrev pub block_of : List StmtText → BlockText
block_of ss = record { statements = ss }

-- A name that begins a statement is an expression only from the token after it on, and `somThis` only from the token after its word on: before, they are of no expression.
abbrev pub as_begun_by : List Token → List ℕ → List ℕ
as_begun_by (token.Word key.SomThis p ∷ u) l = 0 ∷ 0 ∷ 0 ∷ drop 3 l
as_begun_by (token.Word k p ∷ u) l = if is_name k then 0 ∷ drop 1 l else l
as_begun_by u l = l

module _ (text_at : ℕ → List ℕ) where
  mutual
    pub data IsStmt : List ℕ → List Token → StmtText → Type 0 where
      -- "var" NAME ":" type "=" expr ";"
      a_var : {p : ℕ} {l : List ℕ} {u v w : List Token} {n : Word} {t : TypeName} {a : ExprText} → IsName text_at u n → IsType text_at v t → IsExpr text_at l w a
          → IsStmt (down (0 ∷ 0 ∷ 0 ∷ 0 ∷ 0 ∷ (l ++ 0 ∷ []))) (token.Word key.Var p ∷ (u ++ token.Mark sign.Colon ∷ (v ++ token.Mark sign.Assign ∷ (w ++ token.Mark sign.Semicolon ∷ [])))) (stmt.Var n t a)
      -- NAME "=" expr ";"
      a_set : {l : List ℕ} {u v : List Token} {n : Word} {a : ExprText} → IsName text_at u n → IsExpr text_at l v a
          → IsStmt (down (0 ∷ 0 ∷ (l ++ 0 ∷ []))) (u ++ token.Mark sign.Assign ∷ (v ++ token.Mark sign.Semicolon ∷ [])) (stmt.Set n a)
      -- "somThis" "." WORD "=" expr ";"
      a_set_variable : {p : ℕ} {l : List ℕ} {u v : List Token} {m : Word} {a : ExprText} → IsWord text_at u m → IsExpr text_at l v a
          → IsStmt (down (0 ∷ 0 ∷ 0 ∷ 0 ∷ (l ++ 0 ∷ []))) (token.Word key.SomThis p ∷ token.Mark sign.Dot ∷ (u ++ token.Mark sign.Assign ∷ (v ++ token.Mark sign.Semicolon ∷ []))) (stmt.SetVariable m a)
      an_if : {l : List ℕ} {u : List Token} {s : StmtText} → IsIf l u s → IsStmt l u s
      -- "while" "(" expr ")" block
      a_while : {p : ℕ} {l m : List ℕ} {u v : List Token} {a : ExprText} {b : BlockText} → IsExpr text_at l u a → IsBlock m v b
          → IsStmt (down (0 ∷ 0 ∷ (l ++ 0 ∷ m))) (token.Word key.While p ∷ token.Mark sign.Open ∷ (u ++ token.Mark sign.Close ∷ v)) (stmt.While a b)
      -- "return" [ expr ] ";"
      a_return : {p : ℕ} → IsStmt (down (0 ∷ 0 ∷ [])) (token.Word key.Return p ∷ token.Mark sign.Semicolon ∷ []) (stmt.Return None)
      a_return_value : {p : ℕ} {l : List ℕ} {u : List Token} {a : ExprText} → IsExpr text_at l u a → IsStmt (down (0 ∷ (l ++ 0 ∷ []))) (token.Word key.Return p ∷ (u ++ token.Mark sign.Semicolon ∷ [])) (stmt.Return (Some a))
      -- "print" expr ";"
      a_print : {p : ℕ} {l : List ℕ} {u : List Token} {a : ExprText} → IsExpr text_at l u a → IsStmt (down (0 ∷ (l ++ 0 ∷ []))) (token.Word key.Print p ∷ (u ++ token.Mark sign.Semicolon ∷ [])) (stmt.Print a)
      -- "free" expr ";"
      a_free : {p : ℕ} {l : List ℕ} {u : List Token} {a : ExprText} → IsExpr text_at l u a → IsStmt (down (0 ∷ (l ++ 0 ∷ []))) (token.Word key.Free p ∷ (u ++ token.Mark sign.Semicolon ∷ [])) (stmt.Free a)
      -- postfix ";", where the postfix, without outer parentheses, is a call
      a_call : {l : List ℕ} {u : List Token} {a : ExprText} → IsPostfix text_at l u a → is_call a ≡ true → IsStmt (down (as_begun_by u l ++ 0 ∷ [])) (u ++ token.Mark sign.Semicolon ∷ []) (stmt.Call a)

    -- "if" "(" expr ")" block [ "else" ( block | if ) ]
    pub data IsIf : List ℕ → List Token → StmtText → Type 0 where
      the_if : {p : ℕ} {l m k : List ℕ} {u v w : List Token} {a : ExprText} {b c : BlockText} → IsExpr text_at l u a → IsBlock m v b → IsElse k w c
          → IsIf (down (0 ∷ 0 ∷ (l ++ 0 ∷ (m ++ k)))) (token.Word key.If p ∷ token.Mark sign.Open ∷ (u ++ token.Mark sign.Close ∷ (v ++ w))) (stmt.If a b c)

    pub data IsElse : List ℕ → List Token → BlockText → Type 0 where
      no_else : IsElse [] [] (block_of [])
      else_block : {p : ℕ} {l : List ℕ} {u : List Token} {b : BlockText} → IsBlock l u b → IsElse (0 ∷ l) (token.Word key.Else p ∷ u) b
      else_if : {p : ℕ} {l : List ℕ} {u : List Token} {s : StmtText} → IsIf l u s → IsElse (0 ∷ l) (token.Word key.Else p ∷ u) (block_of (s ∷ []))

    -- "{" { stmt } "}"
    pub data IsBlock : List ℕ → List Token → BlockText → Type 0 where
      a_block : {l : List ℕ} {u : List Token} {ss : List StmtText} → IsStmts l u ss → IsBlock (0 ∷ (l ++ 0 ∷ [])) (token.Mark sign.OpenBrace ∷ (u ++ token.Mark sign.CloseBrace ∷ [])) (block_of ss)

    pub data IsStmts : List ℕ → List Token → List StmtText → Type 0 where
      no_statement : IsStmts [] [] []
      one_statement : {l m : List ℕ} {u v : List Token} {ss : List StmtText} {s : StmtText} → IsStmts l u ss → IsStmt m v s → IsStmts (l ++ m) (u ++ v) (ss ++ s ∷ [])

  -- "(" [ NAME { "," NAME } ] ")"
  pub data IsParams : List Token → List Word → Type 0 where
    no_params : IsParams (token.Mark sign.Open ∷ token.Mark sign.Close ∷ []) []
    some_params : {u : List Token} {ns : List Word} → Listed (IsName text_at) u ns → IsParams (token.Mark sign.Open ∷ (u ++ token.Mark sign.Close ∷ [])) ns

  -- WORD "::" WORD "(" [ NAME { "," NAME } ] ")" block
  pub data IsBody : List ℕ → List Token → BodyText → Type 0 where
    a_body : {l : List ℕ} {u v w x : List Token} {c m : Word} {ns : List Word} {b : BlockText} → IsWord text_at u c → IsWord text_at v m → IsParams w ns → IsBlock l x b
        → IsBody (0 ∷ 0 ∷ 0 ∷ (map (λ t. 0) w ++ l)) (u ++ token.Mark sign.DoubleColon ∷ (v ++ (w ++ x))) (record { class = c; method = m; params = ns; block = b })

  pub data IsBodies : List ℕ → List Token → List BodyText → Type 0 where
    no_body : IsBodies [] [] []
    one_body : {l m : List ℕ} {u v : List Token} {bs : List BodyText} {b : BodyText} → IsBodies l u bs → IsBody m v b → IsBodies (l ++ m) (u ++ v) (bs ++ b ∷ [])

  -- { body }
  pub data IsBodyFile : List ℕ → List Token → BodyFile → Type 0 where
    a_body_file : {l : List ℕ} {u : List Token} {bs : List BodyText} → IsBodies l u bs → IsBodyFile l u (record { bodies = bs })

  -- "main" block
  pub data IsMainFile : List ℕ → List Token → MainFile → Type 0 where
    a_main_file : {p : ℕ} {l : List ℕ} {u : List Token} {b : BlockText} → IsBlock l u b → IsMainFile (0 ∷ l) (token.Word key.Main p ∷ u) (record { block = b })
