-- The grammar of expressions in method bodies. `IsExpr text_at l u a`: the tokens u are an expression, a is its tree, and l the levels with each of the tokens, where text_at gives the text of the token at each place.
use Rattle.std.specs.Prelude.{◌≡◌, ℕ, suc, Bool, true, false, ◌&&◌, if◌then◌else◌, List, [], ◌∷◌, ◌++◌, Option, Some, None}
use Rattle.som_lex.specs.Spelling.{is_word}
use Rattle.som_lex.specs.Values.{text_of}
use Rattle.som_model.specs.declared.syntax.HostCode.{HostCode}
use Rattle.som_model.specs.declared.syntax.HostCode.TheVariants as host
use Rattle.som_parse.specs.Tokens.{word}
use Rattle.som_parse.specs.Words.{key_of}
use Rattle.som_parse.specs.declared.token.Key.{Key}
use Rattle.som_parse.specs.declared.token.Key.TheVariants as key
use Rattle.som_parse.specs.declared.token.Sign.TheVariants as sign
use Rattle.som_parse.specs.declared.token.Token.{Token}
use Rattle.som_parse.specs.declared.token.Token.TheVariants as token
use Rattle.som_ast.specs.declared.words.TypeName.{TypeName}
use Rattle.som_ast.specs.declared.words.TypeName.TheVariants as types
use Rattle.som_ast.specs.declared.words.Word.{Word}
use Rattle.som_body.specs.Levels.{top, down}
use Rattle.som_ast.specs.declared.expression.ExprText.{ExprText}
use Rattle.som_ast.specs.declared.expression.ExprText.TheVariants as expr

-- whether a word may be a name: it is none of these words, which always have their meaning
abbrev pub is_name : Key → Bool
is_name key.Var = false
is_name key.If = false
is_name key.Else = false
is_name key.While = false
is_name key.Return = false
is_name key.Print = false
is_name key.Free = false
is_name key.And = false
is_name key.Or = false
is_name key.Not = false
is_name key.As = false
is_name key.Me = false
is_name key.SomThis = false
is_name key.Nil = false
is_name key.True = false
is_name key.False = false
is_name key.Length = false
is_name key.TextOf = false
is_name key.New = false
is_name key.Class = false
is_name key.Isa = false
is_name key.Proxy = false
is_name key.Lookup = false
is_name key.Dispatch = false
is_name key.Parent = false
is_name key.Parents = false
is_name key.Host = false
is_name key.Manager = false
is_name key.Main = false
is_name key.Void = false
is_name key.Long = false
is_name key.Boolean = false
is_name key.Str = false
is_name _ = true

-- whether bytes are a NAME by themselves: they are a word, and it may be a name
abbrev pub is_name_text : List ℕ → Bool
is_name_text bytes = is_word bytes && is_name (key_of bytes)

-- "min" | "max" | "and" | "or" | "xor" | "wrapadd"
abbrev pub host_code : Key → Option HostCode
host_code key.Min = Some host.Min
host_code key.Max = Some host.Max
host_code key.And = Some host.And
host_code key.Or = Some host.Or
host_code key.Xor = Some host.Xor
host_code key.WrapAdd = Some host.WrapAdd
host_code _ = None

-- the operators of each line of the grammar, by their numbers
abbrev pub or_operator : Token → Option ℕ
or_operator (token.Word key.Or p) = Some 12
or_operator _ = None

abbrev pub and_operator : Token → Option ℕ
and_operator (token.Word key.And p) = Some 11
and_operator _ = None

abbrev pub comparison : Token → Option ℕ
comparison (token.Mark sign.Equal) = Some 5
comparison (token.Mark sign.NotEqual) = Some 6
comparison (token.Mark sign.Less) = Some 7
comparison (token.Mark sign.LessEqual) = Some 8
comparison (token.Mark sign.Greater) = Some 9
comparison (token.Mark sign.GreaterEqual) = Some 10
comparison _ = None

abbrev pub sum_operator : Token → Option ℕ
sum_operator (token.Mark sign.Plus) = Some 0
sum_operator (token.Mark sign.Minus) = Some 1
sum_operator (token.Mark sign.Join) = Some 13
sum_operator _ = None

abbrev pub product_operator : Token → Option ℕ
product_operator (token.Mark sign.Times) = Some 2
product_operator (token.Mark sign.Divide) = Some 3
product_operator (token.Mark sign.Remainder) = Some 4
product_operator _ = None

module _ (text_at : ℕ → List ℕ) where
  -- WORD
  pub data IsWord : List Token → Word → Type 0 where
    a_word : (k : Key) (p : ℕ) → IsWord (token.Word k p ∷ []) (word text_at p)

  -- NAME
  pub data IsName : List Token → Word → Type 0 where
    a_name : (k : Key) (p : ℕ) → is_name k ≡ true → IsName (token.Word k p ∷ []) (word text_at p)

  -- HOST
  pub data IsHost : List Token → HostCode → Type 0 where
    a_host : (k : Key) (p : ℕ) {c : HostCode} → host_code k ≡ Some c → IsHost (token.Word k p ∷ []) c

  -- "long" | "boolean" | "string" | NAME
  pub data IsType : List Token → TypeName → Type 0 where
    type_long : {p : ℕ} → IsType (token.Word key.Long p ∷ []) types.Long
    type_boolean : {p : ℕ} → IsType (token.Word key.Boolean p ∷ []) types.Boolean
    type_string : {p : ℕ} → IsType (token.Word key.Str p ∷ []) types.Str
    type_class : {u : List Token} {n : Word} → IsName u n → IsType u (types.Class n)

  -- "void" | type
  pub data IsResult : List Token → Option TypeName → Type 0 where
    result_void : {p : ℕ} → IsResult (token.Word key.Void p ∷ []) None
    result_type : {u : List Token} {t : TypeName} → IsType u t → IsResult u (Some t)

  -- NUMBER | TEXT | "TRUE" | "FALSE" | "nil" | "self" | "SOMClassMgrObject" | NAME
  abbrev pub word_atom : Key → ℕ → Option ExprText
  word_atom key.True p = Some (expr.Boolean true)
  word_atom key.False p = Some (expr.Boolean false)
  word_atom key.Nil p = Some expr.Nil
  word_atom key.Me p = Some expr.Me
  word_atom key.Manager p = Some expr.Manager
  word_atom k p = if is_name k then Some (expr.Name (word text_at p)) else None

  abbrev pub atom : Token → Option ExprText
  atom (token.Number n) = Some (expr.Number n)
  atom (token.Literal p) = Some (expr.Literal (text_of (text_at p)))
  atom (token.Word k p) = word_atom k p
  atom _ = None

  mutual
    -- A pair of parentheses around an expression is a level, and leaves no trace in the tree.
    pub data IsPrimary : List ℕ → List Token → ExprText → Type 0 where
      an_atom : (t : Token) {a : ExprText} → atom t ≡ Some a → IsPrimary (down (0 ∷ [])) (t ∷ []) a
      -- "somThis" "." WORD
      a_variable : {p : ℕ} {u : List Token} {w : Word} → IsWord u w → IsPrimary (down (0 ∷ 0 ∷ 0 ∷ [])) (token.Word key.SomThis p ∷ token.Mark sign.Dot ∷ u) (expr.Variable w)
      -- "(" expr ")"
      a_group : {l : List ℕ} {u : List Token} {a : ExprText} → IsExpr l u a → IsPrimary (down (0 ∷ (l ++ 0 ∷ []))) (token.Mark sign.Open ∷ (u ++ token.Mark sign.Close ∷ [])) a
      -- "length" "(" expr ")"
      a_length : {p : ℕ} {l : List ℕ} {u : List Token} {a : ExprText} → IsExpr l u a
          → IsPrimary (down (0 ∷ 0 ∷ (l ++ 0 ∷ []))) (token.Word key.Length p ∷ token.Mark sign.Open ∷ (u ++ token.Mark sign.Close ∷ [])) (expr.Unary 2 a)
      -- "text" "(" expr ")"
      a_text : {p : ℕ} {l : List ℕ} {u : List Token} {a : ExprText} → IsExpr l u a
          → IsPrimary (down (0 ∷ 0 ∷ (l ++ 0 ∷ []))) (token.Word key.TextOf p ∷ token.Mark sign.Open ∷ (u ++ token.Mark sign.Close ∷ [])) (expr.Unary 3 a)
      -- "new" NAME
      a_new : {p : ℕ} {u : List Token} {n : Word} → IsName u n → IsPrimary (down (0 ∷ 0 ∷ [])) (token.Word key.New p ∷ u) (expr.New n)
      -- "class" NAME
      a_class : {p : ℕ} {u : List Token} {n : Word} → IsName u n → IsPrimary (down (0 ∷ 0 ∷ [])) (token.Word key.Class p ∷ u) (expr.Class n)
      -- "isa" "(" expr "," NAME ")"
      an_isa : {p : ℕ} {l : List ℕ} {u v : List Token} {a : ExprText} {n : Word} → IsExpr l u a → IsName v n
          → IsPrimary (down (0 ∷ 0 ∷ (l ++ 0 ∷ 0 ∷ 0 ∷ []))) (token.Word key.Isa p ∷ token.Mark sign.Open ∷ (u ++ token.Mark sign.Comma ∷ (v ++ token.Mark sign.Close ∷ []))) (expr.Isa n a)
      -- "proxy" "(" NAME "," expr ")"
      a_proxy : {p : ℕ} {l : List ℕ} {u v : List Token} {n : Word} {a : ExprText} → IsName u n → IsExpr l v a
          → IsPrimary (down (0 ∷ 0 ∷ 0 ∷ 0 ∷ (l ++ 0 ∷ []))) (token.Word key.Proxy p ∷ token.Mark sign.Open ∷ (u ++ token.Mark sign.Comma ∷ (v ++ token.Mark sign.Close ∷ []))) (expr.Proxy n a)
      -- "host" HOST "(" expr "," expr ")"
      a_host_call : {p : ℕ} {l m : List ℕ} {u v w : List Token} {c : HostCode} {a b : ExprText} → IsHost u c → IsExpr l v a → IsExpr m w b
          → IsPrimary (down (0 ∷ 0 ∷ 0 ∷ (l ++ 0 ∷ (m ++ 0 ∷ [])))) (token.Word key.Host p ∷ (u ++ token.Mark sign.Open ∷ (v ++ token.Mark sign.Comma ∷ (w ++ token.Mark sign.Close ∷ [])))) (expr.Host c a b)
      -- "parent" NAME "." WORD args
      a_parent_call : {p : ℕ} {l : List ℕ} {u v w : List Token} {n m : Word} {g : List ExprText} → IsName u n → IsWord v m → IsArguments l w g
          → IsPrimary (down (0 ∷ 0 ∷ 0 ∷ 0 ∷ l)) (token.Word key.Parent p ∷ (u ++ token.Mark sign.Dot ∷ (v ++ w))) (expr.Parent n m g)
      -- "parents" "." WORD args
      a_parents_call : {p : ℕ} {l : List ℕ} {u v : List Token} {m : Word} {g : List ExprText} → IsWord u m → IsArguments l v g
          → IsPrimary (down (0 ∷ 0 ∷ 0 ∷ l)) (token.Word key.Parents p ∷ token.Mark sign.Dot ∷ (u ++ v)) (expr.Parents m g)

    -- primary { "." WORD args }, where the primary is neither `lookup` nor `dispatch` without parentheses. The "." pushes its receiver one level down.
    pub data IsStepped : List ℕ → List Token → ExprText → Type 0 where
      no_step : {l : List ℕ} {u : List Token} {a : ExprText} → IsPrimary l u a → IsStepped l u a
      a_step : {l m : List ℕ} {u v w : List Token} {a : ExprText} {n : Word} {g : List ExprText} → IsStepped l u a → IsWord v n → IsArguments m w g
          → IsStepped (l ++ down (top l ∷ 0 ∷ m)) (u ++ token.Mark sign.Dot ∷ (v ++ w)) (expr.Call a n g)

    -- primary "." WORD args { "." WORD args }, where the primary is neither `lookup` nor `dispatch` without parentheses: the last step is a call by name on what stands before it, which each further "." pushes one level down
    pub data IsNamedCall : List ℕ → List Token → ExprText → Word → List ExprText → Type 0 where
      a_first_step : {l m : List ℕ} {u v w : List Token} {a : ExprText} {n : Word} {g : List ExprText} → IsPrimary l u a → IsWord v n → IsArguments m w g
          → IsNamedCall (l ++ 0 ∷ 0 ∷ m) (u ++ token.Mark sign.Dot ∷ (v ++ w)) a n g
      a_further_step : {l m : List ℕ} {u v w : List Token} {a : ExprText} {n k : Word} {g x : List ExprText} → IsNamedCall l u a n g → IsWord v k → IsArguments m w x
          → IsNamedCall (l ++ suc (top l) ∷ 0 ∷ m) (u ++ token.Mark sign.Dot ∷ (v ++ w)) (expr.Call a n g) k x

    -- primary { "." WORD args } | ( "lookup" | "dispatch" ) result primary "." WORD args { "." WORD args }
    pub data IsPostfix : List ℕ → List Token → ExprText → Type 0 where
      a_stepped : {l : List ℕ} {u : List Token} {a : ExprText} → IsStepped l u a → IsPostfix l u a
      a_lookup : {p : ℕ} {l : List ℕ} {r u : List Token} {t : Option TypeName} {a : ExprText} {n : Word} {g : List ExprText} → IsResult r t → IsNamedCall l u a n g
          → IsPostfix (down (0 ∷ 0 ∷ l)) (token.Word key.Lookup p ∷ (r ++ u)) (expr.Lookup t a n g)
      a_dispatch : {p : ℕ} {l : List ℕ} {r u : List Token} {t : Option TypeName} {a : ExprText} {n : Word} {g : List ExprText} → IsResult r t → IsNamedCall l u a n g
          → IsPostfix (down (0 ∷ 0 ∷ l)) (token.Word key.Dispatch p ∷ (r ++ u)) (expr.Dispatch t a n g)

    -- "(" [ expr { "," expr } ] ")"
    pub data IsArguments : List ℕ → List Token → List ExprText → Type 0 where
      no_arguments : IsArguments (0 ∷ 0 ∷ []) (token.Mark sign.Open ∷ token.Mark sign.Close ∷ []) []
      some_arguments : {l : List ℕ} {u : List Token} {g : List ExprText} → IsExprs l u g → IsArguments (0 ∷ (l ++ 0 ∷ [])) (token.Mark sign.Open ∷ (u ++ token.Mark sign.Close ∷ [])) g

    -- expr { "," expr }
    pub data IsExprs : List ℕ → List Token → List ExprText → Type 0 where
      first_argument : {l : List ℕ} {u : List Token} {a : ExprText} → IsExpr l u a → IsExprs l u (a ∷ [])
      next_argument : {l m : List ℕ} {u v : List Token} {g : List ExprText} {a : ExprText} → IsExprs l u g → IsExpr m v a → IsExprs (l ++ 0 ∷ m) (u ++ token.Mark sign.Comma ∷ v) (g ++ a ∷ [])

    -- postfix { "as" NAME }. Here and below, the operator pushes its first operand one level down.
    pub data IsCast : List ℕ → List Token → ExprText → Type 0 where
      no_cast : {l : List ℕ} {u : List Token} {a : ExprText} → IsPostfix l u a → IsCast l u a
      a_cast : (p : ℕ) {l : List ℕ} {u v : List Token} {a : ExprText} {n : Word} → IsCast l u a → IsName v n → IsCast (l ++ down (top l ∷ 0 ∷ [])) (u ++ token.Word key.As p ∷ v) (expr.Cast n a)

    -- "-" unary | cast
    pub data IsUnary : List ℕ → List Token → ExprText → Type 0 where
      no_minus : {l : List ℕ} {u : List Token} {a : ExprText} → IsCast l u a → IsUnary l u a
      a_minus : {l : List ℕ} {u : List Token} {a : ExprText} → IsUnary l u a → IsUnary (down (0 ∷ l)) (token.Mark sign.Minus ∷ u) (expr.Unary 0 a)

    -- unary { ( "*" | "/" | "%" ) unary }, grouped from the left
    pub data IsProd : List ℕ → List Token → ExprText → Type 0 where
      no_product : {l : List ℕ} {u : List Token} {a : ExprText} → IsUnary l u a → IsProd l u a
      a_product : (t : Token) {op : ℕ} {l m : List ℕ} {u v : List Token} {a b : ExprText} → product_operator t ≡ Some op → IsProd l u a → IsUnary m v b → IsProd (l ++ down (top l ∷ m)) (u ++ t ∷ v) (expr.Binary op a b)

    -- prod { ( "+" | "-" | "&" ) prod }, grouped from the left
    pub data IsSum : List ℕ → List Token → ExprText → Type 0 where
      no_sum : {l : List ℕ} {u : List Token} {a : ExprText} → IsProd l u a → IsSum l u a
      a_sum : (t : Token) {op : ℕ} {l m : List ℕ} {u v : List Token} {a b : ExprText} → sum_operator t ≡ Some op → IsSum l u a → IsProd m v b → IsSum (l ++ down (top l ∷ m)) (u ++ t ∷ v) (expr.Binary op a b)

    -- sum [ ( "==" | "!=" | "<" | "<=" | ">" | ">=" ) sum ]
    pub data IsCmp : List ℕ → List Token → ExprText → Type 0 where
      no_comparison : {l : List ℕ} {u : List Token} {a : ExprText} → IsSum l u a → IsCmp l u a
      a_comparison : (t : Token) {op : ℕ} {l m : List ℕ} {u v : List Token} {a b : ExprText} → comparison t ≡ Some op → IsSum l u a → IsSum m v b → IsCmp (l ++ down (top l ∷ m)) (u ++ t ∷ v) (expr.Binary op a b)

    -- "not" neg | cmp
    pub data IsNeg : List ℕ → List Token → ExprText → Type 0 where
      no_not : {l : List ℕ} {u : List Token} {a : ExprText} → IsCmp l u a → IsNeg l u a
      a_not : {p : ℕ} {l : List ℕ} {u : List Token} {a : ExprText} → IsNeg l u a → IsNeg (down (0 ∷ l)) (token.Word key.Not p ∷ u) (expr.Unary 1 a)

    -- neg { "and" neg }, grouped from the left
    pub data IsConj : List ℕ → List Token → ExprText → Type 0 where
      no_and : {l : List ℕ} {u : List Token} {a : ExprText} → IsNeg l u a → IsConj l u a
      an_and : (t : Token) {op : ℕ} {l m : List ℕ} {u v : List Token} {a b : ExprText} → and_operator t ≡ Some op → IsConj l u a → IsNeg m v b → IsConj (l ++ down (top l ∷ m)) (u ++ t ∷ v) (expr.Binary op a b)

    -- conj { "or" conj }, grouped from the left
    pub data IsExpr : List ℕ → List Token → ExprText → Type 0 where
      no_or : {l : List ℕ} {u : List Token} {a : ExprText} → IsConj l u a → IsExpr l u a
      an_or : (t : Token) {op : ℕ} {l m : List ℕ} {u v : List Token} {a b : ExprText} → or_operator t ≡ Some op → IsExpr l u a → IsConj m v b → IsExpr (l ++ down (top l ∷ m)) (u ++ t ∷ v) (expr.Binary op a b)
