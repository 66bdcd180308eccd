-- Trees of expressions whose words, numbers, literals and levels are within their limits, as those of texts are.
use Rattle.std.specs.Prelude.{ℕ, zero, suc, ◌<◌, ◌≤◌, ◌^◌, ⊤, length, All, Option, IfSome}
use Rattle.som_model.specs.declared.limits.TheConstants.{MAX_NAME, MAX_TEXT}
use Rattle.som_ast.specs.declared.words.TypeName.{TypeName}
use Rattle.som_ast.specs.declared.words.TypeName.TheVariants as types
use Rattle.som_ast.specs.declared.words.Word.{Word}
use Rattle.som_ast.specs.declared.expression.ExprText.{ExprText, out-ExprText}
use Rattle.som_ast.specs.declared.expression.ExprText.TheOpen.{ExprText-F}

abbrev pub WordWithin : Word → Type 0
WordWithin w = length w.text ≤ MAX_NAME

abbrev pub TypeWithin : TypeName → Type 0
TypeWithin types.Long = ⊤
TypeWithin types.Boolean = ⊤
TypeWithin types.Str = ⊤
TypeWithin (types.Class w) = WordWithin w

abbrev pub ResultWithin : Option TypeName → Type 0
ResultWithin o = IfSome o TypeWithin

-- the fields of an expression, by which expressions can stand in it
abbrev pub ExprPartsWithin : (ExprText → Type 0) → ExprText-F ExprText → Type 0
ExprPartsWithin Inner (ExprText-F.Number n) = n < 2 ^ 31
ExprPartsWithin Inner (ExprText-F.Literal t) = length t ≤ MAX_TEXT
ExprPartsWithin Inner (ExprText-F.Boolean b) = ⊤
ExprPartsWithin Inner ExprText-F.Nil = ⊤
ExprPartsWithin Inner (ExprText-F.Name w) = WordWithin w
ExprPartsWithin Inner ExprText-F.Me = ⊤
ExprPartsWithin Inner (ExprText-F.Variable w) = WordWithin w
ExprPartsWithin Inner (ExprText-F.Unary op e) = Inner e
ExprPartsWithin Inner (ExprText-F.Binary op e f) = Inner e × Inner f
ExprPartsWithin Inner (ExprText-F.New w) = WordWithin w
ExprPartsWithin Inner (ExprText-F.Class w) = WordWithin w
ExprPartsWithin Inner ExprText-F.Manager = ⊤
ExprPartsWithin Inner (ExprText-F.Cast w e) = WordWithin w × Inner e
ExprPartsWithin Inner (ExprText-F.Isa w e) = WordWithin w × Inner e
ExprPartsWithin Inner (ExprText-F.Proxy w e) = WordWithin w × Inner e
ExprPartsWithin Inner (ExprText-F.Call e w es) = Inner e × WordWithin w × All Inner es
ExprPartsWithin Inner (ExprText-F.Lookup t e w es) = ResultWithin t × Inner e × WordWithin w × All Inner es
ExprPartsWithin Inner (ExprText-F.Dispatch t e w es) = ResultWithin t × Inner e × WordWithin w × All Inner es
ExprPartsWithin Inner (ExprText-F.Parent n w es) = WordWithin n × WordWithin w × All Inner es
ExprPartsWithin Inner (ExprText-F.Parents w es) = WordWithin w × All Inner es
ExprPartsWithin Inner (ExprText-F.Host code e f) = Inner e × Inner f

-- an expression, where so many levels are left
unfoldable pub ExprTextWithin : ℕ → ExprText → Type 0
ExprTextWithin zero e = ⊥
ExprTextWithin (suc left) e = ExprPartsWithin (ExprTextWithin left) (out-ExprText e)
