-- Trees of bodies and mains whose words, numbers, literals, levels and statements are within their limits, as those of texts are.
use Rattle.std.specs.Prelude.{ℕ, zero, suc, ◌≤◌, length, All, IfSome}
use Rattle.som_model.specs.declared.limits.TheConstants.{MAX_NESTING}
use Rattle.som_body.specs.ExpressionWithin.{WordWithin, TypeWithin, ExprTextWithin}
use Rattle.som_ast.specs.declared.expression.ExprText.{ExprText}
use Rattle.som_ast.specs.declared.body.BlockText.{BlockText}
use Rattle.som_ast.specs.declared.body.BodyFile.{BodyFile}
use Rattle.som_ast.specs.declared.body.BodyText.{BodyText}
use Rattle.som_ast.specs.declared.body.MainFile.{MainFile}
use Rattle.som_ast.specs.declared.body.StmtText.{StmtText, out-StmtText}
use Rattle.som_ast.specs.declared.body.StmtText.TheOpen.{StmtText-F}

-- the fields of a statement, by which expressions and blocks can stand in it
abbrev pub StmtPartsWithin : (ExprText → Type 0) → (BlockText → Type 0) → StmtText-F StmtText BlockText → Type 0
StmtPartsWithin Inner Within (StmtText-F.Var w t e) = WordWithin w × TypeWithin t × Inner e
StmtPartsWithin Inner Within (StmtText-F.Set w e) = WordWithin w × Inner e
StmtPartsWithin Inner Within (StmtText-F.SetVariable w e) = WordWithin w × Inner e
StmtPartsWithin Inner Within (StmtText-F.If e b c) = Inner e × Within b × Within c
StmtPartsWithin Inner Within (StmtText-F.While e b) = Inner e × Within b
StmtPartsWithin Inner Within (StmtText-F.Return o) = IfSome o Inner
StmtPartsWithin Inner Within (StmtText-F.Print e) = Inner e
StmtPartsWithin Inner Within (StmtText-F.Free e) = Inner e
StmtPartsWithin Inner Within (StmtText-F.Call e) = Inner e

-- a block of no more than so many statements
abbrev pub StatementsWithin : ℕ → (StmtText → Type 0) → BlockText → Type 0
StatementsWithin most Within b = (length b.statements ≤ most) × All Within b.statements

-- a statement, where no block has more than so many statements and so many levels are left
unfoldable pub StmtTextWithin : ℕ → ℕ → StmtText → Type 0
StmtTextWithin most zero s = ⊥
StmtTextWithin most (suc left) s = StmtPartsWithin (ExprTextWithin left) (StatementsWithin most (StmtTextWithin most left)) (out-StmtText s)

-- a block, where no block has more than so many statements and so many levels are left
abbrev pub BlockTextWithin : ℕ → ℕ → BlockText → Type 0
BlockTextWithin most left b = StatementsWithin most (StmtTextWithin most left) b

-- a body, all levels of which are left
pub record BodyTextWithin (most : ℕ) (b : BodyText) : Type 0 where
  pub class : WordWithin b.class
  pub method : WordWithin b.method
  pub params : All WordWithin b.params
  pub block : BlockTextWithin most MAX_NESTING b.block

pub record BodyFileWithin (most : ℕ) (f : BodyFile) : Type 0 where
  pub bodies : All (BodyTextWithin most) f.bodies

pub record MainFileWithin (most : ℕ) (m : MainFile) : Type 0 where
  pub block : BlockTextWithin most MAX_NESTING m.block
