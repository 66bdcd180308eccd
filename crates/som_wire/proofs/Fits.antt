-- What fits among some classes and methods, with some levels left, fits among more and with more.
use Rattle.std.proofs.Common.{ℕ, zero, suc, ◌≤◌, Bool, true, false, List, arith}
use Rattle.std.specs.Prelude.{IsTrue}
use Rattle.std.proofs.lemmas.List.Elements.{All-weaker}
use Rattle.som_image_fields.specs.declared.kind.WireType.{WireType}
use Rattle.som_image_fields.specs.declared.kind.WireType.TheVariants as types
use Rattle.som_image_fields.specs.declared.method.WireMethod.{WireMethod}
use Rattle.som_image_fields.specs.Spelling.{FitsKind, FitsSomeRanges, most_classes}
use Rattle.som_image_fields.specs.declared.syntax.WireExpr.{WireExpr, out-WireExpr}
use Rattle.som_image_fields.specs.declared.syntax.WireExpr.TheOpen.{WireExpr-F}
use Rattle.som_image_fields.specs.declared.syntax.WireStmt.{WireStmt, out-WireStmt}
use Rattle.som_image_fields.specs.declared.syntax.WireStmt.TheOpen.{WireStmt-F}
use Rattle.som_image_fields.specs.declared.syntax.WireBlock.{WireBlock}
use Rattle.som_image_fields.specs.Fitting.{FitsArgs, FitsExprParts, FitsExpr, FitsCall, FitsStmtParts, FitsStatements, FitsStmt, FitsBlock, levels_left, FitsSomeExpr, FitsSomeExprParts, FitsSomeStmt, FitsSomeStmtParts, FitsSomeBlock}

pub kind_more : (c d : ℕ) (r s : Bool) → c ≤ d → (IsTrue r → IsTrue s) → (t : WireType) → FitsKind c r t → FitsKind d s t
kind_more c d r s le also types.Void fits = also fits
kind_more c d r s le also types.Long fits = tt
kind_more c d r s le also types.Boolean fits = tt
kind_more c d r s le also types.Str fits = tt
kind_more c d r s le also (types.Class k) fits = omega (arith, le, fits)

pub statements_more : (P Q : WireStmt → Type 0) → ((s : WireStmt) → P s → Q s) → (b : WireBlock) → FitsStatements P b → FitsStatements Q b
statements_more P Q more b fits = (fits.0, All-weaker P Q more b.statements fits.1)

module _ (c d : ℕ) (le : c ≤ d) (M N : WireMethod → Type 0) (method : (m : WireMethod) → M m → N m) where
  args_more : (I J : WireExpr → Type 0) → ((e : WireExpr) → I e → J e) → (es : List WireExpr) → FitsArgs I es → FitsArgs J es
  args_more I J inner es fits = (fits.0, fits.1, All-weaker I J inner es fits.2)

  pub expr_parts_more : (I J : WireExpr → Type 0) → ((e : WireExpr) → I e → J e) → (l : WireExpr-F WireExpr) → FitsExprParts c M I l → FitsExprParts d N J l
  expr_parts_more I J inner (WireExpr-F.Long z) fits = fits
  expr_parts_more I J inner (WireExpr-F.Str t) fits = fits
  expr_parts_more I J inner (WireExpr-F.Boolean b) fits = tt
  expr_parts_more I J inner WireExpr-F.Nil fits = tt
  expr_parts_more I J inner (WireExpr-F.Local n) fits = fits
  expr_parts_more I J inner WireExpr-F.Me fits = tt
  expr_parts_more I J inner (WireExpr-F.Variable n) fits = fits
  expr_parts_more I J inner (WireExpr-F.Unary op e) fits = (fits.0, inner e fits.1)
  expr_parts_more I J inner (WireExpr-F.Binary op a b) fits = (fits.0, inner a fits.1, inner b fits.2)
  expr_parts_more I J inner (WireExpr-F.New k) fits = omega (arith, le, fits)
  expr_parts_more I J inner (WireExpr-F.Class k) fits = omega (arith, le, fits)
  expr_parts_more I J inner WireExpr-F.Manager fits = tt
  expr_parts_more I J inner (WireExpr-F.Cast k e) fits = (omega (arith, le, fits.0), inner e fits.1)
  expr_parts_more I J inner (WireExpr-F.Isa k e) fits = (omega (arith, le, fits.0), inner e fits.1)
  expr_parts_more I J inner (WireExpr-F.Proxy k e) fits = (omega (arith, le, fits.0), inner e fits.1)
  expr_parts_more I J inner (WireExpr-F.OffsetCall m e es) fits = (method m fits.0, inner e fits.1, args_more I J inner es fits.2)
  expr_parts_more I J inner (WireExpr-F.Lookup t name e es) fits = (kind_more c d true true le (λ p. p) t fits.0, fits.1, inner e fits.2, args_more I J inner es fits.3)
  expr_parts_more I J inner (WireExpr-F.Dispatch t name e es) fits = (kind_more c d true true le (λ p. p) t fits.0, fits.1, inner e fits.2, args_more I J inner es fits.3)
  expr_parts_more I J inner (WireExpr-F.ParentCall n m es) fits = (fits.0, method m fits.1, args_more I J inner es fits.2)
  expr_parts_more I J inner (WireExpr-F.ParentsCall m es) fits = (method m fits.0, args_more I J inner es fits.1)
  expr_parts_more I J inner (WireExpr-F.Host code a b) fits = (inner a fits.0, inner b fits.1)

  pub stmt_parts_more : (I J : WireExpr → Type 0) → ((e : WireExpr) → I e → J e) → (C D : WireExpr → Type 0) → ((e : WireExpr) → C e → D e) → (B E : WireBlock → Type 0) → ((b : WireBlock) → B b → E b) → (l : WireStmt-F WireStmt WireBlock) → FitsStmtParts c I C B l → FitsStmtParts d J D E l
  stmt_parts_more I J inner C D call B E within (WireStmt-F.Var t e) fits = (kind_more c d false false le (λ p. p) t fits.0, inner e fits.1)
  stmt_parts_more I J inner C D call B E within (WireStmt-F.SetLocal n e) fits = (fits.0, inner e fits.1)
  stmt_parts_more I J inner C D call B E within (WireStmt-F.SetVariable n e) fits = (fits.0, inner e fits.1)
  stmt_parts_more I J inner C D call B E within (WireStmt-F.If e a b) fits = (inner e fits.0, within a fits.1, within b fits.2)
  stmt_parts_more I J inner C D call B E within (WireStmt-F.While e b) fits = (inner e fits.0, within b fits.1)
  stmt_parts_more I J inner C D call B E within WireStmt-F.Return fits = tt
  stmt_parts_more I J inner C D call B E within (WireStmt-F.ReturnValue e) fits = inner e fits
  stmt_parts_more I J inner C D call B E within (WireStmt-F.Print e) fits = inner e fits
  stmt_parts_more I J inner C D call B E within (WireStmt-F.Free e) fits = inner e fits
  stmt_parts_more I J inner C D call B E within (WireStmt-F.Call e) fits = call e fits

  expr_more : (left more : ℕ) → left ≤ more → (e : WireExpr) → FitsExpr left c M e → FitsExpr more d N e
  unfolding FitsExpr
  expr_more zero more most e fits = absurd fits
  expr_more (suc left) zero most e fits = absurd (omega (arith, most))
  expr_more (suc left) (suc more) most e fits = expr_parts_more (FitsExpr left c M) (FitsExpr more d N) (expr_more left more (omega (arith, most))) (out-WireExpr e) fits

  stmt_more : (left more : ℕ) → left ≤ more → (s : WireStmt) → FitsStmt left c M s → FitsStmt more d N s
  unfolding FitsStmt
  stmt_more zero more most s fits = absurd fits
  stmt_more (suc left) zero most s fits = absurd (omega (arith, most))
  stmt_more (suc left) (suc more) most s fits =
      let less : left ≤ more = omega (arith, most) in
      stmt_parts_more (FitsExpr left c M) (FitsExpr more d N) (expr_more left more less) (FitsCall left c M) (FitsCall more d N) (λ e f. (expr_more left more less e f.0, f.1))
      (FitsStatements (FitsStmt left c M)) (FitsStatements (FitsStmt more d N)) (statements_more (FitsStmt left c M) (FitsStmt more d N) (stmt_more left more less)) (out-WireStmt s) fits

  pub block_more : (left more : ℕ) → left ≤ more → (b : WireBlock) → FitsBlock left c M b → FitsBlock more d N b
  block_more left more most b fits = statements_more (FitsStmt left c M) (FitsStmt more d N) (stmt_more left more most) b fits

-- ---- what fits somewhere, by its parts

some_expr : (left : ℕ) (e : WireExpr) → FitsExpr left most_classes FitsSomeRanges e → FitsSomeExpr e
some_expr left e fits = record { left = left; fits = fits }

expr_parts : (left : ℕ) (e : WireExpr) → FitsExpr left most_classes FitsSomeRanges e → FitsSomeExprParts e
unfolding FitsExpr
expr_parts zero e fits = absurd fits
expr_parts (suc left) e fits = expr_parts_more most_classes most_classes (omega arith) FitsSomeRanges FitsSomeRanges (λ m p. p) (FitsExpr left most_classes FitsSomeRanges) FitsSomeExpr (some_expr left) (out-WireExpr e) fits

pub some_expr_parts : (e : WireExpr) → FitsSomeExpr e → FitsSomeExprParts e
some_expr_parts e fits = expr_parts fits.left e fits.fits

some_stmt : (left : ℕ) (s : WireStmt) → FitsStmt left most_classes FitsSomeRanges s → FitsSomeStmt s
some_stmt left s fits = record { left = left; fits = fits }

stmt_parts : (left : ℕ) (s : WireStmt) → FitsStmt left most_classes FitsSomeRanges s → FitsSomeStmtParts s
unfolding FitsStmt
stmt_parts zero s fits = absurd fits
stmt_parts (suc left) s fits = stmt_parts_more most_classes most_classes (omega arith) FitsSomeRanges FitsSomeRanges (λ m p. p) (FitsExpr left most_classes FitsSomeRanges) FitsSomeExpr (some_expr left) (FitsCall left most_classes FitsSomeRanges) FitsSomeExpr (λ e f. some_expr left e f.0)
    (FitsStatements (FitsStmt left most_classes FitsSomeRanges)) (FitsStatements FitsSomeStmt) (statements_more (FitsStmt left most_classes FitsSomeRanges) FitsSomeStmt (some_stmt left)) (out-WireStmt s) fits

pub some_stmt_parts : (s : WireStmt) → FitsSomeStmt s → FitsSomeStmtParts s
some_stmt_parts s fits = stmt_parts fits.left s fits.fits

pub some_block : (b : WireBlock) → FitsSomeBlock b → FitsStatements FitsSomeStmt b
some_block b fits = statements_more (FitsStmt (levels_left 1) most_classes FitsSomeRanges) FitsSomeStmt (some_stmt (levels_left 1)) b fits
