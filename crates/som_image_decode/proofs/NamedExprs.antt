-- Expressions with names are spelled as those with numbers are.
use Rattle.std.proofs.Common.{◌≡◌, ℕ, zero, suc, ◌+◌, ◌≤◌, List, length, map, Some, refl, sym, ap, subst, ◌∙◌, arith}
use Rattle.std.specs.Int.{w8}
use Rattle.std.proofs.lemmas.List.Elements.{recursion_from_All}
use Rattle.som_model.specs.declared.limits.TheConstants.{MAX_NESTING, MAX_PARAMETERS}
use Rattle.som_model.specs.declared.syntax.Expr.{Expr, map-Expr, fold-roll-Expr}
use Rattle.som_model.specs.Class.{Class}
use Rattle.som_model.specs.Images as images
use Rattle.som_model.specs.Images.{Spelled, AtLevel, ◌then◌, tag, at_level, expr_step}
use Rattle.som_image_fields.specs.Spelling.{FitsMethod}
use Rattle.som_image_fields.specs.declared.method.WireMethod.{WireMethod}
use Rattle.som_image_fields.specs.declared.syntax.WireExpr.{WireExpr, out-WireExpr, roll-WireExpr, roll-out-WireExpr, map-WireExpr, fold-roll-WireExpr}
use Rattle.som_image_fields.specs.declared.syntax.WireExpr.TheOpen.{WireExpr-F}
use Rattle.som_image_fields.specs.Fitting.{FitsArgs, FitsExprParts, FitsExpr}
use Rattle.som_image_fields.specs.SyntaxSpelling as spelling
use Rattle.som_image_decode.specs.declared.directory.Directory.{Directory}
use Rattle.som_image_decode.specs.Naming.{ranges_in, Tells, NoDoubles}
use Rattle.som_image_decode.specs.NamedBlocks.{expr_named}
use Rattle.som_image_decode.proofs.Places.{all_map}
use Rattle.som_image_decode.proofs.Spelled.{some_bytes, Forth, counted_forth, text_forth}
use Rattle.som_image_decode.proofs.Numbers.{class_forth, method_forth}
use Rattle.som_image_decode.proofs.NamedKinds.{kind_forth}
use Rattle.som_image_decode.proofs.NamedLayers.{expr_layer, expr_is}
use Rattle.som_image_decode.proofs.BlockForms.{tagged, two, byte_forth, local_forth, long_forth, operator_is, truth_is, boolean_is, host_is, host_code, map_twice, args_are}

module _ (d : Directory) (cs : List Class) (tells : Tells d cs) (single : NoDoubles d) where
  abbrev classes : ℕ
  classes = length d.keys

  abbrev Method : WireMethod → Type 0
  Method m = FitsMethod (ranges_in d) m

  -- an expression with numbers is spelled at a level as the one with names
  abbrev pub ExprForth : ℕ → WireExpr → Type 0
  ExprForth level e = images.expr cs (expr_named d e) level ≡ Some (spelling.expr e)

  abbrev spelled_by : WireExpr → AtLevel
  spelled_by e = images.expr cs (expr_named d e)

  abbrev below : ℕ → AtLevel → Spelled
  below level s = s (suc level)

  module _ (level : ℕ) (low : level ≤ MAX_NESTING) (Inner : WireExpr → Type 0) (inner : (e : WireExpr) → Inner e → ExprForth (suc level) e) where
    args_forth : (es : List WireExpr) → FitsArgs Inner es → images.args level (map (images.expr cs) (map (expr_named d) es)) ≡ Some (spelling.args (map spelling.expr es))
    args_forth es fits =
        let each = all_map Inner (Forth (below level) spelling.expr spelled_by) inner es (recursion_from_All Inner es fits.2) in
        ap (λ (ss : List AtLevel). images.args level ss) (map_twice (images.expr cs) (expr_named d) es)
        ∙ counted_forth (below level) spelling.expr spelled_by w8 MAX_PARAMETERS es fits.1 each
        ∙ ap some_bytes (sym (args_are es))

    forth_layer : (layer : WireExpr-F WireExpr) → FitsExprParts classes Method Inner layer
        → expr_step cs (map-Expr Expr AtLevel (images.expr cs) (expr_layer d layer)) level ≡ Some (spelling.expr_step (map-WireExpr WireExpr (List ℕ) spelling.expr layer))
    forth_layer (WireExpr-F.Long z) h = tagged level 0x20 _ _ low (long_forth z h)
    forth_layer (WireExpr-F.Str t) h = tagged level 0x21 _ _ low (text_forth t h)
    forth_layer (WireExpr-F.Boolean b) h = boolean_is cs level b ∙ tagged level 0x22 _ _ low (truth_is b)
    forth_layer WireExpr-F.Nil h = tagged level 0x23 _ _ low refl
    forth_layer (WireExpr-F.Local n) h = tagged level 0x24 _ _ low (local_forth n h)
    forth_layer WireExpr-F.Me h = tagged level 0x25 _ _ low refl
    forth_layer (WireExpr-F.Variable n) h = tagged level 0x26 _ _ low (byte_forth n h)
    forth_layer (WireExpr-F.Unary op e) h = tagged level 0x27 _ _ low (two _ _ _ _ (operator_is 4 op h.0 (omega arith)) (inner e h.1))
    forth_layer (WireExpr-F.Binary op a b) h = tagged level 0x28 _ _ low (two _ _ _ _ (two _ _ _ _ (operator_is 14 op h.0 (omega arith)) (inner a h.1)) (inner b h.2))
    forth_layer (WireExpr-F.New c) h = tagged level 0x29 _ _ low (class_forth d cs tells single c h)
    forth_layer (WireExpr-F.Class c) h = tagged level 0x2a _ _ low (class_forth d cs tells single c h)
    forth_layer WireExpr-F.Manager h = tagged level 0x2b _ _ low refl
    forth_layer (WireExpr-F.Cast c e) h = tagged level 0x2c _ _ low (two _ _ _ _ (class_forth d cs tells single c h.0) (inner e h.1))
    forth_layer (WireExpr-F.Isa c e) h = tagged level 0x2d _ _ low (two _ _ _ _ (class_forth d cs tells single c h.0) (inner e h.1))
    forth_layer (WireExpr-F.Proxy c e) h = tagged level 0x2e _ _ low (two _ _ _ _ (class_forth d cs tells single c h.0) (inner e h.1))
    forth_layer (WireExpr-F.OffsetCall m e es) h = tagged level 0x2f _ _ low (two _ _ _ _ (two _ _ _ _ (method_forth d cs tells single m h.0) (inner e h.1)) (args_forth es h.2))
    forth_layer (WireExpr-F.Lookup t name e es) h = tagged level 0x30 _ _ low (two _ _ _ _ (two _ _ _ _ (two _ _ _ _ (kind_forth d cs tells single t h.0) (text_forth name h.1)) (inner e h.2)) (args_forth es h.3))
    forth_layer (WireExpr-F.Dispatch t name e es) h = tagged level 0x31 _ _ low (two _ _ _ _ (two _ _ _ _ (two _ _ _ _ (kind_forth d cs tells single t h.0) (text_forth name h.1)) (inner e h.2)) (args_forth es h.3))
    forth_layer (WireExpr-F.ParentCall n m es) h = tagged level 0x32 _ _ low (two _ _ _ _ (two _ _ _ _ (byte_forth n h.0) (method_forth d cs tells single m h.1)) (args_forth es h.2))
    forth_layer (WireExpr-F.ParentsCall m es) h = tagged level 0x33 _ _ low (two _ _ _ _ (method_forth d cs tells single m h.0) (args_forth es h.1))
    forth_layer (WireExpr-F.Host code a b) h = host_is cs level code (images.expr cs (expr_named d a)) (images.expr cs (expr_named d b)) ∙ tagged level 0x34 _ _ low (two _ _ _ _ (two _ _ _ _ (host_code code) (inner a h.0)) (inner b h.1))

    pub whole_forth : (layer : WireExpr-F WireExpr) → FitsExprParts classes Method Inner layer → ExprForth level (roll-WireExpr layer)
    whole_forth layer h =
        ap (λ (x : Expr). images.expr cs x level) (expr_is d layer)
        ∙ ap (λ (f : AtLevel). f level) (fold-roll-Expr AtLevel (expr_step cs) (expr_layer d layer))
        ∙ forth_layer layer h
        ∙ ap some_bytes (sym (fold-roll-WireExpr (List ℕ) spelling.expr_step layer))

  -- an expression with numbers for which there are levels enough is spelled as the one with names
  pub expr_forth : (left level : ℕ) → left + level ≡ suc MAX_NESTING → (e : WireExpr) → FitsExpr left classes Method e → ExprForth level e
  unfolding FitsExpr
  expr_forth zero level sum e h = absurd h
  expr_forth (suc left) level sum e h =
      subst (ExprForth level) (roll-out-WireExpr e)
      (whole_forth level (omega (arith, sum)) (FitsExpr left classes Method) (expr_forth left (suc level) (omega (arith, sum))) (out-WireExpr e) h)
