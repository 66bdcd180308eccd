-- Statements and blocks with names are spelled as those with numbers are.
use Rattle.std.proofs.Common.{◌≡◌, ℕ, zero, suc, ◌+◌, ◌≤◌, ◌^◌, Bool, List, length, map, Some, refl, sym, ap, subst, ◌∙◌, arith}
use Rattle.std.specs.Prelude.{nat_lt, IsTrue}
use Rattle.std.specs.Int.{w32}
use Rattle.std.proofs.lemmas.Bool.{lt-ltb}
use Rattle.std.proofs.lemmas.List.{length-map}
use Rattle.std.proofs.lemmas.List.Elements.{recursion_from_All}
use Rattle.som_model.specs.declared.limits.TheConstants.{MAX_NESTING}
use Rattle.som_model.specs.declared.syntax.Stmt.{Stmt, fold-Stmt, map-Stmt, fold-roll-Stmt}
use Rattle.som_model.specs.declared.syntax.Block.{Block, fold-roll-Block}
use Rattle.som_model.specs.Blocks.{is_call}
use Rattle.som_model.specs.Class.{Class}
use Rattle.som_model.specs.Images as images
use Rattle.som_model.specs.Images.{Spelled, AtLevel, ◌then◌, each, where_it_is, stmt_step, block_step}
use Rattle.som_image_fields.specs.Spelling.{FitsMethod}
use Rattle.som_image_fields.specs.declared.method.WireMethod.{WireMethod}
use Rattle.som_image_fields.specs.declared.syntax.WireExpr.{WireExpr, out-WireExpr}
use Rattle.som_image_fields.specs.declared.syntax.WireStmt.{WireStmt, out-WireStmt, roll-WireStmt, roll-out-WireStmt, map-WireStmt, fold-roll-WireStmt}
use Rattle.som_image_fields.specs.declared.syntax.WireStmt.TheOpen.{WireStmt-F}
use Rattle.som_image_fields.specs.declared.syntax.WireBlock.{WireBlock, fold-roll-WireBlock}
use Rattle.som_image_fields.specs.Fitting.{FitsExpr, calls, FitsStmtParts, FitsStatements, FitsStmt, FitsBlock}
use Rattle.som_image_fields.specs.SyntaxSpelling as spelling
use Rattle.som_image_fields.proofs.Forms.{block_is}
use Rattle.som_image_decode.specs.declared.directory.Directory.{Directory}
use Rattle.som_image_decode.specs.Naming.{ranges_in, Tells, NoDoubles}
use Rattle.som_image_decode.specs.NamedBlocks.{expr_named, stmt_named, stmt_named_step, block_named, block_named_step}
use Rattle.som_image_decode.proofs.Places.{all_map}
use Rattle.som_image_decode.proofs.Spelled.{some_bytes, Forth, each_forth}
use Rattle.som_image_decode.proofs.NamedKinds.{value_forth}
use Rattle.som_image_decode.proofs.BlockForms.{tagged, two, byte_forth, local_forth, map_twice}
use Rattle.som_image_decode.proofs.NamedLayers.{call_named, stmt_layer, stmt_is}
use Rattle.som_image_decode.proofs.NamedExprs.{ExprForth, expr_forth}

module _ (d : Directory) (cs : List Class) (tells : Tells d cs) (single : NoDoubles d) where
  abbrev classes : ℕ
  classes = length d.keys

  abbrev Method : WireMethod → Type 0
  Method m = FitsMethod (ranges_in d) m

  abbrev spelled_stmt : Stmt → AtLevel
  spelled_stmt = fold-Stmt AtLevel AtLevel (stmt_step cs) block_step

  abbrev spelled_by : WireStmt → AtLevel
  spelled_by s = spelled_stmt (stmt_named d s)

  abbrev at : ℕ → AtLevel → Spelled
  at level s = s level

  -- a statement with numbers is spelled at a level as the one with names
  abbrev StmtForth : ℕ → WireStmt → Type 0
  StmtForth level s = spelled_by s level ≡ Some (spelling.stmt s)

  abbrev pub BlockForth : ℕ → WireBlock → Type 0
  BlockForth level b = images.block cs (block_named d b) level ≡ Some (spelling.block b)

  abbrev a_block : List Stmt → Block
  a_block ss = record { statements = ss }

  abbrev statements_at : ℕ → List AtLevel → Spelled
  statements_at level ss = where_it_is (nat_lt (length ss) (2 ^ 32)) (images.number w32 (length ss) then each (at level) ss)

  blocks_forth : (level : ℕ) (Fits : WireStmt → Type 0) → ((s : WireStmt) → Fits s → StmtForth level s) → (b : WireBlock) → FitsStatements Fits b → BlockForth level b
  blocks_forth level Fits one b fits =
      let ss : List WireStmt = b.statements in
      let every = all_map Fits (Forth (at level) spelling.stmt spelled_by) one ss (recursion_from_All Fits ss fits.1) in
      let many : length (map spelled_by ss) ≡ length ss = length-map ss spelled_by in
      ap (λ (x : Block). images.block cs x level) (fold-roll-WireBlock Stmt Block (stmt_named_step d) block_named_step (record { statements = ss }))
      ∙ ap (λ (f : AtLevel). f level) (fold-roll-Block AtLevel AtLevel (stmt_step cs) block_step (record { statements = map (stmt_named d) ss }))
      ∙ ap (statements_at level) (map_twice spelled_stmt (stmt_named d) ss)
      ∙ ap (λ (n : ℕ). where_it_is (nat_lt n (2 ^ 32)) (images.number w32 n then each (at level) (map spelled_by ss))) many
      ∙ ap (λ (x : Bool). where_it_is x (images.number w32 (length ss) then each (at level) (map spelled_by ss))) (lt-ltb (length ss) (2 ^ 32) fits.0)
      ∙ ap (λ (s : Spelled). images.number w32 (length ss) then s) (each_forth (at level) spelling.stmt spelled_by ss every)
      ∙ ap some_bytes (sym (block_is ss))

  module _ (level : ℕ) (low : level ≤ MAX_NESTING) (Inner : WireExpr → Type 0) (inner : (e : WireExpr) → Inner e → ExprForth d cs tells single (suc level) e) (Within : WireBlock → Type 0) (within : (b : WireBlock) → Within b → BlockForth (suc level) b) where
    call_forth : (e : WireExpr) → Inner e × IsTrue (calls (out-WireExpr e)) → where_it_is (is_call (expr_named d e)) (images.expr cs (expr_named d e) (suc level)) ≡ Some (spelling.expr e)
    call_forth e h = ap (λ (b : Bool). where_it_is b (images.expr cs (expr_named d e) (suc level))) (call_named d e ∙ h.1) ∙ inner e h.0

    abbrev CallFits : WireExpr → Type 0
    CallFits e = Inner e × IsTrue (calls (out-WireExpr e))

    forth_layer : (layer : WireStmt-F WireStmt WireBlock) → FitsStmtParts classes Inner CallFits Within layer
        → stmt_step cs (map-Stmt Stmt Block AtLevel AtLevel spelled_stmt (images.block cs) (stmt_layer d layer)) level ≡ Some (spelling.stmt_step (map-WireStmt WireStmt WireBlock (List ℕ) (List ℕ) spelling.stmt spelling.block layer))
    forth_layer (WireStmt-F.Var t e) h = tagged level 0x01 _ _ low (two _ _ _ _ (value_forth d cs tells single t h.0) (inner e h.1))
    forth_layer (WireStmt-F.SetLocal n e) h = tagged level 0x02 _ _ low (two _ _ _ _ (local_forth n h.0) (inner e h.1))
    forth_layer (WireStmt-F.SetVariable n e) h = tagged level 0x03 _ _ low (two _ _ _ _ (byte_forth n h.0) (inner e h.1))
    forth_layer (WireStmt-F.If e a b) h = tagged level 0x04 _ _ low (two _ _ _ _ (two _ _ _ _ (inner e h.0) (within a h.1)) (within b h.2))
    forth_layer (WireStmt-F.While e b) h = tagged level 0x05 _ _ low (two _ _ _ _ (inner e h.0) (within b h.1))
    forth_layer WireStmt-F.Return h = tagged level 0x06 _ _ low refl
    forth_layer (WireStmt-F.ReturnValue e) h = tagged level 0x07 _ _ low (inner e h)
    forth_layer (WireStmt-F.Print e) h = tagged level 0x08 _ _ low (inner e h)
    forth_layer (WireStmt-F.Free e) h = tagged level 0x09 _ _ low (inner e h)
    forth_layer (WireStmt-F.Call e) h = tagged level 0x0a _ _ low (call_forth e h)

    pub whole_forth : (layer : WireStmt-F WireStmt WireBlock) → FitsStmtParts classes Inner CallFits Within layer → StmtForth level (roll-WireStmt layer)
    whole_forth layer h =
        ap (λ (x : Stmt). spelled_stmt x level) (stmt_is d layer)
        ∙ ap (λ (f : AtLevel). f level) (fold-roll-Stmt AtLevel AtLevel (stmt_step cs) block_step (stmt_layer d layer))
        ∙ forth_layer layer h
        ∙ ap some_bytes (sym (fold-roll-WireStmt (List ℕ) (List ℕ) spelling.stmt_step spelling.block_step layer))

  stmt_forth : (left level : ℕ) → left + level ≡ suc MAX_NESTING → (s : WireStmt) → FitsStmt left classes Method s → StmtForth level s
  unfolding FitsStmt
  stmt_forth zero level sum s h = absurd h
  stmt_forth (suc left) level sum s h =
      let deeper : left + suc level ≡ suc MAX_NESTING = omega (arith, sum) in
      subst (StmtForth level) (roll-out-WireStmt s)
      (whole_forth level (omega (arith, sum)) (FitsExpr left classes Method) (expr_forth d cs tells single left (suc level) deeper)
      (FitsBlock left classes Method) (blocks_forth (suc level) (FitsStmt left classes Method) (stmt_forth left (suc level) deeper)) (out-WireStmt s) h)

  -- a block with numbers is spelled at a level as the one with names
  pub block_forth : (left level : ℕ) → left + level ≡ suc MAX_NESTING → (b : WireBlock) → FitsBlock left classes Method b → BlockForth level b
  block_forth left level sum b fits = blocks_forth level (FitsStmt left classes Method) (stmt_forth left level sum) b fits
