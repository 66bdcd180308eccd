-- What statements and blocks with names that have a spelling are named from.
use Rattle.std.proofs.Common.{◌≡◌, ℕ, zero, suc, ◌+◌, ◌≤◌, ◌^◌, List, [], ◌∷◌, length, map, Some, refl, sym, ap, subst, ◌∙◌, arith}
use Rattle.std.specs.Prelude.{nat_lt, IsTrue}
use Rattle.std.specs.Int.{w32, to_be_bytes}
use Rattle.std.proofs.lemmas.List.{length-map}
use Rattle.std.proofs.lemmas.Bool.{ltb-true}
use Rattle.som_model.specs.declared.limits.TheConstants.{MAX_NESTING}
use Rattle.som_model.specs.declared.key.ValueType.{ValueType}
use Rattle.som_model.specs.declared.syntax.Expr.{Expr}
use Rattle.som_model.specs.declared.syntax.Stmt.{Stmt, out-Stmt, roll-Stmt, roll-out-Stmt, fold-Stmt, map-Stmt, fold-roll-Stmt}
use Rattle.som_model.specs.declared.syntax.Stmt.TheOpen.{Stmt-F}
use Rattle.som_model.specs.declared.syntax.Block.{Block, fold-roll-Block}
use Rattle.som_model.specs.Blocks.{is_call}
use Rattle.som_model.specs.Class.{Class}
use Rattle.som_model.specs.Images as images
use Rattle.som_model.specs.Images.{Spelled, AtLevel, ◌then◌, each, tag, where_it_is, stmt_step, block_step}
use Rattle.som_image_fields.specs.Spelling.{FitsMethod}
use Rattle.som_image_fields.specs.declared.method.WireMethod.{WireMethod}
use Rattle.som_image_fields.specs.declared.syntax.WireExpr.{WireExpr, out-WireExpr}
use Rattle.som_image_fields.specs.declared.syntax.WireStmt.{WireStmt, roll-WireStmt, out-roll-WireStmt, map-WireStmt, fold-roll-WireStmt}
use Rattle.som_image_fields.specs.declared.syntax.WireStmt.TheOpen.{WireStmt-F}
use Rattle.som_image_fields.specs.declared.syntax.WireBlock.{WireBlock, fold-roll-WireBlock}
use Rattle.som_image_fields.specs.Fitting.{FitsExpr, calls, FitsStmtParts, FitsStmt, FitsBlock}
use Rattle.som_image_fields.specs.SyntaxSpelling as spelling
use Rattle.som_image_fields.proofs.Forms.{block_is}
use Rattle.som_image_decode.specs.declared.directory.Directory.{Directory}
use Rattle.som_image_decode.specs.Naming.{ranges_in, Tells}
use Rattle.som_image_decode.specs.NamedBlocks.{expr_named, stmt_named, stmt_named_step, block_named, block_named_step}
use Rattle.som_image_decode.proofs.Places.{all_of}
use Rattle.som_image_decode.proofs.Spelled.{bytes_are, split, guarded, From, Back, many_back}
use Rattle.som_image_decode.proofs.NamedKinds.{value_back}
use Rattle.som_image_decode.proofs.NamedLayers.{call_named, stmt_layer, stmt_is}
use Rattle.som_image_decode.proofs.BlockForms.{opened, join, byte_back, local_back, reached, each_map}
use Rattle.som_image_decode.proofs.ExprsBack.{ExprBack, expr_back}

module _ (d : Directory) (cs : List Class) (tells : Tells d cs) where
  abbrev classes : ℕ
  classes = length d.keys

  abbrev Method : WireMethod → Type 0
  Method m = FitsMethod (ranges_in d) m

  abbrev spelled_stmt : Stmt → AtLevel
  spelled_stmt = fold-Stmt AtLevel AtLevel (stmt_step cs) block_step

  abbrev at : ℕ → AtLevel → Spelled
  at level s = s level

  -- what a statement is named from, where so many levels are left
  abbrev StmtBack : ℕ → ℕ → Stmt → Type 0
  StmtBack left level s = Back (λ (x : Stmt). spelled_stmt x level) spelling.stmt (FitsStmt left classes Method) (stmt_named d) s

  abbrev pub BlockBack : ℕ → ℕ → Block → Type 0
  BlockBack left level b = Back (λ (x : Block). images.block cs x level) spelling.block (FitsBlock left classes Method) (block_named d) b

  abbrev a_block : List Stmt → Block
  a_block ss = record { statements = ss }

  blocks_back : (left level : ℕ) → ((s : Stmt) → StmtBack left level s) → (b : Block) → BlockBack left level b
  blocks_back left level one b bytes given =
      let ss : List Stmt = b.statements in
      let spell : Stmt → Spelled = λ s. spelled_stmt s level in
      let parts : List AtLevel = map spelled_stmt ss in
      let step : images.block cs b level ≡ where_it_is (nat_lt (length parts) (2 ^ 32)) (images.number w32 (length parts) then each (at level) parts) =
      ap (λ (f : AtLevel). f level) (fold-roll-Block AtLevel AtLevel (stmt_step cs) block_step (record { statements = ss })) in
      let g = guarded (nat_lt (length parts) (2 ^ 32)) (images.number w32 (length parts) then each (at level) parts) bytes (sym step ∙ given) in
      let s = split (images.number w32 (length parts)) (each (at level) parts) bytes g.1 in
      let every = all_of (StmtBack left level) one ss in
      let f = many_back spell spelling.stmt (stmt_named d) (FitsStmt left classes Method) ss every s.back (sym (each_map (at level) spelled_stmt ss) ∙ s.second) in
      let many : length f.it ≡ length parts = f.fits.0 ∙ sym (length-map ss spelled_stmt) in
      let count : to_be_bytes w32 (length f.it) ≡ s.front = ap (to_be_bytes w32) many ∙ bytes_are (to_be_bytes w32 (length parts)) s.front s.first in
      record {
        it = record { statements = f.it };
        spelled = block_is f.it ∙ join _ _ _ _ _ count f.spelled s.whole;
        fits = (omega (arith, many, ltb-true (length parts) (2 ^ 32) g.0), f.fits.1);
        names = fold-roll-WireBlock Stmt Block (stmt_named_step d) block_named_step (record { statements = f.it }) ∙ ap a_block f.names;
      }

  module _ (left level : ℕ) (inner : (e : Expr) → ExprBack d cs tells left (suc level) e) (within : (b : Block) → BlockBack left (suc level) b) where
    abbrev Inner : WireExpr → Type 0
    Inner e = FitsExpr left classes Method e

    abbrev CallFits : WireExpr → Type 0
    CallFits e = Inner e × IsTrue (calls (out-WireExpr e))

    call_back : (e : Expr) → Back (λ (x : Expr). where_it_is (is_call x) (images.expr cs x (suc level))) spelling.expr CallFits (expr_named d) e
    call_back e bytes given =
        let g = guarded (is_call e) (images.expr cs e (suc level)) bytes given in
        let w = inner e bytes g.1 in
        record { it = w.it; spelled = w.spelled; fits = (w.fits, sym (call_named d w.it) ∙ ap is_call w.names ∙ g.0); names = w.names }

    -- what the outermost part of a statement is named from
    abbrev FromLayer : Stmt-F Stmt Block → List ℕ → Type 0
    FromLayer layer bytes = From (λ (w : WireStmt-F WireStmt WireBlock). spelling.stmt_step (map-WireStmt WireStmt WireBlock (List ℕ) (List ℕ) spelling.stmt spelling.block w)) (FitsStmtParts classes Inner CallFits (FitsBlock left classes Method)) (stmt_layer d) layer bytes

    back_layer : (layer : Stmt-F Stmt Block) → (bytes : List ℕ) → stmt_step cs (map-Stmt Stmt Block AtLevel AtLevel spelled_stmt (images.block cs) layer) level ≡ Some bytes → FromLayer layer bytes
    back_layer (Stmt-F.Var t e) bytes given =
        let o = opened level 0x01 ((images.value_kind cs t) then (images.expr cs e (suc level))) bytes given in
        let s1 = split (images.value_kind cs t) (images.expr cs e (suc level)) o.back o.second in
        let u0 = value_back d cs tells t s1.front s1.first in
        let u1 = inner e s1.back s1.second in
        record { it = (WireStmt-F.Var u0.it u1.it); spelled = ap (λ (x : List ℕ). 0x01 ∷ x) (join _ _ _ _ _ u0.spelled u1.spelled s1.whole) ∙ o.whole; fits = (u0.fits, u1.fits); names = ap (λ (y : ValueType). Stmt-F.Var y (expr_named d u1.it)) u0.names ∙ ap (λ (y : Expr). Stmt-F.Var t y) u1.names }
    back_layer (Stmt-F.SetLocal n e) bytes given =
        let o = opened level 0x02 ((images.local n) then (images.expr cs e (suc level))) bytes given in
        let s1 = split (images.local n) (images.expr cs e (suc level)) o.back o.second in
        let u0 = local_back n s1.front s1.first in
        let u1 = inner e s1.back s1.second in
        record { it = (WireStmt-F.SetLocal n u1.it); spelled = ap (λ (x : List ℕ). 0x02 ∷ x) (join _ _ _ _ _ u0.0 u1.spelled s1.whole) ∙ o.whole; fits = (u0.1, u1.fits); names = ap (λ (y : Expr). Stmt-F.SetLocal n y) u1.names }
    back_layer (Stmt-F.SetVariable n e) bytes given =
        let o = opened level 0x03 ((images.byte n) then (images.expr cs e (suc level))) bytes given in
        let s1 = split (images.byte n) (images.expr cs e (suc level)) o.back o.second in
        let u0 = byte_back n s1.front s1.first in
        let u1 = inner e s1.back s1.second in
        record { it = (WireStmt-F.SetVariable n u1.it); spelled = ap (λ (x : List ℕ). 0x03 ∷ x) (join _ _ _ _ _ u0.0 u1.spelled s1.whole) ∙ o.whole; fits = (u0.1, u1.fits); names = ap (λ (y : Expr). Stmt-F.SetVariable n y) u1.names }
    back_layer (Stmt-F.If e a b) bytes given =
        let o = opened level 0x04 (((images.expr cs e (suc level)) then (images.block cs a (suc level))) then (images.block cs b (suc level))) bytes given in
        let s2 = split ((images.expr cs e (suc level)) then (images.block cs a (suc level))) (images.block cs b (suc level)) o.back o.second in
        let s1 = split (images.expr cs e (suc level)) (images.block cs a (suc level)) s2.front s2.first in
        let u0 = inner e s1.front s1.first in
        let u1 = within a s1.back s1.second in
        let u2 = within b s2.back s2.second in
        record { it = (WireStmt-F.If u0.it u1.it u2.it); spelled = ap (λ (x : List ℕ). 0x04 ∷ x) (join _ _ _ _ _ (join _ _ _ _ _ u0.spelled u1.spelled s1.whole) u2.spelled s2.whole) ∙ o.whole; fits = (u0.fits, u1.fits, u2.fits); names = ap (λ (y : Expr). Stmt-F.If y (block_named d u1.it) (block_named d u2.it)) u0.names ∙ ap (λ (y : Block). Stmt-F.If e y (block_named d u2.it)) u1.names ∙ ap (λ (y : Block). Stmt-F.If e a y) u2.names }
    back_layer (Stmt-F.While e b) bytes given =
        let o = opened level 0x05 ((images.expr cs e (suc level)) then (images.block cs b (suc level))) bytes given in
        let s1 = split (images.expr cs e (suc level)) (images.block cs b (suc level)) o.back o.second in
        let u0 = inner e s1.front s1.first in
        let u1 = within b s1.back s1.second in
        record { it = (WireStmt-F.While u0.it u1.it); spelled = ap (λ (x : List ℕ). 0x05 ∷ x) (join _ _ _ _ _ u0.spelled u1.spelled s1.whole) ∙ o.whole; fits = (u0.fits, u1.fits); names = ap (λ (y : Expr). Stmt-F.While y (block_named d u1.it)) u0.names ∙ ap (λ (y : Block). Stmt-F.While e y) u1.names }
    back_layer Stmt-F.Return bytes given =
        let o = opened level 0x06 (Some []) bytes given in
        record { it = WireStmt-F.Return; spelled = ap (λ (x : List ℕ). 0x06 ∷ x) (bytes_are [] o.back o.second) ∙ o.whole; fits = tt; names = refl }
    back_layer (Stmt-F.ReturnValue e) bytes given =
        let o = opened level 0x07 (images.expr cs e (suc level)) bytes given in
        let u0 = inner e o.back o.second in
        record { it = (WireStmt-F.ReturnValue u0.it); spelled = ap (λ (x : List ℕ). 0x07 ∷ x) u0.spelled ∙ o.whole; fits = u0.fits; names = ap (λ (y : Expr). Stmt-F.ReturnValue y) u0.names }
    back_layer (Stmt-F.Print e) bytes given =
        let o = opened level 0x08 (images.expr cs e (suc level)) bytes given in
        let u0 = inner e o.back o.second in
        record { it = (WireStmt-F.Print u0.it); spelled = ap (λ (x : List ℕ). 0x08 ∷ x) u0.spelled ∙ o.whole; fits = u0.fits; names = ap (λ (y : Expr). Stmt-F.Print y) u0.names }
    back_layer (Stmt-F.Free e) bytes given =
        let o = opened level 0x09 (images.expr cs e (suc level)) bytes given in
        let u0 = inner e o.back o.second in
        record { it = (WireStmt-F.Free u0.it); spelled = ap (λ (x : List ℕ). 0x09 ∷ x) u0.spelled ∙ o.whole; fits = u0.fits; names = ap (λ (y : Expr). Stmt-F.Free y) u0.names }
    back_layer (Stmt-F.Call e) bytes given =
        let o = opened level 0x0a (where_it_is (is_call e) (images.expr cs e (suc level))) bytes given in
        let u0 = call_back e o.back o.second in
        record { it = (WireStmt-F.Call u0.it); spelled = ap (λ (x : List ℕ). 0x0a ∷ x) u0.spelled ∙ o.whole; fits = u0.fits; names = ap (λ (y : Expr). Stmt-F.Call y) u0.names }

    pub whole_back : (layer : Stmt-F Stmt Block) → StmtBack (suc left) level (roll-Stmt layer)
    unfolding FitsStmt
    whole_back layer bytes given =
        let f = back_layer layer bytes (sym (ap (λ (f : AtLevel). f level) (fold-roll-Stmt AtLevel AtLevel (stmt_step cs) block_step layer)) ∙ given) in
        record {
          it = roll-WireStmt f.it;
          spelled = fold-roll-WireStmt (List ℕ) (List ℕ) spelling.stmt_step spelling.block_step f.it ∙ f.spelled;
          fits = subst (FitsStmtParts classes Inner CallFits (FitsBlock left classes Method)) (sym (out-roll-WireStmt f.it)) f.fits;
          names = stmt_is d f.it ∙ ap roll-Stmt f.names;
        }

  -- a statement that has a spelling is at no deeper level than may be
  stmt_low : (level : ℕ) (layer : Stmt-F AtLevel AtLevel) (bytes : List ℕ) → stmt_step cs layer level ≡ Some bytes → level ≤ MAX_NESTING
  stmt_low level (Stmt-F.Var t e) bytes given = reached level 0x01 _ bytes given
  stmt_low level (Stmt-F.SetLocal n e) bytes given = reached level 0x02 _ bytes given
  stmt_low level (Stmt-F.SetVariable n e) bytes given = reached level 0x03 _ bytes given
  stmt_low level (Stmt-F.If e a b) bytes given = reached level 0x04 _ bytes given
  stmt_low level (Stmt-F.While e b) bytes given = reached level 0x05 _ bytes given
  stmt_low level Stmt-F.Return bytes given = reached level 0x06 (Some []) bytes given
  stmt_low level (Stmt-F.ReturnValue e) bytes given = reached level 0x07 _ bytes given
  stmt_low level (Stmt-F.Print e) bytes given = reached level 0x08 _ bytes given
  stmt_low level (Stmt-F.Free e) bytes given = reached level 0x09 _ bytes given
  stmt_low level (Stmt-F.Call e) bytes given = reached level 0x0a _ bytes given

  stmt_is_low : (level : ℕ) (s : Stmt) (bytes : List ℕ) → spelled_stmt s level ≡ Some bytes → level ≤ MAX_NESTING
  stmt_is_low level s bytes given =
      stmt_low level (map-Stmt Stmt Block AtLevel AtLevel spelled_stmt (images.block cs) (out-Stmt s)) bytes
      (sym (ap (λ (f : AtLevel). f level) (ap spelled_stmt (sym (roll-out-Stmt s)) ∙ fold-roll-Stmt AtLevel AtLevel (stmt_step cs) block_step (out-Stmt s))) ∙ given)

  stmt_back : (left level : ℕ) → left + level ≡ suc MAX_NESTING → (s : Stmt) → StmtBack left level s
  stmt_back zero level sum s bytes given = let low = stmt_is_low level s bytes given in absurd (omega (arith, sum, low))
  stmt_back (suc left) level sum s bytes given =
      let deeper : left + suc level ≡ suc MAX_NESTING = omega (arith, sum) in
      subst (StmtBack (suc left) level) (roll-out-Stmt s)
      (whole_back left level (expr_back d cs tells left (suc level) deeper) (blocks_back left (suc level) (stmt_back left (suc level) deeper)) (out-Stmt s)) bytes given

  -- what a block is named from, where so many levels are left
  pub block_back : (left level : ℕ) → left + level ≡ suc MAX_NESTING → (b : Block) → BlockBack left level b
  block_back left level sum b = blocks_back left level (stmt_back left level sum) b
