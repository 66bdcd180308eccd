-- What an expression with names that has a spelling is named from.
use Rattle.std.proofs.Common.{◌≡◌, ℕ, zero, suc, ◌+◌, ◌≤◌, List, [], ◌∷◌, length, map, Some, refl, sym, ap, subst, ◌∙◌, arith}
use Rattle.std.specs.Prelude.{nat_lt}
use Rattle.std.specs.Int.{w8}
use Rattle.som_model.specs.declared.limits.TheConstants.{MAX_NESTING, MAX_PARAMETERS}
use Rattle.som_model.specs.declared.key.ClassKey.{ClassKey}
use Rattle.som_model.specs.declared.key.MethodRef.{MethodRef}
use Rattle.som_model.specs.declared.key.ValueType.{ValueType}
use Rattle.som_model.specs.declared.syntax.Expr.{Expr, out-Expr, roll-Expr, roll-out-Expr, map-Expr, fold-roll-Expr}
use Rattle.som_model.specs.declared.syntax.Expr.TheOpen.{Expr-F}
use Rattle.som_model.specs.Class.{Class}
use Rattle.som_model.specs.Images as images
use Rattle.som_model.specs.Images.{Spelled, AtLevel, ◌then◌, tag, where_it_is, expr_step}
use Rattle.som_image_fields.specs.Spelling.{FitsMethod}
use Rattle.som_image_fields.specs.declared.method.WireMethod.{WireMethod}
use Rattle.som_image_fields.specs.declared.syntax.WireExpr.{WireExpr, roll-WireExpr, out-roll-WireExpr, map-WireExpr, fold-roll-WireExpr}
use Rattle.som_image_fields.specs.declared.syntax.WireExpr.TheOpen.{WireExpr-F}
use Rattle.som_image_fields.specs.Fitting.{FitsArgs, FitsExprParts, FitsExpr}
use Rattle.som_image_fields.specs.SyntaxSpelling as spelling
use Rattle.som_image_decode.specs.declared.directory.Directory.{Directory}
use Rattle.som_image_decode.specs.Naming.{ranges_in, Tells}
use Rattle.som_image_decode.specs.NamedBlocks.{expr_named}
use Rattle.som_image_decode.proofs.Places.{all_of}
use Rattle.som_image_decode.proofs.Spelled.{bytes_are, split, From, Back, counted_back, text_back}
use Rattle.som_image_decode.proofs.Numbers.{class_back, method_back}
use Rattle.som_image_decode.proofs.NamedKinds.{kind_back}
use Rattle.som_image_decode.proofs.NamedLayers.{expr_layer, expr_is}
use Rattle.som_image_decode.proofs.BlockForms.{truth_is, boolean_is, host_is, host_code, args_are, opened, join, byte_back, local_back, long_back, reached, tagged_back, operator_back, counted_map}

module _ (d : Directory) (cs : List Class) (tells : Tells d cs) where
  abbrev classes : ℕ
  classes = length d.keys

  abbrev Method : WireMethod → Type 0
  Method m = FitsMethod (ranges_in d) m

  -- what an expression is named from, where so many levels are left
  abbrev pub ExprBack : ℕ → ℕ → Expr → Type 0
  ExprBack left level e = Back (λ (x : Expr). images.expr cs x level) spelling.expr (FitsExpr left classes Method) (expr_named d) e

  module _ (left level : ℕ) (inner : (e : Expr) → ExprBack left (suc level) e) where
    abbrev Inner : WireExpr → Type 0
    Inner e = FitsExpr left classes Method e

    abbrev below : AtLevel → Spelled
    below s = s (suc level)

    abbrev spelled_below : Expr → Spelled
    spelled_below e = images.expr cs e (suc level)

    args_back : (es : List Expr) → Back (λ (xs : List Expr). images.args level (map (images.expr cs) xs)) (λ (ws : List WireExpr). spelling.args (map spelling.expr ws)) (FitsArgs Inner) (map (expr_named d)) es
    args_back es bytes e =
        let each = all_of (Back spelled_below spelling.expr Inner (expr_named d)) inner es in
        let f = counted_back spelled_below spelling.expr (expr_named d) Inner w8 0 MAX_PARAMETERS es (omega arith) each bytes (sym (counted_map w8 MAX_PARAMETERS below (images.expr cs) es) ∙ e) in
        record { it = f.it; spelled = args_are f.it ∙ f.spelled; fits = f.fits; names = f.names }

    -- what the outermost part of an expression is named from
    abbrev FromLayer : Expr-F Expr → List ℕ → Type 0
    FromLayer layer bytes = From (λ (w : WireExpr-F WireExpr). spelling.expr_step (map-WireExpr WireExpr (List ℕ) spelling.expr w)) (FitsExprParts classes Method Inner) (expr_layer d) layer bytes

    back_layer : (layer : Expr-F Expr) → (bytes : List ℕ) → expr_step cs (map-Expr Expr AtLevel (images.expr cs) layer) level ≡ Some bytes → FromLayer layer bytes
    back_layer (Expr-F.Long z) bytes given =
        let o = opened level 0x20 (images.long z) bytes given in
        let u0 = long_back z o.back o.second in
        record { it = (WireExpr-F.Long z); spelled = ap (λ (x : List ℕ). 0x20 ∷ x) u0.0 ∙ o.whole; fits = u0.1; names = refl }
    back_layer (Expr-F.Str t) bytes given =
        let o = opened level 0x21 (images.text t) bytes given in
        let u0 = text_back t o.back o.second in
        record { it = (WireExpr-F.Str t); spelled = ap (λ (x : List ℕ). 0x21 ∷ x) u0.0 ∙ o.whole; fits = u0.1; names = refl }
    back_layer (Expr-F.Boolean b) bytes given =
        let o = opened level 0x22 (tag (spelling.truth b)) bytes (sym (boolean_is cs level b) ∙ given) in
        let u0 = tagged_back (spelling.truth b) o.back (truth_is b) o.second in
        record { it = (WireExpr-F.Boolean b); spelled = ap (λ (x : List ℕ). 0x22 ∷ x) u0 ∙ o.whole; fits = tt; names = refl }
    back_layer Expr-F.Nil bytes given =
        let o = opened level 0x23 (Some []) bytes given in
        record { it = WireExpr-F.Nil; spelled = ap (λ (x : List ℕ). 0x23 ∷ x) (bytes_are [] o.back o.second) ∙ o.whole; fits = tt; names = refl }
    back_layer (Expr-F.Local n) bytes given =
        let o = opened level 0x24 (images.local n) bytes given in
        let u0 = local_back n o.back o.second in
        record { it = (WireExpr-F.Local n); spelled = ap (λ (x : List ℕ). 0x24 ∷ x) u0.0 ∙ o.whole; fits = u0.1; names = refl }
    back_layer Expr-F.Me bytes given =
        let o = opened level 0x25 (Some []) bytes given in
        record { it = WireExpr-F.Me; spelled = ap (λ (x : List ℕ). 0x25 ∷ x) (bytes_are [] o.back o.second) ∙ o.whole; fits = tt; names = refl }
    back_layer (Expr-F.Variable n) bytes given =
        let o = opened level 0x26 (images.byte n) bytes given in
        let u0 = byte_back n o.back o.second in
        record { it = (WireExpr-F.Variable n); spelled = ap (λ (x : List ℕ). 0x26 ∷ x) u0.0 ∙ o.whole; fits = u0.1; names = refl }
    back_layer (Expr-F.Unary op e) bytes given =
        let o = opened level 0x27 ((where_it_is (nat_lt op 4) (tag op)) then (images.expr cs e (suc level))) bytes given in
        let s1 = split (where_it_is (nat_lt op 4) (tag op)) (images.expr cs e (suc level)) o.back o.second in
        let u0 = operator_back 4 op s1.front (omega arith) s1.first in
        let u1 = inner e s1.back s1.second in
        record { it = (WireExpr-F.Unary op u1.it); spelled = ap (λ (x : List ℕ). 0x27 ∷ x) (join _ _ _ _ _ u0.0 u1.spelled s1.whole) ∙ o.whole; fits = (u0.1, u1.fits); names = ap (λ (y : Expr). Expr-F.Unary op y) u1.names }
    back_layer (Expr-F.Binary op a b) bytes given =
        let o = opened level 0x28 (((where_it_is (nat_lt op 14) (tag op)) then (images.expr cs a (suc level))) then (images.expr cs b (suc level))) bytes given in
        let s2 = split ((where_it_is (nat_lt op 14) (tag op)) then (images.expr cs a (suc level))) (images.expr cs b (suc level)) o.back o.second in
        let s1 = split (where_it_is (nat_lt op 14) (tag op)) (images.expr cs a (suc level)) s2.front s2.first in
        let u0 = operator_back 14 op s1.front (omega arith) s1.first in
        let u1 = inner a s1.back s1.second in
        let u2 = inner b s2.back s2.second in
        record { it = (WireExpr-F.Binary op u1.it u2.it); spelled = ap (λ (x : List ℕ). 0x28 ∷ x) (join _ _ _ _ _ (join _ _ _ _ _ u0.0 u1.spelled s1.whole) u2.spelled s2.whole) ∙ o.whole; fits = (u0.1, u1.fits, u2.fits); names = ap (λ (y : Expr). Expr-F.Binary op y (expr_named d u2.it)) u1.names ∙ ap (λ (y : Expr). Expr-F.Binary op a y) u2.names }
    back_layer (Expr-F.New k) bytes given =
        let o = opened level 0x29 (images.class cs k) bytes given in
        let u0 = class_back d cs tells k o.back o.second in
        record { it = (WireExpr-F.New u0.it); spelled = ap (λ (x : List ℕ). 0x29 ∷ x) u0.spelled ∙ o.whole; fits = u0.fits; names = ap (λ (y : ClassKey). Expr-F.New y) u0.names }
    back_layer (Expr-F.Class k) bytes given =
        let o = opened level 0x2a (images.class cs k) bytes given in
        let u0 = class_back d cs tells k o.back o.second in
        record { it = (WireExpr-F.Class u0.it); spelled = ap (λ (x : List ℕ). 0x2a ∷ x) u0.spelled ∙ o.whole; fits = u0.fits; names = ap (λ (y : ClassKey). Expr-F.Class y) u0.names }
    back_layer Expr-F.Manager bytes given =
        let o = opened level 0x2b (Some []) bytes given in
        record { it = WireExpr-F.Manager; spelled = ap (λ (x : List ℕ). 0x2b ∷ x) (bytes_are [] o.back o.second) ∙ o.whole; fits = tt; names = refl }
    back_layer (Expr-F.Cast k e) bytes given =
        let o = opened level 0x2c ((images.class cs k) then (images.expr cs e (suc level))) bytes given in
        let s1 = split (images.class cs k) (images.expr cs e (suc level)) o.back o.second in
        let u0 = class_back d cs tells k s1.front s1.first in
        let u1 = inner e s1.back s1.second in
        record { it = (WireExpr-F.Cast u0.it u1.it); spelled = ap (λ (x : List ℕ). 0x2c ∷ x) (join _ _ _ _ _ u0.spelled u1.spelled s1.whole) ∙ o.whole; fits = (u0.fits, u1.fits); names = ap (λ (y : ClassKey). Expr-F.Cast y (expr_named d u1.it)) u0.names ∙ ap (λ (y : Expr). Expr-F.Cast k y) u1.names }
    back_layer (Expr-F.Isa k e) bytes given =
        let o = opened level 0x2d ((images.class cs k) then (images.expr cs e (suc level))) bytes given in
        let s1 = split (images.class cs k) (images.expr cs e (suc level)) o.back o.second in
        let u0 = class_back d cs tells k s1.front s1.first in
        let u1 = inner e s1.back s1.second in
        record { it = (WireExpr-F.Isa u0.it u1.it); spelled = ap (λ (x : List ℕ). 0x2d ∷ x) (join _ _ _ _ _ u0.spelled u1.spelled s1.whole) ∙ o.whole; fits = (u0.fits, u1.fits); names = ap (λ (y : ClassKey). Expr-F.Isa y (expr_named d u1.it)) u0.names ∙ ap (λ (y : Expr). Expr-F.Isa k y) u1.names }
    back_layer (Expr-F.Proxy k e) bytes given =
        let o = opened level 0x2e ((images.class cs k) then (images.expr cs e (suc level))) bytes given in
        let s1 = split (images.class cs k) (images.expr cs e (suc level)) o.back o.second in
        let u0 = class_back d cs tells k s1.front s1.first in
        let u1 = inner e s1.back s1.second in
        record { it = (WireExpr-F.Proxy u0.it u1.it); spelled = ap (λ (x : List ℕ). 0x2e ∷ x) (join _ _ _ _ _ u0.spelled u1.spelled s1.whole) ∙ o.whole; fits = (u0.fits, u1.fits); names = ap (λ (y : ClassKey). Expr-F.Proxy y (expr_named d u1.it)) u0.names ∙ ap (λ (y : Expr). Expr-F.Proxy k y) u1.names }
    back_layer (Expr-F.OffsetCall r e es) bytes given =
        let o = opened level 0x2f (((images.method cs r) then (images.expr cs e (suc level))) then (images.args level (map (images.expr cs) es))) bytes given in
        let s2 = split ((images.method cs r) then (images.expr cs e (suc level))) (images.args level (map (images.expr cs) es)) o.back o.second in
        let s1 = split (images.method cs r) (images.expr cs e (suc level)) s2.front s2.first in
        let u0 = method_back d cs tells r s1.front s1.first in
        let u1 = inner e s1.back s1.second in
        let u2 = args_back es s2.back s2.second in
        record { it = (WireExpr-F.OffsetCall u0.it u1.it u2.it); spelled = ap (λ (x : List ℕ). 0x2f ∷ x) (join _ _ _ _ _ (join _ _ _ _ _ u0.spelled u1.spelled s1.whole) u2.spelled s2.whole) ∙ o.whole; fits = (u0.fits, u1.fits, u2.fits); names = ap (λ (y : MethodRef). Expr-F.OffsetCall y (expr_named d u1.it) (map (expr_named d) u2.it)) u0.names ∙ ap (λ (y : Expr). Expr-F.OffsetCall r y (map (expr_named d) u2.it)) u1.names ∙ ap (λ (y : List Expr). Expr-F.OffsetCall r e y) u2.names }
    back_layer (Expr-F.Lookup t name e es) bytes given =
        let o = opened level 0x30 ((((images.kind cs t) then (images.text name)) then (images.expr cs e (suc level))) then (images.args level (map (images.expr cs) es))) bytes given in
        let s3 = split (((images.kind cs t) then (images.text name)) then (images.expr cs e (suc level))) (images.args level (map (images.expr cs) es)) o.back o.second in
        let s2 = split ((images.kind cs t) then (images.text name)) (images.expr cs e (suc level)) s3.front s3.first in
        let s1 = split (images.kind cs t) (images.text name) s2.front s2.first in
        let u0 = kind_back d cs tells t s1.front s1.first in
        let u1 = text_back name s1.back s1.second in
        let u2 = inner e s2.back s2.second in
        let u3 = args_back es s3.back s3.second in
        record { it = (WireExpr-F.Lookup u0.it name u2.it u3.it); spelled = ap (λ (x : List ℕ). 0x30 ∷ x) (join _ _ _ _ _ (join _ _ _ _ _ (join _ _ _ _ _ u0.spelled u1.0 s1.whole) u2.spelled s2.whole) u3.spelled s3.whole) ∙ o.whole; fits = (u0.fits, u1.1, u2.fits, u3.fits); names = ap (λ (y : ValueType). Expr-F.Lookup y name (expr_named d u2.it) (map (expr_named d) u3.it)) u0.names ∙ ap (λ (y : Expr). Expr-F.Lookup t name y (map (expr_named d) u3.it)) u2.names ∙ ap (λ (y : List Expr). Expr-F.Lookup t name e y) u3.names }
    back_layer (Expr-F.Dispatch t name e es) bytes given =
        let o = opened level 0x31 ((((images.kind cs t) then (images.text name)) then (images.expr cs e (suc level))) then (images.args level (map (images.expr cs) es))) bytes given in
        let s3 = split (((images.kind cs t) then (images.text name)) then (images.expr cs e (suc level))) (images.args level (map (images.expr cs) es)) o.back o.second in
        let s2 = split ((images.kind cs t) then (images.text name)) (images.expr cs e (suc level)) s3.front s3.first in
        let s1 = split (images.kind cs t) (images.text name) s2.front s2.first in
        let u0 = kind_back d cs tells t s1.front s1.first in
        let u1 = text_back name s1.back s1.second in
        let u2 = inner e s2.back s2.second in
        let u3 = args_back es s3.back s3.second in
        record { it = (WireExpr-F.Dispatch u0.it name u2.it u3.it); spelled = ap (λ (x : List ℕ). 0x31 ∷ x) (join _ _ _ _ _ (join _ _ _ _ _ (join _ _ _ _ _ u0.spelled u1.0 s1.whole) u2.spelled s2.whole) u3.spelled s3.whole) ∙ o.whole; fits = (u0.fits, u1.1, u2.fits, u3.fits); names = ap (λ (y : ValueType). Expr-F.Dispatch y name (expr_named d u2.it) (map (expr_named d) u3.it)) u0.names ∙ ap (λ (y : Expr). Expr-F.Dispatch t name y (map (expr_named d) u3.it)) u2.names ∙ ap (λ (y : List Expr). Expr-F.Dispatch t name e y) u3.names }
    back_layer (Expr-F.ParentCall n r es) bytes given =
        let o = opened level 0x32 (((images.byte n) then (images.method cs r)) then (images.args level (map (images.expr cs) es))) bytes given in
        let s2 = split ((images.byte n) then (images.method cs r)) (images.args level (map (images.expr cs) es)) o.back o.second in
        let s1 = split (images.byte n) (images.method cs r) s2.front s2.first in
        let u0 = byte_back n s1.front s1.first in
        let u1 = method_back d cs tells r s1.back s1.second in
        let u2 = args_back es s2.back s2.second in
        record { it = (WireExpr-F.ParentCall n u1.it u2.it); spelled = ap (λ (x : List ℕ). 0x32 ∷ x) (join _ _ _ _ _ (join _ _ _ _ _ u0.0 u1.spelled s1.whole) u2.spelled s2.whole) ∙ o.whole; fits = (u0.1, u1.fits, u2.fits); names = ap (λ (y : MethodRef). Expr-F.ParentCall n y (map (expr_named d) u2.it)) u1.names ∙ ap (λ (y : List Expr). Expr-F.ParentCall n r y) u2.names }
    back_layer (Expr-F.ParentsCall r es) bytes given =
        let o = opened level 0x33 ((images.method cs r) then (images.args level (map (images.expr cs) es))) bytes given in
        let s1 = split (images.method cs r) (images.args level (map (images.expr cs) es)) o.back o.second in
        let u0 = method_back d cs tells r s1.front s1.first in
        let u1 = args_back es s1.back s1.second in
        record { it = (WireExpr-F.ParentsCall u0.it u1.it); spelled = ap (λ (x : List ℕ). 0x33 ∷ x) (join _ _ _ _ _ u0.spelled u1.spelled s1.whole) ∙ o.whole; fits = (u0.fits, u1.fits); names = ap (λ (y : MethodRef). Expr-F.ParentsCall y (map (expr_named d) u1.it)) u0.names ∙ ap (λ (y : List Expr). Expr-F.ParentsCall r y) u1.names }
    back_layer (Expr-F.Host code a b) bytes given =
        let o = opened level 0x34 (((tag (spelling.host code)) then (images.expr cs a (suc level))) then (images.expr cs b (suc level))) bytes (sym (host_is cs level code (images.expr cs a) (images.expr cs b)) ∙ given) in
        let s2 = split ((tag (spelling.host code)) then (images.expr cs a (suc level))) (images.expr cs b (suc level)) o.back o.second in
        let s1 = split (tag (spelling.host code)) (images.expr cs a (suc level)) s2.front s2.first in
        let u0 = tagged_back (spelling.host code) s1.front (host_code code) s1.first in
        let u1 = inner a s1.back s1.second in
        let u2 = inner b s2.back s2.second in
        record { it = (WireExpr-F.Host code u1.it u2.it); spelled = ap (λ (x : List ℕ). 0x34 ∷ x) (join _ _ _ _ _ (join _ _ _ _ _ u0 u1.spelled s1.whole) u2.spelled s2.whole) ∙ o.whole; fits = (u1.fits, u2.fits); names = ap (λ (y : Expr). Expr-F.Host code y (expr_named d u2.it)) u1.names ∙ ap (λ (y : Expr). Expr-F.Host code a y) u2.names }

    pub whole_back : (layer : Expr-F Expr) → ExprBack (suc left) level (roll-Expr layer)
    unfolding FitsExpr
    whole_back layer bytes given =
        let f = back_layer layer bytes (sym (ap (λ (f : AtLevel). f level) (fold-roll-Expr AtLevel (expr_step cs) layer)) ∙ given) in
        record {
          it = roll-WireExpr f.it;
          spelled = fold-roll-WireExpr (List ℕ) spelling.expr_step f.it ∙ f.spelled;
          fits = subst (FitsExprParts classes Method Inner) (sym (out-roll-WireExpr f.it)) f.fits;
          names = expr_is d f.it ∙ ap roll-Expr f.names;
        }

  -- an expression that has a spelling is at no deeper level than may be
  expr_low : (level : ℕ) (layer : Expr-F AtLevel) (bytes : List ℕ) → expr_step cs layer level ≡ Some bytes → level ≤ MAX_NESTING
  expr_low level (Expr-F.Long z) bytes given = reached level 0x20 _ bytes given
  expr_low level (Expr-F.Str t) bytes given = reached level 0x21 _ bytes given
  expr_low level (Expr-F.Boolean b) bytes given = reached level 0x22 (tag (spelling.truth b)) bytes (sym (boolean_is cs level b) ∙ given)
  expr_low level Expr-F.Nil bytes given = reached level 0x23 (Some []) bytes given
  expr_low level (Expr-F.Local n) bytes given = reached level 0x24 _ bytes given
  expr_low level Expr-F.Me bytes given = reached level 0x25 (Some []) bytes given
  expr_low level (Expr-F.Variable n) bytes given = reached level 0x26 _ bytes given
  expr_low level (Expr-F.Unary op e) bytes given = reached level 0x27 _ bytes given
  expr_low level (Expr-F.Binary op a b) bytes given = reached level 0x28 _ bytes given
  expr_low level (Expr-F.New k) bytes given = reached level 0x29 _ bytes given
  expr_low level (Expr-F.Class k) bytes given = reached level 0x2a _ bytes given
  expr_low level Expr-F.Manager bytes given = reached level 0x2b (Some []) bytes given
  expr_low level (Expr-F.Cast k e) bytes given = reached level 0x2c _ bytes given
  expr_low level (Expr-F.Isa k e) bytes given = reached level 0x2d _ bytes given
  expr_low level (Expr-F.Proxy k e) bytes given = reached level 0x2e _ bytes given
  expr_low level (Expr-F.OffsetCall r e es) bytes given = reached level 0x2f _ bytes given
  expr_low level (Expr-F.Lookup t name e es) bytes given = reached level 0x30 _ bytes given
  expr_low level (Expr-F.Dispatch t name e es) bytes given = reached level 0x31 _ bytes given
  expr_low level (Expr-F.ParentCall n r es) bytes given = reached level 0x32 _ bytes given
  expr_low level (Expr-F.ParentsCall r es) bytes given = reached level 0x33 _ bytes given
  expr_low level (Expr-F.Host code a b) bytes given = reached level 0x34 _ bytes (sym (host_is cs level code a b) ∙ given)

  expr_is_low : (level : ℕ) (e : Expr) (bytes : List ℕ) → images.expr cs e level ≡ Some bytes → level ≤ MAX_NESTING
  expr_is_low level e bytes given =
      expr_low level (map-Expr Expr AtLevel (images.expr cs) (out-Expr e)) bytes
      (sym (ap (λ (f : AtLevel). f level) (ap (images.expr cs) (sym (roll-out-Expr e)) ∙ fold-roll-Expr AtLevel (expr_step cs) (out-Expr e))) ∙ given)

  pub expr_back : (left level : ℕ) → left + level ≡ suc MAX_NESTING → (e : Expr) → ExprBack left level e
  expr_back zero level sum e bytes given = let low = expr_is_low level e bytes given in absurd (omega (arith, sum, low))
  expr_back (suc left) level sum e bytes given =
      subst (ExprBack (suc left) level) (roll-out-Expr e) (whole_back left level (expr_back left (suc level) (omega (arith, sum))) (out-Expr e)) bytes given
