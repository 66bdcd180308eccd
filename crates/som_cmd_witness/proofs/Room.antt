-- A client image has room for the client that shows a breach.
use Rattle.std.proofs.Common.{◌≡◌, ℕ, zero, suc, ◌+◌, ◌<◌, ◌≤◌, ◌^◌, Bool, true, false, if◌then◌else◌, ◌==◌, List, [], ◌∷◌, ◌++◌, length, Option, Some, None, refl, sym, ap, ◌∙◌, subst, arith, codes}
use Rattle.std.specs.Prelude.{All, pos, slice_get, unwrap_or}
use Rattle.std.specs.Fmt.{decimal}
use Rattle.std.specs.List.{AllByRecursion}
use Rattle.std.proofs.lemmas.Fmt.{length-decimal-le}
use Rattle.std.proofs.lemmas.List.{length-append, length-map}
use Rattle.std.proofs.lemmas.List.Elements.{All-from_recursion}
use Rattle.som_model.specs.declared.limits.TheConstants.{MAX_LIBRARY_CLASSES, MAX_PARAMETERS}
use Rattle.som_model.specs.declared.key.ClassKey.{ClassKey}
use Rattle.som_model.specs.declared.key.MethodRef.{MethodRef}
use Rattle.som_model.specs.declared.key.ValueType.{ValueType}
use Rattle.som_model.specs.declared.key.ValueType.TheVariants as types
use Rattle.som_model.specs.declared.syntax.Block.{Block}
use Rattle.som_model.specs.declared.syntax.Expr.{Expr, out-Expr, roll-Expr, out-roll-Expr}
use Rattle.som_model.specs.declared.syntax.Expr.TheOpen.{Expr-F}
use Rattle.som_model.specs.declared.syntax.Expr.TheVariants as exprs
use Rattle.som_model.specs.declared.syntax.Stmt.{Stmt, out-Stmt, roll-Stmt, out-roll-Stmt}
use Rattle.som_model.specs.declared.syntax.Stmt.TheOpen.{Stmt-F}
use Rattle.som_model.specs.declared.syntax.Stmt.TheVariants as stmts
use Rattle.som_model.specs.declared.class.Body.TheVariants as bodies
use Rattle.som_model.specs.declared.class.Entry.{Entry}
use Rattle.som_model.specs.declared.class.Entry.TheVariants as entries
use Rattle.som_model.specs.declared.class.Override.{Override}
use Rattle.som_model.specs.declared.class.Sig.{Sig}
use Rattle.som_model.specs.declared.class.Variable.{Variable}
use Rattle.som_model.specs.declared.class.Way.TheVariants as ways
use Rattle.som_model.specs.declared.program.Interface.{Interface}
use Rattle.som_model.specs.Class.{Class}
use Rattle.som_model.specs.Classes.{ancestors, class_at}
use Rattle.som_model.specs.Compatible.{CompatBreach, release_of, signature}
use Rattle.som_model.specs.Kernel.{som_object}
use Rattle.som_model.specs.Lists.{among}
use Rattle.som_model.specs.Owner.{introduces}
use Rattle.som_model.specs.Rules.{is_void}
use Rattle.som_model.specs.Same.{same_type}
use Rattle.som_image_fields.specs.Fitting.{levels_left}
use Rattle.som_image_decode.specs.BlockLimits.{BlockWithin, ExprPartsWithin, ExprWithin, StatementsWithin, StmtPartsWithin, StmtWithin, TextWithin}
use Rattle.som_image_classes.specs.ClassLimits.{BodyWithin, ClassWithin, EntryWithin, FaceWithin}
use Rattle.som_cliimage.specs.Limits.{IsWithinLimits}
use Rattle.som_witness.specs.Program.{call_on_c, class_names, free_from, numbered_w, plain_below, sig_g, variable_v, w_class, w_face, w_name, with_g, with_override, witness_program, zero_value, zero_values, zero_values_with}
use Rattle.som_witness.specs.Showings.{Change, Showing, StandsBelow, KeepsObject, Overrides, CallsSlot, Calls, Passes, KeepsParameter, ReturnsNothing, ReturnsVariable, ReturnsAnswer, ReturnsClass, change_showing, changed_showing, first_change, fits_among, metaclass_in, params_of, showing_of, slot_showing, told_class, told_method}
use Rattle.som_witness_programs.specs.Conditions.{AreFew}

-- ---- expressions and statements, by how many levels are left

expr_of : (left : ℕ) (e : Expr) (layer : Expr-F Expr) → roll-Expr layer ≡ e → ExprPartsWithin (ExprWithin left) layer → ExprWithin (suc left) e
unfolding ExprWithin
expr_of left e layer rolls parts = subst (ExprPartsWithin (ExprWithin left)) (sym (ap out-Expr (sym rolls) ∙ out-roll-Expr layer)) parts

stmt_of : (left : ℕ) (s : Stmt) (layer : Stmt-F Stmt Block) → roll-Stmt layer ≡ s → StmtPartsWithin (ExprWithin left) (StatementsWithin (StmtWithin left)) layer → StmtWithin (suc left) s
unfolding StmtWithin
stmt_of left s layer rolls parts = subst (StmtPartsWithin (ExprWithin left) (StatementsWithin (StmtWithin left))) (sym (ap out-Stmt (sym rolls) ∙ out-roll-Stmt layer)) parts

module _ (left : ℕ) where
  local_in : (n : ℕ) → n < 2 ^ 16 → ExprWithin (suc left) (exprs.Local n)
  local_in n lt = expr_of left (exprs.Local n) (Expr-F.Local n) (exprs.rolls-Local n) lt

  variable_in : ExprWithin (suc left) (exprs.Variable 0)
  variable_in = expr_of left (exprs.Variable 0) (Expr-F.Variable 0) (exprs.rolls-Variable 0) (omega arith)

  class_in : (k : ClassKey) → ExprWithin (suc left) (exprs.Class k)
  class_in k = expr_of left (exprs.Class k) (Expr-F.Class k) (exprs.rolls-Class k) tt

  nil_in : ExprWithin (suc left) exprs.Nil
  nil_in = expr_of left exprs.Nil Expr-F.Nil exprs.rolls-Nil tt

  zero_in : (t : ValueType) → ExprWithin (suc left) (zero_value t)
  zero_in types.Void = nil_in
  zero_in types.Long = expr_of left (exprs.Long (pos 0)) (Expr-F.Long (pos 0)) (exprs.rolls-Long (pos 0)) (record { sfits = omega arith })
  zero_in types.Boolean = expr_of left (exprs.Boolean false) (Expr-F.Boolean false) (exprs.rolls-Boolean false) tt
  zero_in types.Str = expr_of left (exprs.Str []) (Expr-F.Str []) (exprs.rolls-Str []) (omega arith)
  zero_in (types.Class k) = nil_in

  zeros_in : (ts : List ValueType) → AllByRecursion (ExprWithin (suc left)) (zero_values ts)
  zeros_in [] = tt
  zeros_in (t ∷ ts) = (zero_in t, zeros_in ts)

  with_in : (n : ℕ) (ts : List ValueType) → AllByRecursion (ExprWithin (suc left)) (zero_values_with n ts)
  with_in n [] = tt
  with_in zero (t ∷ ts) = (local_in 1 (omega arith), zeros_in ts)
  with_in (suc n) (t ∷ ts) = (zero_in t, with_in n ts)

with_many : (n : ℕ) (ts : List ValueType) → length (zero_values_with n ts) ≡ length ts
with_many n [] = refl
with_many zero (t ∷ ts) = let e = length-map ts zero_value in omega (arith, e)
with_many (suc n) (t ∷ ts) = let e = with_many n ts in omega (arith, e)

call_in : (left : ℕ) (m : MethodRef) (es : List Expr) → length es ≤ MAX_PARAMETERS → AllByRecursion (ExprWithin (suc left)) es → ExprWithin (suc (suc left)) (call_on_c m es)
call_in left m es few all =
    expr_of (suc left) (call_on_c m es) (Expr-F.OffsetCall m (exprs.Local 0) es) (exprs.rolls-OffsetCall m (exprs.Local 0) es)
    (local_in left 0 (omega arith), (few, All-from_recursion (ExprWithin (suc left)) es all))

zero_call : (left : ℕ) (m : MethodRef) (ts : List ValueType) → length ts ≤ MAX_PARAMETERS → ExprWithin (suc (suc left)) (call_on_c m (zero_values ts))
zero_call left m ts few = call_in left m (zero_values ts) (let e = length-map ts zero_value in omega (arith, e, few)) (zeros_in left ts)

-- ---- bodies

no_statements : BlockWithin (record { statements = [] })
no_statements = (omega arith, All-from_recursion (StmtWithin (levels_left 1)) [] tt)

one_statement : (s : Stmt) → StmtWithin (levels_left 1) s → BlockWithin (record { statements = s ∷ [] })
one_statement s w = (omega arith, All-from_recursion (StmtWithin (levels_left 1)) (s ∷ []) (w, tt))

-- v is set to the local of this number
set_in : (n : ℕ) → n < 2 ^ 16 → BlockWithin (record { statements = stmts.SetVariable 0 (exprs.Local n) ∷ [] })
set_in n lt =
    one_statement (stmts.SetVariable 0 (exprs.Local n))
    (stmt_of 31 (stmts.SetVariable 0 (exprs.Local n)) (Stmt-F.SetVariable 0 (exprs.Local n)) (stmts.rolls-SetVariable 0 (exprs.Local n)) (omega arith, local_in 30 n lt))

call_stmt_in : (e : Expr) → ExprWithin 31 e → BlockWithin (record { statements = stmts.Call e ∷ [] })
call_stmt_in e w = one_statement (stmts.Call e) (stmt_of 31 (stmts.Call e) (Stmt-F.Call e) (stmts.rolls-Call e) w)

answer_in : (e : Expr) → ExprWithin 31 e → BlockWithin (record { statements = stmts.ReturnValue e ∷ [] })
answer_in e w = one_statement (stmts.ReturnValue e) (stmt_of 31 (stmts.ReturnValue e) (Stmt-F.ReturnValue e) (stmts.rolls-ReturnValue e) w)

return_in : BlockWithin (record { statements = stmts.Return ∷ [] })
return_in = one_statement stmts.Return (stmt_of 31 stmts.Return Stmt-F.Return stmts.rolls-Return tt)

-- ---- W

none_in : {A : Type 0} (P : A → Type 0) → All P []
none_in P = All-from_recursion P [] tt

one_in : {A : Type 0} (P : A → Type 0) (x : A) → P x → All P (x ∷ [])
one_in P x p = All-from_recursion P (x ∷ []) (p, tt)

abbrev IsShort : List ℕ → Type 0
IsShort name = length name ≤ 255

-- a class with one parent, and as many entries as these
face_in : (name : List ℕ) (parent : ClassKey) (es : List Entry) → IsShort name → length es ≤ 1 → All EntryWithin es → FaceWithin (w_face name parent es)
face_in name parent es short few all = record {
  name = omega (arith, short);
  major = omega arith;
  minor = omega arith;
  some_parent = omega arith;
  parents = omega arith;
  entries = omega (arith, few);
  each_entry = all;
}

abbrev IsNamed : Variable → Type 0
IsNamed v = TextWithin v.name

v_in : (kind : ValueType) → All IsNamed (variable_v kind)
v_in kind = one_in IsNamed (record { name = codes "v"; kind = kind }) (omega arith)

below_in : (name : List ℕ) (parent : ClassKey) → IsShort name → ClassWithin (plain_below name parent)
below_in name parent short = record {
  face = face_in name parent [] short (omega arith) (none_in EntryWithin);
  variables = omega arith;
  each_variable = none_in IsNamed;
  each_body = none_in BodyWithin;
  overrides = omega arith;
  each_override = none_in (λ (o : Override). BlockWithin o.block);
  selects = omega arith;
}

g_in : (name : List ℕ) (sig : Sig) (variables : List Variable) (body : List Stmt) → IsShort name → length sig.params ≤ 2 → length variables ≤ 1 → All IsNamed variables → BlockWithin (record { statements = body })
    → ClassWithin (with_g name sig variables body)
g_in name sig variables body short params few named block = record {
  face = face_in name som_object (entries.Introduced (codes "g") sig ways.Offset ∷ []) short (omega arith) (one_in EntryWithin (entries.Introduced (codes "g") sig ways.Offset) (omega arith, omega (arith, params)));
  variables = omega (arith, few);
  each_variable = named;
  each_body = one_in BodyWithin (bodies.User (record { statements = body })) block;
  overrides = omega arith;
  each_override = none_in (λ (o : Override). BlockWithin o.block);
  selects = omega arith;
}

override_in : (name : List ℕ) (m : MethodRef) (variables : List Variable) (body : List Stmt) → IsShort name → length variables ≤ 1 → All IsNamed variables → BlockWithin (record { statements = body })
    → ClassWithin (with_override name m variables body)
override_in name m variables body short few named block = record {
  face = face_in name m.class [] short (omega arith) (none_in EntryWithin);
  variables = omega (arith, few);
  each_variable = named;
  each_body = none_in BodyWithin;
  overrides = omega arith;
  each_override = one_in (λ (o : Override). BlockWithin o.block) (record { method = m; block = record { statements = body } }) block;
  selects = omega arith;
}

-- what a way in which W shows a breach has to keep
abbrev HasRoom : Showing → Type 0
HasRoom StandsBelow = Unit {0}
HasRoom (KeepsObject a) = Unit {0}
HasRoom (Overrides params) = Unit {0}
HasRoom (CallsSlot params) = length params ≤ MAX_PARAMETERS
HasRoom (Calls params) = length params ≤ MAX_PARAMETERS
HasRoom (Passes params j kind) = length params ≤ MAX_PARAMETERS
HasRoom (KeepsParameter params j kind) = j < 2 ^ 16
HasRoom (ReturnsNothing params) = Unit {0}
HasRoom (ReturnsVariable params kind) = Unit {0}
HasRoom (ReturnsAnswer params kind) = length params ≤ MAX_PARAMETERS
HasRoom (ReturnsClass k) = Unit {0}

w_in : (name : List ℕ) (m : MethodRef) (s : Showing) → IsShort name → HasRoom s → ClassWithin (w_class name m s)
w_in name m StandsBelow short room = below_in name m.class short
w_in name m (KeepsObject a) short room =
    g_in name (sig_g types.Void (types.Class m.class ∷ [])) (variable_v (types.Class a)) (stmts.SetVariable 0 (exprs.Local 0) ∷ []) short (omega arith) (omega arith) (v_in (types.Class a)) (set_in 0 (omega arith))
w_in name m (Overrides params) short room = override_in name m [] [] short (omega arith) (none_in IsNamed) no_statements
w_in name m (CallsSlot params) short room =
    g_in name (sig_g types.Void (types.Class m.class ∷ [])) [] (stmts.Call (call_on_c m (zero_values params)) ∷ []) short (omega arith) (omega arith) (none_in IsNamed) (call_stmt_in (call_on_c m (zero_values params)) (zero_call 29 m params room))
w_in name m (Calls params) short room =
    g_in name (sig_g types.Void (types.Class m.class ∷ [])) [] (stmts.Call (call_on_c m (zero_values params)) ∷ []) short (omega arith) (omega arith) (none_in IsNamed) (call_stmt_in (call_on_c m (zero_values params)) (zero_call 29 m params room))
w_in name m (Passes params j kind) short room =
    g_in name (sig_g types.Void (types.Class m.class ∷ kind ∷ [])) [] (stmts.Call (call_on_c m (zero_values_with j params)) ∷ []) short (omega arith) (omega arith) (none_in IsNamed)
    (call_stmt_in (call_on_c m (zero_values_with j params)) (call_in 29 m (zero_values_with j params) (let e = with_many j params in omega (arith, e, room)) (with_in 29 j params)))
w_in name m (KeepsParameter params j kind) short room = override_in name m (variable_v kind) (stmts.SetVariable 0 (exprs.Local j) ∷ []) short (omega arith) (v_in kind) (set_in j room)
w_in name m (ReturnsNothing params) short room = override_in name m [] (stmts.Return ∷ []) short (omega arith) (none_in IsNamed) return_in
w_in name m (ReturnsVariable params kind) short room =
    override_in name m (variable_v kind) (stmts.ReturnValue (exprs.Variable 0) ∷ []) short (omega arith) (v_in kind) (answer_in (exprs.Variable 0) (variable_in 30))
w_in name m (ReturnsAnswer params kind) short room =
    g_in name (sig_g kind (types.Class m.class ∷ [])) [] (stmts.ReturnValue (call_on_c m (zero_values params)) ∷ []) short (omega arith) (omega arith) (none_in IsNamed) (answer_in (call_on_c m (zero_values params)) (zero_call 29 m params room))
w_in name m (ReturnsClass k) short room =
    g_in name (sig_g (types.Class k) []) [] (stmts.ReturnValue (exprs.Class m.class) ∷ []) short (omega arith) (omega arith) (none_in IsNamed) (answer_in (exprs.Class m.class) (class_in 30 m.class))

-- ---- which way is taken

either : (x : Bool) (a b : Showing) → HasRoom a → HasRoom b → HasRoom (if x then a else b)
either true a b h k = h
either false a b h k = k

abbrev place_by : Bool → ℕ → ValueType → ValueType → Option Change → Option Change
place_by same n s t rest = if same then rest else Some (record { place = n; old_type = s; new_type = t })

same_change : (c d : Change) → Some c ≡ Some d → c ≡ d
same_change c d e = cc

placed_by : (n : ℕ) (s t : ValueType) (ss : List ValueType) (rest : Option Change) (d : Change) → (rest ≡ Some d → d.place < suc n + length ss) → (same : Bool) → place_by same n s t rest ≡ Some d → d.place < n + length (s ∷ ss)
placed_by n s t ss rest d more true f = let lt = more f in omega (arith, lt)
placed_by n s t ss rest d more false f = let is = ap (λ (c : Change). c.place) (same_change (record { place = n; old_type = s; new_type = t }) d f) in omega (arith, is)

-- a change is at the place of a parameter
placed : (n : ℕ) (ss ts : List ValueType) (d : Change) → first_change n ss ts ≡ Some d → d.place < n + length ss
placed n [] ts d e = absurd cc
placed n (s ∷ ss) [] d e = absurd cc
placed n (s ∷ ss) (t ∷ ts) d e = placed_by n s t ss (first_change (suc n) ss ts) d (placed (suc n) ss ts d) (same_type s t) e

change_room : (news : List Class) (s t : Sig) (o : Option Change) → ((d : Change) → o ≡ Some d → d.place < 2 ^ 16) → length s.params ≤ MAX_PARAMETERS → HasRoom (change_showing news s t o)
change_room news s t (Some d) low le = either (fits_among news d.new_type d.old_type) (KeepsParameter s.params d.place d.old_type) (Passes s.params d.place d.old_type) (low d refl) le
change_room news s t None low le =
    let second = if fits_among news s.result t.result then ReturnsVariable s.params s.result else ReturnsAnswer s.params s.result in
    either (is_void s.result) (ReturnsNothing s.params) second tt (either (fits_among news s.result t.result) (ReturnsVariable s.params s.result) (ReturnsAnswer s.params s.result) tt le)

low_place : (s t : Sig) → length s.params ≤ MAX_PARAMETERS → (d : Change) → first_change 0 s.params t.params ≡ Some d → d.place < 2 ^ 16
low_place s t le d e = let lt = placed 0 s.params t.params d e in omega (arith, lt, le)

changed_room : (news : List Class) (o n : Option Sig) → ((s : Sig) → o ≡ Some s → length s.params ≤ MAX_PARAMETERS) → HasRoom (changed_showing news o n)
changed_room news None n h = omega arith
changed_room news (Some s) None h = h s refl
changed_room news (Some s) (Some t) h =
    let le = h s refl in
    either (length s.params == length t.params) (change_showing news s t (first_change 0 s.params t.params)) (Calls s.params) (change_room news s t (first_change 0 s.params t.params) (low_place s t le) le) le

params_few : (o : Option Sig) → ((s : Sig) → o ≡ Some s → length s.params ≤ MAX_PARAMETERS) → length (params_of o) ≤ MAX_PARAMETERS
params_few None h = omega arith
params_few (Some s) h = h s refl

showing_room : (old new : Interface) (b : CompatBreach) → AreFew (release_of old) → HasRoom (showing_of old new b)
unfolding showing_of
showing_room old new b few =
    let m = told_method b in
    let o = signature (release_of old) m.class m.name in
    let h = few.by m.class m.name in
    let slot = either (introduces (release_of old) m.name m.class) (Overrides (params_of o)) (CallsSlot (params_of o)) tt (params_few o h) in
    let change = changed_room (release_of new) o (signature (release_of new) m.class m.name) h in
    let c = told_class b in
    let showing4 = slot_showing (introduces (release_of old) m.name m.class) (params_of o) in
    let showing5 = changed_showing (release_of new) o (signature (release_of new) m.class m.name) in
    let last = ReturnsClass (metaclass_in (class_at (release_of old) c)) in
    let from5 = if b.rule == 5 then showing5 else last in
    let from4 = if b.rule == 4 then showing4 else from5 in
    let object = KeepsObject (unwrap_or (slice_get (ancestors (release_of old) c) b.place) c) in
    let from3 = if b.rule == 3 then object else from4 in
    either (b.rule == 1) StandsBelow from3 tt (either (b.rule == 3) object from4 tt (either (b.rule == 4) showing4 from5 slot (either (b.rule == 5) showing5 last change tt)))

-- ---- W's name

digits : (n : ℕ) → n < 2 ^ 64 → length (decimal n) ≤ 20
digits n lt = length-decimal-le 20 n (omega arith) (omega (arith, lt)) lt

w_short : (n : ℕ) → n < 2 ^ 64 → IsShort (numbered_w n)
w_short n lt = omega (arith, length-append (codes "W") (decimal n), digits n lt)

free_by : (names : List (List ℕ)) (left n : ℕ) (b : Bool) → free_from names left (suc n) ≤ suc n + left → (if b then free_from names left (suc n) else n) ≤ n + suc left
free_by names left n true le = omega (arith, le)
free_by names left n false le = omega arith

-- no more numbers are tried than are left
free_low : (names : List (List ℕ)) (left n : ℕ) → free_from names left n ≤ n + left
free_low names zero n = omega arith
free_low names (suc left) n = free_by names left n (among (numbered_w n) names) (free_low names left (suc n))

name_short : (old : Interface) → length old.classes ≤ MAX_LIBRARY_CLASSES → IsShort (w_name old)
unfolding w_name
name_short old few =
    let le = free_low (class_names old) (length old.classes) 0 in
    w_short (free_from (class_names old) (length old.classes) 0) (omega (arith, le, few))

-- ---- the program

pub program_within : (old new : Interface) (b : CompatBreach) → length old.classes ≤ MAX_LIBRARY_CLASSES → All FaceWithin old.classes → AreFew (release_of old) → IsWithinLimits (witness_program old new b)
unfolding witness_program
program_within old new b few faces params = record {
  faces = few;
  each_face = faces;
  classes = omega arith;
  each_class = one_in ClassWithin (w_class (w_name old) (told_method b) (showing_of old new b)) (w_in (w_name old) (told_method b) (showing_of old new b) (name_short old few) (showing_room old new b params));
  main = no_statements;
}
