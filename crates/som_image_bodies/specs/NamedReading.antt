-- How statements and expressions with names are read at a place, where so many levels are left: as those with numbers are, with what each number stands for.
use Rattle.std.specs.Prelude.{ℕ, zero, suc, ◌==◌, true, false, if◌then◌else◌, List, Result, Err}
use Rattle.std.specs.Int.{w8, w16, w32}
use Rattle.som_model.specs.declared.limits.TheConstants.{MAX_PARAMETERS}
use Rattle.som_model.specs.Steps.{◌>>=◌}
use Rattle.som_model.specs.declared.syntax.Expr.{Expr}
use Rattle.som_model.specs.declared.syntax.Expr.TheVariants as exprs
use Rattle.som_model.specs.declared.syntax.Stmt.{Stmt}
use Rattle.som_model.specs.declared.syntax.Stmt.TheVariants as stmts
use Rattle.som_model.specs.declared.syntax.Block.{Block}
use Rattle.som_image_fields.specs.declared.fault.ImageFault.{ImageFault}
use Rattle.som_image_fields.specs.declared.fault.ImageFault.TheVariants as faults
use Rattle.som_image_fields.specs.declared.read.Read.{Read}
use Rattle.som_image_fields.specs.declared.method.Ranges.{Ranges}
use Rattle.som_image_fields.specs.declared.method.WireMethod.{WireMethod}
use Rattle.som_image_fields.specs.declared.kind.WireType.{WireType}
use Rattle.som_image_fields.specs.Fields.{done, many_at, counted_at}
use Rattle.som_image_fields.specs.Reading.{number_at, text_at, below_at, kind_at, method_at}
use Rattle.som_image_decode.specs.declared.directory.Directory.{Directory}
use Rattle.som_image_decode.specs.Naming.{key_at, kind_named, method_named}
use Rattle.som_wire.specs.Making.{Reads, of_one, of_two, of_three, of_four}
use Rattle.som_wire.specs.Reading.{operator_at, signed_at, truth_at, host_at, too_deep, is_expr_tag, is_call_tag, is_stmt_tag}

-- ---- what is made of numbers and of parts with names

abbrev pub new_of : Directory → ℕ → Expr
new_of d c = exprs.New (key_at d.keys c)

abbrev pub class_of : Directory → ℕ → Expr
class_of d c = exprs.Class (key_at d.keys c)

abbrev pub cast_of : Directory → ℕ → Expr → Expr
cast_of d c e = exprs.Cast (key_at d.keys c) e

abbrev pub isa_of : Directory → ℕ → Expr → Expr
isa_of d c e = exprs.Isa (key_at d.keys c) e

abbrev pub proxy_of : Directory → ℕ → Expr → Expr
proxy_of d c e = exprs.Proxy (key_at d.keys c) e

abbrev pub offset_call_of : Directory → WireMethod → Expr → List Expr → Expr
offset_call_of d m e es = exprs.OffsetCall (method_named d m) e es

abbrev pub lookup_of : Directory → WireType → List ℕ → Expr → List Expr → Expr
lookup_of d t name e es = exprs.Lookup (kind_named d.keys t) name e es

abbrev pub dispatch_of : Directory → WireType → List ℕ → Expr → List Expr → Expr
dispatch_of d t name e es = exprs.Dispatch (kind_named d.keys t) name e es

abbrev pub parent_call_of : Directory → ℕ → WireMethod → List Expr → Expr
parent_call_of d n m es = exprs.ParentCall n (method_named d m) es

abbrev pub parents_call_of : Directory → WireMethod → List Expr → Expr
parents_call_of d m es = exprs.ParentsCall (method_named d m) es

abbrev pub var_of : Directory → WireType → Expr → Stmt
var_of d t e = stmts.Var (kind_named d.keys t) e

-- ---- expressions

abbrev pub named_args_at : Reads Expr → Reads (List Expr)
named_args_at inner bytes = counted_at (number_at w8 bytes) 0 MAX_PARAMETERS (inner bytes)

-- what follows the tag of a call of parents' methods
abbrev pub named_parent_call_after : Directory → Ranges → Reads Expr → List ℕ → ℕ → Read ℕ → Result (Read Expr) ImageFault
named_parent_call_after d ranges inner bytes place tag =
    if tag.value == 0x32 then of_three (number_at w8) (method_at ranges) (named_args_at inner) (parent_call_of d) bytes tag.next else
    if tag.value == 0x33 then of_two (method_at ranges) (named_args_at inner) (parents_call_of d) bytes tag.next else
    Err (faults.Tag place)

-- what follows the tag of a call by name, or of a parent's method
abbrev pub named_lookup_after : Directory → Ranges → Reads Expr → List ℕ → ℕ → Read ℕ → Result (Read Expr) ImageFault
named_lookup_after d ranges inner bytes place tag =
    if tag.value == 0x30 then of_four (kind_at ranges.classes true) text_at inner (named_args_at inner) (lookup_of d) bytes tag.next else
    if tag.value == 0x31 then of_four (kind_at ranges.classes true) text_at inner (named_args_at inner) (dispatch_of d) bytes tag.next else
    named_parent_call_after d ranges inner bytes place tag

-- what follows the tag of a call
abbrev pub named_call_after : Directory → Ranges → Reads Expr → List ℕ → ℕ → Read ℕ → Result (Read Expr) ImageFault
named_call_after d ranges inner bytes place tag =
    if tag.value == 0x2f then of_three (method_at ranges) inner (named_args_at inner) (offset_call_of d) bytes tag.next else
    named_lookup_after d ranges inner bytes place tag

-- what follows the tag of two operands, or of a call
abbrev pub named_pair_after : Directory → Ranges → Reads Expr → List ℕ → ℕ → Read ℕ → Result (Read Expr) ImageFault
named_pair_after d ranges inner bytes place tag =
    if tag.value == 0x28 then of_three (operator_at 14) inner inner exprs.Binary bytes tag.next else
    if tag.value == 0x34 then of_three host_at inner inner exprs.Host bytes tag.next else
    named_call_after d ranges inner bytes place tag

-- what follows the tag of a class and an operand, of two operands, or of a call
abbrev pub named_class_form_after : Directory → Ranges → Reads Expr → List ℕ → ℕ → Read ℕ → Result (Read Expr) ImageFault
named_class_form_after d ranges inner bytes place tag =
    if tag.value == 0x2c then of_two (below_at ranges.classes) inner (cast_of d) bytes tag.next else
    if tag.value == 0x2d then of_two (below_at ranges.classes) inner (isa_of d) bytes tag.next else
    if tag.value == 0x2e then of_two (below_at ranges.classes) inner (proxy_of d) bytes tag.next else
    named_pair_after d ranges inner bytes place tag

-- what follows the tag of one operand, of two, or of a call
abbrev pub named_operation_after : Directory → Ranges → Reads Expr → List ℕ → ℕ → Read ℕ → Result (Read Expr) ImageFault
named_operation_after d ranges inner bytes place tag =
    if tag.value == 0x27 then of_two (operator_at 4) inner exprs.Unary bytes tag.next else
    named_class_form_after d ranges inner bytes place tag

-- what follows the tag of an expression
abbrev pub named_expr_after : Directory → Ranges → Reads Expr → List ℕ → ℕ → Read ℕ → Result (Read Expr) ImageFault
named_expr_after d ranges inner bytes place tag =
    if tag.value == 0x20 then of_one signed_at exprs.Long bytes tag.next else
    if tag.value == 0x21 then of_one text_at exprs.Str bytes tag.next else
    if tag.value == 0x22 then of_one truth_at exprs.Boolean bytes tag.next else
    if tag.value == 0x23 then done exprs.Nil tag.next else
    if tag.value == 0x24 then of_one (number_at w16) exprs.Local bytes tag.next else
    if tag.value == 0x25 then done exprs.Me tag.next else
    if tag.value == 0x26 then of_one (number_at w8) exprs.Variable bytes tag.next else
    if tag.value == 0x29 then of_one (below_at ranges.classes) (new_of d) bytes tag.next else
    if tag.value == 0x2a then of_one (below_at ranges.classes) (class_of d) bytes tag.next else
    if tag.value == 0x2b then done exprs.Manager tag.next else
    named_operation_after d ranges inner bytes place tag

-- an expression, where so many levels are left
unfoldable pub named_expr_at : Directory → ℕ → Ranges → Reads Expr
named_expr_at d zero ranges bytes place = too_deep is_expr_tag bytes place
named_expr_at d (suc left) ranges bytes place = number_at w8 bytes place >>= named_expr_after d ranges (named_expr_at d left ranges) bytes place

-- a call, where so many levels are left
unfoldable pub named_call_at : Directory → ℕ → Ranges → Reads Expr
named_call_at d zero ranges bytes place = too_deep is_call_tag bytes place
named_call_at d (suc left) ranges bytes place = number_at w8 bytes place >>= named_call_after d ranges (named_expr_at d left ranges) bytes place

-- ---- statements

-- the number of statements, and the statements
abbrev pub named_statements_at : Reads Stmt → Reads Block
named_statements_at one bytes place = do
  count ← number_at w32 bytes place
  statements ← many_at (one bytes) count.value count.next
  done (record { statements = statements.value }) statements.next

-- what follows the tag of a statement with blocks
abbrev pub named_flow_after : Reads Expr → Reads Block → List ℕ → ℕ → Read ℕ → Result (Read Stmt) ImageFault
named_flow_after inner block bytes place tag =
    if tag.value == 0x04 then of_three inner block block stmts.If bytes tag.next else
    if tag.value == 0x05 then of_two inner block stmts.While bytes tag.next else
    Err (faults.Tag place)

-- what follows the tag of a statement that stands alone, or has blocks
abbrev pub named_plain_after : Reads Expr → Reads Expr → Reads Block → List ℕ → ℕ → Read ℕ → Result (Read Stmt) ImageFault
named_plain_after inner call block bytes place tag =
    if tag.value == 0x06 then done stmts.Return tag.next else
    if tag.value == 0x07 then of_one inner stmts.ReturnValue bytes tag.next else
    if tag.value == 0x08 then of_one inner stmts.Print bytes tag.next else
    if tag.value == 0x09 then of_one inner stmts.Free bytes tag.next else
    if tag.value == 0x0a then of_one call stmts.Call bytes tag.next else
    named_flow_after inner block bytes place tag

-- what follows the tag of a statement
abbrev pub named_stmt_after : Directory → Ranges → Reads Expr → Reads Expr → Reads Block → List ℕ → ℕ → Read ℕ → Result (Read Stmt) ImageFault
named_stmt_after d ranges inner call block bytes place tag =
    if tag.value == 0x01 then of_two (kind_at ranges.classes false) inner (var_of d) bytes tag.next else
    if tag.value == 0x02 then of_two (number_at w16) inner stmts.SetLocal bytes tag.next else
    if tag.value == 0x03 then of_two (number_at w8) inner stmts.SetVariable bytes tag.next else
    named_plain_after inner call block bytes place tag

-- a statement, where so many levels are left
unfoldable pub named_stmt_at : Directory → ℕ → Ranges → Reads Stmt
named_stmt_at d zero ranges bytes place = too_deep is_stmt_tag bytes place
named_stmt_at d (suc left) ranges bytes place = number_at w8 bytes place >>= named_stmt_after d ranges (named_expr_at d left ranges) (named_call_at d left ranges) (named_statements_at (named_stmt_at d left ranges)) bytes place
