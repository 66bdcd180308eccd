-- How expressions, statements, blocks and parts are read at a place, where so many levels are left: each field in order, and the first fault.
use Rattle.std.specs.Prelude.{ℕ, ℤ, zero, suc, ◌-◌, ◌==◌, nat_lt, nat_le, ◌&&◌, ◌||◌, Bool, true, false, if◌then◌else◌, List, [], ◌∷◌, Result, Ok, Err}
use Rattle.std.specs.Int.{w8, w16, w32, cast_signed}
use Rattle.som_model.specs.declared.limits.TheConstants.{MAX_PARAMETERS, MAX_VARIABLES, MAX_OVERRIDES, MAX_SELECTS}
use Rattle.som_model.specs.declared.syntax.HostCode.{HostCode}
use Rattle.som_model.specs.declared.syntax.HostCode.TheVariants as hosts
use Rattle.som_model.specs.Steps.{◌>>=◌}
use Rattle.som_image_fields.specs.declared.fault.ImageFault.{ImageFault}
use Rattle.som_image_fields.specs.declared.fault.ImageFault.TheVariants as faults
use Rattle.som_image_fields.specs.declared.read.Read.{Read}
use Rattle.som_image_fields.specs.declared.method.Ranges.{Ranges}
use Rattle.som_image_fields.specs.Fields.{done, many_at, counted_at}
use Rattle.som_image_fields.specs.Reading.{number_at, text_at, below_at, kind_at, method_at}
use Rattle.som_image_fields.specs.declared.syntax.WireVariable.{WireVariable}
use Rattle.som_image_fields.specs.declared.syntax.WireBody.{WireBody}
use Rattle.som_image_fields.specs.declared.syntax.WireBody.TheVariants as bodies
use Rattle.som_image_fields.specs.declared.syntax.WireOverride.{WireOverride}
use Rattle.som_image_fields.specs.declared.syntax.WirePart.{WirePart}
use Rattle.som_image_fields.specs.declared.selects.WireSelect.{WireSelect}
use Rattle.som_image_fields.specs.declared.selects.WireSelects.{WireSelects}
use Rattle.som_image_fields.specs.declared.syntax.WireExpr.{WireExpr}
use Rattle.som_image_fields.specs.declared.syntax.WireExpr.TheVariants as exprs
use Rattle.som_image_fields.specs.declared.syntax.WireStmt.{WireStmt}
use Rattle.som_image_fields.specs.declared.syntax.WireStmt.TheVariants as stmts
use Rattle.som_image_fields.specs.declared.syntax.WireBlock.{WireBlock}
use Rattle.som_image_fields.specs.Fitting.{levels_left}
use Rattle.som_wire.specs.Making.{Reads, of_one, of_two, of_three, of_four}

-- a number of one byte that is below a limit, as that of an operator
unfoldable pub operator_at : ℕ → Reads ℕ
operator_at limit bytes place = do
  op ← number_at w8 bytes place
  if nat_lt op.value limit then Ok op else Err (faults.Tag place)

-- a number of 4 bytes, as one with a sign
unfoldable pub signed_at : Reads ℤ
signed_at bytes place = do
  n ← number_at w32 bytes place
  done (cast_signed w32 n.value) n.next

-- false or true
unfoldable pub truth_at : Reads Bool
truth_at bytes place = do
  flag ← number_at w8 bytes place
  if flag.value == 0 then done false flag.next else
      if flag.value == 1 then done true flag.next else
      Err (faults.Tag place)

-- what the number of a host procedure says
abbrev pub host_after : ℕ → Read ℕ → Result (Read HostCode) ImageFault
host_after place code =
    if code.value == 0 then done hosts.Min code.next else
    if code.value == 1 then done hosts.Max code.next else
    if code.value == 2 then done hosts.And code.next else
    if code.value == 3 then done hosts.Or code.next else
    if code.value == 4 then done hosts.Xor code.next else
    if code.value == 5 then done hosts.WrapAdd code.next else
    Err (faults.Tag place)

unfoldable pub host_at : Reads HostCode
host_at bytes place = number_at w8 bytes place >>= host_after place

-- a tag where no more level is left
abbrev pub too_deep : {A : Type 0} → (ℕ → Bool) → Reads A
too_deep is_tag bytes place = do
  tag ← number_at w8 bytes place
  Err (if is_tag tag.value then faults.Nesting place else faults.Tag place)

-- ---- expressions

abbrev pub args_at : Reads WireExpr → Reads (List WireExpr)
args_at inner bytes = counted_at (number_at w8 bytes) 0 MAX_PARAMETERS (inner bytes)

-- what follows the tag of a call of parents' methods
abbrev pub parent_call_after : Ranges → Reads WireExpr → List ℕ → ℕ → Read ℕ → Result (Read WireExpr) ImageFault
parent_call_after ranges inner bytes place tag =
    if tag.value == 0x32 then of_three (number_at w8) (method_at ranges) (args_at inner) exprs.ParentCall bytes tag.next else
    if tag.value == 0x33 then of_two (method_at ranges) (args_at inner) exprs.ParentsCall bytes tag.next else
    Err (faults.Tag place)

-- what follows the tag of a call by name, or of a parent's method
abbrev pub named_call_after : Ranges → Reads WireExpr → List ℕ → ℕ → Read ℕ → Result (Read WireExpr) ImageFault
named_call_after ranges inner bytes place tag =
    if tag.value == 0x30 then of_four (kind_at ranges.classes true) text_at inner (args_at inner) exprs.Lookup bytes tag.next else
    if tag.value == 0x31 then of_four (kind_at ranges.classes true) text_at inner (args_at inner) exprs.Dispatch bytes tag.next else
    parent_call_after ranges inner bytes place tag

-- what follows the tag of a call
abbrev pub call_after : Ranges → Reads WireExpr → List ℕ → ℕ → Read ℕ → Result (Read WireExpr) ImageFault
call_after ranges inner bytes place tag =
    if tag.value == 0x2f then of_three (method_at ranges) inner (args_at inner) exprs.OffsetCall bytes tag.next else
    named_call_after ranges inner bytes place tag

-- what follows the tag of two operands, or of a call
abbrev pub pair_after : Ranges → Reads WireExpr → List ℕ → ℕ → Read ℕ → Result (Read WireExpr) ImageFault
pair_after ranges inner bytes place tag =
    if tag.value == 0x28 then of_three (operator_at 14) inner inner exprs.Binary bytes tag.next else
    if tag.value == 0x34 then of_three host_at inner inner exprs.Host bytes tag.next else
    call_after ranges inner bytes place tag

-- what follows the tag of a class and an operand, of two operands, or of a call
abbrev pub class_form_after : Ranges → Reads WireExpr → List ℕ → ℕ → Read ℕ → Result (Read WireExpr) ImageFault
class_form_after ranges inner bytes place tag =
    if tag.value == 0x2c then of_two (below_at ranges.classes) inner exprs.Cast bytes tag.next else
    if tag.value == 0x2d then of_two (below_at ranges.classes) inner exprs.Isa bytes tag.next else
    if tag.value == 0x2e then of_two (below_at ranges.classes) inner exprs.Proxy bytes tag.next else
    pair_after ranges inner bytes place tag

-- what follows the tag of one operand, of two, or of a call
abbrev pub operation_after : Ranges → Reads WireExpr → List ℕ → ℕ → Read ℕ → Result (Read WireExpr) ImageFault
operation_after ranges inner bytes place tag =
    if tag.value == 0x27 then of_two (operator_at 4) inner exprs.Unary bytes tag.next else
    class_form_after ranges inner bytes place tag

-- what follows the tag of an expression
abbrev pub expr_after : Ranges → Reads WireExpr → List ℕ → ℕ → Read ℕ → Result (Read WireExpr) ImageFault
expr_after ranges inner bytes place tag =
    if tag.value == 0x20 then of_one signed_at exprs.Long bytes tag.next else
    if tag.value == 0x21 then of_one text_at exprs.Str bytes tag.next else
    if tag.value == 0x22 then of_one truth_at exprs.Boolean bytes tag.next else
    if tag.value == 0x23 then done exprs.Nil tag.next else
    if tag.value == 0x24 then of_one (number_at w16) exprs.Local bytes tag.next else
    if tag.value == 0x25 then done exprs.Me tag.next else
    if tag.value == 0x26 then of_one (number_at w8) exprs.Variable bytes tag.next else
    if tag.value == 0x29 then of_one (below_at ranges.classes) exprs.New bytes tag.next else
    if tag.value == 0x2a then of_one (below_at ranges.classes) exprs.Class bytes tag.next else
    if tag.value == 0x2b then done exprs.Manager tag.next else
    operation_after ranges inner bytes place tag

abbrev pub is_call_tag : ℕ → Bool
is_call_tag tag = nat_le 0x2f tag && nat_le tag 0x33

abbrev pub is_expr_tag : ℕ → Bool
is_expr_tag tag = nat_le 0x20 tag && nat_le tag 0x34

-- an expression, where so many levels are left
unfoldable pub expr_at : ℕ → Ranges → Reads WireExpr
expr_at zero ranges bytes place = too_deep is_expr_tag bytes place
expr_at (suc left) ranges bytes place = number_at w8 bytes place >>= expr_after ranges (expr_at left ranges) bytes place

-- a call, where so many levels are left
unfoldable pub call_at : ℕ → Ranges → Reads WireExpr
call_at zero ranges bytes place = too_deep is_call_tag bytes place
call_at (suc left) ranges bytes place = number_at w8 bytes place >>= call_after ranges (expr_at left ranges) bytes place

-- ---- statements

-- the number of statements, and the statements
abbrev pub statements_at : Reads WireStmt → Reads WireBlock
statements_at one bytes place = do
  count ← number_at w32 bytes place
  statements ← many_at (one bytes) count.value count.next
  done (record { statements = statements.value }) statements.next

-- what follows the tag of a statement with blocks
abbrev pub flow_after : Reads WireExpr → Reads WireBlock → List ℕ → ℕ → Read ℕ → Result (Read WireStmt) ImageFault
flow_after inner block bytes place tag =
    if tag.value == 0x04 then of_three inner block block stmts.If bytes tag.next else
    if tag.value == 0x05 then of_two inner block stmts.While bytes tag.next else
    Err (faults.Tag place)

-- what follows the tag of a statement that stands alone, or has blocks
abbrev pub plain_after : Reads WireExpr → Reads WireExpr → Reads WireBlock → List ℕ → ℕ → Read ℕ → Result (Read WireStmt) ImageFault
plain_after inner call block bytes place tag =
    if tag.value == 0x06 then done stmts.Return tag.next else
    if tag.value == 0x07 then of_one inner stmts.ReturnValue bytes tag.next else
    if tag.value == 0x08 then of_one inner stmts.Print bytes tag.next else
    if tag.value == 0x09 then of_one inner stmts.Free bytes tag.next else
    if tag.value == 0x0a then of_one call stmts.Call bytes tag.next else
    flow_after inner block bytes place tag

-- what follows the tag of a statement
abbrev pub stmt_after : Ranges → Reads WireExpr → Reads WireExpr → Reads WireBlock → List ℕ → ℕ → Read ℕ → Result (Read WireStmt) ImageFault
stmt_after ranges inner call block bytes place tag =
    if tag.value == 0x01 then of_two (kind_at ranges.classes false) inner stmts.Var bytes tag.next else
    if tag.value == 0x02 then of_two (number_at w16) inner stmts.SetLocal bytes tag.next else
    if tag.value == 0x03 then of_two (number_at w8) inner stmts.SetVariable bytes tag.next else
    plain_after inner call block bytes place tag

abbrev pub is_stmt_tag : ℕ → Bool
is_stmt_tag tag = nat_le 0x01 tag && nat_le tag 0x0a

-- a statement, where so many levels are left
unfoldable pub stmt_at : ℕ → Ranges → Reads WireStmt
stmt_at zero ranges bytes place = too_deep is_stmt_tag bytes place
stmt_at (suc left) ranges bytes place = number_at w8 bytes place >>= stmt_after ranges (expr_at left ranges) (call_at left ranges) (statements_at (stmt_at left ranges)) bytes place

-- a block whose statements stand where so many levels are left
unfoldable pub block_at : ℕ → Ranges → Reads WireBlock
block_at left ranges bytes place = statements_at (stmt_at left ranges) bytes place

-- ---- parts of classes

unfoldable pub variable_at : ℕ → Reads WireVariable
variable_at classes = of_two text_at (kind_at classes false) (λ name kind. record { name = name; kind = kind })

-- what follows the tag of a body
abbrev pub body_after : Reads WireBlock → List ℕ → ℕ → Read ℕ → Result (Read WireBody) ImageFault
body_after block bytes place tag =
    if tag.value == 0 then of_one block bodies.User bytes tag.next else
    if tag.value == 1 then of_one (number_at w8) bodies.Get bytes tag.next else
    if tag.value == 2 then of_one (number_at w8) bodies.Set bytes tag.next else
    Err (faults.Tag place)

unfoldable pub body_at : Ranges → Reads WireBody
body_at ranges bytes place = number_at w8 bytes place >>= body_after (block_at (levels_left 1) ranges) bytes place

-- a method, and the block that overrides it
unfoldable pub override_at : Ranges → Reads WireOverride
override_at ranges = of_two (method_at ranges) (block_at (levels_left 1) ranges) (λ method block. record { method = method; block = block })

abbrev pub variables_at : ℕ → Reads (List WireVariable)
variables_at classes bytes = counted_at (number_at w8 bytes) 0 MAX_VARIABLES (variable_at classes bytes)

abbrev pub bodies_at : Ranges → ℕ → Reads (List WireBody)
bodies_at ranges introduced bytes = many_at (body_at ranges bytes) introduced

abbrev pub overrides_at : Ranges → Reads (List WireOverride)
overrides_at ranges bytes = counted_at (number_at w16 bytes) 0 MAX_OVERRIDES (override_at ranges bytes)

-- the variables, so many bodies, and the overrides
unfoldable pub part_at : Ranges → ℕ → Reads WirePart
part_at ranges introduced = of_three (variables_at ranges.classes) (bodies_at ranges introduced) (overrides_at ranges) (λ variables bodies overrides. record { variables = variables; bodies = bodies; overrides = overrides })

-- ---- selects

unfoldable pub select_at : Ranges → Reads WireSelect
select_at ranges = of_two (method_at ranges) (number_at w8) (λ method parent. record { method = method; parent = parent })

-- the selects of one class
abbrev pub own_selects_at : Ranges → Reads (List WireSelect)
own_selects_at ranges bytes = counted_at (number_at w16 bytes) 1 MAX_SELECTS (select_at ranges bytes)

-- the number of one of so many classes that is least or greater
unfoldable pub class_from_at : ℕ → ℕ → Reads ℕ
class_from_at least classes bytes place = do
  n ← number_at w16 bytes place
  if nat_le least n.value && nat_lt n.value classes then Ok n else Err (faults.Number place)

-- the number of a class, and its selects
unfoldable pub class_selects_at : Ranges → ℕ → Reads WireSelects
class_selects_at ranges least = of_two (class_from_at least ranges.classes) (own_selects_at ranges) (λ class selects. record { class = class; selects = selects })

-- the selects of so many classes, each with a greater number than the one before
unfoldable pub ascending_at : Ranges → ℕ → ℕ → Reads (List WireSelects)
ascending_at ranges zero least bytes place = done [] place
ascending_at ranges (suc n) least bytes place = do
  first ← class_selects_at ranges least bytes place
  others ← ascending_at ranges n (suc first.value.class) bytes first.next
  done (first.value ∷ others.value) others.next

-- how many of the classes with the numbers from first on have selects, and the selects of each
unfoldable pub selects_at : Ranges → ℕ → Reads (List WireSelects)
selects_at ranges first bytes place = do
  count ← number_at w16 bytes place
  if nat_lt count.value 1 || nat_lt (ranges.classes - first) count.value then Err (faults.Number place) else ascending_at ranges count.value first bytes count.next
