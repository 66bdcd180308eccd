-- Expressions, statements, parts and selects are local.
use Rattle.std.proofs.Common.{◌≡◌, ℕ, zero, suc, ◌+◌, ◌-◌, ◌<◌, ◌≤◌, ◌==◌, ◌&&◌, ◌||◌, Bool, true, false, if◌then◌else◌, List, [], ◌∷◌, Result, Ok, Err, arith}
use Rattle.std.specs.Prelude.{ℤ, nat_le, nat_lt}
use Rattle.std.specs.Int.{w8, w16, w32, cast_signed}
use Rattle.som_model.specs.declared.limits.TheConstants.{MAX_OVERRIDES, MAX_PARAMETERS, MAX_SELECTS, MAX_VARIABLES}
use Rattle.som_model.specs.declared.syntax.HostCode.{HostCode}
use Rattle.som_model.specs.declared.syntax.HostCode.TheVariants as hosts
use Rattle.som_model.specs.Steps.{◌>>=◌}
use Rattle.som_image_fields.specs.declared.fault.ImageFault.{ImageFault}
use Rattle.som_image_fields.specs.declared.fault.ImageFault.TheVariants as faults
use Rattle.som_image_fields.specs.declared.read.Read.{Read}
use Rattle.som_image_fields.specs.declared.kind.WireType.{WireType}
use Rattle.som_image_fields.specs.declared.method.Ranges.{Ranges}
use Rattle.som_image_fields.specs.declared.method.WireMethod.{WireMethod}
use Rattle.som_image_fields.specs.declared.syntax.WireVariable.{WireVariable}
use Rattle.som_image_fields.specs.declared.syntax.WireBody.{WireBody}
use Rattle.som_image_fields.specs.declared.syntax.WireBody.TheVariants as bodies
use Rattle.som_image_fields.specs.declared.syntax.WireOverride.{WireOverride}
use Rattle.som_image_fields.specs.declared.syntax.WirePart.{WirePart}
use Rattle.som_image_fields.specs.declared.selects.WireSelect.{WireSelect}
use Rattle.som_image_fields.specs.declared.selects.WireSelects.{WireSelects}
use Rattle.som_image_fields.specs.declared.syntax.WireExpr.{WireExpr}
use Rattle.som_image_fields.specs.declared.syntax.WireExpr.TheVariants as exprs
use Rattle.som_image_fields.specs.declared.syntax.WireStmt.{WireStmt}
use Rattle.som_image_fields.specs.declared.syntax.WireStmt.TheVariants as stmts
use Rattle.som_image_fields.specs.declared.syntax.WireBlock.{WireBlock}
use Rattle.som_image_fields.specs.Fields.{counted_at, done, many_at}
use Rattle.som_image_fields.specs.Fitting.{levels_left}
use Rattle.som_image_fields.specs.Reading.{below_at, kind_at, method_at, number_at, text_at}
use Rattle.som_wire.specs.Making.{Reads, of_one, of_three, of_two}
use Rattle.som_wire.specs.Reading.{args_at, ascending_at, block_at, bodies_at, body_after, body_at, call_after, call_at, class_form_after, class_from_at, class_selects_at, expr_after, expr_at, flow_after, host_after, host_at, is_call_tag, is_expr_tag, is_stmt_tag, named_call_after, operation_after, operator_at, override_at, overrides_at, own_selects_at, pair_after, parent_call_after, part_at, plain_after, select_at, selects_at, signed_at, statements_at, stmt_after, stmt_at, too_deep, truth_at, variable_at, variables_at}
use Rattle.som_image_fault_laws.proofs.Local.{IsLocal, IsLocalField, after_field, bind_local, done_local, many_local, nesting_local, number_field, number_local, of_four_field, of_one_field, of_three_field, of_two_field, tag_local}
use Rattle.som_image_fault_laws.proofs.Fields.{after_byte, after_four, after_two, below_field, few_field, kind_field, method_field, most_field, pick, text_field}

-- ---- numbers, truth values and codes

operator_field : (limit : ℕ) → IsLocalField (operator_at limit)
unfolding operator_at
operator_field limit from place le =
    after_byte (λ op bytes. if nat_lt op.value limit then Ok op else Err (faults.Tag place)) from place le
    (λ op is. pick (nat_lt op.value limit) (done_local op from) (tag_local from op.next place le (omega (arith, is)) (omega (arith, is))))

signed_field : IsLocalField signed_at
unfolding signed_at
signed_field from place le = of_one_field (number_at w32) (cast_signed w32) (number_field w32) from place le

abbrev a_value : {A : Type 0} → A → ℕ → Read A
a_value x next = record { value = x; next = next }

truth_field : IsLocalField truth_at
unfolding truth_at
truth_field from place le =
    after_byte (λ flag bytes. if flag.value == 0 then done false flag.next else (if flag.value == 1 then done true flag.next else Err (faults.Tag place))) from place le
    (λ flag is. pick (flag.value == 0) (done_local (a_value false flag.next) from)
    (pick (flag.value == 1) (done_local (a_value true flag.next) from) (tag_local from flag.next place le (omega (arith, is)) (omega (arith, is)))))

host_field : IsLocalField host_at
unfolding host_at
host_field from place le =
    after_byte (λ code bytes. host_after place code) from place le
    (λ code is.
    let n = code.next in
    pick (code.value == 0) (done_local (a_value hosts.Min n) from)
    (pick (code.value == 1) (done_local (a_value hosts.Max n) from)
    (pick (code.value == 2) (done_local (a_value hosts.And n) from)
    (pick (code.value == 3) (done_local (a_value hosts.Or n) from)
    (pick (code.value == 4) (done_local (a_value hosts.Xor n) from)
    (pick (code.value == 5) (done_local (a_value hosts.WrapAdd n) from) (tag_local from n place le (omega (arith, is)) (omega (arith, is)))))))))

-- a tag where no level is left
deep_by : {A : Type 0} (b : Bool) (from seen p : ℕ) → from ≤ p → p < seen → seen ≤ p + 4 → IsLocal {A = A} (λ bytes. Err (if b then faults.Nesting p else faults.Tag p)) from seen
deep_by true from seen p a b c = nesting_local from seen p a b c
deep_by false from seen p a b c = tag_local from seen p a b c

deep_field : {A : Type 0} (is_tag : ℕ → Bool) → IsLocalField {A = A} (too_deep is_tag)
deep_field is_tag from place le =
    after_byte (λ tag bytes. Err (if is_tag tag.value then faults.Nesting place else faults.Tag place)) from place le
    (λ tag is. deep_by (is_tag tag.value) from tag.next place le (omega (arith, is)) (omega (arith, is)))

-- ---- expressions

module _ (ranges : Ranges) (inner : Reads WireExpr) (field : IsLocalField inner) where
  args_field : IsLocalField (args_at inner)
  args_field = few_field 0 MAX_PARAMETERS inner field

  module _ (from place : ℕ) (le : from ≤ place) (tag : Read ℕ) (is : tag.next ≡ place + 1) where
    low : from ≤ tag.next
    low = omega (arith, le, is)

    parent_call_local : IsLocal (λ bytes. parent_call_after ranges inner bytes place tag) from tag.next
    parent_call_local =
        pick (tag.value == 0x32) (of_three_field (number_at w8) (method_at ranges) (args_at inner) exprs.ParentCall (number_field w8) (method_field ranges) args_field from tag.next low)
        (pick (tag.value == 0x33) (of_two_field (method_at ranges) (args_at inner) exprs.ParentsCall (method_field ranges) args_field from tag.next low)
        (tag_local from tag.next place le (omega (arith, is)) (omega (arith, is))))

    named_call_local : IsLocal (λ bytes. named_call_after ranges inner bytes place tag) from tag.next
    named_call_local =
        pick (tag.value == 0x30) (of_four_field (kind_at ranges.classes true) text_at inner (args_at inner) exprs.Lookup (kind_field ranges.classes true) text_field field args_field from tag.next low)
        (pick (tag.value == 0x31) (of_four_field (kind_at ranges.classes true) text_at inner (args_at inner) exprs.Dispatch (kind_field ranges.classes true) text_field field args_field from tag.next low)
        parent_call_local)

    call_local : IsLocal (λ bytes. call_after ranges inner bytes place tag) from tag.next
    call_local = pick (tag.value == 0x2f) (of_three_field (method_at ranges) inner (args_at inner) exprs.OffsetCall (method_field ranges) field args_field from tag.next low) named_call_local

    pair_local : IsLocal (λ bytes. pair_after ranges inner bytes place tag) from tag.next
    pair_local =
        pick (tag.value == 0x28) (of_three_field (operator_at 14) inner inner exprs.Binary (operator_field 14) field field from tag.next low)
        (pick (tag.value == 0x34) (of_three_field host_at inner inner exprs.Host host_field field field from tag.next low)
        call_local)

    class_form_local : IsLocal (λ bytes. class_form_after ranges inner bytes place tag) from tag.next
    class_form_local =
        pick (tag.value == 0x2c) (of_two_field (below_at ranges.classes) inner exprs.Cast (below_field ranges.classes) field from tag.next low)
        (pick (tag.value == 0x2d) (of_two_field (below_at ranges.classes) inner exprs.Isa (below_field ranges.classes) field from tag.next low)
        (pick (tag.value == 0x2e) (of_two_field (below_at ranges.classes) inner exprs.Proxy (below_field ranges.classes) field from tag.next low)
        pair_local))

    operation_local : IsLocal (λ bytes. operation_after ranges inner bytes place tag) from tag.next
    operation_local = pick (tag.value == 0x27) (of_two_field (operator_at 4) inner exprs.Unary (operator_field 4) field from tag.next low) class_form_local

    expr_local : IsLocal (λ bytes. expr_after ranges inner bytes place tag) from tag.next
    expr_local =
        pick (tag.value == 0x20) (of_one_field signed_at exprs.Long signed_field from tag.next low)
        (pick (tag.value == 0x21) (of_one_field text_at exprs.Str text_field from tag.next low)
        (pick (tag.value == 0x22) (of_one_field truth_at exprs.Boolean truth_field from tag.next low)
        (pick (tag.value == 0x23) (done_local (a_value exprs.Nil tag.next) from)
        (pick (tag.value == 0x24) (of_one_field (number_at w16) exprs.Local (number_field w16) from tag.next low)
        (pick (tag.value == 0x25) (done_local (a_value exprs.Me tag.next) from)
        (pick (tag.value == 0x26) (of_one_field (number_at w8) exprs.Variable (number_field w8) from tag.next low)
        (pick (tag.value == 0x29) (of_one_field (below_at ranges.classes) exprs.New (below_field ranges.classes) from tag.next low)
        (pick (tag.value == 0x2a) (of_one_field (below_at ranges.classes) exprs.Class (below_field ranges.classes) from tag.next low)
        (pick (tag.value == 0x2b) (done_local (a_value exprs.Manager tag.next) from)
        operation_local)))))))))

expr_field : (left : ℕ) (ranges : Ranges) → IsLocalField (expr_at left ranges)
unfolding expr_at
expr_field zero ranges from place le = deep_field is_expr_tag from place le
expr_field (suc left) ranges from place le =
    after_byte (λ tag bytes. expr_after ranges (expr_at left ranges) bytes place tag) from place le (λ tag is. expr_local ranges (expr_at left ranges) (expr_field left ranges) from place le tag is)

call_field : (left : ℕ) (ranges : Ranges) → IsLocalField (call_at left ranges)
unfolding call_at
call_field zero ranges from place le = deep_field is_call_tag from place le
call_field (suc left) ranges from place le =
    after_byte (λ tag bytes. call_after ranges (expr_at left ranges) bytes place tag) from place le (λ tag is. call_local ranges (expr_at left ranges) (expr_field left ranges) from place le tag is)

-- ---- statements

abbrev pub a_block : List WireStmt → WireBlock
a_block ss = record { statements = ss }

pub statements_field : (one : Reads WireStmt) → IsLocalField one → IsLocalField (statements_at one)
statements_field one field from place le =
    after_four (λ count bytes. many_at (one bytes) count.value count.next >>= λ ss. done (a_block ss.value) ss.next) from place le
    (λ count is.
    let low : from ≤ count.next = omega (arith, le, is) in
    of_one_field (λ bytes place. many_at (one bytes) count.value place) a_block (λ f p l. many_local one field count.value f p l) from count.next low)

module _ (ranges : Ranges) (inner : Reads WireExpr) (field : IsLocalField inner) (call : Reads WireExpr) (call_is : IsLocalField call) (block : Reads WireBlock) (block_is : IsLocalField block)
    (from place : ℕ) (le : from ≤ place) (tag : Read ℕ) (is : tag.next ≡ place + 1) where
  behind : from ≤ tag.next
  behind = omega (arith, le, is)

  flow_local : IsLocal (λ bytes. flow_after inner block bytes place tag) from tag.next
  flow_local =
      pick (tag.value == 0x04) (of_three_field inner block block stmts.If field block_is block_is from tag.next behind)
      (pick (tag.value == 0x05) (of_two_field inner block stmts.While field block_is from tag.next behind)
      (tag_local from tag.next place le (omega (arith, is)) (omega (arith, is))))

  plain_local : IsLocal (λ bytes. plain_after inner call block bytes place tag) from tag.next
  plain_local =
      pick (tag.value == 0x06) (done_local (a_value stmts.Return tag.next) from)
      (pick (tag.value == 0x07) (of_one_field inner stmts.ReturnValue field from tag.next behind)
      (pick (tag.value == 0x08) (of_one_field inner stmts.Print field from tag.next behind)
      (pick (tag.value == 0x09) (of_one_field inner stmts.Free field from tag.next behind)
      (pick (tag.value == 0x0a) (of_one_field call stmts.Call call_is from tag.next behind)
      flow_local))))

  stmt_local : IsLocal (λ bytes. stmt_after ranges inner call block bytes place tag) from tag.next
  stmt_local =
      pick (tag.value == 0x01) (of_two_field (kind_at ranges.classes false) inner stmts.Var (kind_field ranges.classes false) field from tag.next behind)
      (pick (tag.value == 0x02) (of_two_field (number_at w16) inner stmts.SetLocal (number_field w16) field from tag.next behind)
      (pick (tag.value == 0x03) (of_two_field (number_at w8) inner stmts.SetVariable (number_field w8) field from tag.next behind)
      plain_local))

pub stmt_field : (left : ℕ) (ranges : Ranges) → IsLocalField (stmt_at left ranges)
unfolding stmt_at
stmt_field zero ranges from place le = deep_field is_stmt_tag from place le
stmt_field (suc left) ranges from place le =
    after_byte (λ tag bytes. stmt_after ranges (expr_at left ranges) (call_at left ranges) (statements_at (stmt_at left ranges)) bytes place tag) from place le
    (λ tag is. stmt_local ranges (expr_at left ranges) (expr_field left ranges) (call_at left ranges) (call_field left ranges) (statements_at (stmt_at left ranges))
    (statements_field (stmt_at left ranges) (stmt_field left ranges)) from place le tag is)

pub block_field : (left : ℕ) (ranges : Ranges) → IsLocalField (block_at left ranges)
unfolding block_at
block_field left ranges from place le = statements_field (stmt_at left ranges) (stmt_field left ranges) from place le

-- ---- parts

variable_field : (classes : ℕ) → IsLocalField (variable_at classes)
unfolding variable_at
variable_field classes from place le =
    of_two_field text_at (kind_at classes false) (λ (name : List ℕ) (kind : WireType). let v : WireVariable = record { name = name; kind = kind } in v) text_field (kind_field classes false) from place le

body_field : (ranges : Ranges) → IsLocalField (body_at ranges)
unfolding body_at
body_field ranges from place le =
    after_byte (λ tag bytes. body_after (block_at (levels_left 1) ranges) bytes place tag) from place le
    (λ tag is.
    let low : from ≤ tag.next = omega (arith, le, is) in
    pick (tag.value == 0) (of_one_field (block_at (levels_left 1) ranges) bodies.User (block_field (levels_left 1) ranges) from tag.next low)
    (pick (tag.value == 1) (of_one_field (number_at w8) bodies.Get (number_field w8) from tag.next low)
    (pick (tag.value == 2) (of_one_field (number_at w8) bodies.Set (number_field w8) from tag.next low)
    (tag_local from tag.next place le (omega (arith, is)) (omega (arith, is))))))

override_field : (ranges : Ranges) → IsLocalField (override_at ranges)
unfolding override_at
override_field ranges from place le =
    of_two_field (method_at ranges) (block_at (levels_left 1) ranges) (λ (m : WireMethod) (b : WireBlock). let o : WireOverride = record { method = m; block = b } in o) (method_field ranges) (block_field (levels_left 1) ranges) from place le

pub part_field : (ranges : Ranges) (introduced : ℕ) → IsLocalField (part_at ranges introduced)
unfolding part_at
part_field ranges introduced from place le =
    of_three_field (variables_at ranges.classes) (bodies_at ranges introduced) (overrides_at ranges)
    (λ (vs : List WireVariable) (bs : List WireBody) (os : List WireOverride). let p : WirePart = record { variables = vs; bodies = bs; overrides = os } in p)
    (few_field 0 MAX_VARIABLES (variable_at ranges.classes) (variable_field ranges.classes)) (λ f p l. many_local (body_at ranges) (body_field ranges) introduced f p l)
    (most_field 0 MAX_OVERRIDES (override_at ranges) (override_field ranges)) from place le

-- ---- selects

select_field : (ranges : Ranges) → IsLocalField (select_at ranges)
unfolding select_at
select_field ranges from place le =
    of_two_field (method_at ranges) (number_at w8) (λ (m : WireMethod) (n : ℕ). let s : WireSelect = record { method = m; parent = n } in s) (method_field ranges) (number_field w8) from place le

class_from_field : (least classes : ℕ) → IsLocalField (class_from_at least classes)
unfolding class_from_at
class_from_field least classes from place le =
    after_two (λ n bytes. if nat_le least n.value && nat_lt n.value classes then Ok n else Err (faults.Number place)) from place le
    (λ n is. pick (nat_le least n.value && nat_lt n.value classes) (done_local n from) (number_local from n.next place le (omega (arith, is)) (omega (arith, is))))

class_selects_field : (ranges : Ranges) (least : ℕ) → IsLocalField (class_selects_at ranges least)
unfolding class_selects_at
class_selects_field ranges least from place le =
    of_two_field (class_from_at least ranges.classes) (own_selects_at ranges) (λ (c : ℕ) (ss : List WireSelect). let w : WireSelects = record { class = c; selects = ss } in w)
    (class_from_field least ranges.classes) (most_field 1 MAX_SELECTS (select_at ranges) (select_field ranges)) from place le

ascending_field : (ranges : Ranges) (n least : ℕ) → IsLocalField (ascending_at ranges n least)
unfolding ascending_at
ascending_field ranges zero least from place le = let none : Read (List WireSelects) = record { value = []; next = place } in done_local none from
ascending_field ranges (suc n) least from place le =
    after_field (class_selects_at ranges least) (λ first bytes. ascending_at ranges n (suc first.value.class) bytes first.next >>= λ others. done (first.value ∷ others.value) others.next) from place (class_selects_field ranges least) le
    (λ first past. of_one_field (ascending_at ranges n (suc first.value.class)) (λ (ws : List WireSelects). first.value ∷ ws) (ascending_field ranges n (suc first.value.class)) from first.next (omega (arith, le, past)))

pub selects_field : (ranges : Ranges) (first : ℕ) → IsLocalField (selects_at ranges first)
unfolding selects_at
selects_field ranges first from place le =
    after_two (λ count bytes. if nat_lt count.value 1 || nat_lt (ranges.classes - first) count.value then Err (faults.Number place) else ascending_at ranges count.value first bytes count.next) from place le
    (λ count is. pick (nat_lt count.value 1 || nat_lt (ranges.classes - first) count.value) (number_local from count.next place le (omega (arith, is)) (omega (arith, is)))
    (ascending_field ranges count.value first from count.next (omega (arith, le, is))))
