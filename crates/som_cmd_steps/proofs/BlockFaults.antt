-- Reading expressions, statements, blocks and parts never comes to want of memory.
use Rattle.std.proofs.Common.{ℕ, zero, suc, ◌==◌, nat_lt, Bool, true, false, if◌then◌else◌, List}
use Rattle.std.specs.Int.{w8, w16, w32}
use Rattle.som_model.specs.declared.limits.TheConstants.{MAX_PARAMETERS, MAX_VARIABLES, MAX_OVERRIDES}
use Rattle.som_image_fields.specs.declared.read.Read.{Read}
use Rattle.som_image_fields.specs.declared.method.Ranges.{Ranges}
use Rattle.som_image_fields.specs.Fields.{many_at}
use Rattle.som_image_fields.specs.Reading.{number_at, text_at, below_at, kind_at, method_at}
use Rattle.som_image_fields.specs.declared.syntax.WireExpr.{WireExpr}
use Rattle.som_image_fields.specs.declared.syntax.WireStmt.{WireStmt}
use Rattle.som_image_fields.specs.declared.syntax.WireBlock.{WireBlock}
use Rattle.som_image_fields.specs.Fitting.{levels_left}
use Rattle.som_wire.specs.Making.{of_one, of_two, of_three, of_four}
use Rattle.som_wire.specs.Reading.{operator_at, signed_at, truth_at, host_after, host_at, too_deep, args_at, parent_call_after, call_after, pair_after, operation_after, expr_after, is_call_tag, is_expr_tag, expr_at, call_at, statements_at, flow_after, stmt_after, is_stmt_tag, stmt_at, block_at, variable_at, body_after, body_at, override_at, variables_at, bodies_at, overrides_at, part_at}
use Rattle.som_image_fields.specs.declared.fault.ImageFault.TheVariants as faults
use Rattle.som_image_fields.specs.declared.syntax.WireExpr.TheVariants as exprs
use Rattle.som_image_fields.specs.declared.syntax.WireStmt.TheVariants as stmts
use Rattle.som_image_fields.specs.declared.syntax.WireBody.TheVariants as bodies
use Rattle.som_wire.specs.Making as making
use Rattle.som_cmd_steps.proofs.FieldFaults.{IsOfBytes, Reads, then_reads, either_reads, number_reads, text_reads, below_reads, many_reads, counted_reads, kind_reads, method_reads}

-- what is read at each place is a value, or a fault of the bytes
abbrev pub Readable : {A : Type 0} → making.Reads A → Type 0
Readable one = (bytes : List ℕ) (place : ℕ) → Reads (one bytes place)

one_reads : {A T : Type 0} (one : making.Reads A) (make : A → T) → Readable one → (bytes : List ℕ) (place : ℕ) → Reads (of_one one make bytes place)
one_reads one make h bytes place = then_reads (one bytes place) _ (h bytes place) (λ a. tt)

pub two_reads : {A B T : Type 0} (one : making.Reads A) (two : making.Reads B) (make : A → B → T) → Readable one → Readable two → (bytes : List ℕ) (place : ℕ) → Reads (of_two one two make bytes place)
two_reads one two make h g bytes place = then_reads (one bytes place) _ (h bytes place) (λ a. then_reads (two bytes a.next) _ (g bytes a.next) (λ b. tt))

three_reads : {A B C T : Type 0} (one : making.Reads A) (two : making.Reads B) (three : making.Reads C) (make : A → B → C → T) → Readable one → Readable two → Readable three → (bytes : List ℕ) (place : ℕ)
    → Reads (of_three one two three make bytes place)
three_reads one two three make h g f bytes place =
    then_reads (one bytes place) _ (h bytes place) (λ a. then_reads (two bytes a.next) _ (g bytes a.next) (λ b. then_reads (three bytes b.next) _ (f bytes b.next) (λ c. tt)))

four_reads : {A B C D T : Type 0} (one : making.Reads A) (two : making.Reads B) (three : making.Reads C) (four : making.Reads D) (make : A → B → C → D → T) → Readable one → Readable two → Readable three → Readable four
    → (bytes : List ℕ) (place : ℕ) → Reads (of_four one two three four make bytes place)
four_reads one two three four make h g f e bytes place =
    then_reads (one bytes place) _ (h bytes place) (λ a.
    then_reads (two bytes a.next) _ (g bytes a.next) (λ b.
    then_reads (three bytes b.next) _ (f bytes b.next) (λ c.
    then_reads (four bytes c.next) _ (e bytes c.next) (λ d. tt))))

-- ---- small fields

operator_reads : (limit : ℕ) (bytes : List ℕ) (place : ℕ) → Reads (operator_at limit bytes place)
unfolding operator_at
operator_reads limit bytes place = then_reads (number_at w8 bytes place) _ (number_reads w8 bytes place) (λ op. either_reads (nat_lt op.value limit) _ _ tt tt)

signed_reads : (bytes : List ℕ) (place : ℕ) → Reads (signed_at bytes place)
unfolding signed_at
signed_reads bytes place = then_reads (number_at w32 bytes place) _ (number_reads w32 bytes place) (λ n. tt)

truth_reads : (bytes : List ℕ) (place : ℕ) → Reads (truth_at bytes place)
unfolding truth_at
truth_reads bytes place = then_reads (number_at w8 bytes place) _ (number_reads w8 bytes place) (λ flag. either_reads (flag.value == 0) _ _ tt (either_reads (flag.value == 1) _ _ tt tt))

host_after_reads : (place : ℕ) (code : Read ℕ) → Reads (host_after place code)
host_after_reads place code =
    either_reads (code.value == 0) _ _ tt
    (either_reads (code.value == 1) _ _ tt
    (either_reads (code.value == 2) _ _ tt
    (either_reads (code.value == 3) _ _ tt
    (either_reads (code.value == 4) _ _ tt
    (either_reads (code.value == 5) _ _ tt tt)))))

host_reads : (bytes : List ℕ) (place : ℕ) → Reads (host_at bytes place)
unfolding host_at
host_reads bytes place = then_reads (number_at w8 bytes place) (host_after place) (number_reads w8 bytes place) (host_after_reads place)

deep_fault : (place : ℕ) (b : Bool) → IsOfBytes (if b then faults.Nesting place else faults.Tag place)
deep_fault place true = tt
deep_fault place false = tt

too_deep_reads : (A : Type 0) (is_tag : ℕ → Bool) (bytes : List ℕ) (place : ℕ) → Reads (too_deep {A = A} is_tag bytes place)
too_deep_reads A is_tag bytes place = then_reads (number_at w8 bytes place) _ (number_reads w8 bytes place) (λ tag. deep_fault place (is_tag tag.value))

-- ---- expressions

module _ (ranges : Ranges) (inner : making.Reads WireExpr) (h : Readable inner) where
  args_reads : (bytes : List ℕ) (place : ℕ) → Reads (args_at inner bytes place)
  args_reads bytes place = counted_reads (number_at w8 bytes) 0 MAX_PARAMETERS (inner bytes) (number_reads w8 bytes) (h bytes) place

  parent_call_after_reads : (bytes : List ℕ) (place : ℕ) (tag : Read ℕ) → Reads (parent_call_after ranges inner bytes place tag)
  parent_call_after_reads bytes place tag =
      either_reads (tag.value == 0x32) _ _ (three_reads (number_at w8) (method_at ranges) (args_at inner) exprs.ParentCall (number_reads w8) (method_reads ranges) args_reads bytes tag.next)
      (either_reads (tag.value == 0x33) _ _ (two_reads (method_at ranges) (args_at inner) exprs.ParentsCall (method_reads ranges) args_reads bytes tag.next) tt)

  call_after_reads : (bytes : List ℕ) (place : ℕ) (tag : Read ℕ) → Reads (call_after ranges inner bytes place tag)
  call_after_reads bytes place tag =
      either_reads (tag.value == 0x2f) _ _ (three_reads (method_at ranges) inner (args_at inner) exprs.OffsetCall (method_reads ranges) h args_reads bytes tag.next)
      (either_reads (tag.value == 0x30) _ _ (four_reads (kind_at ranges.classes true) text_at inner (args_at inner) exprs.Lookup (kind_reads ranges.classes true) text_reads h args_reads bytes tag.next)
      (either_reads (tag.value == 0x31) _ _ (four_reads (kind_at ranges.classes true) text_at inner (args_at inner) exprs.Dispatch (kind_reads ranges.classes true) text_reads h args_reads bytes tag.next)
      (parent_call_after_reads bytes place tag)))

  pair_after_reads : (bytes : List ℕ) (place : ℕ) (tag : Read ℕ) → Reads (pair_after ranges inner bytes place tag)
  pair_after_reads bytes place tag =
      either_reads (tag.value == 0x28) _ _ (three_reads (operator_at 14) inner inner exprs.Binary (operator_reads 14) h h bytes tag.next)
      (either_reads (tag.value == 0x34) _ _ (three_reads host_at inner inner exprs.Host host_reads h h bytes tag.next) (call_after_reads bytes place tag))

  operation_after_reads : (bytes : List ℕ) (place : ℕ) (tag : Read ℕ) → Reads (operation_after ranges inner bytes place tag)
  operation_after_reads bytes place tag =
      either_reads (tag.value == 0x27) _ _ (two_reads (operator_at 4) inner exprs.Unary (operator_reads 4) h bytes tag.next)
      (either_reads (tag.value == 0x2c) _ _ (two_reads (below_at ranges.classes) inner exprs.Cast (below_reads ranges.classes) h bytes tag.next)
      (either_reads (tag.value == 0x2d) _ _ (two_reads (below_at ranges.classes) inner exprs.Isa (below_reads ranges.classes) h bytes tag.next)
      (either_reads (tag.value == 0x2e) _ _ (two_reads (below_at ranges.classes) inner exprs.Proxy (below_reads ranges.classes) h bytes tag.next) (pair_after_reads bytes place tag))))

  expr_after_reads : (bytes : List ℕ) (place : ℕ) (tag : Read ℕ) → Reads (expr_after ranges inner bytes place tag)
  expr_after_reads bytes place tag =
      either_reads (tag.value == 0x20) _ _ (one_reads signed_at exprs.Long signed_reads bytes tag.next)
      (either_reads (tag.value == 0x21) _ _ (one_reads text_at exprs.Str text_reads bytes tag.next)
      (either_reads (tag.value == 0x22) _ _ (one_reads truth_at exprs.Boolean truth_reads bytes tag.next)
      (either_reads (tag.value == 0x23) _ _ tt
      (either_reads (tag.value == 0x24) _ _ (one_reads (number_at w16) exprs.Local (number_reads w16) bytes tag.next)
      (either_reads (tag.value == 0x25) _ _ tt
      (either_reads (tag.value == 0x26) _ _ (one_reads (number_at w8) exprs.Variable (number_reads w8) bytes tag.next)
      (either_reads (tag.value == 0x29) _ _ (one_reads (below_at ranges.classes) exprs.New (below_reads ranges.classes) bytes tag.next)
      (either_reads (tag.value == 0x2a) _ _ (one_reads (below_at ranges.classes) exprs.Class (below_reads ranges.classes) bytes tag.next)
      (either_reads (tag.value == 0x2b) _ _ tt (operation_after_reads bytes place tag))))))))))

expr_reads : (left : ℕ) (ranges : Ranges) (bytes : List ℕ) (place : ℕ) → Reads (expr_at left ranges bytes place)
unfolding expr_at
expr_reads zero ranges bytes place = too_deep_reads WireExpr is_expr_tag bytes place
expr_reads (suc left) ranges bytes place =
    then_reads (number_at w8 bytes place) (expr_after ranges (expr_at left ranges) bytes place) (number_reads w8 bytes place) (expr_after_reads ranges (expr_at left ranges) (expr_reads left ranges) bytes place)

call_reads : (left : ℕ) (ranges : Ranges) (bytes : List ℕ) (place : ℕ) → Reads (call_at left ranges bytes place)
unfolding call_at
call_reads zero ranges bytes place = too_deep_reads WireExpr is_call_tag bytes place
call_reads (suc left) ranges bytes place =
    then_reads (number_at w8 bytes place) (call_after ranges (expr_at left ranges) bytes place) (number_reads w8 bytes place) (call_after_reads ranges (expr_at left ranges) (expr_reads left ranges) bytes place)

-- ---- statements

statements_reads : (one : making.Reads WireStmt) → Readable one → (bytes : List ℕ) (place : ℕ) → Reads (statements_at one bytes place)
statements_reads one h bytes place = then_reads (number_at w32 bytes place) _ (number_reads w32 bytes place) (λ count.
    then_reads (many_at (one bytes) count.value count.next) _ (many_reads (one bytes) (h bytes) count.value count.next) (λ statements. tt))

module _ (ranges : Ranges) (inner call : making.Reads WireExpr) (block : making.Reads WireBlock) (h : Readable inner) (g : Readable call) (f : Readable block) where
  flow_after_reads : (bytes : List ℕ) (place : ℕ) (tag : Read ℕ) → Reads (flow_after inner block bytes place tag)
  flow_after_reads bytes place tag =
      either_reads (tag.value == 0x04) _ _ (three_reads inner block block stmts.If h f f bytes tag.next)
      (either_reads (tag.value == 0x05) _ _ (two_reads inner block stmts.While h f bytes tag.next) tt)

  stmt_after_reads : (bytes : List ℕ) (place : ℕ) (tag : Read ℕ) → Reads (stmt_after ranges inner call block bytes place tag)
  stmt_after_reads bytes place tag =
      either_reads (tag.value == 0x01) _ _ (two_reads (kind_at ranges.classes false) inner stmts.Var (kind_reads ranges.classes false) h bytes tag.next)
      (either_reads (tag.value == 0x02) _ _ (two_reads (number_at w16) inner stmts.SetLocal (number_reads w16) h bytes tag.next)
      (either_reads (tag.value == 0x03) _ _ (two_reads (number_at w8) inner stmts.SetVariable (number_reads w8) h bytes tag.next)
      (either_reads (tag.value == 0x06) _ _ tt
      (either_reads (tag.value == 0x07) _ _ (one_reads inner stmts.ReturnValue h bytes tag.next)
      (either_reads (tag.value == 0x08) _ _ (one_reads inner stmts.Print h bytes tag.next)
      (either_reads (tag.value == 0x09) _ _ (one_reads inner stmts.Free h bytes tag.next)
      (either_reads (tag.value == 0x0a) _ _ (one_reads call stmts.Call g bytes tag.next) (flow_after_reads bytes place tag))))))))

stmt_reads : (left : ℕ) (ranges : Ranges) (bytes : List ℕ) (place : ℕ) → Reads (stmt_at left ranges bytes place)
unfolding stmt_at
stmt_reads zero ranges bytes place = too_deep_reads WireStmt is_stmt_tag bytes place
stmt_reads (suc left) ranges bytes place =
    let block = statements_at (stmt_at left ranges) in
    then_reads (number_at w8 bytes place) (stmt_after ranges (expr_at left ranges) (call_at left ranges) block bytes place) (number_reads w8 bytes place)
    (stmt_after_reads ranges (expr_at left ranges) (call_at left ranges) block (expr_reads left ranges) (call_reads left ranges) (statements_reads (stmt_at left ranges) (stmt_reads left ranges)) bytes place)

pub block_reads : (left : ℕ) (ranges : Ranges) (bytes : List ℕ) (place : ℕ) → Reads (block_at left ranges bytes place)
unfolding block_at
block_reads left ranges bytes place = statements_reads (stmt_at left ranges) (stmt_reads left ranges) bytes place

-- ---- parts

variable_reads : (classes : ℕ) (bytes : List ℕ) (place : ℕ) → Reads (variable_at classes bytes place)
unfolding variable_at
variable_reads classes bytes place = two_reads text_at (kind_at classes false) _ text_reads (kind_reads classes false) bytes place

body_after_reads : (block : making.Reads WireBlock) → Readable block → (bytes : List ℕ) (place : ℕ) (tag : Read ℕ) → Reads (body_after block bytes place tag)
body_after_reads block h bytes place tag =
    either_reads (tag.value == 0) _ _ (one_reads block bodies.User h bytes tag.next)
    (either_reads (tag.value == 1) _ _ (one_reads (number_at w8) bodies.Get (number_reads w8) bytes tag.next)
    (either_reads (tag.value == 2) _ _ (one_reads (number_at w8) bodies.Set (number_reads w8) bytes tag.next) tt))

body_reads : (ranges : Ranges) (bytes : List ℕ) (place : ℕ) → Reads (body_at ranges bytes place)
unfolding body_at
body_reads ranges bytes place =
    let block = block_at (levels_left 1) ranges in
    then_reads (number_at w8 bytes place) (body_after block bytes place) (number_reads w8 bytes place) (body_after_reads block (block_reads (levels_left 1) ranges) bytes place)

override_reads : (ranges : Ranges) (bytes : List ℕ) (place : ℕ) → Reads (override_at ranges bytes place)
unfolding override_at
override_reads ranges bytes place = two_reads (method_at ranges) (block_at (levels_left 1) ranges) _ (method_reads ranges) (block_reads (levels_left 1) ranges) bytes place

variables_reads : (classes : ℕ) (bytes : List ℕ) (place : ℕ) → Reads (variables_at classes bytes place)
variables_reads classes bytes place = counted_reads (number_at w8 bytes) 0 MAX_VARIABLES (variable_at classes bytes) (number_reads w8 bytes) (variable_reads classes bytes) place

overrides_reads : (ranges : Ranges) (bytes : List ℕ) (place : ℕ) → Reads (overrides_at ranges bytes place)
overrides_reads ranges bytes place = counted_reads (number_at w16 bytes) 0 MAX_OVERRIDES (override_at ranges bytes) (number_reads w16 bytes) (override_reads ranges bytes) place

pub part_reads : (ranges : Ranges) (introduced : ℕ) (bytes : List ℕ) (place : ℕ) → Reads (part_at ranges introduced bytes place)
unfolding part_at
part_reads ranges introduced bytes place =
    three_reads (variables_at ranges.classes) (bodies_at ranges introduced) (overrides_at ranges) _ (variables_reads ranges.classes)
    (λ bs at. many_reads (body_at ranges bs) (body_reads ranges bs) introduced at) (overrides_reads ranges) bytes place
