use Rattle.std.proofs.Common.{ℕ, ◌+◌, ap, ◌∙◌, arith}
use Rattle.som_cliimage.proofs.Naming.{same_ranges}
use Rattle.som_cliimage.proofs.NamedClient.{bodies_came}
use Rattle.som_cliimage.proofs.program.read_bodies.Goals as goal

pub read_parts-requires-clause-ranges : goal.read_parts-requires-clause-ranges
read_parts-requires-clause-ranges c = c.in_ok-ranges.ensures ∙ same_ranges c.args.base.now c.args.own.now c.in_ok-directory.directory c.in_ok-directory.ensures

pub read_block-requires-clause-ranges : goal.read_block-requires-clause-ranges
read_block-requires-clause-ranges c = c.in_ok-ranges.ensures ∙ same_ranges c.args.base.now c.args.own.now c.in_ok-directory.directory c.in_ok-directory.ensures

pub name_program-requires-clause-selects : goal.name_program-requires-clause-selects
name_program-requires-clause-selects c = rw (← c.in_ok-ranges.ensures) c.in_ok-selects.ensures.known

pub returns : goal.returns
returns c =
    bodies_came c.args.form.now c.args.version c.args.base.now c.args.own.now c.args.bytes.now c.in_ok-directory.directory c.in_ok-ranges.ranges c.in_ok-directory.ensures c.in_ok-ranges.ensures
    c.args.place (c.len.result + 4) c.in_ok-parts.parts c.in_ok-selects.selects c.in_ok-test_statements.field-0 c.in_ok-main.main c.in_ok-name_program.field-0
    (ap (λ (n : ℕ). n + 4) c.len.ensures) c.in_ok-parts.ensures.exact c.in_ok-selects.ensures.exact c.in_ok-test_statements.ensures c.in_ok-main.ensures.exact
    (omega (arith, c.len-2.ensures, c.if-main-len.false)) c.in_ok-name_program.ensures
