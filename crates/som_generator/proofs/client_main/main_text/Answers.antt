use Rattle.std.proofs.Common.{◌≡◌, arith}
use Rattle.som_generator.specs.Generated.{adding_lines}
use Rattle.som_generator.proofs.Pieces.{lines_more, main_done}
use Rattle.som_generator.proofs.client_main.main_text.Goals as goal

pub loop-number-preserved : goal.loop-number-preserved
loop-number-preserved c =
    lines_more adding_lines c.loop-number.number c.extend_from_slice.new.self.items c.loop-number.text.items c.add_calls.new.text.items c.loop-number.invariant c.in_ok-add_calls.ensures

pub returns : goal.returns
returns c =
    let all : c.loop-number.number ≡ c.args.count = omega arith in
    main_done c.args.count c.loop-number.number c.new-text.result.items c.extend_from_slice.new.self.items c.loop-number.text.items c.extend_from_slice-2.new.self.items
    c.new-text.ensures.items c.in_ok-extend_from_slice.ensures.items c.loop-number.invariant all c.in_ok-extend_from_slice-2.ensures.items
