use Rattle.std.proofs.Common.{◌∙◌}
use Rattle.som_code.proofs.Laying.{out_laid, out_sound, laid_has_effect, laid_ends}
use Rattle.som_code.proofs.layout.lay_out_for.Goals as goal

pub from_vec-requires : goal.from_vec-requires
from_vec-requires c = out_sound c.args.block.now c.args.params _ _ _ c.new-code.ensures.items c.in_ok-emit_block.ensures c.in_ok-emit.ensures

pub returns : goal.returns
returns c =
    let is = c.from_vec.ensures ∙ out_laid c.args.block.now c.args.params _ _ _ c.new-code.ensures.items c.in_ok-emit_block.ensures c.in_ok-emit.ensures in
    record {
      effect = laid_has_effect c.args.block.now c.args.params c.from_vec.result is;
      ends = laid_ends c.args.block.now c.args.params c.from_vec.result is;
      laid = is;
    }
