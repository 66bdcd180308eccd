use Rattle.std.proofs.Common.{◌≡◌, IfOk, subst}
use Rattle.som_model.specs.declared.program.Interface.{Interface}
use Rattle.som_level_programs.specs.ByLevels.{level_change}
use Rattle.som_rekey_laws.specs.Rekeying.{rekey_block}
use Rattle.som_levels.proofs.own.main_by_level.Goals as goal

pub returns : goal.returns
returns c = subst (λ (i : Interface). IfOk c.rekey_block.result (λ b. b ≡ rekey_block (level_change c.args.modules.now.sizes c.args.modules.now.client i) c.args.program.now.main)) c.requires c.rekey_block.ensures
