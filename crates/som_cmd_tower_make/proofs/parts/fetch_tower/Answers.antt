use Rattle.std.proofs.Common.{length, ap, ◌∙◌}
use Rattle.som_cmd_tower_make.proofs.SoundBases.{base_sound}
use Rattle.som_cmd_tower_make.proofs.parts.fetch_tower.Goals as goal

pub returns-clause-sound : goal.returns-clause-sound
returns-clause-sound g c =
    base_sound c.args.below.now c.as_slice.result.now c.in_ok-base.base (ap length c.as_slice.ensures ∙ c.in_ok-images.ensures.long) c.requires.some c.requires.few c.in_ok-base.ensures.follows
