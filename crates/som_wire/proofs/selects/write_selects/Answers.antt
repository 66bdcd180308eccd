use Rattle.som_image_fields.specs.Spelling.{FitsSomeRanges, most_classes}
use Rattle.som_wire.proofs.SelectFields.{all_own, few_some}
use Rattle.som_wire.proofs.selects.write_selects.Goals as goal

pub append_counted-requires-clause-few : goal.append_counted-requires-clause-few
append_counted-requires-clause-few c = few_some c.args.value.now c.requires

pub append_counted-requires-clause-each : goal.append_counted-requires-clause-each
append_counted-requires-clause-each c = all_own most_classes FitsSomeRanges 0 c.args.value.now c.requires
