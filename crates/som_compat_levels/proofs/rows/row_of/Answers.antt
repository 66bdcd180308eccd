use Rattle.std.proofs.Common.{◌∙◌, length, arith}
use Rattle.som_verify_classes.proofs.Rows.{take_whole}
use Rattle.som_compat.proofs.Placed.{mem_at as there}
use Rattle.som_compat_levels.specs.Standing.{classes_of}
use Rattle.som_compat_levels.proofs.Keyed.{long_classes}
use Rattle.som_compat_levels.proofs.Listing.{row_more, within_more}
use Rattle.som_compat_levels.proofs.rows.row_of.Goals as goal

pub known_place-requires : goal.known_place-requires
known_place-requires c = c.requires c.parent-item.result (there c.args.parents.now c.loop-parent.parent-index c.parent-item.result c.loop-parent-test.true c.parent-item.is)

pub loop-parent-preserved : goal.loop-parent-preserved
loop-parent-preserved c =
    let cs = classes_of c.args.classes.now in
    let long = long_classes c.args.classes.now in
    rw c.in_ok-push.ensures.ok (record {
      keys = row_more cs c.loop-parent.row c.args.parents.now c.loop-parent.parent-index c.known_place.result c.parent-item.result c.loop-parent-test.true c.parent-item.is c.known_place.ensures.is c.loop-parent.invariant.keys;
      within = within_more (length cs) c.known_place.result c.loop-parent.row (omega (arith, long, c.known_place.ensures.below)) c.loop-parent.invariant.within;
    })

pub returns : goal.returns
returns c = record { keys = c.loop-parent.invariant.keys ∙ take_whole c.args.parents.now c.loop-parent.parent-index c.loop-parent-test.false; within = c.loop-parent.invariant.within }
