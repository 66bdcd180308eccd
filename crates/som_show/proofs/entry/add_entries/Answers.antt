use Rattle.som_show.proofs.Joined.{entries_on}
use Rattle.som_show.proofs.entry.add_entries.Goals as goal

pub loop-place-preserved : goal.loop-place-preserved
loop-place-preserved c =
    entries_on c.args.entries.now c.loop-place.place c.index-entries-place.result c.args.lines.now c.loop-place.lines c.push.new.self c.in_ok-shown_entry.field-0
    c.loop-place-test.true c.index-entries-place.is c.loop-place.invariant c.in_ok-push.ensures.ok c.in_ok-shown_entry.ensures
