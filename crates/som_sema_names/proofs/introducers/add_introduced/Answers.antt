use Rattle.std.proofs.Common.{[], ◌∷◌, ap}
use Rattle.som_model.specs.Class.{introduced}
use Rattle.som_order.specs.Names.{texts}
use Rattle.som_sema_names.proofs.Seen.{entries_end, entries_first, entry_new, entry_old, not_introduced}
use Rattle.som_sema_names.proofs.introducers.add_introduced.Goals as goal
use Rattle.som_sema_names.proofs.introducers.add_introduced.Goals.{in-Introduced+in_ok-add, in_default}

pub loop-entry-init : goal.loop-entry-init
loop-entry-init c = record {
  long = c.requires;
  seen = λ seen g. entries_first seen c.args.place c.args.entries.now (texts c.args.names.now.keys) c.args.places.now.items g;
}

pub loop-entry-preserved : goal.loop-entry-preserved
loop-entry-preserved c = elim c.match-entry.branch [
  | in-Introduced+in_ok-add w ↦ rw (w.names-is, w.places-is) (record {
    long = w.in_ok-add.ensures.long;
    seen = λ seen g. entry_new seen c.args.place c.args.entries.now c.loop-entry.entry-index c.entry-item.result _ w.as_slice.result.now w.in-Introduced.name
        (texts w.add.new.names.keys) w.add.new.places.items c.loop-entry-test.true c.entry-item.is (ap (λ e. introduced (e ∷ [])) w.in-Introduced.is) w.as_slice.ensures
        (w.in_ok-add.ensures.seen _ (c.loop-entry.invariant.seen seen g));
  })
  | in_default w ↦ rw (w.names-is, w.places-is) (record {
    long = c.loop-entry.invariant.long;
    seen = λ seen g. entry_old seen c.args.place c.args.entries.now c.loop-entry.entry-index c.entry-item.result _ (texts c.loop-entry.names.keys) c.loop-entry.places.items
        c.loop-entry-test.true c.entry-item.is (not_introduced c.entry-item.result w.in_default.not-Introduced) (c.loop-entry.invariant.seen seen g);
  })
]

pub returns-clause-seen : goal.returns-clause-seen
returns-clause-seen c = λ seen g. entries_end seen c.args.place c.args.entries.now c.loop-entry.entry-index (texts c.loop-entry.names.keys) c.loop-entry.places.items c.loop-entry-test.false (c.loop-entry.invariant.seen seen g)
