use Rattle.std.proofs.Common.{◌∙◌}
use Rattle.indexmap.proofs.CallerLemmas.{insert_entry-new}
use Rattle.som_class_ids.proofs.Listing.{put_others}
use Rattle.som_class_ids.proofs.made_table.put.Goals as goal

pub returns-clause-others : goal.returns-clause-others
returns-clause-others c = λ others other.
    put_others (λ k. k.items) c.args.parents c.args.class c.args.table.now.entries c.insert.new.self.entries
    (c.in-Ok.ensures.entries ∙ insert_entry-new _ c.args.table.now c.args.parents c.args.class c.requires.fresh) others other
