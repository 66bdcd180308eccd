use Rattle.std.proofs.Common.{ap, ◌∙◌, slice_set, ◌++◌, ◌∷◌, []}
use Rattle.som_elab_methods.specs.Grouped.{groups_of}
use Rattle.som_elab_methods.proofs.Grouping.{groups_more}
use Rattle.som_elab_methods.proofs.grouped.add_to.Goals as goal

pub returns : goal.returns
returns c = ap (λ z. groups_of (slice_set c.args.groups.now.items c.args.place z)) (c.in_ok-push.ensures.ok ∙ ap (λ z. z ++ c.args.text ∷ []) c.index_mut.ensures.value) ∙ groups_more c.args.groups.now.items c.args.place _ c.args.text c.requires
