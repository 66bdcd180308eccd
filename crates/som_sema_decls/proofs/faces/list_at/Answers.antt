use Rattle.std.proofs.Common.{[], ◌∙◌}
use Rattle.std.proofs.lemmas.List.{get_or_read}
use Rattle.som_sema_decls.proofs.faces.list_at.Goals as goal

pub returns : goal.returns
returns c = c.as_slice.ensures ∙ get_or_read c.args.lists.now c.args.place _ c.requires c.index-lists-place.is []
