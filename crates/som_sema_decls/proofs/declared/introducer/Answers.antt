use Rattle.std.proofs.Common.{◌<◌, [], length, slice_index_or, sym, ap, ◌∙◌, subst}
use Rattle.som_verify_classes.specs.Modules.{classes_of}
use Rattle.som_verify_classes.specs.Places.{key_at, with_kernel}
use Rattle.som_sema_decls.proofs.Introducers.{introducer_is, introducer_low}
use Rattle.som_sema_decls.proofs.declared.introducer.Goals as goal

pub introducer_place-at-requires : goal.introducer_place-at-requires
introducer_place-at-requires c = (with_kernel (classes_of c.args.classes.now), (slice_index_or c.args.lists.now c.args.place [], c.requires.above))

pub key_at-requires-clause-place : goal.key_at-requires-clause-place
key_at-requires-clause-place c =
    let cs = with_kernel (classes_of c.args.classes.now) in
    subst (λ p. p < length cs) (sym (c.introducer_place-at.ensures _ _ c.requires.above)) (introducer_low cs c.args.lists.now c.requires.lists c.args.place c.args.name.now c.requires.place)

pub returns : goal.returns
returns c =
    let cs = with_kernel (classes_of c.args.classes.now) in
    c.in_ok-key.ensures ∙ ap (key_at cs) (c.introducer_place-at.ensures _ _ c.requires.above) ∙ sym (introducer_is cs c.args.lists.now c.requires.lists c.args.place c.args.name.now c.requires.place)
