use Rattle.std.proofs.Common.{ℕ, subst, sym}
use Rattle.som_model.specs.Ancestors.{Descends}
use Rattle.som_model.specs.Classes.{hierarchy}
use Rattle.som_meta.specs.Numbering.{key_at}
use Rattle.som_classmgr.proofs.Asking.{below_told, made_number}
use Rattle.som_classmgr.proofs.runtime.KernelLinkedRuntime.place.Goals as goal

pub data_place-requires-clause-made : goal.data_place-requires-clause-made
data_place-requires-clause-made c = made_number c.args.self.now c.classes-classes.ensures.linked c.classes-classes.ensures.loaded c.args.object c.requires.object c.requires.made

pub data_place-requires-clause-below : goal.data_place-requires-clause-below
data_place-requires-clause-below c =
    let k = c.args.self.now.classes in
    subst (λ (t : ℕ × ℕ). Descends (hierarchy k.classes) (key_at k c.args.object) (key_at k t.0)) (sym c.data_token.ensures.token)
    (below_told k c.classes-classes.ensures.loaded (key_at k c.args.object) (key_at k c.args.class) (sym c.if-is_a.ensures))
