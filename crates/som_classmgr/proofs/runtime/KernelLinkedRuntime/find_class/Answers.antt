use Rattle.std.proofs.Common.{◌∙◌, ◌∷◌, [], ap, sym}
use Rattle.std.specs.Int.{w32}
use Rattle.std.proofs.lemmas.Int.{to_z-of_z}
use Rattle.som_semantics.specs.Invoked.{class_found}
use Rattle.som_semantics.specs.State.{Long, Str}
use Rattle.som_semantics.specs.World.{World}
use Rattle.som_classmgr.proofs.Asking.{answers_are}
use Rattle.som_classmgr.proofs.runtime.KernelLinkedRuntime.find_class.Goals as goal

pub returns-clause-key : goal.returns-clause-key
returns-clause-key c =
    (rw (to_z-of_z w32 c.args.major c.ranges.major, to_z-of_z w32 c.args.minor c.ranges.minor) at c.find_class.ensures.key)
    ∙ ap (λ (w : World). class_found w (Str c.args.name.now ∷ Long c.args.major ∷ Long c.args.minor ∷ [])) (sym (answers_are c.args.self.now.classes.classes))
