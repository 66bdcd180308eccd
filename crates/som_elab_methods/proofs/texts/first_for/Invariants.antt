use Rattle.std.proofs.Common.{◌≡◌, drop}
use Rattle.som_model.specs.Lists.{first}
use Rattle.som_elab_methods.specs.Bodies.{texts_for}
use Rattle.som_elab_methods.specs.Texts.{given}
use Rattle.som_elab_methods.proofs.texts.first_for.Given as goal

abbrev pub invariant-loop-text : goal.invariant-loop-text
invariant-loop-text l = first (texts_for (given (drop l.text-index l.texts)) l.class l.method) ≡ first (texts_for (given l.texts) l.class l.method)
