use Rattle.std.proofs.Common.{◌≡◌, ◌++◌, drop}
use Rattle.som_elab_methods.specs.Texts.{given}
use Rattle.som_elab_methods.proofs.texts.add_texts.Given as goal

abbrev pub invariant-loop-text : goal.invariant-loop-text
invariant-loop-text l = given l.all.items ++ drop l.text-index l.texts ≡ given l.fn.all.items ++ l.texts
