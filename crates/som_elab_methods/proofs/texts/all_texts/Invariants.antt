use Rattle.std.proofs.Common.{◌≡◌, ◌++◌, drop}
use Rattle.som_elab_methods.specs.Bodies.{bodies_of}
use Rattle.som_elab_methods.specs.Texts.{given}
use Rattle.som_elab_methods.proofs.texts.all_texts.Given as goal

abbrev pub invariant-loop-file : goal.invariant-loop-file
invariant-loop-file l = given l.all.items ++ bodies_of (drop l.file-index l.files) ≡ bodies_of l.files
