use Rattle.std.proofs.Common.{take}
use Rattle.som_order.specs.Names.{texts}
use Rattle.som_elab_methods.specs.Tables.{AreCounted}
use Rattle.som_elab_methods.specs.Texts.{given}
use Rattle.som_elab_methods.proofs.body_names.BodyNames.noted.Given as goal

abbrev pub invariant-loop-text : goal.invariant-loop-text
invariant-loop-text l = AreCounted (given (take l.text-index l.own)) l.draft.decl.face.name (texts l.all.keys) (texts l.repeated.keys)
