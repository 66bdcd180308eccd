use Rattle.std.proofs.Common.{◌≡◌, drop, map}
use Rattle.som_elab_body.specs.Expressions.{parts}
use Rattle.som_elab_body.specs.Code.{classes_at}
use Rattle.som_elab_body.specs.Forms.{AreParts, elab_at, parts_at}
use Rattle.som_elab_body.proofs.PartLaws.{after_parts}
use Rattle.som_elab_body.proofs.expressions.+texts.Given as goal

abbrev pub invariant-parts_of_texts-loop-text : goal.invariant-parts_of_texts-loop-text
invariant-parts_of_texts-loop-text l = record {
  made : parts (map (elab_at l.context l.locals) l.texts) ≡ after_parts (parts_at (classes_at l.context) l.made) (parts (map (elab_at l.context l.locals) (drop l.text-index l.texts)));
  are : AreParts (classes_at l.context) l.made;
}
