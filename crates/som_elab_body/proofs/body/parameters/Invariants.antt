use Rattle.som_verify_forms.specs.Knowing.{all_of}
use Rattle.som_elab_body.proofs.Parameters.{ArePlaced}
use Rattle.som_elab_body.proofs.body.parameters.Given as goal

abbrev pub invariant-loop-place : goal.invariant-loop-place
invariant-loop-place l = ArePlaced (all_of l.known) l.words l.types l.place l.locals.items
