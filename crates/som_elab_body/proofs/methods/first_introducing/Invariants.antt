use Rattle.std.proofs.Common.{◌≡◌, drop}
use Rattle.som_verify_forms.specs.Knowing.{all_of}
use Rattle.som_elab_body.specs.Forms.{first_method}
use Rattle.som_elab_body.proofs.methods.first_introducing.Given as goal

abbrev pub invariant-loop-place : goal.invariant-loop-place
invariant-loop-place l = first_method (all_of l.known) l.name (drop l.place-index l.list) ≡ first_method (all_of l.known) l.name l.list
