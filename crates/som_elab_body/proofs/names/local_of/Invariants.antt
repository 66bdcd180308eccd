use Rattle.std.proofs.Common.{◌≡◌, drop}
use Rattle.std.specs.Str.{bytes_eq}
use Rattle.som_model.specs.Lists.{place_from}
use Rattle.som_elab_body.specs.declared.local.Local.{Local as Lent}
use Rattle.som_elab_body.specs.Forms.{local_place}
use Rattle.som_elab_body.proofs.names.local_of.Given as goal

abbrev pub invariant-loop-place : goal.invariant-loop-place
invariant-loop-place l = place_from l.place (λ (x : Lent). bytes_eq l.name x.name.now) (drop l.place l.locals) ≡ local_place l.locals l.name
