use Rattle.som_verify_forms.specs.declared.kind.Kind.TheVariants as kinds
use Rattle.som_verify_forms.proofs.KindLaws.{local_there, no_local, types_at}
use Rattle.som_verify_forms.proofs.forms.local_kind.Goals as goal

pub returns-then-place-scope : goal.returns-then-place-scope
returns-then-place-scope c = λ cs are.
    (local_there cs c.args.scope.now c.args.place kinds.Void c.if-place-scope.true, types_at cs c.args.scope.now c.args.place kinds.Void are c.if-place-scope.true)

pub returns-else-place-scope : goal.returns-else-place-scope
returns-else-place-scope c = λ cs are. no_local cs c.args.scope.now c.args.place c.if-place-scope.false
