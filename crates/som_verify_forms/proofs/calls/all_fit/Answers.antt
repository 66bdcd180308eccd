use Rattle.std.proofs.Common.{map, ◌∙◌, arith}
use Rattle.som_verify_forms.specs.declared.kind.Kind.TheVariants as kinds
use Rattle.som_verify_forms.specs.Kinds.{kind_at}
use Rattle.som_verify_forms.specs.Knowing.{all_of, facts_of}
use Rattle.som_verify_forms.proofs.CallLaws.{differ_in_length}
use Rattle.som_verify_classes.proofs.DeclaredClasses.{long_map}
use Rattle.som_verify_forms.proofs.KindLaws.{all_stand_at}
use Rattle.som_verify_forms.proofs.calls.all_fit.Goals as goal

pub returns-then-params-args : goal.returns-then-params-args
returns-then-params-args c =
    let f = kind_at (all_of c.args.known.now) in
    differ_in_length (facts_of c.args.known.now) c.args.params.now (map f c.args.args.now) (λ e. c.if-params-args.true (e ∙ long_map f c.args.args.now))

pub type_fits-requires-clause-given : goal.type_fits-requires-clause-given
type_fits-requires-clause-given c =
    all_stand_at (all_of c.args.known.now) c.args.args.now c.loop-place.place kinds.Void c.requires.args (omega (arith, c.loop-place-test.true, c.if-params-args.false))
