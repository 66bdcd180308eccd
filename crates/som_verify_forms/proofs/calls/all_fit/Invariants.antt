use Rattle.std.proofs.Common.{◌≡◌, drop, map}
use Rattle.som_model.specs.Typing as typing
use Rattle.som_verify_forms.specs.Kinds.{kind_at}
use Rattle.som_verify_forms.specs.Knowing.{all_of, facts_of}
use Rattle.som_verify_forms.proofs.calls.all_fit.Given as goal

abbrev pub invariant-loop-place : goal.invariant-loop-place
invariant-loop-place l =
    typing.all_fit (facts_of l.known) l.params (map (kind_at (all_of l.known)) l.args)
    ≡ typing.all_fit (facts_of l.known) (drop l.place l.params) (map (kind_at (all_of l.known)) (drop l.place l.args))
