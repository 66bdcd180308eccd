use Rattle.std.proofs.Common.{◌<◌, ◌≤◌, List, length, slice_index_or, Some, Ok, sym, ap, ◌∙◌, subst, true≢false}
use Rattle.som_model.specs.declared.class.Variable.{Variable}
use Rattle.som_verify_forms.specs.Knowing.{all_of}
use Rattle.som_verify_forms.proofs.CallLaws.{no_variable, variable_got, variable_there}
use Rattle.som_verify_forms.proofs.Facts.{kind_said}
use Rattle.som_verify_forms.proofs.calls.variable_kind.Goals as goal

pub unreachable-requires : goal.unreachable-requires
unreachable-requires c =
    let all = all_of c.args.known.now in
    let v = c.index-variables-place.result in
    let d = c.decl_at.result.now in
    let lt = subst (λ (z : List Variable). c.args.place < length z) c.as_slice-variables.ensures c.if-place-variables.true in
    let place = rw c.in-Some.is at c.requires.place.class in
    let there = variable_got all c.args.at.now c.in-Some.class c.args.place d c.in-Some.is c.decl_at.ensures v lt
    ∙ ap (λ (z : List Variable). Some (slice_index_or z c.args.place v).kind) (sym c.as_slice-variables.ensures) in
    let kind = (slice_index_or c.as_slice-variables.result.now c.args.place v).kind in
    let known = c.requires.known.names.variables c.in-Some.class c.args.place kind place.1 there in
    true≢false (sym known ∙ sym (kind_said all kind) ∙ sym c.in-None.ensures.known)

pub returns-in-Some-kind_of : goal.returns-in-Some-kind_of
returns-in-Some-kind_of c =
    let v = c.index-variables-place.result in
    let d = c.decl_at.result.now in
    let lt = subst (λ (z : List Variable). c.args.place < length z) c.as_slice-variables.ensures c.if-place-variables.true in (
      variable_there (all_of c.args.known.now) c.args.at.now c.in-Some.class c.args.place d c.in-Some.is c.decl_at.ensures v lt
          ∙ ap (λ (z : List Variable). Ok (slice_index_or z c.args.place v).kind) (sym c.as_slice-variables.ensures)
          ∙ ap (λ z. Ok z) (sym c.in-Some-kind_of.ensures.is),
      c.in-Some-kind_of.ensures.stands,
    )

pub returns-else-place-variables : goal.returns-else-place-variables
returns-else-place-variables c =
    no_variable (all_of c.args.known.now) c.args.at.now c.in-Some.class c.args.place c.decl_at.result.now c.in-Some.is c.decl_at.ensures
    (subst (λ (z : List Variable). length z ≤ c.args.place) c.as_slice-variables.ensures c.if-place-variables.false)
