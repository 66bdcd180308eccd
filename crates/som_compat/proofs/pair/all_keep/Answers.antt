use Rattle.std.proofs.Common.{◌≡◌, ◌∙◌, ◌+◌, inl, inr, ℕ, drop, map, flat_map, slice_index_or, sym, ap, arith}
use Rattle.std.proofs.lemmas.Bool.{cases_lt}
use Rattle.std.proofs.lemmas.Result.{err_from_is_err_and}
use Rattle.som_model.specs.Lists.{first}
use Rattle.som_model.specs.Compatible.{class_breaks}
use Rattle.som_compat.specs.Views.{classes_of, shown}
use Rattle.som_compat.specs.Told.{told}
use Rattle.som_compat.proofs.Ending.{passes, stops, step_list}
use Rattle.som_compat.proofs.pair.all_keep.Goals as goal

pub returns-in_err-class_keeps : goal.returns-in_err-class_keeps
returns-in_err-class_keeps c =
    let F = class_breaks (classes_of c.args.old.now.lookup.faces.now) (classes_of c.args.new.now.lookup.faces.now) in
    let xs = c.args.classes.now in
    let i = c.loop-place.place in
    let x = c.class_at.result.now in
    let p = err_from_is_err_and c.from_residual.result c.from_residual.ensures.1 in
    let b = told c.in_err-class_keeps.field-0.0 in
    rw (p.1, p.2) (stops (F (shown x)) (flat_map F (map shown (drop (i + 1) xs))) b c.in_err-class_keeps.ensures
    ∙ (ap first (sym (step_list F xs i x c.loop-place-test.true c.class_at.ensures)) ∙ c.loop-place.invariant.same))

pub loop-place-preserved : goal.loop-place-preserved
loop-place-preserved c =
    let F = class_breaks (classes_of c.args.old.now.lookup.faces.now) (classes_of c.args.new.now.lookup.faces.now) in
    let xs = c.args.classes.now in
    let i = c.loop-place.place in
    let x = c.class_at.result.now in
    let rest = flat_map F (map shown (drop (i + 1) xs)) in
    record {
      same = passes (F (shown x)) rest (first rest) c.in_ok-class_keeps.ensures (λ z. first rest)
          ∙ (ap first (sym (step_list F xs i x c.loop-place-test.true c.class_at.ensures)) ∙ c.loop-place.invariant.same);
      before = λ j d lt. elim (cases_lt j c.loop-place.place) [
        | inl less ↦ c.loop-place.invariant.before j d less
        | inr ge ↦ (let e : j ≡ c.loop-place.place = omega (arith, lt, ge) in
            ap (λ (k : ℕ). first (F (shown (slice_index_or xs k d)))) e ∙ (ap (λ (f : _). first (F (shown f))) (c.class_at.ensures d) ∙ sym c.in_ok-class_keeps.ensures))
      ];
    }
