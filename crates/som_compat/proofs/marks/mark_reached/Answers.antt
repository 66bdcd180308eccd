use Rattle.std.proofs.Common.{◌-◌, ℕ, [], refl, inl, inr, slice_index_or, arith, subst, ◌∙◌}
use Rattle.std.proofs.lemmas.Grind.{common_steps}
use Rattle.som_model.specs.Lists.{Mem}
use Rattle.som_model.specs.Ancestors.{itself}
use Rattle.som_compat.specs.Marks.{lists_of}
use Rattle.som_compat.proofs.Marking.{all_reached, further, down, row_is}
use Rattle.som_compat.proofs.marks.mark_reached.Goals as goal

pub loop-place-init : goal.loop-place-init
loop-place-init c = record {
  sound = λ x m. record { start = x; marked = m; above = itself };
  whole = λ x p m le in_row. (let b = c.requires.before x m in absurd (omega arith));
  start = λ x m. m;
  long = refl;
  within = omega arith;
}

-- a row's member is lower than its place
pub mark_all-requires : goal.mark_all-requires
mark_all-requires c = λ p m.
    let e = c.parents.ensures ∙ row_is c.args.rows.now (c.loop-place.place - 1) in
    let h = c.requires.low (c.loop-place.place - 1) p (rw e at m) in
    omega (arith, h)

pub loop-place-preserved-then-marks-place : goal.loop-place-preserved-then-marks-place
loop-place-preserved-then-marks-place c =
    let e = c.parents.ensures ∙ row_is c.args.rows.now (c.loop-place.place - 1) in
    let all = λ (x : ℕ). c.mark_all.ensures x in
    record {
      sound = λ x m. elim ((all x).0 m) [
        | inl n ↦ c.loop-place.invariant.sound x n
        | inr n ↦ (let r = c.loop-place.invariant.sound (c.loop-place.place - 1) c.if-marks-place.true in
            record { start = r.start; marked = r.marked; above = further (lists_of c.args.rows.now) r.start (c.loop-place.place - 1) x r.above (rw e at n) })
      ];
      whole = λ x p m le in_row.
          let e2 = c.parents.ensures ∙ row_is c.args.rows.now (c.loop-place.place - 1) in
          elim ((all x).0 m) [
            | inl n ↦ (elim (down x c.loop-place.place le) [
              | inl at ↦ (all p).1 (inr (rw e2 (subst (λ (z : ℕ). Mem p (slice_index_or (lists_of c.args.rows.now) z [])) at in_row)))
              | inr over ↦ (all p).1 (inl (c.loop-place.invariant.whole x p n over in_row))
            ])
            | inr n ↦ (let h = c.requires.low (c.loop-place.place - 1) x (rw e2 at n) in absurd (omega (arith, h)))
          ];
      start = λ x m. (all x).1 (inl (c.loop-place.invariant.start x m));
      long = grind (arith, common_steps);
      within = omega arith;
    }

pub returns : goal.returns
returns c = λ k. (
  λ m. c.loop-place.invariant.sound k m,
  λ r. all_reached (lists_of c.args.rows.now) c.loop-place.marks (λ x p m n. c.loop-place.invariant.whole x p m (omega arith) n) r.start k r.above (c.loop-place.invariant.start r.start r.marked),
)
