use Rattle.std.proofs.Common.{inl, inr, refl, ℕ, true, slice_set, arith}
use Rattle.std.proofs.lemmas.List.{length-set}
use Rattle.som_compat.specs.Views.{classes_of}
use Rattle.som_compat.proofs.Marking.{marked_set}
use Rattle.som_compat.proofs.Placed.{long_classes}
use Rattle.som_compat.proofs.Viewing.{known_of, low, are_above}
use Rattle.som_compat.proofs.view.mark_ancestors.Goals as goal

pub bounds-marks-place : goal.bounds-marks-place
bounds-marks-place c = let e = long_classes c.args.view.now.lookup.faces.now in let f = c.requires.view.conforms.classes in omega (arith, e, f)

pub mark_reached-requires-clause-low : goal.mark_reached-requires-clause-low
mark_reached-requires-clause-low c =
    let fs = c.args.view.now.lookup.faces.now in low (classes_of fs) (known_of fs c.requires.view.conforms) c.args.view.now.rows.now c.requires.view.rows

pub mark_reached-requires-clause-long : goal.mark_reached-requires-clause-long
mark_reached-requires-clause-long c =
    let e = long_classes c.args.view.now.lookup.faces.now in let f = c.requires.view.conforms.classes in let g = c.requires.view.rows.long in
    let h = length-set c.args.marks.now c.args.place true in omega (arith, e, f, g, h)

pub returns : goal.returns
returns c =
    let fs = c.args.view.now.lookup.faces.now in
    let e = long_classes fs in let f = c.requires.view.conforms.classes in
    let set = λ (k : ℕ). marked_set c.args.marks.now c.args.place k (omega (arith, e, f)) in
    are_above (classes_of fs) (known_of fs c.requires.view.conforms) c.args.view.now.rows.now c.requires.view.rows c.args.place (slice_set c.args.marks.now c.args.place true) c.mark_reached.new.marks
    c.requires.place ((set c.args.place).1 (inr refl)) (λ k m. elim ((set k).0 m) [ inl n ↦ absurd (c.requires.clear k n) | inr n ↦ n ]) c.mark_reached.ensures
