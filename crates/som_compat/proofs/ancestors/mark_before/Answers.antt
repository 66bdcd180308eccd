use Rattle.std.proofs.Common.{◌<◌, length, arith}
use Rattle.som_compat.specs.Views.{classes_of}
use Rattle.som_compat.proofs.Placed.{long_classes}
use Rattle.som_compat.proofs.Viewing.{known_of, parent_among, low}
use Rattle.som_compat.proofs.Fronts.{starts_before, is_front}
use Rattle.som_compat.proofs.ancestors.mark_before.Goals as goal

pub mark_keys-requires-clause-known : goal.mark_keys-requires-clause-known
mark_keys-requires-clause-known c = λ k m.
    let fs = c.args.view.now.lookup.faces.now in parent_among (classes_of fs) (known_of fs c.requires.view.conforms) c.args.own k c.requires.own (c.requires.front k m)

pub mark_reached-requires-clause-low : goal.mark_reached-requires-clause-low
mark_reached-requires-clause-low c =
    let fs = c.args.view.now.lookup.faces.now in low (classes_of fs) (known_of fs c.requires.view.conforms) c.args.view.now.rows.now c.requires.view.rows

pub mark_reached-requires-clause-long : goal.mark_reached-requires-clause-long
mark_reached-requires-clause-long c =
    let e = long_classes c.args.view.now.lookup.faces.now in let f = c.requires.view.conforms.classes in let g = c.requires.view.rows.long in
    let h = c.mark_keys.auto.marks in let w = c.requires.long in omega (arith, e, f, g, h, w)

pub mark_reached-requires-clause-before : goal.mark_reached-requires-clause-before
mark_reached-requires-clause-before c = λ k m.
    let fs = c.args.view.now.lookup.faces.now in
    (starts_before (classes_of fs) (known_of fs c.requires.view.conforms) c.args.view.now.rows.now c.requires.view.rows c.args.own c.args.front.now c.args.marks.now c.mark_keys.new.marks
    c.requires.own c.requires.front c.requires.clear c.mark_keys.ensures.within c.mark_keys.ensures.past k m).0

pub bounds-marks-own : goal.bounds-marks-own
bounds-marks-own c =
    let e = long_classes c.args.view.now.lookup.faces.now in let f = c.requires.view.conforms.classes in
    let h = c.mark_keys.auto.marks in let j = c.mark_reached.auto.marks in let w = c.requires.long in let o = c.requires.own in omega (arith, e, f, h, j, w, o)

pub returns : goal.returns
returns c =
    let fs = c.args.view.now.lookup.faces.now in
    let e = long_classes fs in let f = c.requires.view.conforms.classes in
    let h = c.mark_keys.auto.marks in let j = c.mark_reached.auto.marks in let w = c.requires.long in let o = c.requires.own in
    let lm : c.args.own < length c.mark_reached.new.marks = omega (arith, e, f, h, j, w, o) in
    is_front (classes_of fs) (known_of fs c.requires.view.conforms) c.args.view.now.rows.now c.requires.view.rows c.args.own c.args.front.now c.args.marks.now c.mark_keys.new.marks c.mark_reached.new.marks
    c.requires.own lm c.requires.front c.requires.clear c.mark_keys.ensures.within c.mark_keys.ensures.past c.mark_reached.ensures
