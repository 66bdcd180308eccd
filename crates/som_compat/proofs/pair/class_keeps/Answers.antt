use Rattle.std.proofs.Common.{◌∙◌, ◌++◌, ◌+◌, Some, sym, ap, arith}
use Rattle.std.proofs.lemmas.Result.{err_from_is_err_and}
use Rattle.som_model.specs.Lists.{first}
use Rattle.som_model.specs.Compatible.{k2, k3, k4, k5, k6}
use Rattle.som_compat.specs.Views.{classes_of, shown}
use Rattle.som_compat.specs.Told.{told}
use Rattle.som_compat.proofs.Viewing.{counted_at}
use Rattle.som_compat.proofs.Ending.{passes, stops, old_there, counted_old, pair_of, among_new, marks_new, declared_old, breaks_found, breaks_missing, earlier_hold}
use Rattle.som_compat.proofs.pair.class_keeps.Goals as goal

pub returns-in-None : goal.returns-in-None
returns-in-None c =
    let olds = c.args.old.now.lookup.faces.now in
    let news = c.args.new.now.lookup.faces.now in
    let f = c.args.class.now in
    let okO = c.requires.old.conforms in
    let okN = c.requires.new.conforms in
    sym (ap first (breaks_missing olds news okO okN f c.in-None.ensures.finds))

pub keeps_ancestors-requires-clause-place : goal.keeps_ancestors-requires-clause-place
keeps_ancestors-requires-clause-place c =
    let olds = c.args.old.now.lookup.faces.now in
    let news = c.args.new.now.lookup.faces.now in
    let f = c.args.class.now in
    let okO = c.requires.old.conforms in
    let okN = c.requires.new.conforms in
    (old_there olds news okO okN f c.args.place c.requires.place c.requires.class).0

pub keeps_ancestors-requires-clause-class : goal.keeps_ancestors-requires-clause-class
keeps_ancestors-requires-clause-class c =
    let olds = c.args.old.now.lookup.faces.now in
    let news = c.args.new.now.lookup.faces.now in
    let f = c.args.class.now in
    let okO = c.requires.old.conforms in
    let okN = c.requires.new.conforms in
    (old_there olds news okO okN f c.args.place c.requires.place c.requires.class).1

pub keeps_ancestors-requires-clause-known : goal.keeps_ancestors-requires-clause-known
keeps_ancestors-requires-clause-known c =
    let olds = c.args.old.now.lookup.faces.now in
    let news = c.args.new.now.lookup.faces.now in
    let f = c.args.class.now in
    let okO = c.requires.old.conforms in
    let okN = c.requires.new.conforms in
    let g = c.face-face.result.now in
    let pair = pair_of olds news okO okN f c.args.place c.in-Some.other g c.requires.place c.requires.class c.in-Some.ensures.below c.face-face.ensures c.in-Some.ensures.finds.1 in
    among_new olds news okO okN f g pair

pub keeps_ancestors-requires-clause-marks : goal.keeps_ancestors-requires-clause-marks
keeps_ancestors-requires-clause-marks c =
    let olds = c.args.old.now.lookup.faces.now in
    let news = c.args.new.now.lookup.faces.now in
    let f = c.args.class.now in
    let okO = c.requires.old.conforms in
    let okN = c.requires.new.conforms in
    let g = c.face-face.result.now in
    let pair = pair_of olds news okO okN f c.args.place c.in-Some.other g c.requires.place c.requires.class c.in-Some.ensures.below c.face-face.ensures c.in-Some.ensures.finds.1 in
    marks_new olds news okO okN f g pair (c.in-Some.other + 4) c.ancestors_of-marks.result c.face-face.ensures c.ancestors_of-marks.ensures

pub keeps_metaclass-requires-clause-known : goal.keeps_metaclass-requires-clause-known
keeps_metaclass-requires-clause-known c =
    let olds = c.args.old.now.lookup.faces.now in
    let news = c.args.new.now.lookup.faces.now in
    let f = c.args.class.now in
    let okO = c.requires.old.conforms in
    let okN = c.requires.new.conforms in
    let g = c.face-face.result.now in
    let pair = pair_of olds news okO okN f c.args.place c.in-Some.other g c.requires.place c.requires.class c.in-Some.ensures.below c.face-face.ensures c.in-Some.ensures.finds.1 in
    among_new olds news okO okN f g pair

pub keeps_metaclass-requires-clause-marks : goal.keeps_metaclass-requires-clause-marks
keeps_metaclass-requires-clause-marks c =
    let olds = c.args.old.now.lookup.faces.now in
    let news = c.args.new.now.lookup.faces.now in
    let f = c.args.class.now in
    let okO = c.requires.old.conforms in
    let okN = c.requires.new.conforms in
    let g = c.face-face.result.now in
    let pair = pair_of olds news okO okN f c.args.place c.in-Some.other g c.requires.place c.requires.class c.in-Some.ensures.below c.face-face.ensures c.in-Some.ensures.finds.1 in
    marks_new olds news okO okN f g pair (c.in-Some.other + 4) c.ancestors_of-marks.result c.face-face.ensures c.ancestors_of-marks.ensures

pub keeps_ancestors-requires-clause-earlier : goal.keeps_ancestors-requires-clause-earlier
keeps_ancestors-requires-clause-earlier c =
    let olds = c.args.old.now.lookup.faces.now in
    let news = c.args.new.now.lookup.faces.now in
    let f = c.args.class.now in
    let okO = c.requires.old.conforms in
    let okN = c.requires.new.conforms in
    earlier_hold olds news okO okN f c.args.place c.requires.place c.requires.class c.requires.before

pub keeps_order-requires-clause-new : goal.keeps_order-requires-clause-new
keeps_order-requires-clause-new c =
    let olds = c.args.old.now.lookup.faces.now in
    let news = c.args.new.now.lookup.faces.now in
    let f = c.args.class.now in
    let okO = c.requires.old.conforms in
    let okN = c.requires.new.conforms in
    let g = c.face-face.result.now in
    (counted_at news (c.in-Some.other + 4) g okN (omega arith) (omega (arith, c.in-Some.ensures.below)) c.face-face.ensures).entries

pub keeps_signatures-requires-clause-few : goal.keeps_signatures-requires-clause-few
keeps_signatures-requires-clause-few c =
    let olds = c.args.old.now.lookup.faces.now in
    let news = c.args.new.now.lookup.faces.now in
    let f = c.args.class.now in
    let okO = c.requires.old.conforms in
    let okN = c.requires.new.conforms in
    (counted_old olds news okO okN f c.args.place c.requires.place c.requires.class).entries

pub keeps_signatures-requires-clause-pair : goal.keeps_signatures-requires-clause-pair
keeps_signatures-requires-clause-pair c =
    let olds = c.args.old.now.lookup.faces.now in
    let news = c.args.new.now.lookup.faces.now in
    let f = c.args.class.now in
    let okO = c.requires.old.conforms in
    let okN = c.requires.new.conforms in
    let g = c.face-face.result.now in
    let pair = pair_of olds news okO okN f c.args.place c.in-Some.other g c.requires.place c.requires.class c.in-Some.ensures.below c.face-face.ensures c.in-Some.ensures.finds.1 in
    pair

pub keeps_metaclass-requires-clause-declared : goal.keeps_metaclass-requires-clause-declared
keeps_metaclass-requires-clause-declared c =
    let olds = c.args.old.now.lookup.faces.now in
    let news = c.args.new.now.lookup.faces.now in
    let f = c.args.class.now in
    let okO = c.requires.old.conforms in
    let okN = c.requires.new.conforms in
    declared_old olds news okO okN f c.args.place c.requires.place c.requires.class

pub returns-in_err-keeps_version-in-Some : goal.returns-in_err-keeps_version-in-Some
returns-in_err-keeps_version-in-Some c =
    let olds = c.args.old.now.lookup.faces.now in
    let news = c.args.new.now.lookup.faces.now in
    let f = c.args.class.now in
    let okO = c.requires.old.conforms in
    let okN = c.requires.new.conforms in
    let g = c.face-face.result.now in
    let pair = pair_of olds news okO okN f c.args.place c.in-Some.other g c.requires.place c.requires.class c.in-Some.ensures.below c.face-face.ensures c.in-Some.ensures.finds.1 in
    let A = k2 (shown f) (shown g) in
    let B = k3 (classes_of olds) (classes_of news) (shown f) in
    let C = k4 (shown f) (shown g) in
    let D = k5 (classes_of olds) (classes_of news) (shown f) in
    let E = k6 (classes_of news) (shown f) in
    let all = ap first (sym (breaks_found olds news okO okN f g pair)) in
    let p = err_from_is_err_and c.from_residual.result c.from_residual.ensures.1 in
    let b = told c.in_err-keeps_version-in-Some.field-0.0 in
    rw (p.1, p.2) (stops A (B ++ (C ++ (D ++ E))) b c.in_err-keeps_version-in-Some.ensures ∙ all)

pub returns-in_err-keeps_ancestors-in-Some : goal.returns-in_err-keeps_ancestors-in-Some
returns-in_err-keeps_ancestors-in-Some c =
    let olds = c.args.old.now.lookup.faces.now in
    let news = c.args.new.now.lookup.faces.now in
    let f = c.args.class.now in
    let okO = c.requires.old.conforms in
    let okN = c.requires.new.conforms in
    let g = c.face-face.result.now in
    let pair = pair_of olds news okO okN f c.args.place c.in-Some.other g c.requires.place c.requires.class c.in-Some.ensures.below c.face-face.ensures c.in-Some.ensures.finds.1 in
    let A = k2 (shown f) (shown g) in
    let B = k3 (classes_of olds) (classes_of news) (shown f) in
    let C = k4 (shown f) (shown g) in
    let D = k5 (classes_of olds) (classes_of news) (shown f) in
    let E = k6 (classes_of news) (shown f) in
    let all = ap first (sym (breaks_found olds news okO okN f g pair)) in
    let p = err_from_is_err_and c.from_residual-in_err-keeps_ancestors-in-Some.result c.from_residual-in_err-keeps_ancestors-in-Some.ensures.1 in
    let b = told c.in_err-keeps_ancestors-in-Some.field-0.0 in
    rw (p.1, p.2) (passes A (B ++ (C ++ (D ++ E))) (Some b) c.in_ok-keeps_version-in-Some.ensures (stops B (C ++ (D ++ E)) b c.in_err-keeps_ancestors-in-Some.ensures) ∙ all)

pub returns-in_err-keeps_order-in-Some : goal.returns-in_err-keeps_order-in-Some
returns-in_err-keeps_order-in-Some c =
    let olds = c.args.old.now.lookup.faces.now in
    let news = c.args.new.now.lookup.faces.now in
    let f = c.args.class.now in
    let okO = c.requires.old.conforms in
    let okN = c.requires.new.conforms in
    let g = c.face-face.result.now in
    let pair = pair_of olds news okO okN f c.args.place c.in-Some.other g c.requires.place c.requires.class c.in-Some.ensures.below c.face-face.ensures c.in-Some.ensures.finds.1 in
    let A = k2 (shown f) (shown g) in
    let B = k3 (classes_of olds) (classes_of news) (shown f) in
    let C = k4 (shown f) (shown g) in
    let D = k5 (classes_of olds) (classes_of news) (shown f) in
    let E = k6 (classes_of news) (shown f) in
    let all = ap first (sym (breaks_found olds news okO okN f g pair)) in
    let p = err_from_is_err_and c.from_residual-in_err-keeps_order-in-Some.result c.from_residual-in_err-keeps_order-in-Some.ensures.1 in
    let b = told c.in_err-keeps_order-in-Some.field-0.0 in
    rw (p.1, p.2) (passes A (B ++ (C ++ (D ++ E))) (Some b) c.in_ok-keeps_version-in-Some.ensures (passes B (C ++ (D ++ E)) (Some b) c.in_ok-keeps_ancestors-in-Some.ensures (stops C (D ++ E) b c.in_err-keeps_order-in-Some.ensures)) ∙ all)

pub returns-in_err-keeps_signatures-in-Some : goal.returns-in_err-keeps_signatures-in-Some
returns-in_err-keeps_signatures-in-Some c =
    let olds = c.args.old.now.lookup.faces.now in
    let news = c.args.new.now.lookup.faces.now in
    let f = c.args.class.now in
    let okO = c.requires.old.conforms in
    let okN = c.requires.new.conforms in
    let g = c.face-face.result.now in
    let pair = pair_of olds news okO okN f c.args.place c.in-Some.other g c.requires.place c.requires.class c.in-Some.ensures.below c.face-face.ensures c.in-Some.ensures.finds.1 in
    let A = k2 (shown f) (shown g) in
    let B = k3 (classes_of olds) (classes_of news) (shown f) in
    let C = k4 (shown f) (shown g) in
    let D = k5 (classes_of olds) (classes_of news) (shown f) in
    let E = k6 (classes_of news) (shown f) in
    let all = ap first (sym (breaks_found olds news okO okN f g pair)) in
    let p = err_from_is_err_and c.from_residual-in_err-keeps_signatures-in-Some.result c.from_residual-in_err-keeps_signatures-in-Some.ensures.1 in
    let b = told c.in_err-keeps_signatures-in-Some.field-0.0 in
    rw (p.1, p.2) (passes A (B ++ (C ++ (D ++ E))) (Some b) c.in_ok-keeps_version-in-Some.ensures (passes B (C ++ (D ++ E)) (Some b) c.in_ok-keeps_ancestors-in-Some.ensures (passes C (D ++ E) (Some b) c.in_ok-keeps_order-in-Some.ensures (stops D E b c.in_err-keeps_signatures-in-Some.ensures))) ∙ all)

pub returns-in_ok-keeps_signatures-in-Some : goal.returns-in_ok-keeps_signatures-in-Some
returns-in_ok-keeps_signatures-in-Some c =
    let olds = c.args.old.now.lookup.faces.now in
    let news = c.args.new.now.lookup.faces.now in
    let f = c.args.class.now in
    let okO = c.requires.old.conforms in
    let okN = c.requires.new.conforms in
    let g = c.face-face.result.now in
    let pair = pair_of olds news okO okN f c.args.place c.in-Some.other g c.requires.place c.requires.class c.in-Some.ensures.below c.face-face.ensures c.in-Some.ensures.finds.1 in
    let A = k2 (shown f) (shown g) in
    let B = k3 (classes_of olds) (classes_of news) (shown f) in
    let C = k4 (shown f) (shown g) in
    let D = k5 (classes_of olds) (classes_of news) (shown f) in
    let E = k6 (classes_of news) (shown f) in
    let all = ap first (sym (breaks_found olds news okO okN f g pair)) in
    passes A (B ++ (C ++ (D ++ E))) _ c.in_ok-keeps_version-in-Some.ensures (passes B (C ++ (D ++ E)) _ c.in_ok-keeps_ancestors-in-Some.ensures (passes C (D ++ E) _ c.in_ok-keeps_order-in-Some.ensures (passes D E _ c.in_ok-keeps_signatures-in-Some.ensures c.keeps_metaclass.ensures))) ∙ all
