use Rattle.std.proofs.Common.{◌∙◌, List, ℕ, Option, Some, None, slice_index_or, ap, sym, arith}
use Rattle.som_model.specs.Classes.{is_a}
use Rattle.som_model.specs.Metaclass.{meta}
use Rattle.som_verify_classes.specs.Places.{class_of_place, face_at, key_at}
use Rattle.som_compat.proofs.Declaring.{k6_none, k6_kept, k6_lost}
use Rattle.som_compat_levels.specs.Tables.{classes_in}
use Rattle.som_compat_levels.proofs.Descent.{name_declared}
use Rattle.som_compat_levels.proofs.Failing.{told_is}
use Rattle.som_compat_levels.proofs.Keyed.{key_here}
use Rattle.som_compat_levels.proofs.KeptMetaclasses.{new_metaclass, no_metaclass}
use Rattle.som_compat_levels.proofs.metaclasses.keeps_metaclass.Goals as goal

pub number_at-requires-in-Some : goal.number_at-requires-in-Some
number_at-requires-in-Some c =
    let O = classes_in c.args.old.now in
    let N = classes_in c.args.new.now in
    let ms = c.args.old.now.tables.now.metaclasses.items in
    let here = ap (λ (z : List (Option ℕ)). slice_index_or z c.args.place None) (sym c.deref.ensures.value) ∙ sym c.metaclass_at.ensures in
    let m = new_metaclass O N c.requires.old.stand ms c.args.place c.in-Some.metaclass c.args.pairs.now c.requires.old.tables.metaclasses c.requires.place c.requires.pairs (here ∙ c.in-Some.is) in
    m.low

pub metaclass_descends-requires-clause-top : goal.metaclass_descends-requires-clause-top
metaclass_descends-requires-clause-top c =
    let O = classes_in c.args.old.now in
    let N = classes_in c.args.new.now in
    let ms = c.args.old.now.tables.now.metaclasses.items in
    let here = ap (λ (z : List (Option ℕ)). slice_index_or z c.args.place None) (sym c.deref.ensures.value) ∙ sym c.metaclass_at.ensures in
    let m = new_metaclass O N c.requires.old.stand ms c.args.place c.in-Some.metaclass c.args.pairs.now c.requires.old.tables.metaclasses c.requires.place c.requires.pairs (here ∙ c.in-Some.is) in
    let l = m.new in
    omega (arith, c.number_at-in-Some.ensures, l)

pub returns-in-None-clause-tells : goal.returns-in-None-clause-tells
returns-in-None-clause-tells c =
    let O = classes_in c.args.old.now in
    let N = classes_in c.args.new.now in
    let ms = c.args.old.now.tables.now.metaclasses.items in
    let here = ap (λ (z : List (Option ℕ)). slice_index_or z c.args.place None) (sym c.deref.ensures.value) ∙ sym c.metaclass_at.ensures in
    sym (k6_none N (class_of_place O c.args.place) (no_metaclass O ms c.args.place c.requires.old.tables.metaclasses c.requires.place (here ∙ c.in-None.is)))

pub returns-then-metaclass_descends-clause-tells : goal.returns-then-metaclass_descends-clause-tells
returns-then-metaclass_descends-clause-tells c =
    let O = classes_in c.args.old.now in
    let N = classes_in c.args.new.now in
    let ms = c.args.old.now.tables.now.metaclasses.items in
    let here = ap (λ (z : List (Option ℕ)). slice_index_or z c.args.place None) (sym c.deref.ensures.value) ∙ sym c.metaclass_at.ensures in
    let m = new_metaclass O N c.requires.old.stand ms c.args.place c.in-Some.metaclass c.args.pairs.now c.requires.old.tables.metaclasses c.requires.place c.requires.pairs (here ∙ c.in-Some.is) in
    let place_is = ap (key_at N) c.number_at.ensures ∙ (c.requires.pairs.by c.args.place (omega arith)).same in
    let top_is = ap (key_at N) c.number_at-in-Some.ensures ∙ m.same in
    let test = ap (λ z. is_a N (meta N z) (key_at O c.in-Some.metaclass)) (sym place_is) ∙ ap (is_a N (meta N (key_at N c.number_at.result))) (sym top_is) ∙ sym c.metaclass_descends.ensures.is in
    let k = class_of_place O c.args.place in
    sym (k6_kept N k (key_at O c.in-Some.metaclass) m.declared (test ∙ c.if-metaclass_descends.true))

pub class_name-requires-else-metaclass_descends : goal.class_name-requires-else-metaclass_descends
class_name-requires-else-metaclass_descends c =
    let O = classes_in c.args.old.now in
    let N = classes_in c.args.new.now in
    let ms = c.args.old.now.tables.now.metaclasses.items in
    let here = ap (λ (z : List (Option ℕ)). slice_index_or z c.args.place None) (sym c.deref.ensures.value) ∙ sym c.metaclass_at.ensures in
    let m = new_metaclass O N c.requires.old.stand ms c.args.place c.in-Some.metaclass c.args.pairs.now c.requires.old.tables.metaclasses c.requires.place c.requires.pairs (here ∙ c.in-Some.is) in
    m.within

pub returns-else-metaclass_descends-clause-tells : goal.returns-else-metaclass_descends-clause-tells
returns-else-metaclass_descends-clause-tells c =
    let O = classes_in c.args.old.now in
    let N = classes_in c.args.new.now in
    let ms = c.args.old.now.tables.now.metaclasses.items in
    let here = ap (λ (z : List (Option ℕ)). slice_index_or z c.args.place None) (sym c.deref.ensures.value) ∙ sym c.metaclass_at.ensures in
    let m = new_metaclass O N c.requires.old.stand ms c.args.place c.in-Some.metaclass c.args.pairs.now c.requires.old.tables.metaclasses c.requires.place c.requires.pairs (here ∙ c.in-Some.is) in
    let place_is = ap (key_at N) c.number_at.ensures ∙ (c.requires.pairs.by c.args.place (omega arith)).same in
    let top_is = ap (key_at N) c.number_at-in-Some.ensures ∙ m.same in
    let test = ap (λ z. is_a N (meta N z) (key_at O c.in-Some.metaclass)) (sym place_is) ∙ ap (is_a N (meta N (key_at N c.number_at.result))) (sym top_is) ∙ sym c.metaclass_descends.ensures.is in
    let k = class_of_place O c.args.place in
    let named = key_here c.args.old.now.classes.now c.in-Some.metaclass m.within in
    let name = (face_at O c.in-Some.metaclass).name in
    sym (k6_lost N k (key_at O c.in-Some.metaclass) (Some name) m.declared (test ∙ c.if-metaclass_descends.false) (sym (name_declared (key_at O c.in-Some.metaclass) named.0 name named.1))
    ∙ told_is 6 0 k c.class_name.result.now c.class_name-else-metaclass_descends.result.now name c.class_name.ensures c.class_name-else-metaclass_descends.ensures)
