use Rattle.std.proofs.Common.{◌≡◌, ◌∙◌, ◌<◌, length, slice_index_or, slice_set, ap, sym, arith}
use Rattle.som_model.specs.declared.class.ClassFace.{ClassFace}
use Rattle.som_model.specs.declared.key.ClassKey.TheVariants as keys
use Rattle.som_model.specs.Lists.{first}
use Rattle.som_verify_classes.specs.Places.{class_of_place, key_at}
use Rattle.som_compat_levels.specs.Pairs.{IsPair}
use Rattle.som_compat_levels.specs.Tables.{classes_in}
use Rattle.som_compat_levels.proofs.Failing.{told_nameless}
use Rattle.som_compat_levels.proofs.Keyed.{key_of, long_classes}
use Rattle.som_compat_levels.proofs.Known.{known}
use Rattle.som_compat_levels.proofs.Pairing.{always_ok, begun_kept, breaks_found, breaks_missing, next_paired}
use Rattle.som_compat_levels.proofs.pair.class_keeps.Goals as goal

pub returns-in-None-clause-tells : goal.returns-in-None-clause-tells
returns-in-None-clause-tells c =
    let O = classes_in c.args.old.now in
    let N = classes_in c.args.new.now in
    let place = c.args.place in
    let ps = c.args.old.now.classes.now in
    let d = c.index-old-place.result in
    let p = slice_index_or ps place d in
    let long = long_classes ps in
    let lt : place < length ps = omega (arith, long, c.requires.place) in
    let f = c.face_at-class.result.now in
    let key_is : keys.Named p.module f.name ≡ key_at O place =
    ap (λ (z : ClassFace). keys.Named p.module z.name) c.face_at-class.ensures ∙ key_of ps place d lt in
    sym (breaks_missing O N (class_of_place O place) (keys.Named p.module f.name) key_is c.in-None.ensures.finds
    ∙ told_nameless 1 0 (class_of_place O place) f.name (ap (λ (z : ClassFace). z.name) c.face_at-class.ensures))

pub pair_keeps-requires-clause-pairs : goal.pair_keeps-requires-clause-pairs
pair_keeps-requires-clause-pairs c =
    let O = classes_in c.args.old.now in
    let N = classes_in c.args.new.now in
    let place = c.args.place in
    let other = c.in-Some.other in
    let ps = c.args.old.now.classes.now in
    let d = c.index-old-place.result in
    let p = slice_index_or ps place d in
    let long = long_classes ps in
    let lt : place < length ps = omega (arith, long, c.requires.place) in
    let f = c.face_at-class.result.now in
    let key_is : keys.Named p.module f.name ≡ key_at O place =
    ap (λ (z : ClassFace). keys.Named p.module z.name) c.face_at-class.ensures ∙ key_of ps place d lt in
    let pair : IsPair O N place other = record { within = c.in-Some.ensures.finds.1; same = c.in-Some.ensures.finds.2 ∙ key_is } in
    let paired = next_paired O N place other c.args.pairs.now c.requires.place pair c.requires.pairs in
    rw c.set_number.ensures paired

pub pair_keeps-requires-clause-orders : goal.pair_keeps-requires-clause-orders
pair_keeps-requires-clause-orders c = rw c.set_number.ensures (begun_kept (classes_in c.args.old.now) (classes_in c.args.new.now) c.args.place c.in-Some.other c.args.pairs.now c.requires.orders)

pub returns-in-Some-clause-tells : goal.returns-in-Some-clause-tells
returns-in-Some-clause-tells c =
    let O = classes_in c.args.old.now in
    let N = classes_in c.args.new.now in
    let place = c.args.place in
    let other = c.in-Some.other in
    let ps = c.args.old.now.classes.now in
    let d = c.index-old-place.result in
    let p = slice_index_or ps place d in
    let long = long_classes ps in
    let lt : place < length ps = omega (arith, long, c.requires.place) in
    let f = c.face_at-class.result.now in
    let key_is : keys.Named p.module f.name ≡ key_at O place =
    ap (λ (z : ClassFace). keys.Named p.module z.name) c.face_at-class.ensures ∙ key_of ps place d lt in
    let pair : IsPair O N place other = record { within = c.in-Some.ensures.finds.1; same = c.in-Some.ensures.finds.2 ∙ key_is } in
    let paired = next_paired O N place other c.args.pairs.now c.requires.place pair c.requires.pairs in
    let there = paired.by place (omega arith) in
    rw c.set_number.ensures at (c.pair_keeps.ensures.tells) ∙ ap first (breaks_found O N (class_of_place O place) (known N c.requires.new.stand) (slice_index_or (slice_set c.args.pairs.now place other) place 0) there.within there.same)

pub returns-in-Some-clause-pairs : goal.returns-in-Some-clause-pairs
returns-in-Some-clause-pairs c =
    let O = classes_in c.args.old.now in
    let N = classes_in c.args.new.now in
    let place = c.args.place in
    let other = c.in-Some.other in
    let ps = c.args.old.now.classes.now in
    let d = c.index-old-place.result in
    let p = slice_index_or ps place d in
    let long = long_classes ps in
    let lt : place < length ps = omega (arith, long, c.requires.place) in
    let f = c.face_at-class.result.now in
    let key_is : keys.Named p.module f.name ≡ key_at O place =
    ap (λ (z : ClassFace). keys.Named p.module z.name) c.face_at-class.ensures ∙ key_of ps place d lt in
    let pair : IsPair O N place other = record { within = c.in-Some.ensures.finds.1; same = c.in-Some.ensures.finds.2 ∙ key_is } in
    let paired = next_paired O N place other c.args.pairs.now c.requires.place pair c.requires.pairs in
    always_ok c.pair_keeps.result (rw c.set_number.ensures paired)
