use Rattle.std.proofs.Common.{◌∙◌, ◌==◌, ◌&&◌, List, [], ℕ, option_copied, slice_index_or, ap, sym}
use Rattle.som_model.specs.Same.{same_option, same_sig}
use Rattle.som_verify_classes.specs.Places.{face_at}
use Rattle.som_compat_levels.specs.declared.owners.Slot.{Slot}
use Rattle.som_compat_levels.specs.Tables.{classes_in}
use Rattle.som_compat_levels.proofs.KeptMethods.{after_slot, after_there, entry_exists, is_slot, kept_there, keeps_is, old_owner, owner_low}
use Rattle.som_compat_levels.proofs.methods.keeps_method.Goals as goal

pub slot_at-after-requires-clause-number : goal.slot_at-after-requires-clause-number
slot_at-after-requires-clause-number c =
    let O = classes_in c.args.old.now in
    let N = classes_in c.args.new.now in
    let so = c.requires.old.stand in
    let sn = c.requires.new.stand in
    let olds = c.args.old.now.tables.now.owners.items in
    let news = c.args.new.now.tables.now.owners.items in
    let oo = c.requires.old.tables.owners in
    let on = c.requires.new.tables.owners in
    let pairs = c.args.pairs.now in
    let own = entry_exists (face_at O c.args.place).entries c.args.number c.requires.number in
    rw (c.deref-2.ensures.value, c.number_at.ensures) (after_there O N so sn pairs c.args.place c.requires.place c.requires.pairs c.requires.orders olds news oo on c.args.number own.0 own.1).1

pub number_at-requires-2 : goal.number_at-requires-2
number_at-requires-2 c =
    let O = classes_in c.args.old.now in
    let N = classes_in c.args.new.now in
    let so = c.requires.old.stand in
    let sn = c.requires.new.stand in
    let olds = c.args.old.now.tables.now.owners.items in
    let news = c.args.new.now.tables.now.owners.items in
    let oo = c.requires.old.tables.owners in
    let on = c.requires.new.tables.owners in
    let pairs = c.args.pairs.now in
    let own = entry_exists (face_at O c.args.place).entries c.args.number c.requires.number in
    let before_is = λ (d : Slot). c.slot_at-before.ensures d ∙ ap (λ (z : List (List Slot)). slice_index_or (slice_index_or z c.args.place []) c.args.number d) c.deref.ensures.value in
    owner_low O N so sn pairs c.args.place c.requires.place c.requires.pairs c.requires.orders olds news oo on c.args.number own.0 own.1 c.slot_at-before.result before_is

pub slot_at-kept-requires-clause-class : goal.slot_at-kept-requires-clause-class
slot_at-kept-requires-clause-class c =
    let O = classes_in c.args.old.now in
    let N = classes_in c.args.new.now in
    let so = c.requires.old.stand in
    let sn = c.requires.new.stand in
    let olds = c.args.old.now.tables.now.owners.items in
    let news = c.args.new.now.tables.now.owners.items in
    let oo = c.requires.old.tables.owners in
    let on = c.requires.new.tables.owners in
    let pairs = c.args.pairs.now in
    let own = entry_exists (face_at O c.args.place).entries c.args.number c.requires.number in
    let before_is = λ (d : Slot). c.slot_at-before.ensures d ∙ ap (λ (z : List (List Slot)). slice_index_or (slice_index_or z c.args.place []) c.args.number d) c.deref.ensures.value in
    rw (c.deref-3.ensures.value, c.number_at-2.ensures) (kept_there O N so sn pairs c.args.place c.requires.place c.requires.pairs c.requires.orders olds news oo on c.args.number own.0 own.1 c.slot_at-before.result before_is).0

pub slot_at-kept-requires-clause-number : goal.slot_at-kept-requires-clause-number
slot_at-kept-requires-clause-number c =
    let O = classes_in c.args.old.now in
    let N = classes_in c.args.new.now in
    let so = c.requires.old.stand in
    let sn = c.requires.new.stand in
    let olds = c.args.old.now.tables.now.owners.items in
    let news = c.args.new.now.tables.now.owners.items in
    let oo = c.requires.old.tables.owners in
    let on = c.requires.new.tables.owners in
    let pairs = c.args.pairs.now in
    let own = entry_exists (face_at O c.args.place).entries c.args.number c.requires.number in
    let before_is = λ (d : Slot). c.slot_at-before.ensures d ∙ ap (λ (z : List (List Slot)). slice_index_or (slice_index_or z c.args.place []) c.args.number d) c.deref.ensures.value in
    rw (c.deref-3.ensures.value, c.number_at-2.ensures) (kept_there O N so sn pairs c.args.place c.requires.place c.requires.pairs c.requires.orders olds news oo on c.args.number own.0 own.1 c.slot_at-before.result before_is).1

pub signature_at-requires : goal.signature_at-requires
signature_at-requires c =
    let O = classes_in c.args.old.now in
    let N = classes_in c.args.new.now in
    let so = c.requires.old.stand in
    let sn = c.requires.new.stand in
    let olds = c.args.old.now.tables.now.owners.items in
    let news = c.args.new.now.tables.now.owners.items in
    let oo = c.requires.old.tables.owners in
    let on = c.requires.new.tables.owners in
    let pairs = c.args.pairs.now in
    let own = entry_exists (face_at O c.args.place).entries c.args.number c.requires.number in
    let before_is = λ (d : Slot). c.slot_at-before.ensures d ∙ ap (λ (z : List (List Slot)). slice_index_or (slice_index_or z c.args.place []) c.args.number d) c.deref.ensures.value in
    is_slot O so c.args.place own.0 c.slot_at-before.result c.requires.place (old_owner O N so sn pairs c.args.place c.requires.place c.requires.pairs c.requires.orders olds news oo on c.args.number own.0 own.1 c.slot_at-before.result before_is)

pub signature_at-requires-2 : goal.signature_at-requires-2
signature_at-requires-2 c =
    let O = classes_in c.args.old.now in
    let N = classes_in c.args.new.now in
    let so = c.requires.old.stand in
    let sn = c.requires.new.stand in
    let olds = c.args.old.now.tables.now.owners.items in
    let news = c.args.new.now.tables.now.owners.items in
    let oo = c.requires.old.tables.owners in
    let on = c.requires.new.tables.owners in
    let pairs = c.args.pairs.now in
    let own = entry_exists (face_at O c.args.place).entries c.args.number c.requires.number in
    let before_is = λ (d : Slot). c.slot_at-before.ensures d ∙ ap (λ (z : List (List Slot)). slice_index_or (slice_index_or z c.args.place []) c.args.number d) c.deref.ensures.value in
    let after_is = λ (d : Slot). c.slot_at-after.ensures d ∙ ap (λ (z : List (List Slot)). slice_index_or (slice_index_or z c.number_at.result []) c.args.number d) c.deref-2.ensures.value
    ∙ ap (λ (z : ℕ). slice_index_or (slice_index_or news z []) c.args.number d) c.number_at.ensures in
    let kept_is = λ (d : Slot). c.slot_at-kept.ensures d ∙ ap (λ (z : List (List Slot)). slice_index_or (slice_index_or z c.number_at-2.result []) c.slot_at-before.result.entry d) c.deref-3.ensures.value
    ∙ ap (λ (z : ℕ). slice_index_or (slice_index_or news z []) c.slot_at-before.result.entry d) c.number_at-2.ensures in
    after_slot O N so sn pairs c.args.place c.requires.place c.requires.pairs c.requires.orders olds news oo on c.args.number own.0 own.1 c.slot_at-before.result before_is c.slot_at-after.result c.slot_at-kept.result after_is kept_is

pub returns-then-same : goal.returns-then-same
returns-then-same c = λ e at.
    let O = classes_in c.args.old.now in
    let N = classes_in c.args.new.now in
    let so = c.requires.old.stand in
    let sn = c.requires.new.stand in
    let olds = c.args.old.now.tables.now.owners.items in
    let news = c.args.new.now.tables.now.owners.items in
    let oo = c.requires.old.tables.owners in
    let on = c.requires.new.tables.owners in
    let pairs = c.args.pairs.now in
    let before_is = λ (d : Slot). c.slot_at-before.ensures d ∙ ap (λ (z : List (List Slot)). slice_index_or (slice_index_or z c.args.place []) c.args.number d) c.deref.ensures.value in
    let after_is = λ (d : Slot). c.slot_at-after.ensures d ∙ ap (λ (z : List (List Slot)). slice_index_or (slice_index_or z c.number_at.result []) c.args.number d) c.deref-2.ensures.value
    ∙ ap (λ (z : ℕ). slice_index_or (slice_index_or news z []) c.args.number d) c.number_at.ensures in
    let kept_is = λ (d : Slot). c.slot_at-kept.ensures d ∙ ap (λ (z : List (List Slot)). slice_index_or (slice_index_or z c.number_at-2.result []) c.slot_at-before.result.entry d) c.deref-3.ensures.value
    ∙ ap (λ (z : ℕ). slice_index_or (slice_index_or news z []) c.slot_at-before.result.entry d) c.number_at-2.ensures in
    let sigs = c.are_one_signature-same.ensures ∙ ap (λ z. same_option same_sig z (option_copied c.signature_at-2.result)) c.signature_at.ensures ∙ ap (same_option same_sig _) c.signature_at-2.ensures in
    sym (keeps_is O N so sn pairs c.args.place c.requires.place c.requires.pairs c.requires.orders olds news oo on c.args.number e at c.slot_at-before.result before_is c.slot_at-after.result c.slot_at-kept.result after_is kept_is ∙ ap (λ z. z && (c.slot_at-after.result.class == c.slot_at-kept.result.class)) (sym sigs ∙ c.if-same.true))

pub returns-else-same : goal.returns-else-same
returns-else-same c = λ e at.
    let O = classes_in c.args.old.now in
    let N = classes_in c.args.new.now in
    let so = c.requires.old.stand in
    let sn = c.requires.new.stand in
    let olds = c.args.old.now.tables.now.owners.items in
    let news = c.args.new.now.tables.now.owners.items in
    let oo = c.requires.old.tables.owners in
    let on = c.requires.new.tables.owners in
    let pairs = c.args.pairs.now in
    let before_is = λ (d : Slot). c.slot_at-before.ensures d ∙ ap (λ (z : List (List Slot)). slice_index_or (slice_index_or z c.args.place []) c.args.number d) c.deref.ensures.value in
    let after_is = λ (d : Slot). c.slot_at-after.ensures d ∙ ap (λ (z : List (List Slot)). slice_index_or (slice_index_or z c.number_at.result []) c.args.number d) c.deref-2.ensures.value
    ∙ ap (λ (z : ℕ). slice_index_or (slice_index_or news z []) c.args.number d) c.number_at.ensures in
    let kept_is = λ (d : Slot). c.slot_at-kept.ensures d ∙ ap (λ (z : List (List Slot)). slice_index_or (slice_index_or z c.number_at-2.result []) c.slot_at-before.result.entry d) c.deref-3.ensures.value
    ∙ ap (λ (z : ℕ). slice_index_or (slice_index_or news z []) c.slot_at-before.result.entry d) c.number_at-2.ensures in
    let sigs = c.are_one_signature-same.ensures ∙ ap (λ z. same_option same_sig z (option_copied c.signature_at-2.result)) c.signature_at.ensures ∙ ap (same_option same_sig _) c.signature_at-2.ensures in
    c.if-same.false ∙ sym (keeps_is O N so sn pairs c.args.place c.requires.place c.requires.pairs c.requires.orders olds news oo on c.args.number e at c.slot_at-before.result before_is c.slot_at-after.result c.slot_at-kept.result after_is kept_is ∙ ap (λ z. z && (c.slot_at-after.result.class == c.slot_at-kept.result.class)) (sym sigs ∙ c.if-same.false))
