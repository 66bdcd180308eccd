use Rattle.std.proofs.Common.{◌≡◌, ℕ, List, arith, map, subst}
use Rattle.som_model.specs.Lists.{Mem}
use Rattle.som_model.specs.Classes.{hierarchy}
use Rattle.som_meta.specs.Numbering.{Numbering, key_at}
use Rattle.som_class_table.specs.Making.{IsNeedOf}
use Rattle.som_class_load_order.specs.Searching.{AreNoted}
use Rattle.som_class_load_order.proofs.Noting.{noted_both}
use Rattle.som_class_load_order.proofs.Searching.{needs_in, needs_out, parents_low}
use Rattle.som_class_load_order.proofs.search.note_needs.Goals as goal

pub note_all-requires-clause-numbered : goal.note_all-requires-clause-numbered
note_all-requires-clause-numbered c = λ n m. let lt = c.parents.ensures.lower n (rw c.as_slice.ensures at m) in omega (arith, lt, c.requires.class)

pub returns-clause-noted : goal.returns-clause-noted
returns-clause-noted c =
    let k = c.args.closure.now in
    let n = c.args.class in
    let ps = c.parents.result.now in
    let mm = c.metaclass.result in
    let keyed : map (key_at k) ps ≡ (hierarchy k.classes).parents (key_at k n) =
    subst (λ (z : Numbering). map (key_at z) ps ≡ (hierarchy z.classes).parents (key_at z n)) c.classes.ensures.value c.parents.ensures.keys in
    noted_both c.args.made.now (λ m. Mem m ps) (λ m. m ≡ mm) (IsNeedOf k n) c.args.found.now.classes c.note_all.new.found.classes c.note.new.found.classes
    (subst (λ (z : List ℕ). AreNoted c.args.made.now (λ m. Mem m z) c.args.found.now.classes c.note_all.new.found.classes) c.as_slice.ensures c.in_ok-note_all.ensures.noted)
    c.in_ok-note.ensures.noted
    (needs_in k c.requires.loaded.apart n c.requires.class ps c.parents.ensures.lower keyed mm c.metaclass.ensures.numbered c.metaclass.ensures.key)
    (needs_out k c.requires.loaded.apart n c.requires.class ps c.parents.ensures.lower keyed mm c.metaclass.ensures.numbered c.metaclass.ensures.key)

pub returns-clause-low : goal.returns-clause-low
returns-clause-low c =
    let k = c.args.closure.now in
    let n = c.args.class in
    let ps = c.parents.result.now in
    let keyed : map (key_at k) ps ≡ (hierarchy k.classes).parents (key_at k n) =
    subst (λ (z : Numbering). map (key_at z) ps ≡ (hierarchy z.classes).parents (key_at z n)) c.classes.ensures.value c.parents.ensures.keys in
    parents_low k c.requires.loaded.apart n c.requires.class ps c.parents.ensures.lower keyed c.metaclass.result c.metaclass.ensures.numbered c.metaclass.ensures.key
