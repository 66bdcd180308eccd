use Rattle.std.proofs.Common.{◌≡◌, ◌≤◌, ◌∙◌, ℕ, List, IfOk, ap, arith, length, subst, sym}
use Rattle.som_model.specs.Class.{introduced}
use Rattle.som_class_ids.specs.Classes.{class_of}
use Rattle.som_class_table.proofs.Listing.{names_are}
use Rattle.som_class_table.proofs.LoadedClasses.{faces}
use Rattle.som_class_loaded.proofs.Introducing.{made_names}
use Rattle.som_class_loaded.proofs.names.class_names.Goals as goal

pub returns-then-number-declared_count : goal.returns-then-number-declared_count
returns-then-number-declared_count c =
    let k = c.args.classes.now in
    let e = ap introduced c.as_slice.ensures ∙ sym (names_are k (faces k c.count-count.ensures.loaded) c.declared_count.ensures.first c.args.class (class_of c.declared.result.now) c.declared.ensures.class) in
    subst (λ (z : List (List ℕ)). IfOk c.introduced_names.result (λ names. names ≡ z)) e c.introduced_names.ensures

pub returns-else-number-declared_count : goal.returns-else-number-declared_count
returns-else-number-declared_count c =
    let k = c.args.classes.now in
    let le : length k.classes ≤ c.args.class = omega (arith, c.if-number-declared_count.false, c.number.ensures, c.declared_count.ensures.count) in
    c.new.ensures ∙ sym (made_names k c.count-count.ensures.loaded c.args.class c.requires le)
