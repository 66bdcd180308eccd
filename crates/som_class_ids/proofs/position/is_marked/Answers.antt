use Rattle.std.proofs.Common.{◌==◌, ◌∙◌, ap, sym, ℕ}
use Rattle.som_model.specs.Lists.{some}
use Rattle.som_class_ids.proofs.Placing.{list_get, marked_at}
use Rattle.som_class_ids.proofs.position.is_marked.Goals as goal

pub returns-in-Declared : goal.returns-in-Declared
returns-in-Declared c = rw (c.mark_at.ensures, c.as_slice.ensures, c.number.ensures)
    (marked_at c.args.known.now c.args.class c.position_of-position.result.now c.position_of-position.ensures c.in-Declared.is c.requires.marked c.args.ancestor)

pub returns-in-Derived : goal.returns-in-Derived
returns-in-Derived c =
    c.is_listed.ensures ∙ ap (some (λ (x : ℕ). c.args.ancestor == x)) (c.as_slice-in-Derived.ensures ∙ sym (list_get c.args.known.now c.args.class c.position_of-position.result.now c.position_of-position.ensures))

pub returns-in-Proxy : goal.returns-in-Proxy
returns-in-Proxy c =
    c.is_listed-in-Proxy.ensures ∙ ap (some (λ (x : ℕ). c.args.ancestor == x)) (c.as_slice-in-Proxy.ensures ∙ sym (list_get c.args.known.now c.args.class c.position_of-position.result.now c.position_of-position.ensures))
