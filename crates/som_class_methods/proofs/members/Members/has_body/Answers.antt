use Rattle.std.proofs.Common.{◌∙◌, sym, true≢false}
use Rattle.som_class_methods.proofs.Own.{body_other, body_own, some_class}
use Rattle.som_class_methods.proofs.members.Members.has_body.Goals as goal

pub returns-then-is_class : goal.returns-then-is_class
returns-then-is_class c =
    c.if-is_class.true ∙ body_own c.args.numbers.now c.requires.faces c.requires.laid c.requires.members.first c.args.token c.requires.token c.args.class (sym c.class.ensures ∙ c.is_class.ensures.0 c.if-is_class.true)

pub returns-else-is_class : goal.returns-else-is_class
returns-else-is_class c =
    let k = c.args.numbers.now in
    let d = some_class k.classes c.args.class c.requires.declared in
    c.is_some.ensures ∙ body_other k c.requires.faces c.requires.laid c.requires.members.first c.args.token c.requires.token c.args.class d.0 d.1 c.own_at.result.now
    (c.requires.members.own c.args.class d.0 c.own_at.result.now d.1 c.own_at.ensures) (λ e. true≢false (sym (c.is_class.ensures.1 (c.class.ensures ∙ e)) ∙ c.if-is_class.false))
    c.token_place.result (rw c.as_slice.ensures at c.token_place.ensures.some) (rw c.as_slice.ensures at c.token_place.ensures.none)
