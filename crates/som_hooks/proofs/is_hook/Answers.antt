use Rattle.std.proofs.Common.{◌≡◌, ◌∙◌, not, sym, ap}
use Rattle.som_model.specs.Keys.{same_key}
use Rattle.som_model.specs.Kernel.{before_after, before_method, after_method}
use Rattle.som_model.specs.Implementation.{has_body}
use Rattle.som_meta.specs.Numbering.{key_at}
use Rattle.som_meta.proofs.Plans.{same_at}
use Rattle.som_hooks.proofs.Among.{hook_before, hook_after, no_hook}
use Rattle.som_hooks.proofs.is_hook.Goals as goal

pub returns-then-has_body : goal.returns-then-has_body
returns-then-has_body g c =
    let k = g.H.Ancestry.known c.args.known.now in
    let x = key_at k c.args.class in
    let base = c.before_after-base.ensures in
    let other : not (same_key x before_after) ≡ c.ne.result =
    ap (λ y. not (same_key x y)) (sym base.key) ∙ ap not (sym (same_at k c.requires.apart c.args.class c.before_after-base.result c.requires.numbered base.numbered)) ∙ sym c.ne.ensures in
    let before : c.has_body.result ≡ has_body k.classes before_method x = (rw c.new.ensures at c.has_body.ensures) ∙ ap (λ m. has_body k.classes m x) base.before_is in
    hook_before (not (same_key x before_after)) (has_body k.classes before_method x) (has_body k.classes after_method x) c.has_body.result (other ∙ c.if-ne.true) (sym before ∙ c.if-has_body.true) before

pub returns-else-has_body : goal.returns-else-has_body
returns-else-has_body g c =
    let k = g.H.Ancestry.known c.args.known.now in
    let x = key_at k c.args.class in
    let base = c.before_after-base.ensures in
    let other : not (same_key x before_after) ≡ c.ne.result =
    ap (λ y. not (same_key x y)) (sym base.key) ∙ ap not (sym (same_at k c.requires.apart c.args.class c.before_after-base.result c.requires.numbered base.numbered)) ∙ sym c.ne.ensures in
    let before : c.has_body.result ≡ has_body k.classes before_method x = (rw c.new.ensures at c.has_body.ensures) ∙ ap (λ m. has_body k.classes m x) base.before_is in
    let after : c.has_body-else-has_body.result ≡ has_body k.classes after_method x = (rw c.new-else-has_body.ensures at c.has_body-else-has_body.ensures) ∙ ap (λ m. has_body k.classes m x) base.after_is in
    hook_after (not (same_key x before_after)) (has_body k.classes before_method x) (has_body k.classes after_method x) c.has_body-else-has_body.result (other ∙ c.if-ne.true) (sym before ∙ c.if-has_body.false) after

pub returns-else-ne : goal.returns-else-ne
returns-else-ne g c =
    let k = g.H.Ancestry.known c.args.known.now in
    let x = key_at k c.args.class in
    let base = c.before_after-base.ensures in
    let other : not (same_key x before_after) ≡ c.ne.result =
    ap (λ y. not (same_key x y)) (sym base.key) ∙ ap not (sym (same_at k c.requires.apart c.args.class c.before_after-base.result c.requires.numbered base.numbered)) ∙ sym c.ne.ensures in
    no_hook (not (same_key x before_after)) (has_body k.classes before_method x) (has_body k.classes after_method x) c.ne.result (other ∙ c.if-ne.false) (sym other)
