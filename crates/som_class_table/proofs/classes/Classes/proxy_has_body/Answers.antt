use Rattle.std.proofs.Common.{◌≡◌, ◌∙◌, ap, false, nat_lt, sym, true}
use Rattle.som_model.specs.Classes.{is_a}
use Rattle.som_model.specs.Implementation.{is_kernel}
use Rattle.som_meta.specs.Numbering.{key_at}
use Rattle.som_class_table.proofs.Bodies.{body_forward, body_kernel, body_life, kernel_is, proxy_body}
use Rattle.som_class_table.proofs.classes.Classes.proxy_has_body.Goals as goal

pub returns-then-is_life : goal.returns-then-is_life
returns-then-is_life c = body_life _ _ _ (proxy_body c.args.self.now c.know_loaded.ensures c.args.target c.args.token c.requires.token) (sym c.is_life.ensures ∙ c.if-is_life.true)

pub returns-then-is_low : goal.returns-then-is_low
returns-then-is_low c =
    let k = c.args.self.now in
    let kernel : is_kernel (key_at k c.args.token.0) ≡ true = sym (kernel_is k c.know_loaded.ensures c.args.token.0 c.requires.token.0) ∙ ap (λ n. nat_lt n 4) (sym c.class.ensures) ∙ sym c.is_low.ensures ∙ c.if-is_low.true in
    body_kernel _ _ _ _ (proxy_body k c.know_loaded.ensures c.args.target c.args.token c.requires.token) (sym c.is_life.ensures ∙ c.if-is_life.false) kernel

pub returns : goal.returns
returns c = rw (← c.self.view_is)
    (let token = rw (← c.self.view_is) at c.requires.token in
    let k = c.self.inside.numbers in
    let outside : is_kernel (key_at k c.args.token.0) ≡ false = sym (kernel_is k c.self.invariant.loaded c.args.token.0 token.0) ∙ ap (λ n. nat_lt n 4) (sym c.class.ensures) ∙ sym c.is_low.ensures ∙ c.if-is_low.false in
    c.is_a.ensures ∙ ap (λ n. is_a k.classes (key_at k c.args.target) (key_at k n)) c.class-2.ensures
    ∙ body_forward _ _ _ _ (proxy_body k c.self.invariant.loaded c.args.target c.args.token token) (sym c.is_life.ensures ∙ c.if-is_life.false) outside)
