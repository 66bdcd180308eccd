use Rattle.std.proofs.Common.{◌∙◌, sym, ap, if◌then◌else◌, drop, suc, slice_get, add-one}
use Rattle.som_names.specs.Index.{token_in}
use Rattle.som_names.proofs.TokenLaws.{token_step}
use Rattle.som_names.proofs.named.token_of.Goals as goal

pub loop-place-preserved : goal.loop-place-preserved
loop-place-preserved c =
    let i = c.loop-place.place in
    let names = c.args.names.now in
    let tokens = c.args.tokens.now in
    let name = c.args.name.now in
    let n = c.index-names-place.result in
    rw add-one
    (sym (token_step names tokens name n i c.loop-place-test.true c.index-names-place.is
    ∙ ap (λ b. if b then slice_get tokens i else token_in (drop (suc i) names) (drop (suc i) tokens) name) (sym c.eq.ensures ∙ c.if-eq.false))
    ∙ c.loop-place.invariant)
