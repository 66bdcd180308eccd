use Rattle.std.proofs.Common.{◌≡◌, ◌∙◌, rules, arith}
use Rattle.std.proofs.lemmas.Grind.{common_steps}
use Rattle.std.specs.Prelude.{fold}
use Rattle.som_lex.proofs.Digits.{capped_step, capped_number}
use Rattle.som_lex.proofs.word.capped_value.Goals as goal

pub returns : goal.returns
returns c =
    let folded : c.fold.result ≡ fold (capped_step 2147483648) 0 c.args.digits.now = first_of (search rules, grind (arith, common_steps)) in
    folded ∙ capped_number 2147483648 c.args.digits.now
