use Rattle.std.proofs.Common.{length, refl}
use Rattle.std.proofs.lemmas.Option.{slice_get_read}
use Rattle.som_model_laws.proofs.Lists.{get_mem, mem_map}
use Rattle.som_class_methods.specs.Members.{override_method}
use Rattle.som_class_methods.proofs.Standing.{tokens_more}
use Rattle.som_class_methods.proofs.tokens.override_tokens.Goals as goal

pub method_token-requires-clause-entry : goal.method_token-requires-clause-entry
method_token-requires-clause-entry c =
    let is = slice_get_read c.args.overrides.now (length c.args.overrides.now) c.loop-one.one-index c.one-item.result refl c.loop-one-test.true c.one-item.is in
    c.requires.named c.one-item.result.method (mem_map override_method c.one-item.result c.args.overrides.now (get_mem c.args.overrides.now c.loop-one.one-index c.one-item.result is))

pub loop-one-preserved : goal.loop-one-preserved
loop-one-preserved c = rw c.in_ok-push.ensures.ok
    (tokens_more c.args.numbers.now override_method c.args.overrides.now c.loop-one.one-index c.one-item.result c.loop-one.tokens c.method_token.result c.loop-one-test.true c.one-item.is c.loop-one.invariant c.method_token.ensures)
