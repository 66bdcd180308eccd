use Rattle.std.proofs.Common.{◌∙◌, arith}
use Rattle.som_cmd_sources.proofs.TextLaws.{text_more, named_more, size_more}
use Rattle.som_cmd_sources.proofs.texts.fetch_texts.Goals as goal

pub loop-name-preserved : goal.loop-name-preserved
loop-name-preserved g c = record {
  got = text_more (g.S.Store.files c.args.store.now) (g.S.Store.files c.loop-name.store) c.args.names.now c.loop-name.texts c.loop-name.name-index c.name-item.result c.loop-name.bytes c.in_ok-text.text c.push.new.self
      c.loop-name.invariant.files c.loop-name-test.true c.name-item.is c.loop-name.invariant.got c.loop-name.invariant.counted c.in_ok-text.ensures.answer c.in_ok-push.ensures.ok;
  counted = size_more c.loop-name.bytes c.len-bytes.result c.loop-name.texts c.in_ok-text.text c.push.new.self c.loop-name.invariant.counted c.len-bytes.ensures c.in_ok-push.ensures.ok;
  within = omega (arith, c.in_ok-text.ensures.within, c.len-bytes.ensures);
  named = named_more c.args.names.now c.loop-name.texts c.loop-name.name-index c.name-item.result c.in_ok-text.text c.push.new.self c.loop-name-test.true c.name-item.is c.loop-name.invariant.named c.in_ok-text.ensures.named c.in_ok-push.ensures.ok;
  files = c.in_ok-text.ensures.files ∙ c.loop-name.invariant.files;
  later = omega arith;
  calm = λ h. c.in_ok-text.ensures.calm (c.loop-name.invariant.calm h);
}
