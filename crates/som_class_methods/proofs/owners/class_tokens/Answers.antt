use Rattle.std.proofs.Common.{◌∙◌, sym, ap, arith, length, refl, take, List}
use Rattle.std.proofs.lemmas.Option.{slice_get_read}
use Rattle.som_model.specs.Class.{introduced}
use Rattle.som_model.specs.declared.class.Entry.{Entry}
use Rattle.std.proofs.Common.{slice_get}
use Rattle.som_meta.specs.Numbering.{key_at}
use Rattle.som_class_methods.proofs.Owning.{own_fits, own_more, tokens_more}
use Rattle.som_class_methods.proofs.owners.class_tokens.Goals as goal

pub entry_token-requires-clause-entry : goal.entry_token-requires-clause-entry
entry_token-requires-clause-entry c =
    let is = slice_get_read c.args.entries.now (length c.args.entries.now) c.loop-entry.entry-index c.entry-item.result refl c.loop-entry-test.true c.entry-item.is in
    record {
      class = c.requires.entries.class;
      there = c.requires.entries.there;
      place = c.loop-entry.entry-index;
      at_place = ap (λ (l : List Entry). slice_get l c.loop-entry.entry-index) c.requires.entries.is ∙ is;
      own_is = c.loop-entry.invariant.own ∙ ap (λ (l : List Entry). length (introduced (take c.loop-entry.entry-index l))) (sym c.requires.entries.is);
    }

pub introduced_with-own-requires : goal.introduced_with-own-requires
introduced_with-own-requires c =
    let few = own_fits c.args.numbers.now c.requires.faces c.args.class c.requires.entries.class c.requires.entries.there c.loop-entry.entry-index in
    let same = ap (λ (l : List Entry). length (introduced (take c.loop-entry.entry-index l))) c.requires.entries.is in
    omega (arith, few, same, c.loop-entry.invariant.own)

pub loop-entry-preserved : goal.loop-entry-preserved
loop-entry-preserved c = rw (c.in_ok-push.ensures.ok, c.introduced_with-own.ensures) (record {
  own = own_more c.args.entries.now c.loop-entry.entry-index c.entry-item.result c.loop-entry.own c.loop-entry-test.true c.entry-item.is c.loop-entry.invariant.own;
  tokens = tokens_more c.args.numbers.now (key_at c.args.numbers.now c.args.class) c.args.entries.now c.loop-entry.entry-index c.entry-item.result c.loop-entry.tokens c.entry_token.result c.loop-entry-test.true c.entry-item.is c.loop-entry.invariant.tokens c.entry_token.ensures;
})
