use Rattle.std.proofs.Common.{◌∷◌, ◌∙◌, [], ap, arith, length, length-append}
use Rattle.som_model.specs.Class.{introduced}
use Rattle.som_meta.specs.Numbering.{tokens_of}
use Rattle.som_class_ids.specs.Classes.{class_of}
use Rattle.som_class_table.proofs.Listing.{class_more, few_entries, introduced_more}
use Rattle.som_class_table.proofs.tokens.introduced_tokens.Goals as goal

pub introduced_count-count-requires : goal.introduced_count-count-requires
introduced_count-count-requires c = rw c.as_slice.ensures (few_entries c.args.numbers.now c.requires c.new-class.result (class_of c.declared.result.now) c.declared.ensures.class)

pub loop-number-preserved : goal.loop-number-preserved
loop-number-preserved c =
    let k = c.args.numbers.now in
    let ts = c.in_ok-class_tokens.field-0 in
    let is = class_more k c.requires c.declared_count-number-end.ensures.first c.new-class.result c.introduced_count-count.result (class_of c.declared.result.now) ts c.declared.ensures.class
    (c.introduced_count-count.ensures ∙ ap (λ l. length (introduced l)) c.as_slice.ensures) c.in_ok-class_tokens.ensures in
    rw c.in_ok-push.ensures.ok (record {
      all = introduced_more k c.loop-number.all c.loop-number.number ts c.loop-number.invariant.each c.loop-number.invariant.all (is ∙ ap (tokens_of k) c.new-class.ensures);
      each = omega (arith, length-append c.loop-number.all (ts ∷ []), c.loop-number.invariant.each);
    })
