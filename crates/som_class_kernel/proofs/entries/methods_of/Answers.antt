use Rattle.std.proofs.Common.{◌∷◌, ◌∙◌, [], ap, arith, length-append}
use Rattle.std.proofs.lemmas.Option.{slice_get_within}
use Rattle.som_class_ids.specs.Classes.{class_of}
use Rattle.som_class_kernel.specs.Entries.{entries_from}
use Rattle.som_class_kernel.proofs.Entering.{declared_few, entries_more}
use Rattle.som_class_kernel.proofs.entries.methods_of.Goals as goal

pub introduced_methods-requires : goal.introduced_methods-requires
introduced_methods-requires c =
    declared_few c.args.classes.now c.count-count.ensures.loaded c.new.result (class_of c.declared-class.result.now) c.declared-class.ensures.class c.as_slice.result.now c.as_slice.ensures

pub loop-number-preserved : goal.loop-number-preserved
loop-number-preserved c =
    let xs = c.in_ok-introduced_methods.field-0 in
    let d = class_of c.declared-class.result.now in
    let at = rw c.new.ensures at c.declared-class.ensures.class in
    rw c.in_ok-push.ensures.ok (record {
      each = omega (arith, length-append c.loop-number.all (xs ∷ []), c.loop-number.invariant.each);
      all = entries_more c.args.classes.now.classes c.loop-number.all c.loop-number.number xs d c.loop-number.invariant.each c.loop-number.invariant.all at
          (c.in_ok-introduced_methods.ensures ∙ ap (entries_from c.declared-class.result.now.key 0) c.as_slice.ensures);
    })

pub returns : goal.returns
returns c = λ n d e.
    let lt = slice_get_within c.args.classes.now.classes n d e in
    let count = c.declared_count-number-end.ensures.count in
    let end = c.loop-number-test.false in
    c.loop-number.invariant.all n d (omega (arith, lt, count, end)) e
