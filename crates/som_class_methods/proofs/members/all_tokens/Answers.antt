use Rattle.std.proofs.Common.{◌≡◌, ◌∙◌, ◌∷◌, [], ℕ, Some, arith, length, length-append, slice_get, subst, sym}
use Rattle.som_class_ids.specs.Classes.{class_of}
use Rattle.som_class_methods.proofs.Own.{named_at, own_more}
use Rattle.som_class_methods.proofs.members.all_tokens.Goals as goal

pub own_tokens-requires-clause-overrides : goal.own_tokens-requires-clause-overrides
own_tokens-requires-clause-overrides c = (named_at c.args.numbers.now c.requires.named c.new.result (class_of c.declared.result.now) c.declared.ensures.class).0

pub own_tokens-requires-clause-selects : goal.own_tokens-requires-clause-selects
own_tokens-requires-clause-selects c = (named_at c.args.numbers.now c.requires.named c.new.result (class_of c.declared.result.now) c.declared.ensures.class).1

pub loop-number-preserved : goal.loop-number-preserved
loop-number-preserved c =
    let k = c.args.numbers.now in
    let d = class_of c.declared.result.now in
    let at : c.new.result ≡ length c.loop-number.all = c.new.ensures ∙ sym c.loop-number.invariant.each in
    let is : slice_get k.classes (length c.loop-number.all) ≡ Some d = subst (λ (n : ℕ). slice_get k.classes n ≡ Some d) at c.declared.ensures.class in
    rw c.in_ok-push.ensures.ok (record {
      own = own_more k c.loop-number.all c.in_ok-own.own d c.loop-number.invariant.own is c.in_ok-own.ensures;
      each = omega (arith, length-append c.loop-number.all (c.in_ok-own.own ∷ []), c.loop-number.invariant.each);
    })
