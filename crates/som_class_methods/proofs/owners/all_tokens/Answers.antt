use Rattle.std.proofs.Common.{◌≡◌, ◌∙◌, ◌<◌, sym, arith, length, length-append, ◌∷◌, [], subst, ℕ, slice_get, Some}
use Rattle.som_class_ids.specs.Classes.{class_of}
use Rattle.som_class_methods.proofs.Owning.{owned_more}
use Rattle.som_class_methods.proofs.owners.all_tokens.Goals as goal

pub class_tokens-requires-clause-entries : goal.class_tokens-requires-clause-entries
class_tokens-requires-clause-entries c = record { class = class_of c.declared.result.now; there = c.declared.ensures.class; is = sym c.as_slice-entries.ensures }

pub loop-number-preserved : goal.loop-number-preserved
loop-number-preserved c =
    let k = c.args.numbers.now in
    let d = class_of c.declared.result.now in
    let at : c.new-class.result ≡ length c.loop-number.tokens = c.new-class.ensures ∙ sym c.loop-number.invariant.each in
    let is : slice_get k.classes (length c.loop-number.tokens) ≡ Some d = subst (λ (n : ℕ). slice_get k.classes n ≡ Some d) at c.declared.ensures.class in
    let lt : length c.loop-number.tokens < length k.classes = omega (arith, c.loop-number.invariant.each, c.loop-number-test.true, c.declared_count-number-end.ensures.count) in
    let have = rw (c.declared.ensures.key, c.as_slice-entries.ensures) at c.in_ok-own.ensures in
    rw c.in_ok-push.ensures.ok (record {
      owned = owned_more k c.loop-number.tokens c.loop-number.invariant.owned d c.in_ok-own.own is lt have;
      each = omega (arith, length-append c.loop-number.tokens (c.in_ok-own.own ∷ []), c.loop-number.invariant.each);
    })
