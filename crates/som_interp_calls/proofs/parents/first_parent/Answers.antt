use Rattle.std.proofs.Common.{refl, sym, ap, subst, ◌∙◌, map, arith}
use Rattle.std.specs.List.{All}
use Rattle.som_values.specs.Shown.{IsNumbered, key_of}
use Rattle.som_interp_calls.specs.Parents.{IsFirst}
use Rattle.som_interp_calls.proofs.Firsts.{found_first, none_found, passed_over, same_at}
use Rattle.som_interp_calls.proofs.parents.first_parent.Goals as goal

pub loop-place-init : goal.loop-place-init
loop-place-init g c levels here r args ks e = refl

pub returns-then-inherits-clause-first : goal.returns-then-inherits-clause-first
returns-then-inherits-clause-first g c =
    let ks = g.R.Classes.keys c.args.runtime.now in
    let w = g.R.Classes.world c.args.runtime.now in
    let ns = c.as_slice-parents.result.now in
    let x = c.index-parents-place-then-inherits.result in
    let i = c.loop-place.place in
    let same = c.index-parents-place.is ∙ same_at ns i c.index-parents-place.result x c.loop-place-test.true in
    subst (λ z. IsFirst ks w c.args.class c.args.owner c.args.from (i, z)) (sym c.index-parents-place-then-inherits.is)
    (found_first ks w c.args.class c.args.owner c.args.from ns (ap (map (key_of ks)) c.as_slice-parents.ensures ∙ c.parents.ensures.keys) i x c.loop-place-test.true (subst (All (IsNumbered ks)) (sym c.as_slice-parents.ensures) c.parents.ensures.numbered)
    (ap (λ z. w.is_a (key_of ks z) (key_of ks c.args.owner)) (sym same) ∙ sym c.inherits.ensures ∙ c.if-inherits.true) c.loop-place.invariant)

pub loop-place-preserved : goal.loop-place-preserved
loop-place-preserved g c =
    let ks = g.R.Classes.keys c.args.runtime.now in
    let w = g.R.Classes.world c.args.runtime.now in
    passed_over ks w c.args.class c.args.owner c.args.from c.as_slice-parents.result.now (ap (map (key_of ks)) c.as_slice-parents.ensures ∙ c.parents.ensures.keys) c.loop-place.place c.index-parents-place.result c.loop-place-test.true
    (ap (λ z. w.is_a (key_of ks z) (key_of ks c.args.owner)) (sym c.index-parents-place.is) ∙ sym c.inherits.ensures ∙ c.if-inherits.false) c.loop-place.invariant

pub returns-clause-first : goal.returns-clause-first
returns-clause-first g c =
    let ks = g.R.Classes.keys c.args.runtime.now in
    none_found ks (g.R.Classes.world c.args.runtime.now) c.args.class c.args.owner c.args.from c.as_slice-parents.result.now (ap (map (key_of ks)) c.as_slice-parents.ensures ∙ c.parents.ensures.keys) c.loop-place.place (omega (arith, c.loop-place-test.false)) c.loop-place.invariant
