use Rattle.std.proofs.Common.{◌∙◌, sym, subst, take}
use Rattle.std.proofs.lemmas.List.Elements.{All-append}
use Rattle.som_meta.specs.Numbering.{IsNumbered, IsToken, tokens_of}
use Rattle.som_meta.proofs.Once.{step_is}
use Rattle.som_meta.proofs.Tokens.{tokens_are}
use Rattle.som_proxy.proofs.Among.{some_more, no_more}
use Rattle.som_proxy.proofs.forwards_among.Goals.{then-not-is_kernel+in_ok-extend_from_slice, else-not-is_kernel}
use Rattle.som_proxy.proofs.forwards_among.Goals as goal

pub loop-class-preserved : goal.loop-class-preserved
loop-class-preserved g c =
    let k = g.H.Ancestry.known c.args.known.now in
    let i = c.loop-class.invariant in
    let n = c.class-item.result in
    let done = take c.loop-class.class-index c.args.classes.now in
    let here = subst (λ y. IsNumbered k y) (sym c.class-item.is) (c.requires c.loop-class.class-index n c.loop-class-test.true) in
    rw (step_is c.args.classes.now c.loop-class.class-index n c.loop-class-test.true c.class-item.is)
    (elim c.if-not-is_kernel.branch [
      | then-not-is_kernel+in_ok-extend_from_slice w ↦ rw (w.tokens-is, w.in_ok-extend_from_slice.ensures.ok, w.as_slice.ensures, w.introduced.ensures) (record {
        tokens = All-append (IsToken k) c.loop-class.tokens (tokens_of k n) i.tokens (tokens_are k n here);
        methods = some_more k done c.loop-class.tokens n i.methods (sym c.is_kernel.ensures ∙ w.if-not-is_kernel.true);
      })
      | else-not-is_kernel w ↦ rw w.tokens-is (record {
        tokens = i.tokens;
        methods = no_more k done c.loop-class.tokens n i.methods (sym c.is_kernel.ensures ∙ w.if-not-is_kernel.false);
      })
    ])
