use Rattle.std.proofs.Common.{◌∙◌, sym, subst, take}
use Rattle.std.proofs.lemmas.List.{take_all}
use Rattle.std.proofs.lemmas.List.Elements.{All-push}
use Rattle.som_meta.specs.Numbering.{IsNumbered, key_at}
use Rattle.som_meta.proofs.Once.{step_is}
use Rattle.som_hooks.specs.Hooks.{is_hook}
use Rattle.som_hooks.proofs.Among.{one_more, no_more}
use Rattle.som_hooks.proofs.hooks_among.Goals.{then-is_hook+in_ok-push, else-is_hook}
use Rattle.som_hooks.proofs.hooks_among.Goals as goal

pub loop-class-preserved : goal.loop-class-preserved
loop-class-preserved g c =
    let k = g.H.Ancestry.known c.args.known.now in
    let i = c.loop-class.invariant in
    let x = c.class-item.result in
    let done = take c.loop-class.class-index c.args.classes.now in
    rw (step_is c.args.classes.now c.loop-class.class-index x c.loop-class-test.true c.class-item.is)
    (elim c.if-is_hook.branch [
      | then-is_hook+in_ok-push w ↦ rw (w.hooks-is, w.in_ok-push.ensures.ok) (record {
        numbered = All-push (IsNumbered k) c.loop-class.hooks x i.numbered (subst (λ y. IsNumbered k y) (sym c.class-item.is) (c.requires.numbered c.loop-class.class-index x c.loop-class-test.true));
        keys = one_more (key_at k) (is_hook k.classes) done c.loop-class.hooks x i.keys (sym c.is_hook.ensures ∙ w.if-is_hook.true);
      })
      | else-is_hook w ↦ rw w.hooks-is (record {
        numbered = i.numbered;
        keys = no_more (key_at k) (is_hook k.classes) done c.loop-class.hooks x i.keys (sym c.is_hook.ensures ∙ w.if-is_hook.false);
      })
    ])
