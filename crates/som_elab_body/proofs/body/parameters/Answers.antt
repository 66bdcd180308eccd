use Rattle.std.proofs.Common.{arith, inl, inr, sym, ap, ◌∙◌}
use Rattle.som_model.specs.Rules.{is_known}
use Rattle.som_model_laws.proofs.Lists.{every_mem}
use Rattle.som_ast.specs.declared.words.Word.{Word}
use Rattle.som_verify_forms.specs.Knowing.{all_of}
use Rattle.som_verify_forms.proofs.KindLists.{item_mem}
use Rattle.som_elab_body.specs.declared.local.Local.{Local}
use Rattle.som_elab_body.proofs.Parameters.{all_placed, named_like, one_placed}
use Rattle.som_elab_body.proofs.body.parameters.Goals as goal

pub known_kind-kind-requires-clause-kind : goal.known_kind-kind-requires-clause-kind
known_kind-kind-requires-clause-kind c =
    every_mem (is_known (all_of c.args.known.now)) c.index-types-place.result c.args.types.now c.requires.types
    (item_mem c.args.types.now c.loop-place.place c.index-types-place.result (omega (arith, c.loop-place-test.true, c.shorter-count.ensures.types)) c.index-types-place.is)

pub loop-place-preserved : goal.loop-place-preserved
loop-place-preserved c =
    let l : Local = record { name = c.as_slice-name.result; kind = c.known_kind-kind.result } in
    rw c.in_ok-push.ensures.items (one_placed (all_of c.args.known.now) c.args.words.now c.args.types.now c.loop-place.place c.loop-place.locals.items c.index-words-place.result c.index-types-place.result
    (omega (arith, c.loop-place-test.true, c.shorter-count.ensures.words)) (omega (arith, c.loop-place-test.true, c.shorter-count.ensures.types)) c.index-words-place.is c.index-types-place.is c.loop-place.invariant l
    (named_like (all_of c.args.known.now) l c.index-words-place.result c.index-types-place.result (c.as_slice-name.ensures ∙ ap (λ (w : Word). w.text) (sym c.index-words-place.is)) c.known_kind-kind.ensures.is)
    c.known_kind-kind.ensures.a_type c.requires.few)

pub returns-clause-names : goal.returns-clause-names
returns-clause-names c =
    all_placed (all_of c.args.known.now) c.args.words.now c.args.types.now c.loop-place.place c.loop-place.locals.items
    (elim c.shorter-count.ensures.all [
      | inl le ↦ inl (omega (arith, le, c.loop-place-test.false))
      | inr le ↦ inr (omega (arith, le, c.loop-place-test.false))
    ]) c.loop-place.invariant
