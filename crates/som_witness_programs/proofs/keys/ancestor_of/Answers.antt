use Rattle.std.proofs.Common.{ℕ, List, slice_get, slice_index_or, [], ap, sym, ◌∙◌}
use Rattle.std.proofs.lemmas.Result.{IfOk-weaker}
use Rattle.som_model_laws.proofs.Lists.{get_mem}
use Rattle.som_verify_forms.specs.Knowing.{all_of}
use Rattle.som_witness_programs.proofs.Entries.{ancestor_there, no_ancestor}
use Rattle.som_witness_programs.proofs.keys.ancestor_of.Goals as goal

pub key_at-requires-clause-place : goal.key_at-requires-clause-place
key_at-requires-clause-place c =
    let lists = c.args.known.now.lists.now in
    c.requires.known.lists.low c.args.own c.in-Some.number
    (get_mem (slice_index_or lists c.args.own []) c.args.place c.in-Some.number (sym (c.in-Some.ensures ∙ ap (λ (l : List ℕ). slice_get l c.args.place) c.item.ensures)))

pub returns-in-Some : goal.returns-in-Some
returns-in-Some c =
    IfOk-weaker c.key_at.result _ _ (λ k e. e ∙ ancestor_there (all_of c.args.known.now) c.args.known.now.lists.now c.requires.known.lists c.args.class.now c.args.own c.requires.own c.requires.class c.args.place c.in-Some.number
    (sym (c.in-Some.ensures ∙ ap (λ (l : List ℕ). slice_get l c.args.place) c.item.ensures))) c.key_at.ensures

pub returns-in-None : goal.returns-in-None
returns-in-None c =
    IfOk-weaker c.copy.result _ _ (λ k e. e ∙ no_ancestor (all_of c.args.known.now) c.args.known.now.lists.now c.requires.known.lists c.args.class.now c.args.own c.requires.own c.requires.class c.args.place
    (sym (c.in-None.ensures ∙ ap (λ (l : List ℕ). slice_get l c.args.place) c.item.ensures))) c.copy.ensures
