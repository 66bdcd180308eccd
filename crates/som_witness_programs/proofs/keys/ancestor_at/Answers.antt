use Rattle.std.proofs.Common.{◌≡◌, None, slice_get, sym, subst, ◌∙◌}
use Rattle.std.specs.Prelude.{unwrap_or}
use Rattle.std.proofs.lemmas.Result.{IfOk-weaker}
use Rattle.som_model.specs.declared.key.ClassKey.{ClassKey}
use Rattle.som_model.specs.declared.key.Module.TheVariants as modules
use Rattle.som_model.specs.Classes.{ancestors, class_at}
use Rattle.som_verify_forms.specs.Knowing.{all_of}
use Rattle.som_witness_programs.proofs.Entries.{ancestor_unknown, no_class}
use Rattle.som_witness_programs.proofs.keys.ancestor_at.Goals as goal

pub ancestor_of-requires-clause-own : goal.ancestor_of-requires-clause-own
ancestor_of-requires-clause-own c = c.in-Some.ensures.finds.1

pub ancestor_of-requires-clause-class : goal.ancestor_of-requires-clause-class
ancestor_of-requires-clause-class c = c.in-Some.ensures.finds.2

pub returns-in-None : goal.returns-in-None
returns-in-None c =
    let cs = all_of c.args.known.now in
    let lib = c.requires.library in
    let gone = no_class c.args.known.now c.requires.known c.args.class.now c.in-None.ensures.known in
    IfOk-weaker c.copy.result _ _ (λ k e. e ∙ subst (λ (z : ClassKey). z ≡ unwrap_or (slice_get (ancestors cs z) c.args.place) z) (sym lib.1)
    (ancestor_unknown cs modules.Library lib.0 c.args.place (subst (λ (z : ClassKey). class_at cs z ≡ None) lib.1 gone))) c.copy.ensures
