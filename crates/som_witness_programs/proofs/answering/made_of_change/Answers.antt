use Rattle.std.proofs.Common.{IfOk, Option, option_copied, ap, subst, ◌∙◌}
use Rattle.som_model.specs.declared.class.Sig.{Sig}
use Rattle.som_verify_forms.specs.Knowing.{all_of}
use Rattle.som_witness.specs.Showings.{Showing, changed_showing}
use Rattle.som_witness_programs.specs.Made.{IsMade}
use Rattle.som_witness_programs.proofs.answering.made_of_change.Goals as goal

pub returns : goal.returns
returns c = λ i io.
    subst (λ (s : Showing). IfOk c.made.result (IsMade i c.args.w.now c.args.method.now s))
    (c.changed_showing.ensures ∙ ap (λ (o : Option Sig). changed_showing (all_of c.args.news.now) (option_copied c.args.before) o) c.signature_in-after.ensures) (c.made.ensures i io)
