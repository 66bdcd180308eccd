use Rattle.std.proofs.Common.{ℕ, List, codes, ap, ◌∙◌}
use Rattle.std.proofs.lemmas.Result.{IfOk-weaker}
use Rattle.som_witness.specs.Wording.{g_interface, in_c}
use Rattle.som_witness_programs.proofs.interface_text.g_with_variable.Goals as goal

pub returns : goal.returns
returns c = IfOk-weaker c.g_interface.result _ _ (λ t e. e
    ∙ ap (λ (p : List ℕ). g_interface c.args.w.now (codes "void") p c.as_slice-2.result.now) (c.as_slice.ensures.value ∙ c.in_ok-params.ensures)
    ∙ ap (λ (s : List ℕ). g_interface c.args.w.now (codes "void") (in_c c.args.class.now) s) (c.as_slice-2.ensures.value ∙ c.in_ok-section.ensures)) c.g_interface.ensures
