use Rattle.std.proofs.Common.{sym, ◌∙◌, true≢false}
use Rattle.som_verify_forms.specs.Knowing.{all_of}
use Rattle.som_verify_forms.proofs.CallLaws.{result_known}
use Rattle.som_verify_forms.proofs.calls.answer_of.Goals as goal

pub unreachable-requires : goal.unreachable-requires
unreachable-requires c = true≢false (sym (result_known (all_of c.args.known.now) c.args.sig.now c.requires.sig) ∙ sym c.in-None.ensures.known)
