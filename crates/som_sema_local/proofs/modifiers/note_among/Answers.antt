use Rattle.std.proofs.Common.{sym, ◌∙◌}
use Rattle.som_sema_local.proofs.Calling.{called_more, may_call, may_not}
use Rattle.som_sema_local.proofs.modifiers.note_among.Goals as goal

pub returns-then-is_none-clause-stands : goal.returns-then-is_none-clause-stands
returns-then-is_none-clause-stands c = may_not _ _ (sym c.find_name.ensures.among ∙ c.if-is_none.ensures)

pub returns-then-is_none-clause-noted : goal.returns-then-is_none-clause-noted
returns-then-is_none-clause-noted c = λ e. absurd (cc)

pub returns : goal.returns
returns c = record {
  stands = may_call c.note_name.result _ _ (sym c.find_name.ensures.among ∙ c.if-is_none.ensures) c.note_name.ensures.is_new;
  noted = called_more c.note_name.result _ _ _ c.note_name.ensures.keys;
}
