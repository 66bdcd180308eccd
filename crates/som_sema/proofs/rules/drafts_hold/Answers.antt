use Rattle.std.proofs.Common.{◌∙◌}
use Rattle.som_verify_classes.proofs.DeclaredClasses.{are_declared}
use Rattle.som_verify_classes.proofs.Conformity.{none_or}
use Rattle.som_sema.proofs.Composing.{own_names}
use Rattle.som_sema.proofs.rules.drafts_hold.Goals as goal

pub returns-clause-tells : goal.returns-clause-tells
returns-clause-tells c = none_or _ _ c.in_ok-table.ensures.tells c.in_ok-lists.ensures.tells

pub returns-clause-ancestors : goal.returns-clause-ancestors
returns-clause-ancestors c = record {
  declared = are_declared c.args.classes.now;
  names = c.in_ok-table.ensures.table.are;
  apart = own_names c.args.classes.now c.args.base c.requires.conforms ∙ c.in_ok-table.ensures.tells;
  stand = c.in_ok-lists.ensures.stand;
  lists = c.in_ok-lists.ensures.lists;
}
