use Rattle.som_sema_drafts.specs.Drafts.{plain_drafts}
use Rattle.som_verify_forms.specs.Knowing.{all_of}
use Rattle.som_elab_methods.specs.Texts.{given}
use Rattle.som_elab_methods.proofs.Tabled.{told_shown}
use Rattle.som_elab_methods.proofs.named_bodies.bodies_named.Goals as goal

pub returns : goal.returns
returns c = told_shown (all_of c.args.known.now) (given c.args.texts.now.all.now) _ c.as_slice.result.now (plain_drafts c.args.drafts.now) c.each_named.result c.as_slice.ensures.value c.in_ok-classes.ensures c.each_named.ensures
