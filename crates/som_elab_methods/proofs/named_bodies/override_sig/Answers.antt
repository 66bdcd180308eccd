use Rattle.std.proofs.Common.{option_copied, refl}
use Rattle.som_sema_drafts.specs.Drafts.{plain_draft}
use Rattle.som_verify_forms.specs.Knowing.{all_of}
use Rattle.som_elab_methods.specs.OwnDrafts.{draft_of}
use Rattle.som_elab_methods.proofs.NamedClasses.{signed_override}
use Rattle.som_elab_methods.proofs.named_bodies.override_sig.Goals as goal

pub returns-in-Some : goal.returns-in-Some
returns-in-Some c = signed_override (all_of c.args.known.now) (plain_draft (draft_of c.args.class.now)) c.args.name.now c.args.name.now (draft_of c.args.class.now).decl.overrides c.in-Some.replaced.now (option_copied c.signature_of.result) refl refl c.in-Some.ensures c.signature_of.ensures.is
