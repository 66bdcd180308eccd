use Rattle.std.proofs.Common.{option_map, sym, ap, ◌∙◌}
use Rattle.som_sema_drafts.specs.Drafts.{plain_draft}
use Rattle.som_elab_methods.specs.OwnDrafts.{draft_of, drafts_in}
use Rattle.som_elab_methods.specs.Texts.{class_places}
use Rattle.som_elab_methods.proofs.NamedClasses.{unnamed}
use Rattle.som_elab_methods.proofs.Tabled.{named}
use Rattle.som_elab_methods.proofs.named_bodies.find_class.Goals as goal

pub returns-in-None : goal.returns-in-None
returns-in-None c = sym (unnamed 0 (drafts_in c.args.classes.now) c.args.name.now (sym (c.in-None.ensures (class_places 0 (drafts_in c.args.classes.now)) c.requires)))

pub returns-in-Some : goal.returns-in-Some
returns-in-Some c = ap (option_map (λ m. plain_draft (draft_of m))) c.class_at.ensures ∙ named c.args.classes.now c.args.name.now c.in-Some.place (c.in-Some.ensures (class_places 0 (drafts_in c.args.classes.now)) c.requires)
