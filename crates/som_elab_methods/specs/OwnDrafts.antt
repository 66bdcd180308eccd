-- Interfaces whose methods stand in tables.
use Rattle.std.specs.Prelude.{List, map}
use Rattle.som_sema_drafts.specs.Drafts.{InterfaceDraft, plain_draft}
use Rattle.som_sema_drafts.specs.declared.drafts.Draft.{Draft}
use Rattle.som_elab_methods.specs.declared.own_methods.OwnMethods.{OwnMethods}

-- the interface with its declaration
abbrev pub draft_of : OwnMethods → Draft
draft_of m = m.draft.now

-- the interfaces
abbrev pub drafts_in : List OwnMethods → List InterfaceDraft
drafts_in ms = map (λ m. plain_draft (draft_of m)) ms
