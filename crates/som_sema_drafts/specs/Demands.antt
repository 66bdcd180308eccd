-- What is demanded of the draft of an interface, as the list of what breaks it.
use Rattle.std.specs.Prelude.{ℕ, Bool, if◌then◌else◌, List, [], ◌∷◌}
use Rattle.som_model.specs.Rules.{RuleBreach}
use Rattle.som_sema_drafts.specs.Drafts.{InterfaceDraft}

-- a breach by a member of the class of an interface
abbrev pub text_breach : ℕ → InterfaceDraft → List ℕ → RuleBreach
text_breach rule d member = record { rule = rule; class = d.class.face.name; member = member }

-- a breach by a member of the class of an interface, unless the demand holds
abbrev pub text_demand : ℕ → InterfaceDraft → List ℕ → Bool → List RuleBreach
text_demand rule d member holds = if holds then [] else text_breach rule d member ∷ []
