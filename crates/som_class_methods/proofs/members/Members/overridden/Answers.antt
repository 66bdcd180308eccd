use Rattle.som_class_methods.proofs.members.Members.overridden.Goals as goal

pub returns : goal.returns
returns c = λ k d m at. rw c.as_slice.ensures ((m.own c.args.class d c.own_at.result.now at c.own_at.ensures).overrides)
