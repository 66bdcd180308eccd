use Rattle.som_class_methods.proofs.members.Members.selecting.Goals as goal

pub returns : goal.returns
returns c = λ k d m at. rw c.as_slice.ensures ((m.own c.args.class d c.own_at.result.now at c.own_at.ensures).selects)
