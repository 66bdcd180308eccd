use Rattle.som_class_bodies.proofs.replaced.forwarded_bodies.Goals as goal

pub returns : goal.returns
returns c = record { tokens = c.as_slice.result.now; are = rw c.as_slice.ensures c.in_ok-handed.ensures.tokens; methods = rw c.as_slice.ensures c.in_ok-handed.ensures.methods; is = c.in_ok-bodies.ensures }
