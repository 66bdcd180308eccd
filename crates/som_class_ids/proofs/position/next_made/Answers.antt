use Rattle.som_class_ids.proofs.position.next_made.Goals as goal

pub note_next-noted-requires-clause-parents : goal.note_next-noted-requires-clause-parents
note_next-noted-requires-clause-parents c = λ p m. c.requires.parents p (rw c.as_slice.ensures at m)
