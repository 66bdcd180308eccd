use Rattle.som_test_queries.proofs.bodies.tell_body_above.Given as goal

abbrev pub ghosts-counted_above : goal.ghosts-counted_above
ghosts-counted_above a = record { name = a.blank.name; parts = a.blank.parts }
