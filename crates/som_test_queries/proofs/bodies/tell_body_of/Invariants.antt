use Rattle.som_test_queries.proofs.bodies.tell_body_of.Given as goal

abbrev pub ghosts-counted_body : goal.ghosts-counted_body
ghosts-counted_body a = record { name = a.blank.name; parts = a.blank.parts }
