use Rattle.som_test_api.proofs.worked.a_name_is_sought.Given as goal

abbrev pub ghosts-is_sought : goal.ghosts-is_sought
ghosts-is_sought g a = record { name = a.blank.name; parts = a.blank.parts }
