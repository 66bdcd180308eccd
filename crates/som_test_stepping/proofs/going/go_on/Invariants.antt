use Rattle.som_test_stepping.proofs.going.go_on.Given as goal

abbrev pub ghosts-go_counted : goal.ghosts-go_counted
ghosts-go_counted g a = record { name = a.blank.name; parts = a.blank.parts }
