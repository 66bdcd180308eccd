use Rattle.som_cmd_tasks.proofs.giving.give_turns.Given as goal

abbrev pub ghosts-give_counted : goal.ghosts-give_counted
ghosts-give_counted g a = record { name = a.blank.name; parts = a.blank.parts }
