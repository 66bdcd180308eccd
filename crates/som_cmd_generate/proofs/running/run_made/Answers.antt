use Rattle.som_semantics.specs.RunText.{run_status}
use Rattle.som_cmd_generate.specs.GenerateAnswer.{classes_line, client_run, ran_text}
use Rattle.som_cmd_generate.proofs.Clear.{client_within, nothing_in_the_way, second_within}
use Rattle.som_cmd_generate.proofs.PrintLaws.{failed_first, prints_after, starved_first}
use Rattle.som_cmd_generate.proofs.running.run_made.Goals as goal

pub returns-in-Whole-clause-prints : goal.returns-in-Whole-clause-prints
returns-in-Whole-clause-prints g c =
    let run = client_run c.args.made.now in
    prints_after (classes_line c.args.count) (ran_text run) (run_status run) (g.K.Sink.faults c.args.out.now) (g.K.Sink.faults c.print_number.new.out) (g.K.Sink.faults c.run_client.new.out)
    (g.K.Sink.written c.args.out.now) (g.K.Sink.written c.print_number.new.out) (g.K.Sink.written c.run_client.new.out) c.run_client.result
    c.in-Whole.ensures.text c.print_number.ensures.later c.run_client.ensures.prints

pub returns-in-Failed-clause-prints : goal.returns-in-Failed-clause-prints
returns-in-Failed-clause-prints g c =
    let run = client_run c.args.made.now in
    failed_first (classes_line c.args.count) (ran_text run) (run_status run) (g.K.Sink.faults c.args.out.now) (g.K.Sink.faults c.print_number.new.out)
    (g.K.Sink.written c.args.out.now) (g.K.Sink.written c.print_number.new.out) c.in-Failed.ensures.text c.in-Failed.ensures.cause

pub returns-in-NoMemory-clause-prints : goal.returns-in-NoMemory-clause-prints
returns-in-NoMemory-clause-prints g c =
    let run = client_run c.args.made.now in
    starved_first (classes_line c.args.count) (ran_text run) (run_status run) (g.K.Sink.faults c.args.out.now) (g.K.Sink.faults c.print_number.new.out)
    (g.K.Sink.written c.args.out.now) (g.K.Sink.written c.print_number.new.out) c.in-NoMemory.ensures.text

pub run_client-requires-clause-clear : goal.run_client-requires-clause-clear
run_client-requires-clause-clear g c = nothing_in_the_way c.args.count c.args.made.now c.requires

pub run_client-requires-clause-release : goal.run_client-requires-clause-release
run_client-requires-clause-release g c = second_within c.args.count c.args.made.now c.requires

pub run_client-requires-clause-program : goal.run_client-requires-clause-program
run_client-requires-clause-program g c = client_within c.args.count c.args.made.now c.requires
