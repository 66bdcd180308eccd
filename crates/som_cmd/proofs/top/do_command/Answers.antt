use Rattle.std.proofs.Common.{ℕ, List, refl, subst, inl, inr}
use Rattle.som_io.specs.Outside.{ShowsAll, ShowsFront}
use Rattle.som_cmd_main.specs.Traces.{shown_in}
use Rattle.som_cmd_run.specs.RunAnswer.{IsRunAnswer}
use Rattle.som_cmd_check.specs.ShowAnswer.{IsShowAnswer}
use Rattle.som_cmd_check.specs.CheckAnswer.{IsCheckAnswer}
use Rattle.som_cmd_build.specs.LibraryAnswer.{IsLibraryAnswer}
use Rattle.som_cmd_build.specs.ClientAnswer.{IsClientAnswer}
use Rattle.som_cmd_tasks.specs.Patterns.{turns_given}
use Rattle.som_cmd_tasks.specs.TasksAnswer.{IsTasksAnswer}
use Rattle.som_cmd_witness.specs.WitnessAnswer.{IsWitnessAnswer}
use Rattle.som_cmd_generate.specs.GenerateAnswer.{IsGenerateAnswer}
use Rattle.som_cmd_towers.specs.Answer.{IsTowerAnswer}
use Rattle.som_cmd_towers.specs.Asked.{tower_by}
use Rattle.som_cmd.specs.Words.{asked, Run, Show, Check, Library, Client, Tasks, Witness, Generate, Tower, Bad}
use Rattle.som_cmd.specs.Answer.{runs, shows, checks, compiles, compiles_client, takes_turns, shows_breach, generates, answers_tower}
use Rattle.som_cmd.proofs.EndLaws.{among, answered, bad_ends, bad_fronts, bad_status, bad_told, bad_untold, files_kept, front, generated_asked, generated_some, generated_told, none_written, one_line, store_failed}
use Rattle.som_cmd.proofs.WordLaws.{asked_mains, mains_by}
use Rattle.som_cmd.proofs.top.do_command.Goals as goal

-- ---- a run

pub returns-in-Run-clause-answered : goal.returns-in-Run-clause-answered
returns-in-Run-clause-answered g c = λ not6 not8 not10.
    answered (asked c.args.words.now) (Run c.in-Run.client.now c.in-Run.library.now c.in-Run.fuel (shown_in c.in-Run.trace)) c.in-Run.ensures (IsRunAnswer c.in-Run.client.now c.in-Run.library.now c.in-Run.fuel (shown_in c.in-Run.trace)) (λ files e a. runs c.in-Run.client.now c.in-Run.library.now c.in-Run.fuel (shown_in c.in-Run.trace) e a) (g.S.Store.files c.args.store.now) c.run_client.result (g.S.Store.files c.run_client.new.store) (g.K.Sink.written c.args.out.now) (g.K.Sink.written c.run_client.new.out) (c.run_client.ensures.answered not6 not8 not10)

pub returns-in-Run-clause-statuses : goal.returns-in-Run-clause-statuses
returns-in-Run-clause-statuses g c = among (asked c.args.words.now) (Run c.in-Run.client.now c.in-Run.library.now c.in-Run.fuel (shown_in c.in-Run.trace)) c.in-Run.ensures c.run_client.result c.run_client.ensures.statuses

pub returns-in-Run-clause-one_line : goal.returns-in-Run-clause-one_line
returns-in-Run-clause-one_line g c = one_line (asked c.args.words.now) (Run c.in-Run.client.now c.in-Run.library.now c.in-Run.fuel (shown_in c.in-Run.trace)) c.in-Run.ensures c.run_client.result (g.K.Sink.written c.args.out.now) (g.K.Sink.written c.run_client.new.out) c.run_client.ensures.one_line

pub returns-in-Run-clause-generates : goal.returns-in-Run-clause-generates
returns-in-Run-clause-generates g c = generated_asked (asked c.args.words.now) (Run c.in-Run.client.now c.in-Run.library.now c.in-Run.fuel (shown_in c.in-Run.trace)) c.in-Run.ensures c.run_client.result (g.K.Sink.written c.args.out.now) (g.K.Sink.written c.run_client.new.out) tt

pub returns-in-Run-clause-store_failed : goal.returns-in-Run-clause-store_failed
returns-in-Run-clause-store_failed g c = λ six. store_failed (asked c.args.words.now) (Run c.in-Run.client.now c.in-Run.library.now c.in-Run.fuel (shown_in c.in-Run.trace)) c.in-Run.ensures (g.S.Store.files c.args.store.now) (g.S.Store.faults c.args.store.now) (g.S.Store.faults c.run_client.new.store) (g.K.Sink.written c.args.out.now) (g.K.Sink.written c.run_client.new.out) (c.run_client.ensures.store_failed six)

pub returns-in-Run-clause-front : goal.returns-in-Run-clause-front
returns-in-Run-clause-front g c = λ either. front (asked c.args.words.now) (Run c.in-Run.client.now c.in-Run.library.now c.in-Run.fuel (shown_in c.in-Run.trace)) c.in-Run.ensures (IsRunAnswer c.in-Run.client.now c.in-Run.library.now c.in-Run.fuel (shown_in c.in-Run.trace)) (λ files e a. runs c.in-Run.client.now c.in-Run.library.now c.in-Run.fuel (shown_in c.in-Run.trace) e a) (g.S.Store.files c.args.store.now) (g.S.Store.faults c.args.store.now) (g.S.Store.faults c.run_client.new.store) (g.K.Sink.written c.args.out.now) (g.K.Sink.written c.run_client.new.out) (c.run_client.ensures.front either)

pub returns-in-Run-clause-files : goal.returns-in-Run-clause-files
returns-in-Run-clause-files g c = files_kept (asked c.args.words.now) (Run c.in-Run.client.now c.in-Run.library.now c.in-Run.fuel (shown_in c.in-Run.trace)) c.in-Run.ensures (g.S.Store.files c.args.store.now) (g.S.Store.faults c.args.store.now) (g.S.Store.faults c.run_client.new.store) c.run_client.result (g.S.Store.files c.run_client.new.store) (g.K.Sink.written c.args.out.now) (g.K.Sink.written c.run_client.new.out) c.run_client.ensures.files

-- ---- an image that is shown

pub returns-in-Show-clause-answered : goal.returns-in-Show-clause-answered
returns-in-Show-clause-answered g c = λ not6 not8 not10.
    answered (asked c.args.words.now) (Show c.in-Show.image.now) c.in-Show.ensures (IsShowAnswer c.in-Show.image.now) (λ files e a. shows c.in-Show.image.now e a) (g.S.Store.files c.args.store.now) c.show_image.result (g.S.Store.files c.show_image.new.store) (g.K.Sink.written c.args.out.now) (g.K.Sink.written c.show_image.new.out) (c.show_image.ensures.answered not6 not8 not10)

pub returns-in-Show-clause-statuses : goal.returns-in-Show-clause-statuses
returns-in-Show-clause-statuses g c = among (asked c.args.words.now) (Show c.in-Show.image.now) c.in-Show.ensures c.show_image.result c.show_image.ensures.statuses

pub returns-in-Show-clause-one_line : goal.returns-in-Show-clause-one_line
returns-in-Show-clause-one_line g c = one_line (asked c.args.words.now) (Show c.in-Show.image.now) c.in-Show.ensures c.show_image.result (g.K.Sink.written c.args.out.now) (g.K.Sink.written c.show_image.new.out) tt

pub returns-in-Show-clause-generates : goal.returns-in-Show-clause-generates
returns-in-Show-clause-generates g c = generated_asked (asked c.args.words.now) (Show c.in-Show.image.now) c.in-Show.ensures c.show_image.result (g.K.Sink.written c.args.out.now) (g.K.Sink.written c.show_image.new.out) tt

pub returns-in-Show-clause-store_failed : goal.returns-in-Show-clause-store_failed
returns-in-Show-clause-store_failed g c = λ six. store_failed (asked c.args.words.now) (Show c.in-Show.image.now) c.in-Show.ensures (g.S.Store.files c.args.store.now) (g.S.Store.faults c.args.store.now) (g.S.Store.faults c.show_image.new.store) (g.K.Sink.written c.args.out.now) (g.K.Sink.written c.show_image.new.out) (c.show_image.ensures.store_failed six)

pub returns-in-Show-clause-front : goal.returns-in-Show-clause-front
returns-in-Show-clause-front g c = λ either. front (asked c.args.words.now) (Show c.in-Show.image.now) c.in-Show.ensures (IsShowAnswer c.in-Show.image.now) (λ files e a. shows c.in-Show.image.now e a) (g.S.Store.files c.args.store.now) (g.S.Store.faults c.args.store.now) (g.S.Store.faults c.show_image.new.store) (g.K.Sink.written c.args.out.now) (g.K.Sink.written c.show_image.new.out) (c.show_image.ensures.front either)

pub returns-in-Show-clause-files : goal.returns-in-Show-clause-files
returns-in-Show-clause-files g c = files_kept (asked c.args.words.now) (Show c.in-Show.image.now) c.in-Show.ensures (g.S.Store.files c.args.store.now) (g.S.Store.faults c.args.store.now) (g.S.Store.faults c.show_image.new.store) c.show_image.result (g.S.Store.files c.show_image.new.store) (g.K.Sink.written c.args.out.now) (g.K.Sink.written c.show_image.new.out) c.show_image.ensures.files

-- ---- images that are checked

pub returns-in-Check-clause-answered : goal.returns-in-Check-clause-answered
returns-in-Check-clause-answered g c = λ not6 not8 not10.
    answered (asked c.args.words.now) (Check c.in-Check.images.now) c.in-Check.ensures (IsCheckAnswer c.in-Check.images.now) (λ files e a. checks c.in-Check.images.now e a) (g.S.Store.files c.args.store.now) c.check_images.result (g.S.Store.files c.check_images.new.store) (g.K.Sink.written c.args.out.now) (g.K.Sink.written c.check_images.new.out) (c.check_images.ensures.answered not6 not8 not10)

pub returns-in-Check-clause-statuses : goal.returns-in-Check-clause-statuses
returns-in-Check-clause-statuses g c = among (asked c.args.words.now) (Check c.in-Check.images.now) c.in-Check.ensures c.check_images.result c.check_images.ensures.statuses

pub returns-in-Check-clause-one_line : goal.returns-in-Check-clause-one_line
returns-in-Check-clause-one_line g c = one_line (asked c.args.words.now) (Check c.in-Check.images.now) c.in-Check.ensures c.check_images.result (g.K.Sink.written c.args.out.now) (g.K.Sink.written c.check_images.new.out) tt

pub returns-in-Check-clause-generates : goal.returns-in-Check-clause-generates
returns-in-Check-clause-generates g c = generated_asked (asked c.args.words.now) (Check c.in-Check.images.now) c.in-Check.ensures c.check_images.result (g.K.Sink.written c.args.out.now) (g.K.Sink.written c.check_images.new.out) tt

pub returns-in-Check-clause-store_failed : goal.returns-in-Check-clause-store_failed
returns-in-Check-clause-store_failed g c = λ six. store_failed (asked c.args.words.now) (Check c.in-Check.images.now) c.in-Check.ensures (g.S.Store.files c.args.store.now) (g.S.Store.faults c.args.store.now) (g.S.Store.faults c.check_images.new.store) (g.K.Sink.written c.args.out.now) (g.K.Sink.written c.check_images.new.out) (c.check_images.ensures.store_failed six)

pub returns-in-Check-clause-front : goal.returns-in-Check-clause-front
returns-in-Check-clause-front g c = λ either. front (asked c.args.words.now) (Check c.in-Check.images.now) c.in-Check.ensures (IsCheckAnswer c.in-Check.images.now) (λ files e a. checks c.in-Check.images.now e a) (g.S.Store.files c.args.store.now) (g.S.Store.faults c.args.store.now) (g.S.Store.faults c.check_images.new.store) (g.K.Sink.written c.args.out.now) (g.K.Sink.written c.check_images.new.out) (c.check_images.ensures.front either)

pub returns-in-Check-clause-files : goal.returns-in-Check-clause-files
returns-in-Check-clause-files g c = files_kept (asked c.args.words.now) (Check c.in-Check.images.now) c.in-Check.ensures (g.S.Store.files c.args.store.now) (g.S.Store.faults c.args.store.now) (g.S.Store.faults c.check_images.new.store) c.check_images.result (g.S.Store.files c.check_images.new.store) (g.K.Sink.written c.args.out.now) (g.K.Sink.written c.check_images.new.out) c.check_images.ensures.files

-- ---- texts that are compiled

pub returns-in-Library-clause-answered : goal.returns-in-Library-clause-answered
returns-in-Library-clause-answered g c = λ not6 not8 not10.
    answered (asked c.args.words.now) (Library c.in-Library.name.now c.in-Library.files.now) c.in-Library.ensures (IsLibraryAnswer c.in-Library.name.now c.in-Library.files.now) (λ files e a. compiles c.in-Library.name.now c.in-Library.files.now e a) (g.S.Store.files c.args.store.now) c.build_library.result (g.S.Store.files c.build_library.new.store) (g.K.Sink.written c.args.out.now) (g.K.Sink.written c.build_library.new.out) (c.build_library.ensures.answered not6 not8 not10)

pub returns-in-Library-clause-statuses : goal.returns-in-Library-clause-statuses
returns-in-Library-clause-statuses g c = among (asked c.args.words.now) (Library c.in-Library.name.now c.in-Library.files.now) c.in-Library.ensures c.build_library.result c.build_library.ensures.statuses

pub returns-in-Library-clause-one_line : goal.returns-in-Library-clause-one_line
returns-in-Library-clause-one_line g c = one_line (asked c.args.words.now) (Library c.in-Library.name.now c.in-Library.files.now) c.in-Library.ensures c.build_library.result (g.K.Sink.written c.args.out.now) (g.K.Sink.written c.build_library.new.out) tt

pub returns-in-Library-clause-generates : goal.returns-in-Library-clause-generates
returns-in-Library-clause-generates g c = generated_asked (asked c.args.words.now) (Library c.in-Library.name.now c.in-Library.files.now) c.in-Library.ensures c.build_library.result (g.K.Sink.written c.args.out.now) (g.K.Sink.written c.build_library.new.out) tt

pub returns-in-Library-clause-store_failed : goal.returns-in-Library-clause-store_failed
returns-in-Library-clause-store_failed g c = λ six. store_failed (asked c.args.words.now) (Library c.in-Library.name.now c.in-Library.files.now) c.in-Library.ensures (g.S.Store.files c.args.store.now) (g.S.Store.faults c.args.store.now) (g.S.Store.faults c.build_library.new.store) (g.K.Sink.written c.args.out.now) (g.K.Sink.written c.build_library.new.out) (c.build_library.ensures.store_failed six)

pub returns-in-Library-clause-front : goal.returns-in-Library-clause-front
returns-in-Library-clause-front g c = λ either. front (asked c.args.words.now) (Library c.in-Library.name.now c.in-Library.files.now) c.in-Library.ensures (IsLibraryAnswer c.in-Library.name.now c.in-Library.files.now) (λ files e a. compiles c.in-Library.name.now c.in-Library.files.now e a) (g.S.Store.files c.args.store.now) (g.S.Store.faults c.args.store.now) (g.S.Store.faults c.build_library.new.store) (g.K.Sink.written c.args.out.now) (g.K.Sink.written c.build_library.new.out) (c.build_library.ensures.front either)

pub returns-in-Library-clause-files : goal.returns-in-Library-clause-files
returns-in-Library-clause-files g c = files_kept (asked c.args.words.now) (Library c.in-Library.name.now c.in-Library.files.now) c.in-Library.ensures (g.S.Store.files c.args.store.now) (g.S.Store.faults c.args.store.now) (g.S.Store.faults c.build_library.new.store) c.build_library.result (g.S.Store.files c.build_library.new.store) (g.K.Sink.written c.args.out.now) (g.K.Sink.written c.build_library.new.out) c.build_library.ensures.files

pub build_library-requires : goal.build_library-requires
build_library-requires g c = mains_by c.args.words.now (Library c.in-Library.name.now c.in-Library.files.now) c.in-Library.ensures

-- ---- a client that is compiled

pub returns-in-Client-clause-answered : goal.returns-in-Client-clause-answered
returns-in-Client-clause-answered g c = λ not6 not8 not10.
    answered (asked c.args.words.now) (Client c.in-Client.name.now c.in-Client.library.now c.in-Client.files.now) c.in-Client.ensures (IsClientAnswer c.in-Client.name.now c.in-Client.library.now c.in-Client.files.now) (λ files e a. compiles_client c.in-Client.name.now c.in-Client.library.now c.in-Client.files.now e a) (g.S.Store.files c.args.store.now) c.build_client.result (g.S.Store.files c.build_client.new.store) (g.K.Sink.written c.args.out.now) (g.K.Sink.written c.build_client.new.out) (c.build_client.ensures.answered not6 not8 not10)

pub returns-in-Client-clause-statuses : goal.returns-in-Client-clause-statuses
returns-in-Client-clause-statuses g c = among (asked c.args.words.now) (Client c.in-Client.name.now c.in-Client.library.now c.in-Client.files.now) c.in-Client.ensures c.build_client.result c.build_client.ensures.statuses

pub returns-in-Client-clause-one_line : goal.returns-in-Client-clause-one_line
returns-in-Client-clause-one_line g c = one_line (asked c.args.words.now) (Client c.in-Client.name.now c.in-Client.library.now c.in-Client.files.now) c.in-Client.ensures c.build_client.result (g.K.Sink.written c.args.out.now) (g.K.Sink.written c.build_client.new.out) tt

pub returns-in-Client-clause-generates : goal.returns-in-Client-clause-generates
returns-in-Client-clause-generates g c = generated_asked (asked c.args.words.now) (Client c.in-Client.name.now c.in-Client.library.now c.in-Client.files.now) c.in-Client.ensures c.build_client.result (g.K.Sink.written c.args.out.now) (g.K.Sink.written c.build_client.new.out) tt

pub returns-in-Client-clause-store_failed : goal.returns-in-Client-clause-store_failed
returns-in-Client-clause-store_failed g c = λ six. store_failed (asked c.args.words.now) (Client c.in-Client.name.now c.in-Client.library.now c.in-Client.files.now) c.in-Client.ensures (g.S.Store.files c.args.store.now) (g.S.Store.faults c.args.store.now) (g.S.Store.faults c.build_client.new.store) (g.K.Sink.written c.args.out.now) (g.K.Sink.written c.build_client.new.out) (c.build_client.ensures.store_failed six)

pub returns-in-Client-clause-front : goal.returns-in-Client-clause-front
returns-in-Client-clause-front g c = λ either. front (asked c.args.words.now) (Client c.in-Client.name.now c.in-Client.library.now c.in-Client.files.now) c.in-Client.ensures (IsClientAnswer c.in-Client.name.now c.in-Client.library.now c.in-Client.files.now) (λ files e a. compiles_client c.in-Client.name.now c.in-Client.library.now c.in-Client.files.now e a) (g.S.Store.files c.args.store.now) (g.S.Store.faults c.args.store.now) (g.S.Store.faults c.build_client.new.store) (g.K.Sink.written c.args.out.now) (g.K.Sink.written c.build_client.new.out) (c.build_client.ensures.front either)

pub returns-in-Client-clause-files : goal.returns-in-Client-clause-files
returns-in-Client-clause-files g c = files_kept (asked c.args.words.now) (Client c.in-Client.name.now c.in-Client.library.now c.in-Client.files.now) c.in-Client.ensures (g.S.Store.files c.args.store.now) (g.S.Store.faults c.args.store.now) (g.S.Store.faults c.build_client.new.store) c.build_client.result (g.S.Store.files c.build_client.new.store) (g.K.Sink.written c.args.out.now) (g.K.Sink.written c.build_client.new.out) c.build_client.ensures.files

pub build_client-requires : goal.build_client-requires
build_client-requires g c = mains_by c.args.words.now (Client c.in-Client.name.now c.in-Client.library.now c.in-Client.files.now) c.in-Client.ensures

-- ---- clients that take turns

pub returns-in-Tasks-clause-answered : goal.returns-in-Tasks-clause-answered
returns-in-Tasks-clause-answered g c = λ not6 not8 not10.
    answered (asked c.args.words.now) (Tasks c.in-Tasks.library.now (turns_given c.in-Tasks.pattern.now c.in-Tasks.rounds) c.in-Tasks.clients.now) c.in-Tasks.ensures (IsTasksAnswer c.in-Tasks.library.now (turns_given c.in-Tasks.pattern.now c.in-Tasks.rounds) c.in-Tasks.clients.now) (λ files e a. takes_turns c.in-Tasks.library.now (turns_given c.in-Tasks.pattern.now c.in-Tasks.rounds) c.in-Tasks.clients.now e a) (g.S.Store.files c.args.store.now) c.run_tasks.result (g.S.Store.files c.run_tasks.new.store) (g.K.Sink.written c.args.out.now) (g.K.Sink.written c.run_tasks.new.out) (c.run_tasks.ensures.answered not6 not8 not10)

pub returns-in-Tasks-clause-statuses : goal.returns-in-Tasks-clause-statuses
returns-in-Tasks-clause-statuses g c = among (asked c.args.words.now) (Tasks c.in-Tasks.library.now (turns_given c.in-Tasks.pattern.now c.in-Tasks.rounds) c.in-Tasks.clients.now) c.in-Tasks.ensures c.run_tasks.result c.run_tasks.ensures.statuses

pub returns-in-Tasks-clause-one_line : goal.returns-in-Tasks-clause-one_line
returns-in-Tasks-clause-one_line g c = one_line (asked c.args.words.now) (Tasks c.in-Tasks.library.now (turns_given c.in-Tasks.pattern.now c.in-Tasks.rounds) c.in-Tasks.clients.now) c.in-Tasks.ensures c.run_tasks.result (g.K.Sink.written c.args.out.now) (g.K.Sink.written c.run_tasks.new.out) c.run_tasks.ensures.one_line

pub returns-in-Tasks-clause-generates : goal.returns-in-Tasks-clause-generates
returns-in-Tasks-clause-generates g c = generated_asked (asked c.args.words.now) (Tasks c.in-Tasks.library.now (turns_given c.in-Tasks.pattern.now c.in-Tasks.rounds) c.in-Tasks.clients.now) c.in-Tasks.ensures c.run_tasks.result (g.K.Sink.written c.args.out.now) (g.K.Sink.written c.run_tasks.new.out) tt

pub returns-in-Tasks-clause-store_failed : goal.returns-in-Tasks-clause-store_failed
returns-in-Tasks-clause-store_failed g c = λ six. store_failed (asked c.args.words.now) (Tasks c.in-Tasks.library.now (turns_given c.in-Tasks.pattern.now c.in-Tasks.rounds) c.in-Tasks.clients.now) c.in-Tasks.ensures (g.S.Store.files c.args.store.now) (g.S.Store.faults c.args.store.now) (g.S.Store.faults c.run_tasks.new.store) (g.K.Sink.written c.args.out.now) (g.K.Sink.written c.run_tasks.new.out) (c.run_tasks.ensures.store_failed six)

pub returns-in-Tasks-clause-front : goal.returns-in-Tasks-clause-front
returns-in-Tasks-clause-front g c = λ either. front (asked c.args.words.now) (Tasks c.in-Tasks.library.now (turns_given c.in-Tasks.pattern.now c.in-Tasks.rounds) c.in-Tasks.clients.now) c.in-Tasks.ensures (IsTasksAnswer c.in-Tasks.library.now (turns_given c.in-Tasks.pattern.now c.in-Tasks.rounds) c.in-Tasks.clients.now) (λ files e a. takes_turns c.in-Tasks.library.now (turns_given c.in-Tasks.pattern.now c.in-Tasks.rounds) c.in-Tasks.clients.now e a) (g.S.Store.files c.args.store.now) (g.S.Store.faults c.args.store.now) (g.S.Store.faults c.run_tasks.new.store) (g.K.Sink.written c.args.out.now) (g.K.Sink.written c.run_tasks.new.out) (c.run_tasks.ensures.front either)

pub returns-in-Tasks-clause-files : goal.returns-in-Tasks-clause-files
returns-in-Tasks-clause-files g c = files_kept (asked c.args.words.now) (Tasks c.in-Tasks.library.now (turns_given c.in-Tasks.pattern.now c.in-Tasks.rounds) c.in-Tasks.clients.now) c.in-Tasks.ensures (g.S.Store.files c.args.store.now) (g.S.Store.faults c.args.store.now) (g.S.Store.faults c.run_tasks.new.store) c.run_tasks.result (g.S.Store.files c.run_tasks.new.store) (g.K.Sink.written c.args.out.now) (g.K.Sink.written c.run_tasks.new.out) c.run_tasks.ensures.files

pub run_tasks-requires : goal.run_tasks-requires
run_tasks-requires g c = mains_by c.args.words.now (Tasks c.in-Tasks.library.now (turns_given c.in-Tasks.pattern.now c.in-Tasks.rounds) c.in-Tasks.clients.now) c.in-Tasks.ensures

-- ---- a witness of a breach

pub returns-in-Witness-clause-answered : goal.returns-in-Witness-clause-answered
returns-in-Witness-clause-answered g c = λ not6 not8 not10.
    answered (asked c.args.words.now) (Witness c.in-Witness.name.now c.in-Witness.old.now c.in-Witness.new.now) c.in-Witness.ensures (IsWitnessAnswer c.in-Witness.name.now c.in-Witness.old.now c.in-Witness.new.now) (λ files e a. shows_breach c.in-Witness.name.now c.in-Witness.old.now c.in-Witness.new.now e a) (g.S.Store.files c.args.store.now) c.witness_images.result (g.S.Store.files c.witness_images.new.store) (g.K.Sink.written c.args.out.now) (g.K.Sink.written c.witness_images.new.out) (c.witness_images.ensures.answered not6 not8 not10)

pub returns-in-Witness-clause-statuses : goal.returns-in-Witness-clause-statuses
returns-in-Witness-clause-statuses g c = among (asked c.args.words.now) (Witness c.in-Witness.name.now c.in-Witness.old.now c.in-Witness.new.now) c.in-Witness.ensures c.witness_images.result c.witness_images.ensures.statuses

pub returns-in-Witness-clause-one_line : goal.returns-in-Witness-clause-one_line
returns-in-Witness-clause-one_line g c = one_line (asked c.args.words.now) (Witness c.in-Witness.name.now c.in-Witness.old.now c.in-Witness.new.now) c.in-Witness.ensures c.witness_images.result (g.K.Sink.written c.args.out.now) (g.K.Sink.written c.witness_images.new.out) tt

pub returns-in-Witness-clause-generates : goal.returns-in-Witness-clause-generates
returns-in-Witness-clause-generates g c = generated_asked (asked c.args.words.now) (Witness c.in-Witness.name.now c.in-Witness.old.now c.in-Witness.new.now) c.in-Witness.ensures c.witness_images.result (g.K.Sink.written c.args.out.now) (g.K.Sink.written c.witness_images.new.out) tt

pub returns-in-Witness-clause-store_failed : goal.returns-in-Witness-clause-store_failed
returns-in-Witness-clause-store_failed g c = λ six. store_failed (asked c.args.words.now) (Witness c.in-Witness.name.now c.in-Witness.old.now c.in-Witness.new.now) c.in-Witness.ensures (g.S.Store.files c.args.store.now) (g.S.Store.faults c.args.store.now) (g.S.Store.faults c.witness_images.new.store) (g.K.Sink.written c.args.out.now) (g.K.Sink.written c.witness_images.new.out) (c.witness_images.ensures.store_failed six)

pub returns-in-Witness-clause-front : goal.returns-in-Witness-clause-front
returns-in-Witness-clause-front g c = λ either. front (asked c.args.words.now) (Witness c.in-Witness.name.now c.in-Witness.old.now c.in-Witness.new.now) c.in-Witness.ensures (IsWitnessAnswer c.in-Witness.name.now c.in-Witness.old.now c.in-Witness.new.now) (λ files e a. shows_breach c.in-Witness.name.now c.in-Witness.old.now c.in-Witness.new.now e a) (g.S.Store.files c.args.store.now) (g.S.Store.faults c.args.store.now) (g.S.Store.faults c.witness_images.new.store) (g.K.Sink.written c.args.out.now) (g.K.Sink.written c.witness_images.new.out) (c.witness_images.ensures.front either)

pub returns-in-Witness-clause-files : goal.returns-in-Witness-clause-files
returns-in-Witness-clause-files g c = files_kept (asked c.args.words.now) (Witness c.in-Witness.name.now c.in-Witness.old.now c.in-Witness.new.now) c.in-Witness.ensures (g.S.Store.files c.args.store.now) (g.S.Store.faults c.args.store.now) (g.S.Store.faults c.witness_images.new.store) c.witness_images.result (g.S.Store.files c.witness_images.new.store) (g.K.Sink.written c.args.out.now) (g.K.Sink.written c.witness_images.new.out) c.witness_images.ensures.files

-- ---- what is generated

pub generate-requires : goal.generate-requires
generate-requires g c = mains_by c.args.words.now (Generate c.in-Generate.count) c.in-Generate.ensures

pub returns-in-Generate-clause-answered : goal.returns-in-Generate-clause-answered
returns-in-Generate-clause-answered g c = λ not6 not8 not10.
    answered (asked c.args.words.now) (Generate c.in-Generate.count) c.in-Generate.ensures (IsGenerateAnswer c.in-Generate.count) (λ files e a. generates c.in-Generate.count e a) (g.S.Store.files c.args.store.now) c.generate.result (g.S.Store.files c.args.store.now) (g.K.Sink.written c.args.out.now) (g.K.Sink.written c.generate.new.out)
    (generated_told c.in-Generate.count (g.S.Store.files c.args.store.now) c.generate.result (g.K.Sink.written c.args.out.now) (g.K.Sink.written c.generate.new.out) (c.generate.ensures.answered not8 not10))

pub returns-in-Generate-clause-statuses : goal.returns-in-Generate-clause-statuses
returns-in-Generate-clause-statuses g c = among (asked c.args.words.now) (Generate c.in-Generate.count) c.in-Generate.ensures c.generate.result c.generate.ensures.statuses

pub returns-in-Generate-clause-one_line : goal.returns-in-Generate-clause-one_line
returns-in-Generate-clause-one_line g c = one_line (asked c.args.words.now) (Generate c.in-Generate.count) c.in-Generate.ensures c.generate.result (g.K.Sink.written c.args.out.now) (g.K.Sink.written c.generate.new.out) tt

pub returns-in-Generate-clause-generates : goal.returns-in-Generate-clause-generates
returns-in-Generate-clause-generates g c =
    generated_asked (asked c.args.words.now) (Generate c.in-Generate.count) c.in-Generate.ensures c.generate.result (g.K.Sink.written c.args.out.now) (g.K.Sink.written c.generate.new.out)
    (record { whole = c.generate.ensures.answered; front = c.generate.ensures.front })

pub returns-in-Generate-clause-store_failed : goal.returns-in-Generate-clause-store_failed
returns-in-Generate-clause-store_failed g c = λ six. absurd (c.generate.ensures.no_store six)

pub returns-in-Generate-clause-front : goal.returns-in-Generate-clause-front
returns-in-Generate-clause-front g c = λ either.
    front (asked c.args.words.now) (Generate c.in-Generate.count) c.in-Generate.ensures (IsGenerateAnswer c.in-Generate.count) (λ files e a. generates c.in-Generate.count e a) (g.S.Store.files c.args.store.now) (g.S.Store.faults c.args.store.now) (g.S.Store.faults c.args.store.now) (g.K.Sink.written c.args.out.now) (g.K.Sink.written c.generate.new.out)
    (generated_some c.in-Generate.count (g.S.Store.files c.args.store.now) (g.S.Store.faults c.args.store.now) (g.S.Store.faults c.args.store.now) (g.K.Sink.written c.args.out.now) (g.K.Sink.written c.generate.new.out) (c.generate.ensures.front either))

pub returns-in-Generate-clause-calm : goal.returns-in-Generate-clause-calm
returns-in-Generate-clause-calm g c = λ store sink. c.generate.ensures.calm sink

pub returns-in-Generate-clause-files : goal.returns-in-Generate-clause-files
returns-in-Generate-clause-files g c = files_kept (asked c.args.words.now) (Generate c.in-Generate.count) c.in-Generate.ensures (g.S.Store.files c.args.store.now) (g.S.Store.faults c.args.store.now) (g.S.Store.faults c.args.store.now) c.generate.result (g.S.Store.files c.args.store.now) (g.K.Sink.written c.args.out.now) (g.K.Sink.written c.generate.new.out) refl

-- ---- towers

pub returns-in-Tower-clause-answered : goal.returns-in-Tower-clause-answered
returns-in-Tower-clause-answered g c = λ not6 not8 not10.
    answered (asked c.args.words.now) (Tower (tower_by c.in-Tower.command)) c.in-Tower.ensures (IsTowerAnswer (tower_by c.in-Tower.command)) (λ files e a. answers_tower (tower_by c.in-Tower.command) e a) (g.S.Store.files c.args.store.now) c.do_tower.result (g.S.Store.files c.do_tower.new.store) (g.K.Sink.written c.args.out.now) (g.K.Sink.written c.do_tower.new.out) (c.do_tower.ensures.answered not6 not8 not10)

pub returns-in-Tower-clause-statuses : goal.returns-in-Tower-clause-statuses
returns-in-Tower-clause-statuses g c = among (asked c.args.words.now) (Tower (tower_by c.in-Tower.command)) c.in-Tower.ensures c.do_tower.result c.do_tower.ensures.statuses

pub returns-in-Tower-clause-one_line : goal.returns-in-Tower-clause-one_line
returns-in-Tower-clause-one_line g c = one_line (asked c.args.words.now) (Tower (tower_by c.in-Tower.command)) c.in-Tower.ensures c.do_tower.result (g.K.Sink.written c.args.out.now) (g.K.Sink.written c.do_tower.new.out) c.do_tower.ensures.one_line

pub returns-in-Tower-clause-generates : goal.returns-in-Tower-clause-generates
returns-in-Tower-clause-generates g c = generated_asked (asked c.args.words.now) (Tower (tower_by c.in-Tower.command)) c.in-Tower.ensures c.do_tower.result (g.K.Sink.written c.args.out.now) (g.K.Sink.written c.do_tower.new.out) tt

pub returns-in-Tower-clause-store_failed : goal.returns-in-Tower-clause-store_failed
returns-in-Tower-clause-store_failed g c = λ six. store_failed (asked c.args.words.now) (Tower (tower_by c.in-Tower.command)) c.in-Tower.ensures (g.S.Store.files c.args.store.now) (g.S.Store.faults c.args.store.now) (g.S.Store.faults c.do_tower.new.store) (g.K.Sink.written c.args.out.now) (g.K.Sink.written c.do_tower.new.out) (c.do_tower.ensures.store_failed six)

pub returns-in-Tower-clause-front : goal.returns-in-Tower-clause-front
returns-in-Tower-clause-front g c = λ either. front (asked c.args.words.now) (Tower (tower_by c.in-Tower.command)) c.in-Tower.ensures (IsTowerAnswer (tower_by c.in-Tower.command)) (λ files e a. answers_tower (tower_by c.in-Tower.command) e a) (g.S.Store.files c.args.store.now) (g.S.Store.faults c.args.store.now) (g.S.Store.faults c.do_tower.new.store) (g.K.Sink.written c.args.out.now) (g.K.Sink.written c.do_tower.new.out) (c.do_tower.ensures.front either)

pub returns-in-Tower-clause-files : goal.returns-in-Tower-clause-files
returns-in-Tower-clause-files g c = files_kept (asked c.args.words.now) (Tower (tower_by c.in-Tower.command)) c.in-Tower.ensures (g.S.Store.files c.args.store.now) (g.S.Store.faults c.args.store.now) (g.S.Store.faults c.do_tower.new.store) c.do_tower.result (g.S.Store.files c.do_tower.new.store) (g.K.Sink.written c.args.out.now) (g.K.Sink.written c.do_tower.new.out) c.do_tower.ensures.files

pub do_tower-requires : goal.do_tower-requires
do_tower-requires g c = mains_by c.args.words.now (Tower (tower_by c.in-Tower.command)) c.in-Tower.ensures

-- ---- words of no form

pub returns-in-Ok-clause-answered : goal.returns-in-Ok-clause-answered
returns-in-Ok-clause-answered g c = λ not6 not8 not10.
    bad_ends (asked c.args.words.now) c.in-Bad.ensures (g.S.Store.files c.args.store.now) c.say.result (c.say.ensures.status not8 not10) (g.S.Store.files c.args.store.now) refl
    (g.K.Sink.written c.args.out.now) (g.K.Sink.written c.say.new.out)
    (subst (λ (text : List ℕ). ShowsAll (g.K.Sink.written c.args.out.now) (g.K.Sink.written c.say.new.out) text) c.in-Ok.ensures (c.say.ensures.all not8 not10))

pub returns-in-Ok-clause-front : goal.returns-in-Ok-clause-front
returns-in-Ok-clause-front g c = λ _.
    bad_fronts (asked c.args.words.now) c.in-Bad.ensures (g.S.Store.files c.args.store.now) (g.S.Store.faults c.args.store.now) (g.S.Store.faults c.args.store.now)
    (g.K.Sink.written c.args.out.now) (g.K.Sink.written c.say.new.out)
    (subst (λ (text : List ℕ). ShowsFront (g.K.Sink.written c.args.out.now) (g.K.Sink.written c.say.new.out) text) c.in-Ok.ensures c.say.ensures.front)

pub returns-in-Err-clause-front : goal.returns-in-Err-clause-front
returns-in-Err-clause-front g c = λ _.
    none_written (asked c.args.words.now) (asked_mains c.args.words.now) (g.S.Store.files c.args.store.now) (g.S.Store.faults c.args.store.now) (g.S.Store.faults c.args.store.now) (g.K.Sink.written c.args.out.now)

pub returns-in-Ok-clause-files : goal.returns-in-Ok-clause-files
returns-in-Ok-clause-files g c =
    files_kept (asked c.args.words.now) Bad c.in-Bad.ensures (g.S.Store.files c.args.store.now) (g.S.Store.faults c.args.store.now) (g.S.Store.faults c.args.store.now) c.say.result (g.S.Store.files c.args.store.now) (g.K.Sink.written c.args.out.now) (g.K.Sink.written c.say.new.out) refl

pub returns-in-Err-clause-files : goal.returns-in-Err-clause-files
returns-in-Err-clause-files g c =
    files_kept (asked c.args.words.now) Bad c.in-Bad.ensures (g.S.Store.files c.args.store.now) (g.S.Store.faults c.args.store.now) (g.S.Store.faults c.args.store.now) 10 (g.S.Store.files c.args.store.now) (g.K.Sink.written c.args.out.now) (g.K.Sink.written c.args.out.now) refl

pub returns-in-Ok-clause-statuses : goal.returns-in-Ok-clause-statuses
returns-in-Ok-clause-statuses g c = among (asked c.args.words.now) Bad c.in-Bad.ensures c.say.result (bad_status c.say.result c.say.ensures.status)

pub returns-in-Err-clause-statuses : goal.returns-in-Err-clause-statuses
returns-in-Err-clause-statuses g c = among (asked c.args.words.now) Bad c.in-Bad.ensures 10 (inr (inr (inl refl)))

pub returns-in-Ok-clause-bad_text : goal.returns-in-Ok-clause-bad_text
returns-in-Ok-clause-bad_text g c = λ _.
    bad_told c.say.result (g.K.Sink.written c.args.out.now) (g.K.Sink.written c.say.new.out) _ c.in-Ok.ensures c.say.ensures.all c.say.ensures.front

pub returns-in-Err-clause-bad_text : goal.returns-in-Err-clause-bad_text
returns-in-Err-clause-bad_text g c = λ _. bad_untold (g.K.Sink.written c.args.out.now)

pub returns-in-Ok-clause-one_line : goal.returns-in-Ok-clause-one_line
returns-in-Ok-clause-one_line g c = one_line (asked c.args.words.now) Bad c.in-Bad.ensures c.say.result (g.K.Sink.written c.args.out.now) (g.K.Sink.written c.say.new.out) tt

pub returns-in-Err-clause-one_line : goal.returns-in-Err-clause-one_line
returns-in-Err-clause-one_line g c = one_line (asked c.args.words.now) Bad c.in-Bad.ensures 10 (g.K.Sink.written c.args.out.now) (g.K.Sink.written c.args.out.now) tt

pub returns-in-Ok-clause-generates : goal.returns-in-Ok-clause-generates
returns-in-Ok-clause-generates g c = generated_asked (asked c.args.words.now) Bad c.in-Bad.ensures c.say.result (g.K.Sink.written c.args.out.now) (g.K.Sink.written c.say.new.out) tt

pub returns-in-Err-clause-generates : goal.returns-in-Err-clause-generates
returns-in-Err-clause-generates g c = generated_asked (asked c.args.words.now) Bad c.in-Bad.ensures 10 (g.K.Sink.written c.args.out.now) (g.K.Sink.written c.args.out.now) tt
