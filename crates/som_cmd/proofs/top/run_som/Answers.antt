use Rattle.som_cmd.specs.Words.{asked}
use Rattle.som_cmd.proofs.Complete.{complete}
use Rattle.som_cmd.proofs.EndLaws.{means, newest_runs, newest_turns, turns_told, unkept, shown, shown_client, accepted, breach, compiled, client_compiled, witnessed, generated}
use Rattle.som_cmd.proofs.TowerEndLaws.{level_accepted, level_breach, level_compiled, newest_tower, tower_means, tower_unkept}
use Rattle.som_cmd.proofs.WordLaws.{asked_mains}
use Rattle.som_cmd.proofs.top.run_som.Goals as goal

pub returns-clause-complete : goal.returns-clause-complete
returns-clause-complete g c = λ steady quiet.
    complete (g.S.Store.faults c.args.store.now) (g.S.Store.faults c.do_command.new.store) steady (g.K.Sink.faults c.args.out.now) (g.K.Sink.faults c.do_command.new.out) quiet (asked c.args.words.now) c.do_command.result
    (g.S.Store.files c.do_command.new.store) (g.K.Sink.written c.args.out.now) (g.K.Sink.written c.do_command.new.out) (g.S.Store.files c.args.store.now) c.do_command.ensures.answered c.do_command.ensures.store_failed c.do_command.ensures.sink_failed c.do_command.ensures.front c.do_command.ensures.files

pub returns-clause-newest : goal.returns-clause-newest
returns-clause-newest g c = λ earlier newest place texts p fuel calls images.
    newest_runs (asked c.args.words.now) (g.S.Store.files c.args.store.now) earlier newest place texts p fuel calls images c.do_command.result (g.S.Store.faults c.args.store.now) (g.S.Store.faults c.do_command.new.store) (g.K.Sink.faults c.args.out.now) (g.K.Sink.faults c.do_command.new.out)
    (g.S.Store.files c.do_command.new.store) (g.K.Sink.written c.args.out.now) (g.K.Sink.written c.do_command.new.out) c.do_command.ensures.answered c.do_command.ensures.store_failed c.do_command.ensures.sink_failed c.do_command.ensures.front

pub returns-clause-newest_turns : goal.returns-clause-newest_turns
returns-clause-newest_turns g c = λ earlier newest cs turns images.
    newest_turns (asked c.args.words.now) (g.S.Store.files c.args.store.now) earlier newest cs turns images c.alone_law.ensures c.do_command.result (g.S.Store.faults c.args.store.now) (g.S.Store.faults c.do_command.new.store) (g.K.Sink.faults c.args.out.now) (g.K.Sink.faults c.do_command.new.out)
    (g.S.Store.files c.do_command.new.store) (g.K.Sink.written c.args.out.now) (g.K.Sink.written c.do_command.new.out) c.do_command.ensures.answered c.do_command.ensures.store_failed c.do_command.ensures.sink_failed c.do_command.ensures.front

pub returns-clause-interleaved : goal.returns-clause-interleaved
returns-clause-interleaved g c = λ library clients r ps turns images kept not6 not8 not10. turns_told (asked c.args.words.now) (g.S.Store.files c.args.store.now) c.do_command.result (g.S.Store.files c.do_command.new.store) (g.K.Sink.written c.args.out.now) (g.K.Sink.written c.do_command.new.out) (c.do_command.ensures.answered not6 not8 not10) c.alone_law.ensures library clients r ps turns images kept

pub returns-clause-meaning : goal.returns-clause-meaning
returns-clause-meaning g c = λ client library p r fuel calls images kept not6 not8 not10. means (asked c.args.words.now) (g.S.Store.files c.args.store.now) c.do_command.result (g.S.Store.files c.do_command.new.store) (g.K.Sink.written c.args.out.now) (g.K.Sink.written c.do_command.new.out) (c.do_command.ensures.answered not6 not8 not10) client library p r fuel calls images kept

pub returns-clause-incompatible : goal.returns-clause-incompatible
returns-clause-incompatible g c = λ client library p r fuel calls b images is not6 not8 not10. unkept (asked c.args.words.now) (g.S.Store.files c.args.store.now) c.do_command.result (g.S.Store.files c.do_command.new.store) (g.K.Sink.written c.args.out.now) (g.K.Sink.written c.do_command.new.out) (c.do_command.ensures.answered not6 not8 not10) client library p r fuel calls b images is

pub returns-clause-shown : goal.returns-clause-shown
returns-clause-shown g c = λ r image not6 not8 not10. shown (asked c.args.words.now) (g.S.Store.files c.args.store.now) c.do_command.result (g.S.Store.files c.do_command.new.store) (g.K.Sink.written c.args.out.now) (g.K.Sink.written c.do_command.new.out) (c.do_command.ensures.answered not6 not8 not10) r image

pub returns-clause-shown_client : goal.returns-clause-shown_client
returns-clause-shown_client g c = λ p image not6 not8 not10. shown_client (asked c.args.words.now) (g.S.Store.files c.args.store.now) c.do_command.result (g.S.Store.files c.do_command.new.store) (g.K.Sink.written c.args.out.now) (g.K.Sink.written c.do_command.new.out) (c.do_command.ensures.answered not6 not8 not10) p image

pub returns-clause-accepted : goal.returns-clause-accepted
returns-clause-accepted g c = λ names rs checked not6 not8 not10. accepted (asked c.args.words.now) (g.S.Store.files c.args.store.now) c.do_command.result (g.S.Store.files c.do_command.new.store) (g.K.Sink.written c.args.out.now) (g.K.Sink.written c.do_command.new.out) (c.do_command.ensures.answered not6 not8 not10) names rs checked

pub returns-clause-breach : goal.returns-clause-breach
returns-clause-breach g c = λ names rs number b checked told not6 not8 not10. breach (asked c.args.words.now) (g.S.Store.files c.args.store.now) c.do_command.result (g.S.Store.files c.do_command.new.store) (g.K.Sink.written c.args.out.now) (g.K.Sink.written c.do_command.new.out) (c.do_command.ensures.answered not6 not8 not10) names rs number b checked told

pub returns-clause-compiled : goal.returns-clause-compiled
returns-clause-compiled g c = λ name r texts not6 not8 not10. compiled (asked c.args.words.now) (g.S.Store.files c.args.store.now) c.do_command.result (g.S.Store.files c.do_command.new.store) (g.K.Sink.written c.args.out.now) (g.K.Sink.written c.do_command.new.out) (c.do_command.ensures.answered not6 not8 not10) (g.S.Store.faults c.args.store.now) (g.S.Store.faults c.do_command.new.store) c.do_command.ensures.files name r texts

pub returns-clause-client_compiled : goal.returns-clause-client_compiled
returns-clause-client_compiled g c = λ name p texts not6 not8 not10. client_compiled (asked c.args.words.now) (g.S.Store.files c.args.store.now) c.do_command.result (g.S.Store.files c.do_command.new.store) (g.K.Sink.written c.args.out.now) (g.K.Sink.written c.do_command.new.out) (c.do_command.ensures.answered not6 not8 not10) (g.S.Store.faults c.args.store.now) (g.S.Store.faults c.do_command.new.store) c.do_command.ensures.files name p texts

pub returns-clause-witnessed : goal.returns-clause-witnessed
returns-clause-witnessed g c = λ name older newer o n images not6 not8 not10. witnessed (asked c.args.words.now) (g.S.Store.files c.args.store.now) c.do_command.result (g.S.Store.files c.do_command.new.store) (g.K.Sink.written c.args.out.now) (g.K.Sink.written c.do_command.new.out) (c.do_command.ensures.answered not6 not8 not10) (g.S.Store.faults c.args.store.now) (g.S.Store.faults c.do_command.new.store) c.do_command.ensures.files name older newer o n images

pub returns-clause-generated : goal.returns-clause-generated
returns-clause-generated g c = λ n m made not8 not10. generated (asked c.args.words.now) c.do_command.result (g.K.Sink.written c.args.out.now) (g.K.Sink.written c.do_command.new.out) c.do_command.ensures.generates n m made not8 not10

pub returns-clause-tower_newest : goal.returns-clause-tower_newest
returns-clause-tower_newest g c = λ earlier base lists newest texts client fuel images.
    newest_tower (asked c.args.words.now) (g.S.Store.files c.args.store.now) c.do_command.result (g.S.Store.files c.do_command.new.store) (g.K.Sink.written c.args.out.now) (g.K.Sink.written c.do_command.new.out) (asked_mains c.args.words.now) earlier base lists newest texts client fuel images (g.S.Store.faults c.args.store.now) (g.S.Store.faults c.do_command.new.store) (g.K.Sink.faults c.args.out.now) (g.K.Sink.faults c.do_command.new.out) c.do_command.ensures.answered c.do_command.ensures.store_failed c.do_command.ensures.sink_failed c.do_command.ensures.front

pub returns-clause-tower_meaning : goal.returns-clause-tower_meaning
returns-clause-tower_meaning g c = λ below base uppers client fuel images none not6 not8 not10.
    tower_means (asked c.args.words.now) (g.S.Store.files c.args.store.now) c.do_command.result (g.S.Store.files c.do_command.new.store) (g.K.Sink.written c.args.out.now) (g.K.Sink.written c.do_command.new.out) (c.do_command.ensures.answered not6 not8 not10) below base uppers client fuel images none

pub returns-clause-tower_incompatible : goal.returns-clause-tower_incompatible
returns-clause-tower_incompatible g c = λ below base uppers client fuel level b images is not6 not8 not10.
    tower_unkept (asked c.args.words.now) (g.S.Store.files c.args.store.now) c.do_command.result (g.S.Store.files c.do_command.new.store) (g.K.Sink.written c.args.out.now) (g.K.Sink.written c.do_command.new.out) (c.do_command.ensures.answered not6 not8 not10) below base uppers client fuel level b images is

pub returns-clause-tower_accepted : goal.returns-clause-tower_accepted
returns-clause-tower_accepted g c = λ name o n images not6 not8 not10.
    level_accepted (asked c.args.words.now) (g.S.Store.files c.args.store.now) c.do_command.result (g.S.Store.files c.do_command.new.store) (g.K.Sink.written c.args.out.now) (g.K.Sink.written c.do_command.new.out) (c.do_command.ensures.answered not6 not8 not10) name o n images

pub returns-clause-tower_breach : goal.returns-clause-tower_breach
returns-clause-tower_breach g c = λ name o n found images lost not6 not8 not10.
    level_breach (asked c.args.words.now) (g.S.Store.files c.args.store.now) c.do_command.result (g.S.Store.files c.do_command.new.store) (g.K.Sink.written c.args.out.now) (g.K.Sink.written c.do_command.new.out) (c.do_command.ensures.answered not6 not8 not10) name o n found images lost

pub returns-clause-tower_compiled : goal.returns-clause-tower_compiled
returns-clause-tower_compiled g c = λ name l texts not6 not8 not10.
    level_compiled (asked c.args.words.now) (g.S.Store.files c.args.store.now) c.do_command.result (g.S.Store.files c.do_command.new.store) (g.K.Sink.written c.args.out.now) (g.K.Sink.written c.do_command.new.out) (c.do_command.ensures.answered not6 not8 not10) (g.S.Store.faults c.args.store.now) (g.S.Store.faults c.do_command.new.store) c.do_command.ensures.files (asked_mains c.args.words.now) name l texts
