use Rattle.std.proofs.lemmas.Result.{on_ok_weaker}
use Rattle.som_test_stepping.proofs.Staying.{turned}
use Rattle.som_test_kernel.proofs.beside.take_round.Goals as goal

pub turn-requires-2 : goal.turn-requires-2
turn-requires-2 g c = (c.in_ok-turn.ensures.beside c.args.second.now c.requires).other_one

pub returns : goal.returns
returns g c =
    let q = c.turn.new.kernel in
    let p = c.turn-2.new.kernel in
    on_ok_weaker c.turn-2.result
    (λ still. turned (g.R.Runtime.linked p) (g.R.ClassKeys.known p) (g.R.Runtime.program p) (g.R.Classes.made p) c.turn-2.new.objects c.turn-2.new.task c.turn.new.task
    (still c.turn.new.task (turned (g.R.Runtime.linked q) (g.R.ClassKeys.known q) (g.R.Runtime.program q) (g.R.Classes.made q) c.turn.new.objects c.turn.new.task c.args.second.now (c.in_ok-turn.ensures.beside c.args.second.now c.requires))))
    c.turn-2.ensures.beside
