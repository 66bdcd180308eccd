use Rattle.som_compat.specs.Told.{told}
use Rattle.som_witness_programs.proofs.Concluding.{not_two, shown_exact}
use Rattle.som_witness_programs.proofs.answering.shown.Goals as goal

pub returns : goal.returns
returns c =
    shown_exact c.args.old.now c.args.new.now (told c.args.breach.now) c.in_ok-client.client c.in_ok-class.class c.in_ok-name.name c.in_ok-base.base c.new.result
    c.in_ok-class.ensures c.in_ok-name.ensures c.in_ok-base.ensures c.new.ensures (not_two (told c.args.breach.now) c.requires.rule) c.in_ok-client.ensures
