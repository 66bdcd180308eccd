use Rattle.std.specs.List.{concat}
use Rattle.std.proofs.Common.{◌≡◌, ◌≢◌, ℕ, List, Some, rules, subst}
use Rattle.som_io.specs.Outside.{ShowsAll}
use Rattle.som_cmd_witness.proofs.PutLaws.{ends_with}
use Rattle.som_cmd_witness.proofs.putting.tell_and_put.Goals as goal

pub returns-in-Some-clause-ends : goal.returns-in-Some-clause-ends
returns-in-Some-clause-ends g c =
    let zero : c.say_lines-status.result ≡ 0 = search rules in
    let is : c.args.told.now.image ≡ Some c.in-Some.image = search rules in
    let all = subst (λ (l : List (List ℕ)). c.say_lines-status.result ≢ 8 → c.say_lines-status.result ≢ 10 → ShowsAll (g.K.Sink.written c.args.out.now) (g.K.Sink.written c.say_lines-status.new.out) (concat l)) c.as_slice.ensures c.say_lines-status.ensures.all in
    ends_with (concat c.args.told.now.lines) c.args.told.now.image (g.S.Store.files c.args.store.now) c.args.name.now (g.S.Store.faults c.args.store.now) (g.S.Store.faults c.put_after.new.store) (g.K.Sink.faults c.args.out.now)
    c.in-Some.image (g.K.Sink.faults c.say_lines-status.new.out) (g.K.Sink.faults c.put_after.new.out) c.put_after.result c.say_lines-status.result (g.S.Store.files c.put_after.new.store)
    (g.K.Sink.written c.args.out.now) (g.K.Sink.written c.say_lines-status.new.out) (g.K.Sink.written c.put_after.new.out) zero all is c.put_after.ensures.bytes c.say_lines-status.ensures.later c.put_after.ensures.ends
