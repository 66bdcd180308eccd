use Rattle.std.proofs.Common.{◌≡◌, ◌+◌, ◌++◌, ◌∷◌, List, [], length, refl, sym, subst}
use Rattle.std.proofs.lemmas.Option.{slice_get_read}
use Rattle.som_tasks.specs.declared.client.Client.{Client as Held}
use Rattle.som_tasks.proofs.Beginning.{SoFar, so_far_more}
use Rattle.som_tasks.proofs.starting.start_clients.Goals as goal

pub loop-number-preserved : goal.loop-number-preserved
loop-number-preserved g c =
    let client = c.in_ok-start_client.field-0 in
    let kernel = c.index-kernels-number.result in
    let pushed : c.push.new.self.items ≡ c.loop-number.clients.items ++ client ∷ [] = c.in_ok-push.ensures.items in
    subst (λ (clients : List Held). SoFar g.R.Classes.world g.R.Runtime.linked g.R.ClassKeys.known g.R.Runtime.program g.R.Classes.made c.args.kernels.now (c.loop-number.number + 1) clients) (sym pushed)
    (so_far_more g.R.Classes.world g.R.Runtime.linked g.R.ClassKeys.known g.R.Runtime.program g.R.Classes.made c.args.kernels.now c.loop-number.number c.loop-number.clients.items kernel client
    (slice_get_read c.args.kernels.now (length c.args.kernels.now) c.loop-number.number kernel refl c.loop-number-test.true c.index-kernels-number.is) c.in_ok-start_client.ensures c.loop-number.invariant)
