use Rattle.std.proofs.Common.{◌∙◌, ◌≡◌, ◌+◌, length, sym, ap}
use Rattle.som_objects.proofs.Found.{many}
use Rattle.som_objects.proofs.store.ObjectStore.next_serial.Goals as goal

pub returns-in-Some : goal.returns-in-Some
returns-in-Some c =
    let e : c.self.inside.made ≡ length c.args.self.now = sym (many c.self.inside.slots.slots c.self.inside.made) ∙ ap length c.self.view_is in
    c.in-Some.ensures.1 ∙ ap (λ n. n + 1) e
