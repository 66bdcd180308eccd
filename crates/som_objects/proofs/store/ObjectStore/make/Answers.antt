use Rattle.std.proofs.Common.{◌≡◌, ◌∙◌, ◌+◌, length, sym, ap}
use Rattle.som_objects.proofs.Found.{many}
use Rattle.som_objects.proofs.Changing.{made_more}
use Rattle.som_objects.proofs.Known.{keeps_made, known_made}
use Rattle.som_objects.proofs.store.ObjectStore.make.Goals as goal

pub invariant_of-self-2 : goal.invariant_of-self-2
invariant_of-self-2 c =
    let e : c.self.inside.made ≡ length c.args.self.now = sym (many c.self.inside.slots.slots c.self.inside.made) ∙ ap length c.self.view_is in
    let next : c.in_ok-serial.serial ≡ c.self.inside.made + 1 = c.in_ok-serial.ensures ∙ ap (λ n. n + 1) (sym e) in
    rw next ((made_more c.self.inside.slots.slots c.insert.new.self.slots c.self.inside.made c.in_ok-_place._place (record { serial = c.in_ok-serial.serial; class = c.args.class; cells = c.into_vec.result }) c.self.invariant next
    c.in_ok-_place.ensures.was_vacant c.in_ok-_place.ensures.updates.changed (λ j ne. c.in_ok-_place.ensures.updates.others j ne)).0)

pub returns-clause-made : goal.returns-clause-made
returns-clause-made c =
    let e : c.self.inside.made ≡ length c.args.self.now = sym (many c.self.inside.slots.slots c.self.inside.made) ∙ ap length c.self.view_is in
    let next : c.in_ok-serial.serial ≡ c.self.inside.made + 1 = c.in_ok-serial.ensures ∙ ap (λ n. n + 1) (sym e) in
    let key : c.in_ok-_place._place ≡ c.in_ok-key.key = c.in_ok-_place.ensures.key ∙ sym c.in_ok-key.ensures in
    let w = made_more c.self.inside.slots.slots c.insert.new.self.slots c.self.inside.made c.in_ok-_place._place (record { serial = c.in_ok-serial.serial; class = c.args.class; cells = c.into_vec.result }) c.self.invariant next
    c.in_ok-_place.ensures.was_vacant c.in_ok-_place.ensures.updates.changed (λ j ne. c.in_ok-_place.ensures.updates.others j ne) in
    record { serial = c.in_ok-serial.ensures; added = rw (next, ← c.self.view_is, ← key, ← c.into_vec.ensures) w.1 }

pub returns-clause-known : goal.returns-clause-known
returns-clause-known c = known_made _ _ _ _ _ (returns-clause-made c)

pub returns-clause-keeps : goal.returns-clause-keeps
returns-clause-keeps c = keeps_made _ _ _ _ _ (returns-clause-made c)
