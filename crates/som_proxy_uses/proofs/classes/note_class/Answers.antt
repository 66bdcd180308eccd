use Rattle.som_proxy_uses.proofs.Noting.{class_noted, on_ok}
use Rattle.som_proxy_uses.proofs.classes.note_class.Goals as goal

pub returns : goal.returns
returns c = on_ok c.note_overrides.result c.note_overrides.ensures (λ p. class_noted c.args.class.now _ _ _ _ _ c.as_slice.ensures c.as_slice-2.ensures c.in_ok-note_bodies.ensures p)
