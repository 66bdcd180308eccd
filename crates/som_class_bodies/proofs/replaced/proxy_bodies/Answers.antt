use Rattle.som_class_bodies.proofs.Answering.{proxy_answer}
use Rattle.som_class_bodies.proofs.replaced.proxy_bodies.Goals as goal

pub returns : goal.returns
returns c =
    proxy_answer c.args.classes.now c.requires.loaded c.args.class c.args.of c.requires.numbered c.requires.proxy _ _ _ _ c.in_ok-extend_from_slice.ensures.ok c.as_slice.ensures c.in_ok-bodies.ensures c.in_ok-forwarded.ensures
