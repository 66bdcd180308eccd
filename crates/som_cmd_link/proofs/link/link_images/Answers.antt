use Rattle.som_cmd_link.proofs.Linking.{linking_refuses}
use Rattle.som_cmd_link.proofs.link.link_images.Goals as goal

pub returns-clause-refuses : goal.returns-clause-refuses
returns-clause-refuses g c = linking_refuses c.args.client.now c.args.library.now c.in_ok-pair.pair c.link_pair.result c.link_pair.ensures.links
