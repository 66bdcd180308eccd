use Rattle.som_cmd_tasks.proofs.Refusing.{linking_refuses}
use Rattle.som_cmd_tasks.proofs.linking.link_clients.Goals as goal

pub returns-clause-refuses : goal.returns-clause-refuses
returns-clause-refuses g c = linking_refuses c.fault_law.ensures.library c.fault_law.ensures.client c.args.library.now c.args.clients.now c.in_ok-library_bytes.library_bytes c.as_slice.result.now c.link_bytes.result c.link_bytes.ensures.links
