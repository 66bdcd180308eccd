use Rattle.std.proofs.Common.{◌∙◌, refl, []}
use Rattle.som_order.proofs.Noted.{among_keys, found_name}
use Rattle.som_order.proofs.names.find_name.Goals as goal

pub returns-clause-some : goal.returns-clause-some
returns-clause-some c = found_name c.args.name.now c.args.seen.now.keys (record { ref_ptr = (0, 0); now = [] }) c.get_index_of.result refl c.get_index_of.ensures.index

pub returns-clause-among : goal.returns-clause-among
returns-clause-among c = c.get_index_of.ensures.found ∙ among_keys c.args.name.now c.args.seen.now.keys
