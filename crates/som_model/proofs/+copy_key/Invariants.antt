use Rattle.std.proofs.Common.{◌≡◌, take}
use Rattle.som_model.proofs.+copy_key.Given as goal

abbrev pub invariant-copy_key::copy_keys-loop-key : goal.invariant-copy_key::copy_keys-loop-key
invariant-copy_key::copy_keys-loop-key l = l.copies ≡ take l.key-index l.keys
