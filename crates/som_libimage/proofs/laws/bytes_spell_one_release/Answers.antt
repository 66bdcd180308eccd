use Rattle.som_libimage.proofs.Decoded.{one_release}
use Rattle.som_libimage.proofs.laws.bytes_spell_one_release.Goals as goal

pub returns : goal.returns
returns c = one_release
