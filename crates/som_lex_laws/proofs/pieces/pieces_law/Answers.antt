use Rattle.som_lex_laws.proofs.CutPieces.{cut}
use Rattle.som_lex_laws.proofs.SeenPieces.{all_bytes, all_seen}
use Rattle.som_lex_laws.proofs.pieces.pieces_law.Goals as goal

pub returns-clause-tokens : goal.returns-clause-tokens
returns-clause-tokens c = cut

pub returns-clause-seen : goal.returns-clause-seen
returns-clause-seen c = all_seen

pub returns-clause-bytes : goal.returns-clause-bytes
returns-clause-bytes c = all_bytes
