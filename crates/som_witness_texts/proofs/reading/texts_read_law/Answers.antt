use Rattle.som_witness_texts.proofs.FilesRead.{texts_read}
use Rattle.som_witness_texts.proofs.reading.texts_read_law.Goals as goal

pub returns : goal.returns
returns c = texts_read
