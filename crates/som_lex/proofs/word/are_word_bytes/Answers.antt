use Rattle.som_lex.specs.Alphabet.{is_word_byte}
use Rattle.som_lex.proofs.Words.{whole}
use Rattle.som_lex.proofs.word.are_word_bytes.Goals as goal

pub returns : goal.returns
returns c = rw c.word_len.ensures.value (whole is_word_byte c.args.bytes.now)
