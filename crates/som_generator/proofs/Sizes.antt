-- The texts have no more bytes than the texts of one command may have.
use Rattle.std.proofs.Common.{ℕ, ◌≤◌, arith}
use Rattle.som_model.specs.declared.limits.TheConstants.{MAX_BYTES}
use Rattle.som_sources.specs.Sources.{bytes_in}
use Rattle.som_generator.specs.declared.edition.Edition.{Edition}
use Rattle.som_generator.specs.declared.limits.TheConstants.{MAX_CLASSES}
use Rattle.som_generator.proofs.Lengths.{bodies_length, interfaces_length, main_length}
use Rattle.som_generator.specs.Texts.{client_texts, library_texts}

pub library_small : (e : Edition) (n : ℕ) → n ≤ MAX_CLASSES → bytes_in (library_texts e n) ≤ MAX_BYTES
library_small e n le = omega (arith, interfaces_length e n le, bodies_length e n le, le)

pub client_small : (n : ℕ) → n ≤ MAX_CLASSES → bytes_in (client_texts n) ≤ MAX_BYTES
client_small n le = omega (arith, main_length n le, le)
