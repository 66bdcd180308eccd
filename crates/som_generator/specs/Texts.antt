-- The texts of the generator under their names, as they are compiled.
use Rattle.std.specs.Prelude.{ℕ, List, [], ◌∷◌, ◌++◌, codes}
use Rattle.som_sources.specs.declared.source.Source.{Source}
use Rattle.som_generator.specs.declared.edition.Edition.{Edition}
use Rattle.som_generator.specs.Generated.{bodies_text, interfaces_text, main_text, release_number}

-- the texts of a release of so many classes
abbrev pub library_texts : Edition → ℕ → List Source
library_texts e n =
    record { name = release_number e ++ codes ".idl"; bytes = interfaces_text e n }
    ∷ record { name = release_number e ++ codes ".bod"; bytes = bodies_text e n } ∷ []

-- the text of its client
abbrev pub client_texts : ℕ → List Source
client_texts n = record { name = codes "c.main"; bytes = main_text n } ∷ []
