-- What compiling a client prints, answers and leaves: the first step that refuses, or the image under a name.
use Rattle.std.specs.Prelude.{ℕ, List, Result}
use Rattle.som_model.specs.Bytes.{Files}
use Rattle.som_model.specs.Class.{interface_of}
use Rattle.som_sources.specs.declared.fault.TextFault.{TextFault}
use Rattle.som_compile.specs.Compiling.{CompilesClient}
use Rattle.som_cmd_steps.specs.Endings.{Ending}
use Rattle.som_cmd_sources.specs.declared.client_parts.ClientParts.{ClientParts}
use Rattle.som_cmd_sources.specs.Parts.{parts_in}
use Rattle.som_cmd_sources.specs.PutAnswer.{IsMade, IsPutAnswer}

-- the texts are compiled against what the release shows
abbrev pub CompilesParts : ClientParts → Result (List ℕ) TextFault → Type 0
CompilesParts parts told = CompilesClient (interface_of parts.base) parts.texts told

-- what is under these names is compiled to this image
abbrev pub IsClientCompiled : Files → List ℕ → List (List ℕ) → List ℕ → Type 0
IsClientCompiled files library names image = IsMade CompilesParts (parts_in library names files) image

-- The library and the texts are got, the library is tested, the texts are compiled against it, and the image is put under the name.
abbrev pub IsClientAnswer : List ℕ → List ℕ → List (List ℕ) → Files → Ending → Type 0
IsClientAnswer out library names files e = IsPutAnswer CompilesParts files out (parts_in library names files) e
