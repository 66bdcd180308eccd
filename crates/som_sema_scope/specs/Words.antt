-- The interfaces of files, and the texts of words.
use Rattle.std.specs.Prelude.{ℕ, List, [], map, flat_map}
use Rattle.std.specs.Str.{bytes_eq}
use Rattle.std.specs.Borrow.{Bor}
use Rattle.som_model_laws.specs.Once.{adds}
use Rattle.som_ast.specs.declared.words.Word.{Word}
use Rattle.som_ast.specs.declared.interface.IdlFile.{IdlFile}
use Rattle.som_ast.specs.declared.interface.IdlInterface.{IdlInterface}

-- the interfaces of all files, in order
abbrev pub interfaces_of : List IdlFile → List IdlInterface
interfaces_of files = flat_map (λ (f : IdlFile). f.interfaces) files

-- the texts of words
abbrev pub words : List Word → List (List ℕ)
words ws = map (λ (w : Word). w.text) ws

-- the names, each at its first place
abbrev pub once : List (List ℕ) → List (List ℕ)
once names = adds bytes_eq [] names

-- the interfaces that are borrowed
abbrev pub lent : List (Bor IdlInterface) → List IdlInterface
lent is = map (λ i. i.now) is

-- the names of interfaces
abbrev pub interface_names : List IdlInterface → List (List ℕ)
interface_names is = map (λ (i : IdlInterface). i.name.text) is
