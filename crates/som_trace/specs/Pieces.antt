-- The names of classes, piece by piece.
use Rattle.std.specs.Prelude.{◌≡◌, ℕ, List, [], ◌∷◌, ◌++◌, map, Option, Some, None, codes}
use Rattle.std.specs.List.{AllByRecursion}
use Rattle.som_model.specs.declared.key.ClassKey.{ClassKey, fold-ClassKey}
use Rattle.som_model.specs.declared.key.ClassKey.TheOpen.{ClassKey-F}
use Rattle.som_meta.specs.Numbering.{Numbering, key_at, IsNumbered, AreNumbered}
use Rattle.som_trace.specs.declared.pieces.Part.{Part}
use Rattle.som_trace.specs.declared.pieces.Part.TheVariants as parts
use denote.Ref.{Bor}

-- a comma and the pieces of a name, for each of these names, and the bracket after them
abbrev pub rest_of : List (List (List ℕ)) → List (List ℕ)
rest_of [] = codes ")" ∷ []
rest_of (name ∷ names) = codes "," ∷ (name ++ rest_of names)

-- the pieces of names with commas between, and the bracket after them
abbrev pub list_of : List (List (List ℕ)) → List (List ℕ)
list_of [] = codes ")" ∷ []
list_of (name ∷ names) = name ++ rest_of names

abbrev pub pieces_step : ClassKey-F (List (List ℕ)) → List (List ℕ)
pieces_step (ClassKey-F.Named m name) = name ∷ []
pieces_step (ClassKey-F.Derived names) = codes "Derived(" ∷ list_of names
pieces_step (ClassKey-F.Proxy name) = codes "Proxy(" ∷ list_of (name ∷ [])

-- the pieces of a class's name: the names of declared classes, and what stands around them
abbrev pub name_pieces : ClassKey → List (List ℕ)
name_pieces = fold-ClassKey (List (List ℕ)) pieces_step

-- the pieces of the names of numbered classes
abbrev pub pieces_of : Numbering → List ℕ → List (List (List ℕ))
pieces_of k classes = map (λ c. name_pieces (key_at k c)) classes

abbrev pub rest_pieces : Numbering → List ℕ → List (List ℕ)
rest_pieces k classes = rest_of (pieces_of k classes)

abbrev pub list_pieces : Numbering → List ℕ → List (List ℕ)
list_pieces k classes = list_of (pieces_of k classes)

-- the pieces of a part of a line: bytes, the name of a class, names with a comma before each and the bracket after them, or the bracket alone
abbrev pub part_pieces : Numbering → Part → List (List ℕ)
part_pieces k (parts.Bytes bytes) = bytes.now ∷ []
part_pieces k (parts.Name class) = name_pieces (key_at k class)
part_pieces k (parts.Rest classes) = rest_pieces k classes.now
part_pieces k parts.End = codes ")" ∷ []

-- the pieces of parts of which the last comes first, and after them others
abbrev pub pieces_before : Numbering → List (List ℕ) → List Part → List (List ℕ)
pieces_before k others [] = others
pieces_before k others (part ∷ ps) = pieces_before k (part_pieces k part ++ others) ps

-- the pieces of parts of which the last comes first
abbrev pub pieces_left : Numbering → List Part → List (List ℕ)
pieces_left k ps = pieces_before k [] ps

-- the classes that a part names are the hierarchy's
abbrev pub IsPart : Numbering → Part → Type 0
IsPart k (parts.Bytes bytes) = Unit {0}
IsPart k (parts.Name class) = IsNumbered k class
IsPart k (parts.Rest classes) = AreNumbered k classes.now
IsPart k parts.End = Unit {0}

-- the classes that these parts name are the hierarchy's
abbrev pub AreParts : Numbering → List Part → Type 0
AreParts k ps = AllByRecursion (IsPart k) ps

-- the first of these pieces, and those after it; or there is none
abbrev pub IsNext : List (List ℕ) → Option (Bor (List ℕ)) → List (List ℕ) → Type 0
IsNext pieces None left = pieces ≡ []
IsNext pieces (Some piece) left = pieces ≡ piece.now ∷ left
