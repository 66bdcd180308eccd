-- The spelling of what libraries and clients have in common, with numbers and slots, and which values can stand in it.
use Rattle.std.specs.Prelude.{ℕ, ◌+◌, List, [], ◌∷◌, ◌++◌, length}
use Rattle.som_model.specs.declared.limits.TheConstants.{MAX_LIBRARY_CLASSES}
use Rattle.som_image_fields.specs.declared.face.WireFace.{WireFace}
use Rattle.som_image_fields.specs.declared.method.Ranges.{Ranges}
use Rattle.som_image_fields.specs.Spelling.{FitsCounted, FitsFace, FitsMethod}
use Rattle.som_image_fields.specs.declared.syntax.WirePart.{WirePart}
use Rattle.som_image_fields.specs.declared.selects.WireSelects.{WireSelects}
use Rattle.som_image_fields.specs.SyntaxSpelling.{selects}
use Rattle.som_image_fields.specs.Fitting.{FitsPart, FitsSelects, FitsSomeSelects}
use Rattle.som_image_classes.specs.ReadClasses.{introduced_count}

-- each fits the other of its place, and there are as many
abbrev pub FitEach : {A B : Type 0} → (A → B → Type 0) → List A → List B → Type 0
FitEach Fits [] [] = Unit {0}
FitEach Fits (x ∷ xs) (y ∷ ys) = Fits x y × FitEach Fits xs ys
FitEach Fits [] (y ∷ ys) = ⊥
FitEach Fits (x ∷ xs) [] = ⊥

-- a part with a body for each entry that the face introduces
abbrev pub FitsClass : Ranges → WireFace → WirePart → Type 0
FitsClass ranges f p = FitsPart ranges (introduced_count f) p

-- a part for each face
abbrev pub FitsParts : Ranges → List WireFace → List WirePart → Type 0
FitsParts ranges fs ps = FitEach (FitsClass ranges) fs ps

-- at most so many faces, each with numbers of these classes and of so many before them alone
abbrev pub FitsFacesAfter : ℕ → ℕ → List WireFace → Type 0
FitsFacesAfter before most fs = FitsCounted 0 most (FitsFace (length fs + before)) fs

-- as many faces as a library may have, after the kernel's four classes
abbrev pub FitsFaces : List WireFace → Type 0
FitsFaces fs = FitsFacesAfter 4 MAX_LIBRARY_CLASSES fs

-- the magic bytes, and a version
abbrev pub head : List ℕ → ℕ → List ℕ
head magic version = magic ++ version ∷ []

-- ---- selects

-- the version of an image: 2 where some classes have selects
abbrev pub version_with : List WireSelects → ℕ
version_with [] = 1
version_with (c ∷ cs) = 2

-- nothing where no class has selects
abbrev pub section : List WireSelects → List ℕ
section [] = []
section (c ∷ cs) = selects (c ∷ cs)

-- none, or those of some of the classes with the numbers from first on
abbrev pub FitsSection : Ranges → ℕ → List WireSelects → Type 0
FitsSection ranges first [] = Unit {0}
FitsSection ranges first (c ∷ cs) = FitsSelects ranges.classes (FitsMethod ranges) first (c ∷ cs)

-- none, or some that can stand somewhere
abbrev pub FitsSomeSection : List WireSelects → Type 0
FitsSomeSection [] = Unit {0}
FitsSomeSection (c ∷ cs) = FitsSomeSelects (c ∷ cs)
