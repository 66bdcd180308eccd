-- What was compiled, and what its image is read back as.
use Rattle.std.proofs.Common.{◌≡◌, ℕ, ◌≤◌, List, [], ◌∷◌, Some, Result, Ok, Err, refl, sym, ap, subst, ◌∙◌, arith, get_or}
use Rattle.std.proofs.lemmas.List.{length-map}
use Rattle.std.proofs.lemmas.List.Elements.{All-map}
use Rattle.som_model.specs.declared.class.ClassDecl.{ClassDecl}
use Rattle.som_model.specs.declared.limits.TheConstants.{MAX_LIBRARY_CLASSES}
use Rattle.som_model.specs.declared.program.ClientProgram.{ClientProgram}
use Rattle.som_model.specs.declared.program.Interface.{Interface}
use Rattle.som_model.specs.declared.program.Release.{Release}
use Rattle.som_model.specs.Class.{interface_of}
use Rattle.som_model.specs.Conforming.{ProgramOk, ReleaseOk}
use Rattle.som_model.specs.Images.{client_image, library_image}
use Rattle.som_image_classes.specs.ClassLimits.{ClassWithin, FaceWithin}
use Rattle.som_libimage.specs.Limits.{IsWithinLimits}
use Rattle.som_libimage.proofs.Decoded.{image_within}
use Rattle.som_compat.specs.Conditions.{Conforms, IsCounted}
use Rattle.som_compat.proofs.Released.{interface_conforms}
use Rattle.som_sources.specs.declared.source.Source.{Source}
use Rattle.som_sources.specs.declared.fault.CompileFault.{CompileFault}
use Rattle.som_sources.specs.declared.fault.CompileFault.TheVariants as compiling
use Rattle.som_sources.specs.declared.fault.TextFault.{TextFault}
use Rattle.som_sources.specs.Reading.{Says}
use Rattle.som_compile.specs.Compiling.{Compiles, CompilesClient, IsBase, StandFor, StandForClient, an_image, a_client_image, client_unbuilt, client_unread, unbuilt, unread}
use Rattle.som_compile.proofs.Standing.{program_conforms, release_conforms}
use Rattle.som_generator.specs.declared.made.Client.{Client}
use Rattle.som_generator.specs.declared.made.Library.{Library}
use Rattle.som_generator.specs.declared.fault.MakeFault.{MakeFault}
use Rattle.som_generator.specs.declared.fault.MakeFault.TheVariants as faults
use Rattle.som_generator.specs.declared.fault.Unmade.TheVariants as unmade
use Rattle.som_generator.specs.Making.{Answers, IsClient, IsLibrary}
use Rattle.som_generator.specs.Steps.{ClientComes, ClientImageComes, ImageComes, LibraryComes, fault_of}

-- ---- libraries

-- why texts aren't compiled
pub uncompiled : (ss : List Source) (f : CompileFault) (r : MakeFault) → Says {A = List ℕ} (Compiles ss) (Err f) → r ≡ fault_of f → Answers {A = List ℕ} (ImageComes ss) (Err r)
uncompiled ss (compiling.Text w) r says is = subst (λ (x : MakeFault). Answers {A = List ℕ} (ImageComes ss) (Err x)) (sym is) says
uncompiled ss compiling.NoMemory r says is = subst (λ (x : MakeFault). Answers {A = List ℕ} (ImageComes ss) (Err x)) (sym is) tt

-- why a library isn't made whose texts aren't compiled
pub unbuilt_library : (ss : List Source) (r : MakeFault) → Answers {A = List ℕ} (ImageComes ss) (Err r) → Answers {A = Library} (LibraryComes ss) (Err r)
unbuilt_library ss (faults.Unmade (unmade.Texts w)) a = a
unbuilt_library ss (faults.Unmade (unmade.NotKept k)) a = absurd a
unbuilt_library ss faults.NoMemory a = tt

abbrev compiled : List ℕ → Result (List ℕ) TextFault
compiled image = Ok image

-- what was compiled to an image is a release
stood_as : (ss : List Source) (told : Result (List ℕ) TextFault) (image : List ℕ) → told ≡ compiled image → Compiles ss told → (r : Release) × StandFor ss r × (library_image r ≡ Some image)
stood_as ss _ image same (an_image r i s e) = (r, s, e ∙ (let is : i ≡ image = cc in ap (λ (z : List ℕ). Some z) is))
stood_as ss _ image same (unread w x) = absurd cc
stood_as ss _ image same (unbuilt ts f x t) = absurd cc

pub has_release : (ss : List Source) (image : List ℕ) → Compiles ss (Ok image) → (r : Release) × (library_image r ≡ Some image)
has_release ss image c = let s = stood_as ss (Ok image) image refl c in (s.0, s.2)

-- and that release is what is read back
pub is_library : (ss : List Source) (image : List ℕ) (read : Release) → Compiles ss (Ok image) → ((r : Release) → library_image r ≡ Some image → read ≡ r) → IsLibrary ss (record { release = read; image = image })
is_library ss image read c same =
    let s = stood_as ss (Ok image) image refl c in
    let is = same s.0 s.2 in
    record { stand = subst (StandFor ss) (sym is) s.1; image_is = ap library_image is ∙ s.2 }

pub read_conforms : (ss : List Source) (image : List ℕ) (read : Release) → Compiles ss (Ok image) → ((r : Release) → library_image r ≡ Some image → read ≡ r) → ReleaseOk read
read_conforms ss image read c same = release_conforms ss read (is_library ss image read c same).stand

-- so there is one with such an image
pub some_library_of : (ss : List Source) (image : List ℕ) → Compiles ss (Ok image) → (l : Library) × IsLibrary ss l
some_library_of ss image c = let s = stood_as ss (Ok image) image refl c in (record { release = s.0; image = image }, record { stand = s.1; image_is = s.2 })

pub library_conforms : (ss : List Source) (l : Library) → IsLibrary ss l → ReleaseOk l.release
library_conforms ss l i = release_conforms ss l.release i.stand

library_within : (ss : List Source) (l : Library) → IsLibrary ss l → IsWithinLimits l.release
library_within ss l i = image_within l.release l.image i.image_is

counted : (d : ClassDecl) → ClassWithin d → IsCounted d.face
counted d w = record { some = w.face.some_parent; parents = w.face.parents; entries = w.face.entries }

pub library_compared : (ss : List Source) (l : Library) → IsLibrary ss l → Conforms (interface_of l.release)
library_compared ss l i =
    let w = library_within ss l i in
    interface_conforms l.release (library_conforms ss l i) (let few = w.classes in omega (arith, few)) (λ k d lt. counted (get_or l.release.classes k d) (w.each_class k d lt))

-- clients may be compiled against it
pub library_base : (ss : List Source) (l : Library) → IsLibrary ss l → IsBase (interface_of l.release)
library_base ss l i =
    let w = library_within ss l i in
    record {
      conforms = (library_compared ss l i).rules;
      few = subst (λ (n : ℕ). n ≤ MAX_LIBRARY_CLASSES) (sym (length-map l.release.classes (λ (d : ClassDecl). d.face))) w.classes;
      each_face = All-map FaceWithin (λ (d : ClassDecl). d.face) l.release.classes (λ k d lt. (w.each_class k d lt).face);
    }

-- ---- clients

pub client_uncompiled : (base : Interface) (ss : List Source) (f : CompileFault) (r : MakeFault) → Says {A = List ℕ} (CompilesClient base ss) (Err f) → r ≡ fault_of f → Answers {A = List ℕ} (ClientImageComes base ss) (Err r)
client_uncompiled base ss (compiling.Text w) r says is = subst (λ (x : MakeFault). Answers {A = List ℕ} (ClientImageComes base ss) (Err x)) (sym is) says
client_uncompiled base ss compiling.NoMemory r says is = subst (λ (x : MakeFault). Answers {A = List ℕ} (ClientImageComes base ss) (Err x)) (sym is) tt

pub unbuilt_client : (base : Interface) (ss : List Source) (r : MakeFault) → Answers {A = List ℕ} (ClientImageComes base ss) (Err r) → Answers {A = Client} (ClientComes base ss) (Err r)
unbuilt_client base ss (faults.Unmade (unmade.Texts w)) a = a
unbuilt_client base ss (faults.Unmade (unmade.NotKept k)) a = absurd a
unbuilt_client base ss faults.NoMemory a = tt

client_stood_as : (base : Interface) (ss : List Source) (told : Result (List ℕ) TextFault) (image : List ℕ) → told ≡ compiled image → CompilesClient base ss told
    → (p : ClientProgram) × StandForClient base ss p × (client_image p ≡ Some image)
client_stood_as base ss _ image same (a_client_image p i s e) = (p, s, e ∙ (let is : i ≡ image = cc in ap (λ (z : List ℕ). Some z) is))
client_stood_as base ss _ image same (client_unread w x) = absurd cc
client_stood_as base ss _ image same (client_unbuilt ts main f x o t) = absurd cc

pub has_program : (base : Interface) (ss : List Source) (image : List ℕ) → CompilesClient base ss (Ok image) → (p : ClientProgram) × (client_image p ≡ Some image)
has_program base ss image c = let s = client_stood_as base ss (Ok image) image refl c in (s.0, s.2)

pub is_client : (base : Interface) (ss : List Source) (image : List ℕ) (read : ClientProgram) → CompilesClient base ss (Ok image) → ((p : ClientProgram) → client_image p ≡ Some image → read ≡ p)
    → IsClient base ss (record { program = read; image = image })
is_client base ss image read c same =
    let s = client_stood_as base ss (Ok image) image refl c in
    let is = same s.0 s.2 in
    record { stand = subst (StandForClient base ss) (sym is) s.1; image_is = ap client_image is ∙ s.2 }

pub program_read_conforms : (base : Interface) (ss : List Source) (image : List ℕ) (read : ClientProgram) → IsBase base → CompilesClient base ss (Ok image) → ((p : ClientProgram) → client_image p ≡ Some image → read ≡ p) → ProgramOk read
program_read_conforms base ss image read b c same = program_conforms base ss read b (is_client base ss image read c same).stand

pub some_client_of : (base : Interface) (ss : List Source) (image : List ℕ) → CompilesClient base ss (Ok image) → (c : Client) × IsClient base ss c
some_client_of base ss image c = let s = client_stood_as base ss (Ok image) image refl c in (record { program = s.0; image = image }, record { stand = s.1; image_is = s.2 })
