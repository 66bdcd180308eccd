-- What stands under names after an image was put under one of them.
use Rattle.std.proofs.Common.{◌≡◌, ◌≢◌, ℕ, Bool, true, false, cond, List, Option, Some, Result, Ok, refl, sym, ap, ◌∙◌}
use Rattle.std.specs.Cmp.{Equal-is, eq_by_cmp_equiv}
use Rattle.std.specs.Cmp.Lexicographic.{nat_list_cmp_total, slice_cmp}
use Rattle.std.specs.FinMap.{get, get-insert, insert, nat_cmp-IsAntisymmetric, slice_cmp-IsAntisymmetric}
use Rattle.std.specs.Ordering.{eq_by_cmp, nat_cmp}
use Rattle.som_model.specs.declared.program.ClientProgram.{ClientProgram}
use Rattle.som_model.specs.declared.program.Release.{Release}
use Rattle.som_model.specs.Bytes.{Files}
use Rattle.som_model.specs.Class.{interface_of}
use Rattle.som_model.specs.Images.{client_image, library_image}
use Rattle.som_image_fields.specs.declared.fault.ImageFault.{ImageFault}
use Rattle.som_libimage.specs.Libraries.{library_at}
use Rattle.som_libimage.proofs.Decoded.{image_within, library_again}
use Rattle.som_compile.proofs.Standing.{program_conforms, release_conforms}
use Rattle.som_cmd_steps.specs.StoredImages.{IsClientUnder, IsUnder}
use Rattle.som_cmd_build.specs.PutEnds.{HoldsClientTexts, HoldsTexts, PutsImage}
use Rattle.som_cmd_build.proofs.BaseLaws.{shows_base}

-- ---- files

apart : (a b : List ℕ) → a ≢ b → eq_by_cmp (slice_cmp nat_cmp) a b ≡ false
apart a b differ = by (eq_by_cmp (slice_cmp nat_cmp) a b) refl
  where
    by : (t : Bool) → eq_by_cmp (slice_cmp nat_cmp) a b ≡ t → t ≡ false
    by true e = absurd (differ (slice_cmp-IsAntisymmetric nat_cmp-IsAntisymmetric a b ((Equal-is (slice_cmp nat_cmp a b)).0 e)))
    by false e = refl

-- the image stands under its name
pub get_put : (files : Files) (name image : List ℕ) → get (insert files name image) name ≡ Some image
get_put files name image =
    get-insert nat_list_cmp_total files name image name ∙ ap (λ (b : Bool). cond b (Some image) (get files name)) ((eq_by_cmp_equiv nat_list_cmp_total).refl name)

-- and under every other name what stood there
pub get_kept : (files : Files) (name image other : List ℕ) → other ≢ name → get (insert files name image) other ≡ get files other
get_kept files name image other differ =
    get-insert nat_list_cmp_total files name image other ∙ ap (λ (b : Bool). cond b (Some image) (get files other)) (apart other name differ)

same_some : (a b : List ℕ) → Some a ≡ Some b → a ≡ b
same_some a b e = cc

same_files : (a b : Files) → Some a ≡ Some b → a ≡ b
same_files a b e = cc

-- so an image is known by the files after its put
pub same_image : (files : Files) (name a b : List ℕ) → Some (insert files name a) ≡ Some (insert files name b) → a ≡ b
same_image files name a b e =
    same_some a b (sym (get_put files name a) ∙ ap (λ (now : Files). get now name) (same_files (insert files name a) (insert files name b) e) ∙ get_put files name b)

-- ---- releases and client programs

-- what is under one name stays where an image is put under another
pub still_under : (files : Files) (name out image : List ℕ) (r : Release) → name ≢ out → IsUnder files name r → IsUnder (insert files out image) name r
still_under files name out image r differ u = record { bytes = u.bytes; image_is = get_kept files out image name differ ∙ u.image_is; bytes_are = u.bytes_are; spelled = u.spelled; conforms = u.conforms }

pub client_still_under : (files : Files) (name out image : List ℕ) (p : ClientProgram) → name ≢ out → IsClientUnder files name p → IsClientUnder (insert files out image) name p
client_still_under files name out image p differ u = record { bytes = u.bytes; image_is = get_kept files out image name differ ∙ u.image_is; bytes_are = u.bytes_are; spelled = u.spelled; conforms = u.conforms }

module _ (files : Files) (out : List ℕ) (status : ℕ) (new_files : Option Files) (old new : Option (List ℕ)) where
  -- the release for which the texts stand is under its name after its put
  pub release_under : (names : List (List ℕ)) (r : Release) → HoldsTexts files names r → (p : PutsImage (library_image r) files out status new_files old new) → IsUnder (insert files out p.image) out r
  release_under names r m p = record { bytes = p.image; image_is = get_put files out p.image; bytes_are = p.bytes_are; spelled = p.spelled; conforms = release_conforms m.texts r m.stand }

  -- and so is the client program
  pub program_under : (library : List ℕ) (names : List (List ℕ)) (q : ClientProgram) → HoldsClientTexts files library names q → (p : PutsImage (client_image q) files out status new_files old new)
      → IsClientUnder (insert files out p.image) out q
  program_under library names q m p = record {
    bytes = p.image;
    image_is = get_put files out p.image;
    bytes_are = p.bytes_are;
    spelled = p.spelled;
    conforms = program_conforms (interface_of m.base) m.texts q (shows_base m.base m.under.conforms (image_within m.base m.under.bytes m.under.spelled)) m.stand;
  }

abbrev read : Release → Result Release ImageFault
read r = Ok r

same_release : (r s : Release) → read r ≡ read s → r ≡ s
same_release r s e = cc

-- there is one release under a name
pub one_under : (files : Files) (name : List ℕ) (r s : Release) → IsUnder files name r → IsUnder files name s → r ≡ s
one_under files name r s a b =
    same_release r s
    (sym (library_again a.bytes r a.spelled)
    ∙ ap library_at (same_some a.bytes b.bytes (sym a.image_is ∙ b.image_is))
    ∙ library_again b.bytes s b.spelled)
