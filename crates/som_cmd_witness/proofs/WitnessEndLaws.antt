-- How the end of a call is that of its answer, of releases whose images a store holds.
use Rattle.std.proofs.Common.{◌≡◌, ◌≢◌, ℕ, ◌⊎◌, Bool, cond, List, Option, Some, None, Result, Ok, sym, ap, subst, ◌∙◌, inl, inr, arith}
use Rattle.std.specs.Cmp.{eq_by_cmp_equiv}
use Rattle.std.specs.Cmp.Lexicographic.{nat_list_cmp_total}
use Rattle.std.specs.FinMap.{get, get-insert, insert}
use Rattle.som_io.specs.Outside.{ShowsAll, ShowsFront}
use Rattle.som_model.specs.declared.program.Release.{Release}
use Rattle.som_model.specs.Bytes.{AreBytes, Files}
use Rattle.som_model.specs.Class.{interface_of}
use Rattle.som_model.specs.Compatible.{CompatBreach, Compatible, first_break}
use Rattle.som_cliimage.proofs.Encoded.{image_there}
use Rattle.som_libimage.proofs.Decoded.{library_again}
use Rattle.som_verify.proofs.Conforming.{conforms_release}
use Rattle.som_cmd_steps.specs.Endings.{Ending}
use Rattle.som_cmd_steps.specs.Fetching.{file_of}
use Rattle.som_cmd_steps.specs.ImageSteps.{kept_or, read_or, release_in, rules_kept}
use Rattle.som_cmd_steps.specs.Lines.{store_failed}
use Rattle.som_cmd_steps.specs.Outcomes.{EndsAs, EndsAsTold}
use Rattle.som_cmd_steps.specs.StoredImages.{IsClientUnder, IsUnder}
use Rattle.som_cmd_steps.proofs.ByteLaws.{library_read}
use Rattle.som_cmd_steps.proofs.FileLaws.{got_by}
use Rattle.som_cmd_steps.proofs.OutcomeLaws.{files_of, status_is, text_of}
use Rattle.som_witness.specs.Program.{witness_program}
use Rattle.som_cmd_witness.specs.declared.releases.Releases.{Releases}
use Rattle.som_cmd_witness.specs.Lines.{accepted_line, version_line}
use Rattle.som_cmd_witness.specs.Releases.{releases_in}
use Rattle.som_cmd_witness.specs.WitnessAnswer.{IsShown, IsWitnessAnswer, accepts, break_of, showing, shows, telling, tells_version, text_of as text_shown}
use Rattle.som_cmd_witness.specs.WitnessEnds.{AreUnder, LeavesFiles, LeavesFilesTold, PutsWitness, SaysPutFailed, TellsOnly, TellsWitness, TellsWitnessOf, as_they_were, nothing_to_put, put_failed, with_image}
use Rattle.som_cmd_witness.proofs.Comparing.{client_fits}
use Rattle.som_cmd_witness.proofs.Reading.{both, both_sound, with_new}
use Rattle.som_cmd_witness.proofs.WitnessLaws.{one_witness_answer, same_releases, sound_in}

-- ---- the releases that stand under names

read_under : (files : Files) (name : List ℕ) (r : Release) → (u : IsUnder files name r) → release_in name u.bytes ≡ Ok r
read_under files name r u = ap (read_or name) (library_read u.bytes (Ok r) u.bytes_are (library_again u.bytes r u.spelled))

kept_under : (files : Files) (name : List ℕ) (r : Release) → IsUnder files name r → rules_kept name r ≡ Ok tt
kept_under files name r u = ap (kept_or name) (conforms_release r u.conforms)

got_under : (files : Files) (name : List ℕ) (r : Release) → (u : IsUnder files name r) → file_of name files ≡ Ok u.bytes
got_under files name r u = got_by (get files name) name u.bytes u.image_is

pub under_in : (files : Files) (old new : List ℕ) (o n : Release) → AreUnder files old new o n → releases_in old new files ≡ Ok (both o n)
under_in files old new o n u =
    sym (with_new old new files u.older.bytes u.newer.bytes (got_under files old o u.older) (got_under files new n u.newer))
    ∙ both_sound old new u.older.bytes u.newer.bytes o n tt tt (read_under files old o u.older) (read_under files new n u.newer) (kept_under files old o u.older) (kept_under files new n u.newer)

-- ---- what was put

some_is : (a b : List ℕ) → Some a ≡ Some b → a ≡ b
some_is a b e = cc

files_is : (a b : Files) → Some a ≡ Some b → a ≡ b
files_is a b e = cc

get_put : (files : Files) (name image : List ℕ) → get (insert files name image) name ≡ Some image
get_put files name image =
    get-insert nat_list_cmp_total files name image name ∙ ap (λ (b : Bool). cond b (Some image) (get files name)) ((eq_by_cmp_equiv nat_list_cmp_total).refl name)

-- an image is known by the files after its put
same_image : (files : Files) (name a b : List ℕ) → Some (insert files name a) ≡ Some (insert files name b) → a ≡ b
same_image files name a b e =
    some_is a b (sym (get_put files name a) ∙ ap (λ (now : Files). get now name) (files_is (insert files name a) (insert files name b) e) ∙ get_put files name b)

failed_apart : (text out : List ℕ) (status : ℕ) (was is : Option (List ℕ)) → status ≡ 0 → SaysPutFailed text out status was is → ⊥
failed_apart text out status was is zero f = by f.says
  where
    by : ((status ≡ 6) × ShowsAll f.between is (store_failed out)) ⊎ (((status ≡ 8) ⊎ (status ≡ 10)) × ShowsFront f.between is (store_failed out)) → ⊥
    by (inl (six, shown)) = omega (arith, six, zero)
    by (inr (inl eight, shown)) = omega (arith, eight, zero)
    by (inr (inr ten, shown)) = omega (arith, ten, zero)

-- at status 0 an image that is to be put is bytes
module _ (files : Files) (out old new : List ℕ) (rs : Releases) (got : releases_in old new files ≡ Ok rs) (b : CompatBreach) (image : List ℕ) (shown : IsShown rs b image) (count now status : ℕ) (new_files : Option Files) (was is : Option (List ℕ))
    (zero : status ≡ 0) (put : new_files ≡ Some (insert files out image)) where
  same_read : (ss : Releases) → releases_in old new files ≡ Ok ss → ss ≡ rs
  same_read ss f = same_releases ss rs (sym f ∙ got)

  bytes_put : LeavesFiles files out old new count now status new_files was is → AreBytes image
  bytes_put (as_they_were not0 same) = absurd (not0 zero)
  bytes_put (nothing_to_put n done same) = absurd (shown.other (n.none b (ap break_of (same_read n.releases n.under) ∙ shown.unkept)))
  bytes_put (with_image text other p done says stands) = subst AreBytes (same_image files out other image (sym stands ∙ put)) p.bytes_are
  bytes_put (put_failed text other p rose says fails) = absurd (failed_apart text out status was is zero says)

-- ---- the end

module _ (files : Files) (out old new : List ℕ) (status count now : ℕ) (new_files : Option Files) (was is : Option (List ℕ)) (e : EndsAs (IsWitnessAnswer out old new files) status new_files was is)
    (left : LeavesFiles files out old new count now status new_files was is) (o n : Release) (under : AreUnder files old new o n) where
  abbrev Is : Ending → Type 0
  Is a = IsWitnessAnswer out old new files a

  one : (a b : Ending) → Is a → Is b → a ≡ b
  one a b x y = one_witness_answer files out old new a b x y

  got : releases_in old new files ≡ Ok (both o n)
  got = under_in files old new o n under

  only : (text : List ℕ) → Is (telling files text) → TellsOnly text files status new_files was is
  only text a = record {
    text_is = text_of Is one status new_files was is e (telling files text) a;
    files_are = files_of Is one status new_files was is e (telling files text) a;
    status_is = status_is Is one status new_files was is e (telling files text) a;
  }

  -- the newer release keeps all
  accepted_by : Compatible (interface_of o) (interface_of n) → TellsOnly accepted_line files status new_files was is
  accepted_by kept = only accepted_line (accepts (both o n) got kept)

  -- it has a class of another version
  version_by : (b : CompatBreach) → first_break (interface_of o) (interface_of n) ≡ Some b → b.rule ≡ 2 → TellsOnly (version_line b.class) files status new_files was is
  version_by b told two = only (version_line b.class) (tells_version (both o n) b got told two)

  -- it breaks something else
  puts_by : (b : CompatBreach) (image : List ℕ) → IsShown (both o n) b image → PutsWitness o n b files out status new_files was is
  puts_by b image shown =
      let a : Is (showing files out (text_shown (both o n) b) image) = shows (both o n) b image got shown in
      let zero = status_is Is one status new_files was is e (showing files out (text_shown (both o n) b) image) a in
      let put = files_of Is one status new_files was is e (showing files out (text_shown (both o n) b) image) a in
      record {
        image = image;
        spelled = shown.image_is;
        bytes_are = bytes_put files out old new (both o n) got b image shown count now status new_files was is zero put left;
        put = put;
        text_is = text_of Is one status new_files was is e (showing files out (text_shown (both o n) b) image) a;
        status_is = zero;
      }

  shown_by : (b : CompatBreach) → first_break (interface_of o) (interface_of n) ≡ Some b → b.rule ≢ 2 → PutsWitness o n b files out status new_files was is
  shown_by b told other =
      let fits = client_fits (both o n) (sound_in old new (both o n) files got) b told other in
      let image = image_there (witness_program (interface_of o) (interface_of n) b) fits.0 fits.1 in
      puts_by b image.0 (record { unkept = told; other = other; image_is = image.1 })

  pub witnessed_by : TellsWitness o n files out status new_files was is
  witnessed_by = record { accepted = accepted_by; version = version_by; shown = shown_by }

-- over a store that told its files
pub witnessed_told : (files : Option Files) (out old new : List ℕ) (status count now : ℕ) (new_files : Option Files) (was is : Option (List ℕ)) → EndsAsTold (IsWitnessAnswer out old new) files status new_files was is
    → LeavesFilesTold files out old new count now status new_files was is → TellsWitnessOf files out old new status new_files was is
witnessed_told None out old new status count now new_files was is e left = tt
witnessed_told (Some files) out old new status count now new_files was is e left = λ o n under. witnessed_by files out old new status count now new_files was is e left o n under

-- the client's image that was put stands under the name, and the client conforms
pub client_under : (files : Files) (out old new : List ℕ) (o n : Release) (b : CompatBreach) → AreUnder files old new o n → first_break (interface_of o) (interface_of n) ≡ Some b → b.rule ≢ 2
    → (status : ℕ) (new_files : Option Files) (was is : Option (List ℕ)) → (p : PutsWitness o n b files out status new_files was is) → IsClientUnder (insert files out p.image) out (witness_program (interface_of o) (interface_of n) b)
client_under files out old new o n b under told other status new_files was is p =
    let fits = client_fits (both o n) (sound_in old new (both o n) files (under_in files old new o n under)) b told other in
    record { bytes = p.image; image_is = get_put files out p.image; bytes_are = p.bytes_are; spelled = p.spelled; conforms = fits.0 }
