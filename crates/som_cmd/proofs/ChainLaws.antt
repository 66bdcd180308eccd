-- What `library` and `client` have put is what `run`, `show` and `check` ask for.
use Rattle.std.proofs.Common.{◌≡◌, ◌≢◌, ℕ, Bool, List, [], ◌∷◌, ◌++◌, slice_get, Option, Some, refl, sym, ap, subst, ◌∙◌, inl, inr, arith}
use Rattle.std.specs.FinMap.{insert}
use Rattle.som_model.specs.declared.program.ClientProgram.{ClientProgram}
use Rattle.som_model.specs.declared.program.Release.{Release}
use Rattle.som_model.specs.Bytes.{Files}
use Rattle.som_model.specs.Compatible.{Accepted}
use Rattle.som_model.specs.Conforming.{ReleaseOk}
use Rattle.som_model.specs.Images.{client_image}
use Rattle.som_model.specs.Lists.{Mem}
use Rattle.som_cmd_steps.specs.StoredImages.{IsClientUnder, IsUnder}
use Rattle.som_cmd_build.specs.PutEnds.{HoldsClientTexts, HoldsTexts}
use Rattle.som_cmd_build.proofs.PutFiles.{client_still_under, one_under, program_under, release_under, still_under}
use Rattle.som_cmd.specs.Words.{Check, Run, Show}
use Rattle.som_cmd.specs.Chain.{ClientPuts, LibraryPuts}
use Rattle.som_cmd.specs.Ends.{AreChecked, AreNewest, IsImageOf, IsImageOfClient}
use Rattle.som_cmd.specs.PutEnds.{PutsImage}

pub same_told : (files : Option Files) (a b : Files) → files ≡ Some a → files ≡ Some b → a ≡ b
same_told files a b e f = let g : Some a ≡ Some b = sym e ∙ f in cc

same_shown : (a b : List ℕ) → Show a ≡ Show b → a ≡ b
same_shown a b e = cc

-- ---- what was put

pub released : (files new_files : Option Files) (out : List ℕ) (r : Release) → LibraryPuts files out r new_files → IsImageOf (Show out) new_files r
released files new_files out r call =
    let texts : HoldsTexts call.puts.told call.made.names r = subst (λ (f : Files). HoldsTexts f call.made.names r) (same_told files call.made.told call.puts.told call.made.files_are call.puts.files_are) call.made.texts in
    record {
      told = insert call.puts.told out call.puts.puts.image;
      files_are = call.puts.puts.put;
      name = out;
      asked_is = refl;
      under = release_under call.puts.told out call.status new_files call.old call.new call.made.names r texts call.puts.puts;
    }

pub programmed : (files new_files : Option Files) (out library : List ℕ) (p : ClientProgram) → ClientPuts files out library p new_files → IsImageOfClient (Show out) new_files p
programmed files new_files out library p call =
    let texts : HoldsClientTexts call.puts.told call.made.library call.made.names p =
    subst (λ (f : Files). HoldsClientTexts f call.made.library call.made.names p) (same_told files call.made.told call.puts.told call.made.files_are call.puts.files_are) call.made.texts in
    record {
      told = insert call.puts.told out call.puts.puts.image;
      files_are = call.puts.puts.put;
      name = out;
      asked_is = refl;
      under = program_under call.puts.told out call.status new_files call.old call.new call.made.library call.made.names p texts call.puts.puts;
    }

-- ---- what is under a name

pub under_name : (files : Option Files) (told : Files) (name : List ℕ) (r : Release) → files ≡ Some told → IsImageOf (Show name) files r → IsUnder told name r
under_name files told name r same i =
    subst (λ (n : List ℕ). IsUnder told n r) (sym (same_shown name i.name i.asked_is)) (subst (λ (f : Files). IsUnder f i.name r) (same_told files i.told told i.files_are same) i.under)

pub client_under_name : (files : Option Files) (told : Files) (name : List ℕ) (p : ClientProgram) → files ≡ Some told → IsImageOfClient (Show name) files p → IsClientUnder told name p
client_under_name files told name p same i =
    subst (λ (n : List ℕ). IsClientUnder told n p) (sym (same_shown name i.name i.asked_is)) (subst (λ (f : Files). IsClientUnder f i.name p) (same_told files i.told told i.files_are same) i.under)

module _ (image_is : Option (List ℕ)) (files new_files : Option Files) (name out : List ℕ) (status : ℕ) (old new : Option (List ℕ)) where
  pub release_stays : (r : Release) → IsImageOf (Show name) files r → PutsImage image_is files out status new_files old new → name ≢ out → IsImageOf (Show name) new_files r
  release_stays r i p differ = record {
    told = insert p.told out p.puts.image;
    files_are = p.puts.put;
    name = name;
    asked_is = refl;
    under = still_under p.told name out p.puts.image r differ (under_name files p.told name r p.files_are i);
  }

  pub program_stays : (q : ClientProgram) → IsImageOfClient (Show name) files q → PutsImage image_is files out status new_files old new → name ≢ out → IsImageOfClient (Show name) new_files q
  program_stays q i p differ = record {
    told = insert p.told out p.puts.image;
    files_are = p.puts.put;
    name = name;
    asked_is = refl;
    under = client_still_under p.told name out p.puts.image q differ (client_under_name files p.told name q p.files_are i);
  }

pub checked : (files : Option Files) (a b : List ℕ) (r s : Release) → IsImageOf (Show a) files r → IsImageOf (Show b) files s → AreChecked (Check (a ∷ b ∷ [])) files (a ∷ b ∷ []) (r ∷ s ∷ [])
checked files a b r s i j = record {
  told = i.told;
  files_are = i.files_are;
  asked_is = refl;
  two = omega arith;
  under = (under_name files i.told a r i.files_are i, (under_name files i.told b s i.files_are j, tt));
}

-- ---- a run

pub base_is : (built linked : Option Files) (client library : List ℕ) (r : Release) (p : ClientProgram) → IsImageOf (Show library) built r → (call : ClientPuts built client library p linked) → call.made.texts.base ≡ r
base_is built linked client library r p image call =
    one_under call.made.told library call.made.texts.base r
    (subst (λ (n : List ℕ). IsUnder call.made.told n call.made.texts.base) call.library_is call.made.texts.under)
    (under_name built call.made.told library r call.made.files_are image)

pub runs_later : (built linked files : Option Files) (client library newer : List ℕ) (earlier : List Release) (newest : Release) (place : ℕ) (p : ClientProgram) (fuel : ℕ) (shows : List ℕ → Bool)
    → (call : ClientPuts built client library p linked) → IsImageOfClient (Show client) files p → IsImageOf (Show newer) files newest → Accepted (earlier ++ newest ∷ [])
    → slice_get (earlier ++ newest ∷ []) place ≡ Some call.made.texts.base → AreNewest (Run client newer fuel shows) files earlier newest place call.made.texts.texts p fuel shows
runs_later built linked files client library newer earlier newest place p fuel shows call i j accepted at =
    let c = client_under_name files i.told client p i.files_are i in
    let l = under_name files i.told newer newest i.files_are j in
    record {
      told = i.told;
      files_are = i.files_are;
      client = client;
      library = newer;
      asked_is = refl;
      images = record {
        accepted = accepted;
        against = call.made.texts.base;
        against_is = at;
        stand = call.made.texts.stand;
        program = record { bytes = c.bytes; image_is = c.image_is; bytes_are = c.bytes_are; spelled = c.spelled };
        release = record { bytes = l.bytes; image_is = l.image_is; bytes_are = l.bytes_are; spelled = l.spelled };
      };
    }

conforms_alone : (r s : Release) → ReleaseOk r → Mem s (r ∷ []) → ReleaseOk s
conforms_alone r s ok (inl e) = subst ReleaseOk (sym e) ok
conforms_alone r s ok (inr none) = absurd none

-- a release that conforms is a list of one
accepted_alone : (r : Release) → ReleaseOk r → Accepted (r ∷ [])
accepted_alone r ok = record { some = λ e. cc; conform = λ s m. conforms_alone r s ok m; next = tt }

pub runs_first : (start built linked : Option Files) (client library : List ℕ) (r : Release) (p : ClientProgram) (fuel : ℕ) (shows : List ℕ → Bool) → LibraryPuts start library r built
    → (call : ClientPuts built client library p linked) → client ≢ library → AreNewest (Run client library fuel shows) linked [] r 0 call.made.texts.texts p fuel shows
runs_first start built linked client library r p fuel shows first call differ =
    let put = released start built library r first in
    let stays = release_stays (client_image p) built linked library client call.status call.old call.new r put call.puts (λ e. differ (sym e)) in
    runs_later built linked linked client library library [] r 0 p fuel shows call (programmed built linked client library p call) stays (accepted_alone r put.under.conforms)
    (ap (λ (x : Release). Some x) (sym (base_is built linked client library r p put call)))
