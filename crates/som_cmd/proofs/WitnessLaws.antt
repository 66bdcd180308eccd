-- What `witness` has put is a client that is refused on the newer release, and the texts that it prints are compiled to it.
use Rattle.std.proofs.Common.{◌≡◌, ◌≢◌, ◌≤◌, ◌+◌, ℕ, Bool, true, false, ◌&&◌, if◌then◌else◌, List, [], ◌∷◌, length, codes, Option, Some, Result, Ok, refl, sym, ap, subst, ◌∙◌, inl, inr, arith}
use Rattle.std.specs.FinMap.{get, insert}
use Rattle.std.specs.Option.{ok_or}
use Rattle.som_model.specs.declared.limits.TheConstants.{MAX_BYTES}
use Rattle.som_model.specs.declared.program.ClientProgram.{ClientProgram}
use Rattle.som_model.specs.declared.program.Release.{Release}
use Rattle.som_model.specs.Bytes.{Files}
use Rattle.som_model.specs.Class.{interface_of}
use Rattle.som_model.specs.Compatible.{CompatBreach, first_break}
use Rattle.som_model.specs.Images.{client_image}
use Rattle.som_model.specs.Lists.{Mem}
use Rattle.som_model.specs.Steps.{◌>>=◌}
use Rattle.som_libimage.proofs.Decoded.{image_within}
use Rattle.som_sources.specs.declared.source.Source.{Source}
use Rattle.som_sources.specs.Sources.{bytes_in, names_of}
use Rattle.som_witness.specs.Program.{witness_program}
use Rattle.som_witness.specs.Wording.{witness_texts}
use Rattle.som_witness.specs.declared.verdict.Texts.{Texts}
use Rattle.som_witness_texts.specs.Files.{files_of}
use Rattle.som_witness_laws.specs.Clients.{IsRefused}
use Rattle.som_witness_laws.proofs.Clients.{recompiled, refused}
use Rattle.som_cmd_steps.specs.declared.stop.Refusal.{Refusal}
use Rattle.som_cmd_steps.specs.Fetching.{file_of}
use Rattle.som_cmd_steps.specs.Lines.{absent}
use Rattle.som_cmd_steps.specs.StoredImages.{IsUnder}
use Rattle.som_cmd_sources.specs.Texts.{text_in, texts_after}
use Rattle.som_cmd_sources.proofs.TextLaws.{text_got}
use Rattle.som_cmd_build.proofs.PutFiles.{client_still_under, get_put, still_under}
use Rattle.som_cmd_witness.specs.WitnessEnds.{AreUnder, PutsWitness}
use Rattle.som_cmd.specs.Words.{Asked, Bad, Client, Run, Show, are_files, asked, is_name}
use Rattle.som_cmd.specs.Ends.{AreImagesOf, IsImageOf, IsImageOfClient}
use Rattle.som_cmd.specs.PutEnds.{AreClientTextsOf, PutsProgram}
use Rattle.som_cmd.specs.Witnessing.{HoldsEach, WitnessPuts}
use Rattle.som_cmd.proofs.ChainLaws.{client_under_name, same_told, under_name}

abbrev witness_of : Release → Release → CompatBreach → ClientProgram
witness_of o n b = witness_program (interface_of o) (interface_of n) b

-- ---- what is put

put_of : (files new_files : Option Files) (out older newer : List ℕ) (o n : Release) (b : CompatBreach) → (call : WitnessPuts files out older newer o n b new_files) → PutsWitness o n b call.told.told out call.status new_files call.old call.new
put_of files new_files out older newer o n b call = call.told.tells.shown b call.unkept call.other

-- both releases stood under their names
both_under : (files new_files : Option Files) (out older newer : List ℕ) (o n : Release) (b : CompatBreach) → (call : WitnessPuts files out older newer o n b new_files) → AreUnder call.told.told older newer o n
both_under files new_files out older newer o n b call =
    subst (λ (f : Files). AreUnder f older newer o n) (same_told files call.made.told call.told.told call.made.files_are call.told.files_are) call.made.under

-- it is refused by every release with the newer interface that conforms and has an image
refused_by : (files new_files : Option Files) (out older newer : List ℕ) (o n : Release) (b : CompatBreach) → WitnessPuts files out older newer o n b new_files
    → (later : Files) (library : List ℕ) (r : Release) → IsUnder later library r → interface_of r ≡ interface_of n → IsRefused (witness_of o n b) r b
refused_by files new_files out older newer o n b call later library r u same =
    let a = call.made.under.older in
    refused o n r b a.conforms (image_within o a.bytes a.spelled) u.conforms (image_within r u.bytes u.spelled) same call.unkept call.other

pub program_put : (files new_files : Option Files) (out older newer : List ℕ) (o n : Release) (b : CompatBreach) → WitnessPuts files out older newer o n b new_files → IsImageOfClient (Show out) new_files (witness_of o n b)
program_put files new_files out older newer o n b call =
    let put = put_of files new_files out older newer o n b call in
    record {
      told = insert call.told.told out put.image;
      files_are = put.put;
      name = out;
      asked_is = refl;
      under = record {
        bytes = put.image;
        image_is = get_put call.told.told out put.image;
        bytes_are = put.bytes_are;
        spelled = put.spelled;
        conforms = (refused_by files new_files out older newer o n b call call.made.told newer n call.made.under.newer refl).conforms;
      };
    }

pub release_stays : (files new_files : Option Files) (out older newer name : List ℕ) (o n r : Release) (b : CompatBreach) → WitnessPuts files out older newer o n b new_files → name ≢ out → IsImageOf (Show name) files r
    → IsImageOf (Show name) new_files r
release_stays files new_files out older newer name o n r b call differ i =
    let put = put_of files new_files out older newer o n b call in
    record {
      told = insert call.told.told out put.image;
      files_are = put.put;
      name = name;
      asked_is = refl;
      under = still_under call.told.told name out put.image r differ (under_name files call.told.told name r call.told.files_are i);
    }

pub program_stays : (files new_files : Option Files) (out older newer name : List ℕ) (o n : Release) (b : CompatBreach) (p : ClientProgram) → WitnessPuts files out older newer o n b new_files → name ≢ out
    → IsImageOfClient (Show name) files p → IsImageOfClient (Show name) new_files p
program_stays files new_files out older newer name o n b p call differ i =
    let put = put_of files new_files out older newer o n b call in
    record {
      told = insert call.told.told out put.image;
      files_are = put.put;
      name = name;
      asked_is = refl;
      under = client_still_under call.told.told name out put.image p differ (client_under_name files call.told.told name p call.told.files_are i);
    }

-- ---- it is refused

pub refused_later : (files new_files later : Option Files) (out older newer library : List ℕ) (o n r : Release) (b : CompatBreach) (fuel : ℕ) (shows : List ℕ → Bool) → WitnessPuts files out older newer o n b new_files
    → interface_of r ≡ interface_of n → IsImageOfClient (Show out) later (witness_of o n b) → IsImageOf (Show library) later r
    → AreImagesOf (Run out library fuel shows) later out library (witness_of o n b) r fuel shows × (first_break (witness_of o n b).base (interface_of r) ≡ Some b)
refused_later files new_files later out older newer library o n r b fuel shows call same i j =
    let u = under_name later i.told library r i.files_are j in (
      record {
        told = i.told;
        files_are = i.files_are;
        asked_is = refl;
        images = record { program = client_under_name later i.told out (witness_of o n b) i.files_are i; release = u };
      },
      (refused_by files new_files out older newer o n b call i.told library r u same).unkept,
    )

-- on the newer release itself
newer_stays : (files new_files : Option Files) (out older newer : List ℕ) (o n : Release) (b : CompatBreach) → WitnessPuts files out older newer o n b new_files → newer ≢ out → IsImageOf (Show newer) new_files n
newer_stays files new_files out older newer o n b call differ =
    release_stays files new_files out older newer newer o n n b call differ
    (record { told = call.made.told; files_are = call.made.files_are; name = newer; asked_is = refl; under = call.made.under.newer })

pub refused_as : (files new_files : Option Files) (out older newer : List ℕ) (o n : Release) (b : CompatBreach) (fuel : ℕ) (shows : List ℕ → Bool) → WitnessPuts files out older newer o n b new_files → newer ≢ out
    → AreImagesOf (Run out newer fuel shows) new_files out newer (witness_of o n b) n fuel shows × (first_break (witness_of o n b).base (interface_of n) ≡ Some b)
refused_as files new_files out older newer o n b fuel shows call differ =
    refused_later files new_files new_files out older newer newer o n n b fuel shows call refl (program_put files new_files out older newer o n b call) (newer_stays files new_files out older newer o n b call differ)

pub base_is : (o n : Release) (b : CompatBreach) → (witness_of o n b).base ≡ interface_of o
unfolding witness_program
base_is o n b = refl

-- ---- its texts

abbrev Read : Type 0
Read = Result (List Source) Refusal

abbrev with_first : Source → Read → Read
with_first s rest = rest >>= λ ss. Ok (s ∷ ss)

abbrev then_others : ℕ → List (List ℕ) → Files → Source → Read
then_others before names files s = with_first s (texts_after (before + length s.bytes) names files)

-- files that hold texts, which aren't too long, come to them
texts_held : (before : ℕ) (files : Files) (ss : List Source) → ((s : Source) → Mem s ss → get files s.name ≡ Some s.bytes) → before + bytes_in ss ≤ MAX_BYTES → texts_after before (names_of ss) files ≡ Ok ss
texts_held before files [] holds le = refl
texts_held before files (s ∷ ss) holds le =
    let found : file_of s.name files ≡ Ok s.bytes = ap (λ (x : Option (List ℕ)). ok_or x (absent s.name)) (holds s (inl refl)) in
    let one : text_in before s.name files ≡ Ok s = text_got (Some files) before s.name s.bytes s found (omega (arith, le)) refl in
    let others = texts_held (before + length s.bytes) files ss (λ t m. holds t (inr m)) (omega (arith, le)) in
    ap (λ (x : Result Source Refusal). x >>= then_others before (names_of ss) files) one ∙ ap (λ (x : Read). with_first s x) others

pub compiled : (files new_files later : Option Files) (out older newer library name : List ℕ) (o n : Release) (b : CompatBreach) (t : Texts) (told : Files) → WitnessPuts files out older newer o n b new_files
    → witness_texts (interface_of o) (interface_of n) b ≡ Some t → later ≡ Some told → HoldsEach told t → IsImageOf (Show library) later o
    → AreClientTextsOf (Client name library (names_of (files_of t))) later name (witness_of o n b)
compiled files new_files later out older newer library name o n b t told call has same holds i =
    let a = call.made.under.older in
    let z = call.made.under.newer in
    let c = recompiled o n b t a.conforms (image_within o a.bytes a.spelled) z.conforms (image_within n z.bytes z.spelled) call.unkept call.other has in
    let short = c.bytes in
    record {
      told = told;
      files_are = same;
      library = library;
      names = names_of (files_of t);
      asked_is = refl;
      texts = record { base = o; under = under_name later told library o same i; texts = files_of t; texts_are = texts_held 0 told (files_of t) holds (omega (arith, short)); stand = c.stand };
    }

-- names of such files are those of texts with one main
files_fit : (idl bodies main : List ℕ) → are_files 1 (names_of (files_of (record { idl = idl; bodies = bodies; main = main }))) ≡ true
files_fit idl [] main = refl
files_fit idl (b ∷ bs) main = refl

first_of : (a b c : Bool) (x y : Asked) → a ≡ true → b ≡ true → c ≡ true → (if a && b && c then x else y) ≡ x
first_of true true true x y e f g = refl
first_of true true false x y e f g = absurd cc
first_of true false c x y e f g = absurd cc
first_of false b c x y e f g = absurd cc

pub words_are : (name library : List ℕ) (t : Texts) → is_name name ≡ true → is_name library ≡ true → asked (codes "client" ∷ name ∷ library ∷ names_of (files_of t)) ≡ Client name library (names_of (files_of t))
words_are name library t e f =
    first_of (is_name name) (is_name library) (are_files 1 (names_of (files_of t))) (Client name library (names_of (files_of t))) Bad e f (files_fit t.idl t.bodies t.main)

one_image : (image : Option (List ℕ)) (a b : List ℕ) → image ≡ Some a → image ≡ Some b → a ≡ b
one_image image a b e f = let g : Some a ≡ Some b = sym e ∙ f in cc

pub same_image : (files new_files later last : Option Files) (out older newer name : List ℕ) (o n : Release) (b : CompatBreach) (status : ℕ) (old new : Option (List ℕ)) → (call : WitnessPuts files out older newer o n b new_files)
    → (made : PutsProgram later name (witness_of o n b) status last old new) → (call.told.tells.shown b call.unkept call.other).image ≡ made.puts.image
same_image files new_files later last out older newer name o n b status old new call made =
    one_image (client_image (witness_of o n b)) (call.told.tells.shown b call.unkept call.other).image made.puts.image (call.told.tells.shown b call.unkept call.other).spelled made.puts.spelled
