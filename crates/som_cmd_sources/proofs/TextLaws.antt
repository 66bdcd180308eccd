-- The texts under names, one after the other.
use Rattle.std.proofs.Common.{◌≡◌, ℕ, ◌+◌, ◌<◌, ◌≤◌, Bool, true, false, if◌then◌else◌, nat_le, List, [], ◌∷◌, ◌++◌, length, take, drop, get_or, codes, Option, Some, None, Result, Ok, Err, refl, sym, ap, subst, ◌∙◌, append_assoc, arith}
use Rattle.std.proofs.lemmas.Grind.{common_steps}
use Rattle.std.proofs.lemmas.List.{map-append, take_more, take_all, take-append-drop}
use Rattle.som_io.proofs.ShownLaws.{rose_earlier}
use Rattle.som_model.specs.declared.limits.TheConstants.{MAX_BYTES}
use Rattle.som_model.specs.Bytes.{Files}
use Rattle.som_model.specs.Steps.{◌>>=◌}
use Rattle.som_sources.specs.declared.source.Source.{Source}
use Rattle.som_sources.specs.Sources.{bytes_in, mains_in, names_of}
use Rattle.som_cmd_steps.specs.declared.stop.Refusal.{Refusal}
use Rattle.som_cmd_steps.specs.declared.stop.CommandStop.{CommandStop}
use Rattle.som_cmd_steps.specs.Fetching.{file_of}
use Rattle.som_cmd_steps.specs.Cause.{HasCause}
use Rattle.som_cmd_steps.specs.Lines.{store_failed}
use Rattle.som_cmd_steps.specs.Steps.{FollowsTold}
use Rattle.som_cmd_steps.proofs.ImageLaws.{stops_first}
use Rattle.som_cmd_steps.specs.declared.stop.CommandStop.TheVariants as stops
use Rattle.som_cmd_sources.specs.Texts.{bytes_kept, text_in, texts_after, texts_in, too_many}
use Rattle.som_cmd_sources.specs.Getting.{AreGot, FailsGettingTexts}

-- ---- one text

abbrev text_from : List ℕ → List ℕ → Source
text_from name bytes = record { name = name; bytes = bytes }

abbrev after_file : ℕ → List ℕ → List ℕ → Result Source Refusal
after_file before name bytes = bytes_kept (before + length bytes) >>= λ kept. Ok (text_from name bytes)

-- it can't be got
pub text_absent : (files : Option Files) (before : ℕ) (name : List ℕ) (stop : CommandStop) → FollowsTold {A = List ℕ} files (Err stop) (file_of name) → FollowsTold {A = Source} files (Err stop) (text_in before name)
text_absent None before name stop f = tt
text_absent (Some files) before name stop f = stops_first stop (file_of name files) (after_file before name) f

abbrev kept_if : Bool → Result (Unit {0}) Refusal
kept_if b = if b then Ok tt else Err (too_many (codes "bytes") MAX_BYTES)

past : (count : ℕ) → MAX_BYTES < count → nat_le count MAX_BYTES ≡ false
past count lt = grind (arith, common_steps)

not_past : (count : ℕ) → count ≤ MAX_BYTES → nat_le count MAX_BYTES ≡ true
not_past count le = grind (arith, common_steps)

-- with it the bytes are too many
pub text_too_long : (files : Option Files) (before : ℕ) (name bytes : List ℕ) (r : Refusal) → FollowsTold files (Ok bytes) (file_of name) → MAX_BYTES < before + length bytes → r ≡ too_many (codes "bytes") MAX_BYTES
    → FollowsTold {A = Source} files (Err (stops.Refused r)) (text_in before name)
text_too_long None before name bytes r f lt is = tt
text_too_long (Some files) before name bytes r f lt is =
    ap (λ (x : Result (List ℕ) Refusal). x >>= after_file before name) f
    ∙ ap (λ (b : Bool). kept_if b >>= λ kept. Ok (text_from name bytes)) (past (before + length bytes) lt)
    ∙ ap (λ (x : Refusal). Err x) (sym is)

-- it is there, and the bytes aren't too many
pub text_got : (files : Option Files) (before : ℕ) (name bytes : List ℕ) (s : Source) → FollowsTold files (Ok bytes) (file_of name) → before + length bytes ≤ MAX_BYTES → s ≡ text_from name bytes
    → FollowsTold files (Ok s) (text_in before name)
text_got None before name bytes s f le is = tt
text_got (Some files) before name bytes s f le is =
    ap (λ (x : Result (List ℕ) Refusal). x >>= after_file before name) f
    ∙ ap (λ (b : Bool). kept_if b >>= λ kept. Ok (text_from name bytes)) (not_past (before + length bytes) le)
    ∙ ap (λ (x : Source). Ok x) (sym is)

-- what is known of a text that is there
pub record Known (before : ℕ) (name : List ℕ) (s : Source) : Type 0 where
  pub named : s.name ≡ name
  pub within : before + length s.bytes ≤ MAX_BYTES

abbrev a_text : Source → Result Source Refusal
a_text s = Ok s

same_text : (s t : Source) → a_text s ≡ a_text t → s ≡ t
same_text s t e = cc

below : (count : ℕ) → nat_le count MAX_BYTES ≡ true → count ≤ MAX_BYTES
below count e = grind (arith, common_steps)

known_kept : (before : ℕ) (name bytes : List ℕ) (s : Source) (b : Bool) → nat_le (before + length bytes) MAX_BYTES ≡ b → (kept_if b >>= λ kept. Ok (text_from name bytes)) ≡ Ok s → Known before name s
known_kept before name bytes s true e is =
    subst (Known before name) (same_text (text_from name bytes) s is) (record { named = refl; within = below (before + length bytes) e })
known_kept before name bytes s false e is = absurd cc

known_file : (before : ℕ) (name : List ℕ) (s : Source) (r : Result (List ℕ) Refusal) → (r >>= after_file before name) ≡ Ok s → Known before name s
known_file before name s (Ok bytes) is = known_kept before name bytes s (nat_le (before + length bytes) MAX_BYTES) refl is
known_file before name s (Err r) is = absurd cc

known_text : (before : ℕ) (name : List ℕ) (files : Files) (s : Source) → text_in before name files ≡ Ok s → Known before name s
known_text before name files s is = known_file before name s (file_of name files) is

-- ---- all texts

abbrev Texts : Type 0
Texts = Result (List Source) Refusal

abbrev before_all : List Source → Texts → Texts
before_all ss rest = rest >>= λ more. Ok (ss ++ more)

abbrev after_text : ℕ → List (List ℕ) → Files → Source → Texts
after_text before ns files s = texts_after (before + length s.bytes) ns files >>= λ ss. Ok (s ∷ ss)

before_none : (rest : Texts) → rest ≡ before_all [] rest
before_none (Ok ss) = refl
before_none (Err r) = refl

before_one_more : (s : Source) (ss : List Source) (rest : Texts) → (before_all ss rest >>= λ all. Ok (s ∷ all)) ≡ before_all (s ∷ ss) rest
before_one_more s ss (Ok more) = refl
before_one_more s ss (Err r) = refl

some_texts : (ss ts : List Source) → ◌≡◌ {A = Texts} (Ok ss) (Ok ts) → ss ≡ ts
some_texts ss ts e = cc

-- the first of some texts that are there, and the others
pub record Parts (before : ℕ) (n : List ℕ) (ns : List (List ℕ)) (files : Files) (ss : List Source) : Type 0 where
  pub first : Source
  pub others : List Source
  pub first_is : text_in before n files ≡ Ok first
  pub others_are : texts_after (before + length first.bytes) ns files ≡ Ok others
  pub all : ss ≡ first ∷ others

parts_by : (before : ℕ) (n : List ℕ) (ns : List (List ℕ)) (files : Files) (ss : List Source) (s : Result Source Refusal) → text_in before n files ≡ s
    → (s >>= after_text before ns files) ≡ Ok ss → Parts before n ns files ss
parts_by before n ns files ss (Ok s) is e = others_by (texts_after (before + length s.bytes) ns files) refl e
  where
    others_by : (o : Texts) → texts_after (before + length s.bytes) ns files ≡ o → (o >>= λ all. Ok (s ∷ all)) ≡ Ok ss → Parts before n ns files ss
    others_by (Ok others) is_o h = record { first = s; others = others; first_is = is; others_are = is_o; all = sym (some_texts (s ∷ others) ss h) }
    others_by (Err r) is_o h = absurd cc
parts_by before n ns files ss (Err r) is e = absurd cc

-- what is known of all texts that are there
pub record AllKnown (before : ℕ) (names : List (List ℕ)) (ss : List Source) : Type 0 where
  pub named : names_of ss ≡ names
  pub within : before + bytes_in ss ≤ MAX_BYTES

pub known_texts : (before : ℕ) (names : List (List ℕ)) (files : Files) (ss : List Source) → before ≤ MAX_BYTES → texts_after before names files ≡ Ok ss → AllKnown before names ss
known_texts before [] files ss le e = subst (AllKnown before []) (some_texts [] ss e) (record { named = refl; within = omega (arith, le) })
known_texts before (n ∷ ns) files ss le e =
    let p = parts_by before n ns files ss (text_in before n files) refl e in
    let k = known_text before n files p.first p.first_is in
    let more = known_texts (before + length p.first.bytes) ns files p.others k.within p.others_are in
    let w = more.within in
    subst (AllKnown before (n ∷ ns)) (sym p.all) (record {
      named = ap (λ (x : List ℕ). x ∷ names_of p.others) k.named ∙ ap (λ (x : List (List ℕ)). n ∷ x) more.named;
      within = omega (arith, w);
    })

pub texts_known : (names : List (List ℕ)) (files : Files) (ss : List Source) → texts_in names files ≡ Ok ss → (names_of ss ≡ names) × (bytes_in ss ≤ MAX_BYTES)
texts_known names files ss e =
    let k = known_texts 0 names files ss (omega arith) e in
    let w = k.within in
    (k.named, omega (arith, w))

plus_none : (n : ℕ) → n ≡ n + 0
plus_none n = omega arith

zero_plus : (n : ℕ) → 0 + n ≡ n
zero_plus n = omega arith

sum_parts : (a b c : ℕ) → a + b + c ≡ a + (b + c)
sum_parts a b c = omega arith

-- texts that are there, and then others
pub texts_more : (before : ℕ) (ns ms : List (List ℕ)) (files : Files) (ss : List Source) → texts_after before ns files ≡ Ok ss
    → texts_after before (ns ++ ms) files ≡ before_all ss (texts_after (before + bytes_in ss) ms files)
texts_more before [] ms files ss e =
    let none : [] ≡ ss = some_texts [] ss e in
    subst (λ (x : List Source). texts_after before ms files ≡ before_all x (texts_after (before + bytes_in x) ms files)) none (before_none (texts_after before ms files) ∙ ap (λ (k : ℕ). before_all [] (texts_after k ms files)) (plus_none before))
texts_more before (n ∷ ns) ms files ss e =
    let p = parts_by before n ns files ss (text_in before n files) refl e in
    let further = texts_more (before + length p.first.bytes) ns ms files p.others p.others_are in
    subst (λ (x : List Source). texts_after before (n ∷ (ns ++ ms)) files ≡ before_all x (texts_after (before + bytes_in x) ms files)) (sym p.all)
    (ap (λ (x : Result Source Refusal). x >>= after_text before (ns ++ ms) files) p.first_is
    ∙ ap (λ (x : Texts). x >>= λ all. Ok (p.first ∷ all)) further
    ∙ before_one_more p.first p.others (texts_after (before + length p.first.bytes + bytes_in p.others) ms files)
    ∙ ap (λ (k : ℕ). before_all (p.first ∷ p.others) (texts_after k ms files)) (sum_parts before (length p.first.bytes) (bytes_in p.others)))

-- ---- the loop

-- the texts under these names are there, where the files are told
abbrev pub Got : Option Files → List (List ℕ) → List Source → Type 0
Got None ns ss = Unit {0}
Got (Some files) ns ss = texts_in ns files ≡ Ok ss

pub nothing_got : (files : Option Files) → Got files [] []
nothing_got None = tt
nothing_got (Some files) = refl

-- a text stands at the place, after those that were got
module _ (names : List (List ℕ)) (i : ℕ) (n : List ℕ) (lt : i < length names) (at : n ≡ get_or names i n) where
  up_to : take (i + 1) names ≡ take i names ++ n ∷ []
  up_to = take_more names i n lt ∙ ap (λ (x : List ℕ). take i names ++ x ∷ []) (sym at)

  parted : names ≡ take i names ++ n ∷ drop (i + 1) names
  parted =
      sym (take-append-drop (i + 1) names) ∙ ap (λ (x : List (List ℕ)). x ++ drop (i + 1) names) up_to ∙ append_assoc (take i names) (n ∷ []) (drop (i + 1) names)

  one_text : (told : Files) (ss : List Source) → texts_in (take i names) told ≡ Ok ss → (before : ℕ) → before ≡ bytes_in ss → (r : Result Source Refusal) → text_in before n told ≡ r → (rest : List (List ℕ))
      → texts_in (take i names ++ n ∷ rest) told ≡ before_all ss (r >>= after_text (bytes_in ss) rest told)
  one_text told ss got before count r e rest =
      texts_more 0 (take i names) (n ∷ rest) told ss got
      ∙ ap (λ (k : ℕ). before_all ss (texts_after k (n ∷ rest) told)) (zero_plus (bytes_in ss))
      ∙ ap (λ (x : Result Source Refusal). before_all ss (x >>= after_text (bytes_in ss) rest told)) (ap (λ (k : ℕ). text_in k n told) (sym count) ∙ e)

-- it can't be got
pub text_stops : (files now : Option Files) (names : List (List ℕ)) (ss : List Source) (i : ℕ) (n : List ℕ) (before : ℕ) (stop : CommandStop) → now ≡ files → i < length names → n ≡ get_or names i n
    → Got files (take i names) ss → before ≡ bytes_in ss → FollowsTold {A = Source} now (Err stop) (text_in before n) → FollowsTold {A = List Source} files (Err stop) (texts_in names)
text_stops None now names ss i n before stop same lt at got count f = tt
text_stops (Some told) now names ss i n before (stops.Refused r) same lt at got count f =
    let here = subst (λ (x : Option Files). FollowsTold {A = Source} x (Err (stops.Refused r)) (text_in before n)) same f in
    ap (λ (ns : List (List ℕ)). texts_in ns told) (parted names i n lt at) ∙ one_text names i n lt at told ss got before count (Err r) here (drop (i + 1) names)
text_stops (Some told) now names ss i n before (stops.StoreFailed line) same lt at got count f = tt
text_stops (Some told) now names ss i n before stops.NoMemory same lt at got count f = tt

-- it is there
pub text_more : (files now : Option Files) (names : List (List ℕ)) (ss : List Source) (i : ℕ) (n : List ℕ) (before : ℕ) (s : Source) (new : List Source) → now ≡ files → i < length names → n ≡ get_or names i n
    → Got files (take i names) ss → before ≡ bytes_in ss → FollowsTold now (Ok s) (text_in before n) → new ≡ ss ++ s ∷ [] → Got files (take (i + 1) names) new
text_more None now names ss i n before s new same lt at got count f is = tt
text_more (Some told) now names ss i n before s new same lt at got count f is =
    let here = subst (λ (x : Option Files). FollowsTold x (Ok s) (text_in before n)) same f in
    ap (λ (ns : List (List ℕ)). texts_in ns told) (up_to names i n lt at) ∙ one_text names i n lt at told ss got before count (Ok s) here [] ∙ ap (λ (x : List Source). Ok x) (sym is)

are_got : (files : Option Files) (names : List (List ℕ)) (ss : List Source) → Got files names ss → AreGot files names
are_got None names ss g = tt
are_got (Some told) names ss g = (ss, g)

-- the store failed there
pub text_fails : (files : Option Files) (names : List (List ℕ)) (ss : List Source) (i : ℕ) (n : List ℕ) (count mid now : ℕ) (stop : CommandStop) → i < length names → n ≡ get_or names i n
    → Got files (take i names) ss → count ≤ mid → HasCause {A = Source} (λ line. line ≡ store_failed n) mid now (Err stop) → HasCause {A = List Source} (FailsGettingTexts files names) count now (Err stop)
text_fails files names ss i n count mid now (stops.StoreFailed line) lt at got le cause =
    (rose_earlier count mid now le cause.0, record { before = take i names; name = n; after = drop (i + 1) names; names_are = parted names i n lt at; got = are_got files (take i names) ss got; line_is = cause.1 })
text_fails files names ss i n count mid now (stops.Refused r) lt at got le cause = tt
text_fails files names ss i n count mid now stops.NoMemory lt at got le cause = tt

size_after : (ss : List Source) (s : Source) → bytes_in (ss ++ s ∷ []) ≡ bytes_in ss + length s.bytes
size_after [] s = omega arith
size_after (t ∷ ss) s = let e = size_after ss s in omega (arith, e)

-- with it there are so many bytes
pub size_more : (before count : ℕ) (ss : List Source) (s : Source) (new : List Source) → before ≡ bytes_in ss → count ≡ length s.bytes → new ≡ ss ++ s ∷ [] → before + count ≡ bytes_in new
size_more before count ss s new e f is = let h = size_after ss s in let k : bytes_in new ≡ bytes_in (ss ++ s ∷ []) = ap bytes_in is in omega (arith, e, f, h, k)

-- it has the next name
pub named_more : (names : List (List ℕ)) (ss : List Source) (i : ℕ) (n : List ℕ) (s : Source) (new : List Source) → i < length names → n ≡ get_or names i n → names_of ss ≡ take i names → s.name ≡ n → new ≡ ss ++ s ∷ []
    → names_of new ≡ take (i + 1) names
named_more names ss i n s new lt at named is all =
    ap names_of all ∙ map-append (λ (x : Source). x.name) ss (s ∷ []) ∙ ap (λ (x : List (List ℕ)). x ++ s.name ∷ []) named ∙ ap (λ (x : List ℕ). take i names ++ x ∷ []) is ∙ sym (up_to names i n lt at)

-- all are there, under their names
pub all_named : (names : List (List ℕ)) (ss : List Source) (i : ℕ) → length names ≤ i → names_of ss ≡ take i names → names_of ss ≡ names
all_named names ss i over named = named ∙ take_all i names over

pub mains_named : (names : List (List ℕ)) (ss : List Source) (n : ℕ) → names_of ss ≡ names → mains_in names ≡ n → mains_in (names_of ss) ≡ n
mains_named names ss n named e = ap mains_in named ∙ e

-- all are there
pub all_got : (files : Option Files) (names : List (List ℕ)) (ss : List Source) (i : ℕ) → length names ≤ i → Got files (take i names) ss → FollowsTold files (Ok ss) (texts_in names)
all_got None names ss i over g = tt
all_got (Some told) names ss i over g = ap (λ (ns : List (List ℕ)). texts_in ns told) (sym (take_all i names over)) ∙ g
