-- Images that are got, read and tested one after the other.
use Rattle.std.proofs.Common.{◌≡◌, ℕ, zero, suc, ◌+◌, ◌<◌, ◌≤◌, inl, inr, List, [], ◌∷◌, ◌++◌, length, take, drop, get_or, Option, Some, None, Result, Ok, Err, refl, sym, ap, subst, ◌∙◌, append_assoc, drop-cons, arith}
use Rattle.std.proofs.lemmas.List.{append-nil, drop_all, take_more, take_all}
use Rattle.std.specs.Prelude.{All}
use Rattle.std.specs.FinMap.{get}
use Rattle.std.proofs.lemmas.List.Elements.{All-append, All-cons, All-nil}
use Rattle.som_image_decode.proofs.Places.{item_all}
use Rattle.som_model.specs.Bytes.{Files}
use Rattle.som_model.specs.Lists.{Mem}
use Rattle.som_model.specs.Steps.{◌>>=◌}
use Rattle.som_cmd_steps.specs.declared.stop.Refusal.{Refusal}
use Rattle.som_cmd_steps.specs.declared.stop.CommandStop.{CommandStop}
use Rattle.som_cmd_steps.specs.EachImage.{each_passes, each_read}
use Rattle.som_cmd_steps.specs.Fetching.{file_of, Has}
use Rattle.som_cmd_steps.specs.Getting.{images_in, FailsGetting, IsAbsentOf}
use Rattle.som_cmd_steps.specs.Lines.{absent, store_failed}
use Rattle.som_cmd_steps.specs.Refusing.{RefusesAs}
use Rattle.som_cmd_steps.specs.Steps.{Stops, FollowsTold}
use Rattle.som_cmd_steps.proofs.FileLaws.{found_by}
use Rattle.som_cmd_steps.specs.declared.stop.CommandStop.TheVariants as stops

pub next_of : {A : Type 0} (xs : List A) (i : ℕ) (x : A) → i < length xs → x ≡ get_or xs i x → drop i xs ≡ x ∷ drop (i + 1) xs
next_of {A} xs i x lt is =
    let n : suc i ≡ i + 1 = omega arith in
    drop-cons xs i x lt ∙ ap (λ (k : ℕ). get_or xs i x ∷ drop k xs) n ∙ ap (λ (y : A). y ∷ drop (i + 1) xs) (sym is)

-- what holds of all holds of one of them
pub item_has : {A : Type 0} (P : A → Type 0) (xs : List A) (i : ℕ) (x : A) → i < length xs → x ≡ get_or xs i x → All P xs → P x
item_has P xs i x lt is h = item_all P xs xs i x refl lt is h

-- it holds of one more
pub one_more_has : {A : Type 0} (P : A → Type 0) (xs : List A) (x : A) → All P xs → P x → All P (xs ++ x ∷ [])
one_more_has P xs x h p = All-append P xs (x ∷ []) h (All-cons P x [] p (All-nil P))

pub taken_more : {A : Type 0} (P : A → Type 0) (xs : List A) (i : ℕ) (x : A) → i < length xs → x ≡ get_or xs i x → All P (take i xs) → P x → All P (take (i + 1) xs)
taken_more {A} P xs i x lt is h p =
    subst (λ (ys : List A). All P ys) (sym (take_more xs i x lt ∙ ap (λ (y : A). take i xs ++ y ∷ []) (sym is)))
    (one_more_has P (take i xs) x h p)

pub taken_all : {A : Type 0} (P : A → Type 0) (xs : List A) (i : ℕ) → length xs ≤ i → All P (take i xs) → All P xs
taken_all {A} P xs i over h = subst (λ (ys : List A). All P ys) (take_all i xs over) h

-- what is left after some were taken
abbrev after : {A : Type 0} → List A → Result (List A) Refusal → Result (List A) Refusal
after done r = r >>= λ ys. Ok (done ++ ys)

-- a step before what is left
abbrev one_before : {A : Type 0} → Result A Refusal → Result (List A) Refusal → Result (List A) Refusal
one_before s r = s >>= λ y. r >>= λ ys. Ok (y ∷ ys)

after_one : {A : Type 0} (done : List A) (y : A) (r : Result (List A) Refusal) → after (done ++ y ∷ []) r ≡ after done (one_before (Ok y) r)
after_one {A} done y (Ok ys) = ap (λ (l : List A). Ok l) (append_assoc done (y ∷ []) ys)
after_one done y (Err e) = refl

-- a step that refuses
stops_all : {A : Type 0} (done : List A) (stop : CommandStop) (s : Result A Refusal) (r : Result (List A) Refusal) → Stops stop s → Stops stop (after done (one_before s r))
stops_all done (stops.Refused e) s r f = ap (λ (x : _). after done (one_before x r)) f
stops_all done (stops.StoreFailed line) s r f = tt
stops_all done stops.NoMemory s r f = tt

none_done : {A : Type 0} (r : Result (List A) Refusal) → after [] r ≡ r
none_done (Ok ys) = refl
none_done (Err e) = refl

all_done : {A : Type 0} (done : List A) → after done (Ok []) ≡ Ok done
all_done {A} done = ap (λ (l : List A). Ok l) (append-nil done)

-- ---- bytes under names

abbrev Got : Files → List (List ℕ) → ℕ → List (List ℕ) → Type 0
Got files names i images = after images (images_in (drop i names) files) ≡ images_in names files

-- the images of the names before a place were got
abbrev pub GotTold : Option Files → List (List ℕ) → ℕ → List (List ℕ) → Type 0
GotTold None names i images = Unit {0}
GotTold (Some files) names i images = Got files names i images

-- where a get after those before a place fails, the line says so, and those before it are there
abbrev pub AreThere : Option Files → List (List ℕ) → ℕ → Type 0
AreThere files names i = (line : List ℕ) → FailsGetting files (drop i names) line → FailsGetting files names line

pub got_none : (files : Option Files) (names : List (List ℕ)) → GotTold files names 0 []
got_none None names = tt
got_none (Some files) names = none_done (images_in names files)

mem_at : (names : List (List ℕ)) (i : ℕ) (name : List ℕ) → i < length names → name ≡ get_or names i name → Mem name names
mem_at [] i name lt is = absurd (omega (arith, lt))
mem_at (n ∷ ns) zero name lt is = inl is
mem_at (n ∷ ns) (suc i) name lt is = inr (mem_at ns i name (omega (arith, lt)) is)

module _ (names : List (List ℕ)) (i : ℕ) (name : List ℕ) (lt : i < length names) (is : name ≡ get_or names i name) where
  next_name : drop i names ≡ name ∷ drop (i + 1) names
  next_name = next_of names i name lt is

  got_before : (files : Files) (images : List (List ℕ)) → Got files names i images → after images (one_before (file_of name files) (images_in (drop (i + 1) names) files)) ≡ images_in names files
  got_before files images so = ap (λ (ns : List (List ℕ)). after images (images_in ns files)) (sym next_name) ∙ so

  one_got : (files : Files) (images : List (List ℕ)) (b : List ℕ) → Got files names i images → file_of name files ≡ Ok b → Got files names (i + 1) (images ++ b ∷ [])
  one_got files images b so f =
      after_one images b (images_in (drop (i + 1) names) files)
      ∙ ap (λ (x : Result (List ℕ) Refusal). after images (one_before x (images_in (drop (i + 1) names) files))) (sym f)
      ∙ got_before files images so

  -- one image more
  pub got_more : (files now : Option Files) (images : List (List ℕ)) (b : List ℕ) → now ≡ files → GotTold files names i images → FollowsTold now (Ok b) (file_of name) → GotTold files names (i + 1) (images ++ b ∷ [])
  got_more None now images b same so f = tt
  got_more (Some files) now images b same so f = one_got files images b so (subst (λ (x : Option Files). FollowsTold x (Ok b) (file_of name)) same f)

  -- one that isn't there
  pub got_stops : (files now : Option Files) (images : List (List ℕ)) (stop : CommandStop) → now ≡ files → GotTold files names i images → FollowsTold {A = List ℕ} now (Err stop) (file_of name) → FollowsTold {A = List (List ℕ)} files (Err stop) (images_in names)
  got_stops None now images stop same so f = tt
  got_stops (Some files) now images stop same so f =
      subst (Stops stop) (got_before files images so)
      (stops_all images stop (file_of name files) (images_in (drop (i + 1) names) files) (subst (λ (x : Option Files). FollowsTold {A = List ℕ} x (Err stop) (file_of name)) same f))

  has_by : (files : Option Files) (b : List ℕ) → FollowsTold files (Ok b) (file_of name) → Has files name
  has_by None b f = tt
  has_by (Some files) b f = (b, found_by (get files name) name b f)

  pub there_more : (files now : Option Files) (b : List ℕ) → now ≡ files → AreThere files names i → FollowsTold now (Ok b) (file_of name) → AreThere files names (i + 1)
  there_more files now b same so f line fails =
      so line (subst (λ (ns : List (List ℕ)). FailsGetting files ns line) (sym next_name) (inr (has_by files b (subst (λ (x : Option Files). FollowsTold x (Ok b) (file_of name)) same f), fails)))

  pub there_fails : (files : Option Files) (line : List ℕ) → AreThere files names i → line ≡ store_failed name → FailsGetting files names line
  there_fails files line so e = so line (subst (λ (ns : List (List ℕ)). FailsGetting files ns line) (sym next_name) (inl e))

  pub absent_of : (stop : CommandStop) → RefusesAs {A = List ℕ} (λ r. r ≡ absent name) (Err stop) → RefusesAs {A = List (List ℕ)} (IsAbsentOf names) (Err stop)
  absent_of (stops.Refused r) e = (name, mem_at names i name lt is, e)
  absent_of (stops.StoreFailed line) e = tt
  absent_of stops.NoMemory e = tt

-- all images were got
pub got_all : (files : Option Files) (names : List (List ℕ)) (i : ℕ) (images : List (List ℕ)) → length names ≤ i → GotTold files names i images → FollowsTold files (Ok images) (images_in names)
got_all None names i images over so = tt
got_all (Some files) names i images over so =
    sym so ∙ ap (λ (ns : List (List ℕ)). after images (images_in ns files)) (drop_all i names over) ∙ all_done images

-- ---- images that are read

module _ {A : Type 0} (read : List ℕ → List ℕ → Result A Refusal) (names images : List (List ℕ)) where
  -- the images before a place were read
  abbrev pub HasRead : ℕ → List A → Type 0
  HasRead i xs = after xs (each_read read (drop i names) (drop i images)) ≡ each_read read names images

  pub read_none : HasRead 0 []
  read_none = none_done (each_read read names images)

  -- all were read
  pub read_all : (i : ℕ) (xs : List A) → length names ≤ i → HasRead i xs → each_read read names images ≡ Ok xs
  read_all i xs over so = sym so ∙ ap (λ (ns : List (List ℕ)). after xs (each_read read ns (drop i images))) (drop_all i names over) ∙ all_done xs

  module _ (i : ℕ) (name image : List ℕ) (lt : i < length names) (name_is : name ≡ get_or names i name) (within : i < length images) (image_is : image ≡ get_or images i image) where
    read_before : (xs : List A) → HasRead i xs → after xs (one_before (read name image) (each_read read (drop (i + 1) names) (drop (i + 1) images))) ≡ each_read read names images
    read_before xs so =
        ap (λ (bs : List (List ℕ)). after xs (each_read read (name ∷ drop (i + 1) names) bs)) (sym (next_of images i image within image_is))
        ∙ ap (λ (ns : List (List ℕ)). after xs (each_read read ns (drop i images))) (sym (next_of names i name lt name_is)) ∙ so

    -- one more
    pub read_more : (xs : List A) (x : A) → HasRead i xs → read name image ≡ Ok x → HasRead (i + 1) (xs ++ x ∷ [])
    read_more xs x so f =
        after_one xs x (each_read read (drop (i + 1) names) (drop (i + 1) images))
        ∙ ap (λ (y : Result A Refusal). after xs (one_before y (each_read read (drop (i + 1) names) (drop (i + 1) images)))) (sym f)
        ∙ read_before xs so

    -- one that can't be read
    pub read_stops : (xs : List A) (stop : CommandStop) → HasRead i xs → Stops stop (read name image) → Stops stop (each_read read names images)
    read_stops xs stop so f = subst (Stops stop) (read_before xs so) (stops_all xs stop (read name image) (each_read read (drop (i + 1) names) (drop (i + 1) images)) f)

-- ---- what was read is tested

test_stops : (stop : CommandStop) (s r : Result (Unit {0}) Refusal) → Stops stop s → Stops stop (s >>= λ passed. r)
test_stops (stops.Refused e) s r f = ap (λ (x : Result (Unit {0}) Refusal). x >>= λ passed. r) f
test_stops (stops.StoreFailed line) s r f = tt
test_stops stops.NoMemory s r f = tt

module _ {A : Type 0} (test : List ℕ → A → Result (Unit {0}) Refusal) (names : List (List ℕ)) (xs : List A) where
  -- those before a place pass
  abbrev pub HavePassed : ℕ → Type 0
  HavePassed i = each_passes test (drop i names) (drop i xs) ≡ each_passes test names xs

  pub passed_all : (i : ℕ) → length names ≤ i → HavePassed i → each_passes test names xs ≡ Ok tt
  passed_all i over so = sym so ∙ ap (λ (ns : List (List ℕ)). each_passes test ns (drop i xs)) (drop_all i names over)

  module _ (i : ℕ) (name : List ℕ) (x : A) (lt : i < length names) (name_is : name ≡ get_or names i name) (within : i < length xs) (item_is : x ≡ get_or xs i x) where
    passed_before : HavePassed i → (test name x >>= λ passed. each_passes test (drop (i + 1) names) (drop (i + 1) xs)) ≡ each_passes test names xs
    passed_before so =
        ap (λ (l : List A). each_passes test (name ∷ drop (i + 1) names) l) (sym (next_of xs i x within item_is))
        ∙ ap (λ (ns : List (List ℕ)). each_passes test ns (drop i xs)) (sym (next_of names i name lt name_is)) ∙ so

    pub passed_more : (u : Unit {0}) → HavePassed i → test name x ≡ Ok u → HavePassed (i + 1)
    passed_more u so f = ap (λ (y : Result (Unit {0}) Refusal). y >>= λ passed. each_passes test (drop (i + 1) names) (drop (i + 1) xs)) (sym f) ∙ passed_before so

    pub passed_stops : (stop : CommandStop) → HavePassed i → Stops stop (test name x) → Stops stop (each_passes test names xs)
    passed_stops stop so f = subst (Stops stop) (passed_before so) (test_stops stop (test name x) (each_passes test (drop (i + 1) names) (drop (i + 1) xs)) f)
