-- Which lists of releases are accepted, and what is answered of their images.
use Rattle.std.proofs.Common.{◌≡◌, ℕ, ◌+◌, ◌≤◌, inl, inr, List, [], ◌∷◌, ◌++◌, map, length, Option, Some, None, Result, Ok, refl, sym, ap, subst, ◌∙◌, arith}
use Rattle.std.specs.Option.{ok_or}
use Rattle.som_model.specs.declared.program.Release.{Release}
use Rattle.som_model.specs.Bytes.{Files}
use Rattle.som_model.specs.Lists.{first}
use Rattle.som_model.specs.Class.{interface_of}
use Rattle.som_model.specs.Compatible.{CompatBreach, Compatible, breaks, list_breaks, EachNext, Accepted}
use Rattle.som_model.specs.Conforming.{ReleaseOk}
use Rattle.som_model.specs.Steps.{◌>>=◌}
use Rattle.som_order.specs.Names.{name_at}
use Rattle.som_image_fields.specs.declared.fault.ImageFault.{ImageFault}
use Rattle.som_image_classes.proofs.Conforming.{none_first}
use Rattle.som_libimage.proofs.Decoded.{library_again}
use Rattle.som_verify_classes.proofs.Before.{none_both}
use Rattle.som_compat.proofs.Plain.{map_empty}
use Rattle.som_cmd_steps.specs.declared.stop.Refusal.{Refusal}
use Rattle.som_cmd_steps.specs.Lines.{absent, not_kept}
use Rattle.som_cmd_steps.specs.Endings.{refusing}
use Rattle.som_cmd_steps.specs.Getting.{images_in}
use Rattle.som_cmd_steps.specs.ImageSteps.{read_or}
use Rattle.som_cmd_steps.proofs.ByteLaws.{library_read}
use Rattle.som_cmd_check.specs.CheckAnswer.{IsCheckAnswer, refuses, accepts, releases_in, AllConform, first_not_kept, accepting}
use Rattle.som_cmd_check.specs.CheckEnds.{AreUnder}

-- ---- lists of releases

abbrev Next : Release → Release → Type 0
Next r s = Compatible (interface_of r) (interface_of s)

-- nothing is lost between neighbours
kept : (n : ℕ) (rs : List Release) → EachNext Next rs → first (list_breaks n (map interface_of rs)) ≡ None
kept n [] next = refl
kept n (r ∷ []) next = refl
kept n (r ∷ s ∷ rs) next =
    ap (λ (l : List CompatBreach). first (map (λ b. (n, b)) l ++ list_breaks (n + 1) (map interface_of (s ∷ rs)))) (none_first (breaks (interface_of r) (interface_of s)) next.0)
    ∙ kept (n + 1) (s ∷ rs) next.1

neighbours : (n : ℕ) (rs : List Release) → first (list_breaks n (map interface_of rs)) ≡ None → EachNext Next rs
neighbours n [] none = tt
neighbours n (r ∷ []) none = tt
neighbours n (r ∷ s ∷ rs) none =
    let both = none_both (map (λ b. (n, b)) (breaks (interface_of r) (interface_of s))) (list_breaks (n + 1) (map interface_of (s ∷ rs))) none in
    (ap first (map_empty _ (breaks (interface_of r) (interface_of s)) both.0), neighbours (n + 1) (s ∷ rs) both.1)

some_of : (rs : List Release) → 2 ≤ length rs → rs ≡ [] → ⊥
some_of [] two e = omega arith
some_of (r ∷ rs) two e = cc

pub accepted_if : (rs : List Release) → 2 ≤ length rs → AllConform rs → first_not_kept rs ≡ None → Accepted rs
accepted_if rs two ok none = record { some = some_of rs two; conform = ok; next = neighbours 1 rs none }

pub none_if : (rs : List Release) → Accepted rs → first_not_kept rs ≡ None
none_if rs a = kept 1 rs a.next

-- ---- images of releases

pub under_conform : (files : Files) (names : List (List ℕ)) (rs : List Release) → AreUnder files names rs → AllConform rs
under_conform files names [] under r m = absurd m
under_conform files [] (s ∷ rs) under r m = absurd under
under_conform files (n ∷ ns) (s ∷ rs) under r m = elim m as (λ _. ReleaseOk r) [
  | inl is ↦ subst (λ (x : Release). ReleaseOk x) (sym is) under.0.conforms
  | inr more ↦ under_conform files ns rs under.1 r more
]

-- the images of releases under names, as they are got and read
record AreGot (files : Files) (names : List (List ℕ)) (rs : List Release) : Type 0 where
  images : List (List ℕ)
  got : images_in names files ≡ Ok images
  read : releases_in names images ≡ Ok rs

all_got : (files : Files) (names : List (List ℕ)) (rs : List Release) → AreUnder files names rs → AreGot files names rs
all_got files [] [] under = record { images = []; got = refl; read = refl }
all_got files [] (r ∷ rs) under = absurd under
all_got files (n ∷ ns) [] under = absurd under
all_got files (n ∷ ns) (r ∷ rs) under =
    let more = all_got files ns rs under.1 in
    let one = under.0 in
    record {
      images = one.bytes ∷ more.images;
      got = ap (λ (o : Option (List ℕ)). ok_or o (absent n) >>= λ b. images_in ns files >>= λ bs. Ok (b ∷ bs)) one.image_is
          ∙ ap (λ (x : Result (List (List ℕ)) Refusal). x >>= λ bs. Ok (one.bytes ∷ bs)) more.got;
      read = ap (λ (x : Result Release ImageFault). read_or n x >>= λ s. releases_in ns more.images >>= λ ss. Ok (s ∷ ss)) (library_read one.bytes (Ok r) one.bytes_are (library_again one.bytes r one.spelled))
          ∙ ap (λ (x : Result (List Release) Refusal). x >>= λ ss. Ok (r ∷ ss)) more.read;
    }

-- what is answered of them
pub accepts_under : (files : Files) (names : List (List ℕ)) (rs : List Release) → AreUnder files names rs → first_not_kept rs ≡ None → IsCheckAnswer names files (accepting files)
accepts_under files names rs under none =
    let a = all_got files names rs under in accepts a.images rs a.got a.read (under_conform files names rs under) none

pub refuses_under : (files : Files) (names : List (List ℕ)) (rs : List Release) (number : ℕ) (b : CompatBreach) → AreUnder files names rs → first_not_kept rs ≡ Some (number, b)
    → IsCheckAnswer names files (refusing files (not_kept (name_at names number) b))
refuses_under files names rs number b under told =
    let a = all_got files names rs under in refuses a.images rs number b a.got a.read (under_conform files names rs under) told
