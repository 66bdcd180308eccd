-- Numbers that are bytes, and what is read of them.
use Rattle.std.proofs.Common.{◌≡◌, ℕ, zero, suc, Bool, true, false, if◌then◌else◌, true≢false, List, [], ◌∷◌, Result, Ok, refl, sym, ap, subst, ◌∙◌, arith}
use Rattle.std.specs.Prelude.{nat_lt}
use Rattle.std.proofs.lemmas.Bool.{lt-ltb, ltb-true}
use Rattle.som_model.specs.declared.program.ClientProgram.{ClientProgram}
use Rattle.som_model.specs.declared.program.Release.{Release}
use Rattle.som_model.specs.Bytes.{AreBytes}
use Rattle.som_image_fields.specs.declared.fault.ImageFault.{ImageFault}
use Rattle.som_image_fields.specs.Fields.{Gives}
use Rattle.som_libimage.specs.Libraries.{library_at}
use Rattle.som_cliimage.specs.Programs.{client_at}
use Rattle.som_cmd_steps.specs.ImageSteps.{are_bytes, client_in, library_in, read_if}

both_say : (b c : Bool) → (if b then c else false) ≡ true → (b ≡ true) × (c ≡ true)
both_say true c h = (refl, h)
both_say false c h = absurd (true≢false (sym h))

pub bytes_below : (bytes : List ℕ) → are_bytes bytes ≡ true → AreBytes bytes
bytes_below [] h i = omega arith
bytes_below (b ∷ bs) h zero = ltb-true b 256 (both_say (nat_lt b 256) (are_bytes bs) h).0
bytes_below (b ∷ bs) h (suc i) = bytes_below bs (both_say (nat_lt b 256) (are_bytes bs) h).1 i

pub bytes_pass : (bytes : List ℕ) → AreBytes bytes → are_bytes bytes ≡ true
bytes_pass [] h = refl
bytes_pass (b ∷ bs) h = ap (λ (x : Bool). if x then are_bytes bs else false) (lt-ltb b 256 (h 0)) ∙ bytes_pass bs (λ i. h (suc i))

-- ---- what is read of them

bytes_read : {A : Type 0} (bytes : List ℕ) (read x : Result A ImageFault) → AreBytes bytes → read ≡ x → read_if (are_bytes bytes) read ≡ x
bytes_read bytes read x all e = ap (λ (b : Bool). read_if b read) (bytes_pass bytes all) ∙ e

pub library_read : (bytes : List ℕ) (x : Result Release ImageFault) → AreBytes bytes → library_at bytes ≡ x → library_in bytes ≡ x
library_read bytes x all e = bytes_read bytes (library_at bytes) x all e

pub client_read : (bytes : List ℕ) (x : Result ClientProgram ImageFault) → AreBytes bytes → client_at bytes ≡ x → client_in bytes ≡ x
client_read bytes x all e = bytes_read bytes (client_at bytes) x all e

-- numbers that are read as something are bytes
read_by : {A : Type 0} (x : A) (read : Result A ImageFault) (b : Bool) → read_if b read ≡ Ok x → (b ≡ true) × (read ≡ Ok x)
read_by x read true e = (refl, e)
read_by x read false e = absurd cc

pub library_bytes : (bytes : List ℕ) (r : Release) → library_in bytes ≡ Ok r → AreBytes bytes × (library_at bytes ≡ Ok r)
library_bytes bytes r e = let t = read_by r (library_at bytes) (are_bytes bytes) e in (bytes_below bytes t.0, t.1)

-- ---- what the code reads

pub library_gives : (bytes : List ℕ) (result : Result Release ImageFault) → AreBytes bytes → Gives result (library_at bytes) → Gives result (library_in bytes)
library_gives bytes result all g = subst (λ (b : Bool). Gives result (read_if b (library_at bytes))) (sym (bytes_pass bytes all)) g

pub client_gives : (bytes : List ℕ) (result : Result ClientProgram ImageFault) → AreBytes bytes → Gives result (client_at bytes) → Gives result (client_in bytes)
client_gives bytes result all g = subst (λ (b : Bool). Gives result (read_if b (client_at bytes))) (sym (bytes_pass bytes all)) g
