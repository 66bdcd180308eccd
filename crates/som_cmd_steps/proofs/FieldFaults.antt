-- Reading a field never comes to want of memory.
use Rattle.std.proofs.Common.{ℕ, zero, suc, ◌+◌, ◌==◌, ◌&&◌, ◌||◌, nat_lt, nat_le, Bool, true, false, if◌then◌else◌, List, length, slice_index, Result, Ok, Err}
use Rattle.std.specs.Int.{Width, w8, w16, w32, byte_len}
use Rattle.som_model.specs.declared.limits.TheConstants.{MAX_VERSION, MAX_PARAMETERS, MAX_PARENTS, MAX_ENTRIES}
use Rattle.som_model.specs.Steps.{◌>>=◌}
use Rattle.som_image_fields.specs.declared.fault.ImageFault.{ImageFault}
use Rattle.som_image_fields.specs.declared.read.Read.{Read}
use Rattle.som_image_fields.specs.declared.method.Ranges.{Ranges}
use Rattle.som_image_fields.specs.Fields.{many_at, counted_at}
use Rattle.som_image_fields.specs.Reading.{number_at, text_at, below_at, version_at, kind_at, sig_at, entry_at, metaclass_at, face_at, method_at}
use Rattle.som_image_fields.specs.declared.fault.ImageFault.TheVariants as faults

-- a fault that bytes can have
abbrev pub IsOfBytes : ImageFault → Type 0
IsOfBytes faults.NoMemory = ⊥
IsOfBytes _ = Unit {0}

-- a value, or such a fault
abbrev pub Reads : {A : Type 0} → Result A ImageFault → Type 0
Reads (Ok x) = Unit {0}
Reads (Err fault) = IsOfBytes fault

pub then_reads : {A B : Type 0} (r : Result A ImageFault) (f : A → Result B ImageFault) → Reads r → ((x : A) → Reads (f x)) → Reads (r >>= f)
then_reads (Ok x) f h g = g x
then_reads (Err fault) f h g = h

pub either_reads : {A : Type 0} (b : Bool) (x y : Result A ImageFault) → Reads x → Reads y → Reads (if b then x else y)
either_reads true x y h g = h
either_reads false x y h g = g

-- ---- fields

pub number_reads : (w : Width) (bytes : List ℕ) (place : ℕ) → Reads (number_at w bytes place)
number_reads w bytes place = either_reads (nat_lt (length bytes) (place + byte_len w)) _ _ tt tt

pub text_reads : (bytes : List ℕ) (place : ℕ) → Reads (text_at bytes place)
unfolding text_at
text_reads bytes place = then_reads (number_at w16 bytes place) _ (number_reads w16 bytes place) (λ len. either_reads (nat_lt (length bytes) (len.next + len.value)) _ _ tt tt)

pub below_reads : (limit : ℕ) (bytes : List ℕ) (place : ℕ) → Reads (below_at limit bytes place)
unfolding below_at
below_reads limit bytes place = then_reads (number_at w16 bytes place) _ (number_reads w16 bytes place) (λ n. either_reads (nat_lt n.value limit) _ _ tt tt)

version_reads : (bytes : List ℕ) (place : ℕ) → Reads (version_at bytes place)
unfolding version_at
version_reads bytes place = then_reads (number_at w32 bytes place) _ (number_reads w32 bytes place) (λ n. either_reads (nat_le n.value MAX_VERSION) _ _ tt tt)

pub many_reads : {A : Type 0} (one : ℕ → Result (Read A) ImageFault) → ((place : ℕ) → Reads (one place)) → (n place : ℕ) → Reads (many_at one n place)
unfolding many_at
many_reads one h zero place = tt
many_reads one h (suc n) place = then_reads (one place) _ (h place) (λ x. then_reads (many_at one n x.next) _ (many_reads one h n x.next) (λ xs. tt))

pub counted_reads : {A : Type 0} (number : ℕ → Result (Read ℕ) ImageFault) (least most : ℕ) (one : ℕ → Result (Read A) ImageFault) → ((place : ℕ) → Reads (number place)) → ((place : ℕ) → Reads (one place)) → (place : ℕ)
    → Reads (counted_at number least most one place)
counted_reads number least most one hn ho place = then_reads (number place) _ (hn place) (λ count.
    either_reads (nat_lt count.value least || nat_lt most count.value) (Err (faults.Number place)) (many_at one count.value count.next) tt (many_reads one ho count.value count.next))

pub kind_reads : (classes : ℕ) (is_result : Bool) (bytes : List ℕ) (place : ℕ) → Reads (kind_at classes is_result bytes place)
unfolding kind_at
kind_reads classes is_result bytes place = then_reads (number_at w8 bytes place) _ (number_reads w8 bytes place) (λ tag.
    either_reads ((tag.value == 0) && is_result) _ _ tt
    (either_reads (tag.value == 1) _ _ tt
    (either_reads (tag.value == 2) _ _ tt
    (either_reads (tag.value == 3) _ _ tt
    (either_reads (tag.value == 4) _ _ (then_reads (below_at classes bytes tag.next) _ (below_reads classes bytes tag.next) (λ class. tt)) tt)))))

sig_reads : (classes : ℕ) (bytes : List ℕ) (place : ℕ) → Reads (sig_at classes bytes place)
unfolding sig_at
sig_reads classes bytes place = then_reads (kind_at classes true bytes place) _ (kind_reads classes true bytes place) (λ answer.
    then_reads (counted_at (number_at w8 bytes) 0 MAX_PARAMETERS (kind_at classes false bytes) answer.next) _ (counted_reads (number_at w8 bytes) 0 MAX_PARAMETERS (kind_at classes false bytes) (number_reads w8 bytes) (kind_reads classes false bytes) answer.next) (λ params. tt))

entry_reads : (classes : ℕ) (bytes : List ℕ) (place : ℕ) → Reads (entry_at classes bytes place)
unfolding entry_at
entry_reads classes bytes place = then_reads (text_at bytes place) _ (text_reads bytes place) (λ name. then_reads (number_at w8 bytes name.next) _ (number_reads w8 bytes name.next) (λ flag.
    either_reads (flag.value == 0) _ _ (then_reads (sig_at classes bytes flag.next) _ (sig_reads classes bytes flag.next) (λ s. tt))
    (either_reads (flag.value == 1) _ _ (then_reads (sig_at classes bytes flag.next) _ (sig_reads classes bytes flag.next) (λ s. tt))
    (either_reads (flag.value == 2) _ _ (then_reads (below_at classes bytes flag.next) _ (below_reads classes bytes flag.next) (λ to. tt)) tt))))

metaclass_reads : (classes : ℕ) (bytes : List ℕ) (place : ℕ) → Reads (metaclass_at classes bytes place)
unfolding metaclass_at
metaclass_reads classes bytes place = then_reads (number_at w8 bytes place) _ (number_reads w8 bytes place) (λ flag.
    either_reads (flag.value == 0) _ _ tt (either_reads (flag.value == 1) _ _ (then_reads (below_at classes bytes flag.next) _ (below_reads classes bytes flag.next) (λ class. tt)) tt))

pub face_reads : (classes : ℕ) (bytes : List ℕ) (place : ℕ) → Reads (face_at classes bytes place)
unfolding face_at
face_reads classes bytes place =
    then_reads (text_at bytes place) _ (text_reads bytes place) (λ name.
    then_reads (version_at bytes name.next) _ (version_reads bytes name.next) (λ major.
    then_reads (version_at bytes major.next) _ (version_reads bytes major.next) (λ minor.
    then_reads (counted_at (number_at w8 bytes) 1 MAX_PARENTS (below_at classes bytes) minor.next) _ (counted_reads (number_at w8 bytes) 1 MAX_PARENTS (below_at classes bytes) (number_reads w8 bytes) (below_reads classes bytes) minor.next) (λ parents.
    then_reads (metaclass_at classes bytes parents.next) _ (metaclass_reads classes bytes parents.next) (λ metaclass.
    then_reads (counted_at (number_at w16 bytes) 0 MAX_ENTRIES (entry_at classes bytes) metaclass.next) _ (counted_reads (number_at w16 bytes) 0 MAX_ENTRIES (entry_at classes bytes) (number_reads w16 bytes) (entry_reads classes bytes) metaclass.next) (λ entries. tt))))))

pub method_reads : (ranges : Ranges) (bytes : List ℕ) (place : ℕ) → Reads (method_at ranges bytes place)
unfolding method_at
method_reads ranges bytes place = then_reads (below_at ranges.classes bytes place) _ (below_reads ranges.classes bytes place) (λ class.
    then_reads (below_at (slice_index ranges.entries class.value) bytes class.next) _ (below_reads (slice_index ranges.entries class.value) bytes class.next) (λ slot. tt))
