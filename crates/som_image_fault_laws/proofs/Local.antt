-- What is read at a place depends on no bytes behind what is read, and so does a fault.
use Rattle.std.proofs.Common.{◌≡◌, ℕ, zero, suc, ◌+◌, ◌<◌, ◌≤◌, ◌||◌, Bool, true, false, if◌then◌else◌, List, [], ◌∷◌, length, take, drop, Result, Ok, Err, refl, sym, ap, ◌∙◌, subst, arith}
use Rattle.std.specs.Prelude.{nat_lt}
use Rattle.std.specs.Int.{Width, w8, w16, w32, byte_len, from_be_bytes}
use Rattle.std.proofs.lemmas.Bool.{ltb-false, le-ltb}
use Rattle.std.proofs.lemmas.List.{drop-take, take-take}
use Rattle.som_model.specs.Steps.{◌>>=◌}
use Rattle.som_image_fields.specs.declared.fault.ImageFault.{ImageFault}
use Rattle.som_image_fields.specs.declared.fault.ImageFault.TheVariants as faults
use Rattle.som_image_fields.specs.declared.read.Read.{Read}
use Rattle.som_image_fields.specs.Fields.{counted_at, done, many_at}
use Rattle.som_image_fields.specs.Reading.{number_at}
use Rattle.som_wire.specs.Making.{Reads, of_one, of_two, of_three, of_four}

-- other bytes begin with the first n of these
pub record Begins (n : ℕ) (bytes other : List ℕ) : Type 0 where
  pub long : n ≤ length other
  pub same : take n other ≡ take n bytes

pub shorter : (m n : ℕ) (bytes other : List ℕ) → m ≤ n → Begins n bytes other → Begins m bytes other
shorter m n bytes other le b = record { long = omega (arith, le, b.long); same = sym (take-take m n other le) ∙ ap (take m) b.same ∙ take-take m n bytes le }

-- ---- what came of reading

module _ {A : Type 0} (read : List ℕ → Result A ImageFault) where
  -- a value, whose bytes end here, is read of all bytes that begin so
  pub record IsRead (seen : ℕ) (bytes : List ℕ) (next : ℕ) (x : A) : Type 0 where
    pub past : seen ≤ next
    pub within : next ≤ length bytes
    pub stays : (other : List ℕ) → Begins next bytes other → read other ≡ Ok x

  -- a fault of the field at a place is told of all bytes that begin so, up to where the field ends
  pub record IsFirm (from seen : ℕ) (bytes : List ℕ) (f : ImageFault) (p : ℕ) : Type 0 where
    pub ends : ℕ
    pub after : from ≤ p
    pub past : p < ends
    pub near : ends ≤ p + 4
    pub seen_is : seen ≤ ends
    pub within : ends ≤ length bytes
    pub stays : (other : List ℕ) → Begins ends bytes other → read other ≡ Err f

  abbrev pub IsTold : ℕ → ℕ → List ℕ → ImageFault → Type 0
  IsTold from seen bytes (faults.Magic p) = IsFirm from seen bytes (faults.Magic p) p
  IsTold from seen bytes (faults.Version p) = IsFirm from seen bytes (faults.Version p) p
  IsTold from seen bytes (faults.Cut p) = p ≡ length bytes
  IsTold from seen bytes (faults.Tag p) = IsFirm from seen bytes (faults.Tag p) p
  IsTold from seen bytes (faults.Number p) = IsFirm from seen bytes (faults.Number p) p
  IsTold from seen bytes (faults.Trailing p) = ⊥
  IsTold from seen bytes (faults.Nesting p) = IsFirm from seen bytes (faults.Nesting p) p
  IsTold from seen bytes faults.NoMemory = ⊥

-- so it is with all that reading comes to, where the first bytes were seen already, and no fault is told before a place
pub record IsLocal {A : Type 0} (read : List ℕ → Result (Read A) ImageFault) (from seen : ℕ) : Type 0 where
  pub ok : (bytes : List ℕ) (x : Read A) → seen ≤ length bytes → read bytes ≡ Ok x → IsRead read seen bytes x.next x
  pub fault : (bytes : List ℕ) (f : ImageFault) → seen ≤ length bytes → read bytes ≡ Err f → IsTold read from seen bytes f

-- a field at a place
abbrev pub IsLocalField : {A : Type 0} → Reads A → Type 0
IsLocalField one = (from place : ℕ) → from ≤ place → IsLocal (λ bytes. one bytes place) from place

-- ---- carrying over

firm_over : {A B : Type 0} (read : List ℕ → Result A ImageFault) (other_read : List ℕ → Result B ImageFault) (from low seen least : ℕ) (bytes : List ℕ) (f : ImageFault) (p : ℕ) → low ≤ from → least ≤ seen
    → ((other : List ℕ) → (ends : ℕ) → seen ≤ ends → Begins ends bytes other → read other ≡ Err f → other_read other ≡ Err f) → IsFirm read from seen bytes f p → IsFirm other_read low least bytes f p
firm_over read other_read from low seen least bytes f p a b carry t = record {
  ends = t.ends;
  after = omega (arith, a, t.after);
  past = t.past;
  near = t.near;
  seen_is = omega (arith, b, t.seen_is);
  within = t.within;
  stays = λ other begins. carry other t.ends t.seen_is begins (t.stays other begins);
}

told_over : {A B : Type 0} (read : List ℕ → Result A ImageFault) (other_read : List ℕ → Result B ImageFault) (from low seen least : ℕ) (bytes : List ℕ) (f : ImageFault) → low ≤ from → least ≤ seen
    → ((other : List ℕ) → (ends : ℕ) → seen ≤ ends → Begins ends bytes other → read other ≡ Err f → other_read other ≡ Err f) → IsTold read from seen bytes f → IsTold other_read low least bytes f
told_over read other_read from low seen least bytes (faults.Magic p) a b carry t = firm_over read other_read from low seen least bytes (faults.Magic p) p a b carry t
told_over read other_read from low seen least bytes (faults.Version p) a b carry t = firm_over read other_read from low seen least bytes (faults.Version p) p a b carry t
told_over read other_read from low seen least bytes (faults.Cut p) a b carry t = t
told_over read other_read from low seen least bytes (faults.Tag p) a b carry t = firm_over read other_read from low seen least bytes (faults.Tag p) p a b carry t
told_over read other_read from low seen least bytes (faults.Number p) a b carry t = firm_over read other_read from low seen least bytes (faults.Number p) p a b carry t
told_over read other_read from low seen least bytes (faults.Trailing p) a b carry t = t
told_over read other_read from low seen least bytes (faults.Nesting p) a b carry t = firm_over read other_read from low seen least bytes (faults.Nesting p) p a b carry t
told_over read other_read from low seen least bytes faults.NoMemory a b carry t = t

-- ---- one after another

module _ {A B : Type 0} (read : List ℕ → Result (Read A) ImageFault) (next : Read A → List ℕ → Result (Read B) ImageFault) (from seen : ℕ) (first : IsLocal read from seen)
    (rest : (x : Read A) (bytes : List ℕ) → seen ≤ x.next → read bytes ≡ Ok x → IsLocal (next x) from x.next) where
  abbrev whole : List ℕ → Result (Read B) ImageFault
  whole bytes = read bytes >>= λ x. next x bytes

  goes : (bytes : List ℕ) (x : Read A) (r : Result (Read B) ImageFault) → read bytes ≡ Ok x → next x bytes ≡ r → whole bytes ≡ r
  goes bytes x r e h = ap (λ (z : Result (Read A) ImageFault). z >>= λ x. next x bytes) e ∙ h

  halts : (bytes : List ℕ) (f : ImageFault) → read bytes ≡ Err f → whole bytes ≡ Err f
  halts bytes f e = ap (λ (z : Result (Read A) ImageFault). z >>= λ x. next x bytes) e

  -- what came of the first, by cases

  ok_by : (bytes : List ℕ) (y : Read B) → seen ≤ length bytes → (r : Result (Read A) ImageFault) → read bytes ≡ r → (r >>= λ x. next x bytes) ≡ Ok y → IsRead whole seen bytes y.next y
  ok_by bytes y le (Err f) is e = absurd (let z = e in cc)
  ok_by bytes y le (Ok x) is e =
      let a = first.ok bytes x le is in
      let b = (rest x bytes a.past is).ok bytes y a.within e in
      record {
        past = omega (arith, a.past, b.past);
        within = b.within;
        stays = λ other begins. goes other x (Ok y) (a.stays other (shorter x.next y.next bytes other b.past begins)) (b.stays other begins);
      }

  fault_by : (bytes : List ℕ) (f : ImageFault) → seen ≤ length bytes → (r : Result (Read A) ImageFault) → read bytes ≡ r → (r >>= λ x. next x bytes) ≡ Err f → IsTold whole from seen bytes f
  fault_by bytes f le (Err g) is e =
      let same : g ≡ f = (let z = e in cc) in
      subst (IsTold whole from seen bytes) same (told_over read whole from from seen seen bytes g (omega arith) (omega arith) (λ other ends s begins h. halts other g h) (first.fault bytes g le is))
  fault_by bytes f le (Ok x) is e =
      let a = first.ok bytes x le is in
      told_over (next x) whole from from x.next seen bytes f (omega arith) a.past (λ other ends s begins h. goes other x (Err f) (a.stays other (shorter x.next ends bytes other s begins)) h) ((rest x bytes a.past is).fault bytes f a.within e)

  pub bind_local : IsLocal (λ bytes. read bytes >>= λ x. next x bytes) from seen
  bind_local = record { ok = λ bytes y le e. ok_by bytes y le (read bytes) refl e; fault = λ bytes f le e. fault_by bytes f le (read bytes) refl e }

-- ---- values and faults

pub done_local : {A : Type 0} (x : Read A) (from : ℕ) → IsLocal {A = A} (λ bytes. Ok x) from x.next
done_local {A = A} x from = record {
  ok = λ bytes y le e. (let same : x ≡ y = (let z = e in cc) in
      subst (λ (z : Read A). IsRead {A = Read A} (λ b. Ok x) x.next bytes z.next z) same (record { past = omega arith; within = le; stays = λ other begins. refl }));
  fault = λ bytes f le e. absurd (let z = e in cc);
}

-- a fault of the field that was seen last
firm : {A : Type 0} (from seen p : ℕ) (f : ImageFault) (bytes : List ℕ) → from ≤ p → p < seen → seen ≤ p + 4 → seen ≤ length bytes → IsFirm {A = Read A} (λ b. Err f) from seen bytes f p
firm from seen p f bytes a b c le = record { ends = seen; after = a; past = b; near = c; seen_is = omega arith; within = le; stays = λ other begins. refl }

module _ {A : Type 0} (from seen p : ℕ) (after : from ≤ p) (past : p < seen) (near : seen ≤ p + 4) where
  fault_local : (f : ImageFault) → ((bytes : List ℕ) → seen ≤ length bytes → IsTold {A = Read A} (λ b. Err f) from seen bytes f) → IsLocal {A = A} (λ bytes. Err f) from seen
  fault_local f told = record {
    ok = λ bytes y le e. absurd (let z = e in cc);
    fault = λ bytes g le e. (let same : f ≡ g = (let z = e in cc) in subst (IsTold {A = Read A} (λ b. Err f) from seen bytes) same (told bytes le));
  }

  pub tag_local : IsLocal {A = A} (λ bytes. Err (faults.Tag p)) from seen
  tag_local = fault_local (faults.Tag p) (λ bytes le. firm from seen p (faults.Tag p) bytes after past near le)

  pub number_local : IsLocal {A = A} (λ bytes. Err (faults.Number p)) from seen
  number_local = fault_local (faults.Number p) (λ bytes le. firm from seen p (faults.Number p) bytes after past near le)

  pub version_local : IsLocal {A = A} (λ bytes. Err (faults.Version p)) from seen
  version_local = fault_local (faults.Version p) (λ bytes le. firm from seen p (faults.Version p) bytes after past near le)

  pub nesting_local : IsLocal {A = A} (λ bytes. Err (faults.Nesting p)) from seen
  nesting_local = fault_local (faults.Nesting p) (λ bytes le. firm from seen p (faults.Nesting p) bytes after past near le)

pub either_local : {A : Type 0} (b : Bool) (x y : List ℕ → Result (Read A) ImageFault) (from seen : ℕ) → IsLocal x from seen → IsLocal y from seen → IsLocal (λ bytes. if b then x bytes else y bytes) from seen
either_local true x y from seen p q = p
either_local false x y from seen p q = q

-- ---- so many bytes

-- the bytes, as what they mean
abbrev pub cut_or : {A : Type 0} → (List ℕ → A) → ℕ → ℕ → List ℕ → Result (Read A) ImageFault
cut_or f p n bytes = if nat_lt (length bytes) (p + n) then Err (faults.Cut (length bytes)) else done (f (take n (drop p bytes))) (p + n)

there : {A : Type 0} (f : List ℕ → A) (p n : ℕ) (bytes : List ℕ) → p + n ≤ length bytes → cut_or f p n bytes ≡ done (f (take n (drop p bytes))) (p + n)
there f p n bytes le = rw (le-ltb (length bytes) (p + n) le) refl

same_piece : (p n : ℕ) (bytes other : List ℕ) → Begins (p + n) bytes other → take n (drop p other) ≡ take n (drop p bytes)
same_piece p n bytes other begins = sym (drop-take p n other) ∙ ap (drop p) begins.same ∙ drop-take p n bytes

pub bytes_local : {A : Type 0} (f : List ℕ → A) (p n from : ℕ) → IsLocal (cut_or f p n) from p
bytes_local {A = A} f p n from = record { ok = λ bytes x le e. ok_by bytes x (nat_lt (length bytes) (p + n)) refl e; fault = λ bytes g le e. fault_by bytes g (nat_lt (length bytes) (p + n)) e }
  where
    ok_by : (bytes : List ℕ) (x : Read A) (b : Bool) → nat_lt (length bytes) (p + n) ≡ b → (if b then Err (faults.Cut (length bytes)) else done (f (take n (drop p bytes))) (p + n)) ≡ Ok x → IsRead (cut_or f p n) p bytes x.next x
    ok_by bytes x true is e = absurd (let z = e in cc)
    ok_by bytes x false is e =
        let made : Read A = record { value = f (take n (drop p bytes)); next = p + n } in
        let same : made ≡ x = (let z = e in cc) in
        subst (λ (z : Read A). IsRead (cut_or f p n) p bytes z.next z) same (record {
          past = omega arith;
          within = ltb-false (length bytes) (p + n) is;
          stays = λ other begins. there f p n other begins.long ∙ ap (λ (t : List ℕ). done (f t) (p + n)) (same_piece p n bytes other begins);
        })

    fault_by : (bytes : List ℕ) (g : ImageFault) (b : Bool) → (if b then Err (faults.Cut (length bytes)) else done (f (take n (drop p bytes))) (p + n)) ≡ Err g → IsTold (cut_or f p n) from p bytes g
    fault_by bytes g true e = let same : faults.Cut (length bytes) ≡ g = (let z = e in cc) in subst (IsTold (cut_or f p n) from p bytes) same refl
    fault_by bytes g false e = absurd (let z = e in cc)

pub number_field : (w : Width) → IsLocalField (number_at w)
number_field w from place le = bytes_local (from_be_bytes w) place (byte_len w) from

-- where a number ends
pub number_ends : (w : Width) (bytes : List ℕ) (place : ℕ) (x : Read ℕ) → number_at w bytes place ≡ Ok x → x.next ≡ place + byte_len w
number_ends w bytes place x e = by (nat_lt (length bytes) (place + byte_len w)) e
  where
    by : (b : Bool) → (if b then Err (faults.Cut (length bytes)) else done (from_be_bytes w (take (byte_len w) (drop place bytes))) (place + byte_len w)) ≡ Ok x → x.next ≡ place + byte_len w
    by true h = absurd (let z = h in cc)
    by false h = let made : Read ℕ = record { value = from_be_bytes w (take (byte_len w) (drop place bytes)); next = place + byte_len w } in let same : made ≡ x = (let z = h in cc) in ap (λ (z : Read ℕ). z.next) (sym same)

-- a number, and what follows it
pub after_number : {B : Type 0} (w : Width) (next : Read ℕ → List ℕ → Result (Read B) ImageFault) (from place : ℕ) → from ≤ place
    → ((x : Read ℕ) → x.next ≡ place + byte_len w → IsLocal (next x) from x.next) → IsLocal (λ bytes. number_at w bytes place >>= λ x. next x bytes) from place
after_number w next from place le rest = bind_local (λ bytes. number_at w bytes place) next from place (number_field w from place le) (λ x bytes past is. rest x (number_ends w bytes place x is))

-- ---- fields that are made of others

-- a field, and what follows it
pub after_field : {A B : Type 0} (one : Reads A) (next : Read A → List ℕ → Result (Read B) ImageFault) (from place : ℕ) → IsLocalField one → from ≤ place
    → ((x : Read A) → place ≤ x.next → IsLocal (next x) from x.next) → IsLocal (λ bytes. one bytes place >>= λ x. next x bytes) from place
after_field one next from place field le rest = bind_local (λ bytes. one bytes place) next from place (field from place le) (λ x bytes past is. rest x past)

pub of_one_field : {A T : Type 0} (one : Reads A) (make : A → T) → IsLocalField one → IsLocalField (of_one one make)
of_one_field {T = T} one make field from place le =
    after_field one (λ a bytes. done (make a.value) a.next) from place field le (λ a past. (let made : Read T = record { value = make a.value; next = a.next } in done_local made from))

pub of_two_field : {A B T : Type 0} (one : Reads A) (two : Reads B) (make : A → B → T) → IsLocalField one → IsLocalField two → IsLocalField (of_two one two make)
of_two_field one two make f g from place le =
    after_field one (λ a bytes. two bytes a.next >>= λ b. done (make a.value b.value) b.next) from place f le
    (λ a past. of_one_field two (make a.value) g from a.next (omega (arith, le, past)))

pub of_three_field : {A B C T : Type 0} (one : Reads A) (two : Reads B) (three : Reads C) (make : A → B → C → T) → IsLocalField one → IsLocalField two → IsLocalField three → IsLocalField (of_three one two three make)
of_three_field one two three make f g h from place le =
    after_field one (λ a bytes. two bytes a.next >>= λ b. three bytes b.next >>= λ c. done (make a.value b.value c.value) c.next) from place f le
    (λ a past. of_two_field two three (make a.value) g h from a.next (omega (arith, le, past)))

pub of_four_field : {A B C D T : Type 0} (one : Reads A) (two : Reads B) (three : Reads C) (four : Reads D) (make : A → B → C → D → T) → IsLocalField one → IsLocalField two → IsLocalField three → IsLocalField four → IsLocalField (of_four one two three four make)
of_four_field one two three four make f g h k from place le =
    after_field one (λ a bytes. two bytes a.next >>= λ b. three bytes b.next >>= λ c. four bytes c.next >>= λ d. done (make a.value b.value c.value d.value) d.next) from place f le
    (λ a past. of_three_field two three four (make a.value) g h k from a.next (omega (arith, le, past)))

-- so many of one field
pub many_local : {A : Type 0} (one : Reads A) → IsLocalField one → (n from place : ℕ) → from ≤ place → IsLocal (λ bytes. many_at (one bytes) n place) from place
unfolding many_at
many_local {A = A} one field zero from place le = let none : Read (List A) = record { value = []; next = place } in done_local none from
many_local {A = A} one field (suc n) from place le =
    after_field one (λ first bytes. many_at (one bytes) n first.next >>= λ others. done (first.value ∷ others.value) others.next) from place field le
    (λ first past. bind_local (λ bytes. many_at (one bytes) n first.next) (λ others bytes. done (first.value ∷ others.value) others.next) from first.next (many_local one field n from first.next (omega (arith, le, past)))
    (λ others bytes more is. (let all : Read (List A) = record { value = first.value ∷ others.value; next = others.next } in done_local all from)))

-- as many as a number says
pub counted_field : {A : Type 0} (w : Width) → 0 < byte_len w → byte_len w ≤ 4 → (least most : ℕ) (one : Reads A) → IsLocalField one → IsLocalField (λ bytes. counted_at (number_at w bytes) least most (one bytes))
counted_field w some few least most one field from place le =
    after_number w (λ count bytes. if nat_lt count.value least || nat_lt most count.value then Err (faults.Number place) else many_at (one bytes) count.value count.next) from place le
    (λ count is. either_local (nat_lt count.value least || nat_lt most count.value) (λ bytes. Err (faults.Number place)) (λ bytes. many_at (one bytes) count.value count.next) from count.next
    (number_local from count.next place le (omega (arith, is, some)) (omega (arith, is, few))) (many_local one field count.value from count.next (omega (arith, is, le))))
