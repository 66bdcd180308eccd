-- The rows of parents.
use Rattle.std.proofs.Common.{◌≡◌, ℕ, zero, suc, ◌+◌, ◌-◌, ◌<◌, ◌≤◌, inl, inr, Bool, true, false, ◌&&◌, if◌then◌else◌, List, [], ◌∷◌, ◌++◌, map, length, take, drop, Option, Some, None, is_some, Ok, Err, slice_index_or, codes, refl, sym, ap, ◌∙◌, subst, arith, length-append}
use Rattle.std.proofs.lemmas.Bool.{cases_lt}
use Rattle.std.proofs.lemmas.List.{get_or_past}
use Rattle.std.proofs.Math.ListN.{get_or-append}
use Rattle.std.proofs.Math.Seq.{get_or-append_seam}
use Rattle.som_model.specs.Lists.{Mem, first, or_else, every, option_list}
use Rattle.som_model.specs.Class.{Class}
use Rattle.som_model.specs.Classes.{class_at}
use Rattle.som_model.specs.Kernel.{kernel}
use Rattle.som_model.specs.Rules.{breach, s2}
use Rattle.som_model.specs.Conforming.{each_after}
use Rattle.som_model.specs.declared.class.ClassFace.{ClassFace}
use Rattle.som_model.specs.declared.key.ClassKey.{ClassKey}
use Rattle.som_model_laws.proofs.Members.{mem_split}
use Rattle.som_verify_classes.specs.declared.types.VerifyFault.{VerifyFault}
use Rattle.som_verify_classes.specs.declared.types.VerifyFault.TheVariants as faults
use Rattle.som_verify_classes.specs.declared.types.Declared.{Declared}
use Rattle.som_verify_classes.specs.Told.{Tells}
use Rattle.som_verify_classes.specs.Modules.{class_of, classes_of}
use Rattle.som_verify_classes.specs.Places.{with_kernel, key_at, face_at, IsRows, Finds}
use Rattle.som_verify_classes.specs.Standing.{all_stand, RowStands, ClassStands, kernel_rows}
use Rattle.som_verify_classes.proofs.DeclaredClasses.{long_map, item_of}
use Rattle.som_verify_classes.proofs.Passes.{tells_first}
use Rattle.som_verify_classes.proofs.Doubled.{take_last}
use Rattle.som_verify_classes.proofs.ClassTable.{front, after_more}
use Rattle.som_verify_classes.proofs.Finding.{known_is}

map_last : {A B : Type 0} (f : A → B) (row : List A) (x : A) → map f (row ++ x ∷ []) ≡ map f row ++ f x ∷ []
map_last f [] x = refl
map_last f (y ∷ ys) x = ap (λ z. f y ∷ z) (map_last f ys x)

every_at : {A : Type 0} (test : A → Bool) (xs : List A) (i : ℕ) (d : A) → i < length xs → every test (drop i xs) ≡ (if test (slice_index_or xs i d) then every test (drop (i + 1) xs) else false)
every_at test [] i d lt = absurd (omega arith)
every_at test (x ∷ xs) zero d lt = refl
every_at test (x ∷ xs) (suc i) d lt = let e : suc i + 1 ≡ suc (i + 1) = omega arith in rw e (every_at test xs i d (omega arith))

-- the row so far
pub record RowSoFar (cs : List Class) (place : ℕ) (parents : List ClassKey) (i : ℕ) (row : List ℕ) : Type 0 where
  pub same : all_stand cs place (drop i parents) ≡ all_stand cs place parents
  pub keys : map (key_at cs) row ≡ take i parents
  pub low : (p : ℕ) → Mem p row → p < place

pub row_next : (cs : List Class) (place : ℕ) (parents : List ClassKey) (i : ℕ) (row : List ℕ) (k : ClassKey) (p : ℕ) → i < length parents → k ≡ slice_index_or parents i k
    → Finds place cs k (Some p) → RowSoFar cs place parents i row → RowSoFar cs place parents (i + 1) (row ++ p ∷ [])
row_next cs place parents i row k p lt is found so =
    let known : is_some (class_at (take place cs) (slice_index_or parents i k)) ≡ true = ap (λ z. is_some (class_at (take place cs) z)) (sym is) ∙ known_is cs k place (Some p) found in
    record {
      same = sym (every_at (λ k. is_some (class_at (take place cs) k)) parents i k lt ∙ ap (λ (b : Bool). if b then all_stand cs place (drop (i + 1) parents) else false) known) ∙ so.same;
      keys = map_last (key_at cs) row p ∙ ap (λ z. z ++ key_at cs p ∷ []) so.keys ∙ ap (λ z. take i parents ++ z ∷ []) (found.2 ∙ is) ∙ sym (take_last parents i k lt);
      low = λ q m. elim (mem_split q row (p ∷ []) m) [
        | inl n ↦ so.low q n
        | inr n ↦ elim n [ inl e ↦ (let u = found.0 in omega (arith, e, u)) | inr z ↦ absurd z ]
      ];
    }

pub row_stops : (cs : List Class) (place : ℕ) (parents : List ClassKey) (i : ℕ) (row : List ℕ) (k : ClassKey) → i < length parents → k ≡ slice_index_or parents i k
    → Finds place cs k None → RowSoFar cs place parents i row → all_stand cs place parents ≡ false
row_stops cs place parents i row k lt is found so =
    let known : is_some (class_at (take place cs) (slice_index_or parents i k)) ≡ false = ap (λ z. is_some (class_at (take place cs) z)) (sym is) ∙ known_is cs k place None found in
    sym so.same ∙ every_at (λ k. is_some (class_at (take place cs) k)) parents i k lt ∙ ap (λ (b : Bool). if b then all_stand cs place (drop (i + 1) parents) else false) known

pub take_whole : {A : Type 0} (xs : List A) (i : ℕ) → length xs ≤ i → take i xs ≡ xs
take_whole [] zero le = refl
take_whole [] (suc i) le = refl
take_whole (x ∷ xs) zero le = absurd (omega arith)
take_whole (x ∷ xs) (suc i) le = ap (λ z. x ∷ z) (take_whole xs i (omega arith))

drop_whole : {A : Type 0} (xs : List A) (i : ℕ) → length xs ≤ i → drop i xs ≡ []
drop_whole [] zero le = refl
drop_whole [] (suc i) le = refl
drop_whole (x ∷ xs) zero le = absurd (omega arith)
drop_whole (x ∷ xs) (suc i) le = drop_whole xs i (omega arith)

pub row_ends : (cs : List Class) (place : ℕ) (parents : List ClassKey) (i : ℕ) (row : List ℕ) → length parents ≤ i → RowSoFar cs place parents i row → RowStands cs place parents (Some row)
row_ends cs place parents i row le so = (
  sym so.same ∙ ap (all_stand cs place) (drop_whole parents i le),
  so.keys ∙ take_whole parents i le,
  so.low,
)

pub meta_stands : (cs : List Class) (place : ℕ) (k : ClassKey) (o : Option ℕ) → Finds place cs k o → is_some o ≡ all_stand cs place (k ∷ [])
meta_stands cs place k o f = sym (known_is cs k place o f) ∙ sym (or_end (is_some (class_at (take place cs) k)))
  where
    or_end : (b : Bool) → (if b then true else false) ≡ b
    or_end true = refl
    or_end false = refl

every_both : {A : Type 0} (test : A → Bool) (xs ys : List A) → every test (xs ++ ys) ≡ (every test xs && every test ys)
every_both test [] ys = refl
every_both test (x ∷ xs) ys = by (test x) (every_both test xs ys)
  where
    by : (b : Bool) → every test (xs ++ ys) ≡ (every test xs && every test ys) → (if b then every test (xs ++ ys) else false) ≡ ((if b then every test xs else false) && every test ys)
    by true e = e
    by false e = refl

stands_with : (cs : List Class) (place : ℕ) (c : Class) (a b : Bool) → all_stand cs place c.decl.face.parents ≡ a → all_stand cs place (option_list c.decl.face.metaclass) ≡ b
    → s2 (take place cs) c ≡ (if a && b then [] else breach 2 c (codes "-") ∷ [])
stands_with cs place c a b e f =
    let both : all_stand cs place (c.decl.face.parents ++ option_list c.decl.face.metaclass) ≡ (a && b) =
    every_both (λ k. is_some (class_at (take place cs) k)) c.decl.face.parents (option_list c.decl.face.metaclass)
    ∙ ap (λ z. z && all_stand cs place (option_list c.decl.face.metaclass)) e ∙ ap (λ z. a && z) f in
    ap (λ (z : Bool). if z then [] else breach 2 c (codes "-") ∷ []) both

pub no_parent : (cs : List Class) (place : ℕ) (c : Class) → all_stand cs place c.decl.face.parents ≡ false → first (s2 (take place cs) c) ≡ Some (breach 2 c (codes "-"))
no_parent cs place c e = ap first (stands_with cs place c false (all_stand cs place (option_list c.decl.face.metaclass)) e refl)

and_false : (a : Bool) → (a && false) ≡ false
and_false true = refl
and_false false = refl

pub no_meta : (cs : List Class) (place : ℕ) (c : Class) → all_stand cs place (option_list c.decl.face.metaclass) ≡ false → first (s2 (take place cs) c) ≡ Some (breach 2 c (codes "-"))
no_meta cs place c f = ap first (stands_with cs place c (all_stand cs place c.decl.face.parents) false refl f
    ∙ ap (λ (z : Bool). if z then [] else breach 2 c (codes "-") ∷ []) (and_false (all_stand cs place c.decl.face.parents)))

pub stands : (cs : List Class) (place : ℕ) (c : Class) → all_stand cs place c.decl.face.parents ≡ true → all_stand cs place (option_list c.decl.face.metaclass) ≡ true
    → first (s2 (take place cs) c) ≡ None
stands cs place c e f = ap first (stands_with cs place c true true e f)

-- all rows so far

pub take_front : (cs : List Class) (i : ℕ) → take (suc (suc (suc (suc i)))) (with_kernel cs) ≡ front kernel cs i
take_front cs i = refl

pub face_there : (cs : List Class) (i : ℕ) (c : Class) → i < length cs → face_at cs i ≡ (slice_index_or cs i c).decl.face
face_there [] i c lt = absurd (omega arith)
face_there (x ∷ cs) zero c lt = refl
face_there (x ∷ cs) (suc i) c lt = face_there cs i c (omega arith)

rows_more : (cs : List Class) (n : ℕ) (rows : List (List ℕ)) (row : List ℕ) → IsRows cs n rows
    → ((p : ℕ) → Mem p row → p < n) → map (key_at cs) row ≡ (face_at cs n).parents → IsRows cs (suc n) (rows ++ row ∷ [])
rows_more cs n rows row so low is = record {
  long = omega (arith, length-append rows (row ∷ []), so.long);
  low = λ k p m. elim (cases_lt k n) [
    | inl lt ↦ (let w : k < length rows = omega (arith, so.long) in so.low k p (rw (get_or-append rows (row ∷ []) [] k w) at m))
    | inr ge ↦ elim (cases_lt n k) [
      | inl over ↦ (let w : length (rows ++ row ∷ []) ≤ k = omega (arith, length-append rows (row ∷ []), so.long) in absurd (rw (get_or_past (rows ++ row ∷ []) k [] w) at m))
      | inr under ↦ (let e : k ≡ length rows = omega (arith, so.long) in
          let at_end = subst (λ (z : ℕ). Mem p (slice_index_or (rows ++ row ∷ []) z [])) e m in
          let lt = low p (rw (get_or-append_seam rows row [] []) at at_end) in omega (arith, lt, ge))
    ]
  ];
  by = λ k lt. elim (cases_lt k n) [
    | inl less ↦ (let w : k < length rows = omega (arith, so.long) in ap (map (key_at cs)) (get_or-append rows (row ∷ []) [] k w) ∙ so.by k less)
    | inr ge ↦ (let e : k ≡ length rows = omega (arith, so.long) in let e2 : k ≡ n = omega arith in
        ap (λ (z : ℕ). map (key_at cs) (slice_index_or (rows ++ row ∷ []) z [])) e ∙ ap (map (key_at cs)) (get_or-append_seam rows row [] []) ∙ is ∙ ap (λ (z : ℕ). (face_at cs z).parents) (sym e2))
  ];
}

pub record RowsSoFar (cs : List Class) (i : ℕ) (rows : List (List ℕ)) : Type 0 where
  pub same : first (each_after s2 (front kernel cs i) (drop i cs)) ≡ first (each_after s2 kernel cs)
  pub table : IsRows (with_kernel cs) (suc (suc (suc (suc i)))) rows

pub kernel_low : (i p : ℕ) → Mem p (slice_index_or kernel_rows i []) → p < i
kernel_low zero p m = absurd m
kernel_low (suc zero) p (inl e) = omega (arith, e)
kernel_low (suc zero) p (inr m) = absurd m
kernel_low (suc (suc zero)) p (inl e) = omega (arith, e)
kernel_low (suc (suc zero)) p (inr m) = absurd m
kernel_low (suc (suc (suc zero))) p (inl e) = omega (arith, e)
kernel_low (suc (suc (suc zero))) p (inr m) = absurd m
kernel_low (suc (suc (suc (suc i)))) p m = absurd m

pub kernel_by : (cs : List Class) (i : ℕ) → i < 4 → map (key_at (with_kernel cs)) (slice_index_or kernel_rows i []) ≡ (face_at (with_kernel cs) i).parents
kernel_by cs zero lt = refl
kernel_by cs (suc zero) lt = refl
kernel_by cs (suc (suc zero)) lt = refl
kernel_by cs (suc (suc (suc zero))) lt = refl
kernel_by cs (suc (suc (suc (suc i)))) lt = absurd (omega arith)

pub rows_start : (cs : List Class) → RowsSoFar cs 0 kernel_rows
rows_start cs = record { same = refl; table = record { long = refl; low = kernel_low; by = kernel_by cs } }

here : (cs : List Class) (i place : ℕ) (c : Class) → place ≡ suc (suc (suc (suc i))) → i < length cs
    → s2 (take place (with_kernel cs)) c ≡ s2 (front kernel cs i) c
here cs i place c e lt = ap (λ z. s2 z c) (ap (λ n. take n (with_kernel cs)) e ∙ take_front cs i)

step : (cs : List Class) (i : ℕ) (c : Class) → i < length cs → c ≡ slice_index_or cs i c
    → first (each_after s2 (front kernel cs i) (drop i cs)) ≡ or_else (first (s2 (front kernel cs i) c)) (first (each_after s2 (front kernel cs (i + 1)) (drop (i + 1) cs)))
step cs i c lt is = after_more s2 kernel cs i c lt ∙ ap (λ (z : Class). or_else (first (s2 (front kernel cs i) z)) (first (each_after s2 (front kernel cs (i + 1)) (drop (i + 1) cs)))) (sym is)

next_rows : (cs : List Class) (i place : ℕ) (rows : List (List ℕ)) (row : List ℕ) (c : Class) → i < length cs → c ≡ slice_index_or cs i c → place ≡ length rows
    → ClassStands (with_kernel cs) place c (Ok row) → RowsSoFar cs i rows → RowsSoFar cs (i + 1) (rows ++ row ∷ [])
next_rows cs i place rows row c lt is at_end tells so =
    let e : place ≡ suc (suc (suc (suc i))) = at_end ∙ so.table.long in
    let none : first (s2 (front kernel cs i) c) ≡ None = ap first (sym (here cs i place c e lt)) ∙ tells.0 in
    let more = rows_more (with_kernel cs) (suc (suc (suc (suc i)))) rows row so.table (λ p m. let l = tells.2 p m in omega (arith, l, e))
    (tells.1 ∙ ap (λ (z : Class). z.decl.face.parents) is ∙ ap (λ (z : _). z.parents) (sym (face_there cs i c lt))) in
    let n : suc (suc (suc (suc (suc i)))) ≡ suc (suc (suc (suc (i + 1)))) = omega arith in
    record {
      same = sym (step cs i c lt is ∙ ap (λ z. or_else z (first (each_after s2 (front kernel cs (i + 1)) (drop (i + 1) cs)))) none) ∙ so.same;
      table = subst (λ z. IsRows (with_kernel cs) z (rows ++ row ∷ [])) n more;
    }

stop_rows : (cs : List Class) (i place : ℕ) (rows : List (List ℕ)) (c : Class) (e : VerifyFault) → i < length cs → c ≡ slice_index_or cs i c → place ≡ length rows
    → ClassStands (with_kernel cs) place c (Err e) → RowsSoFar cs i rows → Tells {A = Unit {0}} (first (each_after s2 kernel cs)) (Err e)
stop_rows cs i place rows c (faults.Rule b) lt is at_end tells so =
    let e : place ≡ suc (suc (suc (suc i))) = at_end ∙ so.table.long in
    tells_first (first (s2 (front kernel cs i) c)) _ _ (faults.Rule b) (ap first (sym (here cs i place c e lt)) ∙ tells) (sym (step cs i c lt is) ∙ so.same)
stop_rows cs i place rows c faults.NoMemory lt is at_end tells so = tt

-- the row of one declared class more, or its breach

pub rows_next : (ds : List Declared) (i place : ℕ) (rows : List (List ℕ)) (row : List ℕ) (d : Declared) → i < length ds → d ≡ slice_index_or ds i d → place ≡ length rows
    → ClassStands (with_kernel (classes_of ds)) place (class_of d) (Ok row) → RowsSoFar (classes_of ds) i rows → RowsSoFar (classes_of ds) (i + 1) (rows ++ row ∷ [])
rows_next ds i place rows row d lt is at_end tells so =
    next_rows (classes_of ds) i place rows row (class_of d) (omega (arith, long_map class_of ds)) (ap class_of is ∙ item_of ds i d lt) at_end tells so

pub rows_stop : (ds : List Declared) (i place : ℕ) (rows : List (List ℕ)) (d : Declared) (e : VerifyFault) → i < length ds → d ≡ slice_index_or ds i d → place ≡ length rows
    → ClassStands (with_kernel (classes_of ds)) place (class_of d) (Err e) → RowsSoFar (classes_of ds) i rows → Tells {A = Unit {0}} (first (each_after s2 kernel (classes_of ds))) (Err e)
rows_stop ds i place rows d e lt is at_end tells so =
    stop_rows (classes_of ds) i place rows (class_of d) e (omega (arith, long_map class_of ds)) (ap class_of is ∙ item_of ds i d lt) at_end tells so

pub rows_end : (ds : List Declared) (i : ℕ) (rows : List (List ℕ)) → i ≡ length ds → RowsSoFar (classes_of ds) i rows → IsRows (with_kernel (classes_of ds)) (length (with_kernel (classes_of ds))) rows
rows_end ds i rows e so =
    subst (λ z. IsRows (with_kernel (classes_of ds)) z rows) (ap (λ n. suc (suc (suc (suc n)))) (e ∙ sym (long_map class_of ds))) so.table

pub rows_told : (ds : List Declared) (i : ℕ) (rows : List (List ℕ)) → length ds ≤ i → RowsSoFar (classes_of ds) i rows → first (each_after s2 kernel (classes_of ds)) ≡ None
rows_told ds i rows le so =
    sym so.same ∙ ap (λ z. first (each_after s2 (front kernel (classes_of ds) i) z)) (drop_whole (classes_of ds) i (omega (arith, long_map class_of ds)))

-- the entries of a declared class
pub entries_there : (ds : List Declared) (p : ℕ) (d : Declared) → 4 ≤ p → p < length (with_kernel (classes_of ds)) → (slice_index_or ds (p - 4) d).decl.now.face.entries ≡ (face_at (with_kernel (classes_of ds)) p).entries
entries_there ds p d le lt =
    let cs = classes_of ds in
    let e : p ≡ suc (suc (suc (suc (p - 4)))) = omega (arith, le) in
    let own : p - 4 < length ds = omega (arith, le, lt, long_map class_of ds) in
    let within : p - 4 < length cs = omega (arith, le, lt) in
    ap (λ (c : Class). c.decl.face.entries) (item_of ds (p - 4) d own)
    ∙ ap (λ (z : ClassFace). z.entries) (sym (face_there cs (p - 4) (class_of d) within))
    ∙ ap (λ z. (face_at (with_kernel cs) z).entries) (sym e)
