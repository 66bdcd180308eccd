-- The rows of shared names: how they are made, and that they tell what S8 tells.
use Rattle.std.proofs.Common.{◌≡◌, ℕ, zero, suc, ◌+◌, ◌<◌, ◌≤◌, inl, inr, List, [], ◌∷◌, ◌++◌, map, flat_map, length, drop, slice_index_or, refl, sym, ap, ◌∙◌, subst, arith, append_assoc}
use Rattle.std.specs.Borrow.{Bor}
use Rattle.std.proofs.lemmas.List.{append-nil, map-append}
use Rattle.std.proofs.lemmas.List.Elements.{filter-append}
use Rattle.std.specs.Str.{bytes_eq}
use Rattle.som_model.specs.declared.class.Entry.{Entry}
use Rattle.som_model.specs.Lists.{Mem, among, doubles}
use Rattle.som_model.specs.Hierarchy.{Tells}
use Rattle.som_model.specs.Class.{Class, introduced}
use Rattle.som_model.specs.Classes.{hierarchy}
use Rattle.som_model.specs.Rules.{breach}
use Rattle.som_model.proofs.KeyLaws.{exact_keys}
use Rattle.som_model.proofs.NamedLaws.{hierarchy_same}
use Rattle.som_model_laws.proofs.Laws.{among_mem, ancestors_apart}
use Rattle.som_model_laws.proofs.Members.{Apart}
use Rattle.som_order.specs.Names.{texts}
use Rattle.som_verify_classes.specs.Places.{class_of_place, face_at, key_at}
use Rattle.som_verify_classes.specs.Walk.{AreLists}
use Rattle.som_verify_classes.specs.Along.{introduced_at, doubles_breach, s8_at}
use Rattle.som_verify_rules.specs.Shared.{Twice, AreSharedRows, all_introduced, kept, row_names}
use Rattle.som_verify_classes.proofs.ClassTable.{drop_end}
use Rattle.som_verify_classes.proofs.Finding.{mem_place}
use Rattle.som_verify_classes.proofs.PlainLists.{mem_map}
use Rattle.som_verify_rules.proofs.Sharing.{doubles_kept, twice_among}

abbrev names_of : Class → List (List ℕ)
names_of c = introduced c.decl.face.entries

-- one name more
pub kept_one : (shared : List (List ℕ)) (name : List ℕ) (names : List (List ℕ)) → kept shared (name ∷ names) ≡ kept shared (name ∷ []) ++ kept shared names
kept_one shared name names = filter-append (λ n. among n shared) (name ∷ []) names

-- where no name is shared none is kept
pub none_kept : (shared : List (Bor (List ℕ))) (names : List (List ℕ)) → length shared ≡ 0 → [] ≡ kept (texts shared) names
none_kept (s ∷ ss) names e = absurd (cc)
none_kept [] [] e = refl
none_kept [] (n ∷ ns) e = none_kept [] ns e

here_drop : (cs : List Class) (i : ℕ) → i < length cs → drop i cs ≡ class_of_place cs i ∷ drop (i + 1) cs
here_drop [] i lt = absurd (omega arith)
here_drop (c ∷ cs) zero lt = refl
here_drop (c ∷ cs) (suc i) lt = let e : suc i + 1 ≡ suc (i + 1) = omega arith in rw e (here_drop cs i (omega arith))

-- the names of one class more
pub names_grow : (cs : List Class) (i : ℕ) (old new : List (List ℕ)) (es : List Entry) → i < length cs → es ≡ (face_at cs i).entries → new ≡ old ++ introduced es
    → old ++ all_introduced (drop i cs) ≡ all_introduced cs → new ++ all_introduced (drop (i + 1) cs) ≡ all_introduced cs
names_grow cs i old new es lt is grown so =
    ap (λ z. z ++ all_introduced (drop (i + 1) cs)) (grown ∙ ap (λ z. old ++ introduced z) is)
    ∙ append_assoc old (introduced (face_at cs i).entries) (all_introduced (drop (i + 1) cs))
    ∙ ap (λ z. old ++ all_introduced z) (sym (here_drop cs i lt))
    ∙ so

pub names_end : (cs : List Class) (i : ℕ) (names : List (List ℕ)) → length cs ≤ i → names ++ all_introduced (drop i cs) ≡ all_introduced cs → names ≡ all_introduced cs
names_end cs i names le so = sym (append-nil names) ∙ ap (λ z. names ++ all_introduced z) (sym (drop_end cs i le)) ∙ so

-- the row of one class more
module _ (shared : List (List ℕ)) where
  abbrev pub row : Class → List (List ℕ)
  row c = kept shared (introduced c.decl.face.entries)

  pub rows_grow : (cs : List Class) (i : ℕ) (old new : List (List (Bor (List ℕ)))) (r : List (Bor (List ℕ))) (es : List Entry) → i < length cs → es ≡ (face_at cs i).entries → texts r ≡ kept shared (introduced es) → new ≡ old ++ r ∷ []
      → map texts old ++ map row (drop i cs) ≡ map row cs → map texts new ++ map row (drop (i + 1) cs) ≡ map row cs
  rows_grow cs i old new r es lt is made grown so =
      ap (λ z. map texts z ++ map row (drop (i + 1) cs)) grown
      ∙ ap (λ z. z ++ map row (drop (i + 1) cs)) (map-append texts old (r ∷ []))
      ∙ append_assoc (map texts old) (texts r ∷ []) (map row (drop (i + 1) cs))
      ∙ ap (λ z. map texts old ++ z ∷ map row (drop (i + 1) cs)) (made ∙ ap (λ z. kept shared (introduced z)) is)
      ∙ ap (λ z. map texts old ++ map row z) (sym (here_drop cs i lt))
      ∙ so

  pub rows_end : (cs : List Class) (i : ℕ) (rows : List (List (Bor (List ℕ)))) → length cs ≤ i → map texts rows ++ map row (drop i cs) ≡ map row cs → map texts rows ≡ map row cs
  rows_end cs i rows le so = sym (append-nil (map texts rows)) ∙ ap (λ z. map texts rows ++ map row z) (sym (drop_end cs i le)) ∙ so

  row_at : (rows : List (List (Bor (List ℕ)))) (cs : List Class) (i : ℕ) → map texts rows ≡ map row cs → i < length cs → row_names rows i ≡ row (class_of_place cs i)
  row_at [] [] i e lt = absurd (omega arith)
  row_at [] (c ∷ cs) i e lt = absurd (cc)
  row_at (r ∷ rows) [] i e lt = absurd (cc)
  row_at (r ∷ rows) (c ∷ cs) zero e lt = let h : texts r ≡ row c = cc in h
  row_at (r ∷ rows) (c ∷ cs) (suc i) e lt = let h : map texts rows ≡ map row cs = cc in row_at rows cs i h (omega arith)

  rows_long : (rows : List (List (Bor (List ℕ)))) (cs : List Class) → map texts rows ≡ map row cs → length rows ≡ length cs
  rows_long [] [] e = refl
  rows_long [] (c ∷ cs) e = absurd (cc)
  rows_long (r ∷ rows) [] e = absurd (cc)
  rows_long (r ∷ rows) (c ∷ cs) e = let h : map texts rows ≡ map row cs = cc in ap suc (rows_long rows cs h)

pub long_rows : (cs : List Class) (rows : List (List (Bor (List ℕ)))) → AreSharedRows cs rows → length rows ≡ length cs
long_rows cs rows s = rows_long s.shared rows cs s.by

apart_of : {A B : Type 0} (f : A → B) (xs : List A) → Apart (map f xs) → Apart xs
apart_of f [] o = tt
apart_of f (x ∷ xs) o = (λ m. o.0 (mem_map f x xs m), apart_of f xs o.1)

-- the names along a list of places are those of the classes there
along : (cs : List Class) (list : List ℕ) → flat_map names_of (map (class_of_place cs) list) ≡ flat_map (introduced_at cs) list
along cs [] = refl
along cs (a ∷ list) = ap (λ z. introduced_at cs a ++ z) (along cs list)

classes_within : (cs : List Class) (list : List ℕ) → ((a : ℕ) → Mem a list → a < length cs) → (c : Class) → Mem c (map (class_of_place cs) list) → Mem c cs
classes_within cs [] low c m = absurd m
classes_within cs (a ∷ list) low c (inl e) = subst (λ z. Mem z cs) (sym e) (mem_place cs a (low a (inl refl)))
classes_within cs (a ∷ list) low c (inr m) = classes_within cs list (λ b n. low b (inr n)) c m

keys_along : (cs : List Class) (list : List ℕ) → map (λ (c : Class). c.key) (map (class_of_place cs) list) ≡ map (key_at cs) list
keys_along cs [] = refl
keys_along cs (a ∷ list) = ap (λ z. key_at cs a ∷ z) (keys_along cs list)

tells : (cs : List Class) → Tells (hierarchy cs)
tells cs = record { one = λ x. hierarchy_same cs x x ∙ exact_keys.one x; two = λ x y e. exact_keys.two x y (sym (hierarchy_same cs x y) ∙ e) }

-- no names stand along places whose rows have none
pub none_along : (rows : List (List (Bor (List ℕ)))) (list : List ℕ) → ((p : ℕ) → row_names rows p ≡ []) → flat_map (row_names rows) list ≡ []
none_along rows [] none = refl
none_along rows (a ∷ list) none = ap (λ z. z ++ flat_map (row_names rows) list) (none a) ∙ none_along rows list none

module _ (cs : List Class) (all : List (List ℕ)) (lists : AreLists cs all) (rows : List (List (Bor (List ℕ)))) (s : AreSharedRows cs rows) where
  rows_are : (list : List ℕ) → ((a : ℕ) → Mem a list → a < length cs) → flat_map (row_names rows) list ≡ kept s.shared (flat_map (introduced_at cs) list)
  rows_are [] low = refl
  rows_are (a ∷ list) low =
      ap (λ z. z ++ flat_map (row_names rows) list) (row_at s.shared rows cs a s.by (low a (inl refl)))
      ∙ ap (λ z. kept s.shared (introduced_at cs a) ++ z) (rows_are list (λ b m. low b (inr m)))
      ∙ sym (filter-append (λ n. among n s.shared) (introduced_at cs a) (flat_map (introduced_at cs) list))

  -- the shared names tell what all names tell
  pub shared_is : (i : ℕ) (c : Class) → i < length cs → doubles_breach 8 c (flat_map (row_names rows) (slice_index_or all i [])) ≡ s8_at cs (slice_index_or all i []) c
  shared_is i c lt =
      let list = slice_index_or all i [] in
      let there = map (class_of_place cs) list in
      let keys : Apart (map (λ (z : Class). z.key) there) = subst Apart (sym (keys_along cs list ∙ lists.by i lt)) (ancestors_apart (hierarchy cs) (tells cs) (key_at cs i)) in
      let apart : Apart there = apart_of (λ (z : Class). z.key) there keys in
      ap (λ z. map (breach 8 c) (doubles bytes_eq [] z)) (rows_are list (lists.low i))
      ∙ ap (map (breach 8 c)) (doubles_kept (λ n. among n s.shared) [] (flat_map (introduced_at cs) list) (λ n m k. absurd m) (λ n t.
      (among_mem n s.shared).1 (s.twice n (twice_among names_of n there cs apart (classes_within cs list (lists.low i)) (subst (Twice n) (sym (along cs list)) t)))))
