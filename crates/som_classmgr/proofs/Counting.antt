-- As many classes are made as there are keys of made ones.
use Rattle.std.proofs.Common.{◌≡◌, ℕ, zero, suc, ◌+◌, ◌<◌, Bool, true, false, cond, List, [], ◌∷◌, length, get_or, slice_index_or, count_by, refl, sym, ap, ◌∙◌, arith, true≢false}
use Rattle.std.proofs.lemmas.List.Sums.{sum_by-cons}
use Rattle.som_model.specs.Kernel.{som_object}
use Rattle.som_class_table.specs.Loaded.{AreLoaded}
use Rattle.som_class_kernel.specs.Linked.{IsLinked, Linkage}
use Rattle.som_classmgr.specs.Asking.{is_made}
use Rattle.som_classmgr.proofs.Asking.{made_number, made_there}

both_ways : (a b : Bool) → (a ≡ true → b ≡ true) → (b ≡ true → a ≡ true) → a ≡ b
both_ways true b f g = sym (f refl)
both_ways false true f g = absurd (true≢false (sym (g refl)))
both_ways false false f g = refl

-- where the test of each thing is the mark at its place, as many marks are set as things pass it
as_many : {A : Type 0} (f : A → Bool) (d : A) (xs : List A) (ms : List Bool) → length ms ≡ length xs → ((n : ℕ) → n < length xs → slice_index_or ms n false ≡ f (get_or xs n d)) → count_by (λ m. m) ms ≡ count_by f xs
as_many f d [] [] e h = refl
as_many f d [] (m ∷ ms) e h = absurd (omega (arith, e))
as_many f d (x ∷ xs) [] e h = absurd (omega (arith, e))
as_many f d (x ∷ xs) (m ∷ ms) e h =
    let rest = as_many f d xs ms (omega (arith, e)) (λ n lt. h (suc n) (omega (arith, lt))) in
    sum_by-cons (λ b. cond b 1 0) m ms ∙ ap (λ b. cond b 1 0 + count_by (λ z. z) ms) (h 0 (omega arith)) ∙ ap (λ n. cond (f x) 1 0 + n) rest ∙ sym (sum_by-cons (λ z. cond (f z) 1 0) x xs)

pub made_counted : (l : Linkage) → IsLinked l → AreLoaded l.classes → count_by (λ m. m) l.parts.made ≡ count_by (is_made l.classes.keys l.parts.made) l.classes.keys
made_counted l linked loaded =
    as_many (is_made l.classes.keys l.parts.made) som_object l.classes.keys l.parts.made linked.are.marks
    (λ n lt. both_ways (slice_index_or l.parts.made n false) (is_made l.classes.keys l.parts.made (get_or l.classes.keys n som_object)) (made_there l.classes.keys l.parts.made n lt) (made_number l linked loaded n lt))
