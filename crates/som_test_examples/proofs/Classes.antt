-- What the definitions say of each class of the sample.
use Rattle.std.proofs.Common.{◌≡◌, ◌≢◌, ℕ, zero, suc, ◌<◌, inl, inr, nat_eq, nat_lt, Bool, true, false, if◌then◌else◌, List, [], ◌∷◌, ◌++◌, length, map, get_or, None, unwrap_or, codes, refl, sym, ap, ◌∙◌, subst, arith, true≢false}
use Rattle.std.specs.Str.{bytes_eq}
use Rattle.std.specs.List.{All}
use Rattle.std.proofs.lemmas.List.{append-nil}
use Rattle.std.proofs.lemmas.List.Elements.{All-cons, All-head, All-nil, All-tail}
use Rattle.std.proofs.lemmas.Bool.{cases_eq, eq-eqb, ne_eqb, ltb-true}
use Rattle.som_model.specs.declared.key.Module.{Module}
use Rattle.som_model.specs.declared.key.ClassKey.{ClassKey, out-ClassKey, out-roll-ClassKey, fold-roll-ClassKey}
use Rattle.som_model.specs.declared.key.ClassKey.TheVariants as keys
use Rattle.som_model.specs.declared.key.ClassKey.TheVariants.{rolls-Named, rolls-Derived}
use Rattle.som_model.specs.declared.key.ClassKey.TheOpen.{ClassKey-F}
use Rattle.som_model.specs.declared.key.MethodRef.{MethodRef}
use Rattle.som_model.specs.Hierarchy.{Hierarchy}
use Rattle.som_model.specs.Ancestors.{anc_within}
use Rattle.som_model.specs.Lists.{every, firsts, joined, place_from, some, without}
use Rattle.som_model.specs.Keys.{same_key, same_step}
use Rattle.som_model.specs.Class.{Class}
use Rattle.som_model.specs.Classes.{ancestors, greatest, height_step, hierarchy, is_a, parents_by, parents_of}
use Rattle.som_model.specs.Implementation.{has_body, held, held_by, is_kernel, is_kernel_layer}
use Rattle.som_model.specs.Kernel.{after_method, before_after, before_method, som_class, som_object}
use Rattle.som_model.proofs.KeyLaws.{exact_keys}
use Rattle.som_model.proofs.NamedLaws.{out_named, same_named, height_named, hierarchy_parents, parents_named, held_named, kernel_named}
use Rattle.som_tables.specs.Rows.{same_token}
use Rattle.som_meta.specs.Numbering.{AreApart, IsToken, key_at, method_at, names_of, tokens_of}
use Rattle.som_meta.proofs.Plans.{firsts-all}
use Rattle.som_test_examples.specs.Sample.{ancestor_rows, body_rows, both, classes, first_meta, left, library_method, lower, lower_too, lowest, right, sample, second_meta, token_rows}

-- the class that is made of others

pub out_derived : (ks : List ClassKey) → out-ClassKey (keys.Derived ks) ≡ ClassKey-F.Derived ks
out_derived ks = ap out-ClassKey (sym (rolls-Derived ks)) ∙ out-roll-ClassKey (ClassKey-F.Derived ks)

parents_derived : (cs : List Class) (ks : List ClassKey) → parents_of cs (keys.Derived ks) ≡ ks
parents_derived cs ks = ap (λ (layer : ClassKey-F ClassKey). parents_by cs layer (keys.Derived ks)) (out_derived ks)

height_derived : (cs : List Class) (ks : List ClassKey) → (hierarchy cs).height (keys.Derived ks) ≡ suc (greatest (map (hierarchy cs).height ks))
unfolding hierarchy
height_derived cs ks = ap (hierarchy cs).height (sym (rolls-Derived ks)) ∙ fold-roll-ClassKey ℕ (height_step cs) (ClassKey-F.Derived ks) ∙ omega arith

pub same_to_derived : (m : Module) (name : List ℕ) (ks : List ClassKey) → same_key (keys.Named m name) (keys.Derived ks) ≡ false
same_to_derived m name ks =
    ap (λ (f : ClassKey → Bool). f (keys.Derived ks)) (ap same_key (sym (rolls-Named m name)) ∙ fold-roll-ClassKey (ClassKey → Bool) (λ z k. same_step z (out-ClassKey k)) (ClassKey-F.Named m name))
    ∙ ap (same_step (ClassKey-F.Named m name)) (out_derived ks)

pub same_from_derived : (m : Module) (name : List ℕ) (ks : List ClassKey) → same_key (keys.Derived ks) (keys.Named m name) ≡ false
same_from_derived m name ks =
    ap (λ (f : ClassKey → Bool). f (keys.Named m name)) (ap same_key (sym (rolls-Derived ks)) ∙ fold-roll-ClassKey (ClassKey → Bool) (λ z k. same_step z (out-ClassKey k)) (ClassKey-F.Derived ks))
    ∙ ap (same_step (ClassKey-F.Derived (map same_key ks))) (out_named m name)

pub kernel_derived : (ks : List ClassKey) → is_kernel (keys.Derived ks) ≡ false
kernel_derived ks = ap is_kernel_layer (out_derived ks)

pub held_derived : (cs : List Class) (ks : List ClassKey) (r : MethodRef) → held cs (keys.Derived ks) r ≡ None
held_derived cs ks r = ap (λ (layer : ClassKey-F ClassKey). held_by cs layer (keys.Derived ks) r) (out_derived ks)

-- no two numbers stand for one class

abbrev names : List (List ℕ)
names = codes "SOMObject" ∷ codes "SOMClass" ∷ codes "SOMMBeforeAfter" ∷ codes "F" ∷ codes "S" ∷ codes "X" ∷ codes "Y" ∷ codes "D" ∷ codes "E" ∷ codes "G" ∷ []

abbrev number_in : ClassKey-F ClassKey → ℕ
number_in (ClassKey-F.Named m name) = unwrap_or (place_from 0 (bytes_eq name) names) 11
number_in (ClassKey-F.Derived ks) = 10
number_in (ClassKey-F.Proxy k) = 11

numbered : (n : ℕ) → n < 11 → number_in (out-ClassKey (key_at sample n)) ≡ n
numbered zero lt = simp out_named
numbered (suc zero) lt = simp out_named
numbered (suc (suc zero)) lt = simp out_named
numbered (suc (suc (suc zero))) lt = simp out_named
numbered (suc (suc (suc (suc zero)))) lt = simp out_named
numbered (suc (suc (suc (suc (suc zero))))) lt = simp out_named
numbered (suc (suc (suc (suc (suc (suc zero)))))) lt = simp out_named
numbered (suc (suc (suc (suc (suc (suc (suc zero))))))) lt = simp out_named
numbered (suc (suc (suc (suc (suc (suc (suc (suc zero)))))))) lt = simp out_named
numbered (suc (suc (suc (suc (suc (suc (suc (suc (suc zero))))))))) lt = simp out_named
numbered (suc (suc (suc (suc (suc (suc (suc (suc (suc (suc zero)))))))))) lt = simp out_derived
numbered (suc (suc (suc (suc (suc (suc (suc (suc (suc (suc (suc n))))))))))) lt = absurd (omega arith)

pub apart : AreApart sample
apart m n a b e = sym (numbered m a) ∙ ap (λ k. number_in (out-ClassKey k)) e ∙ numbered n b

not_same : (a n : ℕ) (b : Bool) → a < 11 → n < 11 → same_key (key_at sample a) (key_at sample n) ≡ b → a ≢ n → b ≡ false
not_same a n true la ln e ne = absurd (ne (apart a n la ln (exact_keys.two (key_at sample a) (key_at sample n) e)))
not_same a n false la ln e ne = refl

same_as : (a n : ℕ) → a < 11 → n < 11 → nat_eq a n ≡ same_key (key_at sample a) (key_at sample n)
same_as a n la ln = elim (cases_eq a n) [
  | inl e ↦ eq-eqb a n e ∙ sym (subst (λ i. same_key (key_at sample a) (key_at sample i) ≡ true) e (exact_keys.one (key_at sample a)))
  | inr ne ↦ ne_eqb a n ne ∙ sym (not_same a n (same_key (key_at sample a) (key_at sample n)) la ln refl ne)
]

-- the ancestors of each class

abbrev all : Hierarchy ClassKey
all = hierarchy classes

one_parent : (k p : ClassKey) (n : ℕ) (up : List ClassKey) → all.parents k ≡ p ∷ [] → anc_within all n p ≡ up → anc_within all (suc n) k ≡ firsts all.same (k ∷ up)
one_parent k p n up parents above =
    ap (λ ps. firsts all.same (k ∷ joined (map (anc_within all n) ps))) parents ∙ ap (λ l. firsts all.same (k ∷ (l ++ []))) above ∙ ap (λ l. firsts all.same (k ∷ l)) (append-nil up)

two_parents : (k p q : ClassKey) (n : ℕ) (up too : List ClassKey) → all.parents k ≡ p ∷ q ∷ [] → anc_within all n p ≡ up → anc_within all n q ≡ too → anc_within all (suc n) k ≡ firsts all.same (k ∷ (up ++ too))
two_parents k p q n up too parents above beside =
    ap (λ ps. firsts all.same (k ∷ joined (map (anc_within all n) ps))) parents ∙ ap (λ l. firsts all.same (k ∷ (l ++ (anc_within all n q ++ [])))) above
    ∙ ap (λ l. firsts all.same (k ∷ (up ++ (l ++ [])))) beside ∙ ap (λ l. firsts all.same (k ∷ (up ++ l))) (append-nil too)

step_without : (b c : Bool) (m : ℕ) (rest : List ℕ) (kept : List ClassKey) → b ≡ c → map (key_at sample) rest ≡ kept → map (key_at sample) (if b then rest else m ∷ rest) ≡ (if c then kept else key_at sample m ∷ kept)
step_without true true m rest kept e is = is
step_without false false m rest kept e is = ap (λ l. key_at sample m ∷ l) is
step_without true false m rest kept e is = absurd (true≢false e)
step_without false true m rest kept e is = absurd (true≢false (sym e))

without_keys : (n : ℕ) → n < 11 → (ms : List ℕ) → All (λ i. i < 11) ms → map (key_at sample) (without (nat_eq n) ms) ≡ without (same_key (key_at sample n)) (map (key_at sample) ms)
without_keys n ln [] every_one = refl
without_keys n ln (m ∷ ms) every_one =
    step_without (nat_eq n m) (same_key (key_at sample n) (key_at sample m)) m (without (nat_eq n) ms) (without (same_key (key_at sample n)) (map (key_at sample) ms))
    (same_as n m ln (All-head (λ i. i < 11) m ms every_one)) (without_keys n ln ms (All-tail (λ i. i < 11) m ms every_one))

firsts_keys : (ns : List ℕ) → All (λ i. i < 11) ns → map (key_at sample) (firsts nat_eq ns) ≡ firsts same_key (map (key_at sample) ns)
firsts_keys [] every_one = refl
firsts_keys (n ∷ ns) every_one =
    let rest = All-tail (λ i. i < 11) n ns every_one in
    ap (λ l. key_at sample n ∷ l) (without_keys n (All-head (λ i. i < 11) n ns every_one) (firsts nat_eq ns) (firsts-all (λ i. i < 11) ns rest) ∙ ap (without (same_key (key_at sample n))) (firsts_keys ns rest))

all_below : (n : ℕ) (ns : List ℕ) (b : Bool) → nat_lt n 11 ≡ b → (if b then every (λ i. nat_lt i 11) ns else false) ≡ true → (every (λ i. nat_lt i 11) ns ≡ true → All (λ i. i < 11) ns) → All (λ i. i < 11) (n ∷ ns)
all_below n ns true e all rest = All-cons (λ i. i < 11) n ns (ltb-true n 11 e) (rest all)
all_below n ns false e all rest = absurd (true≢false (sym all))

below_all : (ns : List ℕ) → every (λ i. nat_lt i 11) ns ≡ true → All (λ i. i < 11) ns
below_all [] e = All-nil (λ i. i < 11)
below_all (n ∷ ns) e = all_below n ns (nat_lt n 11) refl e (below_all ns)

-- first occurrences by number
told : (ns row : List ℕ) → every (λ i. nat_lt i 11) ns ≡ true → firsts nat_eq ns ≡ row → firsts all.same (map (key_at sample) ns) ≡ map (key_at sample) row
unfolding hierarchy
told ns row in_sample are = sym (firsts_keys ns (below_all ns in_sample)) ∙ ap (map (key_at sample)) are

object_levels : (n : ℕ) → anc_within all n som_object ≡ som_object ∷ []
object_levels zero = refl
object_levels (suc n) = simp (hierarchy_parents, parents_named, same_named)

class_parents : all.parents som_class ≡ som_object ∷ []
class_parents = simp (hierarchy_parents, parents_named, same_named)

class_levels : (n : ℕ) → anc_within all (suc n) som_class ≡ map (key_at sample) (1 ∷ 0 ∷ [])
class_levels n = one_parent som_class som_object n (map (key_at sample) (0 ∷ [])) class_parents (object_levels n) ∙ told (1 ∷ 0 ∷ []) (1 ∷ 0 ∷ []) refl refl

base_parents : all.parents before_after ≡ som_class ∷ []
base_parents = simp (hierarchy_parents, parents_named, same_named)

base_levels : (n : ℕ) → anc_within all (suc (suc n)) before_after ≡ map (key_at sample) (2 ∷ 1 ∷ 0 ∷ [])
base_levels n = one_parent before_after som_class (suc n) (map (key_at sample) (1 ∷ 0 ∷ [])) base_parents (class_levels n) ∙ told (2 ∷ 1 ∷ 0 ∷ []) (2 ∷ 1 ∷ 0 ∷ []) refl refl

first_parents : all.parents first_meta ≡ before_after ∷ []
first_parents = simp (hierarchy_parents, parents_named, same_named)

first_levels : (n : ℕ) → anc_within all (suc (suc (suc n))) first_meta ≡ map (key_at sample) (3 ∷ 2 ∷ 1 ∷ 0 ∷ [])
first_levels n = one_parent first_meta before_after (suc (suc n)) (map (key_at sample) (2 ∷ 1 ∷ 0 ∷ [])) first_parents (base_levels n) ∙ told (3 ∷ 2 ∷ 1 ∷ 0 ∷ []) (3 ∷ 2 ∷ 1 ∷ 0 ∷ []) refl refl

second_parents : all.parents second_meta ≡ before_after ∷ []
second_parents = simp (hierarchy_parents, parents_named, same_named)

second_levels : (n : ℕ) → anc_within all (suc (suc (suc n))) second_meta ≡ map (key_at sample) (4 ∷ 2 ∷ 1 ∷ 0 ∷ [])
second_levels n = one_parent second_meta before_after (suc (suc n)) (map (key_at sample) (2 ∷ 1 ∷ 0 ∷ [])) second_parents (base_levels n) ∙ told (4 ∷ 2 ∷ 1 ∷ 0 ∷ []) (4 ∷ 2 ∷ 1 ∷ 0 ∷ []) refl refl

both_parents : all.parents both ≡ first_meta ∷ second_meta ∷ []
both_parents = simp (hierarchy_parents, parents_derived)

both_levels : (n : ℕ) → anc_within all (suc (suc (suc (suc n)))) both ≡ map (key_at sample) (10 ∷ 3 ∷ 2 ∷ 1 ∷ 0 ∷ 4 ∷ [])
both_levels n = two_parents both first_meta second_meta (suc (suc (suc n))) (map (key_at sample) (3 ∷ 2 ∷ 1 ∷ 0 ∷ [])) (map (key_at sample) (4 ∷ 2 ∷ 1 ∷ 0 ∷ [])) both_parents (first_levels n) (second_levels n) ∙ told (10 ∷ 3 ∷ 2 ∷ 1 ∷ 0 ∷ 4 ∷ 2 ∷ 1 ∷ 0 ∷ []) (10 ∷ 3 ∷ 2 ∷ 1 ∷ 0 ∷ 4 ∷ []) refl refl

left_parents : all.parents left ≡ som_object ∷ []
left_parents = simp (hierarchy_parents, parents_named, same_named)

left_levels : (n : ℕ) → anc_within all (suc n) left ≡ map (key_at sample) (5 ∷ 0 ∷ [])
left_levels n = one_parent left som_object n (map (key_at sample) (0 ∷ [])) left_parents (object_levels n) ∙ told (5 ∷ 0 ∷ []) (5 ∷ 0 ∷ []) refl refl

right_parents : all.parents right ≡ som_object ∷ []
right_parents = simp (hierarchy_parents, parents_named, same_named)

right_levels : (n : ℕ) → anc_within all (suc n) right ≡ map (key_at sample) (6 ∷ 0 ∷ [])
right_levels n = one_parent right som_object n (map (key_at sample) (0 ∷ [])) right_parents (object_levels n) ∙ told (6 ∷ 0 ∷ []) (6 ∷ 0 ∷ []) refl refl

lower_parents : all.parents lower ≡ left ∷ right ∷ []
lower_parents = simp (hierarchy_parents, parents_named, same_named)

lower_levels : (n : ℕ) → anc_within all (suc (suc n)) lower ≡ map (key_at sample) (7 ∷ 5 ∷ 0 ∷ 6 ∷ [])
lower_levels n = two_parents lower left right (suc n) (map (key_at sample) (5 ∷ 0 ∷ [])) (map (key_at sample) (6 ∷ 0 ∷ [])) lower_parents (left_levels n) (right_levels n) ∙ told (7 ∷ 5 ∷ 0 ∷ 6 ∷ 0 ∷ []) (7 ∷ 5 ∷ 0 ∷ 6 ∷ []) refl refl

lower_too_parents : all.parents lower_too ≡ left ∷ right ∷ []
lower_too_parents = simp (hierarchy_parents, parents_named, same_named)

lower_too_levels : (n : ℕ) → anc_within all (suc (suc n)) lower_too ≡ map (key_at sample) (8 ∷ 5 ∷ 0 ∷ 6 ∷ [])
lower_too_levels n = two_parents lower_too left right (suc n) (map (key_at sample) (5 ∷ 0 ∷ [])) (map (key_at sample) (6 ∷ 0 ∷ [])) lower_too_parents (left_levels n) (right_levels n) ∙ told (8 ∷ 5 ∷ 0 ∷ 6 ∷ 0 ∷ []) (8 ∷ 5 ∷ 0 ∷ 6 ∷ []) refl refl

lowest_parents : all.parents lowest ≡ lower ∷ lower_too ∷ []
lowest_parents = simp (hierarchy_parents, parents_named, same_named)

lowest_levels : (n : ℕ) → anc_within all (suc (suc (suc n))) lowest ≡ map (key_at sample) (9 ∷ 7 ∷ 5 ∷ 0 ∷ 6 ∷ 8 ∷ [])
lowest_levels n = two_parents lowest lower lower_too (suc (suc n)) (map (key_at sample) (7 ∷ 5 ∷ 0 ∷ 6 ∷ [])) (map (key_at sample) (8 ∷ 5 ∷ 0 ∷ 6 ∷ [])) lowest_parents (lower_levels n) (lower_too_levels n) ∙ told (9 ∷ 7 ∷ 5 ∷ 0 ∷ 6 ∷ 8 ∷ 5 ∷ 0 ∷ 6 ∷ []) (9 ∷ 7 ∷ 5 ∷ 0 ∷ 6 ∷ 8 ∷ []) refl refl

-- a class is as high as its place, counted from one
height_0 : all.height som_object ≡ 1
height_0 = simp (height_named, same_named)

height_1 : all.height som_class ≡ 2
height_1 = simp (height_named, same_named)

height_2 : all.height before_after ≡ 3
height_2 = simp (height_named, same_named)

height_3 : all.height first_meta ≡ 4
height_3 = simp (height_named, same_named)

height_4 : all.height second_meta ≡ 5
height_4 = simp (height_named, same_named)

height_5 : all.height left ≡ 6
height_5 = simp (height_named, same_named)

height_6 : all.height right ≡ 7
height_6 = simp (height_named, same_named)

height_7 : all.height lower ≡ 8
height_7 = simp (height_named, same_named)

height_8 : all.height lower_too ≡ 9
height_8 = simp (height_named, same_named)

height_9 : all.height lowest ≡ 10
height_9 = simp (height_named, same_named)

height_10 : all.height both ≡ 6
height_10 = simp (height_derived, height_named, same_named)

pub above : (n : ℕ) → n < 11 → map (key_at sample) (get_or ancestor_rows n []) ≡ ancestors classes (key_at sample n)
above zero lt = sym (ap (λ i. anc_within all i som_object) height_0 ∙ object_levels 1)
above (suc zero) lt = sym (ap (λ i. anc_within all i som_class) height_1 ∙ class_levels 1)
above (suc (suc zero)) lt = sym (ap (λ i. anc_within all i before_after) height_2 ∙ base_levels 1)
above (suc (suc (suc zero))) lt = sym (ap (λ i. anc_within all i first_meta) height_3 ∙ first_levels 1)
above (suc (suc (suc (suc zero)))) lt = sym (ap (λ i. anc_within all i second_meta) height_4 ∙ second_levels 2)
above (suc (suc (suc (suc (suc zero))))) lt = sym (ap (λ i. anc_within all i left) height_5 ∙ left_levels 5)
above (suc (suc (suc (suc (suc (suc zero)))))) lt = sym (ap (λ i. anc_within all i right) height_6 ∙ right_levels 6)
above (suc (suc (suc (suc (suc (suc (suc zero))))))) lt = sym (ap (λ i. anc_within all i lower) height_7 ∙ lower_levels 6)
above (suc (suc (suc (suc (suc (suc (suc (suc zero)))))))) lt = sym (ap (λ i. anc_within all i lower_too) height_8 ∙ lower_too_levels 7)
above (suc (suc (suc (suc (suc (suc (suc (suc (suc zero))))))))) lt = sym (ap (λ i. anc_within all i lowest) height_9 ∙ lowest_levels 7)
above (suc (suc (suc (suc (suc (suc (suc (suc (suc (suc zero)))))))))) lt = sym (ap (λ i. anc_within all i both) height_10 ∙ both_levels 2)
above (suc (suc (suc (suc (suc (suc (suc (suc (suc (suc (suc n))))))))))) lt = absurd (omega arith)

within : (n : ℕ) → n < 11 → every (λ i. nat_lt i 11) (get_or ancestor_rows n []) ≡ true
within zero lt = refl
within (suc zero) lt = refl
within (suc (suc zero)) lt = refl
within (suc (suc (suc zero))) lt = refl
within (suc (suc (suc (suc zero)))) lt = refl
within (suc (suc (suc (suc (suc zero))))) lt = refl
within (suc (suc (suc (suc (suc (suc zero)))))) lt = refl
within (suc (suc (suc (suc (suc (suc (suc zero))))))) lt = refl
within (suc (suc (suc (suc (suc (suc (suc (suc zero)))))))) lt = refl
within (suc (suc (suc (suc (suc (suc (suc (suc (suc zero))))))))) lt = refl
within (suc (suc (suc (suc (suc (suc (suc (suc (suc (suc zero)))))))))) lt = refl
within (suc (suc (suc (suc (suc (suc (suc (suc (suc (suc (suc n))))))))))) lt = absurd (omega arith)

-- what each class introduces

count_0 : length (names_of sample 0) ≡ 0
count_0 = simp (same_named, same_to_derived)

count_1 : length (names_of sample 1) ≡ 0
count_1 = simp (same_named, same_to_derived)

count_2 : length (names_of sample 2) ≡ 2
count_2 = simp (same_named, same_to_derived)

count_3 : length (names_of sample 3) ≡ 0
count_3 = simp (same_named, same_to_derived)

count_4 : length (names_of sample 4) ≡ 0
count_4 = simp (same_named, same_to_derived)

count_5 : length (names_of sample 5) ≡ 1
count_5 = simp (same_named, same_to_derived)

count_6 : length (names_of sample 6) ≡ 1
count_6 = simp (same_named, same_to_derived)

count_7 : length (names_of sample 7) ≡ 0
count_7 = simp (same_named, same_to_derived)

count_8 : length (names_of sample 8) ≡ 1
count_8 = simp (same_named, same_to_derived)

count_9 : length (names_of sample 9) ≡ 0
count_9 = simp (same_named, same_to_derived)

count_10 : length (names_of sample 10) ≡ 0
count_10 = simp (same_named, same_to_derived)

pub tokens_are : (n : ℕ) → n < 11 → get_or token_rows n [] ≡ tokens_of sample n
tokens_are zero lt = rw count_0 refl
tokens_are (suc zero) lt = rw count_1 refl
tokens_are (suc (suc zero)) lt = rw count_2 refl
tokens_are (suc (suc (suc zero))) lt = rw count_3 refl
tokens_are (suc (suc (suc (suc zero)))) lt = rw count_4 refl
tokens_are (suc (suc (suc (suc (suc zero))))) lt = rw count_5 refl
tokens_are (suc (suc (suc (suc (suc (suc zero)))))) lt = rw count_6 refl
tokens_are (suc (suc (suc (suc (suc (suc (suc zero))))))) lt = rw count_7 refl
tokens_are (suc (suc (suc (suc (suc (suc (suc (suc zero)))))))) lt = rw count_8 refl
tokens_are (suc (suc (suc (suc (suc (suc (suc (suc (suc zero))))))))) lt = rw count_9 refl
tokens_are (suc (suc (suc (suc (suc (suc (suc (suc (suc (suc zero)))))))))) lt = rw count_10 refl
tokens_are (suc (suc (suc (suc (suc (suc (suc (suc (suc (suc (suc n))))))))))) lt = absurd (omega arith)

pub two_methods : length (names_of sample 2) ≡ 2
two_methods = count_2

pub method_2_0 : method_at sample (2, 0) ≡ before_method
method_2_0 = simp same_named

pub method_2_1 : method_at sample (2, 1) ≡ after_method
method_2_1 = simp same_named

pub method_5_0 : method_at sample (5, 0) ≡ library_method left (codes "f")
method_5_0 = simp same_named

pub method_6_0 : method_at sample (6, 0) ≡ library_method right (codes "g")
method_6_0 = simp same_named

pub method_8_0 : method_at sample (8, 0) ≡ library_method lower_too (codes "h")
method_8_0 = simp same_named

-- a token is one of five
token_by : (Of : ℕ × ℕ → Type 0) → Of (2, 0) → Of (2, 1) → Of (5, 0) → Of (6, 0) → Of (8, 0) → (t : ℕ × ℕ) → IsToken sample t → Of t
token_by Of p20 p21 p50 p60 p80 (zero, p) (lt, in_names) = absurd (omega (arith, in_names, count_0))
token_by Of p20 p21 p50 p60 p80 ((suc zero), p) (lt, in_names) = absurd (omega (arith, in_names, count_1))
token_by Of p20 p21 p50 p60 p80 ((suc (suc zero)), zero) (lt, in_names) = p20
token_by Of p20 p21 p50 p60 p80 ((suc (suc zero)), (suc zero)) (lt, in_names) = p21
token_by Of p20 p21 p50 p60 p80 ((suc (suc zero)), suc (suc p)) (lt, in_names) = absurd (omega (arith, in_names, count_2))
token_by Of p20 p21 p50 p60 p80 ((suc (suc (suc zero))), p) (lt, in_names) = absurd (omega (arith, in_names, count_3))
token_by Of p20 p21 p50 p60 p80 ((suc (suc (suc (suc zero)))), p) (lt, in_names) = absurd (omega (arith, in_names, count_4))
token_by Of p20 p21 p50 p60 p80 ((suc (suc (suc (suc (suc zero))))), zero) (lt, in_names) = p50
token_by Of p20 p21 p50 p60 p80 ((suc (suc (suc (suc (suc zero))))), suc p) (lt, in_names) = absurd (omega (arith, in_names, count_5))
token_by Of p20 p21 p50 p60 p80 ((suc (suc (suc (suc (suc (suc zero)))))), zero) (lt, in_names) = p60
token_by Of p20 p21 p50 p60 p80 ((suc (suc (suc (suc (suc (suc zero)))))), suc p) (lt, in_names) = absurd (omega (arith, in_names, count_6))
token_by Of p20 p21 p50 p60 p80 ((suc (suc (suc (suc (suc (suc (suc zero))))))), p) (lt, in_names) = absurd (omega (arith, in_names, count_7))
token_by Of p20 p21 p50 p60 p80 ((suc (suc (suc (suc (suc (suc (suc (suc zero)))))))), zero) (lt, in_names) = p80
token_by Of p20 p21 p50 p60 p80 ((suc (suc (suc (suc (suc (suc (suc (suc zero)))))))), suc p) (lt, in_names) = absurd (omega (arith, in_names, count_8))
token_by Of p20 p21 p50 p60 p80 ((suc (suc (suc (suc (suc (suc (suc (suc (suc zero))))))))), p) (lt, in_names) = absurd (omega (arith, in_names, count_9))
token_by Of p20 p21 p50 p60 p80 ((suc (suc (suc (suc (suc (suc (suc (suc (suc (suc zero)))))))))), p) (lt, in_names) = absurd (omega (arith, in_names, count_10))
token_by Of p20 p21 p50 p60 p80 ((suc (suc (suc (suc (suc (suc (suc (suc (suc (suc (suc n))))))))))), p) (lt, in_names) = absurd (omega arith)

-- the bodies of each class

abbrev HasThese : ℕ → ℕ × ℕ → Type 0
HasThese n t = some (same_token t) (get_or body_rows n []) ≡ has_body classes (method_at sample t) (key_at sample n)

body_2_0 : (n : ℕ) → n < 11 → HasThese n (2, 0)
body_2_0 zero lt = rw method_2_0 (simp (height_named, same_named, same_to_derived, held_named, kernel_named, held_derived))
body_2_0 (suc zero) lt = rw method_2_0 (simp (height_named, same_named, same_to_derived, held_named, kernel_named, held_derived))
body_2_0 (suc (suc zero)) lt = rw method_2_0 (simp (height_named, same_named, same_to_derived, held_named, kernel_named, held_derived))
body_2_0 (suc (suc (suc zero))) lt = rw method_2_0 (simp (height_named, same_named, same_to_derived, held_named, kernel_named, held_derived))
body_2_0 (suc (suc (suc (suc zero)))) lt = rw method_2_0 (simp (height_named, same_named, same_to_derived, held_named, kernel_named, held_derived))
body_2_0 (suc (suc (suc (suc (suc zero))))) lt = rw method_2_0 (simp (height_named, same_named, same_to_derived, held_named, kernel_named, held_derived))
body_2_0 (suc (suc (suc (suc (suc (suc zero)))))) lt = rw method_2_0 (simp (height_named, same_named, same_to_derived, held_named, kernel_named, held_derived))
body_2_0 (suc (suc (suc (suc (suc (suc (suc zero))))))) lt = rw method_2_0 (simp (height_named, same_named, same_to_derived, held_named, kernel_named, held_derived))
body_2_0 (suc (suc (suc (suc (suc (suc (suc (suc zero)))))))) lt = rw method_2_0 (simp (height_named, same_named, same_to_derived, held_named, kernel_named, held_derived))
body_2_0 (suc (suc (suc (suc (suc (suc (suc (suc (suc zero))))))))) lt = rw method_2_0 (simp (height_named, same_named, same_to_derived, held_named, kernel_named, held_derived))
body_2_0 (suc (suc (suc (suc (suc (suc (suc (suc (suc (suc zero)))))))))) lt = rw method_2_0 (simp (height_named, same_named, same_to_derived, held_named, kernel_named, held_derived))
body_2_0 (suc (suc (suc (suc (suc (suc (suc (suc (suc (suc (suc n))))))))))) lt = absurd (omega arith)

body_2_1 : (n : ℕ) → n < 11 → HasThese n (2, 1)
body_2_1 zero lt = rw method_2_1 (simp (height_named, same_named, same_to_derived, held_named, kernel_named, held_derived))
body_2_1 (suc zero) lt = rw method_2_1 (simp (height_named, same_named, same_to_derived, held_named, kernel_named, held_derived))
body_2_1 (suc (suc zero)) lt = rw method_2_1 (simp (height_named, same_named, same_to_derived, held_named, kernel_named, held_derived))
body_2_1 (suc (suc (suc zero))) lt = rw method_2_1 (simp (height_named, same_named, same_to_derived, held_named, kernel_named, held_derived))
body_2_1 (suc (suc (suc (suc zero)))) lt = rw method_2_1 (simp (height_named, same_named, same_to_derived, held_named, kernel_named, held_derived))
body_2_1 (suc (suc (suc (suc (suc zero))))) lt = rw method_2_1 (simp (height_named, same_named, same_to_derived, held_named, kernel_named, held_derived))
body_2_1 (suc (suc (suc (suc (suc (suc zero)))))) lt = rw method_2_1 (simp (height_named, same_named, same_to_derived, held_named, kernel_named, held_derived))
body_2_1 (suc (suc (suc (suc (suc (suc (suc zero))))))) lt = rw method_2_1 (simp (height_named, same_named, same_to_derived, held_named, kernel_named, held_derived))
body_2_1 (suc (suc (suc (suc (suc (suc (suc (suc zero)))))))) lt = rw method_2_1 (simp (height_named, same_named, same_to_derived, held_named, kernel_named, held_derived))
body_2_1 (suc (suc (suc (suc (suc (suc (suc (suc (suc zero))))))))) lt = rw method_2_1 (simp (height_named, same_named, same_to_derived, held_named, kernel_named, held_derived))
body_2_1 (suc (suc (suc (suc (suc (suc (suc (suc (suc (suc zero)))))))))) lt = rw method_2_1 (simp (height_named, same_named, same_to_derived, held_named, kernel_named, held_derived))
body_2_1 (suc (suc (suc (suc (suc (suc (suc (suc (suc (suc (suc n))))))))))) lt = absurd (omega arith)

body_5_0 : (n : ℕ) → n < 11 → HasThese n (5, 0)
body_5_0 zero lt = rw method_5_0 (simp (height_named, same_named, same_to_derived, held_named, kernel_named, held_derived))
body_5_0 (suc zero) lt = rw method_5_0 (simp (height_named, same_named, same_to_derived, held_named, kernel_named, held_derived))
body_5_0 (suc (suc zero)) lt = rw method_5_0 (simp (height_named, same_named, same_to_derived, held_named, kernel_named, held_derived))
body_5_0 (suc (suc (suc zero))) lt = rw method_5_0 (simp (height_named, same_named, same_to_derived, held_named, kernel_named, held_derived))
body_5_0 (suc (suc (suc (suc zero)))) lt = rw method_5_0 (simp (height_named, same_named, same_to_derived, held_named, kernel_named, held_derived))
body_5_0 (suc (suc (suc (suc (suc zero))))) lt = rw method_5_0 (simp (height_named, same_named, same_to_derived, held_named, kernel_named, held_derived))
body_5_0 (suc (suc (suc (suc (suc (suc zero)))))) lt = rw method_5_0 (simp (height_named, same_named, same_to_derived, held_named, kernel_named, held_derived))
body_5_0 (suc (suc (suc (suc (suc (suc (suc zero))))))) lt = rw method_5_0 (simp (height_named, same_named, same_to_derived, held_named, kernel_named, held_derived))
body_5_0 (suc (suc (suc (suc (suc (suc (suc (suc zero)))))))) lt = rw method_5_0 (simp (height_named, same_named, same_to_derived, held_named, kernel_named, held_derived))
body_5_0 (suc (suc (suc (suc (suc (suc (suc (suc (suc zero))))))))) lt = rw method_5_0 (simp (height_named, same_named, same_to_derived, held_named, kernel_named, held_derived))
body_5_0 (suc (suc (suc (suc (suc (suc (suc (suc (suc (suc zero)))))))))) lt = rw method_5_0 (simp (height_named, same_named, same_to_derived, held_named, kernel_named, held_derived))
body_5_0 (suc (suc (suc (suc (suc (suc (suc (suc (suc (suc (suc n))))))))))) lt = absurd (omega arith)

body_6_0 : (n : ℕ) → n < 11 → HasThese n (6, 0)
body_6_0 zero lt = rw method_6_0 (simp (height_named, same_named, same_to_derived, held_named, kernel_named, held_derived))
body_6_0 (suc zero) lt = rw method_6_0 (simp (height_named, same_named, same_to_derived, held_named, kernel_named, held_derived))
body_6_0 (suc (suc zero)) lt = rw method_6_0 (simp (height_named, same_named, same_to_derived, held_named, kernel_named, held_derived))
body_6_0 (suc (suc (suc zero))) lt = rw method_6_0 (simp (height_named, same_named, same_to_derived, held_named, kernel_named, held_derived))
body_6_0 (suc (suc (suc (suc zero)))) lt = rw method_6_0 (simp (height_named, same_named, same_to_derived, held_named, kernel_named, held_derived))
body_6_0 (suc (suc (suc (suc (suc zero))))) lt = rw method_6_0 (simp (height_named, same_named, same_to_derived, held_named, kernel_named, held_derived))
body_6_0 (suc (suc (suc (suc (suc (suc zero)))))) lt = rw method_6_0 (simp (height_named, same_named, same_to_derived, held_named, kernel_named, held_derived))
body_6_0 (suc (suc (suc (suc (suc (suc (suc zero))))))) lt = rw method_6_0 (simp (height_named, same_named, same_to_derived, held_named, kernel_named, held_derived))
body_6_0 (suc (suc (suc (suc (suc (suc (suc (suc zero)))))))) lt = rw method_6_0 (simp (height_named, same_named, same_to_derived, held_named, kernel_named, held_derived))
body_6_0 (suc (suc (suc (suc (suc (suc (suc (suc (suc zero))))))))) lt = rw method_6_0 (simp (height_named, same_named, same_to_derived, held_named, kernel_named, held_derived))
body_6_0 (suc (suc (suc (suc (suc (suc (suc (suc (suc (suc zero)))))))))) lt = rw method_6_0 (simp (height_named, same_named, same_to_derived, held_named, kernel_named, held_derived))
body_6_0 (suc (suc (suc (suc (suc (suc (suc (suc (suc (suc (suc n))))))))))) lt = absurd (omega arith)

body_8_0 : (n : ℕ) → n < 11 → HasThese n (8, 0)
body_8_0 zero lt = rw method_8_0 (simp (height_named, same_named, same_to_derived, held_named, kernel_named, held_derived))
body_8_0 (suc zero) lt = rw method_8_0 (simp (height_named, same_named, same_to_derived, held_named, kernel_named, held_derived))
body_8_0 (suc (suc zero)) lt = rw method_8_0 (simp (height_named, same_named, same_to_derived, held_named, kernel_named, held_derived))
body_8_0 (suc (suc (suc zero))) lt = rw method_8_0 (simp (height_named, same_named, same_to_derived, held_named, kernel_named, held_derived))
body_8_0 (suc (suc (suc (suc zero)))) lt = rw method_8_0 (simp (height_named, same_named, same_to_derived, held_named, kernel_named, held_derived))
body_8_0 (suc (suc (suc (suc (suc zero))))) lt = rw method_8_0 (simp (height_named, same_named, same_to_derived, held_named, kernel_named, held_derived))
body_8_0 (suc (suc (suc (suc (suc (suc zero)))))) lt = rw method_8_0 (simp (height_named, same_named, same_to_derived, held_named, kernel_named, held_derived))
body_8_0 (suc (suc (suc (suc (suc (suc (suc zero))))))) lt = rw method_8_0 (simp (height_named, same_named, same_to_derived, held_named, kernel_named, held_derived))
body_8_0 (suc (suc (suc (suc (suc (suc (suc (suc zero)))))))) lt = rw method_8_0 (simp (height_named, same_named, same_to_derived, held_named, kernel_named, held_derived))
body_8_0 (suc (suc (suc (suc (suc (suc (suc (suc (suc zero))))))))) lt = rw method_8_0 (simp (height_named, same_named, same_to_derived, held_named, kernel_named, held_derived))
body_8_0 (suc (suc (suc (suc (suc (suc (suc (suc (suc (suc zero)))))))))) lt = rw method_8_0 (simp (height_named, same_named, same_to_derived, held_named, kernel_named, held_derived))
body_8_0 (suc (suc (suc (suc (suc (suc (suc (suc (suc (suc (suc n))))))))))) lt = absurd (omega arith)

pub body_is : (n : ℕ) (t : ℕ × ℕ) → n < 11 → IsToken sample t → HasThese n t
body_is n t lt is = token_by (HasThese n) (body_2_0 n lt) (body_2_1 n lt) (body_5_0 n lt) (body_6_0 n lt) (body_8_0 n lt) t is

-- the kernel's classes

pub kernel_is : (n : ℕ) → n < 11 → nat_lt n 3 ≡ is_kernel (key_at sample n)
kernel_is zero lt = simp kernel_named
kernel_is (suc zero) lt = simp kernel_named
kernel_is (suc (suc zero)) lt = simp kernel_named
kernel_is (suc (suc (suc zero))) lt = simp kernel_named
kernel_is (suc (suc (suc (suc zero)))) lt = simp kernel_named
kernel_is (suc (suc (suc (suc (suc zero))))) lt = simp kernel_named
kernel_is (suc (suc (suc (suc (suc (suc zero)))))) lt = simp kernel_named
kernel_is (suc (suc (suc (suc (suc (suc (suc zero))))))) lt = simp kernel_named
kernel_is (suc (suc (suc (suc (suc (suc (suc (suc zero)))))))) lt = simp kernel_named
kernel_is (suc (suc (suc (suc (suc (suc (suc (suc (suc zero))))))))) lt = simp kernel_named
kernel_is (suc (suc (suc (suc (suc (suc (suc (suc (suc (suc zero)))))))))) lt = simp kernel_derived
kernel_is (suc (suc (suc (suc (suc (suc (suc (suc (suc (suc (suc n))))))))))) lt = absurd (omega arith)

-- who descends from whom

abbrev SomeKeys : ℕ → List ℕ → Type 0
SomeKeys a ns = some (nat_eq a) ns ≡ some (same_key (key_at sample a)) (map (key_at sample) ns)

one_key : (a n : ℕ) (ns : List ℕ) (b : Bool) → a < 11 → nat_lt n 11 ≡ b → (if b then every (λ i. nat_lt i 11) ns else false) ≡ true → (every (λ i. nat_lt i 11) ns ≡ true → SomeKeys a ns) → SomeKeys a (n ∷ ns)
one_key a n ns true la e all rest =
    ap (λ t. if t then true else some (nat_eq a) ns) (same_as a n la (ltb-true n 11 e)) ∙ ap (λ t. if same_key (key_at sample a) (key_at sample n) then true else t) (rest all)
one_key a n ns false la e all rest = absurd (true≢false (sym all))

some_keys : (a : ℕ) (ns : List ℕ) → a < 11 → every (λ i. nat_lt i 11) ns ≡ true → SomeKeys a ns
some_keys a [] la all = refl
some_keys a (n ∷ ns) la all = one_key a n ns (nat_lt n 11) la refl all (some_keys a ns la)

pub descent : (n a : ℕ) → n < 11 → a < 11 → some (nat_eq a) (get_or ancestor_rows n []) ≡ is_a classes (key_at sample n) (key_at sample a)
unfolding hierarchy
descent n a ln la = some_keys a (get_or ancestor_rows n []) la (within n ln) ∙ ap (some (same_key (key_at sample a))) (above n ln)
