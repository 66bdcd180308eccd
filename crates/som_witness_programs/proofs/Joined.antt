-- Lists as they are written one after the other.
use Rattle.std.proofs.Common.{◌≡◌, ℕ, zero, suc, ◌+◌, ◌-◌, ◌<◌, ◌≤◌, ◌==◌, Bool, true, false, true≢false, if◌then◌else◌, List, [], ◌∷◌, ◌++◌, map, flat_map, length, take, drop, get_or, codes, refl, sym, ap, ◌∙◌, arith, append_assoc}
use Rattle.std.proofs.lemmas.List.{append-nil, length-map, length-take-le, take_all, take_more}
use Rattle.std.proofs.lemmas.Bool.{eqb-true}
use Rattle.std.specs.Fmt.{decimal}
use Rattle.som_model.proofs.KeyLaws.{exact_numbers}
use Rattle.som_model.specs.declared.key.ValueType.{ValueType}
use Rattle.som_model.specs.declared.syntax.Expr.{Expr}
use Rattle.som_model.specs.declared.syntax.Expr.TheVariants as exprs
use Rattle.som_witness.specs.Program.{zero_value, zero_values_with}
use Rattle.som_witness.specs.Wording.{listed, parameters, zero_text, zero_texts_with}

-- ---- words with a comma and a blank between

abbrev pub after_comma : List ℕ → List ℕ
after_comma w = codes ", " ++ w

pub words_from : (w : List ℕ) (ws : List (List ℕ)) → listed (w ∷ ws) ≡ w ++ flat_map after_comma ws
words_from w [] = sym (append-nil w)
words_from w (v ∷ ws) =
    append_assoc w (codes ", ") (listed (v ∷ ws))
    ∙ ap (λ (x : List ℕ). w ++ (codes ", " ++ x)) (words_from v ws)
    ∙ ap (λ (x : List ℕ). w ++ x) (sym (append_assoc (codes ", ") v (flat_map after_comma ws)))

-- all words after the first are written
pub words_all : (w : List ℕ) (ws : List (List ℕ)) (i : ℕ) (all : List ℕ) → length ws ≤ i → all ≡ w ++ flat_map after_comma (take i ws) → all ≡ listed (w ∷ ws)
words_all w ws i all over so = so ∙ ap (λ (l : List (List ℕ)). w ++ flat_map after_comma l) (take_all i ws over) ∙ sym (words_from w ws)

-- a list is its first word and the others
pub parts : (xs : List (List ℕ)) (x : List ℕ) → 1 ≤ length xs → x ≡ get_or xs 0 x → x ∷ take (length xs - 1) (drop 1 xs) ≡ xs
parts [] x some first = absurd (omega (arith, some))
parts (y ∷ ys) x some first =
    ap (λ (l : List (List ℕ)). x ∷ l) (take_all (length (y ∷ ys) - 1) ys (omega arith)) ∙ ap (λ (z : List ℕ). z ∷ ys) first

-- ---- the names of parameters

abbrev named : ℕ → List ℕ
named n = codes "p" ++ decimal n

same_name : (m n : ℕ) → m ≡ n → named m ∷ [] ≡ named n ∷ []
same_name m n is = ap (λ (k : ℕ). named k ∷ []) is

-- one type more
names_more : (n : ℕ) (ps : List ValueType) (p : ValueType) → parameters n (ps ++ p ∷ []) ≡ parameters n ps ++ named (n + length ps) ∷ []
names_more n [] p = same_name n (n + 0) (omega arith)
names_more n (q ∷ ps) p =
    ap (λ (l : List (List ℕ)). named n ∷ l) (names_more (suc n) ps p ∙ ap (λ (l : List (List ℕ)). parameters (suc n) ps ++ l) (same_name (suc n + length ps) (n + suc (length ps)) (omega arith)))

-- a name more
pub names_on : (i : ℕ) (ps : List ValueType) (now grown : List (List ℕ)) (name : List ℕ) → i < length ps → now ≡ parameters 0 (take i ps) → grown ≡ now ++ name ∷ [] → name ≡ named i → grown ≡ parameters 0 (take (i + 1) ps)
names_on i [] now grown name lt so pushed is = absurd (omega (arith, lt))
names_on i (q ∷ qs) now grown name lt so pushed is =
    let ps : List ValueType = q ∷ qs in
    let many : i ≡ 0 + length (take i ps) = omega (arith, length-take-le i ps (omega (arith, lt))) in
    pushed
    ∙ ap (λ (l : List (List ℕ)). l ++ name ∷ []) so
    ∙ ap (λ (z : List ℕ). parameters 0 (take i ps) ++ z ∷ []) is
    ∙ ap (λ (l : List (List ℕ)). parameters 0 (take i ps) ++ l) (same_name i (0 + length (take i ps)) many)
    ∙ sym (names_more 0 (take i ps) (get_or ps i q))
    ∙ ap (parameters 0) (sym (take_more ps i q lt))

-- ---- lists in which one place has another value

bools : (a b : Bool) → (a ≡ true → b ≡ true) → (b ≡ true → a ≡ true) → a ≡ b
bools true true f g = refl
bools false false f g = refl
bools true false f g = sym (f refl)
bools false true f g = g refl

same_suc : (i n : ℕ) → (suc i == suc n) ≡ (i == n)
same_suc i n =
    bools (suc i == suc n) (i == n) (λ e. let is : i ≡ n = (let f = eqb-true (suc i) (suc n) e in omega (arith, f)) in ap (λ z. i == z) (sym is) ∙ exact_numbers.one i)
    (λ e. ap (λ z. suc i == suc z) (sym (eqb-true i n e)) ∙ exact_numbers.one (suc i))

suc_zero : (i : ℕ) → (suc i == 0) ≡ false
suc_zero i = bools (suc i == 0) false (λ e. let f = eqb-true (suc i) 0 e in absurd (omega (arith, f))) (λ e. absurd (true≢false (sym e)))

zero_suc : (n : ℕ) → (0 == suc n) ≡ false
zero_suc n = bools (0 == suc n) false (λ e. let f = eqb-true 0 (suc n) e in absurd (omega (arith, f))) (λ e. absurd (true≢false (sym e)))

module _ {A B : Type 0} (f : A → B) (x : B) where
  abbrev replaced : ℕ → List A → List B
  replaced n [] = []
  replaced zero (p ∷ ps) = x ∷ map f ps
  replaced (suc n) (p ∷ ps) = f p ∷ replaced n ps

  mapped : (i : ℕ) (ps : List A) (p : A) (d : B) → i < length ps → get_or (map f ps) i d ≡ f (get_or ps i p)
  mapped i [] p d lt = absurd (omega (arith, lt))
  mapped zero (q ∷ ps) p d lt = refl
  mapped (suc i) (q ∷ ps) p d lt = mapped i ps p d (omega (arith, lt))

  abbrev value_at : ℕ → ℕ → A → B
  value_at n i p = if i == n then x else f p

  got : (n i : ℕ) (ps : List A) (p : A) (d : B) → i < length ps → get_or (replaced n ps) i d ≡ value_at n i (get_or ps i p)
  got n i [] p d lt = absurd (omega (arith, lt))
  got zero zero (q ∷ ps) p d lt = refl
  got zero (suc i) (q ∷ ps) p d lt = mapped i ps p d (omega (arith, lt)) ∙ ap (λ (b : Bool). if b then x else f (get_or ps i p)) (sym (suc_zero i))
  got (suc n) zero (q ∷ ps) p d lt = ap (λ (b : Bool). if b then x else f q) (sym (zero_suc n))
  got (suc n) (suc i) (q ∷ ps) p d lt = got n i ps p d (omega (arith, lt)) ∙ ap (λ (b : Bool). if b then x else f (get_or ps i p)) (sym (same_suc i n))

  as_long : (n : ℕ) (ps : List A) → length (replaced n ps) ≡ length ps
  as_long n [] = refl
  as_long zero (p ∷ ps) = ap suc (length-map ps f)
  as_long (suc n) (p ∷ ps) = ap suc (as_long n ps)

  one_more : (n i : ℕ) (ps : List A) (p : A) → i < length ps → p ≡ get_or ps i p → take (i + 1) (replaced n ps) ≡ take i (replaced n ps) ++ value_at n i p ∷ []
  one_more n i ps p lt is =
      take_more (replaced n ps) i x (let l = as_long n ps in omega (arith, lt, l))
      ∙ ap (λ (z : B). take i (replaced n ps) ++ z ∷ []) (got n i ps p x lt ∙ ap (value_at n i) (sym is))

values_are : (n : ℕ) (ps : List ValueType) → zero_values_with n ps ≡ replaced zero_value (exprs.Local 1) n ps
values_are n [] = refl
values_are zero (p ∷ ps) = refl
values_are (suc n) (p ∷ ps) = ap (λ (l : List Expr). zero_value p ∷ l) (values_are n ps)

texts_are : (n : ℕ) (ps : List ValueType) → zero_texts_with n ps ≡ replaced zero_text (codes "x") n ps
texts_are n [] = refl
texts_are zero (p ∷ ps) = refl
texts_are (suc n) (p ∷ ps) = ap (λ (l : List (List ℕ)). zero_text p ∷ l) (texts_are n ps)

-- a value more
pub values_on : (n i : ℕ) (ps : List ValueType) (p : ValueType) (now grown : List Expr) (v : Expr) → i < length ps → p ≡ get_or ps i p → now ≡ take i (zero_values_with n ps) → grown ≡ now ++ v ∷ []
    → v ≡ (if i == n then exprs.Local 1 else zero_value p) → grown ≡ take (i + 1) (zero_values_with n ps)
values_on n i ps p now grown v lt at so pushed is =
    pushed
    ∙ ap (λ (l : List Expr). l ++ v ∷ []) (so ∙ ap (take i) (values_are n ps))
    ∙ ap (λ (z : Expr). take i (replaced zero_value (exprs.Local 1) n ps) ++ z ∷ []) is
    ∙ sym (one_more zero_value (exprs.Local 1) n i ps p lt at)
    ∙ ap (take (i + 1)) (sym (values_are n ps))

-- a text more
pub texts_on : (n i : ℕ) (ps : List ValueType) (p : ValueType) (now grown : List (List ℕ)) (v : List ℕ) → i < length ps → p ≡ get_or ps i p → now ≡ take i (zero_texts_with n ps) → grown ≡ now ++ v ∷ []
    → v ≡ (if i == n then codes "x" else zero_text p) → grown ≡ take (i + 1) (zero_texts_with n ps)
texts_on n i ps p now grown v lt at so pushed is =
    pushed
    ∙ ap (λ (l : List (List ℕ)). l ++ v ∷ []) (so ∙ ap (take i) (texts_are n ps))
    ∙ ap (λ (z : List ℕ). take i (replaced zero_text (codes "x") n ps) ++ z ∷ []) is
    ∙ sym (one_more zero_text (codes "x") n i ps p lt at)
    ∙ ap (take (i + 1)) (sym (texts_are n ps))

-- all are there
pub values_all : (n i : ℕ) (ps : List ValueType) (now : List Expr) → length ps ≤ i → now ≡ take i (zero_values_with n ps) → now ≡ zero_values_with n ps
values_all n i ps now over so =
    so ∙ take_all i (zero_values_with n ps) (let l = ap length (values_are n ps) ∙ as_long zero_value (exprs.Local 1) n ps in omega (arith, l, over))

pub texts_all : (n i : ℕ) (ps : List ValueType) (now : List (List ℕ)) → length ps ≤ i → now ≡ take i (zero_texts_with n ps) → now ≡ zero_texts_with n ps
texts_all n i ps now over so =
    so ∙ take_all i (zero_texts_with n ps) (let l = ap length (texts_are n ps) ∙ as_long zero_text (codes "x") n ps in omega (arith, l, over))
