-- Lists as they are written one after the other.
use Rattle.std.proofs.Common.{◌≡◌, ℕ, suc, ◌+◌, ◌-◌, ◌<◌, ◌≤◌, List, [], ◌∷◌, ◌++◌, map, flat_map, length, take, drop, get_or, sym, ap, ◌∙◌, arith, append_assoc}
use Rattle.std.proofs.lemmas.List.{append-nil, take_all, take_more, length-take-le}
use Rattle.som_model.specs.declared.class.Entry.{Entry}
use Rattle.som_model.specs.ClassNames.{name_list}
use Rattle.som_show.specs.Shown.{entry_line, entry_lines}

-- names with commas between: the first, and then each of the others with a comma before it
pub names_from : {A : Type 0} (f : A → List ℕ) (k : A) (ks : List A) → name_list (f k ∷ map f ks) ≡ f k ++ flat_map (λ (x : A). 44 ∷ f x) ks
names_from f k [] = sym (append-nil (f k))
names_from f k (m ∷ ks) = append_assoc (f k) (44 ∷ []) (name_list (f m ∷ map f ks)) ∙ ap (λ (x : List ℕ). f k ++ 44 ∷ x) (names_from f m ks)

-- the items after the first
abbrev pub after_first : {A : Type 0} → List A → List A
after_first xs = take (length xs - 1) (drop 1 xs)

-- the first name, and then the others
pub names_done : {A : Type 0} (f : A → List ℕ) (xs : List A) (x : A) (i : ℕ) (old one all : List ℕ) → 1 ≤ length xs → x ≡ get_or xs 0 x → one ≡ old ++ f x → length (after_first xs) ≤ i
    → all ≡ one ++ flat_map (λ (y : A). 44 ∷ f y) (take i (after_first xs)) → all ≡ old ++ name_list (map f xs)
names_done f [] x i old one all some first begun over so = absurd (omega arith)
names_done {A} f (y ∷ ys) x i old one all some first begun over so =
    let rest : after_first (y ∷ ys) ≡ ys = take_all (length (y ∷ ys) - 1) ys (omega arith) in
    so
    ∙ ap (λ (l : List A). one ++ flat_map (λ (z : A). 44 ∷ f z) l) (take_all i (after_first (y ∷ ys)) over ∙ rest)
    ∙ ap (λ (l : List ℕ). l ++ flat_map (λ (z : A). 44 ∷ f z) ys) (begun ∙ ap (λ (z : A). old ++ f z) first)
    ∙ append_assoc old (f y) (flat_map (λ (z : A). 44 ∷ f z) ys)
    ∙ ap (λ (l : List ℕ). old ++ l) (sym (names_from f y ys))

same_line : (m n : ℕ) (e : Entry) → m ≡ n → entry_line m e ∷ [] ≡ entry_line n e ∷ []
same_line m n e is = ap (λ (k : ℕ). entry_line k e ∷ []) is

-- one entry more
pub entries_more : (place : ℕ) (es : List Entry) (e : Entry) → entry_lines place (es ++ e ∷ []) ≡ entry_lines place es ++ entry_line (place + length es) e ∷ []
entries_more place [] e = same_line place (place + 0) e (omega arith)
entries_more place (d ∷ es) e =
    ap (λ (l : List (List ℕ)). entry_line place d ∷ l) (entries_more (suc place) es e ∙ ap (λ (l : List (List ℕ)). entry_lines (suc place) es ++ l) (same_line (suc place + length es) (place + suc (length es)) e (omega arith)))

-- the entry at the next place
pub entries_on : (es : List Entry) (i : ℕ) (e : Entry) (old now then : List (List ℕ)) (line : List ℕ) → i < length es → e ≡ get_or es i e → now ≡ old ++ entry_lines 0 (take i es) → then ≡ now ++ line ∷ [] → line ≡ entry_line i e
    → then ≡ old ++ entry_lines 0 (take (i + 1) es)
entries_on es i e old now then line lt at so pushed is =
    let more : take (i + 1) es ≡ take i es ++ e ∷ [] = take_more es i e lt ∙ ap (λ (d : Entry). take i es ++ d ∷ []) (sym at) in
    let place : 0 + length (take i es) ≡ i = omega (arith, length-take-le i es (omega arith)) in
    pushed
    ∙ ap (λ (l : List (List ℕ)). l ++ line ∷ []) so
    ∙ append_assoc old (entry_lines 0 (take i es)) (line ∷ [])
    ∙ ap (λ (l : List ℕ). old ++ (entry_lines 0 (take i es) ++ l ∷ [])) (is ∙ ap (λ (n : ℕ). entry_line n e) (sym place))
    ∙ ap (λ (l : List (List ℕ)). old ++ l) (sym (entries_more 0 (take i es) e))
    ∙ ap (λ (l : List Entry). old ++ entry_lines 0 l) (sym more)
