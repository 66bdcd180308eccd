-- Rows of methods, class by class.
use Rattle.std.proofs.Common.{◌≡◌, ◌≢◌, ℕ, ◌<◌, inl, inr, Bool, true, false, if◌then◌else◌, List, [], ◌∷◌, map, Option, Some, None, IsSome, refl, sym, ap, ◌∙◌, subst, true≢false}
use Rattle.std.specs.Option.{option_or}
use Rattle.std.proofs.lemmas.Bool.{cases_eq}
use Rattle.som_model.specs.Lists.{Mem, or_else, first_some as first_key}
use Rattle.som_model.specs.Hierarchy.{Hierarchy}
use Rattle.som_model.specs.Ancestors.{Descends, itself, by_parent}
use Rattle.som_model.specs.Resolution.{inherits, impl}
use Rattle.som_model_laws.proofs.Laws.{answer_some, answer_step, implementation_exists}
use Rattle.som_tables.specs.Rows.{Added, row_at, HasRow, HasToken, HaveRowsBelow, SomeHasToken, first_some, inherited, own_at, replaced_at, row_cell}
use Rattle.som_tables.proofs.Options.{option_or_left, option_or_right}
use Rattle.som_tables.proofs.Inherited.{Filled, HaveRowsBelow_equal, inherited_equal, inherited_filled, inherited_others, order_filled, own_at-other, own_at-same}
use Rattle.som_class_layout_laws.specs.Laying.{Answers, Bodies, IsBody, IsLaid, IsRow, IsScheme, IsToken, Scheme, answerer}

no_some : {A : Type 0} {x : A} → None ≡ Some x → ⊥
no_some e = cc

-- a token is the pair of its class and its place
pub pair_is : (t : ℕ × ℕ) (n : ℕ) → t.0 ≡ n → t ≡ (n, t.1)
pair_is t n e = ap (λ x. (x, t.1)) e

module _ {K : Type 0} (Body : Bodies K) (t : ℕ × ℕ) where
  pub some_cell : (o : Option ℕ) (w : Option K) → Answers Body t o w → IsSome w → IsSome o
  some_cell (Some b) w a s = refl
  some_cell None None a s = absurd (true≢false (sym s))
  some_cell None (Some y) a s = absurd a

  or_answers : (o q : Option ℕ) (w x : Option K) → Answers Body t o w → Answers Body t q x → Answers Body t (option_or o q) (or_else w x)
  or_answers None q None x a b = b
  or_answers (Some c) q (Some y) x a b = a
  or_answers None q (Some y) x a b = absurd a
  or_answers (Some c) q None x a b = absurd a

  -- a body that is there answers, whatever is inherited
  here : (o : Option ℕ) (y : K) (w : Option K) → (b : ℕ) × (o ≡ Some b) × IsBody Body b y t → Answers Body t o (or_else (Some y) w)
  here None y w r = absurd (no_some r.1)
  here (Some b) y w r = subst (λ z. IsBody Body z y t) (let e : Some b ≡ Some r.0 = r.1 in let is : r.0 ≡ b = cc in is) r.2

  some_or : (o q : Option ℕ) → IsSome o → option_or o q ≡ o
  some_or None q s = absurd (true≢false (sym s))
  some_or (Some x) q s = refl

  pub answered : (b : ℕ) (w : Option K) → Answers Body t (Some b) w → (y : K) × (w ≡ Some y) × IsBody Body b y t
  answered b (Some y) a = (y, refl, a)
  answered b None a = absurd a

keep : {K : Type 0} (Old New : Bodies K) (t : ℕ × ℕ) → ((b : ℕ) (y : K) → IsBody Old b y t → IsBody New b y t) → (o : Option ℕ) (w : Option K) → Answers Old t o w → Answers New t o w
keep Old New t k None None a = tt
keep Old New t k (Some b) (Some y) a = k b y a
keep Old New t k None (Some y) a = absurd a
keep Old New t k (Some b) None a = absurd a

module _ {K : Type 0} (s : Scheme K) (ok : IsScheme s) where
  abbrev h : Hierarchy K
  h = s.classes

  abbrev answers_at : ℕ × ℕ → K → Option K
  answers_at t x = answerer h (s.method t) x

  -- a class that descends from the one that introduces a method has an answer
  exists : (t : ℕ × ℕ) → IsToken s t → (x : K) → Descends h x (s.method t).class → IsSome (answers_at t x)
  exists t is x d =
      let m = ok.methods t is in
      subst (λ o. IsSome o) (sym (answer_some h (s.method t).has_body (s.method t).chosen (s.method t).class m.picks ok.tells ok.falls x d))
      (implementation_exists h (s.method t).has_body (s.method t).chosen (s.method t).class m.picks ok.tells ok.falls m.own x d)

  pub some_there : {B : Type 0} (f : ℕ → Option B) (q : ℕ) (ps : List ℕ) → Mem q ps → IsSome (f q) → IsSome (first_some f ps)
  some_there f q [] m v = absurd m
  some_there f q (p ∷ ps) (inl e) v = option_or_left (f p) (first_some f ps) (subst (λ z. IsSome (f z)) e v)
  some_there f q (p ∷ ps) (inr m) v = option_or_right (f p) (first_some f ps) (some_there f q ps m v)

  -- the number of a parent
  pub parent_number : (rows : List (Option (Added ℕ))) (n : ℕ) (ps : List ℕ) → HaveRowsBelow n rows ps → (p : K) → Mem p (map s.key ps) → (q : ℕ) × Mem q ps × (p ≡ s.key q) × (q < n) × HasRow rows q
  parent_number rows n [] all p m = absurd m
  parent_number rows n (q ∷ ps) all p (inl e) = (q, inl refl, e, all.0.0, all.0.1)
  parent_number rows n (q ∷ ps) all p (inr m) = let r = parent_number rows n ps all.1 p m in (r.0, inr r.1, r.2, r.3, r.4)

  module _ (Body : Bodies K) (rows : List (Option (Added ℕ))) (laid : IsLaid s Body rows) where
    -- a row has the token of each method that a class from which its class descends introduces
    pub has_token : (n : ℕ) (t : ℕ × ℕ) → HasRow rows n → IsToken s t → Descends h (s.key n) (s.method t).class → HasToken rows n t
    has_token n t has is d = some_cell Body t (inherited rows n t) (answers_at t (s.key n)) (laid.cells n t has is) (exists t is (s.key n) d)

    -- and its cell is the body of the class that answers
    pub cell_answers : (n : ℕ) (t : ℕ × ℕ) → HasRow rows n → IsToken s t → Descends h (s.key n) (s.method t).class → (b : ℕ) → Some b ≡ inherited rows n t
        → (y : K) × (impl h (s.method t).has_body (s.method t).chosen (s.method t).class (s.key n) ≡ Some y) × IsBody Body b y t
    cell_answers n t has is d b e =
        let m = ok.methods t is in
        let r = answered Body t b (answers_at t (s.key n)) (subst (λ o. Answers Body t o (answers_at t (s.key n))) (sym e) (laid.cells n t has is)) in
        (r.0, sym (answer_some h (s.method t).has_body (s.method t).chosen (s.method t).class m.picks ok.tells ok.falls (s.key n) d) ∙ r.1, r.2)

    -- a class has no body for a method of a class from which it doesn't descend
    pub no_token : (n : ℕ) (t : ℕ × ℕ) → HasRow rows n → IsToken s t → answers_at t (s.key n) ≡ None → inherited rows n t ≡ None
    no_token n t has is none = by (inherited rows n t) (answers_at t (s.key n)) none (laid.cells n t has is)
      where
        by : (o : Option ℕ) (w : Option K) → w ≡ None → Answers Body t o w → o ≡ None
        by None w e a = refl
        by (Some b) None e a = absurd a
        by (Some b) (Some y) e a = absurd (no_some (sym e))

    -- the first parent that has a cell is the first that answers
    first_answers : (n : ℕ) (t : ℕ × ℕ) → IsToken s t → (ps : List ℕ) → HaveRowsBelow n rows ps → Answers Body t (first_some (λ q. inherited rows q t) ps) (first_key (answers_at t) (map s.key ps))
    first_answers n t is [] all = tt
    first_answers n t is (q ∷ ps) all =
        or_answers Body t (inherited rows q t) (first_some (λ q. inherited rows q t) ps) (answers_at t (s.key q)) (first_key (answers_at t) (map s.key ps))
        (laid.cells q t all.0.1 is) (first_answers n t is ps all.1)

    -- a token of a proper ancestor is in some parent's row
    pub parents_have : (n : ℕ) (a : Added ℕ) → n < s.count → map s.key a.parents ≡ h.parents (s.key n) → HaveRowsBelow n rows a.parents
        → (t : ℕ × ℕ) → IsToken s t → t.0 ≢ n → Descends h (s.key n) (s.method t).class → SomeHasToken rows a.parents t
    parents_have n a lt parents below t is ne d = by (s.key n) refl d
      where
        by : (x : K) → s.key n ≡ x → Descends h x (s.method t).class → SomeHasToken rows a.parents t
        by x e itself = absurd (ne (ok.apart t.0 n is.0 lt (sym (ok.introducer t is) ∙ sym e)))
        by x e (by_parent p m c) =
            let r = parent_number rows n a.parents below p (subst (λ l. Mem p l) (sym (parents ∙ ap h.parents e)) m) in
            some_there (λ q. inherited rows q t) r.0 a.parents r.1 (has_token r.0 t r.4 is (subst (λ z. Descends h z (s.method t).class) r.2 c))

    module _ (n : ℕ) (a : Added ℕ) (New : Bodies K) (kept : (b : ℕ) (y : K) (t : ℕ × ℕ) → IsBody Body b y t → IsBody New b y t) (row : IsRow s New rows n a) where
      above : (t : ℕ × ℕ) → IsToken s t → Answers New t (first_some (λ q. inherited rows q t) a.parents) (first_key (answers_at t) (h.parents (s.key n)))
      above t is = keep Body New t (λ b y. kept b y t) _ _
          (subst (λ l. Answers Body t (first_some (λ q. inherited rows q t) a.parents) (first_key (answers_at t) l)) row.parents (first_answers n t is a.parents row.below))

      -- what the class inherits by choice, or from the left
      chosen_cell : (t : ℕ × ℕ) → IsToken s t → (p : K) → (s.method t).chosen (s.key n) ≡ Some p → (cell : Option ℕ) (rest : Option ℕ)
          → (q : ℕ) × (s.key q ≡ p) × HasRow rows q × (cell ≡ inherited rows q t)
          → Answers New t (option_or cell rest) (inherits h (s.method t).class (impl h (s.method t).has_body (s.method t).chosen (s.method t).class) (Some p) (h.parents (s.key n)))
      chosen_cell t is p e cell rest r =
          let m = ok.methods t is in
          let d = m.picks.below (s.key n) p e in
          let there : IsSome (inherited rows r.0 t) = has_token r.0 t r.2 is (subst (λ z. Descends h z (s.method t).class) (sym r.1) d) in
          let same : option_or cell rest ≡ inherited rows r.0 t = ap (λ o. option_or o rest) r.3 ∙ some_or New t (inherited rows r.0 t) rest there in
          let known = keep Body New t (λ b y. kept b y t) (inherited rows r.0 t) (answers_at t (s.key r.0)) (laid.cells r.0 t r.2 is) in
          subst (λ o. Answers New t o (impl h (s.method t).has_body (s.method t).chosen (s.method t).class p)) (sym same)
          (subst (λ w. Answers New t (inherited rows r.0 t) w)
          (ap (answers_at t) r.1 ∙ answer_some h (s.method t).has_body (s.method t).chosen (s.method t).class m.picks ok.tells ok.falls p d) known)

      other_by : (t : ℕ × ℕ) → IsToken s t → t.0 ≢ n → (v : Bool) → (s.method t).has_body (s.key n) ≡ v → (c : Option K) → (s.method t).chosen (s.key n) ≡ c
          → Answers New t (option_or (replaced_at a.replaced t) (option_or None (first_some (λ q. inherited rows q t) a.parents)))
          (or_else (if v then Some (s.key n) else None) (inherits h (s.method t).class (impl h (s.method t).has_body (s.method t).chosen (s.method t).class) c (h.parents (s.key n))))
      other_by t is ne true e c f =
          let r = (row.replaced t is).body ne e in
          subst (λ o. Answers New t o (Some (s.key n))) (sym (ap (λ o. option_or o (first_some (λ q. inherited rows q t) a.parents)) r.1)) r.2
      other_by t is ne false e None f =
          subst (λ o. Answers New t (option_or o (first_some (λ q. inherited rows q t) a.parents)) (first_key (answers_at t) (h.parents (s.key n)))) (sym ((row.replaced t is).nothing e f)) (above t is)
      other_by t is ne false e (Some p) f = chosen_cell t is p f (replaced_at a.replaced t) (first_some (λ q. inherited rows q t) a.parents) ((row.replaced t is).chosen p e f)

      own_cell : (t : ℕ × ℕ) → IsToken s t → t.0 ≡ n → (b : ℕ) × (option_or (replaced_at a.replaced t) (option_or (own_at n a.introduced t) (first_some (λ q. inherited rows q t) a.parents)) ≡ Some b) × IsBody New b (s.key n) t
      own_cell t is e =
          let r = row.own t.1 (subst (λ i. t.1 < s.introduced i) e is.1) in
          let mine : own_at n a.introduced t ≡ Some r.0 = ap (own_at n a.introduced) (pair_is t n e) ∙ own_at-same n a.introduced t.1 ∙ r.1 in
          let rest = first_some (λ q. inherited rows q t) a.parents in (
            r.0,
            ap (λ o. option_or o (option_or (own_at n a.introduced t) rest)) ((row.replaced t is).own e) ∙ ap (λ o. option_or o rest) mine,
            subst (λ u. IsBody New r.0 (s.key n) u) (sym (pair_is t n e)) r.2,
          )

      next_by : (t : ℕ × ℕ) → IsToken s t → Answers New t (row_cell (λ q. inherited rows q t) n t a)
          (or_else (if (s.method t).has_body (s.key n) then Some (s.key n) else None) (inherits h (s.method t).class (impl h (s.method t).has_body (s.method t).chosen (s.method t).class) ((s.method t).chosen (s.key n)) (h.parents (s.key n))))
      next_by t is = elim (cases_eq t.0 n) [
        | inl e ↦ (
            let has : (s.method t).has_body (s.key n) ≡ true = ap (s.method t).has_body (ap s.key (sym e) ∙ sym (ok.introducer t is)) ∙ (ok.methods t is).own in
            let inh = inherits h (s.method t).class (impl h (s.method t).has_body (s.method t).chosen (s.method t).class) ((s.method t).chosen (s.key n)) (h.parents (s.key n)) in
            subst (λ v. Answers New t (row_cell (λ q. inherited rows q t) n t a) (or_else (if v then Some (s.key n) else None) inh)) (sym has)
            (here New t (row_cell (λ q. inherited rows q t) n t a) (s.key n) inh (own_cell t is e)))
        | inr ne ↦ subst (λ o. Answers New t (option_or (replaced_at a.replaced t) (option_or o (first_some (λ q. inherited rows q t) a.parents)))
            (or_else (if (s.method t).has_body (s.key n) then Some (s.key n) else None) (inherits h (s.method t).class (impl h (s.method t).has_body (s.method t).chosen (s.method t).class) ((s.method t).chosen (s.key n)) (h.parents (s.key n)))))
            (sym (subst (λ (u : ℕ × ℕ). own_at n a.introduced u ≡ None) (ap (λ x. (x, t.1)) refl) (own_at-other n t.0 a.introduced t.1 ne)))
            (other_by t is ne ((s.method t).has_body (s.key n)) refl ((s.method t).chosen (s.key n)) refl)
      ]

      -- the cell of the new row is the body of the class that answers
      pub next_cell : (t : ℕ × ℕ) → IsToken s t → Answers New t (row_cell (λ q. inherited rows q t) n t a) (answers_at t (s.key n))
      next_cell t is =
          let m = ok.methods t is in
          subst (λ w. Answers New t (row_cell (λ q. inherited rows q t) n t a) w)
          (sym (answer_step h (s.method t).has_body (s.method t).chosen (s.method t).class m.picks ok.tells ok.falls (s.key n) (ok.below t n is row.numbered))) (next_by t is)

      had_row : (ds : List (Option (Added ℕ))) → Filled rows ds n a → (p : ℕ) → p ≢ n → HasRow ds p → HasRow rows p
      had_row ds filled p ne has = subst (λ o. IsSome o) (filled.others p ne) has

      -- the rows are laid with the new one too
      pub laid_filled : (ds : List (Option (Added ℕ))) → Filled rows ds n a → IsLaid s New ds
      laid_filled ds filled = record {
        order = order_filled rows ds n a laid.order filled row.below;
        numbered = λ p has. elim (cases_eq p n) [ inl e ↦ subst (λ i. i < s.count) (sym e) row.numbered | inr ne ↦ laid.numbered p (had_row ds filled p ne has) ];
        cells = λ p t has is. elim (cases_eq p n) [
          | inl e ↦ subst (λ i. Answers New t (inherited ds i t) (answers_at t (s.key i))) (sym e)
              (subst (λ o. Answers New t o (answers_at t (s.key n))) (sym (inherited_filled rows ds n a laid.order filled row.below t)) (next_cell t is))
          | inr ne ↦ subst (λ o. Answers New t o (answers_at t (s.key p))) (sym (inherited_others rows ds n a laid.order filled p ne t))
              (keep Body New t (λ b y. kept b y t) (inherited rows p t) (answers_at t (s.key p)) (laid.cells p t (had_row ds filled p ne has) is))
        ];
      }

-- where no class has a row, the rows are laid
pub none_laid : {K : Type 0} (s : Scheme K) (Body : Bodies K) (rows : List (Option (Added ℕ))) → ((n : ℕ) → row_at rows n ≡ None) → IsLaid s Body rows
none_laid s Body rows none = record {
  order = λ n a e. absurd (no_some (sym (none n) ∙ e));
  numbered = λ n has. absurd (no_row n has);
  cells = λ n t has is. absurd (no_row n has);
}
  where
    no_row : (n : ℕ) → HasRow rows n → ⊥
    no_row n has = true≢false (sym (subst (λ o. IsSome o) (none n) has))

-- what a class with a row is filled with counts for it alone, also with more classes that have none
pub same_laid : {K : Type 0} (s : Scheme K) (Body : Bodies K) (rows ds : List (Option (Added ℕ))) → ((n : ℕ) → row_at ds n ≡ row_at rows n) → IsLaid s Body rows → IsLaid s Body ds
same_laid s Body rows ds same laid = record {
  order = λ n a e. HaveRowsBelow_equal rows ds same n a.parents (laid.order n a (sym (same n) ∙ e));
  numbered = λ n has. laid.numbered n (had n has);
  cells = λ n t has is. subst (λ o. Answers Body t o (answerer s.classes (s.method t) (s.key n))) (sym (inherited_equal rows ds same n t)) (laid.cells n t (had n has) is);
}
  where
    had : (n : ℕ) → HasRow ds n → HasRow rows n
    had n has = subst (λ o. IsSome o) (same n) has
