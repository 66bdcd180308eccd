-- The row of one class more.
use Rattle.std.proofs.Common.{◌≡◌, ◌≢◌, ◌⊎◌, ℕ, zero, suc, ◌+◌, ◌<◌, ◌≤◌, inl, inr, true, false, List, [], ◌∷◌, ◌++◌, length, map, Option, Some, None, IsSome, is_some, slice_get, slice_set, refl, sym, ap, ◌∙◌, subst, arith, true≢false, length-append}
use Rattle.std.specs.Option.{option_map}
use Rattle.std.proofs.lemmas.Bool.{cases_eq}
use Rattle.std.proofs.lemmas.List.{length-set}
use Rattle.std.proofs.lemmas.Option.{slice_get_within}
use Rattle.som_model.specs.declared.key.ClassKey.{ClassKey}
use Rattle.som_model.specs.Lists.{Mem}
use Rattle.som_model.specs.Hierarchy.{Hierarchy}
use Rattle.som_model.specs.Ancestors.{Descends, itself, by_parent}
use Rattle.som_model.specs.Class.{Class}
use Rattle.som_model.specs.Classes.{hierarchy}
use Rattle.som_model.specs.Kernel.{kernel}
use Rattle.som_model.specs.Implementation.{has_body}
use Rattle.som_model_laws.proofs.Members.{Apart, mem_split}
use Rattle.som_model_laws.proofs.Lists.{apart_both, get_mem, map_mem, mem_map}
use Rattle.som_tables.specs.Rows.{Added, AreDistinct, AreInherited, GivesTokens, HasRow, HasToken, KeepsOtherRows, own_at, HaveRowsBelow, IsDeclared, SomeHasToken, class_with, inherited, replaced_at}
use Rattle.som_tables.specs.Layout.{Extends}
use Rattle.som_tables.proofs.Options.{slice_get-append_left, slice_get-append_right}
use Rattle.som_tables.proofs.Inherited.{first_some_where, own_at_within}
use Rattle.som_tables.proofs.LateRows.{Filled-set}
use Rattle.som_meta.specs.Numbering.{IsNumbered, IsToken, Numbering, key_at, method_at, names_of}
use Rattle.som_class_layout_laws.specs.Laying.{Answers, Bodies, IsBody, IsLaid, IsRow, Replaces}
use Rattle.som_class_layout_laws.proofs.Rows.{laid_filled, parents_have}
use Rattle.som_class_layout_laws.specs.Schemes.{numbered, scheme_of}
use Rattle.som_class_bodies.specs.declared.body.BodyAt.{BodyAt}
use Rattle.som_class_bodies.specs.Bodies.{AreBodies, AreSourced, HaveParentRows, IsSourced, body_of, rows_with}
use Rattle.som_class_bodies.specs.Adding.{AreOfClass, AreOthers, AreOwn, AreSelected, IsSelected, cells_from, methods_of, numbers_from}
use Rattle.som_class_bodies.proofs.Lists.{mem_all}
use Rattle.som_class_bodies.proofs.Cells.{cell_from, cell_tokens, distinct, mem_replaced, method_get, methods_length, number_get, numbers_length, replaced_mem, token_get, tokens_both, tokens_in, tokens_length}
use Rattle.som_class_bodies.proofs.Run.{IsRun, names_few, scheme}

keep : {K : Type 0} (Old New : Bodies K) (t : ℕ × ℕ) → ((b : ℕ) (y : K) → IsBody Old b y t → IsBody New b y t) → (o : Option ℕ) (w : Option K) → Answers Old t o w → Answers New t o w
keep Old New t f None None a = tt
keep Old New t f (Some b) (Some y) a = f b y a
keep Old New t f None (Some y) a = absurd a
keep Old New t f (Some b) None a = absurd a

abbrev pub seen : Numbering → BodyAt → ClassKey × (ℕ × ℕ)
seen k x = (key_at k x.class, x.method)

-- a body of a number stays where more are added
pub body_stays : (k : Numbering) (old now : List BodyAt) → Extends old now → (b : ℕ) (y : ClassKey) (t : ℕ × ℕ) → IsBody (body_of k old) b y t → IsBody (body_of k now) b y t
body_stays k old now ext b y t e = by (slice_get old b) refl e
  where
    by : (o : Option BodyAt) → slice_get old b ≡ o → option_map (seen k) o ≡ Some (y, t) → body_of k now b ≡ Some (y, t)
    by None f g = absurd (cc)
    by (Some x) f g = ap (option_map (seen k)) (ext b x f) ∙ g

-- more bodies leave the rows as they are
pub more_bodies : (k : Numbering) (rows : List (Option (Added ℕ))) (old now : List BodyAt) → AreBodies k (rows_with rows old) → Extends old now → AreSourced k now → AreBodies k (rows_with rows now)
more_bodies k rows old now is ext sourced = record {
  each = is.each;
  laid = record {
    order = is.laid.order;
    numbered = is.laid.numbered;
    cells = λ n t has tok. keep (body_of k old) (body_of k now) t (λ b y. body_stays k old now ext b y t) (inherited rows n t) _ (is.laid.cells n t has tok);
  };
  sourced = sourced;
  tokens = is.tokens;
}

-- bodies of a class, added to others, are right where these are
pub sourced_more : (k : Numbering) (n : ℕ) (old more : List BodyAt) → AreSourced k old → AreOfClass k n more → AreSourced k (old ++ more)
sourced_more k n old more have new b x e = by old b have e
  where
    by : (xs : List BodyAt) (b : ℕ) → AreSourced k xs → slice_get (xs ++ more) b ≡ Some x → IsSourced k x
    by [] b h e = (new x (get_mem more b x e)).1
    by (y ∷ xs) zero h e = h 0 x e
    by (y ∷ xs) (suc b) h e = by xs b (λ i z f. h (suc i) z f) e

module _ (cs : List Class) (ks : List ClassKey) (run : IsRun cs ks) where
  abbrev k : Numbering
  k = numbered cs ks

  abbrev h : Hierarchy ClassKey
  h = hierarchy (kernel ++ cs)

  module _ (rows : List (Option (Added ℕ))) (before : List BodyAt) (laid : AreBodies k (rows_with rows before)) (n : ℕ) (num : IsNumbered k n)
      (parents : List ℕ) (keys : map (key_at k) parents ≡ h.parents (key_at k n)) (lower : (p : ℕ) → Mem p parents → p < n) (have : HaveParentRows k (rows_with rows before) n)
      (own others : List BodyAt) (sel : List ((ℕ × ℕ) × ℕ)) (owns : AreOwn k n own) (other : AreOthers k n others) (chosen : AreSelected k rows n sel) where
    abbrev after : List BodyAt
    after = before ++ own ++ others

    abbrev cells : List ((ℕ × ℕ) × ℕ)
    cells = cells_from (length (before ++ own)) others

    abbrev replaced : List ((ℕ × ℕ) × ℕ)
    replaced = sel ++ cells

    abbrev row : Added ℕ
    row = class_with parents (numbers_from (length before) (length own)) replaced

    parent_row : (p : ℕ) → Mem p parents → (p < n) × HasRow rows p
    parent_row p m =
        let less = lower p m in
        let lt = num in
        (less, have p (omega (arith, less, lt)) (subst (λ l. Mem (key_at k p) l) keys (mem_map (key_at k) p parents m)))

    below : HaveRowsBelow n rows parents
    below = mem_all (λ p. (p < n) × HasRow rows p) parents parent_row

    body_here : (b : ℕ) (x : BodyAt) (t : ℕ × ℕ) → slice_get after b ≡ Some x → x.class ≡ n → x.method ≡ t → IsBody (body_of k after) b (key_at k n) t
    body_here b x t e c m = ap (option_map (seen k)) e ∙ ap (λ c. Some (key_at k c, x.method)) c ∙ ap (λ u. Some (key_at k n, u)) m

    own_count : length own ≡ length (names_of k n)
    own_count = sym (methods_length own) ∙ ap length owns.methods ∙ tokens_length n 0 (length (names_of k n))

    own_body : (i : ℕ) → i < length (names_of k n) → (b : ℕ) × (slice_get (numbers_from (length before) (length own)) i ≡ Some b) × IsBody (body_of k after) b (key_at k n) (n, i)
    own_body i lt =
        let many = own_count in
        let less : i < length own = omega (arith, lt, many) in
        let sum : 0 + i ≡ i = omega arith in
        let w = method_get own i (n, i) (ap (λ l. slice_get l i) owns.methods ∙ token_get n 0 (length (names_of k n)) i lt ∙ ap (λ z. Some (n, z)) sum) in
        let long = length-append before own in
        let inside : length before + i < length (before ++ own) = omega (arith, less, long) in
        let at : slice_get after (length before + i) ≡ Some w.0 = slice_get-append_left (before ++ own) others (length before + i) inside ∙ slice_get-append_right before own i ∙ w.1 in
        (length before + i, number_get (length before) (length own) i less, body_here (length before + i) w.0 (n, i) at (owns.each w.0 (get_mem own i w.0 w.1)).0 w.2)

    -- a cell of a body for a method of another class
    other_body : (r : (ℕ × ℕ) × ℕ) → Mem r cells → IsBody (body_of k after) r.1 (key_at k n) r.0 × IsToken k r.0 × (r.0.0 ≢ n) × (has_body (kernel ++ cs) (method_at k r.0) (key_at k n) ≡ true)
    other_body r m =
        let w = cell_from (length (before ++ own)) others r m in
        let mem = get_mem others w.0 w.1 w.2 in
        let s = other.each w.1 mem in
        let at : slice_get after r.1 ≡ Some w.1 = ap (slice_get after) w.4 ∙ slice_get-append_right (before ++ own) others w.0 ∙ w.2 in
        let has : has_body (kernel ++ cs) (method_at k w.1.method) (key_at k w.1.class) ≡ true = ap is_some s.1.has in (
          body_here r.1 w.1 r.0 at s.0 (sym w.3),
          subst (λ t. IsToken k t) (sym w.3) s.1.method,
          subst (λ (t : ℕ × ℕ). t.0 ≢ n) (sym w.3) (other.other w.1 mem),
          subst (λ t. has_body (kernel ++ cs) (method_at k t) (key_at k n) ≡ true) (sym w.3) (subst (λ c. has_body (kernel ++ cs) (method_at k w.1.method) (key_at k c) ≡ true) s.0 has),
        )

    -- what is replaced is one or the other
    entry : (t : ℕ × ℕ) (b : ℕ) → replaced_at replaced t ≡ Some b → IsSelected k rows n (t, b) ⊎ Mem (t, b) cells
    entry t b e = elim (mem_split (t, b) sel cells (replaced_mem replaced t b e)) [ inl m ↦ inl (chosen.each (t, b) m) | inr m ↦ inr m ]

    in_left : (t : ℕ × ℕ) → Mem t (tokens_in sel) → Mem t (tokens_in replaced)
    in_left t m = subst (λ l. Mem t l) (sym (tokens_both sel cells)) (left t (tokens_in sel) m)
      where
        left : (t : ℕ × ℕ) (xs : List (ℕ × ℕ)) → Mem t xs → Mem t (xs ++ tokens_in cells)
        left t [] m = absurd m
        left t (x ∷ xs) (inl e) = inl e
        left t (x ∷ xs) (inr m) = inr (left t xs m)

    in_right : (t : ℕ × ℕ) → Mem t (methods_of others) → Mem t (tokens_in replaced)
    in_right t m = subst (λ l. Mem t l) (sym (tokens_both sel cells)) (right t (tokens_in sel) (subst (λ l. Mem t l) (sym (cell_tokens (length (before ++ own)) others)) m))
      where
        right : (t : ℕ × ℕ) (xs : List (ℕ × ℕ)) → Mem t (tokens_in cells) → Mem t (xs ++ tokens_in cells)
        right t [] m = m
        right t (x ∷ xs) m = inr (right t xs m)

    value : (t : ℕ × ℕ) → Mem t (tokens_in replaced) → (b : ℕ) × (replaced_at replaced t ≡ Some b)
    value t m = by (replaced_at replaced t) refl (mem_replaced replaced t m)
      where
        by : (q : Option ℕ) → replaced_at replaced t ≡ q → IsSome q → (b : ℕ) × (replaced_at replaced t ≡ Some b)
        by None e s = absurd (true≢false (sym s))
        by (Some b) e s = (b, e)

    no_cell : (t : ℕ × ℕ) → ((b : ℕ) → replaced_at replaced t ≡ Some b → ⊥) → replaced_at replaced t ≡ None
    no_cell t away = by (replaced_at replaced t) refl
      where
        by : (q : Option ℕ) → replaced_at replaced t ≡ q → q ≡ None
        by None e = refl
        by (Some b) e = absurd (away b e)

    replaces : (t : ℕ × ℕ) → IsToken k t → Replaces (scheme_of k) (body_of k after) rows n t (replaced_at replaced t)
    replaces t is = record {
      body = λ ne e. (let v = value t (in_right t (other.all t is ne e)) in (
        v.0,
        v.1,
        elim (entry t v.0 v.1) [
          | inl s ↦ absurd (true≢false (sym e ∙ s.no_body))
          | inr m ↦ (other_body (t, v.0) m).0
        ],
      ));
      chosen = λ p e c. (let v = value t (in_left t (chosen.all t is (ap is_some c))) in elim (entry t v.0 v.1) [
        | inl s ↦ (s.cell.parent, (let same : Some (key_at k s.cell.parent) ≡ Some p = sym s.cell.chosen ∙ c in cc), s.cell.has_row, v.1 ∙ s.cell.is)
        | inr m ↦ absurd (true≢false (sym (other_body (t, v.0) m).3 ∙ e))
      ]);
      nothing = λ e c. no_cell t (λ b f. elim (entry t b f) [
        | inl s ↦ (let none : Some (key_at k s.cell.parent) ≡ None = sym s.cell.chosen ∙ c in cc)
        | inr m ↦ true≢false (sym (other_body (t, b) m).3 ∙ e)
      ]);
      own = λ e. no_cell t (λ b f. elim (entry t b f) [ inl s ↦ s.other e | inr m ↦ (other_body (t, b) m).2 e ]);
    }

    is_row : IsRow (scheme_of k) (body_of k after) rows n row
    is_row = record { numbered = num; parents = keys; below = below; own = own_body; replaced = replaces }

    apart_tokens : Apart (tokens_in replaced)
    apart_tokens = subst Apart (sym (tokens_both sel cells)) (apart_both (tokens_in sel) (tokens_in cells) chosen.apart (subst Apart (sym (cell_tokens (length (before ++ own)) others)) other.apart) away)
      where
        away : (t : ℕ × ℕ) → Mem t (tokens_in sel) → Mem t (tokens_in cells) → ⊥
        away t m q =
            let r = map_mem (λ (r : (ℕ × ℕ) × ℕ). r.0) t sel m in
            let s = map_mem (λ (r : (ℕ × ℕ) × ℕ). r.0) t cells q in
            let no' = (chosen.each r.0 r.1).no_body in
            let yes' = (other_body s.0 s.1).3 in
            true≢false (sym (subst (λ u. has_body (kernel ++ cs) (method_at k u) (key_at k n) ≡ true) (sym s.2) yes') ∙ subst (λ u. has_body (kernel ++ cs) (method_at k u) (key_at k n) ≡ false) (sym r.2) no')

    -- what is replaced is a method of a proper ancestor
    descends : (r : (ℕ × ℕ) × ℕ) → Mem r replaced → IsToken k r.0 × (r.0.0 ≢ n) × Descends h (key_at k n) (method_at k r.0).class
    descends r m = elim (mem_split r sel cells m) [
      | inl q ↦ (
          let s = chosen.each r q in
          let picks = ((scheme cs ks run).methods r.0 s.token).picks in
          (s.token, s.other, by_parent (key_at k s.cell.parent) (picks.parent (key_at k n) (key_at k s.cell.parent) s.cell.chosen) (picks.below (key_at k n) (key_at k s.cell.parent) s.cell.chosen)))
      | inr q ↦ (let s = other_body r q in (s.1, s.2, (scheme cs ks run).below r.0 n s.1 num s.3))
    ]

    pub distinct_row : AreDistinct replaced
    distinct_row = distinct replaced apart_tokens

    pub inherited_row : AreInherited rows parents replaced
    inherited_row = mem_all (λ (r : (ℕ × ℕ) × ℕ). SomeHasToken rows parents r.0) replaced
        (λ r m. let d = descends r m in parents_have (scheme_of k) (scheme cs ks run) (body_of k before) rows laid.laid n row num keys below r.0 d.0 d.1 d.2)

    pub below_row : HaveRowsBelow n rows parents
    below_row = below

    sourced : AreSourced k after
    sourced = sourced_more k n (before ++ own) others (sourced_more k n before own laid.sourced owns.each) other.each

    -- the new row has no tokens but those of methods of its class or an ancestor
    tokens_now : (now : List (Option (Added ℕ))) → KeepsOtherRows rows now n → GivesTokens rows now n row → (m : ℕ) (t : ℕ × ℕ) → HasToken now m t → IsToken k t × Descends h (key_at k m) (method_at k t).class
    tokens_now now kept gives m t has = elim (cases_eq m n) [
      | inl e ↦ subst (λ i. IsToken k t × Descends h (key_at k i) (method_at k t).class) (sym e) (by ((gives t).0 (subst (λ i. HasToken now i t) e has)))
      | inr ne ↦ laid.tokens m t (subst (λ q. IsSome q) (kept m ne t) has)
    ]
      where
        by : SomeHasToken rows parents t ⊎ IsSome (own_at n (numbers_from (length before) (length own)) t) → IsToken k t × Descends h (key_at k n) (method_at k t).class
        by (inl s) =
            let r = first_some_where (λ p. Mem p parents) (λ p. inherited rows p t) parents (mem_all (λ p. Mem p parents) parents (λ p m. m)) s in
            let w = laid.tokens r.0 t r.2 in
            (w.0, by_parent (key_at k r.0) (subst (λ l. Mem (key_at k r.0) l) keys (mem_map (key_at k) r.0 parents r.1)) w.1)
        by (inr s) =
            let r = own_at_within n (numbers_from (length before) (length own)) t s in
            let class = r.0 in
            let many = own_count in
            let long = numbers_length (length before) (length own) in
            let less = r.1 in
            let within : t.1 < length (names_of k n) = omega (arith, less, long, many) in (
              (subst (λ i. IsNumbered k i) (sym class) num, subst (λ i. t.1 < length (names_of k i)) (sym class) within),
              subst (λ i. Descends h (key_at k i) (key_at k t.0)) class itself,
            )

    pub few_own : length (numbers_from (length before) (length own)) ≤ 65535
    few_own =
        let many = own_count in
        let long = numbers_length (length before) (length own) in
        let few = names_few cs ks run n in
        omega (arith, many, long, few)

    pub filled_row : IsDeclared rows n → (now : List (Option (Added ℕ))) → now ≡ slice_set rows n (Some row) → KeepsOtherRows rows now n → GivesTokens rows now n row → AreBodies k (rows_with now after)
    filled_row declared now is kept gives = record {
      each = ap length is ∙ length-set rows n (Some row) ∙ laid.each;
      laid = subst (λ l. IsLaid (scheme_of k) (body_of k after) l) (sym is)
          (laid_filled (scheme_of k) (scheme cs ks run) (body_of k before) rows laid.laid n row (body_of k after) (body_stays k before after stays) is_row (slice_set rows n (Some row)) (Filled-set rows n row declared));
      sourced = sourced;
      tokens = tokens_now now kept gives;
    }
      where
        stays : Extends before after
        stays i x e =
            let w = slice_get_within before i x e in
            let long = length-append before own in
            slice_get-append_left (before ++ own) others i (omega (arith, w, long)) ∙ slice_get-append_left before own i w ∙ e
