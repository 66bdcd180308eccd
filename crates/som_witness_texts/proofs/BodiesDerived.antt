-- The grammar derives the trees of the bodies and of the main of the tokens of their pieces.
use Rattle.std.proofs.Common.{◌≡◌, ℕ, zero, suc, ◌+◌, ◌<◌, ◌≤◌, ◌^◌, true, List, [], ◌∷◌, ◌++◌, length, map, Some, None, refl, sym, ap, subst, ◌∙◌, append_assoc, arith}
use Rattle.std.specs.Prelude.{⊤, codes}
use Rattle.std.specs.Fmt.{decimal}
use Rattle.som_model.specs.declared.limits.TheConstants.{MAX_NESTING}
use Rattle.som_model.specs.declared.key.ClassKey.{ClassKey}
use Rattle.som_model.specs.declared.key.MethodRef.{MethodRef}
use Rattle.som_model.specs.declared.key.ValueType.{ValueType}
use Rattle.som_model.specs.declared.key.ValueType.TheVariants as types
use Rattle.som_lex.specs.declared.token.TokenKind.{TokenKind}
use Rattle.som_lex.specs.declared.token.TokenKind.TheVariants as kinds
use Rattle.som_lex.specs.Values.{inside_of, text_of}
use Rattle.som_lex_laws.specs.Pieces.{Piece, Space, Bytes, bytes_at, seen_in}
use Rattle.som_lex_laws.proofs.Joined.{bytes_append, seen_append, tokens_in}
use Rattle.som_parse.specs.Languages.{Listed, the_first, the_next}
use Rattle.som_parse.specs.Seen.{seen_as}
use Rattle.som_parse.specs.Words.{key_of, sign_of, is_refused_declaration, is_refused_type, is_refused_modifier, interface_word, statement_word, expression_word, type_word}
use Rattle.som_parse.specs.declared.token.Key.{Key}
use Rattle.som_parse.specs.declared.token.Key.TheVariants as key
use Rattle.som_parse.specs.declared.token.Sign.TheVariants as sign
use Rattle.som_parse.specs.declared.token.Token.{Token}
use Rattle.som_parse.specs.declared.token.Token.TheVariants as token
use Rattle.som_ast.specs.declared.words.Word.{Word}
use Rattle.som_ast.specs.declared.expression.ExprText.{ExprText}
use Rattle.som_ast.specs.declared.expression.ExprText.TheVariants as expr
use Rattle.som_ast.specs.declared.body.BodyFile.{BodyFile}
use Rattle.som_ast.specs.declared.body.StmtText.{StmtText}
use Rattle.som_ast.specs.declared.body.StmtText.TheVariants as stmt
use Rattle.som_body.specs.Grammar as g
use Rattle.som_body.specs.Levels.{top, down}
use Rattle.som_body.specs.Statements as s
use Rattle.som_body.proofs.CallForms.{step_is_call}
use Rattle.som_body.proofs.LevelLists.{down_low, top_append}
use Rattle.som_witness.specs.Showings.{Showing, StandsBelow, KeepsObject, Overrides, CallsSlot, Calls, Passes, KeepsParameter, ReturnsNothing, ReturnsVariable, ReturnsAnswer, ReturnsClass}
use Rattle.som_witness.specs.Wording.{class_text}
use Rattle.som_witness_texts.specs.Trees.{word_at, name_at, zero_tree, zero_trees, zero_trees_with, parameter_words, listed_tokens, first_statement, body_tree, call_on_c, set_v, return_v, bodies_tree, main_tree}
use Rattle.som_witness_texts.proofs.Words.{digits, plain_p}
use Rattle.som_witness_texts.proofs.TextPieces.{Item, piece_of, listed_pieces, word_item, word, sign as sign_piece, parameter_items, zero_item, zero_items, zero_items_with, block_end, body_pieces, call_pieces, set_pieces, return_pieces, c_items, over_body, bodies_pieces, main_pieces}

-- ---- lists

listed_cons : {A : Type 0} (L : List Token → A → Type 0) (u v : List Token) (a : A) (xs : List A) → L u a → Listed L v xs → Listed L (u ++ token.Mark sign.Comma ∷ v) (a ∷ xs)
listed_cons L u _ a _ e (the_first f) = the_next (the_first e) f
listed_cons L u _ a _ e (the_next {u = v} {v = w} {as' = ys} {a = b} h f) =
    subst (λ t. Listed L t (a ∷ (ys ++ b ∷ []))) (append_assoc u (token.Mark sign.Comma ∷ v) (token.Mark sign.Comma ∷ w)) (the_next (listed_cons L u v a ys e h) f)

list_tokens : (xs : List Item) → tokens_in (listed_pieces xs) ≡ listed_tokens (length xs)
list_tokens [] = refl
list_tokens (x ∷ []) = refl
list_tokens (x ∷ y ∷ xs) = let e = list_tokens (y ∷ xs) in omega (arith, e)

items_length : (n : ℕ) (ts : List ValueType) → length (parameter_items n ts) ≡ length ts
items_length n [] = refl
items_length n (t ∷ ts) = ap suc (items_length (suc n) ts)

zeros_top : {A : Type 0} (xs : List A) → top (map (λ x. 0) xs) ≡ 0
zeros_top [] = refl
zeros_top (x ∷ xs) = let e = zeros_top xs in omega (arith, e)

low_body : (n l : List ℕ) → top n ≡ 0 → top l ≤ 4 → top (0 ∷ 0 ∷ 0 ∷ (n ++ 0 ∷ (l ++ 0 ∷ []))) ≤ MAX_NESTING
low_body n l e le = omega (arith, e, le, top_append l (0 ∷ []), top_append n (0 ∷ (l ++ 0 ∷ [])))

-- what has to hold of names and numbers, by how the breach is shown
abbrev pub AreSaid : MethodRef → Showing → Type 0
AreSaid m StandsBelow = ⊤
AreSaid m (KeepsObject a) = ⊤
AreSaid m (Overrides params) = length params < 2 ^ 64
AreSaid m (CallsSlot params) = ⊥
AreSaid m (Calls params) = ⊤
AreSaid m (Passes params j kind) = ⊤
AreSaid m (KeepsParameter params j kind) = (length params < 2 ^ 64) × (j < 2 ^ 64)
AreSaid m (ReturnsNothing params) = length params < 2 ^ 64
AreSaid m (ReturnsVariable params kind) = length params < 2 ^ 64
AreSaid m (ReturnsAnswer params kind) = ⊤
AreSaid m (ReturnsClass k) = g.is_name (key_of (class_text m.class)) ≡ true

module _ (text_at : ℕ → List ℕ) where
  -- from this place on, the tokens have the bytes of these pieces
  abbrev Holds : ℕ → List Piece → Type 0
  Holds q ps = (i : ℕ) → text_at (q + i) ≡ bytes_at i ps

  there : (q : ℕ) (ps : List Piece) (i p : ℕ) → Holds q ps → p ≡ q + i → text_at p ≡ bytes_at i ps
  there q ps i p h e = subst (λ n. text_at n ≡ bytes_at i ps) (sym e) (h i)

  later : (q : ℕ) (kind : TokenKind) (bs : List ℕ) (ps : List Piece) → Holds q (Bytes kind bs ∷ ps) → Holds (q + 1) ps
  later q kind bs ps h i = let e : q + suc i ≡ q + 1 + i = omega arith in subst (λ n. text_at n ≡ bytes_at i ps) e (h (suc i))

  behind : (q : ℕ) (xs ys : List Piece) → Holds q (xs ++ ys) → Holds (q + tokens_in xs) ys
  behind q xs ys h i =
      let e : q + (tokens_in xs + i) ≡ q + tokens_in xs + i = omega arith in
      subst (λ n. text_at n ≡ bytes_at i ys) e (h (tokens_in xs + i) ∙ bytes_append xs ys i)

  word_here : (k : Key) (p q : ℕ) (bs : List ℕ) → p ≡ q → text_at p ≡ bs → g.IsWord text_at (token.Word k p ∷ []) (word_at q bs)
  word_here k p q bs e same =
      subst (λ n. g.IsWord text_at (token.Word k p ∷ []) (word_at n bs)) e (subst (λ (t : List ℕ). g.IsWord text_at (token.Word k p ∷ []) (word_at p t)) same (g.a_word k p))

  name_here : (k : Key) (p : ℕ) (bs : List ℕ) → g.is_name k ≡ true → text_at p ≡ bs → g.IsName text_at (token.Word k p ∷ []) (word_at p bs)
  name_here k p bs e same = subst (λ (t : List ℕ). g.IsName text_at (token.Word k p ∷ []) (word_at p t)) same (g.a_name k p e)

  -- ---- expressions

  whole : {l : List ℕ} {u : List Token} {a : ExprText} → g.IsPostfix text_at l u a → g.IsExpr text_at l u a
  whole x = g.no_or (g.no_and (g.no_not (g.no_comparison (g.no_sum (g.no_product (g.no_minus (g.no_cast x)))))))

  alone : {l : List ℕ} {u : List Token} {a : ExprText} → g.IsPrimary text_at l u a → g.IsExpr text_at l u a
  alone x = whole (g.a_stepped (g.no_step x))

  name_atom : (k : Key) (p q : ℕ) (bs : List ℕ) → k ≡ key.Plain → p ≡ q → text_at p ≡ bs → g.atom text_at (token.Word k p) ≡ Some (name_at q bs)
  name_atom k p q bs e f same =
      subst (λ j. g.atom text_at (token.Word j p) ≡ Some (name_at q bs)) (sym e)
      (ap (λ (t : List ℕ). Some (name_at p t)) same ∙ ap (λ n. Some (name_at n bs)) f)

  abbrev Atoms : ℕ → List Item → List ExprText → Type 0
  Atoms q [] [] = ⊤
  Atoms q [] (a ∷ xs) = ⊥
  Atoms q (x ∷ xs) [] = ⊥
  Atoms q (x ∷ xs) (a ∷ ys) = (g.atom text_at (seen_as x.0 x.1 q) ≡ Some a) × Atoms (q + 1 + 1) xs ys

  zero_atom : (q : ℕ) (t : ValueType) → text_at q ≡ (zero_item t).1 → g.atom text_at (seen_as (zero_item t).0 (zero_item t).1 q) ≡ Some (zero_tree t)
  unfolding is_refused_declaration is_refused_type is_refused_modifier type_word interface_word statement_word expression_word inside_of
  zero_atom q types.Void same = refl
  zero_atom q types.Long same = refl
  zero_atom q types.Boolean same = refl
  zero_atom q types.Str same = ap (λ (b : List ℕ). Some (expr.Literal (text_of b))) same
  zero_atom q (types.Class k) same = refl

  first_there : (q : ℕ) (x : Item) (rest : List Piece) → Holds q (piece_of x ∷ rest) → text_at q ≡ x.1
  first_there q x rest h = let e : q ≡ q + 0 = omega arith in there q (piece_of x ∷ rest) 0 q h e

  comma_later : (q : ℕ) (x : Item) (rest : List Piece) → Holds q (piece_of x ∷ sign_piece (codes ",") ∷ Space ∷ rest) → Holds (q + 1 + 1) rest
  comma_later q x rest h = later (q + 1) kinds.Sign (codes ",") (Space ∷ rest) (later q x.0 x.1 (sign_piece (codes ",") ∷ Space ∷ rest) h)

  zero_atoms : (q : ℕ) (ts : List ValueType) (rest : List Piece) → Holds q (listed_pieces (zero_items ts) ++ rest) → Atoms q (zero_items ts) (zero_trees ts)
  zero_atoms q [] rest h = tt
  zero_atoms q (t ∷ []) rest h = (zero_atom q t (first_there q (zero_item t) rest h), tt)
  zero_atoms q (t ∷ r ∷ ts) rest h =
      let tail = listed_pieces (zero_items (r ∷ ts)) ++ rest in
      (zero_atom q t (first_there q (zero_item t) (sign_piece (codes ",") ∷ Space ∷ tail) h), zero_atoms (q + 1 + 1) (r ∷ ts) rest (comma_later q (zero_item t) tail h))

  x_atom : (q : ℕ) → text_at q ≡ codes "x" → g.atom text_at (seen_as kinds.Word (codes "x") q) ≡ Some (name_at q (codes "x"))
  unfolding is_refused_declaration is_refused_type is_refused_modifier type_word interface_word statement_word expression_word
  x_atom q same = name_atom key.Plain q q (codes "x") refl refl same

  zero_with_atoms : (q n : ℕ) (ts : List ValueType) (rest : List Piece) → Holds q (listed_pieces (zero_items_with n ts) ++ rest) → Atoms q (zero_items_with n ts) (zero_trees_with q n ts)
  zero_with_atoms q zero [] rest h = tt
  zero_with_atoms q (suc n) [] rest h = tt
  zero_with_atoms q zero (t ∷ []) rest h = (x_atom q (first_there q (word_item (codes "x")) rest h), tt)
  zero_with_atoms q zero (t ∷ r ∷ ts) rest h =
      let tail = listed_pieces (zero_items (r ∷ ts)) ++ rest in
      (x_atom q (first_there q (word_item (codes "x")) (sign_piece (codes ",") ∷ Space ∷ tail) h), zero_atoms (q + 1 + 1) (r ∷ ts) rest (comma_later q (word_item (codes "x")) tail h))
  zero_with_atoms q (suc zero) (t ∷ []) rest h = (zero_atom q t (first_there q (zero_item t) rest h), tt)
  zero_with_atoms q (suc (suc n)) (t ∷ []) rest h = (zero_atom q t (first_there q (zero_item t) rest h), tt)
  zero_with_atoms q (suc zero) (t ∷ r ∷ ts) rest h =
      let tail = listed_pieces (zero_items_with zero (r ∷ ts)) ++ rest in
      let e : q + 1 + 1 ≡ q + 2 = omega arith in (
        zero_atom q t (first_there q (zero_item t) (sign_piece (codes ",") ∷ Space ∷ tail) h),
        subst (λ p. Atoms (q + 1 + 1) (zero_items_with zero (r ∷ ts)) (zero_trees_with p zero (r ∷ ts))) e (zero_with_atoms (q + 1 + 1) zero (r ∷ ts) rest (comma_later q (zero_item t) tail h)),
      )
  zero_with_atoms q (suc (suc n)) (t ∷ r ∷ ts) rest h =
      let tail = listed_pieces (zero_items_with (suc n) (r ∷ ts)) ++ rest in
      let e : q + 1 + 1 ≡ q + 2 = omega arith in (
        zero_atom q t (first_there q (zero_item t) (sign_piece (codes ",") ∷ Space ∷ tail) h),
        subst (λ p. Atoms (q + 1 + 1) (zero_items_with (suc n) (r ∷ ts)) (zero_trees_with p (suc n) (r ∷ ts))) e (zero_with_atoms (q + 1 + 1) (suc n) (r ∷ ts) rest (comma_later q (zero_item t) tail h)),
      )

  -- ---- arguments

  record Given (u : List Token) (xs : List ExprText) : Type 0 where
    pub levels : List ℕ
    pub low : top levels ≤ 1
    pub derives : g.IsExprs text_at levels u xs

  exprs_cons : {l m : List ℕ} {u v : List Token} {a : ExprText} {xs : List ExprText} → g.IsExpr text_at l u a → g.IsExprs text_at m v xs → g.IsExprs text_at (l ++ 0 ∷ m) (u ++ token.Mark sign.Comma ∷ v) (a ∷ xs)
  exprs_cons e (g.first_argument f) = g.next_argument (g.first_argument e) f
  exprs_cons {l = l} {u = u} {a = a} e (g.next_argument {l = m} {m = n} {u = v} {v = w} {g = ys} {a = b} h f) =
      subst (λ k. g.IsExprs text_at k (u ++ token.Mark sign.Comma ∷ (v ++ token.Mark sign.Comma ∷ w)) (a ∷ (ys ++ b ∷ []))) (append_assoc l (0 ∷ m) (0 ∷ n))
      (subst (λ t. g.IsExprs text_at ((l ++ 0 ∷ m) ++ 0 ∷ n) t (a ∷ (ys ++ b ∷ []))) (append_assoc u (token.Mark sign.Comma ∷ v) (token.Mark sign.Comma ∷ w)) (g.next_argument (exprs_cons e h) f))

  args_given : (q : ℕ) (x : Item) (xs : List Item) (a : ExprText) (ys : List ExprText) → Atoms q (x ∷ xs) (a ∷ ys) → Given (seen_in q (listed_pieces (x ∷ xs))) (a ∷ ys)
  unfolding sign_of
  args_given q x [] a [] h = record { levels = 1 ∷ []; low = omega arith; derives = g.first_argument (alone (g.an_atom (seen_as x.0 x.1 q) h.0)) }
  args_given q x [] a (b ∷ ys) h = absurd h.1
  args_given q x (y ∷ xs) a [] h = absurd h.1
  args_given q x (y ∷ xs) a (b ∷ ys) h =
      let more = args_given (q + 1 + 1) y xs b ys h.1 in
      record { levels = 1 ∷ 0 ∷ more.levels; low = (let le = more.low in omega (arith, le)); derives = exprs_cons (alone (g.an_atom (seen_as x.0 x.1 q) h.0)) more.derives }

  record Arguments (u : List Token) (xs : List ExprText) : Type 0 where
    pub levels : List ℕ
    pub low : top levels ≤ 1
    pub derives : g.IsArguments text_at levels u xs

  arguments_of : (q : ℕ) (xs : List Item) (ys : List ExprText) → Atoms q xs ys → Arguments (token.Mark sign.Open ∷ (seen_in q (listed_pieces xs) ++ token.Mark sign.Close ∷ [])) ys
  arguments_of q [] [] h = record { levels = 0 ∷ 0 ∷ []; low = omega arith; derives = g.no_arguments }
  arguments_of q [] (a ∷ ys) h = absurd h
  arguments_of q (x ∷ xs) [] h = absurd h
  arguments_of q (x ∷ xs) (a ∷ ys) h =
      let given = args_given q x xs a ys h in
      record { levels = 0 ∷ (given.levels ++ 0 ∷ []); low = (let le = given.low in omega (arith, le, top_append given.levels (0 ∷ []))); derives = g.some_arguments given.derives }

  -- a call on c
  abbrev call_tokens : Key → ℕ → List Item → List Token
  call_tokens k q args = token.Word key.Plain q ∷ token.Mark sign.Dot ∷ token.Word k (q + 1 + 1) ∷ token.Mark sign.Open ∷ (seen_in (q + 1 + 1 + 1 + 1) (listed_pieces args) ++ token.Mark sign.Close ∷ [])

  record Called (u : List Token) (a : ExprText) : Type 0 where
    pub inner : List ℕ
    pub low : top inner ≤ 2
    pub derives : g.IsStepped text_at (1 ∷ inner) u a

  call_here : (k : Key) (q p r : ℕ) (m : List ℕ) (args : List Item) (ys : List ExprText) → q ≡ p → q + 1 + 1 ≡ r → text_at q ≡ codes "c" → text_at (q + 1 + 1) ≡ m → Atoms (q + 1 + 1 + 1 + 1) args ys
      → Called (call_tokens k q args) (expr.Call (name_at p (codes "c")) (word_at r m) ys)
  call_here k q p r m args ys e f same named h =
      let given = arguments_of (q + 1 + 1 + 1 + 1) args ys h in
      record {
        inner = 2 ∷ 1 ∷ down given.levels;
        low = (let le = given.low in omega (arith, down_low given.levels 1 le));
        derives = g.a_step (g.no_step (g.an_atom (token.Word key.Plain q) (name_atom key.Plain q p (codes "c") refl e same))) (word_here k (q + 1 + 1) r m f named) given.derives;
      }

  -- ---- statements

  record Stated (u : List Token) (xs : List StmtText) : Type 0 where
    pub levels : List ℕ
    pub low : top levels ≤ 4
    pub derives : s.IsStmts text_at levels u xs

  none_stated : Stated [] []
  none_stated = record { levels = []; low = omega arith; derives = s.no_statement }

  one_stated : {l : List ℕ} {u : List Token} {a : StmtText} → s.IsStmt text_at l u a → top l ≤ 4 → Stated u (a ∷ [])
  one_stated {l = l} h le = record { levels = l; low = le; derives = s.one_statement s.no_statement h }

  call_stated : (k : Key) (q : ℕ) (args : List Item) (a : ExprText) (m : Word) (ys : List ExprText) → Called (call_tokens k q args) (expr.Call a m ys)
      → Stated (call_tokens k q args ++ token.Mark sign.Semicolon ∷ []) (stmt.Call (expr.Call a m ys) ∷ [])
  call_stated k q args a m ys c =
      let le = c.low in
      let inside : top (0 ∷ (c.inner ++ 0 ∷ [])) ≤ 3 = omega (arith, le, top_append c.inner (0 ∷ [])) in
      one_stated (s.a_call (g.a_stepped c.derives) (step_is_call a m ys)) (down_low (0 ∷ (c.inner ++ 0 ∷ [])) 3 inside)

  return_call_stated : (k : Key) (q : ℕ) (args : List Item) (a : ExprText) (p : ℕ) → Called (call_tokens k q args) a
      → Stated (token.Word key.Return p ∷ (call_tokens k q args ++ token.Mark sign.Semicolon ∷ [])) (stmt.Return (Some a) ∷ [])
  return_call_stated k q args a p c =
      let le = c.low in
      let inside : top (0 ∷ ((1 ∷ c.inner) ++ 0 ∷ [])) ≤ 3 = omega (arith, le, top_append c.inner (0 ∷ [])) in
      one_stated (s.a_return_value (whole (g.a_stepped c.derives))) (down_low (0 ∷ ((1 ∷ c.inner) ++ 0 ∷ [])) 3 inside)

  set_stated : (k : Key) (f : ℕ) (bs : List ℕ) (rest : List Piece) → k ≡ key.Plain → Holds f (set_pieces bs ++ rest)
      → Stated (token.Word key.SomThis f ∷ token.Mark sign.Dot ∷ token.Word key.Plain (f + 1 + 1) ∷ token.Mark sign.Assign ∷ token.Word k (f + 1 + 1 + 1 + 1) ∷ token.Mark sign.Semicolon ∷ [])
      (set_v f (name_at (f + 4) bs) ∷ [])
  set_stated k f bs rest e h =
      let a : f + 1 + 1 ≡ f + 2 = omega arith in
      let b : f + 1 + 1 + 1 + 1 ≡ f + 4 = omega arith in
      let value = name_atom k (f + 1 + 1 + 1 + 1) (f + 4) bs e b (there f (set_pieces bs ++ rest) 4 (f + 1 + 1 + 1 + 1) h b) in
      one_stated (s.a_set_variable (word_here key.Plain (f + 1 + 1) (f + 2) (codes "v") a (there f (set_pieces bs ++ rest) 2 (f + 1 + 1) h a)) (alone (g.an_atom (token.Word k (f + 1 + 1 + 1 + 1)) value))) (omega arith)

  return_v_stated : (f : ℕ) (rest : List Piece) → Holds f (return_pieces (Space ∷ word (codes "somThis") ∷ sign_piece (codes ".") ∷ word (codes "v") ∷ []) ++ rest)
      → Stated (token.Word key.Return f ∷ token.Word key.SomThis (f + 1) ∷ token.Mark sign.Dot ∷ token.Word key.Plain (f + 1 + 1 + 1) ∷ token.Mark sign.Semicolon ∷ []) (return_v f ∷ [])
  return_v_stated f rest h =
      let e : f + 1 + 1 + 1 ≡ f + 3 = omega arith in
      let variable = word_here key.Plain (f + 1 + 1 + 1) (f + 3) (codes "v") e (there f (return_pieces (Space ∷ word (codes "somThis") ∷ sign_piece (codes ".") ∷ word (codes "v") ∷ []) ++ rest) 3 (f + 1 + 1 + 1) h e) in
      one_stated (s.a_return_value (alone (g.a_variable variable))) (omega arith)

  -- ---- parameters

  parameter_name : (n q : ℕ) → n < 2 ^ 64 → text_at q ≡ codes "p" ++ decimal n → g.IsName text_at (token.Word (key_of (codes "p" ++ decimal n)) q ∷ []) (word_at q (codes "p" ++ decimal n))
  parameter_name n q lt same = name_here (key_of (codes "p" ++ decimal n)) q (codes "p" ++ decimal n) (ap g.is_name (plain_p (decimal n) (digits n lt).1)) same

  parameters_given : (q n : ℕ) (t : ValueType) (ts : List ValueType) (rest : List Piece) → n + length (t ∷ ts) ≤ 2 ^ 64 → Holds q (listed_pieces (parameter_items n (t ∷ ts)) ++ rest)
      → Listed (g.IsName text_at) (seen_in q (listed_pieces (parameter_items n (t ∷ ts)))) (parameter_words q n (t ∷ ts))
  unfolding sign_of
  parameters_given q n t [] rest le h = the_first (parameter_name n q (omega (arith, le)) (first_there q (word_item (codes "p" ++ decimal n)) rest h))
  parameters_given q n t (r ∷ ts) rest le h =
      let x = word_item (codes "p" ++ decimal n) in
      let tail = listed_pieces (parameter_items (suc n) (r ∷ ts)) ++ rest in
      let e : q + 1 + 1 ≡ q + 2 = omega arith in
      let more = parameters_given (q + 1 + 1) (suc n) r ts rest (omega (arith, le)) (comma_later q x tail h) in
      let v = seen_in (q + 1 + 1) (listed_pieces (parameter_items (suc n) (r ∷ ts))) in
      listed_cons (g.IsName text_at) (token.Word (key_of (codes "p" ++ decimal n)) q ∷ []) v (word_at q (codes "p" ++ decimal n)) (parameter_words (q + 2) (suc n) (r ∷ ts))
      (parameter_name n q (omega (arith, le)) (first_there q x (sign_piece (codes ",") ∷ Space ∷ tail) h)) (subst (λ p. Listed (g.IsName text_at) v (parameter_words p (suc n) (r ∷ ts))) e more)

  parameters_here : (params : List ValueType) (rest : List Piece) → length params < 2 ^ 64 → Holds 4 (listed_pieces (parameter_items 0 params) ++ rest)
      → s.IsParams text_at (token.Mark sign.Open ∷ (seen_in 4 (listed_pieces (parameter_items 0 params)) ++ token.Mark sign.Close ∷ [])) (parameter_words 4 0 params)
  parameters_here [] rest lt h = s.no_params
  parameters_here (t ∷ ts) rest lt h = s.some_params (parameters_given 4 0 t ts rest (omega (arith, lt)) h)

  -- ---- bodies

  -- where the statements of a body with these parameters begin
  abbrev begins : List Item → ℕ
  begins params = 4 + tokens_in (listed_pieces params) + 1 + 1

  abbrev body_tokens : Key → Key → List Token → List Token → List Token
  body_tokens k j u v = token.Word k 0 ∷ token.Mark sign.DoubleColon ∷ token.Word j 2 ∷ token.Mark sign.Open ∷ (u ++ token.Mark sign.Close ∷ token.Mark sign.OpenBrace ∷ (v ++ token.Mark sign.CloseBrace ∷ []))

  body_seen : (w m : List ℕ) (params : List Item) (statements : List Piece)
      → seen_in 0 (body_pieces w m params statements) ≡ body_tokens (key_of w) (key_of m) (seen_in 4 (listed_pieces params)) (seen_in (begins params) statements)
  unfolding sign_of
  body_seen w m params statements =
      let front : List Token → List Token = λ (ts : List Token). token.Word (key_of w) 0 ∷ token.Mark sign.DoubleColon ∷ token.Word (key_of m) 2 ∷ token.Mark sign.Open ∷ ts in
      let u = seen_in 4 (listed_pieces params) in
      ap front (seen_append 4 (listed_pieces params) (sign_piece (codes ")") ∷ Space ∷ sign_piece (codes "{") ∷ (statements ++ block_end))
      ∙ ap (λ (ts : List Token). u ++ token.Mark sign.Close ∷ token.Mark sign.OpenBrace ∷ ts) (seen_append (begins params) statements block_end))

  pub record Whole (u : List Token) (f : BodyFile) : Type 0 where
    pub levels : List ℕ
    pub low : top levels ≤ MAX_NESTING
    pub derives : s.IsBodyFile text_at levels u f

  body_derived : (k j : Key) (w m : List ℕ) (u v : List Token) (ns : List Word) (xs : List StmtText) → text_at 0 ≡ w → text_at 2 ≡ m
      → s.IsParams text_at (token.Mark sign.Open ∷ (u ++ token.Mark sign.Close ∷ [])) ns → Stated v xs
      → Whole (body_tokens k j u v) (record { bodies = body_tree w m ns xs ∷ [] })
  body_derived k j w m u v ns xs same there params stated =
      let block = token.Mark sign.OpenBrace ∷ (v ++ token.Mark sign.CloseBrace ∷ []) in
      let opened = token.Mark sign.Open ∷ (u ++ token.Mark sign.Close ∷ []) in
      let inner = stated.levels ++ 0 ∷ [] in
      let none = map (λ t. 0) opened in
      let body = s.a_body (word_here k 0 0 w refl same) (word_here j 2 2 m refl there) params (s.a_block stated.derives) in
      let file = s.a_body_file (s.one_body s.no_body body) in
      record {
        levels = 0 ∷ 0 ∷ 0 ∷ (none ++ 0 ∷ inner);
        low = low_body none stated.levels (zeros_top opened) stated.low;
        derives = subst (λ (ts : List Token). s.IsBodyFile text_at (0 ∷ 0 ∷ 0 ∷ (none ++ 0 ∷ inner)) (token.Word k 0 ∷ token.Mark sign.DoubleColon ∷ token.Word j 2 ∷ token.Mark sign.Open ∷ ts) (record { bodies = body_tree w m ns xs ∷ [] }))
            (append_assoc u (token.Mark sign.Close ∷ []) block) file;
      }

  -- ---- by how the breach is shown

  module _ (w m : List ℕ) (params : List Item) (statements : List Piece) (h : (p : ℕ) → text_at p ≡ bytes_at p (body_pieces w m params statements)) where
    after_open : Holds 4 (listed_pieces params ++ sign_piece (codes ")") ∷ Space ∷ sign_piece (codes "{") ∷ (statements ++ block_end))
    after_open i = let e : suc (suc (suc (suc i))) ≡ 4 + i = omega arith in
        subst (λ n. text_at n ≡ bytes_at i (listed_pieces params ++ sign_piece (codes ")") ∷ Space ∷ sign_piece (codes "{") ∷ (statements ++ block_end))) e (h (suc (suc (suc (suc i)))))

    inside : Holds (begins params) (statements ++ block_end)
    inside =
        let close = Space ∷ sign_piece (codes "{") ∷ (statements ++ block_end) in
        let q = 4 + tokens_in (listed_pieces params) in
        later (q + 1) kinds.Sign (codes "{") (statements ++ block_end) (later q kinds.Sign (codes ")") close (behind 4 (listed_pieces params) (sign_piece (codes ")") ∷ close) after_open))

    body_whole : (ns : List Word) (xs : List StmtText) → s.IsParams text_at (token.Mark sign.Open ∷ (seen_in 4 (listed_pieces params) ++ token.Mark sign.Close ∷ [])) ns → Stated (seen_in (begins params) statements) xs
        → Whole (seen_in 0 (body_pieces w m params statements)) (record { bodies = body_tree w m ns xs ∷ [] })
    body_whole ns xs named stated =
        subst (λ (ts : List Token). Whole ts (record { bodies = body_tree w m ns xs ∷ [] })) (sym (body_seen w m params statements))
        (body_derived (key_of w) (key_of m) w m (seen_in 4 (listed_pieces params)) (seen_in (begins params) statements) ns xs (h 0) (h 2) named stated)

  call_seen : (q : ℕ) (m : List ℕ) (args : List Item) → seen_in q (call_pieces m args) ≡ call_tokens (key_of m) q args ++ token.Mark sign.Semicolon ∷ []
  unfolding is_refused_declaration is_refused_type is_refused_modifier type_word interface_word statement_word expression_word sign_of
  call_seen q m args =
      let u = seen_in (q + 1 + 1 + 1 + 1) (listed_pieces args) in
      ap (λ (ts : List Token). token.Word key.Plain q ∷ token.Mark sign.Dot ∷ token.Word (key_of m) (q + 1 + 1) ∷ token.Mark sign.Open ∷ ts)
      (seen_append (q + 1 + 1 + 1 + 1) (listed_pieces args) (sign_piece (codes ")") ∷ sign_piece (codes ";") ∷ []) ∙ sym (append_assoc u (token.Mark sign.Close ∷ []) (token.Mark sign.Semicolon ∷ [])))

  -- what follows the opening parenthesis of a call
  arguments_inside : (q : ℕ) (m : List ℕ) (args : List Item) (rest : List Piece) → Holds q (call_pieces m args ++ rest) → Holds (q + 1 + 1 + 1 + 1) (listed_pieces args ++ sign_piece (codes ")") ∷ sign_piece (codes ";") ∷ rest)
  arguments_inside q m args rest h =
      let last = sign_piece (codes ")") ∷ sign_piece (codes ";") ∷ [] in
      let t = (listed_pieces args ++ last) ++ rest in
      let a = later q kinds.Word (codes "c") (sign_piece (codes ".") ∷ word m ∷ sign_piece (codes "(") ∷ t) h in
      let b = later (q + 1) kinds.Sign (codes ".") (word m ∷ sign_piece (codes "(") ∷ t) a in
      let c = later (q + 1 + 1) kinds.Word m (sign_piece (codes "(") ∷ t) b in
      let d = later (q + 1 + 1 + 1) kinds.Sign (codes "(") t c in
      subst (λ (ps : List Piece). Holds (q + 1 + 1 + 1 + 1) ps) (append_assoc (listed_pieces args) last rest) d

  called : (q p r : ℕ) (m : List ℕ) (args : List Item) (ys : List ExprText) (rest : List Piece) → q ≡ p → q + 1 + 1 ≡ r → Holds q (call_pieces m args ++ rest) → Atoms (q + 1 + 1 + 1 + 1) args ys
      → Called (call_tokens (key_of m) q args) (expr.Call (name_at p (codes "c")) (word_at r m) ys)
  called q p r m args ys rest e f h atoms =
      let a : q ≡ q + 0 = omega arith in
      let b : q + 1 + 1 ≡ q + 2 = omega arith in
      call_here (key_of m) q p r m args ys e f (there q (call_pieces m args ++ rest) 0 q h a) (there q (call_pieces m args ++ rest) 2 (q + 1 + 1) h b) atoms

  call_statement : (q p r : ℕ) (m : List ℕ) (args : List Item) (ys : List ExprText) (rest : List Piece) → q ≡ p → q + 1 + 1 ≡ r → Holds q (call_pieces m args ++ rest) → Atoms (q + 1 + 1 + 1 + 1) args ys
      → Stated (seen_in q (call_pieces m args)) (stmt.Call (expr.Call (name_at p (codes "c")) (word_at r m) ys) ∷ [])
  call_statement q p r m args ys rest e f h atoms =
      subst (λ (ts : List Token). Stated ts (stmt.Call (expr.Call (name_at p (codes "c")) (word_at r m) ys) ∷ [])) (sym (call_seen q m args))
      (call_stated (key_of m) q args (name_at p (codes "c")) (word_at r m) ys (called q p r m args ys rest e f h atoms))

  return_statement : (before q p r : ℕ) (m : List ℕ) (args : List Item) (ys : List ExprText) (rest : List Piece) → q ≡ p → q + 1 + 1 ≡ r → Holds q (call_pieces m args ++ rest) → Atoms (q + 1 + 1 + 1 + 1) args ys
      → Stated (token.Word key.Return before ∷ seen_in q (call_pieces m args)) (stmt.Return (Some (expr.Call (name_at p (codes "c")) (word_at r m) ys)) ∷ [])
  return_statement before q p r m args ys rest e f h atoms =
      subst (λ (ts : List Token). Stated (token.Word key.Return before ∷ ts) (stmt.Return (Some (expr.Call (name_at p (codes "c")) (word_at r m) ys)) ∷ [])) (sym (call_seen q m args))
      (return_call_stated (key_of m) q args (expr.Call (name_at p (codes "c")) (word_at r m) ys) before (called q p r m args ys rest e f h atoms))

  begins_first : (params : List ValueType) → begins (parameter_items 0 params) ≡ first_statement (length params)
  begins_first params =
      let e : tokens_in (listed_pieces (parameter_items 0 params)) ≡ listed_tokens (length params) = list_tokens (parameter_items 0 params) ∙ ap listed_tokens (items_length 0 params) in
      omega (arith, e)

  module _ (w : List ℕ) (m : MethodRef) where
    abbrev Derives : Showing → Type 0
    Derives x = ((p : ℕ) → text_at p ≡ bytes_at p (bodies_pieces w m x)) → AreSaid m x → Whole (seen_in 0 (bodies_pieces w m x)) (bodies_tree w m x)

    one_name : text_at 4 ≡ codes "c" → s.IsParams text_at (token.Mark sign.Open ∷ token.Word key.Plain 4 ∷ token.Mark sign.Close ∷ []) (word_at 4 (codes "c") ∷ [])
    one_name e = s.some_params (the_first (name_here key.Plain 4 (codes "c") refl e))

    two_names : text_at 4 ≡ codes "c" → text_at 6 ≡ codes "x"
        → s.IsParams text_at (token.Mark sign.Open ∷ token.Word key.Plain 4 ∷ token.Mark sign.Comma ∷ token.Word key.Plain 6 ∷ token.Mark sign.Close ∷ []) (word_at 4 (codes "c") ∷ word_at 6 (codes "x") ∷ [])
    two_names e f = s.some_params (the_next (the_first (name_here key.Plain 4 (codes "c") refl e)) (name_here key.Plain 6 (codes "x") refl f))

    object_derived : (a : ClassKey) → Derives (KeepsObject a)
    unfolding is_refused_declaration is_refused_type is_refused_modifier type_word interface_word statement_word expression_word sign_of
    object_derived a h n =
        body_whole w (codes "g") c_items (set_pieces (codes "c")) h (word_at 4 (codes "c") ∷ []) (set_v 7 (name_at 11 (codes "c")) ∷ []) (one_name (h 4))
        (set_stated key.Plain 7 (codes "c") block_end refl (inside w (codes "g") c_items (set_pieces (codes "c")) h))

    calls_derived : (params : List ValueType) → Derives (Calls params)
    unfolding is_refused_declaration is_refused_type is_refused_modifier type_word interface_word statement_word expression_word sign_of
    calls_derived params h n =
        let args = zero_items params in
        let statements = Space ∷ call_pieces m.name args in
        let in_block : Holds 7 (call_pieces m.name args ++ block_end) = inside w (codes "g") c_items statements h in
        let atoms = zero_atoms 11 params (sign_piece (codes ")") ∷ sign_piece (codes ";") ∷ block_end) (arguments_inside 7 m.name args block_end in_block) in
        body_whole w (codes "g") c_items statements h (word_at 4 (codes "c") ∷ []) (stmt.Call (call_on_c 7 m.name (zero_trees params)) ∷ []) (one_name (h 4))
        (call_statement 7 7 9 m.name args (zero_trees params) block_end refl refl in_block atoms)

    passes_derived : (params : List ValueType) (j : ℕ) (kind : ValueType) → Derives (Passes params j kind)
    unfolding is_refused_declaration is_refused_type is_refused_modifier type_word interface_word statement_word expression_word sign_of
    passes_derived params j kind h n =
        let args = zero_items_with j params in
        let names = word_item (codes "c") ∷ word_item (codes "x") ∷ [] in
        let statements = Space ∷ call_pieces m.name args in
        let in_block : Holds 9 (call_pieces m.name args ++ block_end) = inside w (codes "g") names statements h in
        let atoms = zero_with_atoms 13 j params (sign_piece (codes ")") ∷ sign_piece (codes ";") ∷ block_end) (arguments_inside 9 m.name args block_end in_block) in
        body_whole w (codes "g") names statements h (word_at 4 (codes "c") ∷ word_at 6 (codes "x") ∷ []) (stmt.Call (call_on_c 9 m.name (zero_trees_with 13 j params)) ∷ []) (two_names (h 4) (h 6))
        (call_statement 9 9 11 m.name args (zero_trees_with 13 j params) block_end refl refl in_block atoms)

    answer_derived : (params : List ValueType) (kind : ValueType) → Derives (ReturnsAnswer params kind)
    unfolding is_refused_declaration is_refused_type is_refused_modifier type_word interface_word statement_word expression_word sign_of
    answer_derived params kind h n =
        let args = zero_items params in
        let statements = Space ∷ word (codes "return") ∷ Space ∷ call_pieces m.name args in
        let in_block : Holds 8 (call_pieces m.name args ++ block_end) = later 7 kinds.Word (codes "return") (Space ∷ (call_pieces m.name args ++ block_end)) (inside w (codes "g") c_items statements h) in
        let atoms = zero_atoms 12 params (sign_piece (codes ")") ∷ sign_piece (codes ";") ∷ block_end) (arguments_inside 8 m.name args block_end in_block) in
        body_whole w (codes "g") c_items statements h (word_at 4 (codes "c") ∷ []) (stmt.Return (Some (call_on_c 8 m.name (zero_trees params))) ∷ []) (one_name (h 4))
        (return_statement 7 8 8 10 m.name args (zero_trees params) block_end refl refl in_block atoms)

    class_derived : (k : ClassKey) → Derives (ReturnsClass k)
    unfolding is_refused_declaration is_refused_type is_refused_modifier type_word interface_word statement_word expression_word sign_of
    class_derived k h n =
        let statements = return_pieces (Space ∷ word (codes "class") ∷ Space ∷ word (class_text m.class) ∷ []) in
        let in_block = inside w (codes "g") [] statements h in
        let named = name_here (key_of (class_text m.class)) 8 (class_text m.class) n (in_block 2) in
        body_whole w (codes "g") [] statements h [] (stmt.Return (Some (expr.Class (word_at 8 (class_text m.class)))) ∷ []) s.no_params
        (one_stated (s.a_return_value (alone (g.a_class named))) (omega arith))

    -- an override with these statements
    over_whole : (params : List ValueType) (statements : List Piece) (xs : List StmtText) → ((p : ℕ) → text_at p ≡ bytes_at p (over_body w m params statements)) → length params < 2 ^ 64
        → Stated (seen_in (begins (parameter_items 0 params)) statements) xs → Whole (seen_in 0 (over_body w m params statements)) (record { bodies = body_tree w m.name (parameter_words 4 0 params) xs ∷ [] })
    over_whole params statements xs h lt stated =
        let rest = sign_piece (codes ")") ∷ Space ∷ sign_piece (codes "{") ∷ (statements ++ block_end) in
        body_whole w m.name (parameter_items 0 params) statements h (parameter_words 4 0 params) xs (parameters_here params rest lt (after_open w m.name (parameter_items 0 params) statements h)) stated

    keeps_derived : (params : List ValueType) (j : ℕ) (kind : ValueType) → Derives (KeepsParameter params j kind)
    unfolding is_refused_declaration is_refused_type is_refused_modifier type_word interface_word statement_word expression_word sign_of
    keeps_derived params j kind h n =
        let name = codes "p" ++ decimal j in
        let f = begins (parameter_items 0 params) in
        let in_block = inside w m.name (parameter_items 0 params) (set_pieces name) h in
        let stated = set_stated (key_of name) f name block_end (plain_p (decimal j) (digits j n.1).1) in_block in
        over_whole params (set_pieces name) (set_v (first_statement (length params)) (name_at (first_statement (length params) + 4) name) ∷ []) h n.0
        (subst (λ p. Stated (seen_in f (set_pieces name)) (set_v p (name_at (p + 4) name) ∷ [])) (begins_first params) stated)

    nothing_derived : (params : List ValueType) → Derives (ReturnsNothing params)
    unfolding is_refused_declaration is_refused_type is_refused_modifier type_word interface_word statement_word expression_word sign_of
    nothing_derived params h n = over_whole params (return_pieces []) (stmt.Return None ∷ []) h n (one_stated s.a_return (omega arith))

    variable_derived : (params : List ValueType) (kind : ValueType) → Derives (ReturnsVariable params kind)
    unfolding is_refused_declaration is_refused_type is_refused_modifier type_word interface_word statement_word expression_word sign_of
    variable_derived params kind h n =
        let statements = return_pieces (Space ∷ word (codes "somThis") ∷ sign_piece (codes ".") ∷ word (codes "v") ∷ []) in
        let f = begins (parameter_items 0 params) in
        let in_block = inside w m.name (parameter_items 0 params) statements h in
        over_whole params statements (return_v (first_statement (length params)) ∷ []) h n
        (subst (λ p. Stated (seen_in f statements) (return_v p ∷ [])) (begins_first params) (return_v_stated f block_end in_block))

    pub bodies_derived : (x : Showing) → Derives x
    bodies_derived StandsBelow h n = record { levels = []; low = omega arith; derives = s.a_body_file s.no_body }
    bodies_derived (KeepsObject a) h n = object_derived a h n
    bodies_derived (Overrides params) h n = over_whole params [] [] h n none_stated
    bodies_derived (CallsSlot params) h n = absurd n
    bodies_derived (Calls params) h n = calls_derived params h n
    bodies_derived (Passes params j kind) h n = passes_derived params j kind h n
    bodies_derived (KeepsParameter params j kind) h n = keeps_derived params j kind h n
    bodies_derived (ReturnsNothing params) h n = nothing_derived params h n
    bodies_derived (ReturnsVariable params kind) h n = variable_derived params kind h n
    bodies_derived (ReturnsAnswer params kind) h n = answer_derived params kind h n
    bodies_derived (ReturnsClass k) h n = class_derived k h n

  -- ---- the main

  pub main_derived : s.IsMainFile text_at (0 ∷ 0 ∷ 0 ∷ []) (seen_in 0 main_pieces) main_tree
  unfolding is_refused_declaration is_refused_type is_refused_modifier type_word interface_word statement_word expression_word sign_of
  main_derived = s.a_main_file (s.a_block s.no_statement)
