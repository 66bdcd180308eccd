-- The readers of arguments and of primary expressions read their languages.
use Rattle.std.proofs.Common.{◌≡◌, ℕ, ◌+◌, max, List, [], ◌∷◌, ◌++◌, refl, arith}
use Rattle.std.proofs.lemmas.List.{append-nil}
use Rattle.som_parse.specs.Languages.{Lang}
use Rattle.som_parse.specs.Readers.{Parser}
use Rattle.som_parse.specs.declared.cursor.Turn.{Turn}
use Rattle.som_parse.specs.declared.cursor.Turn.TheVariants.{More, Done}
use Rattle.som_parse.specs.declared.token.Key.TheVariants as key
use Rattle.som_parse.specs.declared.token.Sign.TheVariants as sign
use Rattle.som_parse.specs.declared.token.Token.{Token}
use Rattle.som_parse.specs.declared.token.Token.TheVariants as token
use Rattle.som_parse.proofs.Laws.{Lawful, Member, bind_law, pure_law, stop_law}
use Rattle.som_parse.proofs.Steps.{after_sign, after_key, expect_then}
use Rattle.som_parse.proofs.Turns.{IsLong}
use Rattle.som_body.specs.Grammar as g
use Rattle.som_body.specs.Levels.{top, down}
use Rattle.som_body.specs.Reading as r
use Rattle.som_body.specs.Reading.{tall, given}
use Rattle.som_body.specs.declared.level.Given.{Given}
use Rattle.som_body.specs.declared.level.Line.{Line}
use Rattle.som_body.specs.declared.level.Line.TheVariants as line
use Rattle.som_body.specs.declared.level.Tall.{Tall}
use Rattle.som_ast.specs.declared.expression.ExprText.TheVariants as expr
use Rattle.som_body.proofs.LevelLists.{top_append, level_eq}
use Rattle.som_body.proofs.OperatorLaws.{by_table_law, turned}
use Rattle.som_body.proofs.WordLaws.{any_word_law, name_law, host_law}

module _ (text_at : ℕ → List ℕ) where
  -- the language of each line
  abbrev pub OnLine : Line → Lang Tall
  OnLine line.Primary u a = (l : List ℕ) × (top l ≡ a.height) × g.IsPrimary text_at l u a.tree
  OnLine line.Postfix u a = (l : List ℕ) × (top l ≡ a.height) × g.IsPostfix text_at l u a.tree
  OnLine line.Cast u a = (l : List ℕ) × (top l ≡ a.height) × g.IsCast text_at l u a.tree
  OnLine line.Unary u a = (l : List ℕ) × (top l ≡ a.height) × g.IsUnary text_at l u a.tree
  OnLine line.Prod u a = (l : List ℕ) × (top l ≡ a.height) × g.IsProd text_at l u a.tree
  OnLine line.Sum u a = (l : List ℕ) × (top l ≡ a.height) × g.IsSum text_at l u a.tree
  OnLine line.Cmp u a = (l : List ℕ) × (top l ≡ a.height) × g.IsCmp text_at l u a.tree
  OnLine line.Neg u a = (l : List ℕ) × (top l ≡ a.height) × g.IsNeg text_at l u a.tree
  OnLine line.Conj u a = (l : List ℕ) × (top l ≡ a.height) × g.IsConj text_at l u a.tree
  OnLine line.Expr u a = (l : List ℕ) × (top l ≡ a.height) × g.IsExpr text_at l u a.tree

  abbrev pub Arguments : Lang Given
  Arguments u x = (l : List ℕ) × (top l ≡ x.height) × g.IsArguments text_at l u x.args

  abbrev pub Exprs : Lang Given
  Exprs u x = (l : List ℕ) × (top l ≡ x.height) × g.IsExprs text_at l u x.args

  pub some_primary : Member (OnLine line.Primary)
  some_primary = record { tokens = token.Number 0 ∷ []; value = tall (expr.Number 0) 1; reads = (down (0 ∷ []), refl, g.an_atom (token.Number 0) refl) }

  -- ---- args
  data Argument (a : Given) : List Token → Turn Given Given → Type 0 where
    no_argument : Argument a [] (Done a)
    an_argument : {v : List Token} {b : Tall} → OnLine line.Expr v b → Argument a (token.Mark sign.Comma ∷ v) (More (given (a.args ++ b.tree ∷ []) (max a.height b.height)))

  onwards_argument : (u v : List Token) (a c : Given) → Exprs u a → Argument a v (More c) → Exprs (u ++ v) c
  onwards_argument u v a c h (an_argument i) = (h.0 ++ 0 ∷ i.0, omega (arith, h.1, i.1, top_append h.0 (0 ∷ i.0)), g.next_argument h.2 i.2)

  last_argument : (v : List Token) (a b : Given) → Argument a v (Done b) → (v ≡ []) × (b ≡ a)
  last_argument v a b no_argument = (refl, refl)

  long_argument : (a c : Given) (u : List Token) → Argument a u (More c) → IsLong u
  long_argument a c u (an_argument h) = omega arith

  module _ (inner : Line → Parser Tall) (law : (l : Line) → Lawful (OnLine l) (inner l)) where
    argument_law : (a : Given) → Lawful (Argument a) (r.argument text_at inner a)
    argument_law a = after_sign (Argument a) _ _ sign.Comma (bind_law (OnLine line.Expr) _ _ _ (law line.Expr) (λ v b h. pure_law _ _ (rw append-nil (an_argument h)))) (pure_law _ _ no_argument)

    listed_law : Lawful Exprs (r.arguments_listed text_at inner)
    unfolding r.arguments_listed
    listed_law = bind_law (OnLine line.Expr) Exprs _ _ (law line.Expr) (λ u a h.
        turned Exprs Argument (r.argument text_at inner) onwards_argument last_argument (λ x. no_argument) long_argument argument_law u (given (a.tree ∷ []) a.height) (h.0, h.1, g.first_argument h.2))

    pub arguments_law : Lawful Arguments (r.arguments text_at inner)
    unfolding r.arguments
    arguments_law = expect_then Arguments _ sign.Open (after_sign _ _ _ sign.Close (pure_law _ (given [] 0) (0 ∷ 0 ∷ [], refl, g.no_arguments))
        (bind_law Exprs _ _ _ listed_law (λ u a h. expect_then _ _ sign.Close (pure_law _ a (0 ∷ (h.0 ++ 0 ∷ []), omega (arith, h.1, top_append h.0 (0 ∷ [])), g.some_arguments h.2)))))

    -- ---- primary
    own_variable_law : (x : ℕ) → Lawful (λ u. OnLine line.Primary (token.Word key.SomThis x ∷ u)) (r.own_variable text_at inner)
    unfolding r.own_variable
    own_variable_law x = expect_then _ _ sign.Dot (bind_law (g.IsWord text_at) _ _ _ (any_word_law text_at) (λ u w h. pure_law _ (tall (expr.Variable w) 1) (down (0 ∷ 0 ∷ 0 ∷ []), refl, rw append-nil (g.a_variable h))))

    grouped_law : Lawful (λ u. OnLine line.Primary (token.Mark sign.Open ∷ u)) (r.grouped text_at inner)
    unfolding r.grouped
    grouped_law = bind_law (OnLine line.Expr) _ _ _ (law line.Expr) (λ u a h. expect_then _ _ sign.Close (pure_law _ (tall a.tree (a.height + 1)) (down (0 ∷ (h.0 ++ 0 ∷ [])), level_eq (h.0 ++ 0 ∷ []) a.height (omega (arith, h.1, top_append h.0 (0 ∷ []))), g.a_group h.2)))

    length_law : (x : ℕ) → Lawful (λ u. OnLine line.Primary (token.Word key.Length x ∷ u)) (r.measured text_at inner 2)
    unfolding r.measured
    length_law x = expect_then _ _ sign.Open (bind_law (OnLine line.Expr) _ _ _ (law line.Expr) (λ u a h. expect_then _ _ sign.Close (pure_law _ (tall (expr.Unary 2 a.tree) (a.height + 1)) (down (0 ∷ 0 ∷ (h.0 ++ 0 ∷ [])), level_eq (0 ∷ (h.0 ++ 0 ∷ [])) a.height (omega (arith, h.1, top_append h.0 (0 ∷ []))), g.a_length h.2))))

    text_law : (x : ℕ) → Lawful (λ u. OnLine line.Primary (token.Word key.TextOf x ∷ u)) (r.measured text_at inner 3)
    unfolding r.measured
    text_law x = expect_then _ _ sign.Open (bind_law (OnLine line.Expr) _ _ _ (law line.Expr) (λ u a h. expect_then _ _ sign.Close (pure_law _ (tall (expr.Unary 3 a.tree) (a.height + 1)) (down (0 ∷ 0 ∷ (h.0 ++ 0 ∷ [])), level_eq (0 ∷ (h.0 ++ 0 ∷ [])) a.height (omega (arith, h.1, top_append h.0 (0 ∷ []))), g.a_text h.2))))

    new_law : (x : ℕ) → Lawful (λ u. OnLine line.Primary (token.Word key.New x ∷ u)) (r.new_object text_at inner)
    unfolding r.new_object
    new_law x = bind_law (g.IsName text_at) _ _ _ (name_law text_at) (λ u n h. pure_law _ (tall (expr.New n) 1) (down (0 ∷ 0 ∷ []), refl, rw append-nil (g.a_new h)))

    class_law : (x : ℕ) → Lawful (λ u. OnLine line.Primary (token.Word key.Class x ∷ u)) (r.class_object text_at inner)
    unfolding r.class_object
    class_law x = bind_law (g.IsName text_at) _ _ _ (name_law text_at) (λ u n h. pure_law _ (tall (expr.Class n) 1) (down (0 ∷ 0 ∷ []), refl, rw append-nil (g.a_class h)))

    isa_law : (x : ℕ) → Lawful (λ u. OnLine line.Primary (token.Word key.Isa x ∷ u)) (r.isa text_at inner)
    unfolding r.isa
    isa_law x = expect_then _ _ sign.Open (bind_law (OnLine line.Expr) _ _ _ (law line.Expr) (λ u a h. expect_then _ _ sign.Comma
        (bind_law (g.IsName text_at) _ _ _ (name_law text_at) (λ v n i. expect_then _ _ sign.Close (pure_law _ (tall (expr.Isa n a.tree) (a.height + 1)) (down (0 ∷ 0 ∷ (h.0 ++ 0 ∷ 0 ∷ 0 ∷ [])), level_eq (0 ∷ (h.0 ++ 0 ∷ 0 ∷ 0 ∷ [])) a.height (omega (arith, h.1, top_append h.0 (0 ∷ 0 ∷ 0 ∷ []))), g.an_isa h.2 i))))))

    proxy_law : (x : ℕ) → Lawful (λ u. OnLine line.Primary (token.Word key.Proxy x ∷ u)) (r.proxy text_at inner)
    unfolding r.proxy
    proxy_law x = expect_then _ _ sign.Open (bind_law (g.IsName text_at) _ _ _ (name_law text_at) (λ u n h. expect_then _ _ sign.Comma
        (bind_law (OnLine line.Expr) _ _ _ (law line.Expr) (λ v a i. expect_then _ _ sign.Close (pure_law _ (tall (expr.Proxy n a.tree) (a.height + 1)) (down (0 ∷ 0 ∷ 0 ∷ 0 ∷ (i.0 ++ 0 ∷ [])), level_eq (0 ∷ 0 ∷ 0 ∷ (i.0 ++ 0 ∷ [])) a.height (omega (arith, i.1, top_append i.0 (0 ∷ []))), g.a_proxy h i.2))))))

    host_call_law : (x : ℕ) → Lawful (λ u. OnLine line.Primary (token.Word key.Host x ∷ u)) (r.host_call text_at inner)
    unfolding r.host_call
    host_call_law x = bind_law (g.IsHost text_at) _ _ _ (host_law text_at) (λ u c h. expect_then _ _ sign.Open (bind_law (OnLine line.Expr) _ _ _ (law line.Expr) (λ v a i. expect_then _ _ sign.Comma
        (bind_law (OnLine line.Expr) _ _ _ (law line.Expr) (λ w b j. expect_then _ _ sign.Close (pure_law _ (tall (expr.Host c a.tree b.tree) (max a.height b.height + 1)) (down (0 ∷ 0 ∷ 0 ∷ (i.0 ++ 0 ∷ (j.0 ++ 0 ∷ []))), level_eq (0 ∷ 0 ∷ (i.0 ++ 0 ∷ (j.0 ++ 0 ∷ []))) (max a.height b.height) (omega (arith, i.1, j.1, top_append i.0 (0 ∷ (j.0 ++ 0 ∷ [])), top_append j.0 (0 ∷ []))), g.a_host_call h i.2 j.2)))))))

    parent_call_law : (x : ℕ) → Lawful (λ u. OnLine line.Primary (token.Word key.Parent x ∷ u)) (r.parent_call text_at inner)
    unfolding r.parent_call
    parent_call_law x = bind_law (g.IsName text_at) _ _ _ (name_law text_at) (λ u n h. expect_then _ _ sign.Dot (bind_law (g.IsWord text_at) _ _ _ (any_word_law text_at) (λ v m i.
        bind_law Arguments _ _ _ arguments_law (λ w a j. pure_law _ (tall (expr.Parent n m a.args) (a.height + 1)) (down (0 ∷ 0 ∷ 0 ∷ 0 ∷ j.0), level_eq (0 ∷ 0 ∷ 0 ∷ j.0) a.height (omega (arith, j.1)), rw append-nil (g.a_parent_call h i j.2))))))

    parents_call_law : (x : ℕ) → Lawful (λ u. OnLine line.Primary (token.Word key.Parents x ∷ u)) (r.parents_call text_at inner)
    unfolding r.parents_call
    parents_call_law x = expect_then _ _ sign.Dot (bind_law (g.IsWord text_at) _ _ _ (any_word_law text_at) (λ u m h.
        bind_law Arguments _ _ _ arguments_law (λ v a i. pure_law _ (tall (expr.Parents m a.args) (a.height + 1)) (down (0 ∷ 0 ∷ 0 ∷ i.0), level_eq (0 ∷ 0 ∷ i.0) a.height (omega (arith, i.1)), rw append-nil (g.a_parents_call h i.2)))))

    form_law : Lawful (OnLine line.Primary) (r.form text_at inner)
    unfolding r.form
    form_law = after_key (OnLine line.Primary) _ _ key.Isa isa_law (after_key (OnLine line.Primary) _ _ key.Proxy proxy_law (after_key (OnLine line.Primary) _ _ key.Host host_call_law
        (after_key (OnLine line.Primary) _ _ key.Parent parent_call_law (after_key (OnLine line.Primary) _ _ key.Parents parents_call_law (stop_law _ some_primary)))))

    compound_law : Lawful (OnLine line.Primary) (r.compound text_at inner)
    unfolding r.compound
    compound_law = after_sign (OnLine line.Primary) _ _ sign.Open grouped_law (after_key (OnLine line.Primary) _ _ key.SomThis own_variable_law
        (after_key (OnLine line.Primary) _ _ key.Length length_law (after_key (OnLine line.Primary) _ _ key.TextOf text_law
        (after_key (OnLine line.Primary) _ _ key.New new_law (after_key (OnLine line.Primary) _ _ key.Class class_law form_law)))))

    pub primary_law : Lawful (OnLine line.Primary) (r.primary text_at inner)
    unfolding r.primary
    primary_law = by_table_law (OnLine line.Primary) (g.atom text_at) _ _ (λ t a e. pure_law _ (tall a 1) (down (0 ∷ []), refl, g.an_atom t e)) compound_law
