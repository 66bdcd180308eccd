-- The forms of expressions are read, where their parts are.
use Rattle.std.proofs.Common.{◌≡◌, ℕ, zero, suc, ◌+◌, ◌<◌, ◌≤◌, max, List, [], ◌∷◌, ◌++◌, Bool, true, false, Option, Some, None, Ok, Err, refl, sym, ◌∙◌, ap, subst, length-append, arith}
use Rattle.std.proofs.lemmas.Bool.{le-leb, lt-leb}
use Rattle.som_model.specs.declared.syntax.HostCode.{HostCode}
use Rattle.som_parse.specs.Readers.{Outcome, Parser, and_then, ◌>>=◌, pure, expect, repeat}
use Rattle.som_parse.specs.Tokens.{head, is_sign, same_sign, same_key}
use Rattle.som_parse.specs.declared.cursor.Stop.TheVariants.{Nesting}
use Rattle.som_parse.specs.declared.cursor.Turn.{Turn}
use Rattle.som_parse.specs.declared.cursor.Turn.TheVariants.{More, Done}
use Rattle.som_parse.specs.declared.token.Key.TheVariants as key
use Rattle.som_parse.specs.declared.token.Sign.TheVariants as sign
use Rattle.som_parse.specs.declared.token.Token.{Token}
use Rattle.som_parse.specs.declared.token.Token.TheVariants as token
use Rattle.som_ast.specs.declared.words.TypeName.{TypeName}
use Rattle.som_ast.specs.declared.words.Word.{Word}
use Rattle.som_parse.proofs.Found.{expect_found}
use Rattle.som_parse.proofs.Steps.{same_sign_self}
use Rattle.som_body.specs.Grammar as g
use Rattle.som_body.specs.Levels.{top, down}
use Rattle.som_body.specs.Reading as r
use Rattle.som_body.specs.Reading.{tall, given, combined, named_call, named_height}
use Rattle.som_body.specs.declared.level.Given.{Given}
use Rattle.som_body.specs.declared.level.Line.{Line}
use Rattle.som_body.specs.declared.level.Line.TheVariants as line
use Rattle.som_body.specs.declared.level.NamedCall.{NamedCall}
use Rattle.som_body.specs.declared.level.Tall.{Tall}
use Rattle.som_ast.specs.declared.expression.ExprText.{ExprText}
use Rattle.som_ast.specs.declared.expression.ExprText.TheVariants as expr
use Rattle.som_body.proofs.LevelFound.{Found, now, now_one, single, passed, made, next, lifted, Climbs, valued_climbs, leveled_climbs, first_climbs, climbs_end, pushed_chain, level_chain}
use Rattle.som_body.proofs.LevelLists.{top_append, pushed_eq, down_top, down_pushed}
use Rattle.som_body.proofs.Strengths.{strength, Starts, starts_deep, starts_low, starts_not, no_close}
use Rattle.som_body.proofs.WordFound.{any_word_found, name_found, host_found, kind_found, outcome_found}

abbrev pub opening : Token
opening = token.Mark sign.Open

abbrev pub closing : Token
closing = token.Mark sign.Close

abbrev pub comma : Token
comma = token.Mark sign.Comma

abbrev pub dot : Token
dot = token.Mark sign.Dot

pub closes : (z : List Token) → strength (head (closing ∷ z)) < 1
closes z = omega arith

pub commas : (z : List Token) → strength (head (comma ∷ z)) < 1
commas z = omega arith

-- ---- operators
module _ {B : Type 0} (test : Option Token → Bool) (e h : ℕ) (p q : Parser B) where
  pub pushed_room : (t : Token) (w : List Token) → test (Some t) ≡ true → h + 1 ≤ e → r.pushed test e h p q (t ∷ w) ≡ p w
  pushed_room t w is le = rw (is, le-leb (h + 1) e le) refl

  pub pushed_none : (t : Token) (w : List Token) → test (Some t) ≡ true → e < h + 1 → r.pushed test e h p q (t ∷ w) ≡ Err (Nesting, t ∷ w)
  pushed_none t w is gt = rw (is, lt-leb (h + 1) e gt) refl

  pub pushed_end : (z : List Token) → test (head z) ≡ false → r.pushed test e h p q z ≡ q z
  pushed_end z is = rw is refl

module _ {B : Type 0} (ops : Token → Option ℕ) (e h : ℕ) (p : ℕ → Parser B) (q : Parser B) where
  pub operator_room : (t : Token) (op : ℕ) (w : List Token) → ops t ≡ Some op → h + 1 ≤ e → r.operator ops e h p q (t ∷ w) ≡ p op w
  operator_room t op w is le = rw (is, le-leb (h + 1) e le) refl

  pub operator_none : (t : Token) (op : ℕ) (w : List Token) → ops t ≡ Some op → e < h + 1 → r.operator ops e h p q (t ∷ w) ≡ Err (Nesting, t ∷ w)
  operator_none t op w is gt = rw (is, lt-leb (h + 1) e gt) refl

  pub operator_end : (z : List Token) → r.found ops (head z) ≡ None → r.operator ops e h p q z ≡ q z
  operator_end z is = rw is refl

pub and_then_assoc : {A B C : Type 0} (o : Outcome A) (f : A → Parser B) (c : B → Parser C) → and_then (and_then o f) c ≡ and_then o (λ a z. and_then (f a z) c)
and_then_assoc (Ok x) f c = refl
and_then_assoc (Err x) f c = refl

pub and_then_twice : {A B C D : Type 0} (o : Outcome A) (p : Parser B) (f : A → Parser C) (c : C → Parser D)
    → and_then (and_then o (λ a z. and_then (p z) (λ _ y. f a y))) c ≡ and_then o (λ a z. and_then (p z) (λ _ y. and_then (f a y) c))
and_then_twice (Ok x) p f c = and_then_assoc (p x.1) (λ _ y. f x.0 y) c
and_then_twice (Err x) p f c = refl

module _ (text_at : ℕ → List ℕ) where
  -- ---- words
  module _ {d : ℕ} where
    pub word_read : {u : List Token} {w : Word} (z : List Token) → g.IsWord text_at u w → Found d (0 ∷ []) w z (u ++ z) (r.any_word text_at (u ++ z))
    word_read z (g.a_word k p) = now_one (token.Word k p) (any_word_found text_at (g.a_word k p) z)

    pub name_read : {u : List Token} {w : Word} (z : List Token) → g.IsName text_at u w → Found d (0 ∷ []) w z (u ++ z) (r.name text_at (u ++ z))
    name_read z (g.a_name k p e) = now_one (token.Word k p) (name_found text_at (g.a_name k p e) z)

    pub host_read : {u : List Token} {c : HostCode} (z : List Token) → g.IsHost text_at u c → Found d (0 ∷ []) c z (u ++ z) (r.host text_at (u ++ z))
    host_read z (g.a_host k p e) = now_one (token.Word k p) (host_found text_at (g.a_host k p e) z)

    pub kind_read : {u : List Token} {t : TypeName} (z : List Token) → g.IsType text_at u t → Found d (0 ∷ []) t z (u ++ z) (r.kind text_at (u ++ z))
    kind_read z (g.type_long {p = p}) = now_one (token.Word key.Long p) (kind_found text_at g.type_long z)
    kind_read z (g.type_boolean {p = p}) = now_one (token.Word key.Boolean p) (kind_found text_at g.type_boolean z)
    kind_read z (g.type_string {p = p}) = now_one (token.Word key.Str p) (kind_found text_at g.type_string z)
    kind_read z (g.type_class (g.a_name k p e)) = now_one (token.Word k p) (kind_found text_at (g.type_class (g.a_name k p e)) z)

    outcome_kind : {u : List Token} {t : TypeName} (z : List Token) → g.IsType text_at u t → Found d (0 ∷ []) (Some t) z (u ++ z) (r.outcome text_at (u ++ z))
    outcome_kind z (g.type_long {p = p}) = now_one (token.Word key.Long p) (outcome_found text_at (g.result_type g.type_long) z)
    outcome_kind z (g.type_boolean {p = p}) = now_one (token.Word key.Boolean p) (outcome_found text_at (g.result_type g.type_boolean) z)
    outcome_kind z (g.type_string {p = p}) = now_one (token.Word key.Str p) (outcome_found text_at (g.result_type g.type_string) z)
    outcome_kind z (g.type_class (g.a_name k p e)) = now_one (token.Word k p) (outcome_found text_at (g.result_type (g.type_class (g.a_name k p e))) z)

    pub outcome_read : {u : List Token} {t : Option TypeName} (z : List Token) → g.IsResult text_at u t → Found d (0 ∷ []) t z (u ++ z) (r.outcome text_at (u ++ z))
    outcome_read z (g.result_void {p = p}) = now_one (token.Word key.Void p) (outcome_found text_at g.result_void z)
    outcome_read z (g.result_type i) = outcome_kind z i

  abbrev pub inner : ℕ → Line → Parser Tall
  inner d = r.at text_at d

  -- ---- a line, at each number of levels left
  pub at_found : (l : Line) (C : List Token → Type 0) (k : List ℕ) (u : List Token) (x : Tall) → Starts (r.begins l) k u
      → ((d : ℕ) (z : List Token) → C z → Found (suc d) k x z (u ++ z) (r.read text_at (inner d) (suc d) l (u ++ z)))
      → (d : ℕ) (z : List Token) → C z → Found d k x z (u ++ z) (r.at text_at d l (u ++ z))
  unfolding r.at
  at_found l C k u x s f zero z c = let m = f 0 z c in record { taken = m.taken; splits = m.splits; counts = m.counts; fits = λ le. starts_low s le; deep = λ gt. starts_deep z s }
  at_found l C k u x s f (suc d) z c = f d z c

  abbrev pub ExprFound : List ℕ → List Token → ExprText → Type 0
  ExprFound l u a = (d : ℕ) (z : List Token) → strength (head z) < 1 → Found d l (tall a (top l)) z (u ++ z) (r.at text_at d line.Expr (u ++ z))

  abbrev pub ArgsFound : List ℕ → List Token → List ExprText → Type 0
  ArgsFound l u x = (d : ℕ) (z : List Token) → Found d l (given x (top l)) z (u ++ z) (r.arguments text_at (inner d) (u ++ z))

  module _ (d : ℕ) where
    abbrev PrimaryHere : List ℕ → Tall → List Token → List Token → Type 0
    PrimaryHere l x z w = Found (suc d) l x z w (r.primary text_at (inner d) w)

    -- ---- primary
    pub atom_found : (t : Token) (a : ExprText) (z : List Token) → g.atom text_at t ≡ Some a → PrimaryHere (down (0 ∷ [])) (tall a 1) z (t ∷ z)
    unfolding r.primary
    atom_found t a z e = single (down (0 ∷ [])) (t ∷ []) refl refl (rw e refl)

    pub variable_found : (p : ℕ) {u : List Token} {w : Word} (z : List Token) → g.IsWord text_at u w → PrimaryHere (down (0 ∷ 0 ∷ 0 ∷ [])) (tall (expr.Variable w) 1) z (token.Word key.SomThis p ∷ dot ∷ (u ++ z))
    unfolding r.primary r.compound r.own_variable same_key
    variable_found p {u = u} z i = lifted (passed (token.Word key.SomThis p) (next _ (now_one dot (expect_found sign.Dot (u ++ z))) (made _ (word_read z i) refl)))

    pub group_found : (l : List ℕ) (u : List Token) {a : ExprText} (z : List Token) → ExprFound l u a → PrimaryHere (down (0 ∷ (l ++ 0 ∷ []))) (tall a (top l + 1)) z (opening ∷ (u ++ closing ∷ z))
    unfolding r.primary r.compound r.grouped same_sign
    group_found l u z f = lifted (passed opening (next _ (f d (closing ∷ z) (closes z)) (made _ (now_one closing (expect_found sign.Close z)) refl)))

    pub length_found : (p : ℕ) (l : List ℕ) (u : List Token) {a : ExprText} (z : List Token) → ExprFound l u a → PrimaryHere (down (0 ∷ 0 ∷ (l ++ 0 ∷ []))) (tall (expr.Unary 2 a) (top l + 1)) z (token.Word key.Length p ∷ opening ∷ (u ++ closing ∷ z))
    unfolding r.primary r.compound r.measured same_key
    length_found p l u z f = lifted (passed (token.Word key.Length p) (next _ (now_one opening (expect_found sign.Open _)) (next _ (f d (closing ∷ z) (closes z)) (made _ (now_one closing (expect_found sign.Close z)) refl))))

    pub text_found : (p : ℕ) (l : List ℕ) (u : List Token) {a : ExprText} (z : List Token) → ExprFound l u a → PrimaryHere (down (0 ∷ 0 ∷ (l ++ 0 ∷ []))) (tall (expr.Unary 3 a) (top l + 1)) z (token.Word key.TextOf p ∷ opening ∷ (u ++ closing ∷ z))
    unfolding r.primary r.compound r.measured same_key
    text_found p l u z f = lifted (passed (token.Word key.TextOf p) (next _ (now_one opening (expect_found sign.Open _)) (next _ (f d (closing ∷ z) (closes z)) (made _ (now_one closing (expect_found sign.Close z)) refl))))

    pub new_found : (p : ℕ) {u : List Token} {n : Word} (z : List Token) → g.IsName text_at u n → PrimaryHere (down (0 ∷ 0 ∷ [])) (tall (expr.New n) 1) z (token.Word key.New p ∷ (u ++ z))
    unfolding r.primary r.compound r.new_object same_key
    new_found p z i = lifted (passed (token.Word key.New p) (made _ (name_read z i) refl))

    pub class_found : (p : ℕ) {u : List Token} {n : Word} (z : List Token) → g.IsName text_at u n → PrimaryHere (down (0 ∷ 0 ∷ [])) (tall (expr.Class n) 1) z (token.Word key.Class p ∷ (u ++ z))
    unfolding r.primary r.compound r.class_object same_key
    class_found p z i = lifted (passed (token.Word key.Class p) (made _ (name_read z i) refl))

    pub isa_found : (p : ℕ) (l : List ℕ) (u v : List Token) {a : ExprText} {n : Word} (z : List Token) → ExprFound l u a → g.IsName text_at v n
        → PrimaryHere (down (0 ∷ 0 ∷ (l ++ 0 ∷ 0 ∷ 0 ∷ []))) (tall (expr.Isa n a) (top l + 1)) z (token.Word key.Isa p ∷ opening ∷ (u ++ comma ∷ (v ++ closing ∷ z)))
    unfolding r.primary r.compound r.form r.isa same_key
    isa_found p l u v z f i = lifted (passed (token.Word key.Isa p) (next _ (now_one opening (expect_found sign.Open _)) (next _ (f d (comma ∷ (v ++ closing ∷ z)) (commas (v ++ closing ∷ z))) (next _ (now_one comma (expect_found sign.Comma _))
        (next _ (name_read (closing ∷ z) i) (made _ (now_one closing (expect_found sign.Close z)) refl))))))

    pub proxy_found : (p : ℕ) (l : List ℕ) (u v : List Token) {n : Word} {a : ExprText} (z : List Token) → g.IsName text_at u n → ExprFound l v a
        → PrimaryHere (down (0 ∷ 0 ∷ 0 ∷ 0 ∷ (l ++ 0 ∷ []))) (tall (expr.Proxy n a) (top l + 1)) z (token.Word key.Proxy p ∷ opening ∷ (u ++ comma ∷ (v ++ closing ∷ z)))
    unfolding r.primary r.compound r.form r.proxy same_key
    proxy_found p l u v z i f = lifted (passed (token.Word key.Proxy p) (next _ (now_one opening (expect_found sign.Open _)) (next _ (name_read (comma ∷ (v ++ closing ∷ z)) i) (next _ (now_one comma (expect_found sign.Comma _))
        (next _ (f d (closing ∷ z) (closes z)) (made _ (now_one closing (expect_found sign.Close z)) refl))))))

    pub host_call_found : (p : ℕ) (l m : List ℕ) (u v w : List Token) {c : HostCode} {a b : ExprText} (z : List Token) → g.IsHost text_at u c → ExprFound l v a → ExprFound m w b
        → PrimaryHere (down (0 ∷ 0 ∷ 0 ∷ (l ++ 0 ∷ (m ++ 0 ∷ [])))) (tall (expr.Host c a b) (max (top l) (top m) + 1)) z (token.Word key.Host p ∷ (u ++ opening ∷ (v ++ comma ∷ (w ++ closing ∷ z))))
    unfolding r.primary r.compound r.form r.host_call same_key
    host_call_found p l m u v w z i f f' = lifted (passed (token.Word key.Host p) (next _ (host_read (opening ∷ (v ++ comma ∷ (w ++ closing ∷ z))) i) (next _ (now_one opening (expect_found sign.Open _))
        (next _ (f d (comma ∷ (w ++ closing ∷ z)) (commas (w ++ closing ∷ z))) (next _ (now_one comma (expect_found sign.Comma _)) (next _ (f' d (closing ∷ z) (closes z)) (made _ (now_one closing (expect_found sign.Close z)) refl)))))))

    pub parent_found : (p : ℕ) (l : List ℕ) (u v w : List Token) {n m : Word} {x : List ExprText} (z : List Token) → g.IsName text_at u n → g.IsWord text_at v m → ArgsFound l w x
        → PrimaryHere (down (0 ∷ 0 ∷ 0 ∷ 0 ∷ l)) (tall (expr.Parent n m x) (top l + 1)) z (token.Word key.Parent p ∷ (u ++ dot ∷ (v ++ (w ++ z))))
    unfolding r.primary r.compound r.form r.parent_call same_key
    parent_found p l u v w z i j f = lifted (passed (token.Word key.Parent p) (next _ (name_read (dot ∷ (v ++ (w ++ z))) i) (next _ (now_one dot (expect_found sign.Dot _))
        (next _ (word_read (w ++ z) j) (made _ (f d z) refl)))))

    pub parents_found : (p : ℕ) (l : List ℕ) (u v : List Token) {m : Word} {x : List ExprText} (z : List Token) → g.IsWord text_at u m → ArgsFound l v x
        → PrimaryHere (down (0 ∷ 0 ∷ 0 ∷ l)) (tall (expr.Parents m x) (top l + 1)) z (token.Word key.Parents p ∷ dot ∷ (u ++ (v ++ z)))
    unfolding r.primary r.compound r.form r.parents_call same_key
    parents_found p l u v z i f = lifted (passed (token.Word key.Parents p) (next _ (now_one dot (expect_found sign.Dot _)) (next _ (word_read (v ++ z) i) (made _ (f d z) refl))))

    -- ---- args
    pub no_arguments_found : (z : List Token) → Found d (0 ∷ 0 ∷ []) (given [] 0) z (opening ∷ closing ∷ z) (r.arguments text_at (inner d) (opening ∷ closing ∷ z))
    unfolding r.arguments
    no_arguments_found z = now (0 ∷ 0 ∷ []) (opening ∷ closing ∷ []) refl refl (rw (expect_found sign.Open (closing ∷ z), same_sign_self sign.Close) refl)

    abbrev pub ExprsClimb : List ℕ → List Token → List ExprText → Type 0
    ExprsClimb l u x = (z : List Token) → strength (head z) < 1 → Climbs (r.argument text_at (inner d)) d l (given x (top l)) z (u ++ z) (r.arguments_listed text_at (inner d) (u ++ z))

    no_comma_at : (z : List Token) → is_sign sign.Comma (head (closing ∷ z)) ≡ false
    unfolding same_sign
    no_comma_at z = refl

    pub some_arguments_found : (l : List ℕ) (u : List Token) {x : List ExprText} (z : List Token) → Starts r.begins_neg l u → ExprsClimb l u x
        → Found d (0 ∷ (l ++ 0 ∷ [])) (given x (top l)) z (opening ∷ (u ++ closing ∷ z)) (r.arguments text_at (inner d) (opening ∷ (u ++ closing ∷ z)))
    unfolding r.arguments
    some_arguments_found l u {x = x} z s climbs =
        rw (expect_found sign.Open (u ++ closing ∷ z), starts_not (is_sign sign.Close) (closing ∷ z) s no_close)
        (passed opening (next _ (climbs_end (r.argument text_at (inner d)) d l (given x (top l)) (given x (top l)) (closing ∷ z) (u ++ closing ∷ z) _ (climbs (closing ∷ z) (closes z)) (rw (no_comma_at z) refl)) (made _ (now_one closing (expect_found sign.Close z)) refl)))

    pub first_argument_climbs : (l : List ℕ) (u : List Token) {a : ExprText} (z : List Token) → Found d l (tall a (top l)) z (u ++ z) (r.at text_at d line.Expr (u ++ z))
        → Climbs (r.argument text_at (inner d)) d l (given (a ∷ []) (top l)) z (u ++ z) (r.arguments_listed text_at (inner d) (u ++ z))
    unfolding r.arguments_listed
    first_argument_climbs l u {a = a} z f = first_climbs (r.argument text_at (inner d)) (λ b. given (b.tree ∷ []) b.height) d l (tall a (top l)) z (u ++ z) (r.at text_at d line.Expr (u ++ z)) f

    pub next_argument_climbs : (l m : List ℕ) (v : List Token) {x : List ExprText} {a : ExprText} (z w : List Token) (o : Outcome Given) → Climbs (r.argument text_at (inner d)) d l (given x (top l)) (comma ∷ (v ++ z)) w o
        → Found d m (tall a (top m)) z (v ++ z) (r.at text_at d line.Expr (v ++ z)) → Climbs (r.argument text_at (inner d)) d (l ++ 0 ∷ m) (given (x ++ a ∷ []) (top (l ++ 0 ∷ m))) z w o
    next_argument_climbs l m v {x = x} {a = a} z w o climbs f =
        let e : max (top l) (top m) ≡ top (l ++ 0 ∷ m) = omega (arith, top_append l (0 ∷ m)) in
        valued_climbs (ap (given (x ++ a ∷ [])) e)
        (level_chain (r.argument text_at (inner d)) d l (0 ∷ m) (given x (top l)) (given (x ++ a ∷ []) (max (top l) (top m))) z (comma ∷ (v ++ z)) w o climbs
        (rw (same_sign_self sign.Comma) (passed comma (made _ f refl))) (simp length-append (omega arith)))

    -- ---- steps
    abbrev pub step : Tall → Parser (Turn Tall Tall)
    step = r.step text_at (inner d) (suc d)

    pub step_climbs : (l m : List ℕ) (v w : List Token) {a : ExprText} {n : Word} {x : List ExprText} (z all : List Token) (o : Outcome Tall) → Climbs step (suc d) l (tall a (top l)) (dot ∷ (v ++ (w ++ z))) all o
        → g.IsWord text_at v n → ArgsFound m w x → Climbs step (suc d) (l ++ down (top l ∷ 0 ∷ m)) (tall (expr.Call a n x) (top (l ++ down (top l ∷ 0 ∷ m)))) z all o
    step_climbs l m v w {a = a} {n = n} {x = x} z all o climbs i f =
        let e : max (top l) (top m) + 1 ≡ top (l ++ down (top l ∷ 0 ∷ m)) = sym (pushed_eq l (0 ∷ m) (top l) (top m) refl (omega arith)) in
        valued_climbs (ap (tall (expr.Call a n x)) e)
        (pushed_chain step d l (down (0 ∷ m)) dot (v ++ (w ++ z)) (tall a (top l)) (tall (expr.Call a n x) (max (top l) (top m) + 1)) z all o (r.step_taken text_at (inner d) (tall a (top l)) (v ++ (w ++ z))) climbs
        (lifted (next _ (word_read (w ++ z) i) (made _ (f d z) refl)))
        (λ le. pushed_room (is_sign sign.Dot) (suc d) (top l) (r.step_taken text_at (inner d) (tall a (top l))) (pure (Done (tall a (top l)))) dot (v ++ (w ++ z)) (same_sign_self sign.Dot) (omega (arith, le)))
        (λ gt. pushed_none (is_sign sign.Dot) (suc d) (top l) (r.step_taken text_at (inner d) (tall a (top l))) (pure (Done (tall a (top l)))) dot (v ++ (w ++ z)) (same_sign_self sign.Dot) (omega (arith, gt))))

    -- ---- operations
    abbrev pub operating : (Token → Option ℕ) → Line → Tall → Parser (Turn Tall Tall)
    operating ops l = r.operation text_at (inner d) ops l (suc d)

    abbrev right_operand : Line → Tall → ℕ → Parser (Turn Tall Tall)
    right_operand l a op = r.at text_at d l >>= λ b. pure (More (combined op a b))

    pub operation_climbs : (ops : Token → Option ℕ) (k : Line) (t : Token) {op : ℕ} (l m : List ℕ) (v : List Token) {a b : ExprText} (z all : List Token) (o : Outcome Tall) → ops t ≡ Some op
        → Climbs (operating ops k) (suc d) l (tall a (top l)) (t ∷ (v ++ z)) all o → Found d m (tall b (top m)) z (v ++ z) (r.at text_at d k (v ++ z))
        → Climbs (operating ops k) (suc d) (l ++ down (top l ∷ m)) (tall (expr.Binary op a b) (top (l ++ down (top l ∷ m)))) z all o
    operation_climbs ops k t {op = op} l m v {a = a} {b = b} z all o is climbs f =
        let e : max (top l) (top m) + 1 ≡ top (l ++ down (top l ∷ m)) = sym (pushed_eq l m (top l) (top m) refl refl) in
        valued_climbs (ap (tall (expr.Binary op a b)) e)
        (pushed_chain (operating ops k) d l (down m) t (v ++ z) (tall a (top l)) (tall (expr.Binary op a b) (max (top l) (top m) + 1)) z all o (right_operand k (tall a (top l)) op (v ++ z)) climbs
        (lifted (made _ f refl))
        (λ le. operator_room ops (suc d) (top l) (right_operand k (tall a (top l))) (pure (Done (tall a (top l)))) t op (v ++ z) is (omega (arith, le)))
        (λ gt. operator_none ops (suc d) (top l) (right_operand k (tall a (top l))) (pure (Done (tall a (top l)))) t op (v ++ z) is (omega (arith, gt))))

    -- ---- calls by name
    abbrev pub named_step : NamedCall → Parser (Turn NamedCall NamedCall)
    named_step = r.named_step text_at (inner d) (suc d)

    -- a call by name so far, one level below the form that it belongs to
    pub record NamedClimbs (l : List ℕ) (a : ExprText) (n : Word) (x : List ExprText) (z w : List Token) (o : Outcome NamedCall) : Type 0 where
      pub receiver : ℕ
      pub arguments : ℕ
      pub tops : suc (top l) ≡ max receiver arguments + 1
      pub first : top (down l) ≡ suc (top l)
      pub climbs : Climbs named_step (suc d) (down l) (named_call (tall a receiver) n (given x arguments)) z w o

    pub named_first : (l m : List ℕ) (u v w : List Token) {a : ExprText} {n : Word} {x : List ExprText} (z : List Token) → 0 < top l → Found d l (tall a (top l)) (dot ∷ (v ++ (w ++ z))) (u ++ dot ∷ (v ++ (w ++ z))) (r.at text_at d line.Primary (u ++ dot ∷ (v ++ (w ++ z))))
        → g.IsWord text_at v n → ArgsFound m w x → NamedClimbs (l ++ 0 ∷ 0 ∷ m) a n x z (u ++ dot ∷ (v ++ (w ++ z))) (r.call_by_name text_at (inner d) (suc d) (u ++ dot ∷ (v ++ (w ++ z))))
    unfolding r.call_by_name
    named_first l m u v w {a = a} {n = n} {x = x} z high f i f' = record {
      receiver = top l;
      arguments = top m;
      tops = omega (arith, top_append l (0 ∷ 0 ∷ m));
      first = down_top (l ++ 0 ∷ 0 ∷ m) (omega (arith, high, top_append l (0 ∷ 0 ∷ m)));
      climbs = subst (Climbs named_step (suc d) (down (l ++ 0 ∷ 0 ∷ m)) (named_call (tall a (top l)) n (given x (top m))) z (u ++ dot ∷ (v ++ (w ++ z)))) (and_then_twice (r.at text_at d line.Primary (u ++ dot ∷ (v ++ (w ++ z)))) (expect sign.Dot) (r.first_step text_at (inner d)) (repeat named_step))
          (first_climbs named_step (λ s. s) (suc d) (down (l ++ 0 ∷ 0 ∷ m)) (named_call (tall a (top l)) n (given x (top m))) z (u ++ dot ∷ (v ++ (w ++ z))) _
          (lifted (next _ f (next _ (now_one dot (expect_found sign.Dot (v ++ (w ++ z)))) (next _ (word_read (w ++ z) i) (made _ (f' d z) refl))))));
    }

    pub named_next : (l m : List ℕ) (v w : List Token) {a : ExprText} {n k : Word} {x y : List ExprText} (z all : List Token) (o : Outcome NamedCall) → NamedClimbs l a n x (dot ∷ (v ++ (w ++ z))) all o
        → g.IsWord text_at v k → ArgsFound m w y → NamedClimbs (l ++ suc (top l) ∷ 0 ∷ m) (expr.Call a n x) k y z all o
    named_next l m v w {a = a} {n = n} {k = k} {x = x} {y = y} z all o c i f =
        let s : NamedCall = named_call (tall a c.receiver) n (given x c.arguments) in
        let height : named_height (named_call (tall a c.receiver) n (given x c.arguments)) ≡ top (down l) = sym c.tops ∙ sym c.first in
        record {
          receiver = max c.receiver c.arguments + 1;
          arguments = top m;
          tops = omega (arith, c.tops, top_append l (suc (top l) ∷ 0 ∷ m));
          first = down_top (l ++ suc (top l) ∷ 0 ∷ m) (omega (arith, top_append l (suc (top l) ∷ 0 ∷ m)));
          climbs = leveled_climbs (down_pushed l (0 ∷ m) c.first)
              (pushed_chain named_step d (down l) (down (0 ∷ m)) dot (v ++ (w ++ z)) (named_call (tall a c.receiver) n (given x c.arguments)) (named_call (tall (expr.Call a n x) (max c.receiver c.arguments + 1)) k (given y (top m))) z all o
              (r.named_step_taken text_at (inner d) (named_call (tall a c.receiver) n (given x c.arguments)) (v ++ (w ++ z))) c.climbs
              (lifted (next _ (word_read (w ++ z) i) (made _ (f d z) refl)))
              (λ le. pushed_room (is_sign sign.Dot) (suc d) (named_height s) (r.named_step_taken text_at (inner d) s) (pure (Done s)) dot (v ++ (w ++ z)) (same_sign_self sign.Dot) (omega (arith, le, height)))
              (λ gt. pushed_none (is_sign sign.Dot) (suc d) (named_height s) (r.named_step_taken text_at (inner d) s) (pure (Done s)) dot (v ++ (w ++ z)) (same_sign_self sign.Dot) (omega (arith, gt, height))));
        }
