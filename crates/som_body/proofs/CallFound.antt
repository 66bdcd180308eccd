-- Call statements are read: those that begin with a name or with a variable of the object after that, and all others by their expression.
use Rattle.std.proofs.Common.{◌≡◌, ℕ, zero, suc, ◌+◌, ◌-◌, ◌<◌, ◌≤◌, max, List, [], ◌∷◌, ◌++◌, length, take, drop, Bool, true, false, cond, Option, Some, None, Ok, Err, refl, sym, ◌∙◌, ap, subst, append_assoc, length-append, inl, inr, arith}
use Rattle.std.proofs.lemmas.Bool.{cases_lt}
use Rattle.std.proofs.lemmas.List.{append-nil}
use Rattle.som_parse.specs.Readers.{Outcome, Parser, ◌>>=◌, pure, repeat}
use Rattle.som_parse.specs.Tokens.{head, is_sign, is_key, same_key, same_sign, word}
use Rattle.som_parse.specs.declared.cursor.Stop.TheVariants.{Nesting}
use Rattle.som_parse.specs.declared.cursor.Turn.TheVariants.{Done}
use Rattle.som_parse.specs.declared.token.Key.{Key}
use Rattle.som_parse.specs.declared.token.Key.TheVariants as key
use Rattle.som_parse.specs.declared.token.Sign.TheVariants as sign
use Rattle.som_parse.specs.declared.token.Token.{Token}
use Rattle.som_parse.specs.declared.token.Token.TheVariants as token
use Rattle.som_ast.specs.declared.words.Word.{Word}
use Rattle.som_parse.proofs.Found.{climb_first, expect_found}
use Rattle.som_parse.proofs.Steps.{apart_key, same_sign_self}
use Rattle.som_body.specs.Grammar as g
use Rattle.som_body.specs.Levels.{top, down}
use Rattle.som_body.specs.Reading as r
use Rattle.som_body.specs.Reading.{tall}
use Rattle.som_body.specs.declared.level.Tall.{Tall}
use Rattle.som_ast.specs.declared.expression.ExprText.{ExprText, out-ExprText, out-roll-ExprText}
use Rattle.som_ast.specs.declared.expression.ExprText.TheOpen.{ExprText-F}
use Rattle.som_ast.specs.declared.expression.ExprText.TheVariants as expr
use Rattle.som_ast.specs.declared.expression.ExprText.TheVariants.{rolls-Name, rolls-Variable}
use Rattle.som_body.proofs.FormsFound.{dot, inner, step, step_climbs, pushed_none, pushed_end, word_read, name_read}
use Rattle.som_body.proofs.LevelFound.{Deep, Found, climb_out, now_one, passed, next, lifted, leveled, Climbs, climbs_first, climbs_end}
use Rattle.som_body.proofs.LevelLists.{top_append, take_first, take_later, top_part}
use Rattle.som_body.proofs.LineFound.{arguments_found, postfix_found}
use Rattle.som_body.proofs.StartLaws.{named_atom}
use Rattle.som_body.proofs.StartsOf.{stepped_starts}
use Rattle.som_body.proofs.Strengths.{strength, Starts, starts_wider, starts_high, postfix_wide, no_dot}
use Rattle.som_body.specs.StatementReading as sr
use Rattle.som_body.specs.Statements as s
use Rattle.som_ast.specs.declared.body.StmtText.{StmtText}
use Rattle.som_ast.specs.declared.body.StmtText.TheVariants as stmt

abbrev semicolon : Token
semicolon = token.Mark sign.Semicolon

pub name_is_no_call : (n : Word) → s.is_call (expr.Name n) ≡ false
unfolding s.is_call
name_is_no_call n = ap s.is_call_form (ap out-ExprText (sym (rolls-Name n)) ∙ out-roll-ExprText (ExprText-F.Name n))

pub variable_is_no_call : (n : Word) → s.is_call (expr.Variable n) ≡ false
unfolding s.is_call
variable_is_no_call n = ap s.is_call_form (ap out-ExprText (sym (rolls-Variable n)) ∙ out-roll-ExprText (ExprText-F.Variable n))

-- ---- the end of the statement

pub finish_found : (a : ExprText) (h : ℕ) (z : List Token) → s.is_call a ≡ true → sr.finish (tall a h) (semicolon ∷ z) ≡ Ok (stmt.Call a, z)
finish_found a h z is = rw (is, expect_found sign.Semicolon z) refl

-- ---- words that begin no expression

abbrev has : {A : Type 0} → Option A → Bool
has (Some a) = true
has None = false

no_som_this : (text_at : ℕ → List ℕ) (k : Key) (p : ℕ) (a : ExprText) → g.word_atom text_at k p ≡ Some a → is_key key.SomThis (Some (token.Word k p)) ≡ false
no_som_this text_at k p a e = apart_key (λ j. has (g.word_atom text_at j p)) k key.SomThis (rw e refl) refl

no_key : (k : Key) (t : Token) → r.begins_postfix (Some t) ≡ true → ((p : ℕ) → r.begins_postfix (Some (token.Word k p)) ≡ false) → is_key k (Some t) ≡ false
no_key k (token.Word j p) b f = apart_key (λ i. r.begins_postfix (Some (token.Word i p))) j k b (f p)
no_key k (token.Number n) b f = refl
no_key k (token.Literal p) b f = refl
no_key k (token.Mark x) b f = refl
no_key k token.Directive b f = refl

-- ---- the levels of an expression that begins a statement

if_so : {A : Type 0} (b : Bool) (x y : A) → b ≡ true → cond b x y ≡ x
if_so true x y e = refl
if_so false x y e = cc

if_not : {A : Type 0} (b : Bool) (x y : A) → b ≡ false → cond b x y ≡ y
if_not true x y e = cc
if_not false x y e = refl

pub name_begun : (k : Key) (p : ℕ) (u : List Token) (l : List ℕ) → g.is_name k ≡ true → s.as_begun_by (token.Word k p ∷ u) l ≡ 0 ∷ drop 1 l
name_begun key.SomThis p u l e = cc
name_begun k p u l e = if_so (g.is_name k) (0 ∷ drop 1 l) l e

word_begun : (k : Key) (p : ℕ) (u : List Token) (l : List ℕ) → g.is_name k ≡ false → is_key key.SomThis (Some (token.Word k p)) ≡ false → s.as_begun_by (token.Word k p ∷ u) l ≡ l
unfolding same_key
word_begun key.SomThis p u l e f = cc
word_begun k p u l e f = if_not (g.is_name k) (0 ∷ drop 1 l) l e

pub other_begun : (t : Token) (u : List Token) (l : List ℕ) → sr.begins_name (Some t) ≡ false → is_key key.SomThis (Some t) ≡ false → s.as_begun_by (t ∷ u) l ≡ l
other_begun (token.Word k p) u l e f = word_begun k p u l e f
other_begun (token.Number n) u l e f = refl
other_begun (token.Literal p) u l e f = refl
other_begun (token.Mark x) u l e f = refl
other_begun token.Directive u l e f = refl

-- ---- without a front whose levels suffice

pub split_off : (u w v x : List Token) → u ++ w ≡ v ++ x → length u ≤ length v → (y : List Token) × (v ≡ u ++ y) × (w ≡ y ++ x)
split_off [] w v x e le = (v, refl, e)
split_off (t ∷ u) w [] x e le = absurd (omega (arith, le))
split_off (t ∷ u) w (s ∷ v) x e le =
    let same : s ≡ t = cc in
    let rest : u ++ w ≡ v ++ x = cc in
    let y = split_off u w v x rest (omega (arith, le)) in
    (y.0, ap (λ q. s ∷ q) y.1 ∙ ap (λ q. q ∷ (u ++ y.0)) same, y.2)

module _ {A : Type 0} {d : ℕ} (k l : List ℕ) (u w : List Token) (o : Outcome A) (counts : length k ≡ length u) (le : top k ≤ d) where
  past : (m : Deep d (k ++ l) (u ++ w) o) → length u ≤ length m.front
  past m = elim (cases_lt (length m.front) (length u)) [
    | inl lt ↦ (let e : top (take (suc (length m.front)) (k ++ l)) ≡ top (take (suc (length m.front)) k) = ap top (take_first (suc (length m.front)) k l (omega (arith, lt, counts))) in absurd (omega (arith, m.high, e, le, top_part (suc (length m.front)) k)))
    | inr far ↦ far
  ]

  without_front : Deep d (k ++ l) (u ++ w) o → Deep d l w o
  without_front m =
      let y = split_off u w m.front m.rest m.splits (past m) in
      let at : length m.front ≡ length k + length y.0 = omega (arith, ap length y.1, length-append u y.0, counts) in
      let next : suc (length m.front) ≡ length k + suc (length y.0) = omega (arith, at) in
      let below : top (take (length m.front) (k ++ l)) ≡ max (top k) (top (take (length y.0) l)) = ap (λ n. top (take n (k ++ l))) at ∙ ap top (take_later k l (length y.0)) ∙ top_append k (take (length y.0) l) in
      let above : top (take (suc (length m.front)) (k ++ l)) ≡ max (top k) (top (take (suc (length y.0)) l)) = ap (λ n. top (take n (k ++ l))) next ∙ ap top (take_later k l (suc (length y.0))) ∙ top_append k (take (suc (length y.0)) l) in
      record { front = y.0; rest = m.rest; splits = y.2; is = m.is; low = omega (arith, below, m.low); high = omega (arith, above, m.high, le) }

-- ---- the steps of an expression, after its first part

-- what stands after the first part: nothing, or steps
pub data Rest (a : ExprText) : List ℕ → List Token → ExprText → Type 0 where
  no_rest : Rest a [] [] a
  some_rest : {c : ExprText} (n : ℕ) (k : List ℕ) (w : List Token) → 0 < n → Rest a (suc n ∷ k) (dot ∷ w) c

rest_on : {a b c : ExprText} {l : List ℕ} {t : List Token} (n : ℕ) (k : List ℕ) (w : List Token) → 0 < n → Rest a l t b → Rest a (l ++ suc n ∷ k) (t ++ dot ∷ w) c
rest_on n k w lt no_rest = some_rest n k w lt
rest_on n k w lt (some_rest m j y le) = some_rest m (j ++ suc n ∷ k) (y ++ dot ∷ w) le

module _ (text_at : ℕ → List ℕ) where
  pub record Parted (l : List ℕ) (u : List Token) (a : ExprText) : Type 0 where
    pub levels : List ℕ
    pub others : List ℕ
    pub front : List Token
    pub value : ExprText
    pub first : g.IsPrimary text_at levels front value
    pub rest : List Token
    pub joined : l ≡ levels ++ others
    pub is : u ≡ front ++ rest
    pub more : Rest value others rest a
    pub climbs : (d : ℕ) (z w : List Token) (o : Outcome Tall) → Climbs (step text_at d) (suc d) levels (tall value (top levels)) (rest ++ z) w o → Climbs (step text_at d) (suc d) l (tall a (top l)) z w o

  pub parted : {l : List ℕ} {u : List Token} {a : ExprText} → g.IsStepped text_at l u a → Parted l u a
  parted (g.no_step {l = l} {u = u} {a = a} x) = record { levels = l; others = []; front = u; value = a; first = x; rest = []; joined = sym (append-nil l); is = sym (append-nil u); more = no_rest; climbs = λ d z w o c. c }
  parted (g.a_step {l = l} {m = m} {u = u} {v = v} {w = w} x i y) =
      let p = parted x in
      record {
        levels = p.levels;
        others = p.others ++ down (top l ∷ 0 ∷ m);
        front = p.front;
        value = p.value;
        first = p.first;
        rest = p.rest ++ dot ∷ (v ++ w);
        joined = ap (λ t. t ++ down (top l ∷ 0 ∷ m)) p.joined ∙ append_assoc p.levels p.others (down (top l ∷ 0 ∷ m));
        is = ap (λ t. t ++ dot ∷ (v ++ w)) p.is ∙ append_assoc p.front p.rest (dot ∷ (v ++ w));
        more = rest_on (top l) (down (0 ∷ m)) (v ++ w) (starts_high (stepped_starts text_at x)) p.more;
        climbs = λ d z all o c.
            let e : (p.rest ++ dot ∷ (v ++ w)) ++ z ≡ p.rest ++ dot ∷ (v ++ (w ++ z)) = append_assoc p.rest (dot ∷ (v ++ w)) z ∙ ap (λ t. p.rest ++ dot ∷ t) (append_assoc v w z) in
            step_climbs text_at d l m v w z all o (p.climbs d (dot ∷ (v ++ (w ++ z))) all o (subst (λ t. Climbs (step text_at d) (suc d) p.levels (tall p.value (top p.levels)) t all o) e c)) i (arguments_found text_at y);
      }

  -- the steps after a first part of one level, of which there are some
  one_step_deep : (a : ExprText) (w z : List Token) → r.steps_from text_at 0 (tall a 1) (dot ∷ (w ++ z)) ≡ Err (Nesting, dot ∷ (w ++ z))
  one_step_deep a w z = climb_out (r.step text_at (r.at text_at 0) 0) (tall a 1) (dot ∷ (w ++ z)) (dot ∷ (w ++ z)) _ (climb_first (r.step text_at (r.at text_at 0) 0) (tall a 1) (dot ∷ (w ++ z)))
      (pushed_none (is_sign sign.Dot) 0 1 (r.step_taken text_at (r.at text_at 0) (tall a 1)) (pure (Done (tall a 1))) dot (w ++ z) (same_sign_self sign.Dot) (omega arith))

  module _ {l : List ℕ} {a b : ExprText} (front : List Token) (levels : List ℕ) (n : ℕ) (k : List ℕ) (w z : List Token) (counts : length levels ≡ length front) (one : top levels ≡ 1) (joined : l ≡ levels ++ suc n ∷ k) (low : strength (head z) < 7)
      (climbs : (d : ℕ) (all : List Token) (o : Outcome Tall) → Climbs (step text_at d) (suc d) levels (tall b (top levels)) ((dot ∷ w) ++ z) all o → Climbs (step text_at d) (suc d) l (tall a (top l)) z all o) where
    begun : (d : ℕ) → Climbs (step text_at d) (suc d) levels (tall b (top levels)) ((dot ∷ w) ++ z) (front ++ ((dot ∷ w) ++ z)) (repeat (step text_at d) (tall b (top levels)) ((dot ∷ w) ++ z))
    begun d = climbs_first (step text_at d) (suc d) levels front (tall b (top levels)) ((dot ∷ w) ++ z) counts (omega (arith, one))

    run : (d : ℕ) → Climbs (step text_at d) (suc d) l (tall a (top l)) z (front ++ ((dot ∷ w) ++ z)) (repeat (step text_at d) (tall b (top levels)) ((dot ∷ w) ++ z))
    run d = climbs d _ _ (begun d)

    many : length (suc n ∷ k) ≡ length (dot ∷ w)
    many = let c = run 0 in omega (arith, counts, c.counts, ap length c.splits, length-append front ((dot ∷ w) ++ z), length-append (dot ∷ w) z, length-append c.taken z, ap length joined, length-append levels (suc n ∷ k))

    chain_some : (d : ℕ) → Found (suc d) (suc n ∷ k) (tall a (top l)) z (dot ∷ (w ++ z)) (repeat (step text_at d) (tall b (top levels)) (dot ∷ (w ++ z)))
    chain_some d =
        let m = climbs_end (step text_at d) (suc d) l (tall a (top l)) (tall a (top l)) z _ _ (run d) (pushed_end (is_sign sign.Dot) (suc d) (top l) (r.step_taken text_at (inner text_at d) (tall a (top l))) (pure (Done (tall a (top l)))) z (no_dot (head z) low)) in
        let tops : top l ≡ max 1 (top (suc n ∷ k)) = ap top joined ∙ top_append levels (suc n ∷ k) ∙ ap (λ i. max i (top (suc n ∷ k))) one in
        record {
          taken = dot ∷ w;
          splits = refl;
          counts = many;
          fits = λ le. m.fits (omega (arith, le, tops));
          deep = λ gt. without_front levels (suc n ∷ k) front (dot ∷ (w ++ z)) (repeat (step text_at d) (tall b (top levels)) ((dot ∷ w) ++ z)) counts (omega (arith, one)) (subst (λ i. Deep {A = Tall} (suc d) i (front ++ ((dot ∷ w) ++ z)) (repeat (step text_at d) (tall b (top levels)) ((dot ∷ w) ++ z))) joined (m.deep (omega (arith, gt, tops))));
        }

    chain_found : (e : ℕ) → Found e (suc n ∷ k) (tall a (top l)) z (dot ∷ (w ++ z)) (r.steps_from text_at e (tall b 1) (dot ∷ (w ++ z)))
    chain_found zero = record {
      taken = dot ∷ w;
      splits = refl;
      counts = many;
      fits = λ le. absurd (omega (arith, le));
      deep = λ gt. record { front = []; rest = dot ∷ (w ++ z); splits = refl; is = one_step_deep b w z; low = omega arith; high = omega arith };
    }
    chain_found (suc d) =
        let m : d ≡ suc d - 1 = omega arith in
        subst (λ i. Found (suc d) (suc n ∷ k) (tall a (top l)) z (dot ∷ (w ++ z)) (repeat (r.step text_at (r.at text_at i) (suc d)) (tall b 1) (dot ∷ (w ++ z)))) m
        (subst (λ i. Found (suc d) (suc n ∷ k) (tall a (top l)) z (dot ∷ (w ++ z)) (repeat (step text_at d) (tall b i) (dot ∷ (w ++ z)))) one (chain_some d))

  -- ---- what the statement begins with
  pub data Opens : List ℕ → List Token → ExprText → Type 0 where
    opens_name : (k : Key) (p : ℕ) → g.is_name k ≡ true → Opens (1 ∷ []) (token.Word k p ∷ []) (expr.Name (word text_at p))
    opens_variable : (p : ℕ) (k : Key) (q : ℕ) → Opens (1 ∷ 1 ∷ 1 ∷ []) (token.Word key.SomThis p ∷ dot ∷ token.Word k q ∷ []) (expr.Variable (word text_at q))
    opens_other : {l : List ℕ} {a : ExprText} (t : Token) (v : List Token) → sr.begins_name (Some t) ≡ false → is_key key.SomThis (Some t) ≡ false → Opens l (t ∷ v) a

  named_value : (k : Key) (p : ℕ) (a : ExprText) → g.is_name k ≡ true → g.word_atom text_at k p ≡ Some a → expr.Name (word text_at p) ≡ a
  named_value k p a is e = let f : ◌≡◌ {A = Option ExprText} (Some (expr.Name (word text_at p))) (Some a) = sym (named_atom text_at k p is) ∙ e in cc

  word_opens : (b : Bool) (k : Key) (p : ℕ) (a : ExprText) → g.is_name k ≡ b → g.word_atom text_at k p ≡ Some a → Opens (1 ∷ []) (token.Word k p ∷ []) a
  word_opens true k p a is e = subst (Opens (1 ∷ []) (token.Word k p ∷ [])) (named_value k p a is e) (opens_name k p is)
  word_opens false k p a is e = opens_other (token.Word k p) [] is (no_som_this text_at k p a e)

  atom_opens : (t : Token) (a : ExprText) → g.atom text_at t ≡ Some a → Opens (1 ∷ []) (t ∷ []) a
  atom_opens (token.Number n) a e = opens_other (token.Number n) [] refl refl
  atom_opens (token.Literal p) a e = opens_other (token.Literal p) [] refl refl
  atom_opens (token.Word k p) a e = word_opens (g.is_name k) k p a refl e
  atom_opens (token.Mark x) a e = cc
  atom_opens token.Directive a e = cc

  variable_opens : (p : ℕ) {u : List Token} {n : Word} → g.IsWord text_at u n → Opens (1 ∷ 1 ∷ 1 ∷ []) (token.Word key.SomThis p ∷ dot ∷ u) (expr.Variable n)
  variable_opens p (g.a_word k q) = opens_variable p k q

  pub opens : {l : List ℕ} {u : List Token} {a : ExprText} → g.IsPrimary text_at l u a → Opens l u a
  unfolding same_key
  opens (g.an_atom t {a = a} e) = atom_opens t a e
  opens (g.a_variable {p = p} i) = variable_opens p i
  opens (g.a_group x) = opens_other (token.Mark sign.Open) _ refl refl
  opens (g.a_length {p = p} x) = opens_other (token.Word key.Length p) _ refl refl
  opens (g.a_text {p = p} x) = opens_other (token.Word key.TextOf p) _ refl refl
  opens (g.a_new {p = p} i) = opens_other (token.Word key.New p) _ refl refl
  opens (g.a_class {p = p} i) = opens_other (token.Word key.Class p) _ refl refl
  opens (g.an_isa {p = p} x i) = opens_other (token.Word key.Isa p) _ refl refl
  opens (g.a_proxy {p = p} i x) = opens_other (token.Word key.Proxy p) _ refl refl
  opens (g.a_host_call {p = p} i x y) = opens_other (token.Word key.Host p) _ refl refl
  opens (g.a_parent_call {p = p} i j x) = opens_other (token.Word key.Parent p) _ refl refl
  opens (g.a_parents_call {p = p} i x) = opens_other (token.Word key.Parents p) _ refl refl

  -- ---- the tests of a statement
  module _ (in' in_if : Parser StmtText) (e : ℕ) where
    abbrev reading : List Token → Outcome StmtText
    reading = sr.statement text_at in' in_if e

    pub name_first : {u : List Token} {n : Word} (z : List Token) → g.IsName text_at u n → reading (u ++ z) ≡ sr.named_statement text_at e (u ++ z)
    unfolding sr.statement
    name_first z (g.a_name k p is) =
        rw (
          apart_key g.is_name k key.If is refl,
          apart_key g.is_name k key.Var is refl,
          apart_key g.is_name k key.While is refl,
          apart_key g.is_name k key.Return is refl,
          apart_key g.is_name k key.Print is refl,
          apart_key g.is_name k key.Free is refl,
          apart_key g.is_name k key.SomThis is refl,
          is,
        ) refl

    own_first : (p : ℕ) (z : List Token) → reading (token.Word key.SomThis p ∷ z) ≡ sr.own_statement text_at e z
    unfolding sr.statement same_key
    own_first p z = refl

    other_first : (t : Token) (z : List Token) → r.begins_postfix (Some t) ≡ true → sr.begins_name (Some t) ≡ false → is_key key.SomThis (Some t) ≡ false → reading (t ∷ z) ≡ sr.call_statement text_at e (t ∷ z)
    unfolding sr.statement
    other_first t z b n m =
        rw (
          no_key key.If t b (λ p. refl),
          no_key key.Var t b (λ p. refl),
          no_key key.While t b (λ p. refl),
          no_key key.Return t b (λ p. refl),
          no_key key.Print t b (λ p. refl),
          no_key key.Free t b (λ p. refl),
          m,
          n,
        ) refl

    -- ---- the three ways to a call
    module _ {l : List ℕ} {a : ExprText} (z : List Token) (is : s.is_call a ≡ true) where
      other_call : {u : List Token} → g.IsPostfix text_at l u a → Found (suc e) (down (l ++ 0 ∷ [])) (stmt.Call a) z (u ++ semicolon ∷ z) (sr.call_statement text_at e (u ++ semicolon ∷ z))
      unfolding sr.call_statement
      other_call x = lifted (next _ (postfix_found text_at x e (semicolon ∷ z) (omega arith)) (now_one semicolon (finish_found a (top l) z is)))

    module _ {a : ExprText} (z : List Token) (is : s.is_call a ≡ true) (h : ℕ) where
      named_call' : {u : List Token} {n : Word} (k : List ℕ) (w : List Token) → g.IsName text_at u n → Found e k (tall a h) (semicolon ∷ z) (dot ∷ (w ++ semicolon ∷ z)) (r.steps_from text_at e (tall (expr.Name n) 1) (dot ∷ (w ++ semicolon ∷ z)))
          → Found (suc e) (down (0 ∷ (k ++ 0 ∷ []))) (stmt.Call a) z (u ++ dot ∷ (w ++ semicolon ∷ z)) (sr.named_statement text_at e (u ++ dot ∷ (w ++ semicolon ∷ z)))
      unfolding sr.named_statement same_sign
      named_call' k w i chain = lifted (next _ (name_read text_at (dot ∷ (w ++ semicolon ∷ z)) i) (next _ chain (now_one semicolon (finish_found a h z is))))

      own_call : {u : List Token} {n : Word} (p : ℕ) (k : List ℕ) (w : List Token) → g.IsWord text_at u n → Found e k (tall a h) (semicolon ∷ z) (dot ∷ (w ++ semicolon ∷ z)) (r.steps_from text_at e (tall (expr.Variable n) 1) (dot ∷ (w ++ semicolon ∷ z)))
          → Found (suc e) (down (0 ∷ 0 ∷ 0 ∷ (k ++ 0 ∷ []))) (stmt.Call a) z (token.Word key.SomThis p ∷ dot ∷ (u ++ dot ∷ (w ++ semicolon ∷ z))) (sr.own_statement text_at e (dot ∷ (u ++ dot ∷ (w ++ semicolon ∷ z))))
      unfolding sr.own_statement same_sign
      own_call {u = u} p k w i chain = lifted (passed (token.Word key.SomThis p) (next _ (now_one dot (expect_found sign.Dot (u ++ dot ∷ (w ++ semicolon ∷ z)))) (next _ (word_read text_at (dot ∷ (w ++ semicolon ∷ z)) i)
          (next _ chain (now_one semicolon (finish_found a h z is))))))

    -- ---- which of the ways
    other_way : {l : List ℕ} {u : List Token} (t : Token) (y z : List Token) → Starts r.begins_postfix l u → u ≡ t ∷ y → sr.begins_name (Some t) ≡ false → is_key key.SomThis (Some t) ≡ false → reading (u ++ z) ≡ sr.call_statement text_at e (u ++ z)
    other_way {u = u} t y z x is n m =
        let same : ◌≡◌ {A = List Token} (x.first ∷ x.others) (t ∷ y) = sym x.is ∙ is in
        let first : x.first ≡ t = cc in
        let b : r.begins_postfix (Some t) ≡ true = ap (λ c. r.begins_postfix (Some c)) (sym first) ∙ x.begins in
        rw is (other_first t (y ++ z) b n m)

    abbrev CallRead : List ℕ → List Token → ExprText → List Token → Type 0
    CallRead l u a z = Found (suc e) (down (s.as_begun_by u l ++ 0 ∷ [])) (stmt.Call a) z (u ++ semicolon ∷ z) (reading (u ++ semicolon ∷ z))

    name_way : (l : List ℕ) (a : ExprText) (k : Key) (p n : ℕ) (j : List ℕ) (w z : List Token) → g.is_name k ≡ true → s.is_call a ≡ true → l ≡ 1 ∷ suc n ∷ j → Found e (suc n ∷ j) (tall a (top l)) (semicolon ∷ z) (dot ∷ (w ++ semicolon ∷ z)) (r.steps_from text_at e (tall (expr.Name (word text_at p)) 1) (dot ∷ (w ++ semicolon ∷ z)))
        → CallRead l (token.Word k p ∷ dot ∷ w) a z
    name_way l a k p n j w z is call joined chain =
        let begun : s.as_begun_by (token.Word k p ∷ dot ∷ w) l ≡ 0 ∷ suc n ∷ j = name_begun k p (dot ∷ w) l is ∙ ap (λ i. 0 ∷ drop 1 i) joined in
        leveled (ap (λ i. down (i ++ 0 ∷ [])) (sym begun)) (rw (name_first (dot ∷ (w ++ semicolon ∷ z)) (g.a_name k p is)) (named_call' z call (top l) (suc n ∷ j) w (g.a_name k p is) chain))

    own_way : (l : List ℕ) (a : ExprText) (p : ℕ) (k : Key) (q n : ℕ) (j : List ℕ) (w z : List Token) → s.is_call a ≡ true → l ≡ 1 ∷ 1 ∷ 1 ∷ suc n ∷ j → Found e (suc n ∷ j) (tall a (top l)) (semicolon ∷ z) (dot ∷ (w ++ semicolon ∷ z)) (r.steps_from text_at e (tall (expr.Variable (word text_at q)) 1) (dot ∷ (w ++ semicolon ∷ z)))
        → CallRead l (token.Word key.SomThis p ∷ dot ∷ token.Word k q ∷ dot ∷ w) a z
    own_way l a p k q n j w z call joined chain =
        let begun : s.as_begun_by (token.Word key.SomThis p ∷ dot ∷ token.Word k q ∷ dot ∷ w) l ≡ 0 ∷ 0 ∷ 0 ∷ suc n ∷ j = ap (λ i. 0 ∷ 0 ∷ 0 ∷ drop 3 i) joined in
        leveled (ap (λ i. down (i ++ 0 ∷ [])) (sym begun)) (rw (own_first p (dot ∷ token.Word k q ∷ dot ∷ (w ++ semicolon ∷ z))) (own_call z call (top l) p (suc n ∷ j) w (g.a_word k q) chain))

    by_opening : {l levels others : List ℕ} {u t whole : List Token} {a b : ExprText} (z : List Token) → s.is_call a ≡ true → Opens levels u b → Rest b others t a → whole ≡ u ++ t → l ≡ levels ++ others → g.IsStepped text_at l whole a
        → ((d : ℕ) (y w : List Token) (o : Outcome Tall) → Climbs (step text_at d) (suc d) levels (tall b (top levels)) (t ++ y) w o → Climbs (step text_at d) (suc d) l (tall a (top l)) y w o)
        → CallRead l whole a z
    by_opening z is (opens_name k p i) no_rest same joined x climbs = let n : s.is_call (expr.Name (word text_at p)) ≡ false = name_is_no_call (word text_at p) in absurd cc
    by_opening z is (opens_variable p k q) no_rest same joined x climbs = let n : s.is_call (expr.Variable (word text_at q)) ≡ false = variable_is_no_call (word text_at q) in absurd cc
    by_opening {l = l} {a = a} z is (opens_name k p i) (some_rest n j w lt) same joined x climbs =
        subst (λ y. CallRead l y a z) (sym same) (name_way l a k p n j w z i is joined
        (chain_found (token.Word k p ∷ []) (1 ∷ []) n j w (semicolon ∷ z) refl refl joined (omega arith) (λ d all o. climbs d (semicolon ∷ z) all o) e))
    by_opening {l = l} {a = a} z is (opens_variable p k q) (some_rest n j w lt) same joined x climbs =
        subst (λ y. CallRead l y a z) (sym same) (own_way l a p k q n j w z is joined
        (chain_found (token.Word key.SomThis p ∷ dot ∷ token.Word k q ∷ []) (1 ∷ 1 ∷ 1 ∷ []) n j w (semicolon ∷ z) refl refl joined (omega arith) (λ d all o. climbs d (semicolon ∷ z) all o) e))
    by_opening {l = l} {t = rest} {whole = whole} z is (opens_other t v n m) more same joined x climbs =
        let begun : s.as_begun_by whole l ≡ l = ap (λ y. s.as_begun_by y l) same ∙ other_begun t (v ++ rest) l n m in
        leveled (ap (λ i. down (i ++ 0 ∷ [])) (sym begun)) (rw (other_way t (v ++ rest) (semicolon ∷ z) (starts_wider postfix_wide (stepped_starts text_at x)) same n m) (other_call z is (g.a_stepped x)))

    pub call_found : {l : List ℕ} {u : List Token} {a : ExprText} (z : List Token) → s.is_call a ≡ true → g.IsPostfix text_at l u a → CallRead l u a z
    unfolding same_key
    call_found z is (g.a_stepped x) = let p = parted x in by_opening z is (opens p.first) p.more p.is p.joined x p.climbs
    call_found z is (g.a_lookup {p = p} i x) = rw (other_first (token.Word key.Lookup p) _ refl refl refl) (other_call z is (g.a_lookup i x))
    call_found z is (g.a_dispatch {p = p} i x) = rw (other_first (token.Word key.Dispatch p) _ refl refl refl) (other_call z is (g.a_dispatch i x))
