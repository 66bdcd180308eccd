-- Reading texts comes to one thing, and the code's loop to that.
use Rattle.std.proofs.Common.{◌≡◌, ◌≢◌, ℕ, ◌+◌, ◌<◌, ◌≤◌, inl, inr, Bool, List, [], ◌∷◌, ◌++◌, length, take, drop, get_or, codes, Option, Some, None, Result, Ok, Err, refl, sym, ap, subst, ◌∙◌, append_assoc}
use Rattle.std.proofs.lemmas.List.{take_more, take_all, take-append-drop}
use Rattle.som_model.specs.declared.limits.TheConstants.{MAX_NAME, MAX_NESTING, MAX_TEXT}
use Rattle.som_lex.specs.declared.token.LexToken.{LexToken}
use Rattle.som_lex.specs.declared.token.Tokens.{Tokens}
use Rattle.som_lex.specs.declared.fault.LexFault.{LexFault}
use Rattle.som_lex.specs.declared.fault.LexFault.TheVariants as lexing
use Rattle.som_lex.specs.Line.{is_fresh}
use Rattle.som_lex.specs.Front.{IsFault, IsTextFault, no_token, a_digit_after_zero, in_literal, open_comment, a_large_number, a_long_name, a_bad_byte, a_bad_escape, unclosed, too_long}
use Rattle.som_lex.specs.Cut.{IsCut, Stops, here, after_gap, after_token}
use Rattle.som_lex.specs.Spans.{AreTokens, offset_of}
use Rattle.som_lex.proofs.OneCut.{one_cut, one_fault, cut_apart}
use Rattle.som_parse.specs.declared.fault.SyntaxFault.{SyntaxFault}
use Rattle.som_parse.specs.declared.fault.SyntaxFault.TheVariants as parsing
use Rattle.som_ast.specs.declared.interface.IdlFile.{IdlFile}
use Rattle.som_idl.specs.Answer.{IsAnswer}
use Rattle.som_idl.proofs.Theorem.{one_answer, some_answer}
use Rattle.som_ast.specs.declared.body.BodyFile.{BodyFile}
use Rattle.som_ast.specs.declared.body.MainFile.{MainFile}
use Rattle.som_body.specs.Answer.{AreBodies, IsMain}
use Rattle.som_body.proofs.Theorem.{one_bodies_answer, one_main_answer, some_bodies_answer, some_main_answer}
use Rattle.som_sources.specs.declared.fault.ReadingFault.TheVariants as reading
use Rattle.som_sources.specs.declared.fault.TextFault.{TextFault}
use Rattle.som_sources.specs.declared.fault.TextFault.TheVariants as texts
use Rattle.som_sources.specs.declared.source.Source.{Source}
use Rattle.som_sources.specs.declared.fault.CompileFault.{CompileFault}
use Rattle.som_sources.specs.declared.fault.CompileFault.TheVariants as faults
use Rattle.som_sources.specs.declared.kind.SourceKind.{SourceKind}
use Rattle.som_sources.specs.declared.kind.SourceKind.TheVariants as kinds
use Rattle.som_sources.specs.declared.trees.TextTree.{TextTree}
use Rattle.som_sources.specs.declared.trees.TextTree.TheVariants as trees
use Rattle.som_sources.specs.declared.trees.Trees.{Trees}
use Rattle.som_sources.specs.Sources.{kind_of}
use Rattle.som_sources.specs.Reading.{lexing_told, parsing_told, Tells, Says, no_trees, with_first, with_last, IsParsed, Reads, no_tokens, no_tree, a_tree, ReadsAll, no_more, one_more, refused, refused_later}
use Rattle.som_lex.proofs.Lexed.{Lexes, lexed}

-- ---- what stands in tokens, by its kind

abbrev Parsed : Type 0
Parsed = Result TextTree SyntaxFault

abbrev not_parsed : SyntaxFault → Parsed
not_parsed f = Err f

abbrev a_parsed : TextTree → Parsed
a_parsed f = Ok f

-- the answer of one grammar, as one for a text
abbrev as_tree : {A : Type 0} → (A → TextTree) → Result A SyntaxFault → Parsed
as_tree tree (Ok a) = Ok (tree a)
as_tree tree (Err f) = Err f

abbrev Answered : {A : Type 0} → (Tokens → Result A SyntaxFault → Type 0) → (A → TextTree) → Tokens → Parsed → Type 0
Answered {A = A} Answers tree t r = (a : Result A SyntaxFault) × Answers t a × (r ≡ as_tree tree a)

some_kept : {A : Type 0} (tree : A → TextTree) (r : Parsed) (a : Result A SyntaxFault) → r ≡ as_tree tree a → r ≢ Err parsing.NoMemory → a ≢ Err parsing.NoMemory
some_kept tree r a e some same = some (e ∙ ap (as_tree tree) same)

one_answered : {A : Type 0} (Answers : Tokens → Result A SyntaxFault → Type 0) (tree : A → TextTree) (t : Tokens)
    → ((a b : Result A SyntaxFault) → Answers t a → Answers t b → a ≢ Err parsing.NoMemory → b ≢ Err parsing.NoMemory → a ≡ b)
    → (r q : Parsed) → Answered Answers tree t r → Answered Answers tree t q → r ≢ Err parsing.NoMemory → q ≢ Err parsing.NoMemory → r ≡ q
one_answered Answers tree t one r q (a, x, e) (b, y, h) p s =
    e ∙ ap (as_tree tree) (one a b x y (some_kept tree r a e p) (some_kept tree q b h s)) ∙ sym h

idl_answered : (t : Tokens) (r : Parsed) → IsParsed kinds.Interfaces t r → Answered IsAnswer trees.Interfaces t r
idl_answered t (Ok (trees.Interfaces f)) x = (Ok f, x, refl)
idl_answered t (Ok (trees.Bodies f)) x = absurd x
idl_answered t (Ok (trees.Main f)) x = absurd x
idl_answered t (Err f) x = (Err f, x, refl)

bodies_answered : (t : Tokens) (r : Parsed) → IsParsed kinds.Bodies t r → Answered AreBodies trees.Bodies t r
bodies_answered t (Ok (trees.Interfaces f)) x = absurd x
bodies_answered t (Ok (trees.Bodies f)) x = (Ok f, x, refl)
bodies_answered t (Ok (trees.Main f)) x = absurd x
bodies_answered t (Err f) x = (Err f, x, refl)

main_answered : (t : Tokens) (r : Parsed) → IsParsed kinds.Main t r → Answered IsMain trees.Main t r
main_answered t (Ok (trees.Interfaces f)) x = absurd x
main_answered t (Ok (trees.Bodies f)) x = absurd x
main_answered t (Ok (trees.Main f)) x = (Ok f, x, refl)
main_answered t (Err f) x = (Err f, x, refl)

-- there is one answer
one_parsed : (k : SourceKind) (t : Tokens) (r q : Parsed) → IsParsed k t r → IsParsed k t q → r ≢ Err parsing.NoMemory → q ≢ Err parsing.NoMemory → r ≡ q
one_parsed kinds.Interfaces t r q x y = one_answered IsAnswer trees.Interfaces t (one_answer t) r q (idl_answered t r x) (idl_answered t q y)
one_parsed kinds.Bodies t r q x y = one_answered AreBodies trees.Bodies t (one_bodies_answer t) r q (bodies_answered t r x) (bodies_answered t q y)
one_parsed kinds.Main t r q x y = one_answered IsMain trees.Main t (one_main_answer t) r q (main_answered t r x) (main_answered t q y)

-- and some answer
abbrev Some_parsed : SourceKind → Tokens → Type 0
Some_parsed k t = (r : Parsed) × IsParsed k t r × (r ≢ Err parsing.NoMemory)

same_fault_of : (f g : SyntaxFault) → not_parsed f ≡ not_parsed g → f ≡ g
same_fault_of f g e = cc

abbrev refused_as : {A : Type 0} → SyntaxFault → Result A SyntaxFault
refused_as f = Err f

still_some : {A : Type 0} (f : SyntaxFault) → refused_as {A = A} f ≢ Err parsing.NoMemory → not_parsed f ≢ Err parsing.NoMemory
still_some {A = A} f some same = some (ap (refused_as {A = A}) (same_fault_of f parsing.NoMemory same))

idl_parsed : (t : Tokens) (a : Result IdlFile SyntaxFault) → IsAnswer t a → a ≢ Err parsing.NoMemory → Some_parsed kinds.Interfaces t
idl_parsed t (Ok f) x some = (Ok (trees.Interfaces f), x, λ same. cc)
idl_parsed t (Err f) x some = (Err f, x, still_some f some)

bodies_parsed : (t : Tokens) (a : Result BodyFile SyntaxFault) → AreBodies t a → a ≢ Err parsing.NoMemory → Some_parsed kinds.Bodies t
bodies_parsed t (Ok f) x some = (Ok (trees.Bodies f), x, λ same. cc)
bodies_parsed t (Err f) x some = (Err f, x, still_some f some)

main_parsed : (t : Tokens) (a : Result MainFile SyntaxFault) → IsMain t a → a ≢ Err parsing.NoMemory → Some_parsed kinds.Main t
main_parsed t (Ok f) x some = (Ok (trees.Main f), x, λ same. cc)
main_parsed t (Err f) x some = (Err f, x, still_some f some)

some_parsed : (k : SourceKind) (t : Tokens) → Some_parsed k t
some_parsed kinds.Interfaces t = let a = some_answer t in idl_parsed t a.0 a.1 a.2
some_parsed kinds.Bodies t = let a = some_bodies_answer t in bodies_parsed t a.0 a.1 a.2
some_parsed kinds.Main t = let a = some_main_answer t in main_parsed t a.0 a.1 a.2

-- ---- one text

text_fault_told : (name : List ℕ) (at : ℕ) (u : List ℕ) (f : LexFault) → IsTextFault at u f → (w : TextFault) × (lexing_told name f ≡ Some w)
text_fault_told name at _ _ (a_bad_byte u v b rest m le p q k l) = (texts.Unread reading.BadByte name (at + 1 + length u), refl)
text_fault_told name at _ _ (a_bad_escape u v b rest m le e l) = (texts.Unread reading.BadByte name (at + 1 + length u + 1), refl)
text_fault_told name at _ _ (unclosed u v rest m le e) = (texts.Unread reading.OpenText name at, refl)
text_fault_told name at _ _ (too_long u v rest m le) = (texts.Limit (codes "text") MAX_TEXT, refl)

front_fault_told : (name : List ℕ) (fresh : Bool) (at : ℕ) (left : List ℕ) (f : LexFault) → IsFault fresh at left f → (w : TextFault) × (lexing_told name f ≡ Some w)
front_fault_told name fresh at _ _ (no_token k q none) = (texts.Unread reading.BadByte name at, refl)
front_fault_told name fresh at _ _ (a_digit_after_zero e) = (texts.Unread reading.BadByte name (at + 1), refl)
front_fault_told name fresh at _ f (in_literal {bs = bs} h) = text_fault_told name at bs f h
front_fault_told name fresh at _ _ (open_comment e) = (texts.Unread reading.OpenComment name at, refl)
front_fault_told name fresh at _ _ (a_large_number n l gt) = (texts.Unread reading.NumberTooLarge name at, refl)
front_fault_told name fresh at _ _ (a_long_name n l gt) = (texts.Limit (codes "name") MAX_NAME, refl)

-- each fault of bytes is told
lex_fault_told : (name source : List ℕ) (at : ℕ) (f : LexFault) → Stops source at f → (w : TextFault) × (lexing_told name f ≡ Some w)
lex_fault_told name source at f (here h) = front_fault_told name (is_fresh source at) at (drop at source) f h
lex_fault_told name source at f (after_gap {n = n} g s) = lex_fault_told name source (at + n) f s
lex_fault_told name source at f (after_token {n = n} t s) = lex_fault_told name source (at + n) f s

-- each fault of tokens is told, but for want of memory
parse_fault_told : (name : List ℕ) (t : Tokens) (f : SyntaxFault) → not_parsed f ≢ not_parsed parsing.NoMemory → (w : TextFault) × (parsing_told name t f ≡ Some w)
parse_fault_told name t (parsing.Syntax k) some = (texts.Unread reading.Syntax name (offset_of t k), refl)
parse_fault_told name t (parsing.NotInProfile k) some = (texts.Unread reading.NotInProfile name (offset_of t k), refl)
parse_fault_told name t (parsing.Nesting k) some = (texts.Limit (codes "nesting") MAX_NESTING, refl)
parse_fault_told name t parsing.NoMemory some = absurd (some refl)

-- what is told is no want of memory
no_want : (name : List ℕ) (t : Tokens) (f : SyntaxFault) (w : TextFault) → parsing_told name t f ≡ Some w → not_parsed f ≢ not_parsed parsing.NoMemory
no_want name t (parsing.Syntax k) w e same = cc
no_want name t (parsing.NotInProfile k) w e same = cc
no_want name t (parsing.Nesting k) w e same = cc
no_want name t parsing.NoMemory w e same = cc

tree_told : (f : TextTree) → a_parsed f ≢ not_parsed parsing.NoMemory
tree_told f e = cc

abbrev tokens_from : List ℕ → List LexToken → Tokens
tokens_from source list = record { source = source; list = list }

-- a text has some tree or some fault
parsed : (s : Source) (t : Tokens) → t.source ≡ s.bytes → AreTokens t → (a : Parsed) → IsParsed (kind_of s.name) t a → a ≢ Err parsing.NoMemory → (r : Result TextTree TextFault) × Reads s r
parsed s t e c (Ok f) a some = (Ok f, a_tree t f e c a)
parsed s t e c (Err f) a some = let w = parse_fault_told s.name t f some in (Err w.0, no_tree t f w.0 e c a w.1)

pub some_reading : (s : Source) → (r : Result TextTree TextFault) × Reads s r
some_reading s = by_tokens s (lexed s.bytes)
  where
    by_tokens : (s : Source) → Lexes s.bytes 0 → (r : Result TextTree TextFault) × Reads s r
    by_tokens s (inl (ts, c)) =
        let a = some_parsed (kind_of s.name) (tokens_from s.bytes ts) in
        parsed s (tokens_from s.bytes ts) refl c a.0 a.1 a.2
    by_tokens s (inr (f, stops)) = let w = lex_fault_told s.name s.bytes 0 f stops in (Err w.0, no_tokens f w.0 stops w.1)

-- and one at most
same_tokens : (bytes : List ℕ) (t u : Tokens) → t.source ≡ bytes → u.source ≡ bytes → AreTokens t → AreTokens u → t ≡ u
same_tokens bytes t u e f c d =
    let s : t.source ≡ u.source = e ∙ sym f in
    let l : t.list ≡ u.list = one_cut u.source t.list u.list (subst (λ (x : List ℕ). IsCut x 0 t.list) s c) d in
    ap (λ (x : List ℕ). tokens_from x t.list) s ∙ ap (tokens_from u.source) l

cut_or_stops : {A : Type 0} (bytes : List ℕ) (t : Tokens) (f : LexFault) → t.source ≡ bytes → AreTokens t → Stops bytes 0 f → A
cut_or_stops bytes t f e c s = absurd (cut_apart bytes t.list f (subst (λ (x : List ℕ). IsCut x 0 t.list) e c) s)

one_told : (o : Option TextFault) (v w : TextFault) → o ≡ Some v → o ≡ Some w → v ≡ w
one_told o v w e f = let h : Some v ≡ Some w = sym e ∙ f in cc

abbrev failed : TextFault → Result TextTree TextFault
failed w = Err w

one_fault_told : (s : Source) (f g : LexFault) (v w : TextFault) → Stops s.bytes 0 f → Stops s.bytes 0 g → lexing_told s.name f ≡ Some v → lexing_told s.name g ≡ Some w → failed v ≡ failed w
one_fault_told s f g v w p q e h =
    ap failed (one_told (lexing_told s.name f) v w e (ap (lexing_told s.name) (one_fault s.bytes f g p q) ∙ h))

same_answer : (s : Source) (t u : Tokens) (a b : Parsed) → t.source ≡ s.bytes → u.source ≡ s.bytes → AreTokens t → AreTokens u → IsParsed (kind_of s.name) t a → IsParsed (kind_of s.name) u b
    → a ≢ Err parsing.NoMemory → b ≢ Err parsing.NoMemory → a ≡ b
same_answer s t u a b e f c d x y p q =
    one_parsed (kind_of s.name) u a b (subst (λ (k : Tokens). IsParsed (kind_of s.name) k a) (same_tokens s.bytes t u e f c d) x) y p q

syntax_ok : (f : TextTree) (g : SyntaxFault) → a_parsed f ≡ not_parsed g → ⊥
syntax_ok f g e = cc

pub one_reading : (s : Source) (a b : Result TextTree TextFault) → Reads s a → Reads s b → a ≡ b
one_reading s _ _ (no_tokens f v p e) (no_tokens g w q h) = one_fault_told s f g v w p q e h
one_reading s _ _ (no_tokens f v p e) (no_tree u g w h d y k) = cut_or_stops s.bytes u f h d p
one_reading s _ _ (no_tokens f v p e) (a_tree u g h d y) = cut_or_stops s.bytes u f h d p
one_reading s _ _ (no_tree t f v e c x k) (no_tokens g w q h) = cut_or_stops s.bytes t g e c q
one_reading s _ _ (a_tree t f e c x) (no_tokens g w q h) = cut_or_stops s.bytes t g e c q
one_reading s _ _ (no_tree t f v e c x k) (no_tree u g w h d y l) =
    let same = same_fault_of f g (same_answer s t u (Err f) (Err g) e h c d x y (no_want s.name t f v k) (no_want s.name u g w l)) in
    ap failed (one_told (parsing_told s.name t f) v w k (ap (parsing_told s.name t) same ∙ ap (λ (z : Tokens). parsing_told s.name z g) (same_tokens s.bytes t u e h c d) ∙ l))
one_reading s _ _ (no_tree t f v e c x k) (a_tree u g h d y) =
    absurd (syntax_ok g f (sym (same_answer s t u (Err f) (Ok g) e h c d x y (no_want s.name t f v k) (tree_told g))))
one_reading s _ _ (a_tree t f e c x) (no_tree u g w h d y l) =
    absurd (syntax_ok f g (same_answer s t u (Ok f) (Err g) e h c d x y (tree_told f) (no_want s.name u g w l)))
one_reading s _ _ (a_tree t f e c x) (a_tree u g h d y) =
    let parses : a_parsed f ≡ a_parsed g = same_answer s t u (Ok f) (Ok g) e h c d x y (tree_told f) (tree_told g) in
    let same : f ≡ g = cc in
    ap (λ (k : TextTree). Ok k) same

-- ---- what the code answers

told_no_want : (name : List ℕ) (f : LexFault) (w : TextFault) → lexing_told name f ≡ Some w → f ≢ lexing.NoMemory
told_no_want name f w e same = let h : None ≡ Some w = ap (lexing_told name) (sym same) ∙ e in cc

-- the bytes of the text are no tokens
pub lex_refused : (s : Source) (f : LexFault) (r : CompileFault) → (f ≢ lexing.NoMemory → Stops s.bytes 0 f) → Tells (lexing_told s.name f) r → Says {A = TextTree} (Reads s) (Err r)
lex_refused s f (faults.Text w) stops e = no_tokens f w (stops (told_no_want s.name f w e)) e
lex_refused s f faults.NoMemory stops e = tt

-- its tokens are no text of the grammar
pub parse_refused : (s : Source) (t : Tokens) (f : SyntaxFault) (r : CompileFault) → t.source ≡ s.bytes → AreTokens t → IsParsed (kind_of s.name) t (Err f) → Tells (parsing_told s.name t f) r → Says {A = TextTree} (Reads s) (Err r)
parse_refused s t f (faults.Text w) e c a told = no_tree t f w e c a told
parse_refused s t f faults.NoMemory e c a told = tt

-- they have a tree
pub tree_read : (s : Source) (t : Tokens) (f : TextTree) → t.source ≡ s.bytes → AreTokens t → IsParsed (kind_of s.name) t (Ok f) → Says (Reads s) (Ok f)
tree_read s t f e c a = a_tree t f e c a

-- ---- all texts

abbrev Told : Type 0
Told = Result Trees TextFault

after_text : (s : Source) (ss : List Source) (r : Result TextTree TextFault) → Reads s r → (x : Told) → ReadsAll ss x → (told : Told) × ReadsAll (s ∷ ss) told
after_text s ss (Err w) r x all = (Err w, refused r)
after_text s ss (Ok f) r (Ok ts) all = (Ok (with_first f ts), one_more r all)
after_text s ss (Ok f) r (Err w) all = (Err w, refused_later r all)

pub some_readings : (ss : List Source) → (told : Told) × ReadsAll ss told
some_readings [] = (Ok no_trees, no_more)
some_readings (s ∷ ss) = let r = some_reading s in let x = some_readings ss in after_text s ss r.0 r.1 x.0 x.1

abbrev read : TextTree → Result TextTree TextFault
read f = Ok f

abbrev all_failed : TextFault → Told
all_failed w = Err w

abbrev all_read : Trees → Told
all_read ts = Ok ts

one_tree_read : (s : Source) (f g : TextTree) → Reads s (Ok f) → Reads s (Ok g) → f ≡ g
one_tree_read s f g x y = let h : read f ≡ read g = one_reading s (Ok f) (Ok g) x y in cc

one_fault_read : (s : Source) (v w : TextFault) → Reads s (Err v) → Reads s (Err w) → v ≡ w
one_fault_read s v w x y = let h : failed v ≡ failed w = one_reading s (Err v) (Err w) x y in cc

never_both : {A : Type 0} (s : Source) (f : TextTree) (w : TextFault) → Reads s (Ok f) → Reads s (Err w) → A
never_both s f w x y = let h : read f ≡ failed w = one_reading s (Ok f) (Err w) x y in cc

trees_ok : (fs gs : Trees) → all_read fs ≡ all_read gs → fs ≡ gs
trees_ok fs gs e = cc

trees_err : (v w : TextFault) → all_failed v ≡ all_failed w → v ≡ w
trees_err v w e = cc

trees_apart : {A : Type 0} (fs : Trees) (w : TextFault) → all_read fs ≡ all_failed w → A
trees_apart fs w e = cc

pub one_readings : (ss : List Source) (a b : Told) → ReadsAll ss a → ReadsAll ss b → a ≡ b
one_readings _ _ _ no_more no_more = refl
one_readings (s ∷ ss) _ _ (one_more {f = f} {ts = fs} x p) (one_more {f = g} {ts = gs} y q) =
    ap (λ (k : TextTree). all_read (with_first k fs)) (one_tree_read s f g x y) ∙ ap (λ (ts : Trees). all_read (with_first g ts)) (trees_ok fs gs (one_readings ss (Ok fs) (Ok gs) p q))
one_readings (s ∷ ss) _ _ (one_more {f = f} x p) (refused {w = w} y) = never_both s f w x y
one_readings (s ∷ ss) _ _ (one_more {ts = fs} x p) (refused_later {w = w} y q) = trees_apart fs w (one_readings ss (Ok fs) (Err w) p q)
one_readings (s ∷ ss) _ _ (refused {w = v} x) (one_more {f = g} y q) = never_both s g v y x
one_readings (s ∷ ss) _ _ (refused {w = v} x) (refused {w = w} y) = ap all_failed (one_fault_read s v w x y)
one_readings (s ∷ ss) _ _ (refused {w = v} x) (refused_later {f = g} y q) = never_both s g v y x
one_readings (s ∷ ss) _ _ (refused_later {w = v} x p) (one_more {ts = gs} y q) = trees_apart gs v (one_readings ss (Ok gs) (Err v) q p)
one_readings (s ∷ ss) _ _ (refused_later {f = f} x p) (refused {w = w} y) = never_both s f w x y
one_readings (s ∷ ss) _ _ (refused_later {w = v} x p) (refused_later {w = w} y q) = ap all_failed (trees_err v w (one_readings ss (Err v) (Err w) p q))

pub same_trees : (ss : List Source) (ts us : Trees) → ReadsAll ss (Ok ts) → ReadsAll ss (Ok us) → ts ≡ us
same_trees ss ts us x y = trees_ok ts us (one_readings ss (Ok ts) (Ok us) x y)

pub same_unread : (ss : List Source) (v w : TextFault) → ReadsAll ss (Err v) → ReadsAll ss (Err w) → v ≡ w
same_unread ss v w x y = trees_err v w (one_readings ss (Err v) (Err w) x y)

pub read_or_not : {A : Type 0} (ss : List Source) (ts : Trees) (w : TextFault) → ReadsAll ss (Ok ts) → ReadsAll ss (Err w) → A
read_or_not ss ts w x y = trees_apart ts w (one_readings ss (Ok ts) (Err w) x y)

-- ---- the loop

-- the tree of one text is its first and its last
first_last : (f : TextTree) → with_first f no_trees ≡ with_last no_trees f
first_last (trees.Interfaces f) = refl
first_last (trees.Bodies f) = refl
first_last (trees.Main f) = refl

-- a tree before others and one after them can be added in either order
both_ends : (g f : TextTree) (ts : Trees) → with_first g (with_last ts f) ≡ with_last (with_first g ts) f
both_ends (trees.Interfaces g) (trees.Interfaces f) ts = refl
both_ends (trees.Interfaces g) (trees.Bodies f) ts = refl
both_ends (trees.Interfaces g) (trees.Main f) ts = refl
both_ends (trees.Bodies g) (trees.Interfaces f) ts = refl
both_ends (trees.Bodies g) (trees.Bodies f) ts = refl
both_ends (trees.Bodies g) (trees.Main f) ts = refl
both_ends (trees.Main g) (trees.Interfaces f) ts = refl
both_ends (trees.Main g) (trees.Bodies f) ts = refl
both_ends (trees.Main g) (trees.Main f) ts = refl

-- one text more is read
pub read_more : (ss : List Source) (ts : Trees) (s : Source) (f : TextTree) → ReadsAll ss (Ok ts) → Reads s (Ok f) → ReadsAll (ss ++ s ∷ []) (Ok (with_last ts f))
read_more _ _ s f no_more x = subst (λ (ts : Trees). ReadsAll (s ∷ []) (Ok ts)) (first_last f) (one_more x no_more)
read_more _ _ s f (one_more {s = r} {ss = ss} {f = g} {ts = ts} y p) x =
    subst (λ (all : Trees). ReadsAll (r ∷ ss ++ s ∷ []) (Ok all)) (both_ends g f ts) (one_more y (read_more ss ts s f p x))

-- the next text can't be read
pub stops_here : (ss : List Source) (ts : Trees) (s : Source) (w : TextFault) (rest : List Source) → ReadsAll ss (Ok ts) → Reads s (Err w) → ReadsAll (ss ++ s ∷ rest) (Err w)
stops_here _ _ s w rest no_more x = refused x
stops_here _ _ s w rest (one_more {ss = ss} {ts = ts} y p) x = refused_later y (stops_here ss ts s w rest p x)

pub none_read : (ss : List Source) (ts : Trees) → ts ≡ no_trees → ReadsAll (take 0 ss) (Ok ts)
none_read ss ts e = subst (λ (all : Trees). ReadsAll [] (Ok all)) (sym e) no_more

pub all_texts : (ss : List Source) (ts : Trees) (i : ℕ) → length ss ≤ i → ReadsAll (take i ss) (Ok ts) → Says (ReadsAll ss) (Ok ts)
all_texts ss ts i over x = subst (λ (l : List Source). ReadsAll l (Ok ts)) (take_all i ss over) x

-- a text stands at the place, after those that were read
module _ (ss : List Source) (ts : Trees) (i : ℕ) (s : Source) (lt : i < length ss) (at : s ≡ get_or ss i s) (read_so : ReadsAll (take i ss) (Ok ts)) where
  up_to : take (i + 1) ss ≡ take i ss ++ s ∷ []
  up_to = take_more ss i s lt ∙ ap (λ (x : Source). take i ss ++ x ∷ []) (sym at)

  parted : ss ≡ take i ss ++ s ∷ drop (i + 1) ss
  parted = sym (take-append-drop (i + 1) ss) ∙ ap (λ (l : List Source). l ++ drop (i + 1) ss) up_to ∙ append_assoc (take i ss) (s ∷ []) (drop (i + 1) ss)

  -- it is read
  pub next_read : (f : TextTree) → Says (Reads s) (Ok f) → ReadsAll (take (i + 1) ss) (Ok (with_last ts f))
  next_read f x = subst (λ (l : List Source). ReadsAll l (Ok (with_last ts f))) (sym up_to) (read_more (take i ss) ts s f read_so x)

  -- it can't be read
  pub next_refused : (r : CompileFault) → Says {A = TextTree} (Reads s) (Err r) → Says {A = Trees} (ReadsAll ss) (Err r)
  next_refused (faults.Text w) x = subst (λ (l : List Source). ReadsAll l (Err w)) (sym parted) (stops_here (take i ss) ts s w (drop (i + 1) ss) read_so x)
  next_refused faults.NoMemory x = tt
