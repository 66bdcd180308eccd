-- A block by its statements one after the other, and statements that hold blocks.
use Rattle.std.proofs.Common.{◌≡◌, ℕ, ◌+◌, ◌<◌, ◌≤◌, Bool, if◌then◌else◌, List, [], ◌∷◌, ◌++◌, length, map, take, drop, get_or, Result, Ok, Err, refl, sym, ap, ◌∙◌, subst, append_assoc}
use Rattle.std.proofs.lemmas.List.{at_drop_more, drop_all}
use Rattle.som_model.specs.declared.syntax.Stmt.{Stmt}
use Rattle.som_model.specs.declared.syntax.Block.{Block}
use Rattle.som_model.specs.Steps.{◌>>=◌}
use Rattle.som_model.specs.Class.{Class}
use Rattle.som_model.specs.Typing.{ClassFacts, CodePlace, ExprType, Ruled, Typed, needs, is_boolean}
use Rattle.som_model.specs.TypedBlocks.{Scope, Scoped, stmt_scope, block_scope, in_turn}
use Rattle.som_model.proofs.TypingLaws.{block_typed}
use Rattle.som_verify_forms.specs.declared.kind.Kind.{Kind}
use Rattle.som_verify_forms.specs.declared.code_place.TypeFault.{TypeFault}
use Rattle.som_verify_forms.specs.declared.code_place.TypeFault.TheVariants as faults
use Rattle.som_verify_forms.specs.Kinds.{AreTypes, Fails, kind_at}
use Rattle.som_verify_forms.specs.Scopes.{Ends, Keeps, Leaves, Scopes, scope_at}
use Rattle.som_verify_forms.proofs.Keeping.{tested, then_fails}

-- of a block these statements are left, and what was declared so far is in scope
pub record IsPart (cs : List Class) (w : ClassFacts) (at : CodePlace) (all left : List Stmt) (before now : List Kind) : Type 0 where
  pub same : in_turn (map (stmt_scope w at) left) (scope_at cs now) ≡ in_turn (map (stmt_scope w at) all) (scope_at cs before)
  pub types : AreTypes cs now
  pub declared : List Kind
  pub more : now ≡ before ++ declared

nothing_more : {A : Type 0} (xs : List A) → xs ≡ xs ++ []
nothing_more [] = refl
nothing_more (x ∷ xs) = ap (λ z. x ∷ z) (nothing_more xs)

front_of : {A : Type 0} (xs ys : List A) → take (length xs) (xs ++ ys) ≡ xs
front_of [] ys = refl
front_of (x ∷ xs) ys = ap (λ z. x ∷ z) (front_of xs ys)

module _ (cs : List Class) (w : ClassFacts) (at : CodePlace) where
  pub begins : (all : List Stmt) (before : List Kind) → AreTypes cs before → IsPart cs w at all all before before
  begins all before types = record { same = refl; types = types; declared = []; more = nothing_more before }

  -- the next statement, and then those after it
  one_more : (all : List Stmt) (i : ℕ) (s : Stmt) (now : List Kind) → i < length all → s ≡ get_or all i s
      → in_turn (map (stmt_scope w at) (drop i all)) (scope_at cs now) ≡ (stmt_scope w at s (scope_at cs now) >>= in_turn (map (stmt_scope w at) (drop (i + 1) all)))
  one_more all i s now lt is =
      at_drop_more (λ l. in_turn (map (stmt_scope w at) l) (scope_at cs now)) all i s lt
      ∙ ap (λ z. stmt_scope w at z (scope_at cs now) >>= in_turn (map (stmt_scope w at) (drop (i + 1) all))) (sym is)

  pub goes_on : (all : List Stmt) (i : ℕ) (s : Stmt) (before now next : List Kind) → i < length all → s ≡ get_or all i s
      → Leaves cs (stmt_scope w at s (scope_at cs now)) now next → IsPart cs w at all (drop i all) before now → IsPart cs w at all (drop (i + 1) all) before next
  goes_on all i s before now next lt is l p = record {
    same = sym (ap (λ (z : Ruled Scope). z >>= in_turn (map (stmt_scope w at) (drop (i + 1) all))) l.scope) ∙ sym (one_more all i s now lt is) ∙ p.same;
    types = l.types;
    declared = p.declared ++ l.declared;
    more = l.more ∙ ap (λ z. z ++ l.declared) p.more ∙ append_assoc before p.declared l.declared;
  }

  whole : (b : Block) (scope : Scope) → block_scope w at b scope ≡ in_turn (map (stmt_scope w at) b.statements) scope
  whole b scope = ap (λ (f : Scoped). f scope) (block_typed w at b.statements)

  pub breaks : (b : Block) (i : ℕ) (s : Stmt) (before now : List Kind) (e : TypeFault) → i < length b.statements → s ≡ get_or b.statements i s
      → Fails (stmt_scope w at s (scope_at cs now)) e → IsPart cs w at b.statements (drop i b.statements) before now → Fails (block_scope w at b (scope_at cs before)) e
  breaks b i s before now e lt is f p =
      subst (λ (z : Ruled Scope). Fails z e) (sym (one_more b.statements i s now lt is) ∙ p.same ∙ sym (whole b (scope_at cs before)))
      (then_fails (stmt_scope w at s (scope_at cs now)) (in_turn (map (stmt_scope w at) (drop (i + 1) b.statements))) e f)

  pub ends : (b : Block) (i : ℕ) (before now : List Kind) → length b.statements ≤ i → IsPart cs w at b.statements (drop i b.statements) before now
      → Ends (block_scope w at b (scope_at cs before)) before (take (length before) now)
  ends b i before now le p = record {
    scope = scope_at cs now;
    ends = whole b (scope_at cs before) ∙ sym p.same ∙ ap (λ z. in_turn (map (stmt_scope w at) z) (scope_at cs now)) (drop_all i b.statements le);
    same = ap (take (length before)) p.more ∙ front_of before p.declared;
  }

-- a statement that declares nothing leaves its scope
pub kept : (cs : List Class) (ruled : Ruled Scope) (before after : List Kind) (r : Result (Unit {0}) TypeFault) → AreTypes cs before → after ≡ before → Keeps cs ruled before r → Scopes cs ruled before after r
kept cs ruled before after (Ok x) types same k = record { scope = k ∙ ap (λ z. Ok (scope_at cs z)) (sym same); types = subst (λ z. AreTypes cs z) (sym same) types; declared = []; more = same ∙ nothing_more before }
kept cs ruled before after (Err e) types same k = k

-- what a statement comes to by its form
pub formed : (cs : List Class) (ruled form : Ruled Scope) (before after : List Kind) (r : Result (Unit {0}) TypeFault) → ruled ≡ form → Scopes cs form before after r → Scopes cs ruled before after r
formed cs ruled form before after r same t = subst (λ (z : Ruled Scope). Scopes cs z before after r) (sym same) t

-- ---- a condition, and then blocks

pub after_part : (cs : List Class) (typed : Typed) (k : Kind) (f : ExprType → Ruled Scope) (e : TypeFault) → typed ≡ Ok (kind_at cs k) → Fails (f (kind_at cs k)) e → Fails (typed >>= f) e
after_part cs typed k f e is t = subst (λ (z : Typed). Fails (z >>= f) e) (sym is) t

pub after_block : (a : Ruled Scope) (s : Scope) (f : Scope → Ruled Scope) (e : TypeFault) → a ≡ Ok s → Fails (f s) e → Fails (a >>= f) e
after_block a s f e is t = subst (λ (z : Ruled Scope). Fails (z >>= f) e) (sym is) t

pub while_kept : (cs : List Class) (typed : Typed) (k : Kind) (a : Ruled Scope) (s : Scope) (before : List Kind) (holds : Bool) (r : Result (Unit {0}) TypeFault)
    → typed ≡ Ok (kind_at cs k) → a ≡ Ok s → holds ≡ is_boolean (kind_at cs k) → r ≡ (if holds then Ok tt else Err (faults.Rule 17))
    → Keeps cs (typed >>= λ t. a >>= λ _. needs 17 (is_boolean t) (Ok (scope_at cs before))) before r
while_kept cs typed k a s before holds r e f h is =
    subst (λ (z : Ruled Scope). Keeps cs (typed >>= λ t. z >>= λ _. needs 17 (is_boolean t) (Ok (scope_at cs before))) before r) (sym f)
    (tested cs typed 17 is_boolean before k holds r e h is)

pub if_kept : (cs : List Class) (typed : Typed) (k : Kind) (a b : Ruled Scope) (s u : Scope) (before : List Kind) (holds : Bool) (r : Result (Unit {0}) TypeFault)
    → typed ≡ Ok (kind_at cs k) → a ≡ Ok s → b ≡ Ok u → holds ≡ is_boolean (kind_at cs k) → r ≡ (if holds then Ok tt else Err (faults.Rule 17))
    → Keeps cs (typed >>= λ t. a >>= λ _. b >>= λ _. needs 17 (is_boolean t) (Ok (scope_at cs before))) before r
if_kept cs typed k a b s u before holds r e f g h is =
    subst (λ (z : Ruled Scope). Keeps cs (typed >>= λ t. z >>= λ _. b >>= λ _. needs 17 (is_boolean t) (Ok (scope_at cs before))) before r) (sym f)
    (while_kept cs typed k b u before holds r e g h is)

-- what a statement that keeps its scope comes to by its form, where the scope is shown as a slice
pub plainly : (cs : List Class) (ruled : Ruled Scope) (form : List Kind → Ruled Scope) (before shown : List Kind) (r : Result (Unit {0}) TypeFault) → AreTypes cs before → shown ≡ before → ruled ≡ form before
    → Keeps cs (form shown) shown r → Scopes cs ruled before before r
plainly cs ruled form before shown r types same is k = formed cs ruled (form before) before before r is (kept cs (form before) before before r types refl (subst (λ (z : List Kind). Keeps cs (form z) z r) same k))
