-- A block by its statements one after the other, and statements that hold blocks.
use Rattle.std.proofs.Common.{◌≡◌, ℕ, ◌+◌, ◌<◌, ◌≤◌, Bool, if◌then◌else◌, List, [], ◌∷◌, ◌++◌, length, map, take, drop, get_or, Result, Ok, Err, refl, sym, ap, ◌∙◌, subst, append_assoc}
use Rattle.std.proofs.lemmas.List.{append-nil, at_drop_more, drop_all}
use Rattle.som_model.specs.declared.syntax.Stmt.{Stmt}
use Rattle.som_model.specs.declared.syntax.Stmt.TheVariants as stmts
use Rattle.som_model.specs.declared.syntax.Block.{Block}
use Rattle.som_model.specs.Steps.{◌>>=◌}
use Rattle.som_model.specs.Class.{Class}
use Rattle.som_model.specs.Typing.{CodePlace, is_boolean, needs}
use Rattle.som_model.proofs.ListLaws.{take_front}
use Rattle.som_ast.specs.declared.body.StmtText.{StmtText}
use Rattle.som_ast.specs.declared.body.BlockText.{BlockText}
use Rattle.som_elab_body.specs.declared.local.Local.{Local}
use Rattle.som_elab_body.specs.Locals.{Names}
use Rattle.som_elab_body.specs.Expressions.{Among, Elab, Elaborated}
use Rattle.som_elab_body.specs.Code.{AreLocals, names_at}
use Rattle.som_elab_body.specs.declared.fault.BodyFault.{BodyFault}
use Rattle.som_elab_body.specs.declared.fault.BodyFault.TheVariants as faults
use Rattle.som_elab_body.specs.Statements.{Placed, StmtElab, Told, elaborated_block, elaborated_stmt, in_turn, placed, ruled}
use Rattle.som_elab_body.specs.BlockCode.{Stops}
use Rattle.som_elab_body.specs.Stated.{Keeps, Leaves, States, if_by, while_by}
use Rattle.som_elab_body.proofs.Stating.{kept}
use Rattle.som_elab_body.proofs.TextForms.{block_is}

-- where something is wrong, what follows is not looked at
pub then_stops : {A B : Type 0} (comes : Told A) (f : A → Told B) (e : BodyFault) → Stops comes e → Stops (comes >>= f) e
then_stops comes f (faults.Rule r) t = ap (λ z. z >>= f) t
then_stops comes f faults.TooManyLocals t = ap (λ z. z >>= f) t
then_stops comes f faults.NoMemory t = tt

-- where a part is there, the rest decides
pub goes_to : {A B : Type 0} (comes : Told A) (f : A → Told B) (x : A) (e : BodyFault) → comes ≡ Ok x → Stops (f x) e → Stops (comes >>= f) e
goes_to comes f x e is t = subst (λ z. Stops (z >>= f) e) (sym is) t

pub value_there : {B : Type 0} (value : Elab) (f : Elaborated → Told B) (p : Elaborated) (e : BodyFault) → value ≡ Ok p → Stops (f p) e → Stops (ruled value >>= f) e
value_there value f p e is t = subst (λ (z : Elab). Stops (ruled z >>= f) e) (sym is) t

-- ---- statements in turn

-- the statements that were made, and then those of the rest
abbrev pub joined : List Stmt → Told (List Stmt) → Told (List Stmt)
joined done rest = rest >>= λ more. Ok (done ++ more)

-- what follows a statement
abbrev pub after_one : List StmtElab → Placed → Told (List Stmt)
after_one later p = in_turn later p.scope >>= λ more. Ok (p.stmt ∷ more)

regroup : (done : List Stmt) (s : Stmt) (rest : Told (List Stmt)) → joined (done ++ s ∷ []) rest ≡ joined done (rest >>= λ more. Ok (s ∷ more))
regroup done s (Ok more) = ap (λ z. Ok z) (append_assoc done (s ∷ []) more)
regroup done s (Err e) = refl

joined_none : (rest : Told (List Stmt)) → joined [] rest ≡ rest
joined_none (Ok more) = refl
joined_none (Err e) = refl

-- of a block these texts are left, these statements are made, and what was declared so far is in scope
pub record IsPart (cs : List Class) (step : StmtText → StmtElab) (all left : List StmtText) (before now : List Local) (done : List Stmt) : Type 0 where
  pub same : joined done (in_turn (map step left) (names_at cs now)) ≡ in_turn (map step all) (names_at cs before)
  pub locals : AreLocals cs now
  pub declared : List Local
  pub more : now ≡ before ++ declared

module _ (cs : List Class) (step : StmtText → StmtElab) where
  pub begins : (all : List StmtText) (before : List Local) → AreLocals cs before → IsPart cs step all all before before []
  begins all before locals = record { same = joined_none (in_turn (map step all) (names_at cs before)); locals = locals; declared = []; more = sym (append-nil before) }

  -- the next statement, and then those after it
  one_more : (all : List StmtText) (i : ℕ) (t : StmtText) (scope : Names) → i < length all → t ≡ get_or all i t
      → in_turn (map step (drop i all)) scope ≡ (step t scope >>= after_one (map step (drop (i + 1) all)))
  one_more all i t scope lt is =
      at_drop_more (λ l. in_turn (map step l) scope) all i t lt
      ∙ ap (λ z. step z scope >>= after_one (map step (drop (i + 1) all))) (sym is)

  pub goes_on : (all : List StmtText) (i : ℕ) (t : StmtText) (before now next : List Local) (done : List Stmt) (s : Stmt) → i < length all → t ≡ get_or all i t
      → Leaves cs (step t (names_at cs now)) s now next → IsPart cs step all (drop i all) before now done → IsPart cs step all (drop (i + 1) all) before next (done ++ s ∷ [])
  goes_on all i t before now next done s lt is l p = record {
    same =
        regroup done s (in_turn (map step (drop (i + 1) all)) (names_at cs next))
        ∙ ap (λ (z : Told Placed). joined done (z >>= after_one (map step (drop (i + 1) all)))) (sym l.makes)
        ∙ ap (joined done) (sym (one_more all i t (names_at cs now) lt is))
        ∙ p.same;
    locals = l.locals;
    declared = p.declared ++ l.declared;
    more = l.more ∙ ap (λ z. z ++ l.declared) p.more ∙ append_assoc before p.declared l.declared;
  }

  -- the statement that stops, and so all of them
  part_breaks : (all : List StmtText) (i : ℕ) (t : StmtText) (before now : List Local) (done : List Stmt) (e : BodyFault) → i < length all → t ≡ get_or all i t
      → Stops (step t (names_at cs now)) e → IsPart cs step all (drop i all) before now done → Stops (in_turn (map step all) (names_at cs before)) e
  part_breaks all i t before now done e lt is f p =
      subst (λ (z : Told (List Stmt)). Stops z e) (ap (joined done) (sym (one_more all i t (names_at cs now) lt is)) ∙ p.same)
      (then_stops (step t (names_at cs now) >>= after_one (map step (drop (i + 1) all))) (λ more. Ok (done ++ more)) e
      (then_stops (step t (names_at cs now)) (after_one (map step (drop (i + 1) all))) e f))

  -- where none is left, all are made
  part_ends : (all : List StmtText) (i : ℕ) (before now : List Local) (done : List Stmt) → length all ≤ i → IsPart cs step all (drop i all) before now done → in_turn (map step all) (names_at cs before) ≡ Ok done
  part_ends all i before now done le p =
      sym p.same ∙ ap (λ z. joined done (in_turn (map step z) (names_at cs now))) (drop_all i all le) ∙ ap (λ z. Ok z) (append-nil done)

module _ (cs : List Class) (a : Among) (at : CodePlace) where
  pub breaks : (b : BlockText) (i : ℕ) (t : StmtText) (before now : List Local) (done : List Stmt) (e : BodyFault) → i < length b.statements → t ≡ get_or b.statements i t
      → Stops (elaborated_stmt a at t (names_at cs now)) e → IsPart cs (elaborated_stmt a at) b.statements (drop i b.statements) before now done → Stops (elaborated_block a at b (names_at cs before)) e
  breaks b i t before now done e lt is f p =
      subst (λ (z : Told Block). Stops z e) (sym (block_is a at b (names_at cs before)))
      (then_stops (in_turn (map (elaborated_stmt a at) b.statements) (names_at cs before)) (λ ss. Ok (record { statements = ss })) e
      (part_breaks cs (elaborated_stmt a at) b.statements i t before now done e lt is f p))

  pub ends : (b : BlockText) (i : ℕ) (before now : List Local) (done : List Stmt) → length b.statements ≤ i → IsPart cs (elaborated_stmt a at) b.statements (drop i b.statements) before now done
      → elaborated_block a at b (names_at cs before) ≡ Ok (record { statements = done })
  ends b i before now done le p =
      block_is a at b (names_at cs before)
      ∙ ap (λ (z : Told (List Stmt)). z >>= λ ss. Ok (record { statements = ss })) (part_ends cs (elaborated_stmt a at) b.statements i before now done le p)

pub as_before : (cs : List Class) (step : StmtText → StmtElab) (all left : List StmtText) (before now : List Local) (done : List Stmt) → IsPart cs step all left before now done → take (length before) now ≡ before
as_before cs step all left before now done p = ap (take (length before)) p.more ∙ take_front before p.declared

-- ---- forms

-- a statement that declares nothing leaves its scope
pub leaves : (cs : List Class) (comes : Told Placed) (before after : List Local) (r : Result Stmt BodyFault) → AreLocals cs before → after ≡ before → Keeps cs comes before r → States cs comes before after r
leaves cs comes before after (Ok s) locals same k = record {
  makes = k ∙ ap (λ z. Ok (record { stmt = s; scope = names_at cs z })) (sym same);
  locals = subst (λ z. AreLocals cs z) (sym same) locals;
  declared = [];
  more = same ∙ sym (append-nil before);
}
leaves cs comes before after (Err e) locals same k = k

-- what a statement comes to by its form
pub formed : (cs : List Class) (comes form : Told Placed) (before after : List Local) (r : Result Stmt BodyFault) → comes ≡ form → States cs form before after r → States cs comes before after r
formed cs comes form before after r same t = subst (λ (z : Told Placed). States cs z before after r) (sym same) t

-- what a statement comes to by its form, where the form takes the locals as a slice
pub plainly : (cs : List Class) (comes : Told Placed) (form : List Local → Told Placed) (before shown : List Local) (r : Result Stmt BodyFault) → AreLocals cs before → shown ≡ before → comes ≡ form before
    → Keeps cs (form shown) shown r → States cs comes before before r
plainly cs comes form before shown r locals same is k =
    formed cs comes (form before) before before r is (leaves cs (form before) before before r locals refl (subst (λ (z : List Local). Keeps cs (form z) z r) same k))

-- a condition, blocks, and then the condition's type
pub while_kept : (cs : List Class) (ls : List Local) (value : Elab) (p : Elaborated) (block : Told Block) (b : Block) (holds : Bool) (r : Result Stmt BodyFault)
    → value ≡ Ok p → block ≡ Ok b → holds ≡ is_boolean p.type → r ≡ (if holds then Ok (stmts.While p.expr b) else Err (faults.Rule 17))
    → Keeps cs (while_by value block (names_at cs ls)) ls r
while_kept cs ls value p block b holds r e f h is =
    kept cs ls (while_by value block (names_at cs ls)) 17 holds (is_boolean p.type) (stmts.While p.expr b) r
    (ap (λ (z : Elab). while_by z block (names_at cs ls)) e ∙ ap (λ (z : Told Block). z >>= λ b. ruled (needs 17 (is_boolean p.type) (placed (names_at cs ls) (stmts.While p.expr b)))) f) h is

pub if_kept : (cs : List Class) (ls : List Local) (value : Elab) (p : Elaborated) (first second : Told Block) (b c : Block) (holds : Bool) (r : Result Stmt BodyFault)
    → value ≡ Ok p → first ≡ Ok b → second ≡ Ok c → holds ≡ is_boolean p.type → r ≡ (if holds then Ok (stmts.If p.expr b c) else Err (faults.Rule 17))
    → Keeps cs (if_by value first second (names_at cs ls)) ls r
if_kept cs ls value p first second b c holds r e f g h is =
    kept cs ls (if_by value first second (names_at cs ls)) 17 holds (is_boolean p.type) (stmts.If p.expr b c) r
    (ap (λ (z : Elab). if_by z first second (names_at cs ls)) e
    ∙ ap (λ (z : Told Block). z >>= λ b. second >>= λ c. ruled (needs 17 (is_boolean p.type) (placed (names_at cs ls) (stmts.If p.expr b c)))) f
    ∙ ap (λ (z : Told Block). z >>= λ c. ruled (needs 17 (is_boolean p.type) (placed (names_at cs ls) (stmts.If p.expr b c)))) g) h is
