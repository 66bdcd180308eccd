-- Rows that come late: what the lists of a table find where a class is declared, filled, or taken back.
use Rattle.std.proofs.Common.{◌≡◌, ◌≢◌, ℕ, ◌-◌, ◌<◌, List, [], ◌∷◌, ◌++◌, length, Option, Some, None, IsSome, slice_get, is_some, refl, sym, ap, ◌∙◌, subst, arith, length-append}
use Rattle.std.specs.Prelude.{slice_set}
use Rattle.std.specs.Option.{option_or, option_flatten}
use Rattle.std.proofs.lemmas.Option.{slice_get_within, slice_get_past}
use Rattle.som_tables.specs.Rows.{Added, row_at, HasRow, HaveRows, HaveRowsBelow, IsDeclared, GivesRow, inherited, replaced_at, own_at}
use Rattle.som_tables.proofs.Options.{none_is_not_some, slice_get-append_left, slice_get-push, slice_get-set_same, slice_get-set_other, found-declare}
use Rattle.som_tables.proofs.Inherited.{Filled, first_some_equal, inherited_equal, inherited_none}

-- a declared class has no row, and what had a row has it
pub row_at-declare : {C : Type 0} (cs : List (Option (Added C))) (c : ℕ) → row_at (cs ++ None ∷ []) c ≡ row_at cs c
row_at-declare cs c = found-declare cs c

found-within : {X : Type 0} (xs : List (Option X)) (c : ℕ) (o : Option (Option X)) → slice_get xs c ≡ o → IsSome (option_flatten o) → c < length xs
found-within {X} xs c None e h = absurd (none_is_not_some {A = X} None refl h)
found-within xs c (Some x) e h = slice_get_within xs c x e

-- a class that has a row is among the numbered ones
pub HasRow-within : {C : Type 0} (cs : List (Option (Added C))) (c : ℕ) → HasRow cs c → c < length cs
HasRow-within cs c has = found-within cs c (slice_get cs c) refl has

-- what had a row has it with one more class
pub HasRow-push : {C : Type 0} (cs : List (Option (Added C))) (o : Option (Added C)) (c : ℕ) → HasRow cs c → HasRow (cs ++ o ∷ []) c
HasRow-push cs o c has = subst (λ x. IsSome x) (sym (ap option_flatten (slice_get-append_left cs (o ∷ []) c (HasRow-within cs c has)))) has

-- a class that is added has its row
pub HasRow-last : {C : Type 0} (cs : List (Option (Added C))) (a : Added C) (c : ℕ) → length cs ≡ c → HasRow (cs ++ Some a ∷ []) c
HasRow-last cs a c e = ap (λ o. is_some (option_flatten o)) (slice_get-push cs (Some a) c e)

-- parents with rows have lower numbers than the next class
pub HaveRowsBelow-next : {C : Type 0} (cs : List (Option (Added C))) (ps : List ℕ) → HaveRows cs ps → HaveRowsBelow (length cs) cs ps
HaveRowsBelow-next cs [] all = tt
HaveRowsBelow-next cs (p ∷ ps) all = ((HasRow-within cs p all.0, all.0), HaveRowsBelow-next cs ps all.1)

-- a class that is filled has its row, and nothing else changed
pub Filled-set : {C : Type 0} (cs : List (Option (Added C))) (n : ℕ) (a : Added C) → IsDeclared cs n → Filled cs (slice_set cs n (Some a)) n a
Filled-set cs n a declared = record {
  was = ap option_flatten declared;
  is = ap option_flatten (slice_get-set_same cs n (Some a) (slice_get_within cs n None declared));
  others = λ c ne. ap option_flatten (slice_get-set_other cs n c (Some a) ne);
}

-- the class that was declared last has no row
pub row_at-last_declared : {C : Type 0} (cs : List (Option (Added C))) → row_at (cs ++ None ∷ []) (length (cs ++ None ∷ []) - 1) ≡ None
row_at-last_declared cs =
    let none : Option (Added _) = None in
    found-declare cs (length (cs ++ none ∷ []) - 1) ∙ ap option_flatten (slice_get_past cs (length (cs ++ none ∷ []) - 1) (omega (arith, length-append cs (none ∷ []))))

-- a row that rows give is given by equal rows too, whatever classes have none
pub GivesRow_equal : {C : Type 0} (cs ds es : List (Option (Added C))) (n : ℕ) (a : Added C) → ((c : ℕ) → row_at ds c ≡ row_at cs c) → GivesRow ds es n a → GivesRow cs es n a
GivesRow_equal cs ds es n a same gives t = gives t
    ∙ ap (λ o. option_or (replaced_at a.replaced t) (option_or (own_at n a.introduced t) o)) (first_some_equal (λ p. inherited ds p t) (λ p. inherited cs p t) a.parents (λ p. inherited_equal cs ds same p t))

-- a class that was declared is declared still with one more class
pub IsDeclared-push : {C : Type 0} (cs : List (Option (Added C))) (o : Option (Added C)) (c : ℕ) → IsDeclared cs c → IsDeclared (cs ++ o ∷ []) c
IsDeclared-push cs o c is = slice_get-append_left cs (o ∷ []) c (slice_get_within cs c None is) ∙ is

pub IsDeclared-last : {C : Type 0} (cs : List (Option (Added C))) (c : ℕ) → length cs ≡ c → IsDeclared (cs ++ None ∷ []) c
IsDeclared-last cs c e = slice_get-push cs None c e

-- and where another is filled
pub IsDeclared-set : {C : Type 0} (cs : List (Option (Added C))) (n : ℕ) (o : Option (Added C)) (c : ℕ) → c ≢ n → IsDeclared cs c → IsDeclared (slice_set cs n o) c
IsDeclared-set cs n o c ne is = slice_get-set_other cs n c o ne ∙ is

-- before it is filled it has no cell
pub IsDeclared-none : {C : Type 0} (cs : List (Option (Added C))) (c : ℕ) (t : ℕ × ℕ) → IsDeclared cs c → inherited cs c t ≡ None
IsDeclared-none cs c t is = inherited_none cs c t (ap option_flatten is)

-- a class that is filled has a row, and so has what had one
pub HasRow-set_same : {C : Type 0} (cs : List (Option (Added C))) (n : ℕ) (a : Added C) → IsDeclared cs n → HasRow (slice_set cs n (Some a)) n
HasRow-set_same cs n a declared = ap (λ o. is_some o) ((Filled-set cs n a declared).is)

pub HasRow-set : {C : Type 0} (cs : List (Option (Added C))) (n : ℕ) (a : Added C) (c : ℕ) → IsDeclared cs n → HasRow cs c → HasRow (slice_set cs n (Some a)) c
HasRow-set cs n a c declared has =
    let other : c ≢ n = λ e. none_is_not_some (row_at cs c) (ap (row_at cs) e ∙ ap option_flatten declared) has in
    subst (λ o. IsSome o) (sym ((Filled-set cs n a declared).others c other)) has
